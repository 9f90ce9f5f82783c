-- A node restarts: when it can, and what the parts stand for then.
use Rattle.std.proofs.Common.{◌≡◌, ℕ, zero, suc, ◌+◌, ◌-◌, ◌^◌, ◌<◌, refl, sym, ◌∙◌, ap, subst, Bool, true, false, ◌&&◌, not, nat_eq, nat_lt, List, [], ◌∷◌, ◌++◌, append-nil, length-append, ◌≤◌, Option, Some, None, if◌then◌else◌, is_some, length, arith}
use Rattle.std.proofs.lemmas.Bool.{lt-ltb}
use Rattle.std.proofs.lemmas.Bool.Decides.{nat_tests}
use Rattle.std.specs.Option.{option_map}
use Rattle.mr_packet.specs.Bag.{Held}
use Rattle.mr_packet.specs.declared.bag.TheConstants.{MAX_PACKETS}
use Rattle.mr_packet.specs.declared.packet.Packet.{Packet}
use Rattle.mr_packet.specs.declared.packet.Packet.TheVariants.{NodeUp}
use Rattle.mr_packet.specs.declared.packet.Envelope.{Envelope}
use Rattle.mr_container.specs.State as container
use Rattle.mr_node.specs.Past.{Restarts}
use Rattle.mr_node.specs.Readings.{Seen}
use Rattle.mr_node.specs.State as node
use Rattle.mr_node.proofs.Standing.{stands_after}
use Rattle.mr_world_model.specs.Ids.{ContainerId}
use Rattle.mr_world_model.specs.Packets.{Config}
use Rattle.mr_world_model.specs.Pasts.{Place, incarnation_of}
use Rattle.mr_world_model.specs.World.{World, NodeRestart, call_of, is_on}
use Rattle.mr_world_model.specs.Effect.{effect, not_now, NoNode}
use Rattle.mr_world_model.specs.Sending.{sent, to_app, to_masters}
use Rattle.mr_world_model.specs.Acts as acts
use Rattle.mr_world_model.proofs.Acts.{nodes_act}
use Rattle.mr_world_model.proofs.Basic.{unless_parts}
use Rattle.mr_world_model.proofs.Nodes.{nodes_agree}
use Rattle.mr_world_model.proofs.Stored.{stores_go_on}
use Rattle.mr_master_refinement.proofs.Stores.{masters_go_on}
use Rattle.mr_world_actors.specs.declared.living.Living.{Living}
use Rattle.mr_world_actors.specs.declared.nodes.Nodes.{Nodes}
use Rattle.mr_world_actors.specs.Living.{kept, unless_on}
use Rattle.mr_world_actors.specs.Nodes.{node_of, node_stepped, ChangesNode}
use Rattle.mr_world_state.specs.declared.fault.WorldFault.TheVariants as fault
use Rattle.mr_world_state.specs.declared.parts.Parts.{Parts}
use Rattle.mr_world_state.specs.Limits.{within, fits_counted, fits_bag}
use Rattle.mr_world_state.specs.Machines.{master_of}
use Rattle.mr_world_state.specs.Standing.{Standing, IsTaken, LivingStand, RefusesEvent}
use Rattle.mr_world_state.proofs.Frames.{rests, nodes-moved}
use Rattle.mr_world_state.proofs.Refusals.{NeedsRoom, refuses-now, refuses-full, taken-by}
use Rattle.mr_world_state.proofs.Saying.{says}

-- ---- who is told

told-same : (f g : ℕ → Bool) → ((k : ℕ) → f k ≡ g k) → (n : ℕ) (p : Packet) → to_masters f n p ≡ to_masters g n p
unfolding to_masters
told-same f g same zero p = refl
told-same f g same (suc n) p = rw (told-same f g same n p, same (suc n)) refl

abbrev letter : Bool → ℕ → Packet → Option Envelope
letter b k p = if b then Some (to_app k p) else None

told-one : (b : Bool) (k : ℕ) (p : Packet) (e : Envelope) → Some e ≡ letter b k p → e ∷ [] ≡ (if b then to_app k p ∷ [] else [])
told-one true k p e is = cc
told-one false k p e is = cc

told-none : (b : Bool) (k : ℕ) (p : Packet) → None ≡ letter b k p → [] ≡ (if b then to_app k p ∷ [] else [])
told-none true k p is = cc
told-none false k p is = refl

pub none-told : (f : ℕ → Bool) (p : Packet) → [] ≡ to_masters f 0 p
unfolding to_masters
none-told f p = refl

-- one generation more
more-told : (f : ℕ → Bool) (k : ℕ) (p : Packet) (es : List Envelope) (e : Envelope) → es ≡ to_masters f k p → Some e ≡ letter (f (suc k)) (suc k) p → es ++ e ∷ [] ≡ to_masters f (suc k) p
unfolding to_masters
more-told f k p es e is some = ap (λ xs. xs ++ e ∷ []) is ∙ ap (λ xs. to_masters f k p ++ xs) (told-one (f (suc k)) (suc k) p e some)

same-told : (f : ℕ → Bool) (k : ℕ) (p : Packet) (es : List Envelope) → es ≡ to_masters f k p → None ≡ letter (f (suc k)) (suc k) p → es ≡ to_masters f (suc k) p
unfolding to_masters
same-told f k p es is none = is ∙ (sym (append-nil (to_masters f k p)) ∙ ap (λ xs. to_masters f k p ++ xs) (told-none (f (suc k)) (suc k) p none))

pub one-more : (f : ℕ → Bool) (k j : ℕ) (p : Packet) (es : List Envelope) (e : Envelope) → j ≡ suc k → es ≡ to_masters f k p → Some e ≡ letter (f j) j p → es ++ e ∷ [] ≡ to_masters f j p
one-more f k j p es e next is = subst (λ i. Some e ≡ letter (f i) i p → es ++ e ∷ [] ≡ to_masters f i p) (sym next) (more-told f k p es e is)

pub no-more : (f : ℕ → Bool) (k j : ℕ) (p : Packet) (es : List Envelope) → j ≡ suc k → es ≡ to_masters f k p → None ≡ letter (f j) j p → es ≡ to_masters f j p
no-more f k j p es next is = subst (λ i. None ≡ letter (f i) i p → es ≡ to_masters f i p) (sym next) (same-told f k p es is)

-- ---- how many are told

-- so many as are alive
abbrev pub Count : (ℕ → Bool) → ℕ → ℕ → Type 0
Count f k n = (n ≤ k) × ((p : Packet) → n ≡ length (to_masters f k p))

pub none-counted : (f : ℕ → Bool) → Count f 0 0
unfolding to_masters
none-counted f = (omega arith, λ p. refl)

one-if : (b : Bool) (k : ℕ) (p : Packet) → length (if b then to_app k p ∷ [] else []) ≡ (if b then 1 else 0)
one-if true k p = refl
one-if false k p = refl

more-counted : (f : ℕ → Bool) (k n : ℕ) → Count f k n → Count f (suc k) (n + (if f (suc k) then 1 else 0))
unfolding to_masters
more-counted f k n is = (by (f (suc k)), λ p. omega (arith, is.1 p, length-append (to_masters f k p) (if f (suc k) then to_app (suc k) p ∷ [] else []), one-if (f (suc k)) (suc k) p))
  where
    by : (b : Bool) → n + (if b then 1 else 0) ≤ suc k
    by true = omega (arith, is.0)
    by false = omega (arith, is.0)

pub one-counted : (f : ℕ → Bool) (k j n : ℕ) → j ≡ suc k → Count f k n → f j ≡ true → Count f j (n + 1)
one-counted f k j n next is e = subst (λ i. f i ≡ true → Count f i (n + 1)) (sym next) (λ b. subst (λ (b : Bool). Count f (suc k) (n + (if b then 1 else 0))) b (more-counted f k n is)) e

pub none-more : (f : ℕ → Bool) (k j n : ℕ) → j ≡ suc k → Count f k n → f j ≡ false → Count f j n
none-more f k j n next is e = let same : n + 0 ≡ n = omega arith in
    subst (λ i. f i ≡ false → Count f i n) (sym next) (λ b. subst (λ m. Count f (suc k) m) same (subst (λ (b : Bool). Count f (suc k) (n + (if b then 1 else 0))) b (more-counted f k n is))) e

-- ---- what is sent

incarnation-is : (p : Parts) (w : World) (n : ℕ) (m : node.Node) → Standing p w → node_of p.nodes n ≡ Some m → incarnation_of (w.node_past n) ≡ m.seen.incarnation
incarnation-is p w n m s at = nodes_agree.incarnations p.config.reduces (w.node_past n) ∙ ap (λ (x : Seen). x.incarnation) (sym (s.nodes.machines n m at).seen)

-- the living masters are told of the node's next incarnation
abbrev pub Told : Parts → ℕ → node.Node → List Envelope → Type 0
Told p n m packets = packets ≡ to_masters (λ k. is_some (master_of p.masters k)) p.names.fence (NodeUp n (m.seen.incarnation + 1))

pub told-by : (p : Parts) (n : ℕ) (m : node.Node) (packets : List Envelope) (newest i : ℕ) → newest ≡ p.names.fence → i ≡ m.seen.incarnation → packets ≡ to_masters (λ k. is_some (master_of p.masters k)) newest (NodeUp n (i + 1)) → Told p n m packets
told-by p n m packets newest i fence same is = is ∙ (ap (λ k. to_masters (λ j. is_some (master_of p.masters j)) k (NodeUp n (i + 1))) fence
    ∙ ap (λ j. to_masters (λ k. is_some (master_of p.masters k)) p.names.fence (NodeUp n (j + 1))) same)

pub told : (p : Parts) (n : ℕ) (m : node.Node) (packets : List Envelope) → node_of p.nodes n ≡ Some m → Told p n m packets → (w : World) → Standing p w → packets ≡ sent p.config w (NodeRestart n)
unfolding sent
told p n m packets at is w s = let next : m.seen.incarnation + 1 ≡ suc (incarnation_of (w.node_past n)) = omega (arith, incarnation-is p w n m s at) in
    is ∙ (told-same _ w.is_master s.masters.alive p.names.fence (NodeUp n (m.seen.incarnation + 1))
    ∙ (ap (λ k. to_masters w.is_master k (NodeUp n (m.seen.incarnation + 1))) s.stores.namespace.fence ∙ ap (λ i. to_masters w.is_master w.fence (NodeUp n i)) next))

-- ---- when it can

not-allowed : (cfg : Config) (w : World) (n : ℕ) → nat_lt n cfg.nodes ≡ false → not_now cfg w (NodeRestart n) ≡ Some NoNode
unfolding not_now
not-allowed cfg w n e = rw e refl

allowed : (cfg : Config) (w : World) (n : ℕ) → nat_lt n cfg.nodes ≡ true → not_now cfg w (NodeRestart n) ≡ None
unfolding not_now
allowed cfg w n e = rw e refl

is-there : (cfg : Config) (w : World) (n : ℕ) → not_now cfg w (NodeRestart n) ≡ None → nat_lt n cfg.nodes ≡ true
unfolding not_now
is-there cfg w n e = (unless_parts _ _ _ e).0

pub absent : (p : Parts) (n : ℕ) → is_some (node_of p.nodes n) ≡ false → (w : World) → Standing p w → RefusesEvent p.config w (NodeRestart n) (fault.NotNow NoNode)
absent p n none w s = refuses-now _ _ (not-allowed p.config w n (sym (s.nodes.there n) ∙ none))

pub present : (p : Parts) (n : ℕ) (m : node.Node) → node_of p.nodes n ≡ Some m → (w : World) → Standing p w → not_now p.config w (NodeRestart n) ≡ None
present p n m at w s = allowed p.config w n (sym (s.nodes.there n) ∙ ap is_some at)

limit-is : (cfg : Config) (w : World) (n : ℕ) → within cfg w (NodeRestart n) ≡ (nat_lt (incarnation_of (w.node_past n)) (2 ^ 32 - 1) && fits_bag cfg w (NodeRestart n))
unfolding within call_of
limit-is cfg w n = refl

not-less : (i j : ℕ) → i ≡ j → j ≡ 2 ^ 32 - 1 → nat_lt i (2 ^ 32 - 1) ≡ false
not-less i j e f = grind (arith, nat_tests, e, f)

less : (i j : ℕ) → i ≡ j → j < 2 ^ 32 - 1 → nat_lt i (2 ^ 32 - 1) ≡ true
less i j e l = lt-ltb i (2 ^ 32 - 1) (omega (arith, e, l))

-- in its last incarnation it can't
pub last : (p : Parts) (n : ℕ) (m : node.Node) → node_of p.nodes n ≡ Some m → m.seen.incarnation ≡ 2 ^ 32 - 1 → (w : World) → Standing p w
    → RefusesEvent p.config w (NodeRestart n) fault.Full
last p n m at is w s = refuses-full _ (present p n m at w s)
    (limit-is p.config w n ∙ ap (λ b. b && fits_bag p.config w (NodeRestart n)) (not-less _ _ (incarnation-is p w n m s at) is))

-- so many masters are told
abbrev pub TellsMany : Parts → ℕ → Type 0
TellsMany p count = (packet : Packet) → count ≡ length (to_masters (λ k. is_some (master_of p.masters k)) p.names.fence packet)

pub many-told : (p : Parts) (newest count : ℕ) → newest ≡ p.names.fence → ((packet : Packet) → count ≡ length (to_masters (λ k. is_some (master_of p.masters k)) newest packet)) → TellsMany p count
many-told p newest count fence is = subst (λ k. (packet : Packet) → count ≡ length (to_masters (λ j. is_some (master_of p.masters j)) k packet)) fence is

pub needs : (p : Parts) (n : ℕ) (m : node.Node) (count : ℕ) → node_of p.nodes n ≡ Some m → m.seen.incarnation < 2 ^ 32 - 1 → TellsMany p count
    → (w : World) → Standing p w → NeedsRoom p w (NodeRestart n) count
needs p n m count at l is w s = record {
  now = present p n m at w s;
  limit = limit-is p.config w n ∙ ap (λ b. b && fits_bag p.config w (NodeRestart n)) (less _ _ (incarnation-is p w n m s at) l);
  count = ap length (sym (told p n m _ at refl w s)) ∙ sym (is (NodeUp n (m.seen.incarnation + 1)));
}

-- that there is room is found out without memory
pub counted : (p : Parts) (n : ℕ) (m : node.Node) (count : ℕ) → node_of p.nodes n ≡ Some m → m.seen.incarnation < 2 ^ 32 - 1 → TellsMany p count → length p.bag.packets + count ≤ MAX_PACKETS
    → (w : World) → Standing p w → fits_counted p.config w (NodeRestart n) ≡ true
counted p n m count at l is room w s = sym (limit-is p.config w n) ∙ (taken-by s (needs p n m count at l is w s) room).fits

-- ---- what stands then

some-node : (o : Option node.Node) → is_some o ≡ true → (m : node.Node) × (o ≡ Some m)
some-node (Some m) e = (m, refl)
some-node None e = cc

ended : (n : ℕ) (o : Option container.Container) (place : Option Place) (a : Bool) → is_some o ≡ a → ((m : container.Container) → o ≡ Some m → place ≡ Some m.place) → is_some (unless_on n o) ≡ (a && not (is_on n place))
ended n None place false e at = refl
ended n None place true e at = cc
ended n (Some m) place false e at = cc
ended n (Some m) place true e at = rw (at m refl) (by (nat_eq m.place.node n) (nat_eq n m.place.node) (grind (arith, nat_tests)))
  where
    by : (b c : Bool) → b ≡ c → is_some (if b then None else Some m) ≡ not c
    by true true q = refl
    by false false q = refl
    by true false q = cc
    by false true q = cc

stayed : (n : ℕ) (o : Option container.Container) (m : container.Container) → unless_on n o ≡ Some m → o ≡ Some m
stayed n None m e = cc
stayed n (Some k) m e = by (nat_eq k.place.node n) e
  where
    by : (b : Bool) → (if b then None else Some k) ≡ Some m → Some k ≡ Some m
    by true e = cc
    by false e = e

living-stay : (p : Parts) (w : World) (n : ℕ) (m : node.Node) (living : Living) → Standing p w → acts.Restarts p.config w (effect p.config w (NodeRestart n)) n m (sent p.config w (NodeRestart n))
    → ((d : ContainerId) → kept living d ≡ unless_on n (kept p.living d)) → LivingStand p.config living (effect p.config w (NodeRestart n))
living-stay p w n m living s r is = record {
  alive = λ c. ap is_some (is c) ∙ (ended n (kept p.living c) (w.place c) (w.is_alive c) (s.living.alive c) (λ k at. (says p w c k s at).place) ∙ sym (r.living c));
  machines = λ c k o. r.machines c k (s.living.machines c k (stayed n (kept p.living c) k (sym (is c) ∙ o)));
}

abbrev anew : node.Node → node.Node
anew m = node.after m Restarts

pub stands : (p : Parts) (w : World) (n : ℕ) (living : Living) (bag : Held) (nodes : Nodes) → Standing p w → IsTaken p.config w (NodeRestart n)
    → ChangesNode p.nodes n (node_stepped p.nodes n Restarts) nodes → ((d : ContainerId) → kept living d ≡ unless_on n (kept p.living d)) → bag.packets ≡ p.bag.packets ++ sent p.config w (NodeRestart n)
    → Standing (record p { living = living; bag = bag; nodes = nodes }) (effect p.config w (NodeRestart n))
stands p w n living bag nodes s t changed ends b =
    let m = some-node (node_of p.nodes n) (s.nodes.there n ∙ is-there p.config w n t.now) in
    let r = nodes_act.restarts p.config w n m.0 (anew m.0) (s.nodes.machines n m.0 m.1) (stands_after m.0 (anew m.0) Restarts refl) in
    rests p w (NodeRestart n) p.names living bag nodes s t refl (masters_go_on.rests p.config w (NodeRestart n) refl) (stores_go_on.rests p.config w p.names p.history (NodeRestart n) s.stores refl)
    (living-stay p w n (anew m.0) living s r ends)
    (nodes-moved n m.0 (anew m.0) m.1 r.node (subst (λ o. ChangesNode p.nodes n o nodes) (ap (λ (o : Option node.Node). option_map (λ (x : node.Node). node.after x Restarts) o) m.1) changed) s.nodes)
    b
