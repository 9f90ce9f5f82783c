-- Bytes are handed in to a container: when they can be, and what the parts stand for then.
use Rattle.std.proofs.Common.{◌≡◌, ℕ, ◌≤◌, refl, sym, ◌∙◌, ap, subst, Bool, true, false, ◌&&◌, ◌||◌, nat_lt, List, ◌++◌, Option, Some, None, Result, Ok, Err, IsErrAnd, if◌then◌else◌, is_some, length, append-nil, arith, IfSome}
use Rattle.std.proofs.Math.Bool.{and-true}
use Rattle.std.proofs.lemmas.Result.{err_from_is_err_and}
use Rattle.std.specs.Option.{option_map}
use Rattle.mr_ids.specs.declared.id.TaskKind.{TaskKind}
use Rattle.mr_ids.specs.declared.id.TaskKind.TheVariants as kind
use Rattle.mr_mapside.specs.Cutting.{cut}
use Rattle.mr_packet.specs.declared.bag.TheConstants.{MAX_PACKETS}
use Rattle.mr_container.specs.declared.place.Place.{Place}
use Rattle.mr_container.specs.Past.{Computes as Computed}
use Rattle.mr_container.specs.Readings.{Seen, is_computing, next_seen, with_result}
use Rattle.mr_container.specs.State as container
use Rattle.mr_container.proofs.Standing as containers
use Rattle.mr_node.specs.Past.{Shelves as Shelved}
use Rattle.mr_node.specs.State as node
use Rattle.mr_node.proofs.Standing as node_machines
use Rattle.mr_world_model.specs.Ids.{ContainerId, of_reduces}
use Rattle.mr_world_model.specs.Packets.{Config}
use Rattle.mr_world_model.specs.World.{World, Compute, call_of, wish_of}
use Rattle.mr_world_model.specs.Effect.{effect, not_now, unless, NoContainer, WrongWish, NotBlocks, wants_compute}
use Rattle.mr_world_model.specs.Sending.{sent}
use Rattle.mr_world_model.specs.Actors.{is_finished}
use Rattle.mr_world_model.proofs.Acts.{containers_act, maps_act}
use Rattle.mr_world_model.proofs.Stored.{stores_go_on}
use Rattle.mr_world_model.proofs.Places.{places_are_nodes}
use Rattle.mr_master_refinement.proofs.Stores.{masters_go_on}
use Rattle.mr_world_actors.specs.declared.living.Living.{Living}
use Rattle.mr_world_actors.specs.declared.nodes.Nodes.{Nodes}
use Rattle.mr_world_actors.specs.Living.{kept, Changes, stepped}
use Rattle.mr_world_actors.specs.Nodes.{node_of, node_stepped, ChangesNode, SameNodes}
use Rattle.mr_world_state.specs.declared.fault.WorldFault.{WorldFault}
use Rattle.mr_world_state.specs.declared.fault.WorldFault.TheVariants as fault
use Rattle.mr_world_state.specs.declared.parts.Parts.{Parts}
use Rattle.mr_world_state.specs.inner.Computing.{fault_by, bytes_fault, unless_fault, Computes}
use Rattle.mr_world_state.specs.Limits.{within, fits_bytes, fits_bag, fits_counted}
use Rattle.mr_world_state.specs.Standing.{Standing, IsTaken, Refuses, Foresees, RefusesEvent}
use Rattle.mr_world_state.proofs.Refusals.{bag-fits, refuses-now}
use Rattle.mr_world_state.proofs.Saying.{says}
use Rattle.mr_world_state.proofs.Frames.{rests, living-moved, nodes-moved, nodes-stay}

-- ---- where no node went on

pub nodes-same : (p : Parts) (w : World) (nodes : Nodes) → SameNodes p.nodes nodes → Standing p w → Standing (record p { nodes = nodes }) w
nodes-same p w nodes is s = record {
  reached = s.reached;
  dest = s.dest;
  stores = s.stores;
  bag = s.bag;
  living = s.living;
  nodes = record { there = λ n. ap is_some (is n) ∙ s.nodes.there n; machines = λ n m o. s.nodes.machines n m (sym (is n) ∙ o) };
  masters = s.masters;
  launched = s.launched;
}

-- ---- the container goes on

abbrev handed : container.Container → List ℕ → container.Container
handed m bytes = container.after m (Computed bytes)

goes-on : (k : TaskKind) (s : Seen) (bytes : List ℕ) → is_finished (with_result k s bytes).wish ≡ false
goes-on kind.Map s bytes = refl
goes-on kind.Reduce s bytes = refl

lives-on : (m : container.Container) (bytes : List ℕ) → is_computing m.seen.wish ≡ true → is_finished (handed m bytes).seen.wish ≡ false
unfolding next_seen
lives-on m bytes e = rw e (goes-on m.place.attempt.task.kind m.seen bytes)

changed-to : (p : Parts) (c : ContainerId) (m : container.Container) (bytes : List ℕ) (living : Living) → kept p.living c ≡ Some m → is_computing m.seen.wish ≡ true → Changes p.living c (stepped p.living c (Computed bytes)) living
    → Changes p.living c (if is_finished (handed m bytes).seen.wish then None else Some (handed m bytes)) living
changed-to p c m bytes living there wish is = subst (λ o. Changes p.living c o living)
    (ap (λ (o : Option container.Container). option_map (λ (n : container.Container). container.after n (Computed bytes)) o) there ∙ ap (λ (b : Bool). if b then None else Some (handed m bytes)) (sym (lives-on m bytes wish))) is

reduce-stands-at : (p : Parts) (w : World) (c : ContainerId) (bytes : List ℕ) (m : container.Container) (living : Living) → Standing p w → IsTaken p.config w (Compute c bytes) → kept p.living c ≡ Some m
    → m.place.attempt.task.kind ≡ kind.Reduce → is_computing m.seen.wish ≡ true → Changes p.living c (stepped p.living c (Computed bytes)) living → Standing (record p { living = living }) (effect p.config w (Compute c bytes))
reduce-stands-at p w c bytes m living s t there k wish is =
    let g = containers_act.computes p.config w c bytes m (handed m bytes) (ap of_reduces k) wish (s.living.machines c m there) (containers.stands_after m (handed m bytes) (Computed bytes) refl) in
    rests p w (Compute c bytes) p.names living p.bag p.nodes s t refl (masters_go_on.rests p.config w (Compute c bytes) refl) (stores_go_on.rests p.config w p.names p.history (Compute c bytes) s.stores refl)
    (living-moved c m (handed m bytes) there g.moved (changed-to p c m bytes living there wish is) s.living) (nodes-stay g.nodes (λ n. refl) s.nodes)
    (sym (append-nil p.bag.packets) ∙ ap (λ es. p.bag.packets ++ es) (sym g.sends))

some-node : (o : Option node.Node) → is_some o ≡ true → (m : node.Node) × (o ≡ Some m)
some-node (Some m) e = (m, refl)
some-node None e = cc

-- its node is one of the cluster's
node-there : (p : Parts) (w : World) (c : ContainerId) (m : container.Container) → Standing p w → kept p.living c ≡ Some m → is_some (node_of p.nodes m.place.node) ≡ true
node-there p w c m s there = s.nodes.there m.place.node
    ∙ subst (λ (u : World). u.place c ≡ Some m.place → nat_lt m.place.node p.config.nodes ≡ true) s.reached.is (places_are_nodes p.config (within p.config) s.reached.events c m.place) (says p w c m s there).place

map-stands-on : (p : Parts) (w : World) (c : ContainerId) (bytes : List ℕ) (m : container.Container) (on : node.Node) (living : Living) (nodes : Nodes) → Standing p w → IsTaken p.config w (Compute c bytes) → kept p.living c ≡ Some m
    → m.place.attempt.task.kind ≡ kind.Map → is_computing m.seen.wish ≡ true → node_of p.nodes m.place.node ≡ Some on → Changes p.living c (stepped p.living c (Computed bytes)) living
    → ChangesNode p.nodes m.place.node (Some (node.after on (Shelved m.place.attempt bytes))) nodes → Standing (record p { living = living; nodes = nodes }) (effect p.config w (Compute c bytes))
map-stands-on p w c bytes m on living nodes s t there k wish here is ns =
    let g = maps_act p.config w c bytes m (handed m bytes) on (node.after on (Shelved m.place.attempt bytes)) (ap of_reduces k) wish (s.living.machines c m there) (containers.stands_after m (handed m bytes) (Computed bytes) refl)
    (s.nodes.machines m.place.node on here) (node_machines.stands_after on (node.after on (Shelved m.place.attempt bytes)) (Shelved m.place.attempt bytes) refl) in
    rests p w (Compute c bytes) p.names living p.bag nodes s t refl (masters_go_on.rests p.config w (Compute c bytes) refl) (stores_go_on.rests p.config w p.names p.history (Compute c bytes) s.stores refl)
    (living-moved c m (handed m bytes) there g.moved (changed-to p c m bytes living there wish is) s.living) (nodes-moved m.place.node on (node.after on (Shelved m.place.attempt bytes)) here g.node ns s.nodes)
    (sym (append-nil p.bag.packets) ∙ ap (λ es. p.bag.packets ++ es) (sym g.sends))

map-stands-at : (p : Parts) (w : World) (c : ContainerId) (bytes : List ℕ) (m : container.Container) (living : Living) (nodes : Nodes) → Standing p w → IsTaken p.config w (Compute c bytes) → kept p.living c ≡ Some m
    → m.place.attempt.task.kind ≡ kind.Map → is_computing m.seen.wish ≡ true → Changes p.living c (stepped p.living c (Computed bytes)) living
    → ChangesNode p.nodes m.place.node (node_stepped p.nodes m.place.node (Shelved m.place.attempt bytes)) nodes → Standing (record p { living = living; nodes = nodes }) (effect p.config w (Compute c bytes))
map-stands-at p w c bytes m living nodes s t there k wish is ns = let n = some-node (node_of p.nodes m.place.node) (node-there p w c m s there) in
    map-stands-on p w c bytes m n.0 living nodes s t there k wish n.1 is
    (subst (λ o. ChangesNode p.nodes m.place.node o nodes) (ap (λ (o : Option node.Node). option_map (λ (x : node.Node). node.after x (Shelved m.place.attempt bytes)) o) n.1) ns)

-- of the container that was found
pub reduce-stands : (p : Parts) (c : ContainerId) (bytes : List ℕ) (place : Place) (living : Living) → Computes (kept p.living c) place → place.attempt.task.kind ≡ kind.Reduce → Changes p.living c (stepped p.living c (Computed bytes)) living
    → (w : World) → Standing p w → IsTaken p.config w (Compute c bytes) → Standing (record p { living = living }) (effect p.config w (Compute c bytes))
reduce-stands p c bytes place living x k is w s t = reduce-stands-at p w c bytes x.machine living s t x.there (ap (λ (q : Place). q.attempt.task.kind) x.place ∙ k) x.wish is

pub map-stands : (p : Parts) (c : ContainerId) (bytes : List ℕ) (place : Place) (living : Living) (nodes : Nodes) → Computes (kept p.living c) place → place.attempt.task.kind ≡ kind.Map → Changes p.living c (stepped p.living c (Computed bytes)) living
    → ChangesNode p.nodes place.node (node_stepped p.nodes place.node (Shelved place.attempt bytes)) nodes
    → (w : World) → Standing p w → IsTaken p.config w (Compute c bytes) → Standing (record p { living = living; nodes = nodes }) (effect p.config w (Compute c bytes))
map-stands p c bytes place living nodes x k is ns w s t = map-stands-at p w c bytes x.machine living nodes s t x.there (ap (λ (q : Place). q.attempt.task.kind) x.place ∙ k) x.wish is
    (subst (λ (q : Place). ChangesNode p.nodes q.node (node_stepped p.nodes q.node (Shelved q.attempt bytes)) nodes) (sym x.place) ns)

-- ---- when they can be

pub absent : (p : Parts) (c : ContainerId) (bytes : List ℕ) → kept p.living c ≡ None → (w : World) → Standing p w → RefusesEvent p.config w (Compute c bytes) (fault.NotNow NoContainer)
unfolding not_now
absent p c bytes e w s = let dead : w.is_alive c ≡ false = sym (s.living.alive c) ∙ ap is_some e in refuses-now _ _ (rw dead refl)

pub wrong-wish : (p : Parts) (c : ContainerId) (bytes : List ℕ) (m : container.Container) → kept p.living c ≡ Some m → is_computing m.seen.wish ≡ false → (w : World) → Standing p w
    → RefusesEvent p.config w (Compute c bytes) (fault.NotNow WrongWish)
unfolding not_now
wrong-wish p c bytes m there other_wish w s = let alive : w.is_alive c ≡ true = sym (s.living.alive c) ∙ ap is_some there in
    let other : wants_compute (wish_of p.config w c) ≡ false = (says p w c m s there).computes ∙ other_wish in refuses-now _ _ (rw (alive, other) refl)

now-is : (p : Parts) (w : World) (c : ContainerId) (bytes : List ℕ) (m : container.Container) → Standing p w → kept p.living c ≡ Some m → is_computing m.seen.wish ≡ true
    → not_now p.config w (Compute c bytes) ≡ unless (of_reduces m.place.attempt.task.kind || is_some (cut p.config.reduces bytes)) NotBlocks None
unfolding not_now
now-is p w c bytes m s there wish = let alive : w.is_alive c ≡ true = sym (s.living.alive c) ∙ ap is_some there in
    let wants : wants_compute (wish_of p.config w c) ≡ true = (says p w c m s there).computes ∙ wish in rw (alive, wants, (says p w c m s there).place) refl

sends-none : (cfg : Config) (w : World) (c : ContainerId) (bytes : List ℕ) → length (sent cfg w (Compute c bytes)) ≡ 0
unfolding sent
sends-none cfg w c bytes = refl

within-is : (p : Parts) (w : World) (c : ContainerId) (bytes : List ℕ) (m : container.Container) → Standing p w → kept p.living c ≡ Some m → length p.bag.packets ≤ MAX_PACKETS
    → within p.config w (Compute c bytes) ≡ fits_bytes (Some m.place) (length bytes)
unfolding within call_of
within-is p w c bytes m s there few =
    let room : fits_bag p.config w (Compute c bytes) ≡ true = bag-fits p w (Compute c bytes) 0 s (sends-none p.config w c bytes) (omega (arith, few)) in
    ap (λ b. fits_bytes (w.place c) (length bytes) && b) room ∙ (and-true _ ∙ ap (λ o. fits_bytes o (length bytes)) (says p w c m s there).place)

counted-is : (p : Parts) (w : World) (c : ContainerId) (bytes : List ℕ) (m : container.Container) → Standing p w → kept p.living c ≡ Some m → length p.bag.packets ≤ MAX_PACKETS
    → fits_counted p.config w (Compute c bytes) ≡ fits_bytes (Some m.place) (length bytes)
counted-is p w c bytes m s there few =
    let room : fits_bag p.config w (Compute c bytes) ≡ true = bag-fits p w (Compute c bytes) 0 s (sends-none p.config w c bytes) (omega (arith, few)) in
    ap (λ b. fits_bytes (w.place c) (length bytes) && b) room ∙ (and-true _ ∙ ap (λ o. fits_bytes o (length bytes)) (says p w c m s there).place)

judged : (k : TaskKind) (blocks small short : Bool) (e : WorldFault) → Err e ≡ unless_fault (fault_by k blocks small short) → Refuses (unless (of_reduces k || blocks) NotBlocks None) (if of_reduces k then short else small) (if of_reduces k then short else small) e
judged kind.Map true true short e is = cc
judged kind.Map true false short e is = cc
judged kind.Map false small short e is = cc
judged kind.Reduce blocks small true e is = cc
judged kind.Reduce blocks small false e is = cc

passed : (k : TaskKind) (blocks small short : Bool) → Ok tt ≡ unless_fault (fault_by k blocks small short) → (unless (of_reduces k || blocks) NotBlocks None ≡ None) × ((if of_reduces k then short else small) ≡ true)
passed kind.Map true true short is = (refl, refl)
passed kind.Map true false short is = cc
passed kind.Map false small short is = cc
passed kind.Reduce blocks small true is = (refl, refl)
passed kind.Reduce blocks small false is = cc

pub refused : (p : Parts) (c : ContainerId) (bytes : List ℕ) (m : container.Container) (e : WorldFault) → kept p.living c ≡ Some m → is_computing m.seen.wish ≡ true → length p.bag.packets ≤ MAX_PACKETS
    → Err e ≡ unless_fault (bytes_fault m.place.attempt.task.kind p.config.reduces bytes) → (w : World) → Standing p w → RefusesEvent p.config w (Compute c bytes) e
refused p c bytes m e there wish few is w s = subst (λ o. Refuses o (within p.config w (Compute c bytes)) (fits_counted p.config w (Compute c bytes)) e) (sym (now-is p w c bytes m s there wish))
    (subst (λ b. Refuses (unless (of_reduces m.place.attempt.task.kind || is_some (cut p.config.reduces bytes)) NotBlocks None) b (fits_counted p.config w (Compute c bytes)) e) (sym (within-is p w c bytes m s there few))
    (subst (λ b. Refuses (unless (of_reduces m.place.attempt.task.kind || is_some (cut p.config.reduces bytes)) NotBlocks None) (fits_bytes (Some m.place) (length bytes)) b e) (sym (counted-is p w c bytes m s there few))
    (judged m.place.attempt.task.kind (is_some (cut p.config.reduces bytes)) _ _ e is)))

pub taken : (p : Parts) (c : ContainerId) (bytes : List ℕ) (m : container.Container) → kept p.living c ≡ Some m → is_computing m.seen.wish ≡ true → length p.bag.packets ≤ MAX_PACKETS
    → Ok tt ≡ unless_fault (bytes_fault m.place.attempt.task.kind p.config.reduces bytes) → (w : World) → Standing p w → IsTaken p.config w (Compute c bytes)
taken p c bytes m there wish few is w s = let q = passed m.place.attempt.task.kind (is_some (cut p.config.reduces bytes)) _ _ is in record {
  now = now-is p w c bytes m s there wish ∙ q.0;
  fits = within-is p w c bytes m s there few ∙ q.1;
}

pub fault-foreseen : (p : Parts) (c : ContainerId) (bytes : List ℕ) (r : Result Place WorldFault) (e : WorldFault) → ((w : World) → Standing p w → RefusesEvent p.config w (Compute c bytes) e)
    → IsErrAnd r (λ g. g ≡ e) → Foresees p (Compute c bytes) r
fault-foreseen p c bytes r e why g = let q = err_from_is_err_and r g in
    subst (λ (z : Result Place WorldFault). Foresees {A = Place} p (Compute c bytes) z) (sym q.1) (subst (λ x. Foresees {A = Place} p (Compute c bytes) (Err x)) (sym q.2) why)

pub map-kind : (o : Option container.Container) (place : Place) → Computes o place → place.attempt.task.kind ≡ kind.Map → IfSome o (λ m. m.place.attempt.task.kind ≡ kind.Map)
map-kind o place x k = subst (λ (z : Option container.Container). IfSome z (λ m. m.place.attempt.task.kind ≡ kind.Map)) (sym x.there) (ap (λ (q : Place). q.attempt.task.kind) x.place ∙ k)
