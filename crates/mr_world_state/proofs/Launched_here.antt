-- A launch that comes to a node: whom it begins, and what is kept of the living then.
use Rattle.std.proofs.Common.{◌≡◌, ℕ, refl, sym, ◌∙◌, ap, subst, Bool, true, false, Option, Some, None, if◌then◌else◌, is_some, ◌==◌}
use Rattle.std.specs.Option.{option_map}
use Rattle.mr_packet.specs.declared.packet.Envelope.{Envelope}
use Rattle.mr_packet.specs.declared.packet.Packet.{Packet}
use Rattle.mr_packet.specs.declared.packet.Packet.TheVariants.{Launch, Kill}
use Rattle.mr_packet.specs.Same.{has}
use Rattle.mr_container.specs.declared.place.Place.{Place}
use Rattle.mr_container.specs.Readings.{opening}
use Rattle.mr_container.specs.State.{Container}
use Rattle.mr_node.specs.State as node
use Rattle.mr_node.specs.Readings.{reaction}
use Rattle.mr_node.specs.declared.reaction.Reaction.{Reaction}
use Rattle.mr_node.specs.declared.reaction.Reaction.TheVariants.{Nothing, Starts, Adds}
use Rattle.mr_world_model.specs.Ids.{Attempt, ContainerId, container_eq}
use Rattle.mr_world_model.specs.Acts.{begins, is_killed}
use Rattle.mr_world_model.proofs.Closed.{container_eq-true}
use Rattle.mr_world_actors.specs.declared.living.Living.{Living}
use Rattle.mr_world_actors.specs.declared.nodes.Nodes.{Nodes}
use Rattle.mr_world_actors.specs.Living.{kept, Changes}
use Rattle.mr_world_actors.specs.Nodes.{node_of, reaction_of}
use Rattle.mr_world_state.specs.inner.Serving.{begun_at, served, BeginsAnew}

-- a launch begins its own container, for its own attempt, or none
by-tests : (known same : Bool) (c e : ContainerId) (a b : Attempt) (x : Envelope) → Starts e b ≡ (if known then Nothing else if same then Starts c a else Adds x) → (e ≡ c) × (b ≡ a)
by-tests true same c e a b x is = cc
by-tests false true c e a b x is = (cc, cc)
by-tests false false c e a b x is = cc

pub launch-starts : (o : Option node.Node) (c e : ContainerId) (a b : Attempt) (i : ℕ) → Starts e b ≡ reaction_of o (Launch c a i) → (e ≡ c) × (b ≡ a)
unfolding reaction
launch-starts None c e a b i is = cc
launch-starts (Some m) c e a b i is = by-tests (has m.seen.known c) (i == m.seen.incarnation) c e a b _ is

begun-own : (r : Reaction) (o : Option node.Node) (c d : ContainerId) (a : Attempt) (i : ℕ) → r ≡ reaction_of o (Launch c a i) → begins r d ≡ true → d ≡ c
begun-own (Starts e b) o c d a i is t = container_eq-true d e t ∙ (launch-starts o c e a b i is).0
begun-own (Adds x) o c d a i is t = cc
begun-own Nothing o c d a i is t = cc

-- a container that lives is not begun
pub lives-on : (living : Living) (nodes : Nodes) (n maps : ℕ) (c : ContainerId) (a : Attempt) (i : ℕ) → is_some (kept living c) ≡ true → BeginsAnew living nodes n (Launch c a i)
    → (d : ContainerId) → kept living d ≡ served living nodes n maps (Launch c a i) d
lives-on living nodes n maps c a i lives anew d = by (begins (reaction_of (node_of nodes n) (Launch c a i)) d) refl
  where
    by : (b : Bool) → b ≡ begins (reaction_of (node_of nodes n) (Launch c a i)) d → kept living d ≡ (if b then begun_at (node_of nodes n) maps (reaction_of (node_of nodes n) (Launch c a i)) else kept living d)
    by true is = let own = begun-own (reaction_of (node_of nodes n) (Launch c a i)) (node_of nodes n) c d a i refl (sym is) in
        let none = anew d (sym is) in let there = ap (λ x. is_some (kept living x)) own ∙ lives in cc (ap is_some none, there)
    by false is = refl

-- the machine of a container that begins
abbrev fresh : ContainerId → Place → ℕ → Container
fresh c place maps = record { id = c; place = place; maps = maps; seen = opening maps place.attempt }

pub begun : (living : Living) (nodes : Nodes) (n maps : ℕ) (c e : ContainerId) (a b : Attempt) (i : ℕ) (place : Place) (new : Living)
    → Some place ≡ option_map (λ (m : node.Node). record { attempt = a; node = m.number; incarnation = m.seen.incarnation }) (node_of nodes n) → Starts e b ≡ reaction_of (node_of nodes n) (Launch c a i)
    → Changes living c (Some (fresh c place maps)) new → (d : ContainerId) → kept new d ≡ served living nodes n maps (Launch c a i) d
begun living nodes n maps c e a b i place new at starts ch d = ch d ∙ by (node_of nodes n) at starts
  where
    over : (m : node.Node) (r : Reaction) → Starts c a ≡ r → place ≡ record { attempt = a; node = m.number; incarnation = m.seen.incarnation }
        → (if container_eq d c then Some (fresh c place maps) else kept living d) ≡ (if begins r d then begun_at (Some m) maps r else kept living d)
    over m r s p = subst (λ z. (if container_eq d c then Some (fresh c place maps) else kept living d) ≡ (if begins z d then begun_at (Some m) maps z else kept living d)) s
        (ap (λ (z : Place). if container_eq d c then Some (fresh c z maps) else kept living d) p)

    by : (o : Option node.Node) → Some place ≡ option_map (λ (m : node.Node). record { attempt = a; node = m.number; incarnation = m.seen.incarnation }) o → Starts e b ≡ reaction_of o (Launch c a i)
        → (if container_eq d c then Some (fresh c place maps) else kept living d) ≡ (if begins (reaction_of o (Launch c a i)) d then begun_at o maps (reaction_of o (Launch c a i)) else kept living d)
    by None p s = cc
    by (Some m) p s = let q = launch-starts (Some m) c e a b i s in
        over m (reaction_of (Some m) (Launch c a i)) (subst (λ z. Starts z a ≡ reaction_of (Some m) (Launch c a i)) q.0 (subst (λ z. Starts e z ≡ reaction_of (Some m) (Launch c a i)) q.1 s)) (cc)

-- ---- other packets

no-begin-at-kill : (o : Option node.Node) (c d : ContainerId) → begins (reaction_of o (Kill c)) d ≡ false
unfolding reaction
no-begin-at-kill None c d = refl
no-begin-at-kill (Some m) c d = refl

pub killed : (living : Living) (nodes : Nodes) (n maps : ℕ) (c : ContainerId) (p : Packet) (new : Living) → p ≡ Kill c → Changes living c None new → (d : ContainerId) → kept new d ≡ served living nodes n maps p d
killed living nodes n maps c p new is ch d = subst (λ z. kept new d ≡ served living nodes n maps z d) (sym is)
    (ch d ∙ sym (ap (λ b. if b then begun_at (node_of nodes n) maps (reaction_of (node_of nodes n) (Kill c)) else (if container_eq d c then None else kept living d)) (no-begin-at-kill (node_of nodes n) c d)))

begins-none : (o : Option node.Node) (p : Packet) (d : ContainerId) → ((c : ContainerId) (a : Attempt) (i : ℕ) → p ≡ Launch c a i → ⊥) → begins (reaction_of o p) d ≡ false
unfolding reaction
begins-none None p d nl = refl
begins-none (Some m) (Launch c a i) d nl = absurd (nl c a i refl)
begins-none (Some m) p d nl = refl

not-killed : (p : Packet) (d : ContainerId) → ((c : ContainerId) → p ≡ Kill c → ⊥) → is_killed p d ≡ false
not-killed (Kill c) d nl = absurd (nl c refl)
not-killed p d nl = refl

pub elsewhere : (living : Living) (nodes : Nodes) (n maps : ℕ) (p : Packet) → ((c : ContainerId) (a : Attempt) (i : ℕ) → p ≡ Launch c a i → ⊥) → ((c : ContainerId) → p ≡ Kill c → ⊥) → (d : ContainerId) → kept living d ≡ served living nodes n maps p d
elsewhere living nodes n maps p nl none d =
    sym (ap (λ b. if b then begun_at (node_of nodes n) maps (reaction_of (node_of nodes n) p) else (if is_killed p d then None else kept living d)) (begins-none (node_of nodes n) p d nl)
    ∙ ap (λ b. if b then None else kept living d) (not-killed p d none))
