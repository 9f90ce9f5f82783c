-- A packet is delivered to a container: when it can be, and what the parts stand for then.
use Rattle.std.proofs.Common.{◌≡◌, ℕ, refl, sym, ◌∙◌, ap, subst, Bool, true, false, [], ◌∷◌, ◌++◌, Option, Some, None, if◌then◌else◌, is_some, length, slice_get, ◌≤◌, arith}
use Rattle.std.specs.Option.{option_map}
use Rattle.mr_packet.specs.Bag.{Held}
use Rattle.mr_packet.specs.Sends.{ended}
use Rattle.mr_packet.specs.declared.packet.Packet.{Packet}
use Rattle.mr_packet.specs.declared.packet.Envelope.{Envelope}
use Rattle.mr_packet.specs.declared.packet.Address.TheVariants.{Container}
use Rattle.mr_container.specs.Past.{Hears}
use Rattle.mr_container.specs.State as container
use Rattle.mr_container.specs.declared.wish.Wish.{Wish}
use Rattle.mr_container.specs.declared.wish.Wish.TheVariants.{Over}
use Rattle.mr_container.specs.Wished.{end_of}
use Rattle.mr_container.proofs.Standing.{stands_after}
use Rattle.mr_world_model.specs.Ids.{ContainerId, container_eq}
use Rattle.mr_world_model.specs.Packets.{Config}
use Rattle.mr_world_model.specs.World.{World, Deliver, call_of}
use Rattle.mr_world_model.specs.Effect.{effect, not_now, NoAddressee}
use Rattle.mr_world_model.specs.Actors.{is_finished}
use Rattle.mr_world_model.specs.Acts.{Went}
use Rattle.mr_world_model.proofs.Acts.{containers_act}
use Rattle.mr_world_model.proofs.Stored.{stores_go_on}
use Rattle.mr_master_refinement.proofs.Stores.{masters_go_on}
use Rattle.mr_world_actors.specs.declared.living.Living.{Living}
use Rattle.mr_world_actors.specs.Living.{kept, Changes, stepped, is_over}
use Rattle.mr_world_state.specs.declared.fault.WorldFault.TheVariants as fault
use Rattle.mr_world_state.specs.declared.parts.Parts.{Parts}
use Rattle.mr_world_state.specs.Limits.{within, fits_bag}
use Rattle.mr_world_state.specs.Standing.{Standing, IsTaken, IsTo, RefusesEvent}
use Rattle.mr_world_state.specs.inner.Replying.{ends_by, one_if}
use Rattle.mr_world_state.proofs.Refusals.{NeedsRoom, refuses-now}
use Rattle.mr_world_state.proofs.Frames.{rests, living-moved, nodes-stay}

abbrev heard : container.Container → Packet → container.Container
heard m packet = container.after m (Hears packet)

carried : (p : Parts) (w : World) (i : ℕ) (e : Envelope) → Standing p w → slice_get p.bag.packets i ≡ Some e → slice_get w.bag i ≡ Some e
carried p w i e s at = subst (λ es. slice_get es i ≡ Some e) s.bag at

went : (p : Parts) (w : World) (i : ℕ) (c : ContainerId) (packet : Packet) (m : container.Container) → Standing p w → slice_get p.bag.packets i ≡ Some (record { to = Container c; body = packet })
    → kept p.living c ≡ Some m → Went p.config w (Deliver i) c (heard m packet) (end_of c (heard m packet).seen.wish)
went p w i c packet m s at there = containers_act.hears p.config w i c packet m (heard m packet) (carried p w i _ s at) (s.living.machines c m there) (stands_after m (heard m packet) (Hears packet) refl)

-- what is added
pub ends-with : (c : ContainerId) (v : Wish) → end_of c v ≡ (if is_finished v then ended c ∷ [] else [])
ends-with c Over = refl
ends-with c v = refl

-- the container goes on, or comes to its end
pub stands : (p : Parts) (w : World) (i : ℕ) (c : ContainerId) (packet : Packet) (m : container.Container) (living : Living) (bag : Held) → Standing p w → IsTaken p.config w (Deliver i)
    → slice_get p.bag.packets i ≡ Some (record { to = Container c; body = packet }) → kept p.living c ≡ Some m
    → Changes p.living c (if is_finished (heard m packet).seen.wish then None else Some (heard m packet)) living
    → bag.packets ≡ p.bag.packets ++ (if is_finished (heard m packet).seen.wish then ended c ∷ [] else [])
    → Standing (record p { living = living; bag = bag }) (effect p.config w (Deliver i))
stands p w i c packet m living bag s t at there is b = let g = went p w i c packet m s at there in
    rests p w (Deliver i) p.names living bag p.nodes s t refl (masters_go_on.told_others p.config w i _ (carried p w i _ s at) refl) (stores_go_on.rests p.config w p.names p.history (Deliver i) s.stores refl)
    (living-moved c m (heard m packet) there g.moved is s.living) (nodes-stay g.nodes (λ n. refl) s.nodes)
    (b ∙ ap (λ es. p.bag.packets ++ es) (sym (ends-with c (heard m packet).seen.wish) ∙ sym g.sends))

-- ---- when it can be

permitted : (cfg : Config) (w : World) (i : ℕ) (c : ContainerId) (packet : Packet) → slice_get w.bag i ≡ Some (record { to = Container c; body = packet }) → w.is_alive c ≡ true → not_now cfg w (Deliver i) ≡ None
unfolding not_now
permitted cfg w i c packet at e = rw (at, e) refl

not-alive : (cfg : Config) (w : World) (i : ℕ) (c : ContainerId) (packet : Packet) → slice_get w.bag i ≡ Some (record { to = Container c; body = packet }) → w.is_alive c ≡ false → not_now cfg w (Deliver i) ≡ Some NoAddressee
unfolding not_now
not-alive cfg w i c packet at e = rw (at, e) refl

limit-is : (cfg : Config) (w : World) (i : ℕ) → within cfg w (Deliver i) ≡ fits_bag cfg w (Deliver i)
unfolding within call_of
limit-is cfg w i = refl

counted : (c : ContainerId) (b : Bool) → length (if b then ended c ∷ [] else []) ≡ one_if b
counted c true = refl
counted c false = refl

pub refused : (p : Parts) (i : ℕ) (c : ContainerId) → IsTo p i (Container c) → is_some (kept p.living c) ≡ false → (w : World) → Standing p w
    → RefusesEvent p.config w (Deliver i) (fault.NotNow NoAddressee)
refused p i c to e w s = refuses-now _ _ (not-alive p.config w i c to.0 (carried p w i _ s to.1) (sym (s.living.alive c) ∙ e))

some-of : (o : Option container.Container) → is_some o ≡ true → (m : container.Container) × (o ≡ Some m)
some-of (Some m) e = (m, refl)
some-of None e = cc

ends-is : (living : Living) (c : ContainerId) (e : Envelope) (m : container.Container) (o : Option Envelope) → o ≡ Some e → kept living c ≡ Some m → ends_by living c o ≡ is_finished (heard m e.body).seen.wish
ends-is living c e m o at there = ap (ends_by living c) at ∙ ap (λ k. is_over (option_map (λ m. container.after m (Hears e.body)) k)) there

pub needs : (p : Parts) (i : ℕ) (c : ContainerId) → IsTo p i (Container c) → is_some (kept p.living c) ≡ true → (w : World) → Standing p w
    → NeedsRoom p w (Deliver i) (one_if (ends_by p.living c (slice_get p.bag.packets i)))
needs p i c to e w s = let m = some-of (kept p.living c) e in record {
  now = permitted p.config w i c to.0 (carried p w i _ s to.1) (sym (s.living.alive c) ∙ e);
  limit = limit-is p.config w i;
  count = ap length ((went p w i c to.0 m.0 s to.1 m.1).sends ∙ ends-with c (heard m.0 to.0).seen.wish) ∙ (counted c _ ∙ ap one_if (sym (ends-is p.living c _ m.0 _ to.1 m.1)));
}

-- what was delivered, and whether the container came to its end by it
pub heard-stands : (p : Parts) (w : World) (i : ℕ) (c : ContainerId) (living : Living) (bag : Held) → Standing p w → IsTaken p.config w (Deliver i) → (to : IsTo p i (Container c)) → is_some (kept p.living c) ≡ true
    → (ends : Bool) → ends ≡ ends_by p.living c (slice_get p.bag.packets i) → Changes p.living c (if ends then None else stepped p.living c (Hears to.0)) living → bag.packets ≡ p.bag.packets ++ (if ends then ended c ∷ [] else [])
    → Standing (record p { living = living; bag = bag }) (effect p.config w (Deliver i))
heard-stands p w i c living bag s t to e ends over is b =
    let m = some-of (kept p.living c) e in
    let f : ends ≡ is_finished (heard m.0 to.0).seen.wish = over ∙ ends-is p.living c _ m.0 _ to.1 m.1 in
    stands p w i c to.0 m.0 living bag s t to.1 m.1
    (λ d. is d ∙ ap (λ o. if container_eq d c then o else kept p.living d) (ap (λ b. if b then None else stepped p.living c (Hears to.0)) f ∙ ap (λ k. if is_finished (heard m.0 to.0).seen.wish then None else option_map (λ m. container.after m (Hears to.0)) k) m.1))
    (b ∙ ap (λ z. p.bag.packets ++ (if z then ended c ∷ [] else [])) f)

pub one_if-most : (b : Bool) → one_if b ≤ 1
one_if-most true = omega arith
one_if-most false = omega arith
