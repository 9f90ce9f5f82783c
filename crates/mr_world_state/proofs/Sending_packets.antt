-- A container takes a step that is no store call: when it can, and what the parts stand for then.
use Rattle.std.proofs.Common.{◌≡◌, ℕ, refl, sym, ◌∙◌, ap, Bool, true, false, nat_lt, List, [], ◌∷◌, ◌++◌, Option, Some, None, if◌then◌else◌, is_some, is_none, length, append-nil}
use Rattle.std.specs.Option.{option_map}
use Rattle.mr_packet.specs.Bag.{Held}
use Rattle.mr_packet.specs.Sends.{ended}
use Rattle.mr_packet.specs.declared.packet.Envelope.{Envelope}
use Rattle.mr_ids.specs.Attempt.{Attempt}
use Rattle.mr_container.specs.declared.wish.Wish.{Wish}
use Rattle.mr_container.specs.declared.wish.Wish.TheVariants as wish
use Rattle.mr_container.specs.Past.{Sends}
use Rattle.mr_container.specs.Readings.{Seen, wish_sent, next_seen}
use Rattle.mr_container.specs.State as container
use Rattle.mr_container.specs.Wished.{end_of, wished_packet}
use Rattle.mr_container.proofs.Standing.{stands_after}
use Rattle.mr_world_model.specs.Ids.{ContainerId, container_eq}
use Rattle.mr_world_model.specs.Packets.{Config}
use Rattle.mr_world_model.specs.World.{World, Weather, ContainerStep, call_of, op_of, unless_stopped}
use Rattle.mr_world_model.specs.Effect.{effect}
use Rattle.mr_world_model.specs.Sending.{sent}
use Rattle.mr_world_model.specs.Actors.{is_finished}
use Rattle.mr_world_model.specs.Acts.{Went}
use Rattle.mr_world_model.proofs.Acts.{containers_act}
use Rattle.mr_world_model.proofs.Stored.{stores_go_on}
use Rattle.mr_master_refinement.proofs.Stores.{masters_go_on}
use Rattle.mr_world_actors.specs.declared.letters.Letters.TheVariants.{Nothing, One, Last}
use Rattle.mr_world_actors.specs.declared.living.Living.{Living}
use Rattle.mr_world_actors.specs.Letters.{is_last, letters_by, letters_of, count_of}
use Rattle.mr_world_actors.specs.Living.{kept, Changes, stepped}
use Rattle.mr_world_state.specs.declared.parts.Parts.{Parts}
use Rattle.mr_world_state.specs.Limits.{within, fits_bag, fits_call}
use Rattle.mr_world_state.specs.Standing.{Standing, IsTaken}
use Rattle.mr_world_state.specs.inner.Calling.{IsAlone}
use Rattle.mr_world_state.proofs.Refusals.{NeedsRoom}
use Rattle.mr_world_state.proofs.Frames.{rests, living-moved, living-stay, nodes-stay}
use Rattle.mr_world_state.proofs.Saying.{says}
use Rattle.mr_world_state.proofs.Hearing_containers.{ends-with}

-- ---- only who failed has sent its last packet

asks-on : (b : Bool) (n : ℕ) → is_finished (if b then wish.Where n else wish.Compute) ≡ false
asks-on true n = refl
asks-on false n = refl

pub finishes : (maps : ℕ) (blocks : List (List ℕ)) (c : ContainerId) (x : Attempt) (s : Seen) (v : Wish) (e : Envelope) → wished_packet c x s v ≡ Some e → is_finished (wish_sent maps blocks v) ≡ is_last v
unfolding wished_packet
finishes maps blocks c x s (wish.Lost a) e is = asks-on (nat_lt (length blocks) maps) (length blocks)
finishes maps blocks c x s wish.Over e is = cc
finishes maps blocks c x s v e is = refl

posted : container.Container → Envelope → container.Container
posted m e = container.after m (Sends e.body)

wish-then : (m : container.Container) (e : Envelope) → (posted m e).seen.wish ≡ wish_sent m.maps m.seen.pieces.blocks m.seen.wish
unfolding posted next_seen
wish-then m e = refl

some-of : (o : Option container.Container) → is_some o ≡ true → (m : container.Container) × (o ≡ Some m)
some-of (Some m) e = (m, refl)
some-of None e = cc

-- ---- the room

no-made : (w : World) (b : Bool) → fits_call w (unless_stopped b None) ≡ true
no-made w true = refl
no-made w false = refl

limit-is : (cfg : Config) (w : World) (c : ContainerId) (f : Weather) → op_of cfg w c ≡ None → within cfg w (ContainerStep c f) ≡ fits_bag cfg w (ContainerStep c f)
unfolding within call_of
limit-is cfg w c f none = rw (none, no-made w _) refl

-- ---- what the step does

-- the packet that the machine m of container c wishes to send
abbrev letter : container.Container → Option Envelope
letter m = wished_packet m.id m.place.attempt m.seen m.seen.wish

went : (p : Parts) (w : World) (c : ContainerId) (f : Weather) (m : container.Container) (e : Envelope) → Standing p w → IsAlone p c f → kept p.living c ≡ Some m → letter m ≡ Some e
    → Went p.config w (ContainerStep c f) c (posted m e) (e ∷ end_of c (posted m e).seen.wish)
unfolding posted
went p w c f m e s a there is = containers_act.sends p.config w c f e m (posted m e) (a.no_call w s) ((says p w c m s there).packet ∙ is) (s.living.machines c m there) (stands_after m (posted m e) (Sends e.body) refl)

ends-by-letter : (m : container.Container) (e : Envelope) → letter m ≡ Some e → is_finished (posted m e).seen.wish ≡ is_last m.seen.wish
ends-by-letter m e is = ap is_finished (wish-then m e) ∙ finishes m.maps m.seen.pieces.blocks m.id m.place.attempt m.seen m.seen.wish e is

-- the packets, by whether the first is the last of its container
abbrev packets_by : ContainerId → Bool → Option Envelope → List Envelope
packets_by c last None = []
packets_by c last (Some e) = e ∷ (if last then ended c ∷ [] else [])

sends-are : (p : Parts) (w : World) (c : ContainerId) (f : Weather) (m : container.Container) → Standing p w → IsAlone p c f → kept p.living c ≡ Some m → (o : Option Envelope) → letter m ≡ o
    → sent p.config w (ContainerStep c f) ≡ packets_by c (is_last m.seen.wish) o
sends-are p w c f m s a there None is = (containers_act.rests p.config w c f (a.no_call w s) ((says p w c m s there).packet ∙ is)).2
sends-are p w c f m s a there (Some e) is = (went p w c f m e s a there is).sends ∙ ap (λ es. e ∷ es) (ends-with c (posted m e).seen.wish ∙ ap (λ b. if b then ended c ∷ [] else []) (ends-by-letter m e is))

counted : (c : ContainerId) (b : Bool) (o : Option Envelope) → length (packets_by c b o) ≡ count_of (letters_by b o)
counted c b None = refl
counted c true (Some e) = refl
counted c false (Some e) = refl

pub needs : (p : Parts) (c : ContainerId) (f : Weather) → IsAlone p c f → (w : World) → Standing p w → NeedsRoom p w (ContainerStep c f) (count_of (letters_of (kept p.living c)))
needs p c f a w s = let m = some-of (kept p.living c) a.lives in record {
  now = a.now w s;
  limit = limit-is p.config w c f (a.no_call w s);
  count = ap length (sends-are p w c f m.0 s a m.1 (letter m.0) refl) ∙ (counted c (is_last m.0.seen.wish) (letter m.0) ∙ ap (λ o. count_of (letters_of o)) (sym m.1));
}

-- ---- nothing, a packet, or the last one

nothing-by : (b : Bool) (o : Option Envelope) → letters_by b o ≡ Nothing → o ≡ None
nothing-by b None e = refl
nothing-by true (Some x) e = cc
nothing-by false (Some x) e = cc

one-by : (b : Bool) (o : Option Envelope) (e : Envelope) → letters_by b o ≡ One e → (o ≡ Some e) × (b ≡ false)
one-by b None e is = cc
one-by true (Some x) e is = cc
one-by false (Some x) e is = (cc, refl)

last-by : (b : Bool) (o : Option Envelope) (e : Envelope) → letters_by b o ≡ Last e → (o ≡ Some e) × (b ≡ true)
last-by b None e is = cc
last-by true (Some x) e is = (cc, refl)
last-by false (Some x) e is = cc

pub nothing-stands : (p : Parts) (w : World) (c : ContainerId) (f : Weather) → Standing p w → IsTaken p.config w (ContainerStep c f) → IsAlone p c f → letters_of (kept p.living c) ≡ Nothing → Standing p (effect p.config w (ContainerStep c f))
nothing-stands p w c f s t a is =
    let m = some-of (kept p.living c) a.lives in
    let o : letter m.0 ≡ None = nothing-by _ _ (ap letters_of (sym m.1) ∙ is) in
    let r = containers_act.rests p.config w c f (a.no_call w s) ((says p w c m.0 s m.1).packet ∙ o) in
    rests p w (ContainerStep c f) p.names p.living p.bag p.nodes s t refl (masters_go_on.rests p.config w (ContainerStep c f) refl) (stores_go_on.rests p.config w p.names p.history (ContainerStep c f) s.stores (ap is_none (a.no_call w s)))
    (living-stay r.0 (λ d. refl) s.living) (nodes-stay r.1 (λ n. refl) s.nodes) (sym (append-nil _) ∙ ap (λ es. p.bag.packets ++ es) (sym r.2))

some-stands : (p : Parts) (w : World) (c : ContainerId) (f : Weather) (m : container.Container) (e : Envelope) (b : Bool) (living : Living) (bag : Held) → Standing p w → IsTaken p.config w (ContainerStep c f) → IsAlone p c f
    → kept p.living c ≡ Some m → letter m ≡ Some e → is_last m.seen.wish ≡ b → Changes p.living c (if b then None else Some (posted m e)) living → bag.packets ≡ p.bag.packets ++ e ∷ (if b then ended c ∷ [] else [])
    → Standing (record p { living = living; bag = bag }) (effect p.config w (ContainerStep c f))
some-stands p w c f m e b living bag s t a there is last ch pk =
    let g = went p w c f m e s a there is in
    let fin : is_finished (posted m e).seen.wish ≡ b = ends-by-letter m e is ∙ last in
    rests p w (ContainerStep c f) p.names living bag p.nodes s t refl (masters_go_on.rests p.config w (ContainerStep c f) refl) (stores_go_on.rests p.config w p.names p.history (ContainerStep c f) s.stores (ap is_none (a.no_call w s)))
    (living-moved c m (posted m e) there g.moved (λ d. ch d ∙ ap (λ z. if container_eq d c then (if z then None else Some (posted m e)) else kept p.living d) (sym fin)) s.living)
    (nodes-stay g.nodes (λ n. refl) s.nodes)
    (pk ∙ ap (λ es. p.bag.packets ++ e ∷ es) (sym (ends-with c (posted m e).seen.wish ∙ ap (λ z. if z then ended c ∷ [] else []) fin)) ∙ ap (λ es. p.bag.packets ++ es) (sym g.sends))

pub one-stands : (p : Parts) (w : World) (c : ContainerId) (f : Weather) (e : Envelope) (living : Living) (bag : Held) → Standing p w → IsTaken p.config w (ContainerStep c f) → IsAlone p c f → letters_of (kept p.living c) ≡ One e
    → Changes p.living c (stepped p.living c (Sends e.body)) living → bag.packets ≡ p.bag.packets ++ e ∷ [] → Standing (record p { living = living; bag = bag }) (effect p.config w (ContainerStep c f))
unfolding posted
one-stands p w c f e living bag s t a is ch pk =
    let m = some-of (kept p.living c) a.lives in
    let o = one-by _ _ e (ap letters_of (sym m.1) ∙ is) in
    some-stands p w c f m.0 e false living bag s t a m.1 o.0 o.1 (λ d. ch d ∙ ap (λ z. if container_eq d c then option_map (λ x. container.after x (Sends e.body)) z else kept p.living d) m.1) pk

pub last-stands : (p : Parts) (w : World) (c : ContainerId) (f : Weather) (e : Envelope) (living : Living) (bag : Held) → Standing p w → IsTaken p.config w (ContainerStep c f) → IsAlone p c f → letters_of (kept p.living c) ≡ Last e
    → Changes p.living c None living → bag.packets ≡ p.bag.packets ++ e ∷ ended c ∷ [] → Standing (record p { living = living; bag = bag }) (effect p.config w (ContainerStep c f))
last-stands p w c f e living bag s t a is ch pk =
    let m = some-of (kept p.living c) a.lives in
    let o = last-by _ _ e (ap letters_of (sym m.1) ∙ is) in
    some-stands p w c f m.0 e true living bag s t a m.1 o.0 o.1 ch pk
