-- Alike plays calm alike: event by event, to where both calms end.
use Rattle.std.proofs.Common.{ℕ, zero, suc, ◌+◌, ◌≤◌, ◌≡◌, refl, sym, ◌∙◌, ap, subst, arith, Bool, true, false, not, ◌&&◌, ◌||◌, List, [], ◌∷◌, ◌++◌, drop, length, nat_lt, Option, Some, None, is_none, is_some, if◌then◌else◌}
use Rattle.std.specs.Option.{option_and_then}
use Rattle.std.proofs.lemmas.Bool.{and_parts, true≢false}
use Rattle.mr_master_model.specs.declared.phase.Phase as main
use Rattle.mr_master_model.specs.declared.phase.Phase.TheVariants as phase
use Rattle.mr_script.specs.declared.event_name.EventName.{EventName}
use Rattle.mr_packet.specs.declared.packet.ContainerId.{ContainerId}
use Rattle.mr_world_events.specs.declared.why.Why.{Why}
use Rattle.mr_world_model.specs.Packets.{Config}
use Rattle.mr_world_model.specs.Hearing.{Phase, Opening, Setting_up, Recovering, Running, Committing, Failing, Finished, Stopped}
use Rattle.mr_world_model.specs.World.{World, Event, opening_world, seen_by}
use Rattle.mr_world_model.specs.Effect.{effect, happens, not_now, run}
use Rattle.mr_world_model.specs.Claims.{Limits, world_of}
use Rattle.mr_world_model.specs.Sequential.{Job}
use Rattle.mr_world_model.specs.Actors.{BoundsBytes}
use Rattle.mr_world_model.proofs.Basic.{run-append}
use Rattle.mr_master_refinement.specs.Works.{phase_of}
use Rattle.mr_world_alike.specs.Alike.{Alike, IsSame}
use Rattle.mr_world_alike.specs.Packets.{SamePackets}
use Rattle.mr_world_alike.proofs.Packets.{packets_stay}
use Rattle.mr_world_alike.proofs.Worlds.{what_stays}
use Rattle.mr_world_shows.proofs.Shown.{phase-same}
use Rattle.mr_play.specs.EventNames.{stops_at}
use Rattle.mr_play.specs.Played.{Played, Next, world, is_dropped, has_ended, is_through, passed, cursor_at, next_of, calmed, calmed_by, calms}
use Rattle.mr_world.specs.declared.limits.TheConstants.{MAX_EVENTS}
use Rattle.mr_play_alike.specs.Plays.{SamePlay, SameEvent, SameStep, SameNext, AlikePlaysCalmAlike, AlikePlaysTakeAlike}
use Rattle.mr_play_alike.proofs.Going.{go_on, shifts, fits}

-- ---- whoever is through

abbrev over : main.Phase → Bool
over phase.Ended = true
over phase.Stopped = true
over _ = false

is-over : (p : Phase) → has_ended p ≡ over (phase_of p)
is-over (Opening n) = refl
is-over Setting_up = refl
is-over (Recovering todo at) = refl
is-over Running = refl
is-over (Committing at) = refl
is-over (Failing b) = refl
is-over (Finished b) = refl
is-over Stopped = refl

lives : (m h : Bool) → (not m || h) ≡ false → m ≡ true
lives true h q = refl
lives false h q = absurd (true≢false q)

-- ---- answers

this-is : (s t : Played) → Some s ≡ Some t → s ≡ t
this-is s t q = ap (or-this s) q
  where
    or-this : Played → Option Played → Played
    or-this x None = x
    or-this x (Some y) = y

if-taken : (g : Played → Option Played) (b : Bool) (z s' : Played) → option_and_then g (if b then Some z else None) ≡ Some s' → (b ≡ true) × (g z ≡ Some s')
if-taken g true z s' q = (refl, q)
if-taken g false z s' q = absurd (true≢false (ap is_some (sym q)))

module _ (job : Job) (cfg : Config) (within : Limits) (bound : BoundsBytes within) where
  -- alike plays stay so behind this
  abbrev Keeps : (Played → Option Played) → Type 0
  Keeps g = (s t s' t' : Played) → SamePlay job cfg within s t → g s ≡ Some s' → g t ≡ Some t' → SamePlay job cfg within s' t'

  both-are : (s t s' t' : Played) → SamePlay job cfg within s t → Some s ≡ Some s' → Some t ≡ Some t' → SamePlay job cfg within s' t'
  both-are s t s' t' o p q = subst (λ (x : Played). SamePlay job cfg within x t') (this-is s s' p) (subst (λ (y : Played). SamePlay job cfg within s y) (this-is t t' q) o)

  -- ---- where calms have come to

  module _ (s t : Played) (o : SamePlay job cfg within s t) (i at to : ℕ) (here : at ≡ s.cursor + i) (there : to ≡ t.cursor + i) (ends : s.cursor + i ≤ length (world_of cfg within s.events).bag) where
    abbrev W : World
    W = world_of cfg within s.events

    abbrev U : World
    U = world_of cfg within t.events

    packets-at : SamePackets W U s.events t.events at to
    packets-at =
        subst (λ (m : ℕ). SamePackets W U s.events t.events m to) (sym here) (subst (λ (n : ℕ). SamePackets W U s.events t.events (s.cursor + i) n) (sym there)
        (packets_stay.passed W U s.events t.events s.cursor t.cursor i o.packets ends))

    dropped-at : (j : ℕ) → is_dropped s.dropped (at + j) ≡ is_dropped t.dropped (to + j)
    dropped-at j =
        let a : at + j ≡ s.cursor + (i + j) = omega (arith, here) in
        let b : t.cursor + (i + j) ≡ to + j = omega (arith, there) in
        ap (λ (n : ℕ). is_dropped s.dropped n) a ∙ (o.dropped (i + j) ∙ ap (λ (n : ℕ). is_dropped t.dropped n) b)

    moved : SamePlay job cfg within (record s { cursor = at }) (record t { cursor = to })
    moved = record { alike = o.alike; packets = packets-at; dropped = dropped-at; stepped = o.stepped }

    -- an event that both take
    module _ (e f : Event) (last last' : Option ContainerId) (l : last ≡ last') (same : IsSame W U e f) where
      made : (es : List Event) (x : Event) → not_now cfg (world_of cfg within es) x ≡ None → within (world_of cfg within es) x ≡ true → world_of cfg within (es ++ x ∷ []) ≡ effect cfg (world_of cfg within es) x
      unfolding run happens
      made es x now b = run-append cfg within opening_world es (x ∷ []) ∙ (λ j. if is_none (now j) && b j then effect cfg (world_of cfg within es) x else world_of cfg within es)

      stay : not_now cfg W e ≡ None → within W e ≡ true → within U f ≡ true
          → SamePlay job cfg within (record s { events = s.events ++ e ∷ []; stepped = last; cursor = at }) (record t { events = t.events ++ f ∷ []; stepped = last'; cursor = to })
      stay now b c =
          let a = what_stays cfg within bound s.events t.events e f o.alike same in
          let x = made s.events e now b in
          let y = made t.events f (sym a.permitted ∙ now) c in
          record {
            alike = subst (λ (w : World). Alike cfg w (world_of cfg within (t.events ++ f ∷ []))) (sym x) (subst (λ (u : World). Alike cfg (effect cfg W e) u) (sym y) (a.left now));
            packets = subst (λ (w : World). SamePackets w (world_of cfg within (t.events ++ f ∷ [])) (s.events ++ e ∷ []) (t.events ++ f ∷ []) at to) (sym x)
                (subst (λ (u : World). SamePackets (effect cfg W e) u (s.events ++ e ∷ []) (t.events ++ f ∷ []) at to) (sym y)
                (packets_stay.after cfg W U s.events t.events at to e f packets-at same now (a.sends now)));
            dropped = dropped-at;
            stepped = l;
          }

      -- and the rest
      calmed-same : (g : Played → Option Played) → Keeps g → (s' t' : Played) → calmed job cfg within g e last (record s { cursor = at }) (not_now cfg W e) ≡ Some s' → calmed job cfg within g f last' (record t { cursor = to }) (not_now cfg U f) ≡ Some t'
          → SamePlay job cfg within s' t'
      calmed-same g more s' t' p q = let a = what_stays cfg within bound s.events t.events e f o.alike same in by (not_now cfg W e) (not_now cfg U f) refl a.permitted p q
        where
          by : (x y : Option Why) → not_now cfg W e ≡ x → x ≡ y → calmed job cfg within g e last (record s { cursor = at }) x ≡ Some s' → calmed job cfg within g f last' (record t { cursor = to }) y ≡ Some t' → SamePlay job cfg within s' t'
          by (Some r) (Some v) n d p q = both-are (record s { cursor = at }) (record t { cursor = to }) s' t' moved p q
          by (Some r) None n d p q = absurd (true≢false (ap is_some d))
          by None (Some v) n d p q = absurd (true≢false (ap is_some (sym d)))
          by None None n d p q =
              let x = if-taken g (nat_lt (length s.events) MAX_EVENTS && within W e) (record s { events = s.events ++ e ∷ []; stepped = last; cursor = at }) s' p in
              let y = if-taken g (nat_lt (length t.events) MAX_EVENTS && within U f) (record t { events = t.events ++ f ∷ []; stepped = last'; cursor = to }) t' q in
              let b = and_parts (nat_lt (length s.events) MAX_EVENTS) (within W e) x.0 in
              let c = and_parts (nat_lt (length t.events) MAX_EVENTS) (within U f) y.0 in
              more (record s { events = s.events ++ e ∷ []; stepped = last; cursor = at }) (record t { events = t.events ++ f ∷ []; stepped = last'; cursor = to }) s' t' (stay n b.1 c.1) x.1 y.1

  -- ---- an event of a calm, and the rest of it

  abbrev rest : (Played → Option Played) → Played → Option Event → Option ContainerId → ℕ → Option Played
  rest g s e last at = option_and_then (λ x. calmed job cfg within g x last (record s { cursor = at }) (not_now cfg (world job cfg within s) x)) e

  event-same : (g : Played → Option Played) → Keeps g → (s t : Played) → SamePlay job cfg within s t → (x y : Next) → SameStep (world job cfg within s) (world job cfg within t) s.cursor t.cursor x y
      → (e f : Option Event) → SameEvent (world job cfg within s) (world job cfg within t) e f → (s' t' : Played) → rest g s e x.stepped x.cursor ≡ Some s' → rest g t f y.stepped y.cursor ≡ Some t' → SamePlay job cfg within s' t'
  event-same g more s t o x y n None f r s' t' p q = absurd (true≢false (ap is_some (sym p)))
  event-same g more s t o x y n (Some e) None r s' t' p q = absurd r
  event-same g more s t o x y n (Some e) (Some f) r s' t' p q = calmed-same s t o n.passed x.cursor y.cursor n.here n.there n.fits e f x.stepped y.stepped n.stepped r g more s' t' p q

  step-by : (g : Played → Option Played) → Keeps g → (stop : Option EventName) (s t : Played) (o : SamePlay job cfg within s t) (i at to : ℕ) → at ≡ s.cursor + i → to ≡ t.cursor + i → s.cursor + i ≤ length (world job cfg within s).bag
      → (x y : Option Next) → SameNext (world job cfg within s) (world job cfg within t) s.cursor t.cursor x y
      → (s' t' : Played) → calmed_by job cfg within stop g (record s { cursor = at }) x ≡ Some s' → calmed_by job cfg within stop g (record t { cursor = to }) y ≡ Some t' → SamePlay job cfg within s' t'
  step-by g more stop s t o i at to here there ends None None n s' t' p q = both-are (record s { cursor = at }) (record t { cursor = to }) s' t' (moved s t o i at to here there ends) p q
  step-by g more stop s t o i at to here there ends (Some x) None n s' t' p q = absurd n
  step-by g more stop s t o i at to here there ends None (Some y) n s' t' p q = absurd n
  step-by g more stop s t o i at to here there ends (Some x) (Some y) n s' t' p q = by (stops_at stop x.names) (stops_at stop y.names) (ap (λ (names : List EventName). stops_at stop names) n.names) p q
    where
      by : (b c : Bool) → b ≡ c → (if b then Some (record s { cursor = at }) else rest g s x.event x.stepped x.cursor) ≡ Some s' → (if c then Some (record t { cursor = to }) else rest g t y.event y.stepped y.cursor) ≡ Some t' → SamePlay job cfg within s' t'
      by true true d p q = both-are (record s { cursor = at }) (record t { cursor = to }) s' t' (moved s t o i at to here there ends) p q
      by false false d p q = event-same g more s t o x y n x.event y.event n.event s' t' p q
      by true false d p q = absurd (true≢false d)
      by false true d p q = absurd (true≢false (sym d))

  -- ---- all of it

  through-same : (k : ℕ) (s t : Played) → SamePlay job cfg within s t → is_through cfg (world job cfg within s) k ≡ is_through cfg (world job cfg within t) k
  through-same k s t o = by ((world job cfg within s).is_master k) refl
    where
      by : (b : Bool) → (world job cfg within s).is_master k ≡ b → is_through cfg (world job cfg within s) k ≡ is_through cfg (world job cfg within t) k
      by true a =
          let x = is-over (seen_by cfg (world job cfg within s) k).phase ∙ (ap over (phase-same cfg within s.events t.events o.alike k a) ∙ sym (is-over (seen_by cfg (world job cfg within t) k).phase)) in
          let m = o.alike.is_master k in
          λ i. not (m i) || x i
      by false d =
          let x : is_through cfg (world job cfg within s) k ≡ true = λ i. not (d i) || has_ended (seen_by cfg (world job cfg within s) k).phase in
          let c = sym (o.alike.is_master k) ∙ d in
          let y : is_through cfg (world job cfg within t) k ≡ true = λ i. not (c i) || has_ended (seen_by cfg (world job cfg within t) k).phase in
          x ∙ sym y

  calm-same : (k : ℕ) (stop : Option EventName) (most : ℕ) → Keeps (calms job cfg within k stop most)
  calm-same k stop zero s t s' t' o p q = both-are s t s' t' o p q
  calm-same k stop (suc most) s t s' t' o p q = by (calm-same k stop most) (is_through cfg (world job cfg within s) k) (is_through cfg (world job cfg within t) k) refl (through-same k s t o) p q
    where
      by : Keeps (calms job cfg within k stop most) → (b c : Bool) → is_through cfg (world job cfg within s) k ≡ b → b ≡ c
          → (if b then Some s else calmed_by job cfg within stop (calms job cfg within k stop most) (record s { cursor = cursor_at (world job cfg within s) s.dropped s.cursor }) (next_of job cfg within (world job cfg within s) k s.stepped (cursor_at (world job cfg within s) s.dropped s.cursor))) ≡ Some s'
          → (if c then Some t else calmed_by job cfg within stop (calms job cfg within k stop most) (record t { cursor = cursor_at (world job cfg within t) t.dropped t.cursor }) (next_of job cfg within (world job cfg within t) k t.stepped (cursor_at (world job cfg within t) t.dropped t.cursor))) ≡ Some t'
          → SamePlay job cfg within s' t'
      by more true true on d p q = both-are s t s' t' o p q
      by more true false on d p q = absurd (true≢false d)
      by more false true on d p q = absurd (true≢false (sym d))
      by more false false on d p q =
          let a = lives ((world job cfg within s).is_master k) (has_ended (seen_by cfg (world job cfg within s) k).phase) on in
          let shift = shifts job cfg within s t k o a in
          step-by (calms job cfg within k stop most) more stop s t o (passed (world job cfg within s) s.dropped s.cursor (drop s.cursor (world job cfg within s).bag))
          (cursor_at (world job cfg within s) s.dropped s.cursor) (cursor_at (world job cfg within t) t.dropped t.cursor) refl (ap (λ (n : ℕ). t.cursor + n) (sym shift)) (fits job cfg within s t k o a)
          (next_of job cfg within (world job cfg within s) k s.stepped (cursor_at (world job cfg within s) s.dropped s.cursor)) (next_of job cfg within (world job cfg within t) k t.stepped (cursor_at (world job cfg within t) t.dropped t.cursor))
          (go_on job cfg within s t k o a) s' t' p q

pub calm_alike : (job : Job) (cfg : Config) (within : Limits) → BoundsBytes within → AlikePlaysCalmAlike job cfg within
calm_alike job cfg within bound k stop most s t s' t' o p q = calm-same job cfg within bound k stop most s t s' t' o p q

-- ---- an event of its own

if-some : (b : Bool) (z s' : Played) → (if b then Some z else None) ≡ Some s' → (b ≡ true) × (z ≡ s')
if-some true z s' q = (refl, this-is z s' q)
if-some false z s' q = absurd (true≢false (ap is_some (sym q)))

pub take_alike : (job : Job) (cfg : Config) (within : Limits) → BoundsBytes within → AlikePlaysTakeAlike job cfg within
take_alike job cfg within bound e f last s t s' t' o same now p q =
    let x = if-some (nat_lt (length s.events) MAX_EVENTS && within (world job cfg within s) e) (record s { events = s.events ++ e ∷ []; stepped = last }) s' p in
    let y = if-some (nat_lt (length t.events) MAX_EVENTS && within (world job cfg within t) f) (record t { events = t.events ++ f ∷ []; stepped = last }) t' q in
    let b = and_parts (nat_lt (length s.events) MAX_EVENTS) (within (world job cfg within s) e) x.0 in
    let c = and_parts (nat_lt (length t.events) MAX_EVENTS) (within (world job cfg within t) f) y.0 in
    let r = o.packets.from in
    let here : s.cursor ≡ s.cursor + 0 = omega arith in
    let there : t.cursor ≡ t.cursor + 0 = omega arith in
    let ends : s.cursor + 0 ≤ length (world_of cfg within s.events).bag = omega (arith, r) in
    let z : SamePlay job cfg within (record s { events = s.events ++ e ∷ []; stepped = last }) (record t { events = t.events ++ f ∷ []; stepped = last }) = stay job cfg within bound s t o 0 s.cursor t.cursor here there ends e f last last refl same now b.1 c.1 in
    subst (λ (u : Played). SamePlay job cfg within u t') x.1 (subst (λ (v : Played). SamePlay job cfg within (record s { events = s.events ++ e ∷ []; stepped = last }) v) y.1 z)
