-- Calms of two alike plays make the same events, and leave alike plays, or pass a limit both.
use Rattle.std.proofs.Common.{ℕ, zero, suc, ◌+◌, ◌%◌, ◌≤◌, ◌<◌, ◌≡◌, inr, refl, sym, ◌∙◌, ap, subst, arith, Bool, true, false, not, ◌||◌, List, [], ◌∷◌, ◌++◌, drop, length, length-append, nat_lt, nat_le, Option, Some, None, is_some, option_to_list, if◌then◌else◌}
use Rattle.std.specs.Option.{option_and_then, option_map, option_or}
use Rattle.std.proofs.lemmas.Bool.{and_parts, true≢false, ltb-true, ltb-false}
use Rattle.mr_ids.specs.declared.id.TaskId.{TaskId}
use Rattle.mr_master_model.specs.declared.phase.Phase as main
use Rattle.mr_master_model.specs.declared.phase.Phase.TheVariants as phase
use Rattle.mr_master_model.specs.Duty as due
use Rattle.mr_packet.specs.declared.packet.ContainerId.{ContainerId}
use Rattle.mr_script.specs.declared.event_name.EventName.TheVariants as name
use Rattle.mr_world_events.specs.declared.why.Why.{Why}
use Rattle.mr_world_model.specs.Packets.{Config}
use Rattle.mr_world_model.specs.Hearing.{Phase, Opening, Setting_up, Recovering, Running, Committing, Failing, Finished, Stopped}
use Rattle.mr_world_model.specs.World.{World, Event, Calm, Compute, ContainerStep, Deliver, Duty, LaunchOn, duty, seen_by, wish_of}
use Rattle.mr_world_model.specs.Effect.{not_now, wants_compute}
use Rattle.mr_world_model.specs.Sequential.{Job, Input, made_of, most_output}
use Rattle.mr_world_model.specs.Wanted.{wanted}
use Rattle.mr_master_refinement.specs.Works.{named, phase_of}
use Rattle.mr_world_alike.specs.Alike.{IsSame}
use Rattle.mr_world_shows.proofs.Shown.{phase-same}
use Rattle.mr_world_state.specs.Limits.{within}
use Rattle.mr_world.specs.declared.limits.TheConstants.{MAX_EVENTS}
use Rattle.mr_world.specs.Readings.{input_in, living, next_living, wish_by}
use Rattle.mr_play.specs.EventNames.{duty_event, wish_event}
use Rattle.mr_play.specs.Played.{Played, Next, has_ended, is_through, passed, cursor_at, calmed, calmed_by, calms, computed_of, computing, taken, next_duty, next_launch, next_of, next_packet, next_step, result_of, stepping}
use Rattle.mr_play_alike.specs.Plays.{SamePlay, SameEvent, SameNext, SameStep}
use Rattle.mr_play_alike.proofs.Going.{go_on, shifts, fits}
use Rattle.mr_explore.specs.Faults.{calm}
use Rattle.mr_explore_likeness.specs.Plays.{IsOnePacket, LikePlays, cluster}
use Rattle.mr_explore_likeness.proofs.Moves.{Moves, one-since, stay, then-moves}
use Rattle.mr_explore_likeness.proofs.Steps.{IsOneEvent, fits-at, with-event, moved, moved-moves, stays, fits-too, fits-back, took-like, took-moves}

-- ---- the same events, by how far packets lie behind where calms had come to

abbrev pub IsShifted : ℕ → ℕ → Event → Event → Type 0
IsShifted m n (Deliver i) (Deliver j) = (q : ℕ) × (i ≡ m + q) × (j ≡ n + q)
IsShifted m n (Deliver i) f = ⊥
IsShifted m n e f = e ≡ f

abbrev pub AreShifted : ℕ → ℕ → List Event → List Event → Type 0
AreShifted m n [] [] = Unit {0}
AreShifted m n [] (f ∷ fs) = ⊥
AreShifted m n (e ∷ es) [] = ⊥
AreShifted m n (e ∷ es) (f ∷ fs) = IsShifted m n e f × AreShifted m n es fs

from-behind : (m n k p q : ℕ) (e f : Event) → p ≡ m + k → q ≡ n + k → IsShifted p q e f → IsShifted m n e f
from-behind m n k p q (Deliver i) (Deliver j) x y s = let a = s.1 in let b = s.2 in (k + s.0, omega (arith, a, x), omega (arith, b, y))
from-behind m n k p q (Deliver i) f x y s = absurd s
from-behind m n k p q e f x y s = s

all-from-behind : (m n k p q : ℕ) (es fs : List Event) → p ≡ m + k → q ≡ n + k → AreShifted p q es fs → AreShifted m n es fs
all-from-behind m n k p q [] [] x y s = tt
all-from-behind m n k p q [] (f ∷ fs) x y s = absurd s
all-from-behind m n k p q (e ∷ es) [] x y s = absurd s
all-from-behind m n k p q (e ∷ es) (f ∷ fs) x y s = (from-behind m n k p q e f x y s.0, all-from-behind m n k p q es fs x y s.1)

one-behind-other : (m n : ℕ) (es fs gs hs : List Event) → AreShifted m n es fs → AreShifted m n gs hs → AreShifted m n (es ++ gs) (fs ++ hs)
one-behind-other m n [] [] gs hs a b = b
one-behind-other m n [] (f ∷ fs) gs hs a b = absurd a
one-behind-other m n (e ∷ es) [] gs hs a b = absurd a
one-behind-other m n (e ∷ es) (f ∷ fs) gs hs a b = (a.0, one-behind-other m n es fs gs hs a.1 b)

pub as-many-events : (m n : ℕ) (es fs : List Event) → AreShifted m n es fs → length es ≡ length fs
as-many-events m n [] [] a = refl
as-many-events m n [] (f ∷ fs) a = absurd a
as-many-events m n (e ∷ es) [] a = absurd a
as-many-events m n (e ∷ es) (f ∷ fs) a = ap suc (as-many-events m n es fs a.1)

-- ---- a packet that comes next lies where calms have come to

abbrev IsAt : ℕ → Option Event → Type 0
IsAt at (Some (Deliver i)) = i ≡ at
IsAt at _ = Unit {0}

abbrev NextAt : ℕ → Option Next → Type 0
NextAt at None = Unit {0}
NextAt at (Some x) = IsAt at x.event

or-at : (at : ℕ) (x y : Option Next) → NextAt at x → NextAt at y → NextAt at (option_or x y)
or-at at None y a b = b
or-at at (Some x) y a b = a

abbrev as-duty : ℕ → Option ContainerId → ℕ → due.Duty → Next
as-duty k last at d = record { names = duty_event d.name ∷ []; event = Some (Duty k Calm); stepped = last; cursor = at }

abbrev as-launch : Config → ℕ → Option ContainerId → ℕ → TaskId → Next
as-launch cfg k last at t = record { names = name.Launch ∷ []; event = Some (LaunchOn k t (t.number % cfg.nodes)); stepped = last; cursor = at }

module _ (job : Job) (cfg : Config) (w : World) (k : ℕ) (last : Option ContainerId) (at : ℕ) where
  abbrev as-step : ContainerId → Next
  as-step c = record { names = name.Step ∷ option_to_list (wish_event (wish_by cfg (w.place c) (w.container_past c))); event = stepping job cfg (within cfg) w c; stepped = Some c; cursor = at }

  packet-at : NextAt at (next_packet job cfg (within cfg) w last at)
  packet-at = by (nat_lt at (length w.bag))
    where
      by : (b : Bool) → NextAt at (if b then Some (record { names = []; event = Some (Deliver at); stepped = last; cursor = at + 1 }) else None)
      by true = refl
      by false = tt

  duty-at : NextAt at (next_duty job cfg (within cfg) w k last at)
  duty-at = by (named (seen_by cfg w k).phase (duty cfg w k))
    where
      by : (z : Option due.Duty) → NextAt at (option_map (as-duty k last at) z)
      by None = tt
      by (Some d) = tt

  launch-at : NextAt at (next_launch job cfg (within cfg) w k last at)
  launch-at = by (wanted cfg (seen_by cfg w k))
    where
      by : (z : Option TaskId) → NextAt at (option_map (as-launch cfg k last at) z)
      by None = tt
      by (Some t) = tt

  result-at : (c : ContainerId) (x : Option (List ℕ)) → IsAt at (result_of job cfg (within cfg) c x)
  result-at c None = tt
  result-at c (Some bytes) = by (nat_le (length bytes) most_output)
    where
      by : (b : Bool) → IsAt at (if b then Some (Compute c bytes) else None)
      by true = tt
      by false = tt

  computed-at : (c : ContainerId) (x : Option Input) → IsAt at (computed_of job cfg (within cfg) c x)
  computed-at c None = tt
  computed-at c (Some x) = result-at c (made_of job cfg x)

  stepping-at : (c : ContainerId) → IsAt at (stepping job cfg (within cfg) w c)
  stepping-at c = by (wants_compute (wish_of cfg w c))
    where
      by : (b : Bool) → IsAt at (if b then computing job cfg (within cfg) w c else Some (ContainerStep c Calm))
      by true = computed-at c (input_in cfg w c)
      by false = tt

  step-at : NextAt at (next_step job cfg (within cfg) w last at)
  step-at = by (next_living (living cfg w) last)
    where
      by : (z : Option ContainerId) → NextAt at (option_map as-step z)
      by None = tt
      by (Some c) = stepping-at c

  next-at : NextAt at (next_of job cfg (within cfg) w k last at)
  next-at =
      or-at at (next_packet job cfg (within cfg) w last at) (option_or (next_duty job cfg (within cfg) w k last at) (option_or (next_launch job cfg (within cfg) w k last at) (next_step job cfg (within cfg) w last at))) packet-at
      (or-at at (next_duty job cfg (within cfg) w k last at) (option_or (next_launch job cfg (within cfg) w k last at) (next_step job cfg (within cfg) w last at)) duty-at
      (or-at at (next_launch job cfg (within cfg) w k last at) (next_step job cfg (within cfg) w last at) launch-at step-at))

-- such events of two plays are the same, by how far they lie
shifted-at : (w u : World) (m n i at to : ℕ) (e f : Event) → at ≡ m + i → to ≡ n + i → IsSame w u e f → IsAt at (Some e) → IsAt to (Some f) → IsShifted m n e f
shifted-at w u m n i at to (Deliver x) (Deliver y) p q s a b = (i, a ∙ p, b ∙ q)
shifted-at w u m n i at to (Deliver x) f p q s a b = absurd s
shifted-at w u m n i at to e f p q s a b = s

-- ---- whoever is through

abbrev over : main.Phase → Bool
over phase.Ended = true
over phase.Stopped = true
over _ = false

is-over : (p : Phase) → has_ended p ≡ over (phase_of p)
is-over (Opening n) = refl
is-over Setting_up = refl
is-over (Recovering todo at) = refl
is-over Running = refl
is-over (Committing at) = refl
is-over (Failing b) = refl
is-over (Finished b) = refl
is-over Stopped = refl

lives : (m h : Bool) → (not m || h) ≡ false → m ≡ true
lives true h q = refl
lives false h q = absurd (true≢false q)

module _ (level : Bool) (job : Job) (cfg : Config) where
  abbrev Like : Played → Played → Type 0
  Like s t = LikePlays level job cfg s t

  abbrev W : Played → World
  W s = cluster cfg s

  -- What calms of two alike plays made: alike plays again, by the same events. A world had room for these.
  pub record CameOn (s t s' t' : Played) : Type 0 where
    pub still : Like s' t'
    pub es : List Event
    pub fs : List Event
    pub moves : Moves cfg s t s' t' es fs
    pub shifted : AreShifted s.cursor t.cursor es fs
    pub room : length s.events < length s'.events → length s.events < MAX_EVENTS
    pub room_there : length t.events < length t'.events → length t.events < MAX_EVENTS

  -- Both calms come to their ends; or both would pass a limit; or only the first would, if they need not be level.
  abbrev pub SameCame : Played → Played → Option Played → Option Played → Type 0
  SameCame s t None None = Unit {0}
  SameCame s t None (Some y) = level ≡ true → ⊥
  SameCame s t (Some x) None = ⊥
  SameCame s t (Some x) (Some y) = CameOn s t x y

  pub came-itself : (s t : Played) → Like s t → CameOn s t s t
  came-itself s t o = record { still = o; es = []; fs = []; moves = stay cfg s t; shifted = tt; room = λ l. absurd (omega (arith, l)); room_there = λ l. absurd (omega (arith, l)) }

  no-fewer : (s s' : Played) (es : List Event) → s'.events ≡ s.events ++ es → length s.events ≤ length s'.events
  no-fewer s s' es e = let l = ap (λ (xs : List Event). length xs) e ∙ length-append s.events es in omega (arith, l)

  room-on : (a b c most : ℕ) → a ≤ b → (a < b → a < most) → (b < c → b < most) → a < c → a < most
  room-on a b c most l f g h = by (nat_lt a b) refl
    where
      by : (x : Bool) → nat_lt a b ≡ x → a < most
      by true e = f (ltb-true a b e)
      by false e = let m = ltb-false a b e in let n = g (omega (arith, l, m, h)) in omega (arith, l, n)

  came-on : (s t a b s' t' : Played) → CameOn s t a b → CameOn a b s' t' → CameOn s t s' t'
  came-on s t a b s' t' x y =
      let m = x.moves in
      let n = y.moves in
      record {
        still = y.still;
        es = x.es ++ y.es;
        fs = x.fs ++ y.fs;
        moves = then-moves cfg s t a b s' t' x.es x.fs y.es y.fs x.moves y.moves;
        shifted = one-behind-other s.cursor t.cursor x.es x.fs y.es y.fs x.shifted (all-from-behind s.cursor t.cursor m.passed a.cursor b.cursor y.es y.fs m.here m.there y.shifted);
        room = room-on (length s.events) (length a.events) (length s'.events) MAX_EVENTS (no-fewer s a x.es m.events) x.room y.room;
        room_there = room-on (length t.events) (length b.events) (length t'.events) MAX_EVENTS (no-fewer t b x.fs m.events_there) x.room_there y.room_there;
      }

  behind : (s t a b : Played) → CameOn s t a b → (x y : Option Played) → SameCame a b x y → SameCame s t x y
  behind s t a b o None None c = tt
  behind s t a b o None (Some y) c = c
  behind s t a b o (Some x) None c = absurd c
  behind s t a b o (Some x) (Some y) c = came-on s t a b x y o c

  first-full : (s t : Played) (y : Option Played) → (level ≡ true → ⊥) → SameCame s t None y
  first-full s t None f = tt
  first-full s t (Some y) f = f

  abbrev Calms-on : (Played → Option Played) → Type 0
  Calms-on g = (s t : Played) → Like s t → SameCame s t (g s) (g t)

  -- ---- an event that comes next

  module _ (g : Played → Option Played) (more : Calms-on g) (s t : Played) (o : Like s t) where
    came-moved : (i at to : ℕ) → at ≡ s.cursor + i → to ≡ t.cursor + i → s.cursor + i ≤ length (W s).bag → CameOn s t (record s { cursor = at }) (record t { cursor = to })
    came-moved i at to here there ends = record {
      still = moved level job cfg s t o i at to here there ends;
      es = [];
      fs = [];
      moves = moved-moves level job cfg s t o i at to here there ends;
      shifted = tt;
      room = λ l. absurd (omega (arith, l));
      room_there = λ l. absurd (omega (arith, l));
    }

    module _ (x y : Next) (n : SameStep (W s) (W t) s.cursor t.cursor x y) (e f : Event) (same : IsSame (W s) (W t) e f) (shift : IsShifted s.cursor t.cursor e f) where
      abbrev S : Played
      S = record s { cursor = x.cursor }

      abbrev T : Played
      T = record t { cursor = y.cursor }

      still-moved : Like S T
      still-moved = moved level job cfg s t o n.passed x.cursor y.cursor n.here n.there n.fits

      moves : Moves cfg s t S T [] []
      moves = moved-moves level job cfg s t o n.passed x.cursor y.cursor n.here n.there n.fits

      one-packet : (i j q : ℕ) → i ≡ s.cursor + q → j ≡ t.cursor + q → IsOnePacket (W S).bag (W T).bag x.cursor y.cursor i j
      one-packet i j q a b = one-since cfg s t S T [] [] o.same.packets moves i j (inr (q, a, b))

      one-of : (v w : Event) → IsShifted s.cursor t.cursor v w → IsOneEvent cfg S T v w
      one-of (Deliver i) (Deliver j) p = one-packet i j p.0 p.1 p.2
      one-of (Deliver i) w p = absurd p
      one-of v w p = p

      one : IsOneEvent cfg S T e f
      one = one-of e f shift

      came-by : (now : not_now cfg (W s) e ≡ None) (here : fits-at cfg e S ≡ true) (there : fits-at cfg f T ≡ true) → CameOn s t (with-event e x.stepped S) (with-event f y.stepped T)
      came-by now here there = record {
        still = took-like level job cfg S T still-moved e f one x.stepped y.stepped n.stepped now here there;
        es = e ∷ [];
        fs = f ∷ [];
        moves = then-moves cfg s t S T (with-event e x.stepped S) (with-event f y.stepped T) [] [] (e ∷ []) (f ∷ []) moves (took-moves level job cfg S T still-moved e f one x.stepped y.stepped n.stepped now here there);
        shifted = (shift, tt);
        room = λ l. ltb-true (length s.events) MAX_EVENTS (and_parts (nat_lt (length s.events) MAX_EVENTS) (within cfg (W s) e) here).0;
        room_there = λ l. ltb-true (length t.events) MAX_EVENTS (and_parts (nat_lt (length t.events) MAX_EVENTS) (within cfg (W t) f) there).0;
      }

      taken-same : not_now cfg (W s) e ≡ None → SameCame s t (option_and_then g (taken job cfg (within cfg) e x.stepped S)) (option_and_then g (taken job cfg (within cfg) f y.stepped T))
      taken-same now = by (fits-at cfg e S) (fits-at cfg f T) refl refl
        where
          by : (b c : Bool) → fits-at cfg e S ≡ b → fits-at cfg f T ≡ c
              → SameCame s t (option_and_then g (if b then Some (with-event e x.stepped S) else None)) (option_and_then g (if c then Some (with-event f y.stepped T) else None))
          by true true p q =
              let c = came-by now p q in
              behind s t (with-event e x.stepped S) (with-event f y.stepped T) c (g (with-event e x.stepped S)) (g (with-event f y.stepped T)) (more (with-event e x.stepped S) (with-event f y.stepped T) c.still)
          by true false p q = absurd (true≢false (sym (fits-too level job cfg S T still-moved e f one now p) ∙ q))
          by false true p q = first-full s t (g (with-event f y.stepped T)) (λ l. true≢false (sym (fits-back level job cfg S T still-moved e f one now l q) ∙ p))
          by false false p q = tt

      calmed-same : SameCame s t (calmed job cfg (within cfg) g e x.stepped S (not_now cfg (W s) e)) (calmed job cfg (within cfg) g f y.stepped T (not_now cfg (W t) f))
      calmed-same = let a = stays level job cfg S T still-moved e f one in by (not_now cfg (W s) e) (not_now cfg (W t) f) refl a.permitted
        where
          by : (v w : Option Why) → not_now cfg (W s) e ≡ v → v ≡ w → SameCame s t (calmed job cfg (within cfg) g e x.stepped S v) (calmed job cfg (within cfg) g f y.stepped T w)
          by (Some r) (Some v) a d = came-moved n.passed x.cursor y.cursor n.here n.there n.fits
          by (Some r) None a d = absurd (true≢false (ap is_some d))
          by None (Some v) a d = absurd (true≢false (ap is_some (sym d)))
          by None None a d = taken-same a

    abbrev rest : Played → Next → Option Event → Option Played
    rest v x e = option_and_then (λ z. calmed job cfg (within cfg) g z x.stepped (record v { cursor = x.cursor }) (not_now cfg (W v) z)) e

    event-same : (i at to : ℕ) → at ≡ s.cursor + i → to ≡ t.cursor + i → (x y : Next) → SameStep (W s) (W t) s.cursor t.cursor x y → (e f : Option Event) → SameEvent (W s) (W t) e f → IsAt at e → IsAt to f
        → SameCame s t (rest s x e) (rest t y f)
    event-same i at to here there x y n None None r a b = tt
    event-same i at to here there x y n None (Some f) r a b = absurd r
    event-same i at to here there x y n (Some e) None r a b = absurd r
    event-same i at to here there x y n (Some e) (Some f) r a b = calmed-same x y n e f r (shifted-at (W s) (W t) s.cursor t.cursor i at to e f here there r a b)

    step-same : (i at to : ℕ) → at ≡ s.cursor + i → to ≡ t.cursor + i → s.cursor + i ≤ length (W s).bag → (x y : Option Next) → SameNext (W s) (W t) s.cursor t.cursor x y → NextAt at x → NextAt to y
        → SameCame s t (calmed_by job cfg (within cfg) None g (record s { cursor = at }) x) (calmed_by job cfg (within cfg) None g (record t { cursor = to }) y)
    step-same i at to here there ends None None n a b = came-moved i at to here there ends
    step-same i at to here there ends (Some x) None n a b = absurd n
    step-same i at to here there ends None (Some y) n a b = absurd n
    step-same i at to here there ends (Some x) (Some y) n a b = event-same i at to here there x y n x.event y.event n.event a b

  -- ---- all of it

  through-same : (k : ℕ) (s t : Played) → SamePlay job cfg (within cfg) s t → is_through cfg (W s) k ≡ is_through cfg (W t) k
  through-same k s t o = by ((W s).is_master k) refl
    where
      by : (b : Bool) → (W s).is_master k ≡ b → is_through cfg (W s) k ≡ is_through cfg (W t) k
      by true a =
          let x = is-over (seen_by cfg (W s) k).phase ∙ (ap over (phase-same cfg (within cfg) s.events t.events o.alike k a) ∙ sym (is-over (seen_by cfg (W t) k).phase)) in
          let m = o.alike.is_master k in
          λ i. not (m i) || x i
      by false d =
          let x : is_through cfg (W s) k ≡ true = λ i. not (d i) || has_ended (seen_by cfg (W s) k).phase in
          let c = sym (o.alike.is_master k) ∙ d in
          let y : is_through cfg (W t) k ≡ true = λ i. not (c i) || has_ended (seen_by cfg (W t) k).phase in
          x ∙ sym y

  abbrev at-next : Played → ℕ
  at-next s = cursor_at (W s) s.dropped s.cursor

  abbrev next-of : ℕ → Played → Option Next
  next-of k s = next_of job cfg (within cfg) (W s) k s.stepped (at-next s)

  calms-same : (k most : ℕ) → Calms-on (calms job cfg (within cfg) k None most)
  calms-same k zero s t o = came-itself s t o
  calms-same k (suc most) s t o = by (calms-same k most) (is_through cfg (W s) k) (is_through cfg (W t) k) refl (through-same k s t o.same)
    where
      by : Calms-on (calms job cfg (within cfg) k None most) → (b c : Bool) → is_through cfg (W s) k ≡ b → b ≡ c
          → SameCame s t (if b then Some s else calmed_by job cfg (within cfg) None (calms job cfg (within cfg) k None most) (record s { cursor = at-next s }) (next-of k s))
          (if c then Some t else calmed_by job cfg (within cfg) None (calms job cfg (within cfg) k None most) (record t { cursor = at-next t }) (next-of k t))
      by more true true on d = came-itself s t o
      by more true false on d = absurd (true≢false d)
      by more false true on d = absurd (true≢false (sym d))
      by more false false on d =
          let a = lives ((W s).is_master k) (has_ended (seen_by cfg (W s) k).phase) on in
          let shift = shifts job cfg (within cfg) s t k o.same a in
          step-same (calms job cfg (within cfg) k None most) more s t o (passed (W s) s.dropped s.cursor (drop s.cursor (W s).bag)) (at-next s) (at-next t) refl (ap (λ (n : ℕ). t.cursor + n) (sym shift))
          (fits job cfg (within cfg) s t k o.same a) (next-of k s) (next-of k t) (go_on job cfg (within cfg) s t k o.same a)
          (next-at job cfg (W s) k s.stepped (at-next s)) (next-at job cfg (W t) k t.stepped (at-next t))

  -- calms of the newest masters
  pub calm-same : (most : ℕ) (s t : Played) → Like s t → SameCame s t (calm job cfg (within cfg) most s) (calm job cfg (within cfg) most t)
  calm-same most s t o =
      let P : ℕ → Type 0 = λ k. SameCame s t (calm job cfg (within cfg) most s) (calms job cfg (within cfg) k None most t) in
      subst P o.same.alike.fence (calms-same (W s).fence most s t o)
