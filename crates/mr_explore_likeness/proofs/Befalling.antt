-- The same fault makes alike plays of alike plays: where it happens to the first, no limit forbids it in the second.
use Rattle.std.proofs.Common.{ℕ, suc, ◌+◌, ◌≡◌, inr, refl, sym, ◌∙◌, ap, subst, arith, Bool, true, false, nat_lt, List, [], ◌∷◌, ◌++◌, length, length-append, Option, Some, None, is_none, option_to_list, if◌then◌else◌}
use Rattle.std.proofs.lemmas.Bool.{true≢false}
use Rattle.std.proofs.lemmas.List.{append-nil}
use Rattle.mr_ids.specs.declared.id.TheConstants.{MAX_APP_ATTEMPTS}
use Rattle.mr_packet.specs.declared.packet.ContainerId.{ContainerId}
use Rattle.mr_world_events.specs.declared.why.Why.{Why}
use Rattle.mr_world_events.specs.declared.event.Weather.TheVariants.{Calm}
use Rattle.mr_world_model.specs.Packets.{Config, Envelope}
use Rattle.mr_world_model.specs.World.{World, Event, Start, Crash, Duty, LaunchOn, Deliver, ContainerStep, Die, NodeRestart, Expire}
use Rattle.mr_world_model.specs.Effect.{not_now}
use Rattle.mr_world_model.specs.Sequential.{Job}
use Rattle.mr_world_shows.proofs.Shown.{show_the_same}
use Rattle.mr_world_state.specs.Limits.{within}
use Rattle.mr_world.specs.Readings.{unflushed_in}
use Rattle.mr_play.specs.Played.{Played, losing, stepped_by}
use Rattle.mr_play_alike.proofs.Dropping.{drop_alike}
use Rattle.mr_explore_faults.specs.declared.fault.Fault.{Fault}
use Rattle.mr_explore_faults.specs.declared.fault.Fault.TheVariants as fault
use Rattle.mr_explore_faults.specs.Kinds.{later}
use Rattle.mr_explore.specs.Faults.{Fate, Happens, NotPermitted, PastLimit, and_then, befallen, befallen_by, happening, newest, starting, starts_next, unless_past}
use Rattle.mr_explore_likeness.specs.Plays.{LikePlays, cluster}
use Rattle.mr_explore_likeness.specs.Owed.{AreOneLater, IsOneLater}
use Rattle.mr_explore_likeness.proofs.Listing.{IsOneFault}
use Rattle.mr_explore_likeness.proofs.Moves.{Moves, both-behind, laters-since, one-since, then-moves}
use Rattle.mr_explore_likeness.proofs.Steps.{IsOneEvent, fits-at, fits-too, stays, took-like, took-moves, with-event}

module _ (level : Bool) (job : Job) (cfg : Config) where
  abbrev Like : Played → Played → Type 0
  Like s t = LikePlays level job cfg s t

  abbrev W : Played → World
  W s = cluster cfg s

  -- what a fault made of both
  pub record BefellBoth (s t s' t' : Played) : Type 0 where
    pub still : Like s' t'
    pub es : List Event
    pub fs : List Event
    pub moves : Moves cfg s t s' t' es fs
    pub as_many : length es ≡ length fs

  -- where it happens to the first, it happens to the second
  abbrev pub SameFate : Played → Played → Fate → Fate → Type 0
  SameFate s t (Happens x) (Happens y) = BefellBoth s t x y
  SameFate s t (Happens x) y = ⊥
  SameFate s t x y = Unit {0}

  -- ---- one event

  last-same : (s t : Played) (e f : Event) (a b : Option ContainerId) → IsOneEvent cfg s t e f → a ≡ b → stepped_by job cfg (within cfg) e a ≡ stepped_by job cfg (within cfg) f b
  last-same s t (Deliver i) (Deliver j) a b one l = l
  last-same s t (Deliver i) f a b one l = absurd one
  last-same s t e f a b one l = λ i. stepped_by job cfg (within cfg) (one i) (l i)

  happening-both : (s t : Played) → Like s t → (e f : Event) → IsOneEvent cfg s t e f → SameFate s t (happening job cfg (within cfg) e s) (happening job cfg (within cfg) f t)
  happening-both s t o e f one =
      let a = stays level job cfg s t o e f one in
      by (not_now cfg (W s) e) (not_now cfg (W t) f) refl a.permitted (fits-at cfg e s) (fits-at cfg f t) refl refl
    where
      by : (v w : Option Why) → not_now cfg (W s) e ≡ v → v ≡ w → (b c : Bool) → fits-at cfg e s ≡ b → fits-at cfg f t ≡ c
          → SameFate s t (if is_none v then unless_past s (if b then Some (with-event e (stepped_by job cfg (within cfg) e s.stepped) s) else None) else NotPermitted)
          (if is_none w then unless_past t (if c then Some (with-event f (stepped_by job cfg (within cfg) f t.stepped) t) else None) else NotPermitted)
      by (Some r) w n d b c p q = tt
      by None (Some r) n d b c p q = absurd (true≢false (ap is_none d))
      by None None n d true true p q =
          let l = last-same s t e f s.stepped t.stepped one o.same.stepped in
          record {
            still = took-like level job cfg s t o e f one (stepped_by job cfg (within cfg) e s.stepped) (stepped_by job cfg (within cfg) f t.stepped) l n p q;
            es = e ∷ [];
            fs = f ∷ [];
            moves = took-moves level job cfg s t o e f one (stepped_by job cfg (within cfg) e s.stepped) (stepped_by job cfg (within cfg) f t.stepped) l n p q;
            as_many = refl;
          }
      by None None n d true false p q = absurd (true≢false (sym (fits-too level job cfg s t o e f one n p) ∙ q))
      by None None n d false c p q = tt

  -- ---- one behind the other

  starting-both : (s t : Played) → Like s t → (k kept : ℕ) → SameFate s t (starting job cfg (within cfg) k kept s) (starting job cfg (within cfg) k kept t)
  starting-both s t o k kept = by (nat_lt k MAX_APP_ATTEMPTS)
    where
      by : (b : Bool) → SameFate s t (if b then happening job cfg (within cfg) (Start (suc k) kept) s else PastLimit s) (if b then happening job cfg (within cfg) (Start (suc k) kept) t else PastLimit t)
      by true = happening-both s t o (Start (suc k) kept) (Start (suc k) kept) refl
      by false = tt

  as-many-both : (es fs gs hs : List Event) → length es ≡ length fs → length gs ≡ length hs → length (es ++ gs) ≡ length (fs ++ hs)
  as-many-both es fs gs hs a b = length-append es gs ∙ ((λ i. a i + b i) ∙ sym (length-append fs hs))

  behind : (s t a b : Played) → BefellBoth s t a b → (x y : Fate) → SameFate a b x y → SameFate s t x y
  behind s t a b o (Happens x) (Happens y) c =
      record { still = c.still; es = o.es ++ c.es; fs = o.fs ++ c.fs; moves = then-moves cfg s t a b x y o.es o.fs c.es c.fs o.moves c.moves; as_many = as-many-both o.es o.fs c.es c.fs o.as_many c.as_many }
  behind s t a b o (Happens x) NotPermitted c = absurd c
  behind s t a b o (Happens x) (PastLimit y) c = absurd c
  behind s t a b o NotPermitted y c = tt
  behind s t a b o (PastLimit x) y c = tt

  then-both : (s t : Played) (h : Played → Fate) → ((a b : Played) → Like a b → SameFate a b (h a) (h b)) → (x y : Fate) → SameFate s t x y → SameFate s t (and_then h x) (and_then h y)
  then-both s t h more (Happens x) (Happens y) c = behind s t x y c (h x) (h y) (more x y c.still)
  then-both s t h more (Happens x) NotPermitted c = absurd c
  then-both s t h more (Happens x) (PastLimit y) c = absurd c
  then-both s t h more NotPermitted y c = tt
  then-both s t h more (PastLimit x) y c = tt

  next-both : (s t : Played) → Like s t → (k : ℕ) → SameFate s t (starts_next job cfg (within cfg) k (unflushed_in (W s) k) s) (starts_next job cfg (within cfg) k (unflushed_in (W t) k) t)
  next-both s t o k =
      let shown = show_the_same cfg (within cfg) s.events t.events o.same.alike in
      subst (λ (z : Option ℕ). SameFate s t (starts_next job cfg (within cfg) k (unflushed_in (W s) k) s) (starts_next job cfg (within cfg) k z t)) (shown.unflushed k) (by (unflushed_in (W s) k))
    where
      by : (z : Option ℕ) → SameFate s t (starts_next job cfg (within cfg) k z s) (starts_next job cfg (within cfg) k z t)
      by None = starting-both s t o k 0
      by (Some n) = tt

  lost-both : (s t : Played) → Like s t → (i j d : ℕ) → i ≡ s.cursor + d → j ≡ t.cursor + d → BefellBoth s t (losing job cfg (within cfg) i s) (losing job cfg (within cfg) j t)
  lost-both s t o i j d x y =
      subst (λ (a : ℕ). BefellBoth s t (losing job cfg (within cfg) a s) (losing job cfg (within cfg) j t)) (sym x)
      (subst (λ (b : ℕ). BefellBoth s t (losing job cfg (within cfg) (s.cursor + d) s) (losing job cfg (within cfg) b t)) (sym y) at)
    where
      at : BefellBoth s t (losing job cfg (within cfg) (s.cursor + d) s) (losing job cfg (within cfg) (t.cursor + d) t)
      at = record {
        still = record {
          same = drop_alike job cfg (within cfg) d s t o.same;
          delivered = o.delivered;
          asking = o.asking;
          history = o.history;
          no_nearer = record { events = o.no_nearer.events; packets = o.no_nearer.packets; launches = o.no_nearer.launches };
          no_farther = λ l. let n = o.no_farther l in record { events = n.events; packets = n.packets; launches = n.launches };
        };
        es = [];
        fs = [];
        moves = record {
          passed = 0;
          here = omega arith;
          there = omega arith;
          added = [];
          bag = sym (append-nil (W s).bag);
          bag_there = sym (append-nil (W t).bag);
          events = sym (append-nil s.events);
          events_there = sym (append-nil t.events);
        };
        as_many = refl;
      }

  -- ---- faults

  module _ (s t : Played) (o : Like s t) where
    abbrev IsOne : Fault → Fault → Type 0
    IsOne f g = IsOneFault (W s).bag (W t).bag s.cursor t.cursor f g

    abbrev Fates : ℕ → Fault → Fault → Type 0
    Fates k f g = SameFate s t (befallen_by job cfg (within cfg) k f s) (befallen_by job cfg (within cfg) k g t)

    own : (k : ℕ) (f g : Fault) → f ≡ g → Fates k f f → Fates k f g
    own k f g same x = subst (λ (z : Fault). Fates k f z) same x

    event : (e : Event) → IsOneEvent cfg s t e e → SameFate s t (happening job cfg (within cfg) e s) (happening job cfg (within cfg) e t)
    event e one = happening-both s t o e e one

    by-newest : (k : ℕ) (f g : Fault) → IsOne f g → Fates k f g
    by-newest k (fault.Lost i) (fault.Lost j) same = lost-both s t o i j same.0 same.1 same.2
    by-newest k (fault.Lost i) g same = absurd same
    by-newest k (fault.Late i) (fault.Late j) same = happening-both s t o (Deliver i) (Deliver j) same
    by-newest k (fault.Late i) g same = absurd same
    by-newest k (fault.Again i) (fault.Again j) same = happening-both s t o (Deliver i) (Deliver j) same
    by-newest k (fault.Again i) g same = absurd same
    by-newest k (fault.Duty w) g same = own k (fault.Duty w) g same (event (Duty k w) refl)
    by-newest k (fault.Step c w) g same = own k (fault.Step c w) g same (event (ContainerStep c w) refl)
    by-newest k (fault.Crash n) g same =
        own k (fault.Crash n) g same
        (then-both s t (starting job cfg (within cfg) k 0) (λ a b x. starting-both a b x k 0) (happening job cfg (within cfg) (Crash k n) s) (happening job cfg (within cfg) (Crash k n) t) (event (Crash k n) refl))
    by-newest k (fault.Halt n) g same = own k (fault.Halt n) g same (event (Crash k n) refl)
    by-newest k fault.Next g same = own k fault.Next g same (next-both s t o k)
    by-newest k (fault.Superseded n) g same = own k (fault.Superseded n) g same (starting-both s t o k n)
    by-newest k (fault.SupersededLate n) g same =
        own k (fault.SupersededLate n) g same
        (then-both s t (happening job cfg (within cfg) (Duty k Calm)) (λ a b x. happening-both a b x (Duty k Calm) (Duty k Calm) refl) (starting job cfg (within cfg) k n s) (starting job cfg (within cfg) k n t) (starting-both s t o k n))
    by-newest k (fault.Death c) g same = own k (fault.Death c) g same (event (Die c) refl)
    by-newest k (fault.Restart n) g same = own k (fault.Restart n) g same (event (NodeRestart n) refl)
    by-newest k (fault.Expiry n) g same = own k (fault.Expiry n) g same (event (Expire k n) refl)
    by-newest k (fault.Attempt x n) g same = own k (fault.Attempt x n) g same (event (LaunchOn k x n) refl)

    pub same-fate : (f g : Fault) → IsOne f g → SameFate s t (befallen job cfg (within cfg) f s) (befallen job cfg (within cfg) g t)
    same-fate f g one =
        let P : ℕ → Type 0 = λ k. SameFate s t (befallen job cfg (within cfg) f s) (befallen_by job cfg (within cfg) k g t) in
        subst P o.same.alike.fence (by-newest (newest job cfg (within cfg) s) f g one)

    -- ---- what was put off

    module _ (a b : Played) (c : BefellBoth s t a b) where
      abbrev Ones : List Fault → List Fault → Type 0
      Ones xs ys = AreOneLater (W a).bag (W b).bag a.cursor b.cursor xs ys

      own-later : (f g : Fault) → f ≡ g → Ones (option_to_list (later f)) (option_to_list (later f)) → Ones (option_to_list (later f)) (option_to_list (later g))
      own-later f g same x = subst (λ (z : Fault). Ones (option_to_list (later f)) (option_to_list (later z))) same x

      one-later : (f g : Fault) → IsOne f g → Ones (option_to_list (later f)) (option_to_list (later g))
      one-later (fault.Lost i) (fault.Lost j) same = (one-since cfg s t a b c.es c.fs o.same.packets c.moves i j (inr same), tt)
      one-later (fault.Lost i) g same = absurd same
      one-later (fault.Late i) (fault.Late j) same = tt
      one-later (fault.Late i) g same = absurd same
      one-later (fault.Again i) (fault.Again j) same = tt
      one-later (fault.Again i) g same = absurd same
      one-later (fault.Halt n) g same = own-later (fault.Halt n) g same (tt, tt)
      one-later f g same = own-later f g same tt

      pub laters-on : (xs ys : List Fault) → AreOneLater (W s).bag (W t).bag s.cursor t.cursor xs ys → Ones xs ys
      laters-on xs ys ones = laters-since cfg s t a b c.es c.fs o.same.packets c.moves xs ys ones

      pub more-later : (xs ys : List Fault) (f g : Fault) → AreOneLater (W s).bag (W t).bag s.cursor t.cursor xs ys → IsOne f g → Ones (xs ++ option_to_list (later f)) (ys ++ option_to_list (later g))
      more-later xs ys f g ones one = both-behind (W a).bag (W b).bag a.cursor b.cursor xs ys (option_to_list (later f)) (option_to_list (later g)) (laters-on xs ys ones) (one-later f g one)

-- a thing that was put off comes as one fault
pub as-fault : (xs ys : List Envelope) (m n : ℕ) (f g : Fault) → IsOneLater xs ys m n f g → IsOneFault xs ys m n f g
as-fault xs ys m n (fault.Late i) (fault.Late j) o = o
as-fault xs ys m n (fault.Late i) g o = absurd o
as-fault xs ys m n fault.Next fault.Next o = refl
as-fault xs ys m n fault.Next g o = absurd o
as-fault xs ys m n f g o = absurd o
