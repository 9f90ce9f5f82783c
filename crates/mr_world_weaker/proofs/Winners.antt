-- A recorded winner stays over a namespace of any kind: the history has its own premise, a segment is sealed as the next master starts, so who is superseded records
-- nothing more.
use Rattle.std.proofs.Common.{ℕ, ◌≤◌, ◌<◌, ◌≡◌, refl, sym, ◌∙◌, ap, subst, Bool, true, false, ◌&&◌, List, [], ◌∷◌, Option, Some, None, nat_eq, is_none, ◌⊎◌, inl, inr, arith}
use Rattle.std.proofs.lemmas.Bool.{and_parts, cases_lt, eqb-true}
use Rattle.mr_world_model.specs.Ids.{ContainerId}
use Rattle.mr_world_model.specs.Content.{Op}
use Rattle.mr_world_model.specs.Records.{History, Segment, with_segment}
use Rattle.mr_world_model.specs.Packets.{Caller, Config, Store, Names, Append_record, Flush, Read_history}
use Rattle.mr_world_model.specs.World.{World, Weather, Event, Start, Crash, Duty, LaunchOn, Deliver, ContainerStep, Compute, Die, NodeRestart, Expire, Made, call_of, caller_of, duty, duty_made, is_applied, is_stopped, op_made, op_of, opening_world, segment_left, unless_stopped}
use Rattle.mr_world_model.specs.Effect.{history_called, not_now}
use Rattle.mr_world_model.specs.Claims.{Limits, records, winner}
use Rattle.mr_world_model.proofs.Basic.{Extends, Extends-refl, Extends-trans, Extends-more, if_cases, is_none-eq, winner-extends}
use Rattle.mr_world_model.proofs.Grows.{Aged, Grown, aged, duty_master, grown_records, opening_aged, records_extend, with_kept, with_same}
use Rattle.mr_world_weaker.specs.Lacking.{Kind, answered_as, caller_in, slips, unguarded, weak_effect, weak_happens, weak_run, weak_world_of}
use Rattle.mr_world_weaker.specs.Weaker.{WinnerStaysAnyway}
use Rattle.mr_world_weaker.proofs.Slips.{weak_run-append}

-- ---- a segment that stays, or grows at its end

same-segment : (h : History) (k j : ℕ) → with_segment h k (h k) j ≡ h j
same-segment h k j = if_cases (λ (x : Segment). x ≡ h j) (nat_eq j k) (h k) (h j) (λ e. ap h (sym (eqb-true j k e))) (λ e. refl)

grown-same : (f k : ℕ) (h : History) → Grown f h (with_segment h k (h k))
grown-same f k h = record {
  older = λ j l. ap (λ (s : Segment). s.stable) (same-segment h k j);
  newest = subst (λ (s : Segment). Extends (h f).stable s.stable) (sym (same-segment h k f)) (Extends-refl _);
}

grown-none : (f : ℕ) (h : History) → Grown f h h
grown-none f h = record { older = λ j l. refl; newest = Extends-refl _ }

grown-newest : (f : ℕ) (h : History) (s : Segment) → Extends (h f).stable s.stable → Grown f h (with_segment h f s)
grown-newest f h s e = record {
  older = λ j l. ap (λ (x : Segment). x.stable) (if_cases (λ (x : Segment). x ≡ h j) (nat_eq j f) s (h j) (λ q. let p : j ≡ f = eqb-true j f q in absurd (omega arith)) (λ q. refl));
  newest = subst (λ (x : Segment). Extends (h f).stable x.stable) (sym (with_same h f s)) e;
}

sealed-same : (s : Segment) (call : Store) → s.is_sealed ≡ true → segment_left s call ≡ s
sealed-same s (Names op) t = refl
sealed-same s (Append_record r) t = rw t refl
sealed-same s Flush t = rw t refl
sealed-same s Read_history t = refl

call-extends : (s : Segment) (call : Store) → Extends s.stable (segment_left s call).stable
call-extends s (Names op) = Extends-refl _
call-extends s (Append_record r) = if_cases (λ (x : Segment). Extends s.stable x.stable) s.is_sealed _ _ (λ t. Extends-refl _) (λ f. Extends-refl _)
call-extends s Flush = if_cases (λ (x : Segment). Extends s.stable x.stable) s.is_sealed _ _ (λ t. Extends-refl _) (λ f. Extends-more _ _)
call-extends s Read_history = Extends-refl _

still-sealed : (s : Segment) (call : Store) → s.is_sealed ≡ true → (segment_left s call).is_sealed ≡ true
still-sealed s call t = ap (λ (x : Segment). x.is_sealed) (sealed-same s call t) ∙ t

-- ---- a call, whoever is heard

-- each older generation's segment is sealed
abbrev AreSealed : ℕ → History → Type 0
AreSealed f h = (j : ℕ) → j < f → (h j).is_sealed ≡ true

call-grown : (f k : ℕ) (h : History) (call : Store) → AreSealed f h → k ≤ f → Grown f h (with_segment h k (segment_left (h k) call))
call-grown f k h call o l = by (cases_lt k f)
  where
    by : (k < f) ⊎ (f ≤ k) → Grown f h (with_segment h k (segment_left (h k) call))
    by (inl b) = subst (λ s. Grown f h (with_segment h k s)) (sym (sealed-same (h k) call (o k b))) (grown-same f k h)
    by (inr b) = let e : f ≡ k = omega arith in subst (λ i. Grown f h (with_segment h i (segment_left (h i) call))) e (grown-newest f h (segment_left (h f) call) (call-extends (h f) call))

call-sealed : (f k : ℕ) (h : History) (call : Store) → AreSealed f h → AreSealed f (with_segment h k (segment_left (h k) call))
call-sealed f k h call o j l = with_kept (λ s. s.is_sealed ≡ true) h k j _ (o j l) (still-sealed (h k) call)

record Goes (f : ℕ) (h h' : History) : Type 0 where
  grown : Grown f h h'
  older : AreSealed f h'

rests : (f : ℕ) (h : History) → AreSealed f h → Goes f h h
rests f h o = record { grown = grown-none f h; older = o }

made-goes : (f : ℕ) (u : World) (m : Made) → AreSealed f u.history → m.app ≤ f → Goes f u.history (history_called u (Some m))
made-goes f u m o l = if_cases (Goes f u.history) (is_applied u m.app m.fault) _ _
    (λ t. record { grown = call-grown f m.app u.history m.call o l; older = call-sealed f m.app u.history m.call o }) (λ t. rests f u.history o)

named-goes : (f : ℕ) (u : World) (m : Made) (op : Op) → AreSealed f u.history → m.call ≡ Names op → Goes f u.history (history_called u (Some m))
named-goes f u m op o q = if_cases (Goes f u.history) (is_applied u m.app m.fault) _ _
    (λ t. record {
      grown = subst (λ c. Grown f u.history (with_segment u.history m.app (segment_left (u.history m.app) c))) (sym q) (grown-same f m.app u.history);
      older = call-sealed f m.app u.history m.call o;
    }) (λ t. rests f u.history o)

duty-goes : (cfg : Config) (f : ℕ) (u : World) (k : ℕ) (g : Weather) → AreSealed f u.history → k ≤ f → Goes f u.history (history_called u (call_of cfg u (Duty k g)))
unfolding call_of
duty-goes cfg f u k g o l = by (duty cfg u k)
  where
    by : (m : Option Store) → Goes f u.history (history_called u (duty_made k g m))
    by None = rests f u.history o
    by (Some call) = made-goes f u (record { app = k; call = call; fault = g }) o l

step-goes : (cfg : Config) (f : ℕ) (u : World) (c : ContainerId) (g : Weather) → AreSealed f u.history → Goes f u.history (history_called u (call_of cfg u (ContainerStep c g)))
unfolding call_of
step-goes cfg f u c g o = by (is_stopped u (caller_of u c)) (op_of cfg u c)
  where
    by : (b : Bool) (m : Option Op) → Goes f u.history (history_called u (unless_stopped b (op_made c.app g m)))
    by true m = rests f u.history o
    by false None = rests f u.history o
    by false (Some op) = named-goes f u (record { app = c.app; call = Names op; fault = g }) op o refl

-- ---- runs

-- a caller who slips through is answered over the same history, while the same masters live
lent : (P : History → (ℕ → Bool) → Type 0) (kd : Kind) (w : World) (o : Option Caller) → P w.history w.is_master → P (answered_as kd w o).history (answered_as kd w o).is_master
lent P kd w None p = p
lent P kd w (Some c) p = if_cases (λ (u : World). P u.history u.is_master) (slips kd w c) (unguarded kd w c) w (λ t. p) (λ t. p)

started-on : (kd : Kind) (w : World) (o : Option Caller) → Aged w → (j : ℕ) → (answered_as kd w o).is_master j ≡ true → j ≤ w.fence
started-on kd w o a = lent (λ h m. (j : ℕ) → m j ≡ true → j ≤ w.fence) kd w o a.masters_started

record Later (w u : World) : Type 0 where
  is_aged : Aged u
  extends : Extends (records w) (records u)

later-call : (kd : Kind) (w : World) (o : Option Caller) (h : History) → Goes w.fence (answered_as kd w o).history h → Goes w.fence w.history h
later-call kd w o h g = record {
  grown = lent (λ x m. Grown w.fence x h → Grown w.fence w.history h) kd w o (λ y. y) g.grown;
  older = g.older;
}

older-sealed : (kd : Kind) (w : World) (o : Option Caller) → Aged w → AreSealed w.fence (answered_as kd w o).history
older-sealed kd w o a = lent (λ h m. AreSealed w.fence h) kd w o a.older_sealed

later-on : (kd : Kind) (cfg : Config) (v w : World) (e : Event) → not_now cfg w e ≡ None → Later v w → Later v (weak_effect kd cfg w e)
unfolding weak_effect
later-on kd cfg v w (Duty k g) n l =
    let x = later-call kd w (caller_in w (Duty k g)) _ (duty-goes cfg w.fence (answered_as kd w (caller_in w (Duty k g))) k g (older-sealed kd w (caller_in w (Duty k g)) l.is_aged) (l.is_aged.masters_started k (duty_master cfg w k g n))) in
    record { is_aged = record { older_sealed = x.older; masters_started = started-on kd w (caller_in w (Duty k g)) l.is_aged }; extends = Extends-trans l.extends (grown_records w.fence w.history _ x.grown) }
later-on kd cfg v w (ContainerStep c g) n l =
    let x = later-call kd w (caller_in w (ContainerStep c g)) _ (step-goes cfg w.fence (answered_as kd w (caller_in w (ContainerStep c g))) c g (older-sealed kd w (caller_in w (ContainerStep c g)) l.is_aged)) in
    record { is_aged = record { older_sealed = x.older; masters_started = started-on kd w (caller_in w (ContainerStep c g)) l.is_aged }; extends = Extends-trans l.extends (grown_records w.fence w.history _ x.grown) }
later-on kd cfg v w (Start k kept) n l = let a = aged cfg w (Start k kept) l.is_aged n in
    record { is_aged = record { older_sealed = a.older_sealed; masters_started = a.masters_started }; extends = Extends-trans l.extends (records_extend cfg w (Start k kept) l.is_aged n) }
later-on kd cfg v w (Crash k kept) n l = let a = aged cfg w (Crash k kept) l.is_aged n in
    record { is_aged = record { older_sealed = a.older_sealed; masters_started = a.masters_started }; extends = Extends-trans l.extends (records_extend cfg w (Crash k kept) l.is_aged n) }
later-on kd cfg v w (LaunchOn k t m) n l = let a = aged cfg w (LaunchOn k t m) l.is_aged n in
    record { is_aged = record { older_sealed = a.older_sealed; masters_started = a.masters_started }; extends = Extends-trans l.extends (records_extend cfg w (LaunchOn k t m) l.is_aged n) }
later-on kd cfg v w (Deliver i) n l = let a = aged cfg w (Deliver i) l.is_aged n in
    record { is_aged = record { older_sealed = a.older_sealed; masters_started = a.masters_started }; extends = Extends-trans l.extends (records_extend cfg w (Deliver i) l.is_aged n) }
later-on kd cfg v w (Compute c b) n l = let a = aged cfg w (Compute c b) l.is_aged n in
    record { is_aged = record { older_sealed = a.older_sealed; masters_started = a.masters_started }; extends = Extends-trans l.extends (records_extend cfg w (Compute c b) l.is_aged n) }
later-on kd cfg v w (Die c) n l = let a = aged cfg w (Die c) l.is_aged n in
    record { is_aged = record { older_sealed = a.older_sealed; masters_started = a.masters_started }; extends = Extends-trans l.extends (records_extend cfg w (Die c) l.is_aged n) }
later-on kd cfg v w (NodeRestart m) n l = let a = aged cfg w (NodeRestart m) l.is_aged n in
    record { is_aged = record { older_sealed = a.older_sealed; masters_started = a.masters_started }; extends = Extends-trans l.extends (records_extend cfg w (NodeRestart m) l.is_aged n) }
later-on kd cfg v w (Expire k m) n l = let a = aged cfg w (Expire k m) l.is_aged n in
    record { is_aged = record { older_sealed = a.older_sealed; masters_started = a.masters_started }; extends = Extends-trans l.extends (records_extend cfg w (Expire k m) l.is_aged n) }

later : (kd : Kind) (cfg : Config) (within : Limits) (v w : World) (es : List Event) → Later v w → Later v (weak_run kd cfg within w es)
unfolding weak_run weak_happens
later kd cfg within v w [] l = l
later kd cfg within v w (e ∷ es) l = later kd cfg within v (weak_happens kd cfg within w e) es
    (if_cases (Later v) (is_none (not_now cfg w e) && within w e) (weak_effect kd cfg w e) w (λ t. later-on kd cfg v w e (is_none-eq (not_now cfg w e) (and_parts _ _ t).0) l) (λ t. l))

pub winner-stays-anyway : WinnerStaysAnyway
winner-stays-anyway kd cfg within es fs t a q = subst (λ (w : World). winner w t ≡ Some a) (sym (weak_run-append kd cfg within opening_world es fs))
    (winner-extends t a (later kd cfg within (weak_world_of kd cfg within es) (weak_world_of kd cfg within es) fs (record { is_aged = (later kd cfg within opening_world opening_world es (record { is_aged = opening_aged; extends = Extends-refl _ })).is_aged; extends = Extends-refl _ })).extends q)
