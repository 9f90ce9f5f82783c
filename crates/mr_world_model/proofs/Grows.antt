-- The records only grow at their end, so a recorded winner stays.
use Rattle.std.proofs.Common.{ℕ, zero, suc, ◌≤◌, ◌<◌, ◌≡◌, refl, sym, ◌∙◌, ap, subst, Bool, true, false, List, ◌++◌, Option, Some, None, nat_eq, ◌⊎◌, inl, inr, append_assoc, arith}
use Rattle.std.proofs.lemmas.Bool.{and_parts, false≢true, eqb-true, lt-ltb, eq-eqb, ne_eqb, cases_lt}
use Rattle.std.proofs.lemmas.Bool.Decides.{nat_tests}
use Rattle.mr_world_model.specs.Content.{Op}
use Rattle.mr_world_model.specs.Records.{History, Segment, records_below, sealed_below, sealed, with_segment, with_version}
use Rattle.mr_world_model.specs.Packets.{Config, Store, Names, Append_record, Flush, Read_history}
use Rattle.mr_world_model.specs.World.{World, Event, Start, Crash, Duty, LaunchOn, Deliver, ContainerStep, Compute, Die, NodeRestart, Expire, unless_stopped, is_stopped, caller_of, Weather, Calm, Unavailable, Unanswered, Made, call_of, opening_world, segment_left, is_applied, duty, duty_made, op_made, op_of}
use Rattle.mr_world_model.specs.Effect.{effect, not_now, run, history_called, fence_after}
use Rattle.mr_world_model.specs.Claims.{Limits, records, WinnerStays, world_of}
use Rattle.mr_world_model.proofs.Basic.{along, run-append, Extends, Extends-refl, Extends-trans, Extends-more, winner-extends, if_cases, unless_parts, or_parts}

-- what a change of the segments may do, f being the newest generation
pub record Grown (f : ℕ) (h h' : History) : Type 0 where
  pub older : (j : ℕ) → j < f → (h' j).stable ≡ (h j).stable
  pub newest : Extends (h f).stable (h' f).stable

pub same_below : (h h' : History) (n : ℕ) → ((j : ℕ) → j < n → (h' j).stable ≡ (h j).stable) → records_below h' n ≡ records_below h n
unfolding records_below
same_below h h' zero e = refl
same_below h h' (suc n) e = rw (same_below h h' n (λ j l. e j (omega arith)), e n (omega arith)) refl

pub grown_records : (f : ℕ) (h h' : History) → Grown f h h' → Extends (records_below h (suc f)) (records_below h' (suc f))
unfolding records_below
grown_records f h h' g = record {
  rest = g.newest.rest;
  is = append_assoc (records_below h f) (h f).stable g.newest.rest ∙ (ap (λ x. records_below h f ++ x) g.newest.is ∙ ap (λ x. x ++ (h' f).stable) (sym (same_below h h' f g.older)));
}

pub one_more : (h : History) (f : ℕ) → Extends (records_below h f) (records_below h (suc f))
unfolding records_below
one_more h f = Extends-more _ _

sealed_extends : (kept : ℕ) (s : Segment) → Extends s.stable (sealed kept s).stable
sealed_extends kept s = if_cases (λ (x : Segment). Extends s.stable x.stable) s.is_sealed _ _ (λ t. Extends-refl _) (λ f. Extends-more _ _)

sealed_is_sealed : (kept : ℕ) (s : Segment) → (sealed kept s).is_sealed ≡ true
sealed_is_sealed kept s = if_cases (λ (x : Segment). x.is_sealed ≡ true) s.is_sealed _ _ (λ t. t) (λ f. refl)

sealed_again : (kept : ℕ) (s : Segment) → s.is_sealed ≡ true → sealed kept s ≡ s
sealed_again kept s t = rw t refl

called_extends : (s : Segment) (call : Store) → Extends s.stable (segment_left s call).stable
called_extends s (Names op) = Extends-refl _
called_extends s (Append_record r) = if_cases (λ (x : Segment). Extends s.stable x.stable) s.is_sealed _ _ (λ t. Extends-refl _) (λ f. Extends-refl _)
called_extends s Flush = if_cases (λ (x : Segment). Extends s.stable x.stable) s.is_sealed _ _ (λ t. Extends-refl _) (λ f. Extends-more _ _)
called_extends s Read_history = Extends-refl _

-- what is known of every world that is reached
pub record Aged (w : World) : Type 0 where
  pub older_sealed : (j : ℕ) → j < w.fence → (w.history j).is_sealed ≡ true
  pub masters_started : (k : ℕ) → w.is_master k ≡ true → k ≤ w.fence

pub with_same : (h : History) (k : ℕ) (s : Segment) → with_segment h k s k ≡ s
with_same h k s = rw (eq-eqb k k refl) refl

with_other : (h : History) (k j : ℕ) (s : Segment) → (j ≡ k → ⊥) → with_segment h k s j ≡ h j
with_other h k j s n = rw (ne_eqb j k n) refl

grown_at : (f : ℕ) (h : History) (s : Segment) → Extends (h f).stable s.stable → Grown f h (with_segment h f s)
grown_at f h s e = record {
  older = λ j l. ap (λ x. x.stable) (with_other h f j s (λ p. omega arith));
  newest = rw (with_same h f s) e;
}

grown_refl : (f : ℕ) (h : History) → Grown f h h
grown_refl f h = record { older = λ j l. refl; newest = Extends-refl _ }

pub applied_newest : (w : World) (k : ℕ) (f : Weather) → is_applied w k f ≡ true → w.fence ≤ k
applied_newest w k Calm e = grind (arith, nat_tests)
applied_newest w k Unanswered e = grind (arith, nat_tests)
applied_newest w k Unavailable e = cc

grown_made : (w : World) (m : Made) → m.app ≤ w.fence → Grown w.fence w.history (history_called w (Some m))
grown_made w m l = if_cases (λ x. Grown w.fence w.history x) (is_applied w m.app m.fault) _ _
    (λ t. let e : m.app ≡ w.fence = omega (arith, applied_newest w m.app m.fault t) in
    rw e (grown_at w.fence w.history _ (called_extends _ m.call)))
    (λ f. grown_refl _ _)

-- a container's call is none of the history
grown_op : (w : World) (k : ℕ) (f : Weather) (o : Option Op) → Grown w.fence w.history (history_called w (op_made k f o))
grown_op w k f None = grown_refl _ _
grown_op w k f (Some op) = if_cases (λ x. Grown w.fence w.history x) (is_applied w k f) _ _
    (λ t. record {
      older = λ j l. ap (λ (s : Segment). s.stable) (if_cases (λ x. x ≡ w.history j) (nat_eq j k) (w.history k) (w.history j) (λ e. ap w.history (sym (eqb-true j k e))) (λ e. refl));
      newest = rw (if_cases (λ x. x ≡ w.history w.fence) (nat_eq w.fence k) (w.history k) (w.history w.fence) (λ e. ap w.history (sym (eqb-true w.fence k e))) (λ e. refl)) (Extends-refl _);
    })
    (λ f. grown_refl _ _)

-- nor where a bar may turn it away
grown_step : (w : World) (k : ℕ) (f : Weather) (o : Option Op) (b : Bool) → Grown w.fence w.history (history_called w (unless_stopped b (op_made k f o)))
grown_step w k f o true = grown_refl _ _
grown_step w k f o false = grown_op w k f o

grown_duty : (w : World) (k : ℕ) (f : Weather) (o : Option Store) → k ≤ w.fence → Grown w.fence w.history (history_called w (duty_made k f o))
grown_duty w k f None l = grown_refl _ _
grown_duty w k f (Some call) l = grown_made w _ l

grown_crash : (w : World) (k kept : ℕ) → Aged w → k ≤ w.fence → Grown w.fence w.history (with_segment w.history k (sealed kept (w.history k)))
grown_crash w k kept a l = by (cases_lt k w.fence)
  where
    by : (k < w.fence) ⊎ (w.fence ≤ k) → Grown w.fence w.history (with_segment w.history k (sealed kept (w.history k)))
    by (inl b) = rw (sealed_again kept (w.history k) (a.older_sealed k b)) (record {
      older = λ j m. ap (λ (s : Segment). s.stable) (if_cases (λ x. x ≡ w.history j) (nat_eq j k) (w.history k) (w.history j) (λ e. ap w.history (sym (eqb-true j k e))) (λ e. refl));
      newest = rw (with_other w.history k w.fence (w.history k) (λ p. omega arith)) (Extends-refl _);
    })
    by (inr b) = let e : k ≡ w.fence = omega arith in rw e (grown_at w.fence w.history _ (sealed_extends kept (w.history w.fence)))

grown_start : (w : World) (v kept : ℕ) → Aged w → Grown w.fence w.history (with_version v (suc w.fence) (sealed_below (suc w.fence) kept w.history))
grown_start w v kept a = record {
  older = λ j l. ap (λ (s : Segment). s.stable) (with_other (sealed_below (suc w.fence) kept w.history) (suc w.fence) j _ (λ p. omega arith)) ∙ rw (lt-ltb j (suc w.fence) (omega arith), sealed_again kept (w.history j) (a.older_sealed j l)) refl;
  newest = rw (with_other (sealed_below (suc w.fence) kept w.history) (suc w.fence) w.fence (record (sealed_below (suc w.fence) kept w.history (suc w.fence)) { version = v }) (λ p. omega arith), lt-ltb w.fence (suc w.fence) (omega arith)) (sealed_extends kept (w.history w.fence));
}

pub is_started : (cfg : Config) (w : World) (k kept : ℕ) → not_now cfg w (Start k kept) ≡ None → k ≡ suc w.fence
unfolding not_now
is_started cfg w k kept e = eqb-true k (suc w.fence) (unless_parts _ _ _ e).0

pub duty_master : (cfg : Config) (w : World) (k : ℕ) (f : Weather) → not_now cfg w (Duty k f) ≡ None → w.is_master k ≡ true
unfolding not_now
duty_master cfg w k f e = (unless_parts _ _ _ e).0

pub crash_master : (cfg : Config) (w : World) (k kept : ℕ) → not_now cfg w (Crash k kept) ≡ None → w.is_master k ≡ true
unfolding not_now
crash_master cfg w k kept e = (unless_parts _ _ _ e).0

-- each event lets the records only grow
pub grown : (cfg : Config) (w : World) (e : Event) → Aged w → not_now cfg w e ≡ None → Grown w.fence w.history (effect cfg w e).history
unfolding call_of
grown cfg w (Start k kept) a n = rw (is_started cfg w k kept n) (grown_start w _ kept a)
grown cfg w (Crash k kept) a n = grown_crash w k kept a (a.masters_started k (crash_master cfg w k kept n))
grown cfg w (Duty k f) a n = grown_duty w k f (duty cfg w k) (a.masters_started k (duty_master cfg w k f n))
grown cfg w (ContainerStep c f) a n = grown_step w c.app f (op_of cfg w c) (is_stopped w (caller_of w c))
grown cfg w (LaunchOn k t m) a n = grown_refl _ _
grown cfg w (Deliver i) a n = grown_refl _ _
grown cfg w (Compute c bytes) a n = grown_refl _ _
grown cfg w (Die c) a n = grown_refl _ _
grown cfg w (NodeRestart m) a n = grown_refl _ _
grown cfg w (Expire k m) a n = grown_refl _ _

segment_left_sealed : (s : Segment) (call : Store) → s.is_sealed ≡ true → (segment_left s call).is_sealed ≡ true
segment_left_sealed s (Names op) t = t
segment_left_sealed s (Append_record r) t = rw t refl
segment_left_sealed s Flush t = rw t refl
segment_left_sealed s Read_history t = t

pub with_kept : (P : Segment → Type 0) (h : History) (k j : ℕ) (s : Segment) → P (h j) → (P (h k) → P s) → P (with_segment h k s j)
with_kept P h k j s p f = if_cases P (nat_eq j k) s (h j) (λ e. f (subst (λ x. P (h x)) (eqb-true j k e) p)) (λ e. p)

called_sealed : (w : World) (m : Option Made) (j : ℕ) → (w.history j).is_sealed ≡ true → (history_called w m j).is_sealed ≡ true
called_sealed w None j t = t
called_sealed w (Some m) j t = if_cases (λ (h : History). (h j).is_sealed ≡ true) (is_applied w m.app m.fault) _ _
    (λ e. with_kept (λ s. s.is_sealed ≡ true) w.history m.app j _ t (segment_left_sealed (w.history m.app) m.call)) (λ e. t)

pub aged : (cfg : Config) (w : World) (e : Event) → Aged w → not_now cfg w e ≡ None → Aged (effect cfg w e)
aged cfg w (Start k kept) a n = let e = is_started cfg w k kept n in record {
  older_sealed = λ j l. with_kept (λ s. s.is_sealed ≡ true) (sealed_below k kept w.history) k j _ (let q : (sealed_below k kept w.history j).is_sealed ≡ true = rw (lt-ltb j k l) (sealed_is_sealed kept (w.history j)) in q) (λ t. t);
  masters_started = λ j t. le_started j (or_parts _ _ t);
}
  where
    le_started : (j : ℕ) → (nat_eq j k ≡ true) ⊎ (w.is_master j ≡ true) → j ≤ k
    le_started j (inl p) = let q = eqb-true j k p in omega arith
    le_started j (inr p) = let q = a.masters_started j p in let e = is_started cfg w k kept n in omega arith
aged cfg w (Crash k kept) a n = record {
  older_sealed = λ j l. with_kept (λ s. s.is_sealed ≡ true) w.history k j _ (a.older_sealed j l) (λ t. sealed_is_sealed kept (w.history k));
  masters_started = λ j t. a.masters_started j (and_parts _ _ t).1;
}
aged cfg w (Duty k f) a n = record { older_sealed = λ j l. called_sealed w _ j (a.older_sealed j l); masters_started = a.masters_started }
aged cfg w (ContainerStep c f) a n = record { older_sealed = λ j l. called_sealed w _ j (a.older_sealed j l); masters_started = a.masters_started }
aged cfg w (LaunchOn k t m) a n = record { older_sealed = λ j l. called_sealed w _ j (a.older_sealed j l); masters_started = a.masters_started }
aged cfg w (Deliver i) a n = record { older_sealed = λ j l. called_sealed w _ j (a.older_sealed j l); masters_started = a.masters_started }
aged cfg w (Compute c bytes) a n = record { older_sealed = λ j l. called_sealed w _ j (a.older_sealed j l); masters_started = a.masters_started }
aged cfg w (Die c) a n = record { older_sealed = λ j l. called_sealed w _ j (a.older_sealed j l); masters_started = a.masters_started }
aged cfg w (Expire k m) a n = record { older_sealed = λ j l. called_sealed w _ j (a.older_sealed j l); masters_started = a.masters_started }
aged cfg w (NodeRestart m) a n = record { older_sealed = λ j l. called_sealed w _ j (a.older_sealed j l); masters_started = a.masters_started }

records_step : (cfg : Config) (w : World) (e : Event) → Grown w.fence w.history (effect cfg w e).history → (fence_after w e ≡ w.fence) ⊎ (fence_after w e ≡ suc w.fence) →
    Extends (records w) (records (effect cfg w e))
records_step cfg w e g (inl same) = rw same (grown_records w.fence w.history _ g)
records_step cfg w e g (inr next) = rw next (Extends-trans (grown_records w.fence w.history _ g) (one_more _ _))

pub fence_step : (cfg : Config) (w : World) (e : Event) → not_now cfg w e ≡ None → (fence_after w e ≡ w.fence) ⊎ (fence_after w e ≡ suc w.fence)
fence_step cfg w (Start k kept) n = inr (is_started cfg w k kept n)
fence_step cfg w (Crash k kept) n = inl refl
fence_step cfg w (Duty k f) n = inl refl
fence_step cfg w (ContainerStep c f) n = inl refl
fence_step cfg w (LaunchOn k t m) n = inl refl
fence_step cfg w (Deliver i) n = inl refl
fence_step cfg w (Compute c bytes) n = inl refl
fence_step cfg w (Die c) n = inl refl
fence_step cfg w (NodeRestart m) n = inl refl
fence_step cfg w (Expire k m) n = inl refl

pub records_extend : (cfg : Config) (w : World) (e : Event) → Aged w → not_now cfg w e ≡ None → Extends (records w) (records (effect cfg w e))
records_extend cfg w e a n = records_step cfg w e (grown cfg w e a n) (fence_step cfg w e n)

-- from a world that is reached, the records grow at their end
pub record Later (w u : World) : Type 0 where
  pub is_aged : Aged u
  pub extends : Extends (records w) (records u)

pub later : (cfg : Config) (within : Limits) (w : World) (es : List Event) → Aged w → Later w (run cfg within w es)
later cfg within w es a = along (λ u. Later w u) cfg within
    (λ u e l n. record { is_aged = aged cfg u e l.is_aged n; extends = Extends-trans l.extends (records_extend cfg u e l.is_aged n) })
    w es (record { is_aged = a; extends = Extends-refl _ })

pub opening_aged : Aged opening_world
opening_aged = record { older_sealed = λ j l. absurd (omega arith); masters_started = λ k t. absurd (false≢true t) }

pub winner_stays : (cfg : Config) (within : Limits) → WinnerStays cfg within
winner_stays cfg within es fs t a e =
    rw (run-append cfg within opening_world es fs)
    (winner-extends t a (later cfg within (world_of cfg within es) fs (later cfg within opening_world es opening_aged).is_aged).extends e)
