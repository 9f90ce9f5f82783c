-- What is read off all calls: the attempts that arrived are distinct and of the task, numbers are fresh, and of each attempt
-- its state tells what was heard.
use Rattle.std.proofs.Common.{◌≡◌, ◌≤◌, ◌<◌, ◌+◌, ◌-◌, ℕ, Bool, true, false, ◌&&◌, ◌||◌, not, cond, nat_le, nat_lt, List, [], ◌∷◌, ◌++◌, count_by, Some, None, is_none, refl, sym, ap, ◌∙◌, true≢false, subst, arith}
use Rattle.std.proofs.lemmas.Bool.Decides.{nat_tests}
use Rattle.mr_ids.specs.Attempt.{Attempt}
use Rattle.mr_ids.specs.declared.id.TaskId.{TaskId}
use Rattle.mr_ids.specs.Same.{same_task}
use Rattle.mr_grant.specs.Attempts.{same_attempt, has, first_of}
use Rattle.mr_grant.proofs.Same.{same-is}
use Rattle.mr_task.specs.declared.fault.TaskFault.{TaskFault}
use Rattle.mr_task.specs.Calls.{TaskCall, Launches, Hears, Asks, Reports, Fails, Ends, Dies, Records, Recovers, Loses}
use Rattle.mr_task.specs.Readings.{Seen, seen, next_seen, AreDistinct, is_reduce, is_live, is_won, may_accept, launch_refusal, next_attempt, first_attempt_number, numbered_up_to, may_recover, after_launch}
use Rattle.mr_ids.proofs.Same.{task-is}
use Rattle.mr_task.proofs.Same.{apart}
use Rattle.mr_task.proofs.Lists.{has-append, distinct-append}

-- ---- tests

pub left : (x y : Bool) → (x && y) ≡ true → x ≡ true
left true y e = refl
left false y e = e

pub right : (x y : Bool) → (x && y) ≡ true → y ≡ true
right true y e = e
right false y e = absurd (true≢false (sym e))

pub is_false : (x : Bool) → not x ≡ true → x ≡ false
is_false true e = absurd (true≢false (sym e))
is_false false e = refl

either : (P : Seen → Type 0) (c : Bool) (x y : Seen) → P x → P y → P (cond c x y)
either P true x y p q = p
either P false x y p q = q

-- what holds where none is refused
pub record MayLaunch (s : Seen) : Type 0 where
  pub not_won : is_won s ≡ false
  pub room : nat_le 2 (count_by (is_live s) s.arrived) ≡ false
  pub numbers : nat_le 1000 s.numbered ≡ false

may : (x y z : Bool) (f g h : TaskFault) → is_none (cond x (Some f) (cond y (Some g) (cond z (Some h) None))) ≡ true → (x ≡ false) × (y ≡ false) × (z ≡ false)
may true y z f g h e = absurd (true≢false (sym e))
may false true z f g h e = absurd (true≢false (sym e))
may false false true f g h e = absurd (true≢false (sym e))
may false false false f g h e = (refl, refl, refl)

pub may-launch : (s : Seen) → is_none (launch_refusal s) ≡ true → MayLaunch s
may-launch s e = let p = may (is_won s) (nat_le 2 (count_by (is_live s) s.arrived)) (nat_le 1000 s.numbered) _ _ _ e in record { not_won = p.0; room = p.1; numbers = p.2 }

pub nothing-arrived : (xs : List Attempt) → is_none (first_of xs) ≡ true → xs ≡ []
nothing-arrived [] e = refl
nothing-arrived (x ∷ xs) e = absurd (true≢false (sym e))

-- ---- arrivals

abbrev at : TaskId → ℕ → Attempt
at t n = record { task = t; number = n }

pub record Arrivals (t : TaskId) (k : ℕ) (s : Seen) : Type 0 where
  -- the numbers that are not given away are fresh
  pub free : (n : ℕ) → s.numbered ≤ n → n < 1000 → has s.arrived (at t (first_attempt_number k + n)) ≡ false
  pub distinct : AreDistinct s.arrived
  pub of_task : (a : Attempt) → has s.arrived a ≡ true → a.task ≡ t

pub fresh : (t : TaskId) (k : ℕ) (s : Seen) → Arrivals t k s → is_none (launch_refusal s) ≡ true → has s.arrived (next_attempt t k s) ≡ false
fresh t k s a e = let m = may-launch s e in let room : nat_le 1000 s.numbered ≡ false = m.numbers in a.free s.numbered (omega arith) (grind (arith, nat_tests))

launched : (t : TaskId) (k : ℕ) (s : Seen) → Arrivals t k s → is_none (launch_refusal s) ≡ true → Arrivals t k (after_launch t k s)
launched t k s a e = record {
  free = λ n low high. has-append s.arrived (next_attempt t k s) (at t (first_attempt_number k + n))
      ∙ (λ i. a.free n (omega arith) high i || apart (at t (first_attempt_number k + n)) (next_attempt t k s) (λ same. omega arith) i);
  distinct = distinct-append s.arrived (next_attempt t k s) a.distinct (fresh t k s a e);
  of_task = λ x there. by x (has s.arrived x) refl (same_attempt x (next_attempt t k s)) refl (sym (has-append s.arrived (next_attempt t k s) x) ∙ there);
}
  where
    by : (x : Attempt) (b : Bool) → has s.arrived x ≡ b → (c : Bool) → same_attempt x (next_attempt t k s) ≡ c → (b || c) ≡ true → x.task ≡ t
    by x true e c f h = a.of_task x e
    by x false e true f h = ap (λ (y : Attempt). y.task) (same-is x (next_attempt t k s) f)
    by x false e false f h = absurd (true≢false (sym h))

-- the numbers above that of a recovered attempt are fresh
above : (k m n : ℕ) → (b : Bool) → (nat_le (first_attempt_number k) m && nat_lt m (first_attempt_number k + 1000)) ≡ b → cond b (m - first_attempt_number k + 1) 0 ≤ n → n < 1000 → first_attempt_number k + n ≡ m → ⊥
above k m n true e low high same =
    let from : nat_le (first_attempt_number k) m ≡ true = left _ _ e in
    let is : first_attempt_number k ≤ m = grind (arith, nat_tests) in omega arith
above k m n false e low high same =
    let from : nat_le (first_attempt_number k) m ≡ true = grind (arith, nat_tests) in
    let below : nat_lt m (first_attempt_number k + 1000) ≡ true = grind (arith, nat_tests) in
    absurd (true≢false (sym (λ i. from i && below i) ∙ e))

recovered : (t : TaskId) (k : ℕ) (s : Seen) (b : Attempt) → same_task b.task t ≡ true → Arrivals t k (record s { arrived = b ∷ []; accepted = b ∷ []; recorded = b ∷ []; numbered = numbered_up_to k b })
recovered t k s b own = record {
  free = λ n low high. (λ i. apart (at t (first_attempt_number k + n)) b (λ same. above k b.number n (nat_le (first_attempt_number k) b.number && nat_lt b.number (first_attempt_number k + 1000)) refl low high same) i || false);
  distinct = (refl, tt);
  of_task = λ x there. by x (same_attempt x b) refl there;
}
  where
    by : (x : Attempt) (c : Bool) → same_attempt x b ≡ c → (c || false) ≡ true → x.task ≡ t
    by x true f h = ap (λ (y : Attempt). y.task) (same-is x b f) ∙ task-is b.task t own
    by x false f h = absurd (true≢false (sym h))

same : (t : TaskId) (k : ℕ) (s r : Seen) → s.arrived ≡ r.arrived → s.numbered ≡ r.numbered → Arrivals t k r → Arrivals t k s
same t k s r e f a = record {
  free = λ n low high. ap (λ xs. has xs (at t (first_attempt_number k + n))) e ∙ a.free n (omega arith) high;
  distinct = subst AreDistinct (sym e) a.distinct;
  of_task = λ x there. a.of_task x (sym (ap (λ xs. has xs x) e) ∙ there);
}

-- a choice between a record that leaves the arrivals, and what was
choice : (t : TaskId) (k : ℕ) (c : Bool) (s r : Seen) → r.arrived ≡ s.arrived → r.numbered ≡ s.numbered → Arrivals t k s → Arrivals t k (cond c r s)
choice t k true s r e f a = same t k r s e f a
choice t k false s r e f a = a

arrivals-step : (t : TaskId) (k : ℕ) (s : Seen) (c : TaskCall) → Arrivals t k s → Arrivals t k (next_seen t k s c)
unfolding next_seen
arrivals-step t k s Launches a = by (is_none (launch_refusal s)) refl
  where
    by : (c : Bool) → is_none (launch_refusal s) ≡ c → Arrivals t k (cond c (after_launch t k s) s)
    by true e = launched t k s a e
    by false e = a
arrivals-step t k s (Hears b) a = a
arrivals-step t k s (Asks b) a = choice t k (has s.arrived b && not (has s.asked b)) s (record s { asked = s.asked ++ b ∷ [] }) refl refl a
arrivals-step t k s (Reports b) a = choice t k (may_accept s b) s (record s { accepted = b ∷ s.accepted; is_fixed = is_reduce b.task.kind || s.is_fixed }) refl refl a
arrivals-step t k s (Fails b) a = choice t k (is_live s b) s (record s { ended = record { attempt = b; is_failure = true } ∷ s.ended }) refl refl a
arrivals-step t k s (Ends b was_asked) a = choice t k (is_live s b) s (record s { ended = record { attempt = b; is_failure = not was_asked } ∷ s.ended }) refl refl a
arrivals-step t k s (Dies b) a = choice t k (is_live s b) s (record s { ended = record { attempt = b; is_failure = false } ∷ s.ended }) refl refl a
arrivals-step t k s (Records b) a = choice t k (has s.accepted b) s (record s { recorded = b ∷ s.recorded }) refl refl a
arrivals-step t k s (Recovers b) a = by (may_recover t s b) refl
  where
    by : (c : Bool) → may_recover t s b ≡ c → Arrivals t k (cond c (record s { arrived = b ∷ []; accepted = b ∷ []; recorded = b ∷ []; numbered = numbered_up_to k b }) s)
    by true e = recovered t k s b (right (is_none (first_of s.arrived)) (same_task b.task t) e)
    by false e = a
arrivals-step t k s (Loses b) a = choice t k (not (is_reduce b.task.kind) && has s.recorded b) s (record s { lost = b ∷ s.lost }) refl refl a

pub arrivals : (t : TaskId) (k : ℕ) (h : List TaskCall) → Arrivals t k (seen t k h)
unfolding seen
arrivals t k [] = record { free = λ n low high. refl; distinct = tt; of_task = λ a there. absurd (true≢false (sym there)) }
arrivals t k (c ∷ h) = arrivals-step t k (seen t k h) c (arrivals t k h)
