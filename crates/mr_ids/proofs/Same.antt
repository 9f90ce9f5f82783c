-- Two tasks pass their test exactly if they are equal, and two attempts the `==` of the code.
use Rattle.std.proofs.Common.{ℕ, ◌≡◌, ◌==◌, ◌&&◌, Bool, true, false, refl, sym, ◌∙◌}
use Rattle.std.proofs.lemmas.Bool.{eqb-true, eq-eqb}
use Rattle.mr_ids.specs.Attempt.{Attempt}
use Rattle.mr_ids.specs.Same.{same_kind, same_task, same_attempt}
use Rattle.mr_ids.specs.declared.id.TaskKind.{TaskKind}
use Rattle.mr_ids.specs.declared.id.TaskKind.TheVariants.{Map, Reduce}
use Rattle.mr_ids.specs.declared.id.TaskId.{TaskId}
use Rattle.mr_ids.specs.contracts.id.AttemptIdPartialEq.TheImpl.{eq-value}

both : (x y : Bool) → (x && y) ≡ true → (x ≡ true) × (y ≡ true)
both true true e = (refl, refl)
both false y e = absurd (cc)
both true false e = absurd (cc)

eqb-itself : (n : ℕ) → (n == n) ≡ true
eqb-itself n = eq-eqb n n refl

kind-is : (k l : TaskKind) → same_kind k l ≡ true → k ≡ l
kind-is Map Map e = refl
kind-is Map Reduce e = absurd (cc)
kind-is Reduce Map e = absurd (cc)
kind-is Reduce Reduce e = refl

kind-itself : (k : TaskKind) → same_kind k k ≡ true
kind-itself Map = refl
kind-itself Reduce = refl

pub task-is : (t u : TaskId) → same_task t u ≡ true → t ≡ u
task-is t u e =
    let p = both ((t.job.start == u.job.start) && (t.job.number == u.job.number) && same_kind t.kind u.kind) (t.number == u.number) e in
    let q = both ((t.job.start == u.job.start) && (t.job.number == u.job.number)) (same_kind t.kind u.kind) p.0 in
    let r = both (t.job.start == u.job.start) (t.job.number == u.job.number) q.0 in
    let start : t.job.start ≡ u.job.start = eqb-true _ _ r.0 in
    let job : t.job.number ≡ u.job.number = eqb-true _ _ r.1 in
    let kind : t.kind ≡ u.kind = kind-is t.kind u.kind q.1 in
    let number : t.number ≡ u.number = eqb-true _ _ p.1 in
    λ i. record { job = record { start = start i; number = job i }; kind = kind i; number = number i }

pub task-itself : (t : TaskId) → same_task t t ≡ true
task-itself t = rw (eqb-itself t.job.start, eqb-itself t.job.number, kind-itself t.kind, eqb-itself t.number) refl

-- five tests, however they are grouped
regrouped : (s j k t n : Bool) → (((s && j) && (k && t)) && n) ≡ ((((s && j) && k) && t) && n)
regrouped true true k t n = refl
regrouped true false k t n = refl
regrouped false j k t n = refl

abbrev with_kind : Attempt → TaskKind → Attempt
with_kind a k = record { task = record { job = a.task.job; kind = k; number = a.task.number }; number = a.number }

abbrev five : Attempt → Attempt → Bool → Bool
five a b k = ((((a.task.job.start == b.task.job.start) && (a.task.job.number == b.task.job.number)) && k) && (a.task.number == b.task.number)) && (a.number == b.number)

by_kind : (a b : Attempt) (k l : TaskKind) → eq-value.it (with_kind a k) (with_kind b l) ≡ five a b (same_kind k l)
by_kind a b Map Map = regrouped (a.task.job.start == b.task.job.start) (a.task.job.number == b.task.job.number) true (a.task.number == b.task.number) (a.number == b.number)
by_kind a b Map Reduce = regrouped (a.task.job.start == b.task.job.start) (a.task.job.number == b.task.job.number) false (a.task.number == b.task.number) (a.number == b.number)
by_kind a b Reduce Map = regrouped (a.task.job.start == b.task.job.start) (a.task.job.number == b.task.job.number) false (a.task.number == b.task.number) (a.number == b.number)
by_kind a b Reduce Reduce = regrouped (a.task.job.start == b.task.job.start) (a.task.job.number == b.task.job.number) true (a.task.number == b.task.number) (a.number == b.number)

-- what `==` of attempts asks
pub attempt-eq : (a b : Attempt) → eq-value.it a b ≡ (same_task a.task b.task && (a.number == b.number))
attempt-eq a b = by_kind a b a.task.kind b.task.kind

pub attempt-is : (a b : Attempt) → eq-value.it a b ≡ true → a ≡ b
attempt-is a b e =
    let p = both (same_task a.task b.task) (a.number == b.number) (sym (attempt-eq a b) ∙ e) in
    let task : a.task ≡ b.task = task-is a.task b.task p.0 in
    let number : a.number ≡ b.number = eqb-true _ _ p.1 in
    λ i. record { task = task i; number = number i }

pub attempt-itself : (a : Attempt) → eq-value.it a a ≡ true
attempt-itself a = attempt-eq a a ∙ rw (task-itself a.task, eqb-itself a.number) refl

-- the test for one attempt is equality, and is the code's `==`

pub attempt-same : (a b : Attempt) → eq-value.it a b ≡ same_attempt a b
unfolding same_attempt
attempt-same a b = attempt-eq a b

-- the same, of the two tests as functions
pub attempts-same : eq-value.it ≡ same_attempt
attempts-same = λ i a b. attempt-same a b i

pub same_attempt-is : (a b : Attempt) → same_attempt a b ≡ true → a ≡ b
same_attempt-is a b e = attempt-is a b (attempt-same a b ∙ e)

pub same_attempt-itself : (a : Attempt) → same_attempt a a ≡ true
same_attempt-itself a = sym (attempt-same a a) ∙ attempt-itself a
