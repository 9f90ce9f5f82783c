-- `==` of two lists of winners holds exactly where they are equal.
use Rattle.std.proofs.Common.{◌≡◌, ◌==◌, ◌&&◌, refl, sym, ap, ◌∙◌, ℕ, nat_eq, Bool, true, false, true≢false, Option, Some, None, List}
use Rattle.std.proofs.lemmas.Bool.Decides.{Decides-and, Decides-like}
use Rattle.std.proofs.lemmas.Slice.Eq.{slice_eq-Decides}
use Rattle.std.specs.Bool.{Decides}
use Rattle.std.specs.Cmp.{unsigned_Decides}
use Rattle.std.specs.Cmp.Lexicographic.{pointwise}
use Rattle.std.specs.Option.{option_eq}
use Rattle.mr_ids.specs.Attempt.{Attempt}
use Rattle.mr_ids.specs.Same.{same_kind, same_task}
use Rattle.mr_ids.specs.declared.id.TaskId.{TaskId}
use Rattle.mr_ids.specs.declared.id.TaskKind.{TaskKind}
use Rattle.mr_ids.specs.declared.id.TaskKind.TheVariants.{Map, Reduce}
use Rattle.mr_ids.specs.contracts.id.AttemptIdPartialEq.TheImpl as attempt
use Rattle.mr_ids.specs.contracts.id.TaskIdPartialEq.TheImpl as task
use Rattle.mr_ids.proofs.Same.{attempt-is, attempt-itself, task-is, task-itself}
use Rattle.mr_recover.specs.declared.winner.TaskWinner.{TaskWinner}
use Rattle.mr_recover.specs.contracts.winner.TaskWinnerPartialEq.TheImpl as winner

-- ---- tasks

regrouped : (s j k t : Bool) → ((s && j) && (k && t)) ≡ (((s && j) && k) && t)
regrouped true true k t = refl
regrouped true false k t = refl
regrouped false j k t = refl

abbrev with_kind : TaskId → TaskKind → TaskId
with_kind t k = record { job = t.job; kind = k; number = t.number }

by_kind : (t u : TaskId) (k l : TaskKind) → task.eq-value.it (with_kind t k) (with_kind u l) ≡ ((((t.job.start == u.job.start) && (t.job.number == u.job.number)) && same_kind k l) && (t.number == u.number))
by_kind t u Map Map = regrouped (t.job.start == u.job.start) (t.job.number == u.job.number) true (t.number == u.number)
by_kind t u Map Reduce = regrouped (t.job.start == u.job.start) (t.job.number == u.job.number) false (t.number == u.number)
by_kind t u Reduce Map = regrouped (t.job.start == u.job.start) (t.job.number == u.job.number) false (t.number == u.number)
by_kind t u Reduce Reduce = regrouped (t.job.start == u.job.start) (t.job.number == u.job.number) true (t.number == u.number)

task-same : (t u : TaskId) → task.eq-value.it t u ≡ same_task t u
task-same t u = by_kind t u t.kind u.kind

task-decides : (t u : TaskId) → Decides (task.eq-value.it t u) (t ≡ u)
task-decides t u = (λ e. task-is t u (sym (task-same t u) ∙ e), λ e. task-same t u ∙ (ap (same_task t) (sym e) ∙ task-itself t))

-- ---- winners

attempt-decides : (a b : Attempt) → Decides (attempt.eq-value.it a b) (a ≡ b)
attempt-decides a b = (attempt-is a b, λ e. ap (attempt.eq-value.it a) (sym e) ∙ attempt-itself a)

length-decides : (a b : Option ℕ) → Decides (option_eq nat_eq a b) (a ≡ b)
length-decides None None = (λ t. refl, λ e. refl)
length-decides None (Some y) = (λ t. absurd (true≢false (sym t)), λ e. absurd (cc))
length-decides (Some x) None = (λ t. absurd (true≢false (sym t)), λ e. absurd (cc))
length-decides (Some x) (Some y) = let d = unsigned_Decides x y in (λ t. ap (λ n. Some n) (d.0 t), λ e. d.1 (cc))

winner-decides : (a b : TaskWinner) → Decides (winner.eq-value.it a b) (a ≡ b)
winner-decides a b =
    Decides-like _ (λ (e : (a.task ≡ b.task) × ((a.attempt ≡ b.attempt) × (a.bytes ≡ b.bytes))). λ i. record { task = e.0 i; attempt = e.1.0 i; bytes = e.1.1 i })
    (λ (e : a ≡ b). (ap (λ (w : TaskWinner). w.task) e, (ap (λ (w : TaskWinner). w.attempt) e, ap (λ (w : TaskWinner). w.bytes) e)))
    (Decides-and _ _ (task-decides a.task b.task) (Decides-and _ _ (attempt-decides a.attempt b.attempt) (length-decides a.bytes b.bytes)))

pub winners_decide : (a b : List TaskWinner) → Decides (pointwise winner.eq-value.it a b) (a ≡ b)
winners_decide a b = slice_eq-Decides winner-decides a b _ refl
