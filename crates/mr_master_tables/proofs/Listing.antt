-- What records say, record by record and task by task.
use Rattle.std.proofs.Common.{◌≡◌, ◌<◌, ◌≤◌, ◌+◌, ℕ, suc, List, [], ◌∷◌, ◌++◌, length, Option, Some, None, refl, sym, ap, ◌∙◌, arith, add-one}
use Rattle.mr_ids.specs.declared.id.TaskId.{TaskId}
use Rattle.mr_ids.specs.declared.id.TaskKind.TheVariants.{Reduce}
use Rattle.mr_history.specs.declared.record.Record.{Record}
use Rattle.mr_recover.specs.declared.winner.TaskWinner.{TaskWinner}
use Rattle.mr_recover.specs.Plan.{winner_of, with_first, winners_among}
use Rattle.mr_master_model.specs.declared.setting.Setting.{Setting}
use Rattle.mr_master_model.specs.Duty.{record_duty}
use Rattle.mr_master_model.specs.Answered.{name_of}
use Rattle.mr_master_model.specs.declared.phase.DutyName.TheVariants as name
use Rattle.mr_master_model.specs.Job.{task_of, first_tasks}

pub empty-due : (due tail : List Record) → length due ≤ 0 → record_duty [] tail ≡ record_duty due tail
empty-due [] tail e = refl
empty-due (r ∷ rs) tail e = absurd (omega (arith, e))

-- ---- winners among the first reduces

with-append : (o : Option TaskWinner) (xs ys : List TaskWinner) → with_first o (xs ++ ys) ≡ with_first o xs ++ ys
with-append None xs ys = refl
with-append (Some x) xs ys = refl

among-append : (rs : List Record) (xs : List TaskId) (t : TaskId) → winners_among rs (xs ++ t ∷ []) ≡ winners_among rs xs ++ with_first (winner_of rs t) []
among-append rs [] t = refl
among-append rs (x ∷ xs) t = ap (λ l. with_first (winner_of rs x) l) (among-append rs xs t) ∙ with-append (winner_of rs x) (winners_among rs xs) (with_first (winner_of rs t) [])

pub among-none : (w : Setting) (rs : List Record) → [] ≡ winners_among rs (first_tasks w Reduce 0)
unfolding first_tasks
among-none w rs = refl

among-suc : (w : Setting) (rs : List Record) (n : ℕ) → winners_among rs (first_tasks w Reduce (suc n)) ≡ winners_among rs (first_tasks w Reduce n) ++ with_first (winner_of rs (task_of w Reduce n)) []
unfolding first_tasks
among-suc w rs n = among-append rs (first_tasks w Reduce n) (task_of w Reduce n)

pub among-more : (w : Setting) (rs : List Record) (n : ℕ) (o : Option TaskWinner) (ws : List TaskWinner) → ws ≡ winners_among rs (first_tasks w Reduce n) → o ≡ winner_of rs (task_of w Reduce n)
    → ws ++ with_first o [] ≡ winners_among rs (first_tasks w Reduce (n + 1))
among-more w rs n o ws e q =
    (λ i. e i ++ with_first (q i) []) ∙ sym (among-suc w rs n) ∙ ap (λ k. winners_among rs (first_tasks w Reduce k)) (sym (add-one n))

pub some-due : (due tail : List Record) → 0 < length due → Some name.Append ≡ name_of (record_duty due tail)
some-due [] tail e = absurd (omega (arith, e))
some-due (r ∷ rs) tail e = refl
