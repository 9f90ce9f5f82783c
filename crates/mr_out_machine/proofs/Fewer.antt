-- By the successes alone each task has the winner that it has by all records.
use Rattle.std.proofs.Common.{◌≡◌, cond, filter, ℕ, zero, suc, List, [], ◌∷◌, is_some, Option, Some, refl, ap, ◌∙◌}
use Rattle.mr_ids.specs.Attempt.{Attempt}
use Rattle.mr_ids.specs.Same.{same_task}
use Rattle.mr_ids.specs.declared.id.JobId.{JobId}
use Rattle.mr_ids.specs.declared.id.TaskId.{TaskId}
use Rattle.mr_history.specs.declared.record.Record.{Record}
use Rattle.mr_history.specs.declared.record.Record.TheVariants.{AttemptStarted, MapSucceeded, ReduceSucceeded, AttemptFailed, JobUnsuccessful}
use Rattle.mr_history.specs.Winner.{winner_in}
use Rattle.mr_out_steps.specs.Standing.{task_of, winners, with_winner, has_winner}
use Rattle.mr_out_machine.specs.Successes.{tells_success}

same_winner : (rs : List Record) (t : TaskId) → winner_in (filter tells_success rs) t ≡ winner_in rs t
unfolding winner_in
same_winner [] t = refl
same_winner (ReduceSucceeded a bytes ∷ rs) t = ap (λ (o : Option Attempt). cond (same_task a.task t) (Some a) o) (same_winner rs t)
same_winner (AttemptStarted a node ∷ rs) t = same_winner rs t
same_winner (MapSucceeded a node incarnation ∷ rs) t = same_winner rs t
same_winner (AttemptFailed a ∷ rs) t = same_winner rs t
same_winner (JobUnsuccessful ∷ rs) t = same_winner rs t

by_them : (qs rs : List Record) (t : TaskId) → qs ≡ filter tells_success rs → winner_in qs t ≡ winner_in rs t
by_them qs rs t e = ap (λ (xs : List Record). winner_in xs t) e ∙ same_winner rs t

pub same_winners : (job : JobId) (qs rs : List Record) (n : ℕ) → qs ≡ filter tells_success rs → winners job qs n ≡ winners job rs n
unfolding winners
same_winners job qs rs zero e = refl
same_winners job qs rs (suc n) e =
    ap (λ (o : Option Attempt). with_winner o (winners job qs n)) (by_them qs rs (task_of job n) e)
    ∙ ap (λ (all : Option (List Attempt)). with_winner (winner_in rs (task_of job n)) all) (same_winners job qs rs n e)

pub same_has : (qs rs : List Record) (t : TaskId) → qs ≡ filter tells_success rs → has_winner qs t ≡ has_winner rs t
same_has qs rs t e = ap (λ (o : Option Attempt). is_some o) (by_them qs rs t e)
