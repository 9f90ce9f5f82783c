-- A machine that was in a box.
use Rattle.std.proofs.Common.{ℕ, ◌≡◌, sym, subst, List}
use Rattle.mr_task.specs.Calls.{TaskCall}
use Rattle.mr_task.specs.Steps.{Task}
use Rattle.mr_master_tasks.specs.Tasks.{IsTold}

-- it is that of the task once it is told this
pub same-told : {old : List Task} {i : ℕ} {call : TaskCall} {x y : Task} → y ≡ x → IsTold old i call x → IsTold old i call y
same-told {old} {i} {call} e told = subst (λ (z : Task). IsTold old i call z) (sym e) told
