-- Attempts that succeeded under earlier masters are taken over: the machines of the tasks then. Our own: where code
-- and definitions meet.
use Rattle.std.specs.Prelude.{◌≡◌, ℕ, Bool, true, Option, Some}
use Rattle.mr_task.specs.Calls.{Recovers}
use Rattle.mr_task.specs.Steps.{Task}
use Rattle.mr_recover.specs.declared.winner.TaskWinner.{TaskWinner}
use Rattle.mr_master_model.specs.declared.setting.Setting.{Setting}
use Rattle.mr_master_model.specs.Job.{is_task}
use Rattle.mr_master_model.specs.Readings.{Seen}
use Rattle.mr_master_tasks.specs.Places.{place_of}
use Rattle.mr_master_tasks.specs.Tasks.{Tasks, KeepsTasks, IsTold}
use Rattle.mr_master_phase.specs.Taking.{winner_of, after_table}
use Rattle.mr_master_state.specs.State.{Master, Keeps}

-- the machines of the tasks after the last call of a table
abbrev pub KeepsAfter : Master → Option TaskWinner → (runs : Bool) → Tasks → Type 0
KeepsAfter m o runs tasks = (w : Setting) (s : Seen) → Keeps m w s → KeepsTasks tasks w (after_table w s o runs).calls

-- the machine y is that of the reduce that is taken over, at place i, once its attempt is entered
pub record EntersAt (m : Master) (i : ℕ) (y : Task) : Type 0 where
  pub winner : TaskWinner
  pub told : IsTold m.tasks.machines i (Recovers winner.attempt) y
  pub is : Some winner ≡ winner_of m.work
  pub own : is_task m.setting winner.task ≡ true
  pub at : i ≡ place_of m.setting winner.task
