-- Where the reduce that is taken over has its machine.
use Rattle.std.specs.Prelude.{◌≡◌, ◌<◌, true, Some, length}
use Rattle.mr_recover.specs.declared.winner.TaskWinner.{TaskWinner}
use Rattle.mr_master_model.specs.Job.{is_task}
use Rattle.mr_master_state.specs.mr_master_tasks.specs.Places.{place_of}
use Rattle.mr_master_state.specs.mr_master_phase.specs.Taking.{winner_of}
use Rattle.mr_master_state.specs.State.{Master}

-- it is of a task of the job, which has a machine
abbrev pub IsPlaced : Master → Type 0
IsPlaced m = (x : TaskWinner) → Some x ≡ winner_of m.work → (is_task m.setting x.task ≡ true) × (place_of m.setting x.task < length m.tasks.machines)
