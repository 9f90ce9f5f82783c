-- What is planned where the next attempt of a task is launched.
use Rattle.std.specs.Prelude.{◌≡◌, ℕ, [], ◌∷◌, None, Ok}
use Rattle.mr_ids.specs.Attempt.{Attempt}
use Rattle.mr_task.specs.Calls as task_call
use Rattle.mr_task.specs.Readings as task
use Rattle.mr_task.specs.State.{launch_answer}
use Rattle.mr_task.specs.Steps.{Task}
use Rattle.mr_packet.specs.declared.packet.Packet.TheVariants as packet
use Rattle.mr_packet.specs.Sends.{to_node}
use Rattle.mr_master_model.specs.declared.launch.Launch.{Launch}
use Rattle.mr_master_state.specs.declared.change.Change.TheVariants as change
use Rattle.mr_master_state.specs.Prepared.{Prepared}
use Rattle.mr_master_state.specs.State.{Master}
use Rattle.mr_master_state.specs.mr_master_tasks.specs.Tasks.{IsTold, AnswersAt}

-- the task at place i refuses no launch
abbrev pub IsFree : Master → ℕ → Type 0
IsFree m i = AnswersAt m.tasks.machines i (λ t k calls. task.launch_refusal (task.seen t k calls)) None

-- the node is told of the next attempt of the task at place i, which is launched so
pub record LaunchesNext (m : Master) (i : ℕ) (l : Launch) (p : Prepared) : Type 0 where
  pub attempt : Attempt
  pub machine : Task
  pub is : p ≡ record { packets = to_node l.node (packet.Launch l.container attempt l.incarnation) ∷ []; change = change.Launches i attempt machine l }
  pub answers : AnswersAt m.tasks.machines i launch_answer (Ok attempt)
  pub told : IsTold m.tasks.machines i task_call.Launches machine
