-- What the tasks are told where a master begins to run.
-- Nothing before that; then the master of the cluster and its machine take over the same newest successes of what was read.
-- Our own: it ties two sets of definitions.
use Rattle.std.specs.Prelude.{◌≡◌, ℕ, true, List, [], ◌∷◌, if◌then◌else◌}
use Rattle.mr_ids.specs.Attempt.{Attempt}
use Rattle.mr_ids.specs.declared.id.TaskId.{TaskId}
use Rattle.mr_master_model.specs.Readings as read
use Rattle.mr_master_model.specs.Answered.{taken}
use Rattle.mr_world_model.specs.Ids.{task_eq}
use Rattle.mr_world_model.specs.Packets.{Config}
use Rattle.mr_world_model.specs.Duties.{Master_step, seen, newest_maps, attempts_of}
use Rattle.mr_world_model.specs.Claims.{has_not_run}
use Rattle.mr_world_model.specs.Calls.{calls}
use Rattle.mr_world_model.specs.Made.{AllMade}

-- the attempts at task t
abbrev pub attempts_in : TaskId → List Attempt → List Attempt
attempts_in t [] = []
attempts_in t (a ∷ as') = if task_eq a.task t then a ∷ attempts_in t as' else attempts_in t as'

-- Until a master runs, its past tells no task anything. Of each task the master and its machine take the same attempt over from what was read: its newest
-- success, unless its node is known in a higher incarnation.
pub record BeginningsAgree : Type 0 where
  pub quiet : (cfg : Config) (k : ℕ) (past : List Master_step) (t : TaskId) → AllMade cfg k past → has_not_run (seen cfg k past).phase ≡ true → calls cfg k past t ≡ []
  pub taken_over : (m : read.Seen) (t : TaskId) → attempts_in t (attempts_of (newest_maps m.known m.earlier [])) ≡ taken m (read.newest_in m.earlier t)
