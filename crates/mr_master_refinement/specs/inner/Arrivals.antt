-- In which order the attempts of a task were launched.
use Rattle.std.specs.Prelude.{List, [], ◌∷◌, ◌++◌, if◌then◌else◌}
use Rattle.mr_ids.specs.Attempt.{Attempt}
use Rattle.mr_ids.specs.declared.id.TaskId.{TaskId}
use Rattle.mr_world_model.specs.Ids.{task_eq}
use Rattle.mr_world_model.specs.Hearing.{Launched}

-- of launches, given the newest first, those of task t, the oldest first
abbrev pub at_task : TaskId → List Launched → List Launched
at_task t [] = []
at_task t (l ∷ ls) = if task_eq l.attempt.task t then at_task t ls ++ l ∷ [] else at_task t ls

abbrev pub attempts : List Launched → List Attempt
attempts [] = []
attempts (l ∷ ls) = l.attempt ∷ attempts ls
