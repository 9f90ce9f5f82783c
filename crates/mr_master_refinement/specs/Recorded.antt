-- What is recorded of a reduce. Our own: it ties two sets of definitions.
use Rattle.std.specs.Prelude.{◌≡◌, ℕ, true, ◌||◌, List, is_some}
use Rattle.mr_task.specs.Readings as task
use Rattle.mr_world_model.specs.Ids.{TaskId, of_reduces}
use Rattle.mr_world_model.specs.Packets.{Config}
use Rattle.mr_world_model.specs.Hearing.{is_running, accepts_task, has_winner}
use Rattle.mr_world_model.specs.Duties.{Master_step, seen}
use Rattle.mr_world_model.specs.Calls.{of_task}
use Rattle.mr_world_model.specs.Made.{AllMade}

-- While a master runs, a reduce has a Succeeded attempt, by the words of tasks, exactly where the master recorded one of it or read its winner. This is what
-- the start of the job commit waits for.
abbrev pub ReducesAreRecorded : Type 0
ReducesAreRecorded = (cfg : Config) (k : ℕ) (past : List Master_step) (t : TaskId) → of_reduces t.kind ≡ true → AllMade cfg k past → is_running (seen cfg k past).phase ≡ true
    → is_some (task.succeeded (of_task cfg k past t)) ≡ (accepts_task (seen cfg k past).recorded t || has_winner (seen cfg k past).winners t)
