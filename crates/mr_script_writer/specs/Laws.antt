-- Laws of the definitions.
use Rattle.std.specs.Prelude.{ℕ, ◌+◌, List, [], ◌∷◌, ◌++◌}
use Rattle.std.specs.List.{AllByRecursion}
use Rattle.mr_ids.specs.declared.id.JobId.{JobId}
use Rattle.mr_world_events.specs.declared.event.Event.{Event}
use Rattle.mr_script.specs.declared.command.Command.{Command}
use Rattle.mr_script.specs.Lines.{lines_of}
use Rattle.mr_script.specs.Script.{AreCommands, IsCommand}
use Rattle.mr_script_writer.specs.Repeating.{commented, repeating, said_by}

-- a script for a run of the job can say these events: generations are 1 to 1,000, tasks are the job's, numbers are in their ranges
abbrev pub CanBeSaid : JobId → List Event → Type 0
CanBeSaid job events = AllByRecursion (λ e. IsCommand job (said_by e)) events

-- their commands, on the lines from n on
abbrev pub numbered : ℕ → List Event → List (ℕ × Command)
numbered n [] = []
numbered n (e ∷ events) = (n, said_by e) ∷ numbered (n + 1) events

-- the script of such events, with a text behind it as comments, is read as just their commands
abbrev pub ScriptsAreReadBack : Type 0
ScriptsAreReadBack = (job : JobId) (first : ℕ) (events : List Event) (text : List ℕ) → CanBeSaid job events → AreCommands job first (lines_of (repeating events ++ commented text)) (numbered first events)
