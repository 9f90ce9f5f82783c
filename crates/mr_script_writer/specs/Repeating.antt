-- The script that repeats a run, a line for each event (our own profile). A line is the command of the event, as mr_script has it.
use Rattle.std.specs.Prelude.{ℕ, List, [], ◌∷◌, ◌++◌, Option, Some, None}
use Rattle.std.specs.List.{flat_map}
use Rattle.mr_script.specs.Lines.{pieces_of}
use Rattle.mr_world_events.specs.declared.event.Event.{Event}
use Rattle.mr_world_events.specs.declared.event.Event.TheVariants as event
use Rattle.mr_script.specs.declared.command.Command.{Command}
use Rattle.mr_script.specs.declared.command.Command.TheVariants.{Makes, Compute}
use Rattle.mr_script.specs.Script.{line_of}

-- what a script says of an event: bytes that were computed are computed again
abbrev pub said_by : Event → Command
said_by (event.Computed c bytes) = Compute c
said_by e = Makes e

abbrev pub command_line : Event → List ℕ
command_line e = line_of (said_by e)

-- a word behind another, if there is one
abbrev pub behind : Option (List ℕ) → List ℕ
behind None = []
behind (Some word) = 32 ∷ word

-- their commands, a line each
abbrev pub repeating : List Event → List ℕ
repeating events = flat_map (λ e. command_line e ++ 10 ∷ []) events

-- a line as a comment
abbrev pub comment : List ℕ → List ℕ
comment line = 35 ∷ 32 ∷ line ++ 10 ∷ []

-- each line of a text as a comment
abbrev pub commented : List ℕ → List ℕ
commented text = flat_map comment (pieces_of text)
