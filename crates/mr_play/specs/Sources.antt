-- Which line of a script made which events: for each line how many events there were once it was played (our own profile).
use Rattle.std.specs.Prelude.{ℕ, Bool, true, false, List, [], ◌∷◌, length, Option, Some, None}
use Rattle.mr_world_model.specs.Packets.{Config}
use Rattle.mr_world_model.specs.Claims.{Limits}
use Rattle.mr_world_model.specs.Sequential.{Job}
use Rattle.mr_script.specs.declared.command.Command.{Command}
use Rattle.mr_script.specs.declared.command.Command.TheVariants as command
use Rattle.mr_play.specs.declared.sources.Stretch.{Stretch}
use Rattle.mr_play.specs.Played.{Played, obeyed}

abbrev pub is_calm : Command → Bool
is_calm (command.Calm k until) = true
is_calm _ = false

-- the events of a line end where `end` events had happened
abbrev pub stretch_of : ℕ → Command → ℕ → Stretch
stretch_of line c end = record { source = record { line = line; is_calm = is_calm c }; end = end }

module _ (job : Job) (cfg : Config) (within : Limits) where
  -- the stretches of a line that was played, and then of those behind it; a line that passes a limit has none
  abbrev pub noted : (Played → List Stretch) → ℕ × Command → Option Played → List Stretch
  noted behind c None = []
  noted behind c (Some s) = stretch_of c.0 c.1 (length s.events) ∷ behind s

  -- of commands with their lines, in turn
  abbrev pub stretches : List (ℕ × Command) → Played → List Stretch
  stretches [] s = []
  stretches (c ∷ cs) s = noted (stretches cs) c (obeyed job cfg within c.0 c.1 s)
