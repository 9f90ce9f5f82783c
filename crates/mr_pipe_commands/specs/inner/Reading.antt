-- Why an input is not read.
use Rattle.std.specs.Prelude.{ℕ, List, [], ◌∷◌}
use Rattle.mr_pipe.specs.Status.{status_of}
use Rattle.mr_pipe_commands.specs.Named.{FirstTooLong, IsTooLong, Known}
use Rattle.mr_pipe_commands.specs.declared.unread.Unread.{Unread}
use Rattle.mr_pipe_commands.specs.declared.unread.Unread.TheVariants.{TooLong, Failed}

abbrev pub status_of_unread : Unread → ℕ
status_of_unread (TooLong name) = 3
status_of_unread (Failed name fault) = status_of fault

-- of one input
abbrev pub IsUnread : Known → List ℕ → Unread → Type 0
IsUnread known name (TooLong n) = IsTooLong known name
IsUnread known name (Failed n fault) = Unit {0}

-- of the first that is not read
abbrev pub AreUnread : Known → List (List ℕ) → Unread → Type 0
AreUnread known names (TooLong n) = FirstTooLong known names
AreUnread known names (Failed n fault) = Unit {0}
