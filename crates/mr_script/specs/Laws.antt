-- Laws of the definitions.
use Rattle.std.specs.Prelude.{◌≡◌, false, ℕ, List}
use Rattle.mr_ids.specs.declared.id.JobId.{JobId}
use Rattle.mr_script.specs.declared.command.Command.{Command}
use Rattle.mr_script.specs.Lines.{is_comment, lines_of}
use Rattle.mr_script.specs.Script.{IsLine, AreCommands, IsFirstBad}

-- a script has at most one reading
abbrev pub OneReading : Type 0
OneReading = (job : JobId) (first : ℕ) (bytes : List ℕ) (cs ds : List (ℕ × Command)) → AreCommands job first (lines_of bytes) cs → AreCommands job first (lines_of bytes) ds → cs ≡ ds

-- a script that has a reading has no bad line
abbrev pub ReadOrBad : Type 0
ReadOrBad = (job : JobId) (first : ℕ) (bytes : List ℕ) (cs : List (ℕ × Command)) (k : ℕ) → AreCommands job first (lines_of bytes) cs → IsFirstBad job first (lines_of bytes) k → ⊥

-- a script has at most one first bad line
abbrev pub OneFirstBad : Type 0
OneFirstBad = (job : JobId) (first : ℕ) (bytes : List ℕ) (j k : ℕ) → IsFirstBad job first (lines_of bytes) j → IsFirstBad job first (lines_of bytes) k → j ≡ k

-- a line that is a command is no comment
abbrev pub CommentsAreNoCommands : Type 0
CommentsAreNoCommands = (job : JobId) (line : List ℕ) (c : Command) → IsLine job line c → is_comment line ≡ false
