-- Laws of the definitions.
use Rattle.std.specs.Prelude.{◌≡◌, false, ℕ, List}
use Rattle.mr_script.specs.Lines.{is_comment, lines_of}
use Rattle.mr_sim_commands.specs.declared.committer.command.ScriptCommand.{ScriptCommand}
use Rattle.mr_sim_commands.specs.committer.Script.{IsLine, AreCommands, IsFirstBad}
use Rattle.mr_sim_commands.specs.seq.Text.{PrintsSeq}

-- a script has at most one reading
abbrev pub OneReading : Type 0
OneReading = (bytes : List ℕ) (cs ds : List (ℕ × ScriptCommand)) → AreCommands 1 (lines_of bytes) cs → AreCommands 1 (lines_of bytes) ds → cs ≡ ds

-- a script that has a reading has no bad line
abbrev pub ReadOrBad : Type 0
ReadOrBad = (bytes : List ℕ) (cs : List (ℕ × ScriptCommand)) (k : ℕ) → AreCommands 1 (lines_of bytes) cs → IsFirstBad 1 (lines_of bytes) k → ⊥

-- a script has at most one first bad line
abbrev pub OneFirstBad : Type 0
OneFirstBad = (bytes : List ℕ) (j k : ℕ) → IsFirstBad 1 (lines_of bytes) j → IsFirstBad 1 (lines_of bytes) k → j ≡ k

-- a line that is a command is no comment
abbrev pub CommentsAreNoCommands : Type 0
CommentsAreNoCommands = (line : List ℕ) (c : ScriptCommand) → IsLine line c → is_comment line ≡ false

-- `seq` prints one text for an input, if any
abbrev pub OneSeqText : Type 0
OneSeqText = (input text other : List ℕ) → PrintsSeq input text → PrintsSeq input other → text ≡ other
