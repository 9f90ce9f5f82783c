use Rattle.std.proofs.Common.{◌≤◌, ◌+◌, ◌++◌, ℕ, List, length}
use Rattle.mr_script.specs.Lines.{lines_of, AreLines, IsFirstNoLine}
use Rattle.mr_script.proofs.script.script_in.Given as goal

-- what is said of the lines that are left holds of all
abbrev pub invariant-loop-line : goal.invariant-loop-line
invariant-loop-line g l =
    let is_line = g.L.Language.is_line l.language in
    record {
      bound : l.number + length l.rest ≤ l.fn.first + length l.fn.bytes;
      commands : (cs : List (ℕ × g.row.L-Command.Denot)) → AreLines is_line l.number (lines_of l.rest) cs → AreLines is_line l.fn.first (lines_of l.fn.bytes) (l.commands.items ++ cs);
      bad : (k : ℕ) → IsFirstNoLine is_line l.number (lines_of l.rest) k → IsFirstNoLine is_line l.fn.first (lines_of l.fn.bytes) k;
    }

abbrev pub decreases-loop-line : goal.decreases-loop-line
decreases-loop-line g l = length l.rest
