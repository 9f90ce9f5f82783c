use Rattle.std.proofs.Common.{◌≡◌, ◌≢◌, ◌++◌, ℕ, List, length}
use Rattle.std.specs.List.{All, AllByRecursion}
use Rattle.mr_log_entries.specs.declared.line.Line.{Line}
use Rattle.mr_log_entries.specs.Texts.{lines_text, IsLineOf}
use Rattle.mr_log_entries.proofs.Fronts.{Front, Left}
use Rattle.mr_log_entries.proofs.reading.lines_in.Given as goal

abbrev pub invariant-loop-own : goal.invariant-loop-own
invariant-loop-own l = record {
  front : Front l.job l.fn.text l.lines.items l.rest;
  left : (whole : List Line) (end : List ℕ) → AllByRecursion (IsLineOf l.job) whole → All (λ b. b ≢ 59) end → l.fn.text ≡ lines_text whole ++ end → Left l.job whole l.lines.items end l.rest;
}

abbrev pub decreases-loop-own : goal.decreases-loop-own
decreases-loop-own l = length l.rest
