use Rattle.std.proofs.Common.{◌≡◌}
use Rattle.mr_log_entries.specs.Recorded.{lines_of}
use Rattle.mr_log_standing.specs.Standing.{those_below, is_left}
use Rattle.mr_log_standing.proofs.standings.Standings.left.Given as goal

abbrev pub invariant-loop-n : goal.invariant-loop-n
invariant-loop-n l = l.all.items ≡ those_below (is_left l.self.job (lines_of l.self.entries)) l.n
