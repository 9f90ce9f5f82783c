use Rattle.std.proofs.Common.{◌≡◌, ℕ, true}
use Rattle.mr_log_entries.specs.Recorded.{lines_of}
use Rattle.mr_log_standing.specs.Standing.{those_below, is_left, is_none_of}
use Rattle.mr_log_standing.proofs.standings.Standings.has_won_all.Given as goal

abbrev pub invariant-loop-n : goal.invariant-loop-n
invariant-loop-n l = is_none_of ℕ (those_below (is_left l.self.job (lines_of l.self.entries)) l.n) ≡ true
