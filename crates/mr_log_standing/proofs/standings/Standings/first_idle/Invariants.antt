use Rattle.std.proofs.Common.{◌≡◌, []}
use Rattle.mr_log_standing.specs.Standing.{those_below}
use Rattle.mr_log_standing.specs.Deciding.{is_idle}
use Rattle.mr_log_standing.proofs.standings.Standings.first_idle.Given as goal

abbrev pub invariant-loop-n : goal.invariant-loop-n
invariant-loop-n l = those_below (is_idle l.self.job l.host l.self.entries) l.n ≡ []
