use Rattle.std.proofs.Common.{◌≡◌, ◌++◌, false, take}
use Rattle.std.specs.List.{list_any}
use Rattle.mr_log_entries.specs.Recorded.{lines_of}
use Rattle.mr_log_standing.proofs.Choosings.{is_out}
use Rattle.mr_log_standing.proofs.standings.Standings.reaches_limit.Given as goal

abbrev pub invariant-loop-a : goal.invariant-loop-a
invariant-loop-a l = list_any (is_out l.limit (lines_of l.self.entries ++ l.lines)) (take l.a-index l.failed) ≡ false
