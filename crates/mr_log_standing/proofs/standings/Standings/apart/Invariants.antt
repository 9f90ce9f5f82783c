use Rattle.std.proofs.Common.{◌≡◌, take}
use Rattle.std.specs.List.{filter_map}
use Rattle.mr_log_standing.specs.inner.Choosing.{choice}
use Rattle.mr_log_standing.proofs.standings.Standings.apart.Given as goal

abbrev pub invariant-loop-item : goal.invariant-loop-item
invariant-loop-item l = l.all ≡ filter_map (choice l.cut l.self.job l.host l.self.entries l.task) (take l.item-index l.kept)
