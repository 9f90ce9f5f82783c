use Rattle.std.proofs.Common.{◌≡◌, take}
use Rattle.std.specs.List.{filter_map}
use Rattle.mr_log_entries.specs.Recorded.{lines_of}
use Rattle.mr_log_standing.proofs.Asked.{picked}
use Rattle.mr_log_standing.proofs.standings.Standings.under_way.Given as goal

abbrev pub invariant-loop-item : goal.invariant-loop-item
invariant-loop-item l = l.all ≡ filter_map (picked l.self.job (lines_of l.self.entries) l.task) (take l.item-index l.kept)
