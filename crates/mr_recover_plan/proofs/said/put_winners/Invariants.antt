use Rattle.std.proofs.Common.{◌≡◌, ◌++◌, drop, flat_map}
use Rattle.mr_recover_plan.specs.Said.{winner_line}
use Rattle.mr_recover_plan.proofs.said.put_winners.Given as goal

abbrev pub invariant-loop-winner : goal.invariant-loop-winner
invariant-loop-winner l = l.out.items ++ flat_map winner_line (drop l.winner-index l.winners) ≡ l.fn.out.items ++ flat_map winner_line l.winners
