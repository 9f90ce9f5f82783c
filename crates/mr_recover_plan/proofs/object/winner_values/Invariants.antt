use Rattle.std.proofs.Common.{◌≡◌, ◌++◌, map, drop}
use Rattle.serde_json.specs.View.{view}
use Rattle.mr_recover_plan.specs.Said.{winner_object}
use Rattle.mr_recover_plan.proofs.object.winner_values.Given as goal

abbrev pub invariant-loop-winner : goal.invariant-loop-winner
invariant-loop-winner l = map view l.values.items ++ map winner_object (drop l.winner-index l.winners) ≡ map winner_object l.winners
