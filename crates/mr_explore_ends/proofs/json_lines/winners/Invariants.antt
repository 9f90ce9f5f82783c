use Rattle.std.proofs.Common.{◌≡◌, ◌++◌, drop, map}
use Rattle.serde_json.specs.View.{view}
use Rattle.mr_explore_ends.specs.JsonLines.{winner_data}
use Rattle.mr_explore_ends.proofs.json_lines.winners.Given as goal

-- those so far, and those that are left, are all
abbrev pub invariant-loop-winner : goal.invariant-loop-winner
invariant-loop-winner l = map view l.all.items ++ map winner_data (drop l.winner-index l.winners) ≡ map winner_data l.winners
