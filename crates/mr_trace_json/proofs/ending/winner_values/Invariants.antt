use Rattle.std.proofs.Common.{◌≡◌, ◌++◌, drop, map}
use Rattle.serde_json.specs.View.{view}
use Rattle.mr_trace_json.specs.Endings.{winner_data}
use Rattle.mr_trace_json.proofs.ending.winner_values.Given as goal

-- the winners so far, in front of those that are left, are all winners
abbrev pub invariant-loop-winner : goal.invariant-loop-winner
invariant-loop-winner l = map view l.all.items ++ map winner_data (drop l.winner-index l.winners) ≡ map winner_data l.winners
