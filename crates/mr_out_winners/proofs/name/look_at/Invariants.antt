use Rattle.std.proofs.Common.{◌≡◌, drop, map}
use Rattle.mr_out_winners.specs.Tasks.{as_seen, look_at}
use Rattle.mr_out_winners.proofs.name.look_at.Given as goal

abbrev pub invariant-loop-seen : goal.invariant-loop-seen
invariant-loop-seen l = look_at l.name (map as_seen (drop l.seen-index l.names)) ≡ look_at l.name (map as_seen l.names)
