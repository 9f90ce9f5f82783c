use Rattle.std.proofs.Common.{◌≡◌, ◌-◌, length}
use Rattle.mr_world.specs.Journal.{world_in}
use Rattle.mr_play.specs.Played.{cursor_at}
use Rattle.mr_play.proofs.calm.passed.Given as goal

-- where the cursor stops at last stays
abbrev pub invariant-loop-cursor : goal.invariant-loop-cursor
invariant-loop-cursor l = cursor_at (world_in l.world) l.dropped.keys l.cursor ≡ cursor_at (world_in l.world) l.dropped.keys l.from

abbrev pub decreases-loop-cursor : goal.decreases-loop-cursor
decreases-loop-cursor l = length (world_in l.world).bag - l.cursor
