use Rattle.std.proofs.Common.{◌≡◌, ◌-◌}
use Rattle.std.specs.List.{list_all, range_with_len}
use Rattle.mr_play.specs.mr_world.specs.Journal.{world_in}
use Rattle.mr_explore.specs.Vain.{comes}
use Rattle.mr_explore.proofs.vain.all_come.Given as goal

-- those that are left decide
abbrev pub invariant-loop-place : goal.invariant-loop-place
invariant-loop-place l = list_all (comes (world_in l.world) l.events) (range_with_len l.place (l.last - l.place)) ≡ list_all (comes (world_in l.world) l.events) (range_with_len l.from (l.last - l.from))
