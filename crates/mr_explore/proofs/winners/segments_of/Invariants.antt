use Rattle.std.proofs.Common.{◌≡◌, map}
use Rattle.std.specs.List.{flat_map}
use Rattle.mr_history.specs.Reading.{records_of}
use Rattle.mr_world_model.specs.Records.{records_below}
use Rattle.mr_play.specs.mr_world.specs.Journal.{world_in}
use Rattle.mr_explore.proofs.winners.segments_of.Given as goal

-- the segments so far tell the records below this generation
abbrev pub invariant-loop-k : goal.invariant-loop-k
invariant-loop-k l = flat_map records_of (map (λ v. v.items) l.all.items) ≡ records_below (world_in l.world).history l.k
