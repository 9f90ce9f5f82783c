use Rattle.std.proofs.Common.{◌≡◌, ◌≢◌, ◌++◌, [], length}
use Rattle.std.specs.List.{flat_map, AllByRecursion}
use Rattle.mr_user.specs.Computation.{computation}
use Rattle.mr_mapside.specs.Block.{combined_group, spelled}
use Rattle.mr_mapside.specs.Runs.{merged}
use Rattle.mr_mapside.proofs.work.merged_block.Given as goal

abbrev pub invariant-loop-name : goal.invariant-loop-name
invariant-loop-name g l =
    let all = computation g.J.Key.Ord.cmp g.J.Key.Wire.codec g.J.Value.Wire.codec g.J.Job.functions in
    record {
      block : spelled all (flat_map (combined_group all) (merged all l.runs)) ≡ l.block.items ++ spelled all (flat_map (combined_group all) l.groups);
      some : AllByRecursion (λ g. g.1 ≢ []) l.groups;
    }

abbrev pub decreases-loop-name : goal.decreases-loop-name
decreases-loop-name g l = length l.groups
