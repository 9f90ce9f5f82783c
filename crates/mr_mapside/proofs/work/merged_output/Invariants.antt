use Rattle.std.proofs.Common.{◌≡◌, ◌≤◌, length, take}
use Rattle.std.specs.List.{flat_map}
use Rattle.mr_user.specs.Computation.{computation}
use Rattle.mr_mapside.specs.Block.{framed, combined_group, spelled}
use Rattle.mr_mapside.specs.Runs.{merged}
use Rattle.mr_mapside.proofs.work.merged_output.Given as goal

abbrev pub invariant-loop-runs : goal.invariant-loop-runs
invariant-loop-runs g l =
    let all = computation g.J.Key.Ord.cmp g.J.Key.Wire.codec g.J.Value.Wire.codec g.J.Job.functions in
    record {
      bytes : l.bytes.items ≡ flat_map (λ runs. framed (spelled all (flat_map (combined_group all) (merged all runs)))) (take l.runs-index l.kept);
      short : length l.bytes.items ≤ 16777216;
    }
