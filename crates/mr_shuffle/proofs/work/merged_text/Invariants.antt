use Rattle.std.proofs.Common.{◌≡◌, ◌≤◌, ◌++◌, length}
use Rattle.std.specs.List.{flat_map}
use Rattle.mr_user.specs.Computation.{computation}
use Rattle.mr_user.specs.Sequential.{key_lines}
use Rattle.mr_shuffle.proofs.work.merged_text.Given as goal

abbrev pub invariant-loop-text : goal.invariant-loop-text
invariant-loop-text g l =
    let all = computation g.J.Key.Ord.cmp g.J.Key.Wire.codec g.J.Value.Wire.codec g.J.Job.functions in
    record {
      text : flat_map (key_lines all) l.initial.groups ≡ l.text.items ++ flat_map (key_lines all) l.groups;
      short : length l.text.items ≤ 16777216;
    }

abbrev pub decreases-loop-text : goal.decreases-loop-text
decreases-loop-text g l = length l.groups
