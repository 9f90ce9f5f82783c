use Rattle.std.proofs.Common.{◌≡◌, map, take}
use Rattle.std.specs.List.{flat_map}
use Rattle.mr_user.specs.Computation.{computation}
use Rattle.mr_user.specs.Sequential.{key_lines}
use Rattle.mr_user.proofs.execution.texts.Given as goal

abbrev pub invariant-loop-part : goal.invariant-loop-part
invariant-loop-part g l =
    let all = computation g.J.Key.Ord.cmp g.J.Key.Wire.codec g.J.Value.Wire.codec g.J.Job.functions in
    map (λ file. file.items) l.files.items ≡ map (flat_map (key_lines all)) (take l.part-index l.parts)
