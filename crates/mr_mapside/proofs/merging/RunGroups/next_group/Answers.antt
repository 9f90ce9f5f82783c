use Rattle.std.proofs.Common.{◌∙◌, ap, map, Bor, ℕ, List}
use Rattle.mr_user.specs.Computation.{computation}
use Rattle.mr_mapside.specs.Runs.{merged}
use Rattle.mr_mapside.proofs.RunSteps.{merged_nothing}
use Rattle.mr_mapside.proofs.merging.RunGroups.next_group.Goals as goal

pub returns-in-Err-clause-over : goal.returns-in-Err-clause-over
returns-in-Err-clause-over g c =
    let all = computation g.J.Key.Ord.cmp g.J.Key.Wire.codec g.J.Value.Wire.codec g.J.Job.functions in
    ap (λ bytes. merged all (map (λ (bytes : Bor (List ℕ)). bytes.now) bytes)) c.clear.ensures.items ∙ merged_nothing all g.met.J.Key.Ord.total g.met.J.Job.laws.same_key
