use Rattle.std.proofs.Common.{◌∙◌, ap, sym, subst, map, Some, List, ℕ, Bor}
use Rattle.mr_user.specs.Computation.{computation}
use Rattle.mr_mapside.specs.Runs.{merged}
use Rattle.mr_mapside.proofs.RunSteps.{merged_nothing}
use Rattle.mr_shuffle.specs.Work.{bytes_of}
use Rattle.mr_shuffle.specs.Merging.{IsMergeOf, items_of}
use Rattle.mr_shuffle.proofs.Merges.{merge_broken}
use Rattle.mr_shuffle.proofs.merge.Merge.new.Goals as goal

pub returns-in_ok-new-in_default : goal.returns-in_ok-new-in_default
returns-in_ok-new-in_default g c =
    let all = computation g.J.Key.Ord.cmp g.J.Key.Wire.codec g.J.Value.Wire.codec g.J.Job.functions in
    let none = c.in_ok-new-in_default.ensures ∙ ap (λ lists. merged all (map (λ (bytes : Bor (List ℕ)). bytes.now) lists)) c.new.ensures.items ∙ merged_nothing all g.met.J.Key.Ord.total g.met.J.Job.laws.same_key in
    subst (λ groups. IsMergeOf all (bytes_of c.args.parts.now) (items_of groups (Some c.in-Err.fault))) (sym none)
    (merge_broken all (bytes_of c.args.parts.now) c.in-Err.fault c.in_default.not-NoMemory c.in-Err.ensures.fault)
