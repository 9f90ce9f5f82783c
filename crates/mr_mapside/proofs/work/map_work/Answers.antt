use Rattle.std.proofs.Common.{◌∙◌, Some, ap, sym}
use Rattle.std.specs.List.{flat_map}
use Rattle.std.specs.Option.{option_map}
use Rattle.std.proofs.lemmas.Result.{IfOk-weaker, IfErr-weaker}
use Rattle.mr_user.specs.Computation.{computation}
use Rattle.mr_mapside.specs.Block.{framed, output_of, map_output}
use Rattle.mr_mapside.proofs.Keeping.{block_in, kept_output}
use Rattle.mr_mapside.proofs.Outputs.{work_fault}
use Rattle.mr_mapside.proofs.work.map_work.Goals as goal

pub returns-clause-output : goal.returns-clause-output
returns-clause-output g c =
    let all = computation g.J.Key.Ord.cmp g.J.Key.Wire.codec g.J.Value.Wire.codec g.J.Job.functions in
    let kept = c.in_ok-kept.ensures.pairs in
    let whole = ap (flat_map (λ runs. framed (block_in all g.met.J.Key.Ord.total g.met.J.Job.laws.same_key runs))) c.deref.ensures.value ∙ kept_output all g.met.J.Key.Ord.total g.met.J.Job.laws.same_key c.args.reduces c.in_ok-kept.kept.items kept.0 kept.2 in
    IfOk-weaker c.merged_output.result _ _ (λ output h. ap (option_map (output_of all c.args.reduces)) kept.1 ∙ ap Some (sym (h ∙ whole))) c.merged_output.ensures.output

pub returns-clause-fault : goal.returns-clause-fault
returns-clause-fault g c =
    let all = computation g.J.Key.Ord.cmp g.J.Key.Wire.codec g.J.Value.Wire.codec g.J.Job.functions in
    let kept = c.in_ok-kept.ensures.pairs in
    let whole = ap (flat_map (λ runs. framed (block_in all g.met.J.Key.Ord.total g.met.J.Job.laws.same_key runs))) c.deref.ensures.value ∙ kept_output all g.met.J.Key.Ord.total g.met.J.Job.laws.same_key c.args.reduces c.in_ok-kept.kept.items kept.0 kept.2 in
    IfErr-weaker c.merged_output.result _ _ (λ fault h. work_fault _ fault (map_output all c.args.reduces c.args.number c.args.split.now) _ (ap (option_map (output_of all c.args.reduces)) kept.1 ∙ ap Some (sym whole)) h) c.merged_output.ensures.fault
