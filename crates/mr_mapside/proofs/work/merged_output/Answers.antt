use Rattle.std.proofs.Common.{◌∙◌, ◌++◌, ap, IfErr, List, ℕ, rules}
use Rattle.std.proofs.lemmas.Result.{IfErr-weaker}
use Rattle.mr_user.specs.Computation.{computation}
use Rattle.mr_mapside.specs.Block.{framed}
use Rattle.mr_mapside.specs.Work.{FullIf}
use Rattle.mr_mapside.proofs.Keeping.{block_in}
use Rattle.mr_mapside.proofs.Outputs.{full_more, one_more, out_more}
use Rattle.mr_mapside.proofs.work.merged_output.Goals as goal

pub returns-in_err-append_block-clause-fault : goal.returns-in_err-append_block-clause-fault
returns-in_err-append_block-clause-fault g c =
    let all = computation g.J.Key.Ord.cmp g.J.Key.Wire.codec g.J.Value.Wire.codec g.J.Job.functions in
    let block : List (List ℕ) → List ℕ = λ runs. framed (block_in all g.met.J.Key.Ord.total g.met.J.Job.laws.same_key runs) in
    let was : IfErr c.from_residual-in_err-append_block.result (λ fault. FullIf fault (c.loop-runs.bytes.items ++ framed c.deref.result.now)) = search rules in
    let less = one_more block c.args.kept.now c.loop-runs.runs-index c.runs-item.result c.loop-runs.bytes.items (framed c.deref.result.now) c.loop-runs-test.true c.runs-item.is c.loop-runs.invariant.bytes (ap framed (c.deref.ensures.value ∙ c.in_ok-merged_block.ensures)) in
    IfErr-weaker c.from_residual-in_err-append_block.result _ _ (λ fault f. full_more fault _ _ less f) was

pub loop-runs-preserved : goal.loop-runs-preserved
loop-runs-preserved g c =
    let all = computation g.J.Key.Ord.cmp g.J.Key.Wire.codec g.J.Value.Wire.codec g.J.Job.functions in
    let block : List (List ℕ) → List ℕ = λ runs. framed (block_in all g.met.J.Key.Ord.total g.met.J.Job.laws.same_key runs) in
    record {
      bytes = out_more block c.args.kept.now c.loop-runs.runs-index c.runs-item.result c.loop-runs.bytes.items c.append_block.new.bytes.items c.loop-runs-test.true c.runs-item.is c.loop-runs.invariant.bytes
          (c.in_ok-append_block.ensures.ok ∙ ap (λ bytes. c.loop-runs.bytes.items ++ framed bytes) (c.deref.ensures.value ∙ c.in_ok-merged_block.ensures));
      short = c.in_ok-append_block.ensures.short;
    }
