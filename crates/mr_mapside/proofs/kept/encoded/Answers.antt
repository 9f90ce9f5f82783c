use Rattle.std.proofs.Common.{◌∙◌, ap, subst}
use Rattle.std.proofs.lemmas.List.{take_all}
use Rattle.mr_user.specs.Computation.{computation}
use Rattle.mr_user.specs.Laws.{PairsFit}
use Rattle.mr_mapside.specs.Block.{spelled}
use Rattle.mr_mapside.proofs.Keeping.{written_more, fits_more}
use Rattle.mr_mapside.proofs.kept.encoded.Goals as goal

pub loop-key-init : goal.loop-key-init
loop-key-init g c = record { bytes = c.new-bytes.ensures.items; fit = tt }

pub loop-key-preserved : goal.loop-key-preserved
loop-key-preserved g c =
    let all = computation g.J.Key.Ord.cmp g.J.Key.Wire.codec g.J.Value.Wire.codec g.J.Job.functions in
    let i = c.loop-key.key-index in
    record {
      bytes = written_more all c.args.pairs.now i c.loop-key-item.result c.loop-key.bytes.items _ _ c.loop-key-test.true c.loop-key-item.is c.loop-key.invariant.bytes c.in_ok-write.ensures.ok c.in_ok-write-2.ensures.ok;
      fit = fits_more all c.args.pairs.now i c.loop-key-item.result c.loop-key-test.true c.loop-key-item.is c.loop-key.invariant.fit (c.fits.ensures, c.fits-in-loop-key.ensures);
    }

pub returns-clause-bytes : goal.returns-clause-bytes
returns-clause-bytes g c =
    let all = computation g.J.Key.Ord.cmp g.J.Key.Wire.codec g.J.Value.Wire.codec g.J.Job.functions in
    c.loop-key.invariant.bytes ∙ ap (spelled all) (take_all c.loop-key.key-index c.args.pairs.now c.loop-key-test.false)

pub returns-clause-fit : goal.returns-clause-fit
returns-clause-fit g c =
    let all = computation g.J.Key.Ord.cmp g.J.Key.Wire.codec g.J.Value.Wire.codec g.J.Job.functions in
    subst (PairsFit all) (take_all c.loop-key.key-index c.args.pairs.now c.loop-key-test.false) c.loop-key.invariant.fit
