use Rattle.std.proofs.Common.{◌<◌, ◌∙◌, ap, sym, length, set, arith}
use Rattle.std.proofs.lemmas.List.Edits.{map_over_more}
use Rattle.mr_history.specs.Segment.{sealed}
use Rattle.mr_history.proofs.generations.seal_all.Goals as goal

pub loop-segment-preserved : goal.loop-segment-preserved
loop-segment-preserved c =
    let items = c.loop-segment.segment-items in
    let i = c.loop-segment.segment-index in
    let inside : i < length c.args.segments.now = let low = c.loop-segment-test.true in let same = c.loop-segment.auto.segment-items in omega arith in
    ap (set items i) (c.seal.ensures ∙ ap (sealed c.args.kept) (sym c.segment-item.is)) ∙ map_over_more (sealed c.args.kept) c.args.segments.now items i c.segment-item.result inside c.loop-segment.invariant c.segment-item.is
