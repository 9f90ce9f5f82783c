use Rattle.std.proofs.Common.{◌≡◌, ◌<◌, [], ◌∙◌, ap, length, arith}
use Rattle.std.proofs.lemmas.Bool.{false≢true}
use Rattle.mr_history.specs.State.{SegmentState}
use Rattle.mr_history.specs.Reading.{records_of}
use Rattle.mr_history.proofs.Histories.{own_nothing}
use Rattle.mr_history.proofs.generations.records_of_all.Goals as goal

pub returns-in_err-more-clause-nothing : goal.returns-in_err-more-clause-nothing
returns-in_err-more-clause-nothing c none =
    let inside : c.loop-segment.segment-index < length c.args.segments.now = let low = c.loop-segment-test.true in omega arith in
    let own : records_of c.segment-item.result.stable ≡ [] = ap (λ (s : SegmentState). records_of s.stable) c.segment-item.is ∙ own_nothing c.args.segments.now c.loop-segment.segment-index c.segment-item.result inside none in
    absurd (false≢true (c.in_err-more.ensures.nothing own))

pub returns-in_err-extend-clause-nothing : goal.returns-in_err-extend-clause-nothing
returns-in_err-extend-clause-nothing c none =
    let inside : c.loop-segment.segment-index < length c.args.segments.now = let low = c.loop-segment-test.true in omega arith in
    let own : records_of c.segment-item.result.stable ≡ [] = ap (λ (s : SegmentState). records_of s.stable) c.segment-item.is ∙ own_nothing c.args.segments.now c.loop-segment.segment-index c.segment-item.result inside none in
    absurd (false≢true (c.in_err-extend.ensures.nothing (c.as_slice.ensures ∙ c.in_ok-more.ensures.told ∙ own)))
