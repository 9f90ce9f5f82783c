use Rattle.std.proofs.Common.{◌≡◌, ◌++◌, ◌∙◌, None, take, drop, ap, ap₂, sym, subst, rules}
use Rattle.mr_history.specs.Line.{whole_line, width, suits, InRange}
use Rattle.mr_history.specs.State.{SegmentState}
use Rattle.mr_history.specs.Segment.{opening, append_refusal, growth_refusal}
use Rattle.mr_history.proofs.Segments.{appended_inside, written_fits}
use Rattle.mr_history.proofs.segment.Segment.append.Goals as goal

pub invariant_of-self-2 : goal.invariant_of-self-2
invariant_of-self-2 c =
    let s = c.self.inside in
    let may : append_refusal c.args.record (record { version = s.version; stable = take s.mark s.bytes.items; tail = drop s.mark s.bytes.items; is_sealed = s.sealed }) ≡ None = ap₂ (λ (x : SegmentState) w. growth_refusal (width w) x) c.self.view_is (sym c.as_written-written.ensures) ∙ sym c.append_refused.ensures.refusal ∙ c.in_default.is in
    let same : s.version ≡ c.args.self.now.version = ap (λ (x : SegmentState). x.version) c.self.view_is in
    let fit = written_fits s.version c.args.record c.requires.fits (ap (λ v. suits v c.args.record) same ∙ c.requires.suits) in (
      (search rules),
      appended_inside s.version s.bytes.items c.as_bytes.result.now c.extend_from_slice.new.self.items s.mark c.args.record s.sealed c.self.invariant.0 c.in_ok-extend_from_slice.ensures.items may
          (c.as_bytes.ensures.value ∙ c.in_ok-text.ensures.added ∙ ap₂ (λ x w. opening x ++ whole_line w) (sym c.self.view_is) c.as_written-written.ensures)
          ((fit.0, subst InRange c.as_written-written.ensures c.append_refused.ensures.ranges), fit.1)
          c.self.invariant.1,
    )
