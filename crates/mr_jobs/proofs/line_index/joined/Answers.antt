use Rattle.std.proofs.Common.{◌≡◌, ◌<◌, ◌∙◌, ◌++◌, ◌∷◌, sym, ap, length, get_or, arith}
use Rattle.std.specs.Prelude.{decimal}
use Rattle.std.proofs.lemmas.List.{length-append}
use Rattle.mr_user.specs.declared.position.Position.{Position}
use Rattle.mr_jobs.specs.LineIndex.{position_text}
use Rattle.mr_jobs.proofs.Joining.{join_more_first, join_more_next}
use Rattle.mr_jobs.proofs.line_index.joined.Goals as goal
use Rattle.mr_jobs.proofs.line_index.joined.Goals.{then-not-is_empty+in_ok-push, else-not-is_empty}

position_some : (p : Position) → 0 < length (position_text p)
position_some p = omega (arith, length-append (decimal p.split) (58 ∷ decimal p.line))

pub loop-position-preserved : goal.loop-position-preserved
loop-position-preserved c =
    let first : Position = record { split = 0; line = 0 } in
    let item = get_or c.args.positions.now c.loop-position.position-index first in
    let wrote : c.write_position.new.out.items ≡ c.if-not-is_empty.text.items ++ position_text item = c.in_ok-write_position.ensures in
    let count : c.loop-position.text.len ≡ length c.loop-position.text.items = omega arith in
    elim c.if-not-is_empty.branch [
      | then-not-is_empty+in_ok-push w ↦
          join_more_next position_text position_some 44 c.args.positions.now c.loop-position.position-index first c.loop-position.text.len c.loop-position.text.items c.if-not-is_empty.text.items c.write_position.new.out.items
          c.loop-position-test.true c.loop-position.invariant count (sym c.is_empty.ensures ∙ w.if-not-is_empty.true) (ap (λ v. v.items) w.text-is ∙ w.in_ok-push.ensures.items) wrote
      | else-not-is_empty w ↦
          join_more_first position_text position_some 44 c.args.positions.now c.loop-position.position-index first c.loop-position.text.len c.loop-position.text.items c.if-not-is_empty.text.items c.write_position.new.out.items
          c.loop-position-test.true c.loop-position.invariant count (sym c.is_empty.ensures ∙ w.if-not-is_empty.false) (ap (λ v. v.items) w.text-is) wrote
    ]
