use Rattle.std.proofs.Common.{◌≡◌, ◌<◌, ◌+◌, ◌∷◌, ◌∙◌, length, drop, sym, ap, arith}
use Rattle.std.proofs.lemmas.List.{drop_more}
use Rattle.mr_recover_plan.proofs.Histories.{are_ordered, one_more}
use Rattle.mr_recover_plan.proofs.plan.records_in.Goals as goal

pub loop-bytes-preserved : goal.loop-bytes-preserved
loop-bytes-preserved c =
    let all = c.args.segments.now in
    let i = c.loop-bytes.bytes-index in
    let in_range : i < length all = omega arith in
    let at : drop i all ≡ c.as_slice.result.now ∷ drop (i + 1) all = drop_more all i c.bytes-item.result in_range ∙ ap (λ x. x ∷ drop (i + 1) all) (sym c.bytes-item.is ∙ sym c.as_slice.ensures) in
    record {
      number = ap (λ x. x + 1) c.loop-bytes.invariant.number;
      read = one_more all (drop i all) c.as_slice.result.now (drop (i + 1) all) i c.loop-bytes.latest c.in_ok-latest.latest c.loop-bytes.records c.put_records.new.records
          c.loop-bytes.invariant.read at c.in_ok-latest.ensures.whole c.in_ok-latest.ensures.ok c.in_ok-latest.ensures.latest;
    }

pub returns-clause-order : goal.returns-clause-order
returns-clause-order c = are_ordered c.args.segments.now (drop c.loop-bytes.bytes-index c.args.segments.now) c.loop-bytes.bytes-index c.loop-bytes.latest c.loop-bytes.records c.loop-bytes.invariant.read
