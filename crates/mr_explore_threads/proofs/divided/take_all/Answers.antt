use Rattle.std.proofs.Common.{◌<◌, ◌+◌, [], drop, get_or, length, refl, ap, ◌∙◌, arith}
use Rattle.mr_explore_search.specs.Parting.{whole}
use Rattle.mr_explore_threads.specs.inner.Counts.{remaining}
use Rattle.mr_explore_threads.proofs.Advancing.{next_counted, next_first, none_yet}
use Rattle.mr_explore_threads.proofs.divided.take_all.Goals as goal

pub loop-place-init : goal.loop-place-init
loop-place-init c = (refl, λ limit goal less all. (all, none_yet c.args.most goal (remaining (whole c.args.parts.now) c.args.table.now)))

pub loop-place-preserved : goal.loop-place-preserved
loop-place-preserved c =
    let few : c.loop-place.place < length c.args.parts.now.parts = let n = c.len-count.ensures in let t = c.loop-place-test.true in omega (arith, n, t) in
    let next = c.loop-place.invariant.0 ∙ next_first c.args.parts.now.parts c.loop-place.place few in (
      c.in_ok-take_first-in-Some.ensures.rest c.if-not-branch.false ∙ ap (drop 1) next,
      λ limit goal less all.
          let before = c.loop-place.invariant.1 limit goal less all in (
            c.taken.ensures.others limit goal c.args.parts.now before.0,
            c.in_ok-take_first-in-Some.ensures.goes limit goal (remaining (whole c.args.parts.now) c.args.table.now) (get_or c.args.parts.now.parts c.loop-place.place []) (drop (c.loop-place.place + 1) c.args.parts.now.parts) less next
                (next_counted limit goal c.args.parts.now c.loop-place.place c.in-Some.part few (c.in-Some.ensures.is limit goal c.args.parts.now before.0)) before.1,
          ),
    )

pub returns-then-not-branch : goal.returns-then-not-branch
returns-then-not-branch c = λ limit goal less all.
    let few : c.loop-place.place < length c.args.parts.now.parts = let n = c.len-count.ensures in let t = c.loop-place-test.true in omega (arith, n, t) in
    let next = c.loop-place.invariant.0 ∙ next_first c.args.parts.now.parts c.loop-place.place few in
    let before = c.loop-place.invariant.1 limit goal less all in
    c.in_ok-take_first-in-Some.ensures.goes limit goal (remaining (whole c.args.parts.now) c.args.table.now) (get_or c.args.parts.now.parts c.loop-place.place []) (drop (c.loop-place.place + 1) c.args.parts.now.parts) less next
    (next_counted limit goal c.args.parts.now c.loop-place.place c.in-Some.part few (c.in-Some.ensures.is limit goal c.args.parts.now before.0)) before.1
