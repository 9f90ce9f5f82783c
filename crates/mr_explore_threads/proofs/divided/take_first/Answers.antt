use Rattle.std.proofs.Common.{◌≤◌, ◌-◌, ◌^◌, arith}
use Rattle.mr_explore_threads.proofs.Advancing.{first_taken}
use Rattle.mr_explore_threads.proofs.divided.take_first.Goals as goal

pub returns-clause-goes : goal.returns-clause-goes
returns-clause-goes c = λ limit goal old first others less is counted a.
    let small : c.args.most ≤ 2 ^ 64 - 1 = let fits = c.ranges.most.fits in omega (arith, fits) in
    let sum = c.fit.ensures c.if-not-fit.false in
    let one = c.runs.ensures in
    let two = c.runs-2.ensures in
    first_taken c.args.most limit goal old c.args.parts.now c.forget_first.new.self c.args.table.now c.join.new.self c.args.part first others small less is counted a (omega (arith, sum, one, two)) c.forget_first.ensures c.in_ok-join.ensures
