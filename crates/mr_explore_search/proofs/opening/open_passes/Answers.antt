use Rattle.std.proofs.Common.{◌≤◌, ◌<◌, ◌-◌, ◌∷◌, ap, ◌∙◌, arith}
use Rattle.mr_explore_search.specs.inner.Stack.{pass}
use Rattle.mr_explore_search.proofs.Passes.{all_there, none_yet, one_more}
use Rattle.mr_explore_search.proofs.opening.open_passes.Goals as goal

pub loop-fewer-init : goal.loop-fewer-init
loop-fewer-init g c = none_yet g.R.Run.steps c.args.most c.args.run.now c.args.faults c.args.levels.now

pub loop-fewer-preserved : goal.loop-fewer-preserved
loop-fewer-preserved g c =
    let few : c.loop-fewer.fewer < c.args.faults = omega (arith, c.loop-fewer-test.true) in
    one_more g.R.Run.steps c.args.most c.args.run.now c.args.faults c.loop-fewer.fewer c.args.levels.now c.loop-fewer.levels c.open_pass.new.levels few c.loop-fewer.invariant
    (c.in_ok-open_pass.ensures.opens ∙ ap (λ s. pass g.R.Run.steps c.args.most (c.args.faults - c.loop-fewer.fewer) s ∷ c.loop-fewer.levels) c.in_ok-fork.ensures.is)

pub returns-clause-opens : goal.returns-clause-opens
returns-clause-opens g c =
    let many : c.args.faults ≤ c.loop-fewer.fewer = omega (arith, c.loop-fewer-test.false) in
    all_there g.R.Run.steps c.args.most c.args.run.now c.args.faults c.loop-fewer.fewer c.args.levels.now c.loop-fewer.levels many (omega arith) c.loop-fewer.invariant
