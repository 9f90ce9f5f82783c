use Rattle.std.proofs.Common.{◌∷◌, append-nil, ap, ◌∙◌}
use Rattle.std.proofs.lemmas.Result.{IfOk-weaker}
use Rattle.mr_explore_search.specs.inner.Stack.{left_of, stack_left}
use Rattle.mr_explore_search.proofs.parts.walk_from.Goals as goal

pub returns-clause-is : goal.returns-clause-is
returns-clause-is g c =
    IfOk-weaker c.of.result _ _
    (λ walk h. h ∙ (ap (stack_left g.R.Run.steps c.args.most) (c.in_ok-push.ensures ∙ (λ i. c.in_ok-fork_level.ensures.is i ∷ c.new-levels.ensures i)) ∙ append-nil (left_of g.R.Run.steps c.args.most c.args.level.now)))
    c.of.ensures.all
