use Rattle.std.proofs.Common.{◌≡◌, ◌-◌, ◌∷◌, ◌++◌, suc, option_to_list, ap, ◌∙◌, arith}
use Rattle.mr_explore_search.proofs.Turning.{can_not, fault_tried, no_departure, no_spare, same_if}
use Rattle.mr_explore_search.proofs.turn.try_fault.Goals as goal

pub returns-then-spare-eq0-clause-tries : goal.returns-then-spare-eq0-clause-tries
returns-then-spare-eq0-clause-tries g c =
    let none : c.args.level.chances.spare ≡ 0 = omega (arith, c.if-spare-eq0.true) in
    same_if c.leave.result c.leave.new.levels _ _ (no_spare g.R.Run.steps c.args.most c.args.level.chances c.args.level.run (c.args.level ∷ c.args.levels.now) c.args.fault none) c.leave.ensures.stays

pub returns-then-departs-eq0-clause-tries : goal.returns-then-departs-eq0-clause-tries
returns-then-departs-eq0-clause-tries g c =
    let none : c.args.level.chances.departs ≡ 0 = omega (arith, c.if-departs-eq0.true) in
    same_if c.leave-then-departs-eq0.result c.leave-then-departs-eq0.new.levels _ _ (no_departure g.R.Run.steps c.args.most c.args.level.chances c.args.level.run (c.args.level ∷ c.args.levels.now) c.args.fault none) c.leave-then-departs-eq0.ensures.stays

pub returns-then-not-branch-clause-tries : goal.returns-then-not-branch-clause-tries
returns-then-not-branch-clause-tries g c =
    same_if c.leave-then-not-branch.result c.leave-then-not-branch.new.levels _ _ (can_not g.R.Run.steps c.args.most c.args.level.chances c.args.level.run (c.args.level ∷ c.args.levels.now) c.args.fault (c.in_ok-may_befall.ensures.cannot c.if-not-branch.true)) c.leave-then-not-branch.ensures.stays

pub returns-clause-tries : goal.returns-clause-tries
returns-clause-tries g c =
    let fault_more : c.args.level.chances.spare ≡ suc (c.args.level.chances.spare - 1) = omega (arith, c.if-spare-eq0.false) in
    let more : c.args.level.chances.departs ≡ suc (c.args.level.chances.departs - 1) = omega (arith, c.if-departs-eq0.false) in
    let owed_is = c.in_ok-owed.ensures ∙ ap (λ o. c.args.level.chances.owed ++ option_to_list o) c.later-later.ensures in
    same_if c.try_on_fork.result c.try_on_fork.new.levels _ _ (fault_tried g.R.Run.steps c.args.most c.args.level.chances c.args.level.run (c.args.level ∷ c.args.levels.now) c.args.fault c.in_ok-owed.owed c.len-ripe.result (c.args.level.chances.spare - 1) (c.args.level.chances.departs - 1) fault_more more owed_is c.len-ripe.ensures) c.try_on_fork.ensures.tries
