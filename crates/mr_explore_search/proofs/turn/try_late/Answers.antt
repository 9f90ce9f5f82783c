use Rattle.std.proofs.Common.{◌≡◌, ◌-◌, ◌∷◌, suc, arith}
use Rattle.mr_explore_search.proofs.Turning.{late_can_not, late_no_departure, late_tried, same_if}
use Rattle.mr_explore_search.proofs.turn.try_late.Goals as goal

pub returns-then-departs-eq0-clause-tries : goal.returns-then-departs-eq0-clause-tries
returns-then-departs-eq0-clause-tries g c =
    let none : c.args.level.chances.departs ≡ 0 = omega (arith, c.if-departs-eq0.true) in
    same_if c.leave.result c.leave.new.levels _ _ (late_no_departure g.R.Run.steps c.args.most c.args.level.chances c.args.level.run (c.args.level ∷ c.args.levels.now) c.args.place c.args.fault none) c.leave.ensures.stays

pub returns-then-not-branch-clause-tries : goal.returns-then-not-branch-clause-tries
returns-then-not-branch-clause-tries g c =
    same_if c.leave-then-not-branch.result c.leave-then-not-branch.new.levels _ _ (late_can_not g.R.Run.steps c.args.most c.args.level.chances c.args.level.run (c.args.level ∷ c.args.levels.now) c.args.place c.args.fault (c.in_ok-may_befall.ensures.cannot c.if-not-branch.true)) c.leave-then-not-branch.ensures.stays

pub returns-clause-tries : goal.returns-clause-tries
returns-clause-tries g c =
    let more : c.args.level.chances.departs ≡ suc (c.args.level.chances.departs - 1) = omega (arith, c.if-departs-eq0.false) in
    same_if c.try_on_fork.result c.try_on_fork.new.levels _ _ (late_tried g.R.Run.steps c.args.most c.args.level.chances c.args.level.run (c.args.level ∷ c.args.levels.now) c.args.place c.args.fault c.in_ok-owed.owed c.len-ripe.result (c.args.level.chances.departs - 1) more c.in_ok-owed.ensures c.len-ripe.ensures) c.try_on_fork.ensures.tries
