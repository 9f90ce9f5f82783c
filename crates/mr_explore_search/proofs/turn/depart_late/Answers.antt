use Rattle.std.proofs.Common.{◌≡◌, ◌-◌, suc, arith}
use Rattle.mr_explore_search.proofs.Turning.{turned_late}
use Rattle.mr_explore_search.proofs.turn.depart_late.Goals as goal

pub returns-clause-departs : goal.returns-clause-departs
returns-clause-departs g c =
    let more : c.args.level.late ≡ suc (c.args.level.late - 1) = omega (arith, c.if-level-eq0.false) in
    turned_late g.R.Run.steps c.args.most c.args.level (c.args.level.late - 1) c.args.levels.now c.try_owed.new.levels c.requires more c.in_ok-try_owed.ensures.tries
