use Rattle.std.proofs.Common.{sym, ◌∙◌}
use Rattle.mr_explore_search.proofs.Finishing.{alone_failed, turned_alone}
use Rattle.mr_explore_search.proofs.Turning.{is_over_is, turned_further}
use Rattle.mr_explore_search.proofs.turn.go_from.Goals as goal

pub returns-in_err-ended : goal.returns-in_err-ended
returns-in_err-ended g c faults late none nothing most =
    let over = is_over_is c.args.level.chances (sym c.is_over.ensures ∙ c.if-is_over.true) in
    alone_failed g.R.Run.steps most (record c.args.level { faults = faults; late = late }) c.args.levels.now c.in_err-ended.field-0.0 c.from_residual.result none nothing over.0 over.1 c.in_err-ended.ensures c.from_residual.ensures.1

pub returns-in_ok-ended : goal.returns-in_ok-ended
returns-in_ok-ended g c faults late none nothing most =
    let over = is_over_is c.args.level.chances (sym c.is_over.ensures ∙ c.if-is_over.true) in
    turned_alone g.R.Run.steps most (record c.args.level { faults = faults; late = late }) c.args.levels.now c.in_ok-ended.ended none nothing over.0 over.1 c.in_ok-ended.ensures

pub returns-else-is_over : goal.returns-else-is_over
returns-else-is_over g c faults late none nothing most =
    turned_further g.R.Run.steps most (record c.args.level { faults = faults; late = late }) c.args.levels.now c.go_further.result c.go_further.new.levels none nothing c.go_further.ensures
