use Rattle.std.proofs.Common.{sym}
use Rattle.mr_explore_search.proofs.Looking.{took_failed, took_limit, took_none, took_run}
use Rattle.mr_explore_search.proofs.walk.Walk.next_run.Goals as goal

pub returns-in_err-self-inside-in-Some-Run : goal.returns-in_err-self-inside-in-Some-Run
returns-in_err-self-inside-in-Some-Run g c =
    took_failed g.R.Run.steps c.self.inside.most c.args.self.now c.take.new.self c.self.inside.levels c.look.new.levels c.in_err-self-inside-in-Some-Run.field-0.0 c.from_residual.result c.in-Some-Run.ensures.after c.in_err-self-inside-in-Some-Run.ensures c.from_residual.ensures.1

pub returns-in_ok-self-inside-in-Some-Run : goal.returns-in_ok-self-inside-in-Some-Run
returns-in_ok-self-inside-in-Some-Run g c =
    took_run g.R.Run.steps c.self.inside.most c.args.self.now c.self.inside.next _ c.in-Some-Run.field-0 c.in-Some-Run.ended c.self.inside.levels c.look.new.levels c.self.view_is (sym c.in-Some-Run.ensures.value) c.in-Some-Run.field-0-is c.in_ok-self-inside-in-Some-Run.ensures

pub returns-in-Some-PassesLimit : goal.returns-in-Some-PassesLimit
returns-in-Some-PassesLimit g c =
    took_limit g.R.Run.steps c.self.inside.most c.args.self.now c.self.inside.next c.take.new.self c.in-Some-PassesLimit.field-0 c.self.inside.levels c.self.view_is (sym c.in-Some-PassesLimit.ensures.value) c.in-Some-PassesLimit.field-0-is c.in-Some-PassesLimit.ensures.after

pub returns-in-None : goal.returns-in-None
returns-in-None g c =
    took_none g.R.Run.steps c.self.inside.most c.args.self.now c.self.inside.next c.take.new.self c.self.inside.levels c.self.view_is (sym c.in-None.ensures.value) c.in-None.ensures.after
