use Rattle.std.proofs.Common.{refl, ap, [], if◌then◌else◌}
use Rattle.mr_task.specs.Calls.{Loses}
use Rattle.mr_master_model.specs.Readings.{tell}
use Rattle.mr_master_state.specs.declared.change.Change.TheVariants as change
use Rattle.mr_master_state.proofs.Made.{plan-as}
use Rattle.mr_master_events.proofs.output.prepare_lost.Goals as goal

pub returns-in-Some : goal.returns-in-Some
returns-in-Some c =
    let a = c.args.attempt in
    plan-as [] (change.Loses c.in-Some.place a) c.silent.ensures c.in-Some.ensures.at (λ w s k. refl) (λ w s k. ap (λ b. if b then tell s a.task (Loses a) else s) (c.in-Some.ensures.lost w s k))

pub returns-in-None : goal.returns-in-None
returns-in-None c =
    let a = c.args.attempt in
    plan-as [] change.Nothing c.silent-in-None.ensures tt (λ w s k. refl) (λ w s k. ap (λ b. if b then tell s a.task (Loses a) else s) (c.in-None.ensures.none w s k))
