use Rattle.std.proofs.Common.{refl, sym, ◌∙◌, ap, [], Option}
use Rattle.mr_ids.specs.Attempt.{Attempt}
use Rattle.mr_master_model.specs.declared.launch.Launch.{Launch}
use Rattle.mr_master_model.specs.Hearing.{after_fetch_lost}
use Rattle.mr_master_state.proofs.Containers.{launched-is, not-launched}
use Rattle.mr_master_state.proofs.Made.{plans-as}
use Rattle.mr_master_events.proofs.Planned.{nothing-lost}
use Rattle.mr_master_events.proofs.output.prepare_loss.Goals as goal

pub returns-in-Some : goal.returns-in-Some
returns-in-Some c =
    let d = c.args.container in
    let p = c.in-Some._launched in
    plans-as (λ w s k. refl)
    (λ w s k. ap (λ (o : Option (Attempt × Launch)). after_fetch_lost w s c.args.attempt o) (sym (launched-is w s d p.0 p.1.0 p.1.1 (c.in-Some.ensures.known w s k)).launched))
    c.prepare_lost.ensures

pub returns-in-None : goal.returns-in-None
returns-in-None c = nothing-lost c.args.container c.args.attempt c.silent.ensures
    (λ w s keeps. not-launched w s c.args.container (sym c.in-None.is ∙ c.launched_in.ensures.known w s keeps))
