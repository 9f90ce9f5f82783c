use Rattle.std.proofs.Common.{◌∙◌, ap, subst, refl, Option, Some, Ok}
use Rattle.mr_world_stores.specs.declared.container.ContainerCall.{ContainerCall}
use Rattle.mr_world_state.specs.inner.Calling.{ForeseesCall}
use Rattle.mr_world_state.proofs.Looking.{by-container}
use Rattle.mr_world_state.proofs.parts.Parts.asked_in_step.Goals as goal

pub returns-in_ok-heard-in-Some : goal.returns-in_ok-heard-in-Some
returns-in_ok-heard-in-Some c = λ w s t. ap (λ x. Some x) c.in_ok-heard-in-Some.ensures
    ∙ by-container c.args.self.now c.args.c.now c.args.weather c.in-Some.call _
    (subst (λ (x : Option ContainerCall). ForeseesCall c.args.self.now c.args.c.now c.args.weather (Ok x)) c.in-Some.is c.in_ok-call.ensures.foresees) refl w s
