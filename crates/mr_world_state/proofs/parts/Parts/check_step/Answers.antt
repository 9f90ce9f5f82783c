use Rattle.std.proofs.Common.{Option, Ok, subst}
use Rattle.mr_world_state.specs.inner.Calling.{ForeseesCall}
use Rattle.mr_world_stores.specs.declared.container.ContainerCall.{ContainerCall}
use Rattle.mr_world_state.proofs.Calling.{alone}
use Rattle.mr_world_state.proofs.parts.Parts.check_step.Goals as goal

pub check_send-requires : goal.check_send-requires
check_send-requires c = alone c.args.self.now c.args.c.now c.args.weather c.in_ok-_call.ensures.lives
    (subst (λ (o : Option ContainerCall). ForeseesCall c.args.self.now c.args.c.now c.args.weather (Ok o)) c.in-None.is c.in_ok-_call.ensures.foresees)
