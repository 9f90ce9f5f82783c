use Rattle.std.proofs.Common.{Option, Ok, subst}
use Rattle.mr_world_state.specs.inner.Calling.{ForeseesCall}
use Rattle.mr_world_stores.specs.declared.container.ContainerCall.{ContainerCall}
use Rattle.mr_world_state.proofs.Calling.{alone, call-stands}
use Rattle.mr_world_state.proofs.parts.Parts.step.Goals as goal

pub returns-in_ok-call_store-in-Some-clause-tries : goal.returns-in_ok-call_store-in-Some-clause-tries
returns-in_ok-call_store-in-Some-clause-tries c = call-stands c.args.self.now c.call_store.new.self c.args.c.now c.args.weather c.in-Some.call c.in_ok-call.ensures.lives
    (subst (λ (o : Option ContainerCall). ForeseesCall c.args.self.now c.args.c.now c.args.weather (Ok o)) c.in-Some.is c.in_ok-call.ensures.foresees) c.in_ok-call_store-in-Some.ensures.ok

pub send_packet-requires : goal.send_packet-requires
send_packet-requires c = alone c.args.self.now c.args.c.now c.args.weather c.in_ok-call.ensures.lives
    (subst (λ (o : Option ContainerCall). ForeseesCall c.args.self.now c.args.c.now c.args.weather (Ok o)) c.in-None.is c.in_ok-call.ensures.foresees)
