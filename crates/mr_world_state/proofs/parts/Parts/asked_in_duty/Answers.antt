use Rattle.mr_world_state.proofs.Looking.{by-master}
use Rattle.mr_world_state.proofs.parts.Parts.asked_in_duty.Goals as goal

pub returns : goal.returns
returns c = λ w s t. by-master c.args.self.now c.in_ok-app.field-0.app c.args.k c.args.weather c.in_ok-app.field-0.duty.call c.into_call-call.result c.in_ok-app.field-0.answer c.in_ok-app.ensures.0 c.into_call-call.ensures
    c.in_ok-app.ensures.1 w s
