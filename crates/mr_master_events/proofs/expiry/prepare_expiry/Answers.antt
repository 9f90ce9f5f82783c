use Rattle.std.proofs.Common.{sym, ◌∙◌}
use Rattle.mr_master_events.proofs.GivenUp.{plan-expiry}
use Rattle.mr_master_events.proofs.expiry.prepare_expiry.Goals as goal

pub returns-in-Ok-clause-planned : goal.returns-in-Ok-clause-planned
returns-in-Ok-clause-planned c = plan-expiry c.args.node (λ w s keeps. sym (sym c.in_default.is ∙ c.expire_refusal.ensures w s keeps)) c.in-Ok.ensures.planned

pub returns-in-Ok-clause-allowed : goal.returns-in-Ok-clause-allowed
returns-in-Ok-clause-allowed c = λ w s keeps. sym c.in_default.is ∙ c.expire_refusal.ensures w s keeps
