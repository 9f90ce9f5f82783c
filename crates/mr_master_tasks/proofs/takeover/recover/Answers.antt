use Rattle.std.proofs.Common.{sym, ◌∙◌}
use Rattle.mr_master_tasks.proofs.Taken.{skipped}
use Rattle.mr_master_tasks.proofs.takeover.recover.Goals as goal

pub returns-then-not-may_recover-clause-stands : goal.returns-then-not-may_recover-clause-stands
returns-then-not-may_recover-clause-stands c = λ t k calls st.
    skipped c.args.task.now t k calls c.args.attempt (sym (c.may_recover.ensures.answer t k calls st) ∙ c.if-not-may_recover.true) st
