use Rattle.std.proofs.Common.{subst, List}
use Rattle.mr_ids.specs.Attempt.{Attempt}
use Rattle.mr_master_state.specs.mr_master_tasks.specs.Tasks.{Enters}
use Rattle.mr_master_state.proofs.Keeping.{held}
use Rattle.mr_master_calls.proofs.Taken.{maps-enter}
use Rattle.mr_master_calls.proofs.takeover.enter_maps.Goals as goal

pub returns : goal.returns
returns c = λ w s keeps.
    maps-enter c.args.tasks.now c.recover_all.new.self c.master.inside.setting w s c.in_ok-attempts.attempts.items (held c.master.view_is keeps).setting (c.in_ok-attempts.ensures w s keeps)
    (subst (λ (l : List Attempt). Enters c.args.tasks.now c.master.inside.setting l c.recover_all.new.self) c.deref.ensures.value c.in_ok-recover_all.ensures)
