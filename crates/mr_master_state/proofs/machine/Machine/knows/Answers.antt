use Rattle.std.proofs.Common.{List, subst}
use Rattle.mr_ids.specs.Attempt.{Attempt}
use Rattle.mr_master_model.specs.Hearing.{with_known}
use Rattle.mr_master_state.specs.Told.{with_deaths, with_losses}
use Rattle.mr_master_state.specs.State.{Keeps}
use Rattle.mr_master_state.proofs.Keeping.{held}
use Rattle.mr_master_state.proofs.Parts.{with-nodes}
use Rattle.mr_master_state.proofs.machine.Machine.knows.Goals as goal

pub returns : goal.returns
returns c = λ w s keeps.
    let n = c.args.node in
    let i = c.args.incarnation in
    let then = with_known s n i in
    subst (λ (l : List Attempt). Keeps c.leave.new.self w (with_known (with_losses w (with_deaths w s c.args.dead.items) l) n i)) c.deref-2.ensures.value
    (subst (λ (l : List Attempt). Keeps c.leave.new.self w (with_known (with_losses w (with_deaths w s l) c.deref-2.result.now) n i)) c.deref.ensures.value
    (c.leave.ensures w then (with-nodes c.args.nodes then.known (c.requires w s keeps) (held c.self.view_is keeps))))
