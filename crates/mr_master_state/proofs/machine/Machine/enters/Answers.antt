use Rattle.std.proofs.Common.{subst, sym, ap, Option}
use Rattle.mr_recover.specs.declared.winner.TaskWinner.{TaskWinner}
use Rattle.mr_master_model.specs.Past.{Work}
use Rattle.mr_master_model.specs.Readings.{is_running}
use Rattle.mr_master_phase.specs.Taking.{winner_of, after_table}
use Rattle.mr_master_tasks.specs.Tasks.{Tasks, KeepsTasks}
use Rattle.mr_master_state.proofs.Keeping.{held}
use Rattle.mr_master_state.proofs.Parts.{with-work, with-tasks}
use Rattle.mr_master_state.proofs.machine.Machine.enters.Goals as goal

pub returns : goal.returns
returns c = λ w s keeps.
    let entered = subst (λ (o : Option TaskWinner). KeepsTasks c.args.tasks w (after_table w s o (is_running c.args.work)).calls) (ap (λ (x : Work). winner_of x) keeps.work) (c.requires w s keeps) in
    let there = subst (λ (x : Tasks). KeepsTasks x w (after_table w s (winner_of s.work) (is_running c.args.work)).calls) (sym c.into_inner.ensures) entered in
    with-work c.set.new.self c.args.work c.set.ensures (with-tasks c.into_inner.result (after_table w s (winner_of s.work) (is_running c.args.work)).calls there (held c.self.view_is keeps))
