use Rattle.std.proofs.Common.{sym, subst}
use Rattle.mr_task.specs.Calls.{Reports}
use Rattle.mr_master_model.specs.Readings.{tell}
use Rattle.mr_master_state.specs.Told.{due_count}
use Rattle.mr_master_state.specs.Prepared.{HasRecordRoom}
use Rattle.mr_master_tasks.specs.Tasks.{IsReplyAt}
use Rattle.mr_master_state.specs.State.{Master}
use Rattle.mr_master_state.proofs.Keeping.{held, tell-keeps}
use Rattle.mr_master_state.proofs.machine.Machine.reports.Goals as goal

pub returns : goal.returns
returns c = λ w s keeps.
    let a = c.args.attempt in
    c.write.ensures w (tell s a.task (Reports a))
    (tell-keeps _ w s a.task c.args.place (Reports a) c.report.new.self (held c.self.view_is keeps) (c.requires.at.own w s keeps) (c.requires.at.at w s keeps) c.report.ensures)

pub report-requires-clause-answered : goal.report-requires-clause-answered
report-requires-clause-answered c = subst (λ (x : Master). IsReplyAt x.tasks.machines c.args.place c.args.attempt c.args.reply) (sym c.self.view_is) c.requires.answered

pub write-requires : goal.write-requires
write-requires c = let q = subst (λ (x : Master). HasRecordRoom x (due_count c.args.due)) (sym c.self.view_is) c.requires.room in record { due = q.due; tail = q.tail }
