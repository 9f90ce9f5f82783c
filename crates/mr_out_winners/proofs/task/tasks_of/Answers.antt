use Rattle.std.proofs.Common.{◌∙◌, ap, map, sym}
use Rattle.mr_out_winners.specs.Tasks.{as_part}
use Rattle.mr_out_winners.proofs.Tasking.{no_task, with_one}
use Rattle.mr_out_winners.proofs.task.tasks_of.Goals as goal

pub loop-number-init : goal.loop-number-init
loop-number-init c = ap (map as_part) c.new-all.ensures.items ∙ sym (no_task c.args.job.now c.args.suffix.now c.args.records.now c.args.measured.now)

pub loop-number-preserved : goal.loop-number-preserved
loop-number-preserved c = with_one c.args.job.now c.args.suffix.now c.args.records.now c.args.measured.now c.loop-number.number c.loop-number.all.items c.push.new.self.items c.in_ok-task.task c.loop-number.invariant c.in_ok-task.ensures c.in_ok-push.ensures.items
