use Rattle.std.proofs.Common.{◌∙◌}
use Rattle.mr_task.proofs.Moves.{done-answers}
use Rattle.mr_task.proofs.task.TaskMachine.done_reply.Goals as goal

pub returns : goal.returns
returns c = λ t k h st. c.reply_to_done.ensures ∙ done-answers c.args.self.now t k h c.args.attempt st
