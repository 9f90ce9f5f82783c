use Rattle.mr_pipe_commands.proofs.Judging.{refused}
use Rattle.mr_pipe_commands.proofs.named.judge.Goals as goal

pub returns-in-Err : goal.returns-in-Err
returns-in-Err g c =
    refused (g.I.Inputs.bytes c.args.inputs.now) c.args.form c.args.name.now (g.W.Write.contents c.args.writer.now) c.in-Err.unread c.refuse.result c.in-Err.ensures.bad c.refuse.ensures
