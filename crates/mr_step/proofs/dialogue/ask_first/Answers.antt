use Rattle.std.proofs.Common.{subst}
use Rattle.std.specs.Io.KnownBytes.{Appends}
use Rattle.mr_step.proofs.dialogue.ask_first.Goals as goal

pub returns : goal.returns
returns g c =
    (c.in_ok-reply.reply.text.items, subst (λ text. Appends (g.W.Write.contents c.args.writer.now) (g.W.Write.contents c.send.new.writer) text) c.deref.ensures.value c.in_ok-send.ensures, c.in_ok-reply.ensures)
