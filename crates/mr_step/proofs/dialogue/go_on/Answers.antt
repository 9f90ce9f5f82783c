use Rattle.std.proofs.Common.{subst}
use Rattle.mr_step.specs.inner.Said.{Leads}
use Rattle.mr_step.proofs.Talking.{kept_end}
use Rattle.mr_step.proofs.dialogue.go_on.Goals as goal

pub returns-in-Some : goal.returns-in-Some
returns-in-Some g c =
    let left = g.R.Read.remaining c.loop-number.reader in
    let now = g.W.Write.contents c.loop-number.writer in
    let after = g.R.Read.remaining c.turn.new.reader in
    let then = g.W.Write.contents c.turn.new.writer in
    kept_end c.args.form c.args.moves.now c.loop-number.moves c.turn.new.moves (g.R.Read.remaining c.args.reader.now) (g.W.Write.contents c.args.writer.now) c.loop-number.number left now after then c.in-Some.ending
    c.loop-number.invariant
    (subst (λ o. Leads c.args.form o c.loop-number.moves c.turn.new.moves c.loop-number.number left after now then) c.in-Some.is c.in_ok-ending.ensures)
