use Rattle.std.proofs.Common.{subst}
use Rattle.std.proofs.lemmas.Result.{IfOk-weaker}
use Rattle.mr_step.specs.Talk.{Begins}
use Rattle.mr_step.specs.inner.Said.{next_at}
use Rattle.mr_step.proofs.Talking.{says, says_at_once}
use Rattle.mr_step.proofs.dialogue.talk.Goals as goal

pub returns-in-Some : goal.returns-in-Some
returns-in-Some g c =
    let first = c.in_ok-ending.ensures in
    says_at_once c.args.form c.args.moves.now first.0 (g.R.Read.remaining c.args.reader.now) (g.W.Write.contents c.args.writer.now) (g.W.Write.contents c.ask_first.new.writer) c.in-Some.ending
    (subst (λ o. Begins c.args.form c.args.moves.now first.0 (next_at o c.ask_first.new.moves)) c.in-Some.is first.2)
    first.1

pub returns-in-None : goal.returns-in-None
returns-in-None g c =
    let first = c.in_ok-ending.ensures in
    IfOk-weaker c.go_on.result _ _
    (λ ending h.
    says c.args.form c.args.moves.now c.ask_first.new.moves first.0 (g.R.Read.remaining c.args.reader.now) (g.W.Write.contents c.args.writer.now) (g.W.Write.contents c.ask_first.new.writer) (g.W.Write.contents c.go_on.new.writer) ending
    (subst (λ o. Begins c.args.form c.args.moves.now first.0 (next_at o c.ask_first.new.moves)) c.in-None.is first.2)
    first.1
    h)
    c.go_on.ensures
