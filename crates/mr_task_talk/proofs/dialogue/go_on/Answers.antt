use Rattle.std.proofs.Common.{◌≡◌, ◌+◌, suc, subst, arith}
use Rattle.mr_task_talk.proofs.Talking.{KeptFor, kept_more}
use Rattle.mr_task_talk.proofs.dialogue.go_on.Goals as goal

pub loop-number-preserved : goal.loop-number-preserved
loop-number-preserved g c =
    let next : suc c.loop-number.number ≡ c.loop-number.number + 1 = omega arith in
    subst
    (λ n. KeptFor c.args.form c.args.machine.now (g.R.Read.remaining c.args.reader.now) (g.W.Write.contents c.args.writer.now) c.turn.new.machine n (g.R.Read.remaining c.turn.new.reader) (g.W.Write.contents c.turn.new.writer))
    next
    (kept_more c.args.form c.args.machine.now c.loop-number.machine c.turn.new.machine (g.R.Read.remaining c.args.reader.now) (g.W.Write.contents c.args.writer.now) c.loop-number.number
    (g.R.Read.remaining c.loop-number.reader) (g.W.Write.contents c.loop-number.writer) (g.R.Read.remaining c.turn.new.reader) (g.W.Write.contents c.turn.new.writer) c.in_ok-goes_on.goes_on
    c.loop-number.invariant c.in_ok-goes_on.ensures c.if-not-goes_on.false)
