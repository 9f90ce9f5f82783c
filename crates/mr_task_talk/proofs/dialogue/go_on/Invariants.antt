use Rattle.mr_task_talk.proofs.Talking.{KeptFor}
use Rattle.mr_task_talk.proofs.dialogue.go_on.Given as goal

abbrev pub invariant-loop-number : goal.invariant-loop-number
invariant-loop-number g l = KeptFor l.form l.fn.machine (g.R.Read.remaining l.fn.reader) (g.W.Write.contents l.fn.writer) l.machine l.number (g.R.Read.remaining l.reader) (g.W.Write.contents l.writer)
