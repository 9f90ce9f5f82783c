use Rattle.mr_step.proofs.Talking.{Kept}
use Rattle.mr_step.proofs.dialogue.go_on.Given as goal

abbrev pub invariant-loop-number : goal.invariant-loop-number
invariant-loop-number g l = Kept l.form l.fn.moves (g.R.Read.remaining l.fn.reader) (g.W.Write.contents l.fn.writer) l.moves l.number (g.R.Read.remaining l.reader) (g.W.Write.contents l.writer)
