use Rattle.std.proofs.Common.{drop}
use Rattle.mr_commit_trace.specs.inner.Turns.{scene_of}
use Rattle.mr_commit_trace.proofs.Writing.{Written}
use Rattle.mr_commit_trace.proofs.trace.put_all.Given as goal

abbrev pub invariant-loop-line : goal.invariant-loop-line
invariant-loop-line l = Written l.form l.layout.dest l.commands (scene_of l.fn.names l.fn.caller) (drop l.line-index l.commands) (scene_of l.names l.caller) l.text.items
