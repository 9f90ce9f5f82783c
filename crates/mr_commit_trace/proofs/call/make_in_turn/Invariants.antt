use Rattle.std.proofs.Common.{◌≡◌, ◌++◌, drop}
use Rattle.mr_sim_commands.specs.committer.Effect.{in_turn}
use Rattle.mr_commit_trace.specs.inner.Turns.{seen_in_turn}
use Rattle.mr_commit_trace.proofs.call.make_in_turn.Given as goal

-- what was seen so far, and then of the calls that are left, is what is seen of all; and they lead where all do
abbrev pub invariant-loop-call : goal.invariant-loop-call
invariant-loop-call l = record {
  seen : l.told.items ++ seen_in_turn (drop l.call-index l.calls) l.names l.caller ≡ seen_in_turn l.calls l.fn.names l.caller;
  after : (in_turn (drop l.call-index l.calls) l.names l.caller).1 ≡ (in_turn l.calls l.fn.names l.caller).1;
}
