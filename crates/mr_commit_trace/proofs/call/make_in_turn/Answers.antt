use Rattle.std.proofs.Common.{sym, ◌∙◌}
use Rattle.mr_sim_commands.specs.committer.Effect.{in_turn}
use Rattle.mr_commit_trace.proofs.InTurn.{seen_on, turned_on}
use Rattle.mr_commit_trace.proofs.call.make_in_turn.Goals as goal

pub loop-call-preserved : goal.loop-call-preserved
loop-call-preserved c =
    let made = sym c.in_ok-is_made.ensures.made ∙ c.if-not-branch.false in
    let calls = c.args.calls.now in
    record {
      seen = seen_on calls c.loop-call.call-index c.call-item.result c.loop-call.names c.is_made.new.names c.args.caller.now c.loop-call.told.items c.is_made.new.told.items _ c.loop-call-test.true c.call-item.is made
          c.in_ok-is_made.ensures.after c.in_ok-is_made.ensures.kept c.loop-call.invariant.seen;
      after = turned_on calls c.loop-call.call-index c.call-item.result c.loop-call.names c.is_made.new.names c.args.names.now c.args.caller.now (in_turn calls c.args.names.now c.args.caller.now) c.loop-call-test.true c.call-item.is made
          c.in_ok-is_made.ensures.after c.loop-call.invariant.after;
    }
