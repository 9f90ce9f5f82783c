use Rattle.std.proofs.Common.{List, IfOk, map, subst, ◌∙◌, ◌≡◌}
use Rattle.mr_names.specs.declared.op.Op.{Op}
use Rattle.mr_commit.specs.Line.Line.{Does}
use Rattle.mr_sim_commands.specs.committer.Effect.{writes}
use Rattle.mr_commit_trace.specs.Seen.{Sees}
use Rattle.mr_commit_trace.proofs.InTurn.{sees_all}
use Rattle.mr_commit_trace.proofs.command.write.Goals as goal

pub returns-clause-seen : goal.returns-clause-seen
returns-clause-seen c =
    let calls = writes c.args.layout.now.dest c.args.caller.now.app c.args.attempt c.args.text.now in
    let is : c.deref.result.now ≡ calls = c.deref.ensures.value ∙ c.in_ok-calls.ensures in
    subst (λ (xs : List Op). IfOk c.make_in_turn.result (λ told. Sees c.args.caller.now (map Does xs) c.args.names.now told.items)) is
    (sees_all (λ v. v.items) c.deref.result.now c.args.names.now c.args.caller.now c.make_in_turn.result c.make_in_turn.ensures.seen)
