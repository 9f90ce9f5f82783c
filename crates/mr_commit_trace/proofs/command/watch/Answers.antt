use Rattle.std.proofs.Common.{List, [], sym, subst}
use Rattle.mr_judge.specs.declared.line.Told.{Told}
use Rattle.mr_sim_commands.specs.declared.committer.command.ScriptCommand.{ScriptCommand}
use Rattle.mr_commit_trace.specs.Seen.{Sees, SeesCommand}
use Rattle.mr_commit_trace.specs.inner.Turns.{scene_of}
use Rattle.mr_commit_trace.proofs.InTurn.{sees_nothing}
use Rattle.mr_commit_trace.proofs.command.watch.Goals as goal

pub returns-in-As-clause-seen : goal.returns-in-As-clause-seen
returns-in-As-clause-seen c =
    let s = scene_of c.args.names.now c.args.caller.now in
    let none = subst (λ (told : List Told). Sees c.args.caller.now [] c.args.names.now told) (sym c.new.ensures.items) (sees_nothing c.args.names.now c.args.caller.now) in
    subst (λ (o : ScriptCommand). SeesCommand c.args.layout.now.dest o s c.new.result.items) (sym c.in-As.is) none

pub returns-in-By-clause-seen : goal.returns-in-By-clause-seen
returns-in-By-clause-seen c =
    let s = scene_of c.args.names.now c.args.caller.now in
    let none = subst (λ (told : List Told). Sees c.args.caller.now [] c.args.names.now told) (sym c.new-in-By.ensures.items) (sees_nothing c.args.names.now c.args.caller.now) in
    subst (λ (o : ScriptCommand). SeesCommand c.args.layout.now.dest o s c.new-in-By.result.items) (sym c.in-By.is) none
