use Rattle.std.proofs.Common.{◌++◌, ℕ, List, ap, subst, ◌∙◌}
use Rattle.std.proofs.lemmas.List.{drop_all}
use Rattle.mr_sim_commands.specs.declared.committer.command.ScriptCommand.{ScriptCommand}
use Rattle.mr_commit_trace.specs.Shown.{command_shown}
use Rattle.mr_commit_trace.specs.inner.Turns.{scene_of}
use Rattle.mr_commit_trace.proofs.Writing.{Written, written_all, written_at}
use Rattle.mr_commit_trace.proofs.trace.put_all.Goals as goal

pub loop-line-preserved : goal.loop-line-preserved
loop-line-preserved c =
    let form = c.args.form in
    let item = c.loop-line-item.result in
    let text = c.loop-line.text.items in
    written_at form c.args.layout.now.dest c.args.commands.now (scene_of c.args.names.now c.args.caller.now) c.loop-line.line-index item (scene_of c.loop-line.names c.loop-line.caller) (scene_of c.watch.new.names c.watch.new.caller)
    c.in_ok-told.told.items text c.put_seen.new.out.items c.loop-line-test.true c.loop-line-item.is c.loop-line.invariant c.in_ok-told.ensures.seen c.in_ok-told.ensures.after
    (c.in_ok-put_seen.ensures ∙ ap (λ xs. text ++ command_shown form (item, xs)) c.deref.ensures.value)

pub returns-clause-writes : goal.returns-clause-writes
returns-clause-writes c =
    let first = scene_of c.args.names.now c.args.caller.now in
    let here = scene_of c.loop-line.names c.loop-line.caller in
    let none = drop_all c.loop-line.line-index c.args.commands.now c.loop-line-test.false in
    written_all c.args.form c.args.layout.now.dest c.args.commands.now first here c.loop-line.text.items
    (subst (λ (cs : List (ℕ × ScriptCommand)). Written c.args.form c.args.layout.now.dest c.args.commands.now first cs here c.loop-line.text.items) none c.loop-line.invariant)
