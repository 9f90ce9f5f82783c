use Rattle.std.proofs.Common.{◌≡◌, ◌++◌, drop}
use Rattle.mr_sim_commands.specs.committer.Text.{replies, scene_after}
use Rattle.mr_sim_commands.proofs.committer.reply_to_all.Given as goal

-- what is printed and left so far, and then by the commands that are left, is what all commands print and leave
abbrev pub invariant-loop-line : goal.invariant-loop-line
invariant-loop-line l = record {
  printed : l.out.items ++ replies l.layout.dest (drop l.line-index l.commands) l.scene ≡ l.initial.out.items ++ replies l.layout.dest l.commands l.initial.scene;
  after : scene_after l.layout.dest (drop l.line-index l.commands) l.scene ≡ scene_after l.layout.dest l.commands l.initial.scene;
}
