use Rattle.std.proofs.Common.{sym, ◌∙◌, drop}
use Rattle.mr_commit.proofs.Halves.{some-follow}
use Rattle.mr_commit.proofs.step.Step.done_after.Goals as goal

pub returns-then-not-is_empty : goal.returns-then-not-is_empty
returns-then-not-is_empty c = some-follow c.args.lines.now (drop 1 c.args.self.now) (sym c.is_empty.ensures ∙ c.if-not-is_empty.true)
