use Rattle.std.proofs.Common.{ap, ◌∙◌, List}
use Rattle.std.specs.Map.{lookup}
use Rattle.mr_ids.specs.Attempt.{Attempt}
use Rattle.mr_grant.proofs.Same.{the_same}
use Rattle.mr_task.specs.declared.attempts.Entry.{Entry}
use Rattle.mr_task.specs.Steps.{entry_in}
use Rattle.mr_task.proofs.attempts.Attempts.get.Goals as goal

pub returns : goal.returns
returns c =
    c.copied.ensures ∙ c.get.ensures.value ∙ (λ j. lookup (the_same j c.args.attempt.now) c.self.inside.entries.entries)
    ∙ ap (λ (es : List (Attempt × Entry)). entry_in es c.args.attempt.now) c.self.view_is
