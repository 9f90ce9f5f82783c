use Rattle.std.proofs.Common.{ap, ◌∙◌, List}
use Rattle.std.specs.Map.{keys_of}
use Rattle.mr_ids.specs.Attempt.{Attempt}
use Rattle.mr_task.specs.declared.attempts.Entry.{Entry}
use Rattle.mr_task.proofs.attempts.Attempts.names.Goals as goal

pub returns : goal.returns
returns c = c.as_slice.ensures ∙ c.keys.ensures.rest ∙ ap (λ (es : List (Attempt × Entry)). keys_of es) c.self.view_is
