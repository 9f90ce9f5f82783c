use Rattle.std.proofs.Common.{ap, ◌∙◌, Option, List, slice_get}
use Rattle.std.specs.Option.{option_map}
use Rattle.mr_ids.specs.Attempt.{Attempt}
use Rattle.mr_task.specs.declared.attempts.Entry.{Entry}
use Rattle.mr_task.proofs.attempts.Attempts.name_at.Goals as goal

pub returns-in-Some : goal.returns-in-Some
returns-in-Some c =
    ap (λ (o : Option (Attempt × Entry)). option_map (λ p. p.0) o) (c.in-Some.ensures.entry ∙ ap (λ (es : List (Attempt × Entry)). slice_get es c.args.place) c.self.view_is)

pub returns-in-None : goal.returns-in-None
returns-in-None c =
    ap (λ (o : Option (Attempt × Entry)). option_map (λ p. p.0) o) (c.in-None.ensures.entry ∙ ap (λ (es : List (Attempt × Entry)). slice_get es c.args.place) c.self.view_is)
