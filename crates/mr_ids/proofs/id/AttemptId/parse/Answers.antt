use Rattle.std.proofs.Common.{◌∙◌, ap, ◌∷◌, codes}
use Rattle.std.specs.List.{slice_split}
use Rattle.mr_ids.specs.Text.{is_bar, attempt_fields}
use Rattle.mr_ids.specs.Faults.{attempt_places}
use Rattle.mr_ids.proofs.Texts.{split-attempt_text, attempt_text_injective}
use Rattle.mr_ids.proofs.Readers.{text_found, text_only, attempt_fine}
use Rattle.mr_ids.proofs.id.AttemptId.parse.Goals as goal

pub returns-clause-found : goal.returns-clause-found
returns-clause-found c = text_found attempt_places (λ a. codes "attempt" ∷ attempt_fields a) c.args.text.now c.read.result c.read.ensures

pub returns-clause-only : goal.returns-clause-only
returns-clause-only c = λ a fits is. text_only attempt_places (λ a. codes "attempt" ∷ attempt_fields a) c.args.text.now c.read.result a c.read.ensures (ap (slice_split is_bar) is ∙ split-attempt_text a) (attempt_fine a fits) (λ other. attempt_text_injective other a)
