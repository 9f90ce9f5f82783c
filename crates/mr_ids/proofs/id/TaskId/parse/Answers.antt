use Rattle.std.proofs.Common.{◌∙◌, ap, ◌∷◌, codes}
use Rattle.std.specs.List.{slice_split}
use Rattle.mr_ids.specs.Text.{is_bar, task_fields}
use Rattle.mr_ids.specs.Faults.{task_places}
use Rattle.mr_ids.proofs.Texts.{split-task_text, task_text_injective}
use Rattle.mr_ids.proofs.Readers.{text_found, text_only, task_fine}
use Rattle.mr_ids.proofs.id.TaskId.parse.Goals as goal

pub returns-clause-found : goal.returns-clause-found
returns-clause-found c = text_found task_places (λ t. codes "task" ∷ task_fields t) c.args.text.now c.read.result c.read.ensures

pub returns-clause-only : goal.returns-clause-only
returns-clause-only c = λ t fits is. text_only task_places (λ t. codes "task" ∷ task_fields t) c.args.text.now c.read.result t c.read.ensures (ap (slice_split is_bar) is ∙ split-task_text t) (task_fine t fits) (λ other. task_text_injective other t)
