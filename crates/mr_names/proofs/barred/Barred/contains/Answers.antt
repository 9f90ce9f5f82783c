use Rattle.std.proofs.Common.{ap, ◌∙◌}
use Rattle.std.specs.FinSet as set
use Rattle.mr_names.proofs.BarredSets.{has-contains}
use Rattle.mr_names.proofs.barred.Barred.contains.Goals as goal

pub returns : goal.returns
returns c = c.contains.ensures ∙ has-contains c.self.inside.attempts.keys c.args.a ∙ ap (λ s. set.contains s c.args.a) c.self.view_is
