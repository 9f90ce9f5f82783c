use Rattle.std.proofs.Common.{ap, sym, ◌∙◌}
use Rattle.std.specs.FinSet as set
use Rattle.mr_names.proofs.BarredSets.{counted}
use Rattle.mr_names.proofs.barred.Barred.len.Goals as goal

pub returns-clause-len : goal.returns-clause-len
returns-clause-len c = c.len.ensures.len ∙ sym (counted c.self.inside.attempts.keys c.len.ensures.unique) ∙ ap set.len c.self.view_is
