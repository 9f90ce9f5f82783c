use Rattle.mr_master_tables.proofs.Spreading.{kept-true}
use Rattle.std.proofs.Common.{◌∙◌}
use Rattle.mr_master_tables.proofs.spots.insert.Goals as goal

pub returns-clause-kept : goal.returns-clause-kept
returns-clause-kept c = λ other e. c.in_ok-insert.ensures.updates.0 other ∙ kept-true _ _ e
