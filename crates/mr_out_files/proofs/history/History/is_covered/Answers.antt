use Rattle.std.proofs.Common.{◌∙◌}
use Rattle.mr_out_layout.specs.declared.fault.Why.TheVariants.{Shorter}
use Rattle.mr_out_files.proofs.Troubled.{refused_trouble}
use Rattle.mr_out_files.proofs.history.History.is_covered.Goals as goal

pub returns-in-Longer : goal.returns-in-Longer
returns-in-Longer c = refused_trouble c.args.self.now.newest c.deref-in-Longer.result.now Shorter c.refused.result (c.deref-in-Longer.ensures ∙ c.in_ok-path-in-Longer.ensures) tt c.refused.ensures
