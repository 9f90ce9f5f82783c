use Rattle.std.proofs.Common.{List, subst}
use Rattle.mr_history.specs.declared.record.Record.{Record}
use Rattle.mr_master_tables.specs.Earlier.{AreUntold, UntoldFrom}
use Rattle.mr_master_tables.proofs.Spreading.{untold-is, if-some, if-none}
use Rattle.mr_master_tables.proofs.earlier.Earlier.next_on.Goals as goal

pub returns-clause-first : goal.returns-clause-first
returns-clause-first c = if-some c.next.result _ _ (λ number h.
    subst (λ (rs : List Record). AreUntold rs c.args.node c.args.from number) c.self.view_is
    (λ j high low. untold-is c.self.inside.spread c.self.inside.records c.args.node j c.self.invariant.2 (h j high low))) c.next.ensures.first

pub returns-clause-none : goal.returns-clause-none
returns-clause-none c = if-none c.next.result _ _ (λ h.
    subst (λ (rs : List Record). UntoldFrom rs c.args.node c.args.from) c.self.view_is
    (λ j high. untold-is c.self.inside.spread c.self.inside.records c.args.node j c.self.invariant.2 (h j high))) c.next.ensures.none
