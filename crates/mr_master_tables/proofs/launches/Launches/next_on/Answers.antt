use Rattle.std.proofs.Common.{subst}
use Rattle.mr_master_tables.specs.Launches.{Launched}
use Rattle.mr_master_tables.specs.Spots.{AreFree, FreeFrom}
use Rattle.mr_master_tables.proofs.Spreading.{free-is, if-some, if-none}
use Rattle.mr_master_tables.proofs.launches.Launches.next_on.Goals as goal

pub returns-clause-first : goal.returns-clause-first
returns-clause-first c = if-some c.next.result _ _ (λ number h.
    subst (λ (m : Launched). AreFree m.entries c.args.kind c.args.node c.args.from number) c.self.view_is
    (λ j high low. free-is c.self.inside.spread c.self.inside.entries.entries c.args.kind c.args.node j (c.self.invariant c.if-not-self.false) (h j high low))) c.next.ensures.first

pub returns-clause-none : goal.returns-clause-none
returns-clause-none c = if-none c.next.result _ _ (λ h.
    subst (λ (m : Launched). FreeFrom m.entries c.args.kind c.args.node c.args.from) c.self.view_is
    (λ j high. free-is c.self.inside.spread c.self.inside.entries.entries c.args.kind c.args.node j (c.self.invariant c.if-not-self.false) (h j high))) c.next.ensures.none
