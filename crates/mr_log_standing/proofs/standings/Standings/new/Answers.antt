use Rattle.std.proofs.Common.{false, sym, subst}
use Rattle.mr_log_standing.specs.inner.Kept.{AreKept}
use Rattle.mr_log_standing.proofs.Keeping.{kept-new}
use Rattle.mr_log_standing.proofs.standings.Standings.new.Goals as goal

pub invariant_of-result : goal.invariant_of-result
invariant_of-result c =
    subst (λ es. AreKept c.args.job es c.in_ok-tasks.tasks.items false false false) (sym c.new.ensures)
    (kept-new c.args.job c.in_ok-tasks.tasks.items c.in_ok-tasks.ensures.count c.in_ok-tasks.ensures.empty)
