use Rattle.std.proofs.Common.{◌<◌, ℕ, List, sym, ap, subst, ◌∙◌, le_antisymm}
use Rattle.mr_log_standing.specs.declared.job.Job.{Job}
use Rattle.mr_log_standing.specs.Deciding.{is_idle}
use Rattle.mr_log_standing.specs.inner.Choosing.{first_of}
use Rattle.mr_log_standing.proofs.Counting.{none_below, failed_more}
use Rattle.mr_log_standing.proofs.Choosings.{idle-found, idle-none}
use Rattle.mr_log_standing.proofs.standings.Standings.first_idle.Goals as goal

pub loop-n-init : goal.loop-n-init
loop-n-init c = none_below (is_idle c.args.self.now.job c.args.host.now c.args.self.now.entries)

pub returns-then-is_idle-clause-first : goal.returns-then-is_idle-clause-first
returns-then-is_idle-clause-first c =
    sym (idle-found c.args.self.now.job c.args.host.now c.args.self.now.entries c.loop-n.n (subst (λ (j : Job). c.loop-n.n < j.tasks) c.job-n-end.ensures c.loop-n-test.true) c.loop-n.invariant (sym c.is_idle.ensures ∙ c.if-is_idle.true))

pub loop-n-preserved : goal.loop-n-preserved
loop-n-preserved c = failed_more (is_idle c.args.self.now.job c.args.host.now c.args.self.now.entries) c.loop-n.n (sym c.is_idle.ensures ∙ c.if-is_idle.false) ∙ c.loop-n.invariant

pub returns-clause-first : goal.returns-clause-first
returns-clause-first c =
    sym (ap (λ (xs : List ℕ). first_of xs)
    (idle-none c.args.self.now.job c.args.host.now c.args.self.now.entries c.loop-n.n (le_antisymm c.loop-n.auto.n-end c.loop-n-test.false ∙ ap (λ (j : Job). j.tasks) c.job-n-end.ensures) c.loop-n.invariant))
