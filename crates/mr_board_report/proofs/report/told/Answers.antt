use Rattle.std.proofs.Common.{◌∙◌, inl, inr, refl, subst, sym, true≢false}
use Rattle.mr_user.specs.Computation.{computation}
use Rattle.mr_shuffle.specs.SequentialText.{AreSplits}
use Rattle.mr_board.specs.mr_world.specs.Ranges.{IsInRange}
use Rattle.mr_board_report.specs.Reports.{IsUntold}
use Rattle.mr_board_report.specs.declared.unreported.Unreported.{Unreported}
use Rattle.mr_board_report.proofs.Success.{report_is}
use Rattle.mr_board_report.proofs.report.told.Goals as goal

pub returns-clause-report : goal.returns-clause-report
returns-clause-report g c =
    report_is (computation g.J.Key.Ord.cmp g.J.Key.Wire.codec g.J.Value.Wire.codec g.J.Job.functions) c.args.plan.now c.args.world c.has_succeeded-succeeded.result c.in-Ok.files.items c.args.by.items
    c.jobs_have_their_laws.ensures c.marked_worlds_show_sequential_files.ensures
    (subst IsInRange c.config.ensures c.ranges-2.ensures.numbers) (subst (λ cfg. AreSplits cfg.splits) c.config.ensures c.ranges-2.ensures.splits)
    c.requires.faithful c.requires.same c.requires.planned c.requires.noted (c.is_through.ensures.0 c.if-not-is_through.false) c.in-Ok.ensures.is c.has_succeeded-succeeded.ensures

pub returns-then-not-is_through-clause-none : goal.returns-then-not-is_through-clause-none
returns-then-not-is_through-clause-none g c = (refl, inl (c.stopping_of.ensures, (λ through. true≢false (sym (c.is_through.ensures.1 through) ∙ c.if-not-is_through.true))))

pub returns-in-Err-clause-none : goal.returns-in-Err-clause-none
returns-in-Err-clause-none g c =
    subst (λ (u : Unreported). IsUntold c.args.stop c.args.world u.fault u.world) (sym c.unseen.ensures) (refl, inr (refl, c.is_through.ensures.0 c.if-not-is_through.false))
