use Rattle.std.proofs.Common.{◌∙◌, ap, subst, sym, true≢false}
use Rattle.mr_user.specs.Computation.{computation}
use Rattle.mr_board.specs.mr_world.specs.Journal.{Journal}
use Rattle.mr_board.specs.Boards.{IsFaithfulFor}
use Rattle.mr_board_report.specs.Following.{Follows}
use Rattle.mr_board_report.proofs.Untold.{follows_of, unaccounted_heard, unaccounted_is, undriven_told, unreported_told}
use Rattle.mr_board_report.proofs.report.reported.Goals as goal

pub told-requires-clause-faithful : goal.told-requires-clause-faithful
told-requires-clause-faithful g c = subst (IsFaithfulFor (computation g.J.Key.Ord.cmp g.J.Key.Wire.codec g.J.Value.Wire.codec g.J.Job.functions)) (sym c.into_parts-world.ensures.parts.0) c.into_parts-world.ensures.faithful

pub told-requires-clause-planned : goal.told-requires-clause-planned
told-requires-clause-planned g c = subst (Follows c.args.plan.now) (sym (c.into_parts-world.ensures.parts.0 ∙ c.in-Ok.ensures.closed.0)) (follows_of c.args.plan.now c.args.run (c.is_of.ensures.0 c.if-not-is_of.false) c.close.ensures.planned)

pub returns-in-Ok-clause-none : goal.returns-in-Ok-clause-none
returns-in-Ok-clause-none g c =
    unreported_told c.args.plan.now c.args.run c.args.stop c.args.seats.items _ c.told.result (c.is_of.ensures.0 c.if-not-is_of.false) c.in-Ok.ensures.account (c.into_parts-world.ensures.parts.0 ∙ c.in-Ok.ensures.closed.0) c.told.ensures.none

pub returns-in-Ok-clause-undriven : goal.returns-in-Ok-clause-undriven
returns-in-Ok-clause-undriven g c =
    let is = c.is_of.ensures.0 c.if-not-is_of.false in
    let same = c.into_parts-world.ensures.parts.0 ∙ c.in-Ok.ensures.closed.0 in
    undriven_told c.args.plan.now c.args.stop _ c.told.result (ap (λ (j : Journal). j.config) same ∙ is.0) (subst (Follows c.args.plan.now) (sym same) (follows_of c.args.plan.now c.args.run is c.close.ensures.planned)) c.told.ensures.none

pub returns-then-not-is_of-clause-none : goal.returns-then-not-is_of-clause-none
returns-then-not-is_of-clause-none g c = unaccounted_is c.args.plan.now c.unaccounted.result c.unaccounted.ensures c.args.run c.args.stop c.args.seats.items (λ both. true≢false (sym (c.is_of.ensures.1 both.0) ∙ c.if-not-is_of.true))

pub returns-then-not-is_of-clause-undriven : goal.returns-then-not-is_of-clause-undriven
returns-then-not-is_of-clause-undriven g c = unaccounted_heard c.args.plan.now c.unaccounted.result c.unaccounted.ensures

pub returns-in-Err-clause-none : goal.returns-in-Err-clause-none
returns-in-Err-clause-none g c = unaccounted_is c.args.plan.now c.unaccounted-in-Err.result c.unaccounted-in-Err.ensures c.args.run c.args.stop c.args.seats.items (λ both. c.in-Err.ensures.mismatch both.1)

pub returns-in-Err-clause-undriven : goal.returns-in-Err-clause-undriven
returns-in-Err-clause-undriven g c = unaccounted_heard c.args.plan.now c.unaccounted-in-Err.result c.unaccounted-in-Err.ensures
