use Rattle.std.proofs.Common.{◌≡◌, ◌∷◌, ◌-◌, suc, List, subst, sym, ap, ◌∙◌, arith}
use Rattle.std.proofs.lemmas.Result.{on_ok_weaker}
use Rattle.mr_explore_places.specs.Levels.{LeadAlike, with_begun}
use Rattle.mr_explore_places.specs.declared.level.Level.{Level}
use Rattle.mr_explore_places.specs.declared.level.Level.TheVariants.{Late}
use Rattle.mr_explore_places.proofs.Leading.{came_one}
use Rattle.mr_explore_places.proofs.turn.turn_late.Goals as goal

pub returns-clause-leads : goal.returns-clause-leads
returns-clause-leads g c =
    let last : c.args.level.late ≡ suc (c.args.level.late - 1) = omega (arith, c.if-level-eq0.false) in
    on_ok_weaker c.push_begun.result (λ e budget. subst (λ (z : List (Level g.row.R.Denot g.row.R-Fault.Denot)). LeadAlike g.R.Run.steps budget (Late c.args.level ∷ c.args.levels.now) z)
    (sym (e ∙ ap (λ (z : List (Level g.row.R.Denot g.row.R-Fault.Denot)). with_begun c.in_ok-child.child z) c.in_ok-push_front.ensures.items))
    (came_one g.R.Run.steps budget c.args.level (c.args.level.late - 1) c.args.levels.now c.in_ok-child.child last c.in_ok-child.ensures.is)) c.push_begun.ensures.pushes
