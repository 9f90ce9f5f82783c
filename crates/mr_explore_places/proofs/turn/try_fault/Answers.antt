use Rattle.std.proofs.Common.{◌≡◌, ◌<◌, ◌∷◌, List, subst, sym, ap, ◌∙◌, arith}
use Rattle.std.proofs.lemmas.Result.{on_ok_weaker}
use Rattle.mr_explore_places.specs.Places.{if_befallen}
use Rattle.mr_explore_places.specs.Levels.{LeadAlike, with_begun}
use Rattle.mr_explore_places.specs.declared.level.Level.{Level}
use Rattle.mr_explore_places.specs.declared.level.Level.TheVariants.{Faults}
use Rattle.mr_explore_places.specs.declared.level.Trying.{Trying}
use Rattle.mr_explore_places.proofs.Leading.{tried_enough, tried_one}
use Rattle.mr_explore_places.proofs.turn.try_fault.Goals as goal

pub returns-then-level-budget-clause-leads : goal.returns-then-level-budget-clause-leads
returns-then-level-budget-clause-leads g c =
    let same = ap (λ (l : Trying g.row.R.Denot g.row.R-Fault.Denot). l.place.faults) c.level.view_is in
    tried_enough g.R.Run.steps c.args.budget c.args.level c.args.fault c.args.levels.now (omega (arith, same, c.if-level-budget.true))

pub returns-clause-leads : goal.returns-clause-leads
returns-clause-leads g c =
    let same = ap (λ (l : Trying g.row.R.Denot g.row.R-Fault.Denot). l.place.faults) c.level.view_is in
    let few : c.args.level.place.faults < c.args.budget = omega (arith, same, c.if-level-budget.false) in
    let child : c.in_ok-child.child ≡ if_befallen g.R.Run.steps c.args.level.place c.args.fault =
    c.in_ok-child.ensures.is ∙ ap (λ (l : Trying g.row.R.Denot g.row.R-Fault.Denot). if_befallen g.R.Run.steps l.place c.args.fault) c.level.view_is in
    let pushed : c.push_front.new.self ≡ Faults c.args.level ∷ c.args.levels.now = c.in_ok-push_front.ensures.items in
    on_ok_weaker c.push_begun.result (λ e. subst (λ (z : List (Level g.row.R.Denot g.row.R-Fault.Denot)). LeadAlike g.R.Run.steps c.args.budget (Faults (record c.args.level { faults = c.args.fault ∷ c.args.level.faults }) ∷ c.args.levels.now) z)
    (sym (e ∙ ap (λ (z : List (Level g.row.R.Denot g.row.R-Fault.Denot)). with_begun c.in_ok-child.child z) pushed))
    (tried_one g.R.Run.steps c.args.budget c.args.level c.args.fault c.args.levels.now c.in_ok-child.child few child)) c.push_begun.ensures.pushes
