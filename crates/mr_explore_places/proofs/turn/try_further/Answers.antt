use Rattle.std.proofs.Common.{◌≡◌, ◌∷◌, ◌-◌, suc, Bool, List, subst, sym, ap, ◌∙◌, arith}
use Rattle.mr_explore_places.specs.Going.{GoesTo}
use Rattle.mr_explore_places.specs.Levels.{LeadAlike}
use Rattle.mr_explore_places.specs.declared.level.Level.{Level}
use Rattle.mr_explore_places.specs.declared.level.Level.TheVariants.{Faults}
use Rattle.mr_explore_places.specs.declared.level.Trying.{Trying}
use Rattle.mr_explore_places.proofs.Leading.{tried_further}
use Rattle.mr_explore_places.proofs.turn.try_further.Goals as goal

pub returns-clause-leads : goal.returns-clause-leads
returns-clause-leads g c = λ budget.
    let old-beyond = ap (λ (l : Trying g.row.R.Denot g.row.R-Fault.Denot). l.beyond) c.level.view_is in
    let more : c.args.level.beyond ≡ suc (c.args.level.beyond - 1) = omega (arith, old-beyond, c.if-level-eq0.false) in
    let goes = subst (λ (b : Bool). GoesTo g.R.Run.steps c.args.level.place b c.goes_on.new.place) c.if-not-branch.false c.in_ok-goes_on.ensures.goes in
    let faults = c.in_ok-level-inside.ensures.is ∙ ap (λ (l : Trying g.row.R.Denot g.row.R-Fault.Denot). g.R.Run.steps.faults l.place.run) c.level-2.view_is in
    let items : c.push_front.new.self ≡ Faults (record { place = c.goes_on.new.place; faults = c.in_ok-level-inside.field-0; beyond = c.args.level.beyond - 1 }) ∷ c.args.levels.now =
    c.in_ok-push_front.ensures.items ∙ ap (λ (l : Trying g.row.R.Denot g.row.R-Fault.Denot). Faults (record { place = l.place; faults = c.in_ok-level-inside.field-0; beyond = l.beyond - 1 }) ∷ c.args.levels.now) c.level-2.view_is in
    subst (λ (z : List (Level g.row.R.Denot g.row.R-Fault.Denot)). LeadAlike g.R.Run.steps budget (Faults c.args.level ∷ c.args.levels.now) z) (sym items)
    (tried_further g.R.Run.steps budget c.args.level c.args.levels.now c.goes_on.new.place c.in_ok-level-inside.field-0 (c.args.level.beyond - 1) c.requires more goes faults)
