use Rattle.std.proofs.Common.{◌≡◌, ◌∷◌, List, subst, sym}
use Rattle.std.proofs.lemmas.Result.{on_ok_weaker}
use Rattle.mr_explore_places.specs.Levels.{LeadAlike}
use Rattle.mr_explore_places.specs.declared.level.Level.TheVariants.{Faults}
use Rattle.mr_explore_places.proofs.turn.turn_faults.Goals as goal

pub returns-in-Some-clause-leads : goal.returns-in-Some-clause-leads
returns-in-Some-clause-leads g c =
    on_ok_weaker c.try_fault.result (λ e. subst (λ (z : List g.row.R-Fault.Denot). LeadAlike g.R.Run.steps c.args.budget (Faults (record c.args.level { faults = z }) ∷ c.args.levels.now) c.try_fault.new.levels) (sym c.in-Some.ensures.items) e) c.try_fault.ensures.leads

pub returns-in-None-clause-leads : goal.returns-in-None-clause-leads
returns-in-None-clause-leads g c =
    let same : c.pop_front.new.self ≡ c.args.level.faults = search in
    on_ok_weaker c.try_further.result (λ e. subst (λ (z : List g.row.R-Fault.Denot). LeadAlike g.R.Run.steps c.args.budget (Faults (record c.args.level { faults = z }) ∷ c.args.levels.now) c.try_further.new.levels) same (e c.args.budget)) c.try_further.ensures.leads
