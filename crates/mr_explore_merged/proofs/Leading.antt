-- The script of each row leads to its end: it is a run's.
use Rattle.std.proofs.Common.{ℕ, List, [], ◌∷◌, inl, inr, refl, sym, subst}
use Rattle.std.specs.List.{AllByRecursion}
use Rattle.mr_script_writer.specs.Repeating.{repeating}
use Rattle.mr_explore.specs.Ends.{LeadsTo}
use Rattle.mr_explore.specs.Faults.{most_events}
use Rattle.mr_explore.specs.Runs.{Exploring, IsRunOf}
use Rattle.mr_explore_least.specs.Laws.{Has}
use Rattle.mr_explore_least.specs.Table.{Arrival}
use Rattle.mr_explore_repeated.specs.Leading.{ScriptsLeadToTheirEnds}
use Rattle.mr_explore_merged.specs.Came.{CameSo}
use Rattle.mr_explore_merged.specs.Laws.{MergedScriptsLead}

module _ (input : List ℕ) where
  abbrev Leads : Arrival → Type 0
  Leads r = LeadsTo input (repeating r.events) r.end

  came_leads : ScriptsLeadToTheirEnds → (most : ℕ) (first : Exploring) → IsRunOf input first → (r : Arrival) → CameSo most first r → Leads r
  came_leads law most first of r came = subst Leads (sym came.is) (law input most_events most r.faults first.deep came.run (first, of, came.one))

  all_lead : (rows : List Arrival) → ((r : Arrival) → Has rows r → Leads r) → AllByRecursion Leads rows
  all_lead [] h = tt
  all_lead (r ∷ rows) h = (h r (inl refl), all_lead rows (λ s has. h s (inr has)))

pub merged_scripts_lead_law : ScriptsLeadToTheirEnds → MergedScriptsLead
merged_scripts_lead_law law asked input text p = all_lead input p.table.rows (λ r has. came_leads input law p.faults p.found.run p.found.is_run r (p.found.enough.finds.rows.are r has))
