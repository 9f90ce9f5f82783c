-- What the table of a search tells, by the laws of runs that are alike.
use Rattle.std.proofs.Common.{◌≡◌, ℕ, false, List, [], subst}
use Rattle.mr_explore_places.specs.State.{whole}
use Rattle.mr_explore_places.specs.declared.bounds.Bounds.{Bounds}
use Rattle.mr_explore_least.specs.Laws.{EachHasOneEnd}
use Rattle.mr_explore_least.specs.Table.{Table}
use Rattle.mr_explore_noted.specs.Noting.{CameBy}
use Rattle.mr_explore_noted.specs.Searched.{HasAll}
use Rattle.mr_explore.specs.Faults.{most_events}
use Rattle.mr_explore.specs.Runs.{Exploring, IsRunOf, explored}
use Rattle.mr_explore_likeness.specs.Runs.{before, ends, like, rest, void}
use Rattle.mr_explore_likeness.proofs.Itself.{first-itself}
use Rattle.mr_explore_likeness.proofs.Losing.{no_careful_end}
use Rattle.mr_explore_merged.specs.Came.{end_of, events_of}
use Rattle.mr_explore_merged.specs.Merged.{Finds}
use Rattle.mr_explore_merged.proofs.Found.{each_has_one_end, finds}

-- a search has found all
abbrev pub HasAllOf : Bounds → Exploring → Table → Type 0
HasAllOf bounds first t = HasAll explored rest before void (like false) ends end_of events_of bounds first (whole first) [] t

pub all_found : (faults : ℕ) (bounds : Bounds) (first : Exploring) (t : Table) → bounds.faults ≡ faults → bounds.steps ≡ most_events → HasAllOf bounds first t → (input : List ℕ) → IsRunOf input first → Finds faults first t
all_found faults bounds first t few steps all input is = subst (λ (n : ℕ). Finds n first t) few (finds no_careful_end first-itself input bounds first t is steps all)

-- threads tell of runs of which those with as many faults and the same events came to one end
pub all_found_by_threads : (faults : ℕ) (bounds : Bounds) (first : Exploring) (t : Table) → bounds.faults ≡ faults → bounds.steps ≡ most_events → (EachHasOneEnd (CameBy void end_of events_of explored bounds first) → HasAllOf bounds first t)
    → (input : List ℕ) → IsRunOf input first → Finds faults first t
all_found_by_threads faults bounds first t few steps all = all_found faults bounds first t few steps (all (each_has_one_end bounds first))
