-- What rows tell of runs, of which some may have been left out (our own profile).
use Rattle.std.specs.Prelude.{◌≡◌, false, List}
use Rattle.mr_explore_least.specs.Laws.{Has, HasEnd, Rises}
use Rattle.mr_explore_least.specs.Table.{Arrival, earlier}

-- The rows are of runs that came, and rise. Each run that is sure to be told has a row with its end, and does not come before the row of its end.
pub record AreLeast (Came Sure : Arrival → Type 0) (rows : List Arrival) : Type 0 where
  pub are : (r : Arrival) → Has rows r → Came r
  pub rise : Rises rows
  pub every : (a : Arrival) → Sure a → HasEnd rows a.end
  pub least : (r a : Arrival) → Has rows r → Sure a → a.end ≡ r.end → earlier a r ≡ false
