-- What is known of all runs of an input where a search has found all.
use Rattle.std.proofs.Common.{◌≡◌, inl, ℕ, true, false, List, [], ◌++◌, refl, sym, ap, subst, ◌∙◌}
use Rattle.mr_explore_search.specs.Runs.{Found, Run}
use Rattle.mr_explore_alike.specs.Leaving.{Here}
use Rattle.mr_explore_places.specs.Places.{beginning}
use Rattle.mr_explore_places.specs.Searching.{HasDone}
use Rattle.mr_explore_places.specs.State.{whole}
use Rattle.mr_explore_places.specs.declared.bounds.Bounds.{Bounds}
use Rattle.mr_explore_search.specs.Laws.{In}
use Rattle.mr_explore_places.proofs.Doing.{enough, parts_taken}
use Rattle.mr_explore_places.proofs.Joining.{whole_alone}
use Rattle.mr_explore_least.specs.Laws.{EachHasOneEnd}
use Rattle.mr_explore_least.specs.Table.{Arrival, Table}
use Rattle.mr_explore_noted.specs.Noting as noting
use Rattle.mr_explore_noted.specs.Noting.{Tells}
use Rattle.mr_explore_noted.specs.Searched.{HasAll}
use Rattle.mr_explore_faults.specs.declared.fault.Fault.{Fault}
use Rattle.mr_explore.specs.Faults.{most_events}
use Rattle.mr_explore.specs.Runs.{Exploring, IsRunOf, explored}
use Rattle.mr_explore_likeness.specs.Careful.{careful, ends_careful}
use Rattle.mr_explore_likeness.specs.Losing.{NoCarefulEndIsLost, RunsAreLikeThemselves}
use Rattle.mr_explore_likeness.specs.Runs.{before, ends, like, rest, void}
use Rattle.mr_explore_merged.specs.Came.{CameCarefully, CameSo, SomePassLimit, end_of, events_of}
use Rattle.mr_explore_merged.specs.Least.{AreLeast}
use Rattle.mr_explore_merged.specs.Merged.{Finds}
use Rattle.mr_explore_merged.proofs.Alive.{alive, awake, enough_awake, taken_awake}
use Rattle.mr_explore_merged.proofs.Configs.{one_end, stays_alive}
use Rattle.mr_explore_merged.proofs.LeastTold.{IsRunBy, Knows, rows_tell}

-- ---- runs with as many faults and the same events came to one end

module _ (most budget : ℕ) (first : Exploring) where
  abbrev Is : Arrival → Type 0
  Is a = IsRunBy explored careful rest before void (like false) ends_careful end_of events_of most budget first explored a

  ends_once : EachHasOneEnd Is
  ends_once a b c d faults events =
      let same : c.0.played.events ≡ d.0.played.events = ap (λ (x : Arrival). x.events) (sym c.3) ∙ (events ∙ ap (λ (x : Arrival). x.events) d.3) in
      ap (λ (x : Arrival). x.end) c.3 ∙ (one_end most budget a.faults b.faults first c.0 d.0 c.1 d.1 same ∙ ap (λ (x : Arrival). x.end) (sym d.3))

pub each_has_one_end : (bounds : Bounds) (first : Exploring) → EachHasOneEnd (noting.CameBy void end_of events_of explored bounds first)
each_has_one_end bounds first a b c d = ends_once bounds.steps bounds.faults first a b (c.run, c.one, c.goes, c.is) (d.run, d.one, d.goes, d.is)

-- ---- a search

module _ (lost : NoCarefulEndIsLost) (itself : RunsAreLikeThemselves) (input : List ℕ) (budget : ℕ) (first : Exploring) (is_run : IsRunOf input first) (made known : List (Here Exploring Fault)) (found : List (Found Exploring)) (alone : (h : Here Exploring Fault) → In h (made ++ known) → In h made) where
  abbrev Done : Type 0
  Done = HasDone explored rest before void (like false) ends budget most_events first (whole first) known [] [] [] made found

  goes_first : first.past_limit ≡ false
  goes_first = (itself false input first is_run).goes

  knows : Done → Knows explored careful rest before void (like false) ends_careful end_of events_of most_events budget first found
  knows d = record {
    are_runs = d.runs;
    lost = λ k s one real. lost input budget (awake void made) (alive void found) first is_run (enough_awake explored rest before void (like false) ends stays_alive made budget found (enough explored rest before void (like false) ends budget most_events first (whole first) known made found alone d))
        (taken_awake explored rest before void (like false) ends stays_alive made 0 0 [] first goes_first (parts_taken explored rest before void (like false) ends budget most_events first (whole first) known made found alone d (beginning first) (inl refl) goes_first)) k s one real;
    same = λ s t e. e.outcome;
    orders = λ s t. refl;
    one_end = ends_once most_events budget first;
  }

  so : (a : Arrival) → Is most_events budget first a → CameSo budget first a
  so a c = record { run = c.0; one = c.1; goes = c.2; is = c.3 }

  carefully : (a : Arrival) → CameCarefully budget first a → IsRunBy explored careful rest before void (like false) ends_careful end_of events_of most_events budget first careful a
  carefully a c = (c.run, c.one, c.goes, c.is)

  finds_by : (t : Table) → Done → Tells void end_of events_of found t → Finds budget first t
  finds_by t d told = record { rows = rows; limit = limit } where
    all : AreLeast (Is most_events budget first) (IsRunBy explored careful rest before void (like false) ends_careful end_of events_of most_events budget first careful) t.rows
    all = rows_tell explored careful rest before void (like false) ends_careful end_of events_of most_events budget first found (knows d) told.came t.rows told.are told.rows

    rows : AreLeast (CameSo budget first) (CameCarefully budget first) t.rows
    rows = record { are = λ r h. so r (all.are r h); rise = all.rise; every = λ a c. all.every a (carefully a c); least = λ r a h c e. all.least r a h (carefully a c) e }

    limit : t.past_limit ≡ true → SomePassLimit budget first
    limit p = let z = told.limit.0 p in record { faults = z.0; run = z.1; one = d.runs (Run z.0 z.1) z.2; passes = z.3 }

-- where a search has found all, its table tells what is known of all runs
pub finds : NoCarefulEndIsLost → RunsAreLikeThemselves → (input : List ℕ) (bounds : Bounds) (first : Exploring) (t : Table) → IsRunOf input first → bounds.steps ≡ most_events
    → HasAll explored rest before void (like false) ends end_of events_of bounds first (whole first) [] t → Finds bounds.faults first t
finds lost itself input bounds first t is steps all =
    let done : (n : ℕ) → bounds.steps ≡ n → HasDone explored rest before void (like false) ends bounds.faults n first (whole first) all.1.1 [] [] [] all.1.0 all.0
    = λ n e. subst (λ (m : ℕ). HasDone explored rest before void (like false) ends bounds.faults m first (whole first) all.1.1 [] [] [] all.1.0 all.0) e all.1.2 in
    finds_by lost itself input bounds.faults first is all.1.0 all.1.1 all.0 (whole_alone explored rest before void (like false) ends bounds.faults bounds.steps first all.1.0 all.1.1 all.1.3) t (done most_events steps) all.2
