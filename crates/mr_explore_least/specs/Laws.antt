-- What holds of the rows of runs: they are determined by which runs came, and not by the order in which they came.
use Rattle.std.specs.Prelude.{◌≡◌, true, false, List, [], ◌∷◌, ◌++◌, ◌⊎◌, IfSome, IfNone}
use Rattle.mr_script.specs.declared.expectation.Expectation.{Expectation}
use Rattle.mr_explore_ends.specs.Goals.{meets}
use Rattle.mr_explore_ends.specs.Outcomes.{Outcome}
use Rattle.mr_explore_least.specs.Table.{Arrival, all_noted, earlier, least_of, rows_of}

-- it is one of these
abbrev pub Has : List Arrival → Arrival → Type 0
Has [] a = ⊥
Has (r ∷ rs) a = (r ≡ a) ⊎ Has rs a

-- one of them came to this end
abbrev pub HasEnd : List Arrival → Outcome → Type 0
HasEnd rows end = (r : Arrival) × (Has rows r × (r.end ≡ end))

-- each comes before those behind it
abbrev pub Rises : List Arrival → Type 0
Rises [] = Unit {0}
Rises (r ∷ rs) = ((s : Arrival) → Has rs s → earlier r s ≡ true) × Rises rs

-- ---- of runs, by what says which they are

-- with as many faults and the same events, runs come to one end
abbrev pub EachHasOneEnd : (Arrival → Type 0) → Type 0
EachHasOneEnd Came = (a b : Arrival) → Came a → Came b → a.faults ≡ b.faults → a.events ≡ b.events → a.end ≡ b.end

-- The rows are the least of these runs: for each end to which one came the least that came to it, and they rise.
pub record AreLeastOf (Came : Arrival → Type 0) (rows : List Arrival) : Type 0 where
  pub rise : Rises rows
  pub are : (r : Arrival) → Has rows r → Came r
  pub least : (r a : Arrival) → Has rows r → Came a → a.end ≡ r.end → earlier a r ≡ false
  pub every : (a : Arrival) → Came a → HasEnd rows a.end

-- A few of these runs stand for all: for each there is one that came to its end, and that it does not come before.
pub record StandFor (Few Came : Arrival → Type 0) : Type 0 where
  pub are : (a : Arrival) → Few a → Came a
  pub every : (a : Arrival) → Came a → (b : Arrival) × (Few b × ((b.end ≡ a.end) × (earlier a b ≡ false)))

-- A row is the least of the runs that meet a goal.
pub record IsLeastThatMeets (goal : List Expectation) (Came : Arrival → Type 0) (r : Arrival) : Type 0 where
  pub is : Came r
  pub met : meets goal r.end ≡ true
  pub least : (a : Arrival) → Came a → meets goal a.end ≡ true → earlier a r ≡ false

-- ---- the laws

-- The rows of runs are the least of them, whatever the order in which they came; and there is only one such list.
pub record RowsAreLeast : Type 0 where
  pub least : (came : List Arrival) → EachHasOneEnd (Has came) → AreLeastOf (Has came) (rows_of came)
  pub one : (came rows other : List Arrival) → AreLeastOf (Has came) rows → AreLeastOf (Has came) other → rows ≡ other
  -- it is the same of a few runs that stand for all
  pub enough : (few came rows : List Arrival) → StandFor (Has few) (Has came) → AreLeastOf (Has few) rows → AreLeastOf (Has came) rows
  -- and of runs that were noted apart, as by several threads
  pub apart : (first second : List Arrival) → EachHasOneEnd (Has (first ++ second)) → all_noted (rows_of second) (rows_of first) ≡ rows_of (first ++ second)

-- The first row that meets a goal is the least of the runs that meet it, and where there is none, no run meets it.
pub record GoalHasLeast : Type 0 where
  pub some : (goal : List Expectation) (came rows : List Arrival) → AreLeastOf (Has came) rows → IfSome (least_of goal rows) (IsLeastThatMeets goal (Has came))
  pub none : (goal : List Expectation) (came rows : List Arrival) → AreLeastOf (Has came) rows → IfNone (least_of goal rows) ((a : Arrival) → Has came a → meets goal a.end ≡ false)
