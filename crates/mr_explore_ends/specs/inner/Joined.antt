-- Ends of runs that were made behind others.
use Rattle.std.specs.Prelude.{ℕ, zero, suc, ◌+◌, ◌-◌, ◌^◌, min, Bool, true, false, List, [], ◌∷◌, if◌then◌else◌}
use Rattle.mr_explore_ends.specs.Outcomes.{same_outcome}
use Rattle.mr_explore_ends.specs.Table.{End, is_shorter}

-- so many runs, and so many more; they are counted up to 2^64 - 1
abbrev pub more : ℕ → ℕ → ℕ
more a zero = a
more a (suc b) = min (a + suc b) (2 ^ 64 - 1)

abbrev pub joined_if : Bool → End → End → End
joined_if true e behind = record behind { end = e.end; runs = more e.runs behind.runs; stalled = more e.stalled behind.stalled }
joined_if false e behind = record e { runs = more e.runs behind.runs; stalled = more e.stalled behind.stalled }

-- the runs of one end, and those that came to it behind them
abbrev pub joined : End → End → End
joined e behind = joined_if (is_shorter behind.faults behind.events e) e behind

-- an end is one of these, or is new
abbrev pub joined_in : End → List End → List End
joined_in behind [] = behind ∷ []
joined_in behind (e ∷ es) = if same_outcome e.end behind.end then joined e behind ∷ es else e ∷ joined_in behind es

abbrev pub all_joined : List End → List End → List End
all_joined [] es = es
all_joined (b ∷ bs) es = all_joined bs (joined_in b es)
