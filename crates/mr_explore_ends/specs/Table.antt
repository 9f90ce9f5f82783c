-- The ends that runs came to, and what leads to each (our own profile).
use Rattle.std.specs.Prelude.{ℕ, ◌+◌, ◌-◌, ◌^◌, min, Bool, true, false, ◌&&◌, ◌||◌, List, [], ◌∷◌, ◌++◌, ◌==◌, nat_lt, length, if◌then◌else◌}
use Rattle.mr_world_events.specs.declared.event.Event.{Event}
use Rattle.mr_script_writer.specs.Repeating.{repeating}
use Rattle.mr_explore_ends.specs.Outcomes.{Outcome, same_outcome}

-- a run that was made: the end that it came to, how many faults it has, whether it was ended since it makes no progress,
-- and its events
pub record Reached : Type 0 where
  pub end : Outcome
  pub faults : ℕ
  pub stalled : Bool
  pub events : List Event

-- what came of a run: an end, at which it was cut where it would go on; or none, since its last fault would pass a limit
pub data Came : Type 0 where
  ToEnd : (cut : Bool) → Reached → Came
  ToLimit : Came

-- an end, how many runs came to it, and how many of these were ended since they make no progress. Of the first shortest
-- of these runs it has how many faults and events there are, and the script that repeats it
pub record End : Type 0 where
  pub end : Outcome
  pub runs : ℕ
  pub stalled : ℕ
  pub faults : ℕ
  pub events : ℕ
  pub script : List ℕ

-- how many runs there are with one more; they are counted up to 2^64 - 1
abbrev pub one_more : ℕ → ℕ
one_more n = min (n + 1) (2 ^ 64 - 1)

abbrev pub one_more_if : Bool → ℕ → ℕ
one_more_if true n = one_more n
one_more_if false n = n

-- an end to which one run came
abbrev pub opened : Reached → End
opened c = record { end = c.end; runs = 1; stalled = one_more_if c.stalled 0; faults = c.faults; events = length c.events; script = repeating c.events }

-- a run with these faults and events is shorter than the shortest so far: by its faults, or with as many by its events
abbrev pub is_shorter : ℕ → ℕ → End → Bool
is_shorter faults events e = nat_lt faults e.faults || ((faults == e.faults) && nat_lt events e.events)

-- one run more came to the end, with this many faults and these events
abbrev pub met : ℕ → Bool → List Event → End → End
met faults stalled events e =
    if is_shorter faults (length events) e
    then record e { runs = one_more e.runs; stalled = one_more_if stalled e.stalled; faults = faults; events = length events; script = repeating events }
    else record e { runs = one_more e.runs; stalled = one_more_if stalled e.stalled }

-- the ends in the order in which they came first
abbrev pub noted_in : Reached → List End → List End
noted_in c [] = opened c ∷ []
noted_in c (e ∷ es) = if same_outcome e.end c.end then met c.faults c.stalled c.events e ∷ es else e ∷ noted_in c es

-- how many runs were made, how many of them came to no end since their last fault would pass a limit, how many were cut, and
-- the ends that came
pub record Table : Type 0 where
  pub runs : ℕ
  pub past_limit : ℕ
  pub cut : ℕ
  pub ends : List End

abbrev pub noted : Came → Table → Table
noted (ToEnd cut c) t = record t { runs = one_more t.runs; cut = one_more_if cut t.cut; ends = noted_in c t.ends }
noted ToLimit t = record t { runs = one_more t.runs; past_limit = one_more t.past_limit }

abbrev pub empty : Table
empty = record { runs = 0; past_limit = 0; cut = 0; ends = [] }

-- runs that were made behind others
abbrev pub all_noted : List Came → Table → Table
all_noted [] t = t
all_noted (c ∷ cs) t = all_noted cs (noted c t)

-- the table of runs, in the order in which they were made
abbrev pub table_of : List Came → Table
table_of cs = all_noted cs empty
