-- Runs that are told to pass a limit as soon as the look-ahead for one that goes on in vain does. Our own.
--
-- Whether a run goes on in vain is found by looking ahead (mr_explore's Vain). Where that would pass a limit, an exploration goes on, to where the run itself would pass
-- the limit. A run that has more room may have ended there. So for runs that are not as near to each limit the two are told apart.
use Rattle.std.specs.Prelude.{◌≡◌, ◌&&◌, Bool, true, List, [], is_none, if◌then◌else◌}
use Rattle.mr_world_state.specs.Limits.{within}
use Rattle.mr_world.specs.Readings.{living}
use Rattle.mr_play.specs.Text.{job_as}
use Rattle.mr_explore_search.specs.Steps.{Onward, Goes, Ends, Full, Steps}
use Rattle.mr_explore_faults.specs.declared.fault.Fault.{Fault}
use Rattle.mr_explore.specs.Exploring.{is_stalled, outcome_of}
use Rattle.mr_explore.specs.Faults.{calm}
use Rattle.mr_explore.specs.Runs.{Exploring, explored}
use Rattle.mr_explore.specs.Vain.{all_wait, most_ahead}
use Rattle.mr_explore_likeness.specs.Plays.{cluster}

-- all who live wait, and to look ahead would pass a limit
abbrev pub cannot_look : Exploring → Bool
cannot_look e =
    all_wait e.config (cluster e.config e.played) (living e.config (cluster e.config e.played))
    && is_none (calm (job_as e.job) e.config (within e.config) (most_ahead (living e.config (cluster e.config e.played))) e.played)

abbrev pub onward_careful : Exploring → Onward Exploring
onward_careful e = if e.past_limit then Ends e else (if cannot_look e then Full else explored.onward e)

-- nothing is tried on a run that would pass a limit
abbrev pub unless_full : Onward Exploring → List Fault → List Fault
unless_full (Goes s) fs = fs
unless_full (Ends s) fs = fs
unless_full Full fs = []

-- as mr_explore's runs, but for that
abbrev pub careful : Steps Exploring Fault
careful = record { onward = onward_careful; faults = λ e. unless_full (onward_careful e) (explored.faults e); befallen = explored.befallen; later = explored.later }

-- The ends of two such runs are one: if the first made no progress, neither did the second.
pub record CameToOneEnd (s t : Exploring) : Type 0 where
  pub outcome : outcome_of s.config (cluster s.config s.played) ≡ outcome_of t.config (cluster t.config t.played)
  pub stalled : is_stalled s ≡ true → is_stalled t ≡ true

abbrev pub ends_careful : Exploring → Exploring → Type 0
ends_careful s t = CameToOneEnd s t
