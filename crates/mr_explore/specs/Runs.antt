-- Which runs there are of an input (our own profile): all that come of it by at most a given number of faults, as
-- mr_explore_search says it. A run goes on as a calm of the newest master, unless in vain. A deep one goes on there too.
use Rattle.std.specs.Prelude.{◌≡◌, ◌≢◌, ◌⊎◌, ℕ, Bool, true, false, List, [], Option, Some, None, is_some, if◌then◌else◌}
use Rattle.std.specs.Option.{option_map}
use Rattle.mr_world_model.specs.Packets.{Config}
use Rattle.mr_world_model.specs.World.{World, Start}
use Rattle.mr_play.specs.mr_world.specs.Limits.{within}
use Rattle.mr_sim_commands.specs.declared.job.submission.JobKind.{JobKind}
use Rattle.mr_play.specs.Played.{Played, world}
use Rattle.mr_play.specs.Text.{PrintsPlay, config_of, job_as}
use Rattle.mr_explore_search.specs.Steps.{Onward, Goes, Ends, Full, Steps}
use Rattle.mr_explore_search.specs.Runs.{Found, runs}
use Rattle.mr_explore_faults.specs.declared.fault.Fault.{Fault}
use Rattle.mr_explore_faults.specs.Kinds as kinds
use Rattle.mr_explore.specs.Faults.{Fate, Happens, NotPermitted, PastLimit, befallen, faults_at, most_onward, newest, onward, told}

-- a run of a job's cluster, as far as it is; whether a limit forbids its last fault, so that nothing comes of it; and
-- whether it is deep: it goes on where it goes on in vain
pub record Exploring : Type 0 where
  pub job : JobKind
  pub config : Config
  pub played : Played
  pub past_limit : Bool
  pub deep : Bool

abbrev pub world_of : Exploring → World
world_of e = world (job_as e.job) e.config (within e.config) e.played

abbrev pub with : Exploring → Played → Exploring
with e s = record e { played = s }

abbrev pub onward_with : Exploring → Onward Played → Onward Exploring
onward_with e (Goes s) = Goes (with e s)
onward_with e (Ends s) = Ends (with e s)
onward_with e Full = Full

-- a fault that a limit forbids makes a run too, which is told apart; one that is not permitted makes none
abbrev pub befallen_with : Exploring → Fate → Option Exploring
befallen_with e (Happens s) = Some (with e s)
befallen_with e NotPermitted = None
befallen_with e (PastLimit s) = Some (record e { played = s; past_limit = true })

abbrev pub explored : Steps Exploring Fault
explored = record {
  onward = λ e. if e.past_limit then Ends e else onward_with e (onward (job_as e.job) e.config (within e.config) e.deep e.played);
  faults = λ e. if e.past_limit then [] else faults_at (job_as e.job) e.config (within e.config) e.deep e.played;
  befallen = λ f e. if e.past_limit then None else befallen_with e (befallen (job_as e.job) e.config (within e.config) f e.played);
  later = kinds.later;
}

-- what the first master's start makes
abbrev pub start_first : Exploring → Option Played
start_first e = told (job_as e.job) e.config (within e.config) (Start 1 0) e.played

abbrev pub newest_in : Exploring → ℕ
newest_in e = newest (job_as e.job) e.config (within e.config) e.played

-- it is as far as the first one, or its first master starts there, if there is none
abbrev pub StartsFrom : Exploring → Exploring → Type 0
StartsFrom e new = ((newest_in e ≡ 0) × (option_map (with e) (start_first e) ≡ Some new)) ⊎ ((newest_in e ≢ 0) × (new ≡ e))

-- what a script left: the job is the text's, and it is as far as the script that `play` plays
pub record IsLeftBy (input : List ℕ) (e : Exploring) : Type 0 where
  pub text : List ℕ
  pub prints : PrintsPlay within input text
  pub is : e ≡ record { job = prints.job.job; config = config_of prints.job; played = prints.left; past_limit = false; deep = false }

-- the run of an input, which is a job text and a script behind it
pub record IsRunOf (input : List ℕ) (e : Exploring) : Type 0 where
  pub before : Exploring
  pub left : IsLeftBy input before
  pub starts : StartsFrom before e

-- the script starts no master, and a limit forbids that the first one starts
pub record CannotStart (input : List ℕ) : Type 0 where
  pub before : Exploring
  pub left : IsLeftBy input before
  pub newest : newest_in before ≡ 0
  pub none : start_first before ≡ None

-- All runs of one with at most this many faults. Where a number of events is told they are deep: each makes at most so
-- many by itself, behind the script, behind each fault, and behind what comes late.
abbrev pub runs_with : (deep : Option ℕ) (faults : ℕ) → Exploring → List (Found Exploring)
runs_with deep faults e = runs explored (most_onward deep) faults (record e { deep = is_some deep })
