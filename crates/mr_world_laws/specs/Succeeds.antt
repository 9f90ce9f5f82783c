-- That the headline is not said of nothing: a job with a map succeeds in a world, under its own limits, over events whose results are the job's (a statement of our own).
use Rattle.std.specs.Prelude.{ℕ, ◌≡◌, ◌≤◌, ◌<◌, List, length}
use Rattle.std.specs.Ordering.{nat_cmp}
use Rattle.std.specs.Cmp.Lexicographic.{slice_cmp}
use Rattle.mr_user.specs.Codecs.{text_codec, number_codec}
use Rattle.mr_user.specs.Computation.{computation}
use Rattle.mr_jobs.specs.WordCount.{word_count}
use Rattle.mr_world_model.specs.Packets.{Config}
use Rattle.mr_world_model.specs.World.{Event, opening_world}
use Rattle.mr_world_model.specs.Sequential.{Job, JobLaws, IsFaithful}
use Rattle.mr_world_model.specs.Reachable.{HasSucceeded}
use Rattle.mr_world_files.specs.Jobs.{job_of}
use Rattle.mr_world.specs.declared.limits.TheConstants.{MAX_EVENTS}
use Rattle.mr_world.specs.Ranges.{IsInRange}
use Rattle.mr_world.specs.Limits.{within}
use Rattle.mr_world.specs.Journal.{run_of, taken}

-- there are events, each of which is taken, that a journal has room for; each result that is handed in is the job's, and after them the job has succeeded
pub record Succeeds (job : Job) (cfg : Config) : Type 0 where
  pub events : List Event
  pub are_taken : taken cfg opening_world events ≡ events
  pub few : length events ≤ MAX_EVENTS
  pub faithful : IsFaithful job cfg (within cfg) events
  pub succeeded : HasSucceeded cfg (run_of cfg events)

-- the count of words
abbrev pub count_of_words : Job
count_of_words = job_of (computation (slice_cmp nat_cmp) text_codec number_codec word_count)

-- in some world, whose config is in its ranges and has a split at least, the count of words has the laws of a job, and succeeds
abbrev pub AWorldSucceeds : Type 0
AWorldSucceeds = (cfg : Config) × IsInRange cfg × (0 < length cfg.splits) × JobLaws count_of_words cfg × Succeeds count_of_words cfg
