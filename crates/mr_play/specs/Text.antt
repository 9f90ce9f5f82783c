-- What `play` prints for a job text and a script, and why it prints nothing (our own profile).
use Rattle.std.specs.Prelude.{◌≡◌, ℕ, Bool, List, [], ◌++◌, Option, Some, None, Ok, Err}
use Rattle.std.specs.Cmp.Lexicographic.{slice_cmp}
use Rattle.std.specs.Ordering.{nat_cmp}
use Rattle.mr_user.specs.Computation.{computation}
use Rattle.mr_user.specs.Codecs.{text_codec, number_codec, position_codec}
use Rattle.mr_jobs.specs.WordCount.{word_count}
use Rattle.mr_jobs.specs.MaxByKey.{max_by_key}
use Rattle.mr_jobs.specs.LineIndex.{line_index}
use Rattle.mr_world_model.specs.Packets.{Config}
use Rattle.mr_world_model.specs.World.{World}
use Rattle.mr_world_model.specs.Claims.{Limits}
use Rattle.mr_world_model.specs.Sequential.{Job}
use Rattle.mr_world_files.specs.Jobs.{job_of}
use Rattle.mr_world.specs.Journal.{Journal}
use Rattle.mr_script.specs.declared.command.Command.{Command}
use Rattle.mr_script.specs.Lines.{before, after, lines_of}
use Rattle.mr_script.specs.Script.{AreCommands, IsFirstBad}
use Rattle.mr_sim_commands.specs.declared.fault.JobTextFault.{JobTextFault}
use Rattle.mr_sim_commands.specs.declared.fault.SimFault.{SimFault}
use Rattle.mr_sim_commands.specs.declared.fault.SimFault.TheVariants.{NoMemory, BadCommand, Full}
use Rattle.mr_sim_commands.specs.declared.fault.SimFault.TheVariants as fault
use Rattle.mr_sim_commands.specs.declared.job.submission.JobKind.{JobKind}
use Rattle.mr_sim_commands.specs.declared.job.submission.JobKind.TheVariants.{WordCount, MaxByKey, LineIndex}
use Rattle.mr_sim_commands.specs.declared.job.submission.Submission.{Submission}
use Rattle.mr_sim_commands.specs.job.Text.{submission_of}
use Rattle.mr_play.specs.declared.sources.Stretch.{Stretch}
use Rattle.mr_play.specs.Played.{Played, begun, played}
use Rattle.mr_play.specs.Sources.{stretches}
use Rattle.mr_play.specs.WorldText.{world_text}

-- ---- of an input

-- the job of a job text, as the cluster's definitions ask for it
unfoldable pub job_as : JobKind → Job
job_as WordCount = job_of (computation (slice_cmp nat_cmp) text_codec number_codec word_count)
job_as MaxByKey = job_of (computation (slice_cmp nat_cmp) text_codec number_codec max_by_key)
job_as LineIndex = job_of (computation (slice_cmp nat_cmp) text_codec position_codec line_index)

abbrev pub config_of : Submission → Config
config_of job = record { job = job.id; splits = job.splits; reduces = job.reduces; nodes = job.nodes; limit = job.limit; v2_from = job.v2_from }

-- the first line is the job text, the others are the script
abbrev pub job_line : List ℕ → List ℕ
job_line input = before 10 input

abbrev pub script_by : Option (List ℕ) → List ℕ
script_by None = []
script_by (Some rest) = rest

abbrev pub script_lines : List ℕ → List (List ℕ)
script_lines input = lines_of (script_by (after 10 input))

-- a bad job text is told before a bad script
abbrev pub IsBadPlayJob : List ℕ → JobTextFault → Type 0
IsBadPlayJob input e = submission_of (job_line input) ≡ Err e

pub record IsBadPlayLine (input : List ℕ) (n : ℕ) : Type 0 where
  pub job : Submission
  pub said : submission_of (job_line input) ≡ Ok job
  pub bad : IsFirstBad job.id 2 (script_lines input) n

-- limits, for each config
module _ (within : Config → Limits) where
  -- what commands make of a job's cluster; none where a limit is passed
  unfoldable pub played_of : Submission → List (ℕ × Command) → Option Played
  played_of job cs = played (job_as job.job) (config_of job) (within (config_of job)) cs begun

  -- which of their lines made which events
  unfoldable pub stretches_of : Submission → List (ℕ × Command) → List Stretch
  stretches_of job cs = stretches (job_as job.job) (config_of job) (within (config_of job)) cs begun

  -- what was told of lines, and then what came of it all
  abbrev pub played_text : Submission → Played → List ℕ
  played_text job s = s.told ++ world_text (config_of job) (Rattle.mr_play.specs.Played.world (job_as job.job) (config_of job) (within (config_of job)) s)

  pub record PrintsPlay (input text : List ℕ) : Type 0 where
    pub job : Submission
    pub said : submission_of (job_line input) ≡ Ok job
    pub commands : List (ℕ × Command)
    pub read : AreCommands job.id 2 (script_lines input) commands
    pub left : Played
    pub comes : played_of job commands ≡ Some left
    pub is : text ≡ played_text job left

  -- the cluster of which it is printed
  abbrev pub printed_world : (input text : List ℕ) → PrintsPlay input text → World
  printed_world input text p = Rattle.mr_play.specs.Played.world (job_as p.job.job) (config_of p.job) (within (config_of p.job)) p.left

  -- the events of the run of which it is printed, those that were taken
  abbrev pub printed_journal : (input text : List ℕ) → PrintsPlay input text → Journal
  printed_journal input text p = record { config = config_of p.job; events = p.left.events }

  -- which line of the script made which of them
  abbrev pub printed_stretches : (input text : List ℕ) → PrintsPlay input text → List Stretch
  printed_stretches input text p = stretches_of p.job p.commands

  -- whether all that the script expects is so where it expects it
  abbrev pub IsAsExpected : List ℕ → Bool → Type 0
  IsAsExpected input met = (text : List ℕ) (p : PrintsPlay input text) → p.left.met ≡ met

  -- the script is read, and an event or a work passes a limit
  pub record IsFullPlay (input : List ℕ) : Type 0 where
    pub job : Submission
    pub said : submission_of (job_line input) ≡ Ok job
    pub commands : List (ℕ × Command)
    pub read : AreCommands job.id 2 (script_lines input) commands
    pub full : played_of job commands ≡ None

  -- why nothing is printed: the first bad key of the job text, else the first bad line, else a limit that is passed. An allocation failure may come at any input.
  abbrev pub PlayFails : List ℕ → SimFault → Type 0
  PlayFails input NoMemory = Unit {0}
  PlayFails input (fault.Job e) = IsBadPlayJob input e
  PlayFails input (BadCommand n) = IsBadPlayLine input n
  PlayFails input Full = IsFullPlay input
  PlayFails input _ = ⊥
