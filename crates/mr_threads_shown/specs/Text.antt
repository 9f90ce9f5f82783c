-- What `threads` shows of a run (our own profile).
use Rattle.std.specs.Prelude.{◌≡◌, true, false, ℕ, List, [], ◌++◌, length, Ok}
use Rattle.mr_world_model.specs.Claims.{IsMarked}
use Rattle.mr_play.specs.mr_world.specs.Journal.{Journal, world_in}
use Rattle.mr_sim_commands.specs.declared.job.submission.Submission.{Submission}
use Rattle.mr_sim_commands.specs.job.Text.{submission_of}
use Rattle.mr_sim_commands.specs.seq.Text.{PrintsSeq}
use Rattle.mr_play.specs.declared.shown.Shown.{Shown}
use Rattle.mr_play.specs.Faithful.{IsMarkedText}
use Rattle.mr_play.specs.Shown.{IsHistory}
use Rattle.mr_play.specs.Text.{job_as, job_line}
use Rattle.mr_play_repeated.specs.Repeated.{IsPlayedAgain}
use Rattle.mr_play.specs.WorldText.{world_text}
use Rattle.mr_trace.specs.Happened.{by_threads}
use Rattle.mr_trace.specs.Trace.{trace_text}
use Rattle.mr_script_writer.specs.Repeating.{commented, repeating}
use Rattle.mr_trace_json.specs.Endings.{json_text}
use Rattle.mr_threads.specs.Runs.{IsRun, plan_of}
use Rattle.mr_threads_shown.specs.declared.seen.Seen.{Seen}
use Rattle.mr_threads_shown.specs.declared.seen.Seen.TheVariants as seen

-- what `play` prints of the run
abbrev pub text_of_run : Journal → List ℕ
text_of_run j = world_text j.config (world_in j)

-- before it stands the trace of the run, with the thread whose seat was noted for each event, and behind it the
-- history. Each is there exactly where it is asked for
pub record TellsRun (shown : Shown) (by : List ℕ) (j : Journal) (text : List ℕ) : Type 0 where
  pub before : List ℕ
  pub behind : List ℕ
  pub untraced : shown.trace ≡ false → before ≡ []
  pub traced : shown.trace ≡ true → before ≡ trace_text (by_threads by) j
  pub plain : shown.history ≡ false → behind ≡ []
  pub history : shown.history ≡ true → IsHistory j behind
  pub is : text ≡ before ++ (text_of_run j ++ behind)

-- Of a picture nothing is said. Lines of JSON are exactly those of the run, with the thread whose seat was noted for each event; nothing is told of it beside them. A script has the commands of the run's events, and then what `play` prints of the run, as comments.
abbrev pub Tells : Seen → List ℕ → Journal → List ℕ → Type 0
Tells (seen.Shown shown) by j text = TellsRun shown by j text
Tells (seen.Drawn part) by j text = Unit {0}
Tells seen.Json by j text = text ≡ json_text (by_threads by) [] j
Tells seen.Script by j text = text ≡ repeating j.events ++ commented (text_of_run j)

-- where the marker is, the files that `play` prints of the run are those that `seq` prints for the job text
pub record TellsFilesOfSeq (input : List ℕ) (j : Journal) : Type 0 where
  pub files : List ℕ
  pub prints : PrintsSeq input files
  pub is : IsMarkedText (text_of_run j) files

-- Whatever text says the job on its first line: a script that stands behind that line is played to just the events of the run, and `play` prints what came of them, and nothing else.
abbrev pub IsPlayedAgainBehind : Submission → Journal → List ℕ → Type 0
IsPlayedAgainBehind job j script = (other : List ℕ) → submission_of (job_line other) ≡ Ok job → IsPlayedAgain other script job j.events

-- a script repeats the run
abbrev pub Repeats : Seen → Submission → Journal → List ℕ → Type 0
Repeats seen.Script job j text = IsPlayedAgainBehind job j text
Repeats _ job j text = Unit {0}

-- the text shows a run of the job that the job text says
pub record ShowsRun (seen : Seen) (input text : List ℕ) : Type 0 where
  pub job : Submission
  pub said : submission_of input ≡ Ok job
  pub run : Journal
  pub is : IsRun (job_as job.job) (plan_of job) run
  -- for each event the number of the seat that made it
  pub by : List ℕ
  pub noted : length by ≡ length run.events
  pub tells : Tells seen by run text
  pub repeats : Repeats seen job run text
  pub files : IsMarked (world_in run) → TellsFilesOfSeq input run
