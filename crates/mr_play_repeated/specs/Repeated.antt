-- The script of a run's events, behind the job text, is played to the same run. Our own.
use Rattle.std.specs.Prelude.{◌≡◌, ◌≤◌, ◌<◌, ◌^◌, ℕ, List, [], ◌∷◌, ◌++◌, length, Some, Ok}
use Rattle.std.specs.List.{AllByRecursion}
use Rattle.mr_script.specs.declared.command.Command.{Command}
use Rattle.mr_script.specs.Script.{AreCommands}
use Rattle.mr_script_writer.specs.Laws.{CanBeSaid}
use Rattle.mr_script_writer.specs.Repeating.{commented, repeating}
use Rattle.mr_world_model.specs.World.{World, Event, Start, Crash, Compute}
use Rattle.mr_world_model.specs.Sequential.{IsFaithful, most_output}
use Rattle.mr_world.specs.Applying.{CanHappen}
use Rattle.mr_world.specs.Journal.{run_of}
use Rattle.mr_world.specs.Limits.{within}
use Rattle.mr_world.specs.Repeating.{CanFollow}
use Rattle.mr_sim_commands.specs.declared.job.submission.Submission.{Submission}
use Rattle.mr_sim_commands.specs.job.Text.{submission_of}
use Rattle.mr_play.specs.Played.{Played, computing}
use Rattle.mr_play.specs.Text.{PrintsPlay, config_of, job_as, job_line, played_of, printed_journal}
use Rattle.mr_play.specs.WorldText.{world_text}

-- ---- which runs can be repeated

-- bytes that are handed in are those that `compute` hands in for the container
abbrev pub IsComputed : Submission → World → Event → Type 0
IsComputed job w (Compute c bytes) = computing (job_as job.job) (config_of job) (within (config_of job)) w c ≡ Some (Compute c bytes)
IsComputed job w _ = Unit {0}

-- fewer than 2 ^ 64 bytes stay of what a master did not flush: a script has no word for more
abbrev pub KeepsFew : Event → Type 0
KeepsFew (Start k kept) = kept < 2 ^ 64
KeepsFew (Crash k kept) = kept < 2 ^ 64
KeepsFew _ = Unit {0}

-- behind these events one more is permitted and passes no limit, its bytes are those that `compute` hands in, and it keeps few
pub record IsRepeatable (job : Submission) (before : List Event) (e : Event) : Type 0 where
  pub can : CanHappen (record { config = config_of job; events = before }) e
  pub computed : IsComputed job (run_of (config_of job) before) e
  pub few : KeepsFew e

-- each of these is, in turn
abbrev pub AreRepeatable : (job : Submission) → (before : List Event) → List Event → Type 0
AreRepeatable job before [] = Unit {0}
AreRepeatable job before (e ∷ es) = IsRepeatable job before e × AreRepeatable job (before ++ e ∷ []) es

-- ---- how they are repeated

-- a script of these events: a line for each, and maybe a text behind them as comments
abbrev pub IsScriptOf : List Event → List ℕ → Type 0
IsScriptOf es script = (notes : List ℕ) × (script ≡ repeating es ++ commented notes)

-- a script behind the job text of an input
abbrev pub behind_job : (input script : List ℕ) → List ℕ
behind_job input script = job_line input ++ 10 ∷ script

-- what `play` prints of a run in which no line was refused
abbrev pub text_of : (job : Submission) → List Event → List ℕ
text_of job es = world_text (config_of job) (run_of (config_of job) es)

-- `play` takes just these events of it, and prints what came of them, and nothing else
pub record IsPlayedAgain (input script : List ℕ) (job : Submission) (es : List Event) : Type 0 where
  pub prints : PrintsPlay within (behind_job input script) (text_of job es)
  pub journal : printed_journal within (behind_job input script) (text_of job es) prints ≡ record { config = config_of job; events = es }

-- so it is of each such run
abbrev pub RunsAreRepeated : Type 0
RunsAreRepeated = (input script : List ℕ) (job : Submission) (es : List Event) → submission_of (job_line input) ≡ Ok job → AreRepeatable job [] es → IsScriptOf es script → IsPlayedAgain input script job es

-- a script has words for its events: each number in them is in its range
abbrev pub RunsCanBeSaid : Type 0
RunsCanBeSaid = (text : List ℕ) (job : Submission) (es : List Event) → submission_of text ≡ Ok job → AreRepeatable job [] es → CanBeSaid job.id es

-- ---- two kinds of such runs

-- whatever a script leads to, by its events and by its calms
abbrev pub ScriptsAreRepeatable : Type 0
ScriptsAreRepeatable = (job : Submission) (n : ℕ) (lines : List (List ℕ)) (cs : List (ℕ × Command)) (left : Played) → AreCommands job.id n lines cs → played_of within job cs ≡ Some left → AreRepeatable job [] left.events

-- bytes that are handed in are no more than `compute` hands in
abbrev pub IsShort : Event → Type 0
IsShort (Compute c bytes) = length bytes ≤ most_output
IsShort _ = Unit {0}

-- a journal, whose bytes are what the job's functions give, and not too many
abbrev pub FaithfulRunsAreRepeatable : Type 0
FaithfulRunsAreRepeatable = (job : Submission) (es : List Event) → CanFollow (config_of job) [] es → IsFaithful (job_as job.job) (config_of job) (within (config_of job)) es
    → AllByRecursion IsShort es → AllByRecursion KeepsFew es → AreRepeatable job [] es
