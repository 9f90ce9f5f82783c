-- Whatever a script does, it is faithful: what it hands in is what the job's definition gives. So where the success marker is printed, the files that are printed are those of the
-- sequential execution, as `seq` prints them. The sequential execution is Dean and Ghemawat's (3.3); scripts are our own.
use Rattle.std.specs.Prelude.{◌≡◌, ℕ, Bool, true, List, ◌++◌, Option, Some}
use Rattle.mr_script.specs.declared.command.Command.{Command}
use Rattle.mr_script.specs.Script.{AreCommands}
use Rattle.mr_world_model.specs.Packets.{Config}
use Rattle.mr_world_model.specs.Claims.{Limits, IsMarked}
use Rattle.mr_world_model.specs.Sequential.{IsFaithful}
use Rattle.mr_world.specs.Limits.{within}
use Rattle.mr_sim_commands.specs.declared.job.submission.Submission.{Submission}
use Rattle.mr_sim_commands.specs.seq.Text.{PrintsSeq, RefusesSeq}
use Rattle.mr_play.specs.Played.{Played}
use Rattle.mr_play.specs.Text.{PrintsPlay, printed_world, job_as, config_of, played_of, job_line}
use Rattle.mr_play.specs.WorldText.{line_of_marker, line_of_outcome}

-- the events of each played script are faithful: a script has no words for bytes
abbrev pub ScriptsAreFaithful : Type 0
ScriptsAreFaithful = (within : Config → Limits) (job : Submission) (n : ℕ) (lines : List (List ℕ)) (cs : List (ℕ × Command)) (left : Played) →
    AreCommands job.id n lines cs → played_of within job cs ≡ Some left → IsFaithful (job_as job.job) (config_of job) (within (config_of job)) left.events

-- what `play` prints where the marker is: lines of refused events, of unmet expectations and of winners, `marker yes`, the line of the outcome, and behind them these files
pub record IsMarkedText (text files : List ℕ) : Type 0 where
  pub before : List ℕ
  pub told : Option Bool
  pub is : text ≡ before ++ (line_of_marker true ++ (line_of_outcome told ++ files))

-- the files behind it are what `seq` prints for the same job text
pub record ShowsFilesOfSeq (input text : List ℕ) : Type 0 where
  pub files : List ℕ
  pub prints : PrintsSeq (job_line input) files
  pub is : IsMarkedText text files

-- So it is of whatever text `play` prints of a cluster where the marker is.
abbrev pub MarkedShowsSeq : List ℕ → Type 0
MarkedShowsSeq input = (text : List ℕ) (p : PrintsPlay within input text) → IsMarked (printed_world within input text p) → ShowsFilesOfSeq input text

-- where `seq` refuses the job text, no script leads to the marker
abbrev pub RefusedIsNeverMarked : List ℕ → Type 0
RefusedIsNeverMarked input = RefusesSeq (job_line input) → (text : List ℕ) (p : PrintsPlay within input text) → IsMarked (printed_world within input text p) → ⊥
