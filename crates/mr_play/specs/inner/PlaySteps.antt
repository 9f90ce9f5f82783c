-- What the steps of `play` promise.
use Rattle.std.specs.Prelude.{◌≡◌, ℕ, List, Some}
use Rattle.mr_ids.specs.declared.id.JobId.{JobId}
use Rattle.mr_script.specs.declared.command.Command.{Command}
use Rattle.mr_script.specs.Lines.{lines_of}
use Rattle.mr_script.specs.Script.{IsFirstBad}
use Rattle.mr_world.specs.Limits.{within}
use Rattle.mr_sim_commands.specs.declared.fault.SimFault.{SimFault}
use Rattle.mr_sim_commands.specs.declared.fault.SimFault.TheVariants as fault
use Rattle.mr_play.specs.declared.player.Player.{Player}
use Rattle.mr_sim_commands.specs.declared.job.submission.Submission.{Submission}
use Rattle.mr_play.specs.Text.{config_of, played_of, stretches_of}
use Rattle.mr_play.specs.Players.{state_in}

-- a script is not read: its first bad line, where line 2 of the input is its first, or an allocation failure
abbrev pub IsUnread : JobId → List ℕ → SimFault → Type 0
IsUnread job script (fault.BadCommand n) = IsFirstBad job 2 (lines_of script) n
IsUnread job script fault.NoMemory = Unit {0}
IsUnread job script _ = ⊥

-- a player of a job has played these commands
pub record HasPlayed (job : Submission) (commands : List (ℕ × Command)) (p : Player) : Type 0 where
  pub kind : p.job ≡ job.job
  pub config : p.world.config ≡ config_of job
  pub comes : played_of within job commands ≡ Some (state_in p)
  pub noted : stretches_of within job commands ≡ p.stretches.items
