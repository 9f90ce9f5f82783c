-- Which reduces a goal of `explore` names, and which attempts as their winners, and whether the job can have them: our own.
use Rattle.std.specs.Prelude.{◌≡◌, ℕ, Bool, true, false, ◌&&◌, nat_lt, List, Option, Some, None, Ok}
use Rattle.std.specs.List.{list_all}
use Rattle.mr_ids.specs.Attempt.{Attempt}
use Rattle.mr_ids.specs.Same.{same_task}
use Rattle.mr_ids.specs.declared.id.JobId.{JobId}
use Rattle.mr_ids.specs.declared.id.TaskKind.TheVariants.{Reduce}
use Rattle.mr_script.specs.declared.expectation.Expectation.{Expectation}
use Rattle.mr_script.specs.declared.expectation.Expectation.TheVariants.{Winner, Marker, Outcome}
use Rattle.mr_sim_commands.specs.declared.fault.SimFault.{SimFault}
use Rattle.mr_sim_commands.specs.declared.fault.SimFault.TheVariants.{BadCommand, Full, Job, JournalMismatch, NoMemory, Refused}
use Rattle.mr_sim_commands.specs.declared.job.submission.Submission.{Submission}
use Rattle.mr_sim_commands.specs.job.Text.{submission_of}
use Rattle.mr_trace.specs.mr_play.specs.Text.{IsBadPlayJob, IsBadPlayLine, job_line}
use Rattle.mr_explore.specs.declared.asked.Asked.{Asked}
use Rattle.mr_explore.specs.Explored.{ExploredFails, IsFullExplored, PrintsExplored, goal_of}
use Rattle.mr_explore_merged.specs.declared.question.Question.{Question}
use Rattle.mr_explore_merged.specs.Merged.{IsFullMerged, MergedFails, PrintsMerged, sought}

-- the attempt is one of this reduce of the job, if one is named
abbrev pub may_win : JobId → ℕ → Option Attempt → Bool
may_win job r None = true
may_win job r (Some a) = same_task a.task (record { job = job; kind = Reduce; number = r })

-- a job with this many reduces has the reduce that the line names, and the attempt is one of it
abbrev pub can_be : JobId → ℕ → Expectation → Bool
can_be job reduces (Winner r won) = nat_lt r reduces && may_win job r won
can_be job reduces (Marker there) = true
can_be job reduces (Outcome told) = true

-- so it is of each line of the goal
abbrev pub can_meet : JobId → ℕ → Option (List Expectation) → Bool
can_meet job reduces None = true
can_meet job reduces (Some goal) = list_all (can_be job reduces) goal

-- the job text of an input says a job; and whether that has each reduce that the goal names, and each attempt is one of it
pub record Names (goal : Option (List Expectation)) (input : List ℕ) (all : Bool) : Type 0 where
  pub job : Submission
  pub said : submission_of (job_line input) ≡ Ok job
  pub are : can_meet job.id job.reduces goal ≡ all

-- what `explore` prints of an input whose job can have each winner that the goal names
abbrev pub PrintsSought : Asked → List ℕ → List ℕ → Type 0
PrintsSought asked input text = Names (goal_of asked) input true × PrintsExplored asked input text

-- why a goal is not sought: the job text has a bad key; or the goal names a reduce that the job does not have, or an attempt of another task
abbrev pub GoalFails : Option (List Expectation) → List ℕ → SimFault → Type 0
GoalFails goal input NoMemory = Unit {0}
GoalFails goal input (Job e) = IsBadPlayJob input e
GoalFails goal input Refused = Names goal input false
GoalFails goal input f = ⊥

-- Why it prints nothing. After the job text the goal is looked at: it names a reduce that the job does not have, or an attempt of another task. A fault of the
-- script or of a run is told only where it names none such.
abbrev pub SoughtFails : Asked → List ℕ → SimFault → Type 0
SoughtFails asked input Refused = Names (goal_of asked) input false
SoughtFails asked input (BadCommand n) = Names (goal_of asked) input true × IsBadPlayLine input n
SoughtFails asked input Full = Names (goal_of asked) input true × IsFullExplored asked input
SoughtFails asked input JournalMismatch = Names (goal_of asked) input true
SoughtFails asked input f = ExploredFails asked input f

-- the same of `explore --merge`
abbrev pub PrintsMergedSought : Question → List ℕ → List ℕ → Type 0
PrintsMergedSought asked input text = Names (sought asked) input true × PrintsMerged asked input text

abbrev pub MergedSoughtFails : Question → List ℕ → SimFault → Type 0
MergedSoughtFails asked input Refused = Names (sought asked) input false
MergedSoughtFails asked input (BadCommand n) = Names (sought asked) input true × IsBadPlayLine input n
MergedSoughtFails asked input Full = Names (sought asked) input true × IsFullMerged asked.faults input
MergedSoughtFails asked input JournalMismatch = Names (sought asked) input true
MergedSoughtFails asked input f = MergedFails asked.faults input f
