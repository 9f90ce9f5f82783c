-- What comes of an answer: of a look at a path, and of a committer's call.
-- By this the work of a master goes on, or the master stops.
use Rattle.std.specs.Prelude.{Bool, true, false, Result, Ok, Err}
use Rattle.mr_commit.specs.declared.fault.CommitFault.{CommitFault}
use Rattle.mr_commit.specs.declared.fault.StepDone.{StepDone}
use Rattle.mr_commit.specs.declared.fault.StepDone.TheVariants as done
use Rattle.mr_master_model.specs.Past.{Work, Stops}
use Rattle.mr_master_phase.specs.declared.store.Look.{Look}
use Rattle.mr_master_phase.specs.declared.store.Look.TheVariants as look

-- what is next where something was found, where nothing was, and else
abbrev pub chosen : Look → (there absent : Work) → Work
chosen look.There there absent = there
chosen look.Absent there absent = absent
chosen look.Unclear there absent = Stops

-- calls are left, it was the last one, or a refusal or a fault
pub data Heard : Type 0 where
  More Finished Refused : Heard

abbrev pub heard_as : Result StepDone CommitFault → Heard
heard_as (Ok done.More) = More
heard_as (Ok done.Finished) = Finished
heard_as (Err f) = Refused

abbrev pub has_finished : Heard → Bool
has_finished Finished = true
has_finished _ = false
