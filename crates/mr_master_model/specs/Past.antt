-- What a master's past is made of, and where it has come to. A past is a list of steps, the newest first.
-- Our own: an actor has no other state than what came to it and what it did. The phases are those of a job in Hadoop's application master, as
-- far as a commit needs them.
use Rattle.std.specs.Prelude.{ℕ, Bool, List}
use Rattle.mr_ids.specs.declared.id.TaskId.{TaskId}
use Rattle.mr_packet.specs.declared.packet.Packet.{Packet}
use Rattle.mr_commit.specs.Line.{Line}
use Rattle.mr_recover.specs.declared.winner.TaskWinner.{TaskWinner}
use Rattle.mr_master_model.specs.declared.phase.Phase.{Phase}
use Rattle.mr_master_model.specs.declared.phase.Phase.TheVariants as phase
use Rattle.mr_master_model.specs.declared.store.StoreAnswer.{StoreAnswer}

pub data Step : Type 0 where
  -- a packet was delivered
  Hears : (packet : Packet) → Step
  -- an attempt at task t was launched on node n: which one, and in which container, follows from the steps before
  Launches : (t : TaskId) → (n : ℕ) → Step
  -- node n was given up
  Expires : (n : ℕ) → Step
  -- the store call that was due was answered: which call it was follows from the steps before
  Answered : (answer : StoreAnswer) → Step

-- What a master is at. Where the calls are those of a committer's table, it is at the lines that are left of it.
pub data Work : Type 0 where
  -- Opening: it looks for COMMIT_SUCCESS, for COMMIT_FAIL, for COMMIT_STARTED, and reads
  LooksForSuccess LooksForFail LooksForStarted Reads : Work
  -- Recovering: it sets the job up; it takes over a reduce, and then the others
  SetsUp : (left : List Line) → Work
  TakesOver : (winner : TaskWinner) → (left : List Line) → (others : List TaskWinner) → Work
  Runs : Work
  -- Committing: it commits the job, and then creates COMMIT_SUCCESS
  CommitsJob : (left : List Line) → Work
  TellsSuccess : Work
  -- Committing, after a refusal or fault: it creates COMMIT_FAIL, and then aborts the job
  TellsFail AbortsCommit : Work
  -- Failing, with whether a JobUnsuccessful is stable
  Fails : (is_stable : Bool) → Work
  Ends : (succeeded : Bool) → Work
  Stops : Work

abbrev pub phase_of : Work → Phase
phase_of LooksForSuccess = phase.Opening
phase_of LooksForFail = phase.Opening
phase_of LooksForStarted = phase.Opening
phase_of Reads = phase.Opening
phase_of (SetsUp left) = phase.Recovering
phase_of (TakesOver winner left others) = phase.Recovering
phase_of Runs = phase.Running
phase_of (CommitsJob left) = phase.Committing
phase_of TellsSuccess = phase.Committing
phase_of TellsFail = phase.Committing
phase_of AbortsCommit = phase.Committing
phase_of (Fails is_stable) = phase.Failing
phase_of (Ends succeeded) = phase.Ended
phase_of Stops = phase.Stopped
