-- The table of one task attempt: what each event does in each state. The states are those of Hadoop's task attempt in the application
-- master, as far as permission to commit needs them (`COMMIT_PENDING` waits for the answer of `canCommit`). Our own profile is that a
-- success is known only once it is recorded (`Recording`), and which pairs are ignored.
use Rattle.std.specs.Prelude.{Bool, true, false, List, [], ◌∷◌, Option, Some, None, unwrap_or}
use Rattle.mr_ids.specs.declared.id.TaskKind.{TaskKind}
use Rattle.mr_ids.specs.declared.id.TaskKind.TheVariants.{Map, Reduce}
use Rattle.mr_attempt.specs.declared.state.AttemptState.{AttemptState}
use Rattle.mr_attempt.specs.declared.state.AttemptState.TheVariants.{New, Assigned, Running, CommitPending, Recording, Succeeded, Failed, Killed}
use Rattle.mr_attempt.specs.declared.state.AttemptEvent.{AttemptEvent}
use Rattle.mr_attempt.specs.declared.state.AttemptEvent.TheVariants.{Launch, Heard, Pending, Done, Fail, Kill, Recorded, Lost}

-- a map's output is lost with its node, and the attempt counts as killed; a reduce's output is not on its node
abbrev pub next_when_lost : TaskKind → Option AttemptState
next_when_lost Map = Some Killed
next_when_lost Reduce = None

-- the next state, or none where the event is ignored
abbrev pub next : TaskKind → AttemptState → AttemptEvent → Option AttemptState
next kind New Launch = Some Assigned
next kind Assigned Heard = Some Running
next kind Assigned Pending = Some CommitPending
next kind Assigned Done = Some Recording
next kind Assigned Fail = Some Failed
next kind Assigned Kill = Some Killed
next kind Running Pending = Some CommitPending
next kind Running Done = Some Recording
next kind Running Fail = Some Failed
next kind Running Kill = Some Killed
next kind CommitPending Done = Some Recording
next kind CommitPending Fail = Some Failed
next kind CommitPending Kill = Some Killed
next kind Recording Recorded = Some Succeeded
next kind Succeeded Lost = next_when_lost kind
next kind state event = None

-- the state after an event
abbrev pub after : TaskKind → AttemptState → AttemptEvent → AttemptState
after kind state event = unwrap_or (next kind state event) state

-- the state after the events that a new attempt got, the newest first
abbrev pub state_after : TaskKind → List AttemptEvent → AttemptState
state_after kind [] = New
state_after kind (event ∷ events) = after kind (state_after kind events) event

-- launched, and neither over nor done
abbrev pub is_live : AttemptState → Bool
is_live Assigned = true
is_live Running = true
is_live CommitPending = true
is_live _ = false

-- its `Done` was accepted, and its output is not lost
abbrev pub is_won : AttemptState → Bool
is_won Recording = true
is_won Succeeded = true
is_won _ = false

-- over without an output that counts
abbrev pub is_over : AttemptState → Bool
is_over Failed = true
is_over Killed = true
is_over _ = false
