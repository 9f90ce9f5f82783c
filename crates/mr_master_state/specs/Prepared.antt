-- What is prepared before a step is taken: the packets that will be sent, and what will change. Our own: where code
-- and definitions meet.
use Rattle.std.specs.Prelude.{◌≡◌, ◌<◌, ◌≤◌, ℕ, true, None, length, List, [], ◌∷◌, ◌++◌, drop}
use Rattle.std.specs.Map.{lookup}
use Rattle.mr_ids.specs.Attempt.{Attempt}
use Rattle.mr_grant.specs.Attempts.{same_attempt}
use Rattle.mr_task.specs.Calls as task_call
use Rattle.mr_task.specs.Steps.{Task}
use Rattle.mr_packet.specs.declared.packet.Envelope.{Envelope}
use Rattle.mr_master_model.specs.declared.setting.Setting.{Setting}
use Rattle.mr_master_model.specs.declared.store.StoreAnswer.{StoreAnswer}
use Rattle.mr_master_model.specs.Job.{is_task}
use Rattle.mr_master_model.specs.Readings.{Seen, is_running, tell}
use Rattle.mr_master_model.specs.Past.{Step}
use Rattle.mr_master_model.specs.Next.{sent_by, moved}
use Rattle.mr_master_model.specs.Hearing.{with_known, with_launch}
use Rattle.mr_master_model.specs.Answered.{moved_first, flushed}
use Rattle.mr_master_state.specs.declared.change.Change.{Change}
use Rattle.mr_master_state.specs.declared.change.Change.TheVariants as change
use Rattle.mr_master_state.specs.declared.change.Room.{Room}
use Rattle.mr_master_state.specs.declared.change.Room.TheVariants as room
use Rattle.mr_master_tables.specs.Bars.{all_added}
use Rattle.mr_master_tables.specs.Nodes.{KeepsNodes}
use Rattle.mr_master_tasks.specs.Places.{place_of}
use Rattle.mr_master_phase.specs.Taking.{winner_of, after_winner, after_table}
use Rattle.mr_master_state.specs.Taking.{EntersAt, KeepsAfter}
use Rattle.mr_master_tasks.specs.Tasks.{IsTold, IsReplyAt}
use Rattle.mr_master_phase.specs.WorkKinds.{left_of, with_left, others_of, with_others}
use Rattle.mr_commit.specs.Halves.{Fits}
use Rattle.mr_master_state.specs.Told.{with_deaths, with_losses, with_record, due_count, blamed, blame_count}
use Rattle.mr_master_tasks.specs.Told.{call_of}
use Rattle.mr_master_state.specs.State.{Master, Keeps, Reads}
use Rattle.mr_master_phase.specs.Answering.{answered_sends, answered_seen}

pub record Prepared : Type 0 where
  pub packets : List Envelope
  pub change : Change

-- what is seen once it has changed
abbrev pub changed_by : Setting → Seen → Change → Seen
changed_by w s change.Nothing = s
changed_by w s (change.Becomes work) = record s { work = work }
changed_by w s (change.GoesOn following) = record s { work = with_left s.work (following.lines ++ drop 1 (left_of s.work)) }
changed_by w s (change.HasRead records work) = record s { earlier = records; work = work }
changed_by w s (change.EntersOne place machine work) = record s { calls = (after_winner s (winner_of s.work)).calls; work = with_others work (drop 1 (others_of s.work)) }
changed_by w s (change.Enters tasks work) = record s { calls = (after_table w s (winner_of s.work) (is_running work)).calls; work = work }
changed_by w s (change.Dies attempt) = with_deaths w s (attempt ∷ [])
changed_by w s change.Appends = moved_first s s.due
changed_by w s (change.Flushes work) = record (flushed w s) { work = work }
changed_by w s (change.Hears place a) = tell s a.task (task_call.Hears a)
changed_by w s (change.Asks place a machine) = tell s a.task (task_call.Asks a)
changed_by w s (change.Reports place a reply due) = with_record (tell s a.task (task_call.Reports a)) due
changed_by w s (change.Ends place a end blame) = blamed (tell s a.task (call_of end a)) a blame
changed_by w s (change.Loses place a) = tell s a.task (task_call.Loses a)
changed_by w s (change.Knows n incarnation nodes dead lost) = with_known (with_losses w (with_deaths w s dead.items) lost.items) n incarnation
changed_by w s (change.Launches place a machine launch) = with_launch (tell s a.task task_call.Launches) a launch
changed_by w s (change.GivesUp dead lost late) = record (with_losses w (with_deaths w s dead.items) lost.items) { bars = all_added s.bars late.items }

-- ---- what a change rests on

-- the attempt's task is of the job, and its machine is at this place
pub record IsAt (m : Master) (i : ℕ) (a : Attempt) : Type 0 where
  pub within : i < length m.tasks.machines
  pub own : (w : Setting) (s : Seen) → Keeps m w s → is_task w a.task ≡ true
  pub at : (w : Setting) (s : Seen) → Keeps m w s → i ≡ place_of w a.task

-- the same of an attempt that was not launched before: this is its task's machine once it is launched
pub record LaunchesAt (m : Master) (i : ℕ) (a : Attempt) (y : Task) : Type 0 where
  pub at : IsAt m i a
  pub told : IsTold m.tasks.machines i task_call.Launches y
  pub new : lookup (same_attempt a) m.launches.entries ≡ None

-- this is what is known of the nodes once node n is known in incarnation i
abbrev pub KnowsThen : Master → ℕ → ℕ → List (ℕ × ℕ) → Type 0
KnowsThen m n i nodes = (w : Setting) (s : Seen) → Keeps m w s → KeepsNodes nodes (with_known s n i).known

-- lines that fit, what a task answers, and machines of the tasks that stand for what the tasks were told then
abbrev pub IsSound : Master → Change → Type 0
IsSound m (change.GoesOn following) = Fits following.lines (left_of m.work)
IsSound m (change.EntersOne place machine work) = EntersAt m place machine
IsSound m (change.Enters tasks work) = KeepsAfter m (winner_of m.work) (is_running work) tasks
IsSound m (change.Hears place a) = IsAt m place a
IsSound m (change.Asks place a machine) = IsAt m place a × IsTold m.tasks.machines place (task_call.Asks a) machine
IsSound m (change.Reports place a reply due) = IsAt m place a × IsReplyAt m.tasks.machines place a reply
IsSound m (change.Ends place a end blame) = IsAt m place a
IsSound m (change.Loses place a) = IsAt m place a
IsSound m (change.Knows n incarnation nodes dead lost) = KnowsThen m n incarnation nodes
IsSound m (change.Launches place a machine launch) = LaunchesAt m place a machine
IsSound m _ = Unit

-- nothing is sent, and nothing changes
pub record IsNothing (p : Prepared) : Type 0 where
  pub silent : p.packets ≡ []
  pub still : p.change ≡ change.Nothing

-- ---- room

-- for this number of records
pub record HasRecordRoom (m : Master) (n : ℕ) : Type 0 where
  pub due : n ≤ m.writing.room
  pub tail : n ≤ m.writing.tail_room

-- for a launch, and the record of it
pub record HasLaunchRoom (m : Master) : Type 0 where
  pub records : HasRecordRoom m 1
  pub entries : 0 < m.launches.room
  pub killed : 0 < m.launches.killed_room

-- for what a change adds
abbrev pub room_of : Change → Room
room_of (change.Reports place a reply due) = room.Records (due_count due)
room_of (change.Ends place a end blame) = room.Records (blame_count blame)
room_of (change.Launches place a machine launch) = room.Launch a.task launch.node
room_of (change.GivesUp dead lost late) = room.Bars (length late.items)
room_of _ = room.Records 0

abbrev pub HasRoomFor : Master → Room → Type 0
HasRoomFor m (room.Records n) = HasRecordRoom m n
HasRoomFor m (room.Launch t n) = HasLaunchRoom m
HasRoomFor m (room.Bars n) = n ≤ m.bars.room

abbrev pub HasRoom : Master → Change → Type 0
HasRoom m c = HasRoomFor m (room_of c)

abbrev pub IsForBars : Room → Type 0
IsForBars (room.Bars n) = Unit
IsForBars _ = ⊥

-- a node is given up: that wants room for bars alone
abbrev pub IsExpiry : Change → Type 0
IsExpiry c = IsForBars (room_of c)

-- one packet is sent
abbrev pub IsOne : List Envelope → Type 0
IsOne packets = (packet : Envelope) × (packets ≡ packet ∷ [])

-- ---- how the contracts say it

-- The packets are what is sent, and the change makes what is seen then.
pub record Plans (m : Master) (p : Prepared) (sends : Setting → Seen → List Envelope) (after : Setting → Seen → Seen) : Type 0 where
  pub sound : IsSound m p.change
  pub sent : Reads m sends p.packets
  pub seen : (w : Setting) (s : Seen) → Keeps m w s → changed_by w s p.change ≡ after w s

-- what the machine would send and change at this step
abbrev pub PlansFor : Master → Step → Prepared → Type 0
PlansFor m step p = Plans m p (λ w s. sent_by w s step) (λ w s. moved w s step)

-- and there is room for it
abbrev pub IsReadyFor : Master → Step → Prepared → Type 0
IsReadyFor m step p = PlansFor m step p × HasRoom m p.change

abbrev pub IsReadyForStep : Master → Prepared → Type 0
IsReadyForStep m p = (step : Step) × IsReadyFor m step p

-- what it would send and change at an answer, where a call is due
abbrev pub PlansDue : Master → StoreAnswer → Prepared → Type 0
PlansDue m a p = Plans m p (λ w s. answered_sends w s a) (λ w s. answered_seen w s a)
