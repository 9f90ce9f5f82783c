-- What is read off a master's past, and what it hears. That one of a task's attempts may commit restates Hadoop's `canCommit`; that a lost map
-- runs again, Dean and Ghemawat 3.3. Who is named once that attempt ends, expiry and bars are our own profile.
use Rattle.std.specs.Prelude.{ℕ, suc, Bool, true, false, ◌&&◌, ◌||◌, not, nat_eq, nat_lt, nat_le, List, [], ◌∷◌, ◌++◌, Option, Some, None, if◌then◌else◌, is_some, is_none}
use Rattle.mr_world_model.specs.Ids.{Attempt, ContainerId, Path, TaskId, is_reduce, task_eq, bool_eq, attempt_eq, container_eq}
use Rattle.mr_world_model.specs.Records.{Record, MapSucceeded, ReduceSucceeded, AttemptFailed, JobUnsuccessful}
use Rattle.mr_world_model.specs.Packets.{Config, Packet, Pending, Poll, Done, Failed, Ended, NodeUp, Where, FetchLost}

pub record Launched : Type 0 where
  pub attempt : Attempt
  pub container : ContainerId
  pub node : ℕ
  pub incarnation : ℕ

pub record Ending : Type 0 where
  pub attempt : Attempt
  pub is_failure : Bool

pub record Placed : Type 0 where
  pub attempt : Attempt
  pub node : ℕ
  pub incarnation : ℕ

pub record Todo_winner : Type 0 where
  pub task : TaskId
  pub attempt : Attempt
  pub bytes : Option ℕ

pub data Recover_step : Type 0 where
  Look_below : (j : ℕ) → Recover_step
  Measure : (j : ℕ) → Recover_step
  Clear_own : (j : ℕ) → Recover_step
  Move_from : (j : ℕ) → Recover_step

pub data Merge_step : Type 0 where
  Look_at : (from to : Path) → (from_dir : Bool) → Merge_step
  List_into : (from to : Path) → Merge_step
  Delete_then : (from to : Path) → Merge_step
  Move_to : (from to : Path) → Merge_step

pub data Commit_step : Type 0 where
  List_job : Commit_step
  Merging : (todo : List Merge_step) → Commit_step
  Cleaning Marking Succeeding Failing_mark Aborting : Commit_step

pub data Phase : Type 0 where
  Opening : (looked : ℕ) → Phase
  Setting_up : Phase
  Recovering : (todo : List Todo_winner) → (at : Recover_step) → Phase
  Running : Phase
  Committing : (at : Commit_step) → Phase
  Failing : (flushed : Bool) → Phase
  Finished : (succeeded : Bool) → Phase
  Stopped : Phase

-- what is read off a master's past
pub record Seen : Type 0 where
  pub phase : Phase
  pub winners : List Todo_winner  -- the winners of the earlier generations
  pub launched : List Launched  -- the newest first
  pub asked : List Attempt  -- in the order in which each was first heard to ask
  pub ended : List Ending
  pub accepted : List Attempt
  pub standing : List Placed  -- the maps' successes that were not lost
  pub recorded : List Attempt
  pub killed : List ContainerId
  pub bars : List Attempt  -- the bars that are due, in order
  pub known : ℕ → ℕ
  pub history : List Record  -- what was read of the earlier generations
  pub due : List Record
  pub tail : List Record

abbrev pub has : List Attempt → Attempt → Bool
has [] a = false
has (b ∷ bs) a = attempt_eq a b || has bs a

abbrev pub is_over : List Ending → Attempt → Bool
is_over [] a = false
is_over (e ∷ es) a = attempt_eq a e.attempt || is_over es a

abbrev pub find_launched : List Launched → Attempt → Option Launched
find_launched [] a = None
find_launched (l ∷ ls) a = if attempt_eq a l.attempt then Some l else find_launched ls a

abbrev pub find_container : List Launched → ContainerId → Option Launched
find_container [] c = None
find_container (l ∷ ls) c = if container_eq c l.container then Some l else find_container ls c

abbrev pub has_container : List ContainerId → ContainerId → Bool
has_container [] c = false
has_container (d ∷ ds) c = container_eq c d || has_container ds c

-- the first that asked, of those of reduce t that are not over
unfoldable pub named_in : List Attempt → List Ending → TaskId → Option Attempt
named_in [] es t = None
named_in (a ∷ as') es t = if is_reduce a && (task_eq a.task t && not (is_over es a)) then Some a else named_in as' es t

abbrev pub is_attempt : Option Attempt → Attempt → Bool
is_attempt None a = false
is_attempt (Some b) a = attempt_eq a b

abbrev pub is_named : Seen → Attempt → Bool
is_named s a = is_reduce a && is_attempt (named_in s.asked s.ended a.task) a

abbrev pub stands : List Placed → ℕ → Option Placed
stands [] m = None
stands (p ∷ ps) m = if nat_eq p.attempt.task.number m then Some p else stands ps m

abbrev pub accepts_task : List Attempt → TaskId → Bool
accepts_task [] t = false
accepts_task (a ∷ as') t = (is_reduce a && task_eq a.task t) || accepts_task as' t

abbrev pub has_winner : List Todo_winner → TaskId → Bool
has_winner [] t = false
has_winner (w ∷ ws) t = task_eq w.task t || has_winner ws t

-- the task has an attempt that is recorded or about to be
abbrev pub is_won : Seen → Bool → TaskId → Bool
is_won s true t = accepts_task s.accepted t || has_winner s.winners t
is_won s false t = is_some (stands s.standing t.number)

abbrev pub may_accept : Seen → Attempt → Bool
may_accept s a =
    is_some (find_launched s.launched a) && (not (has s.accepted a) &&
    (if is_reduce a then is_named s a else (not (is_over s.ended a) && is_none (stands s.standing a.task.number))))

abbrev pub is_live : Seen → Attempt → Bool
is_live s a = is_some (find_launched s.launched a) && (not (has s.accepted a) && not (is_over s.ended a))

abbrev pub failures : List Ending → Attempt → ℕ
failures [] a = 0
failures (e ∷ es) a =
    if e.is_failure && task_eq e.attempt.task a.task
    then suc (failures es a) else failures es a

abbrev pub success_record : Attempt → Option ℕ → Option Launched → Record
success_record a bytes None = AttemptFailed a
success_record a bytes (Some l) = if is_reduce a then ReduceSucceeded a bytes else MapSucceeded a l.node l.incarnation

abbrev pub placed : Attempt → Option Launched → List Placed
placed a None = []
placed a (Some l) = if is_reduce a then [] else record { attempt = a; node = l.node; incarnation = l.incarnation } ∷ []

abbrev pub over_with : Seen → Attempt → Bool → List Ending
over_with s a is_failure = record { attempt = a; is_failure = is_failure } ∷ s.ended

-- a bar was answered
abbrev pub container_of : Option Launched → List ContainerId
container_of None = []
container_of (Some l) = l.container ∷ []

abbrev pub after_bar : Seen → Option Attempt → Seen
after_bar s None = s
after_bar s (Some a) =
    if is_live s a
    then record s { ended = over_with s a false; killed = container_of (find_launched s.launched a) ++ s.killed }
    else s

-- after a live attempt came to its end
abbrev pub ended_by : Config → Seen → Attempt → Bool → Seen
ended_by cfg s a false = record s { ended = over_with s a false }
ended_by cfg s a true =
    if nat_le cfg.limit (failures (over_with s a true) a) && not (is_won s (is_reduce a) a.task)
    then record s { ended = over_with s a true; due = s.due ++ AttemptFailed a ∷ JobUnsuccessful ∷ []; phase = Failing false }
    else record s { ended = over_with s a true; due = s.due ++ AttemptFailed a ∷ [] }

abbrev pub after_end : Config → Seen → Attempt → Bool → Seen
after_end cfg s a is_failure = if is_live s a then ended_by cfg s a is_failure else s

abbrev pub end_there : ℕ → ℕ → List Launched → Seen → Seen
end_there n i [] s = s
end_there n i (l ∷ ls) s =
    if nat_eq l.node n && (nat_lt l.incarnation i && is_live s l.attempt)
    then end_there n i ls (record s { ended = record { attempt = l.attempt; is_failure = false } ∷ s.ended })
    else end_there n i ls s

-- a node's new incarnation loses the maps that are recorded there
abbrev pub still_there : List Attempt → ℕ → ℕ → List Placed → List Placed
still_there rs n i [] = []
still_there rs n i (p ∷ ps) = if has rs p.attempt && (nat_eq p.node n && nat_lt p.incarnation i) then still_there rs n i ps else p ∷ still_there rs n i ps

abbrev pub know : (ℕ → ℕ) → ℕ → ℕ → ℕ → ℕ
know f n i m = if nat_eq m n then i else f m

abbrev pub without_placed : List Placed → Attempt → List Placed
without_placed [] a = []
without_placed (p ∷ ps) a = if attempt_eq a p.attempt then without_placed ps a else p ∷ without_placed ps a

abbrev pub after_ask : Seen → Attempt → Seen
after_ask s a =
    if is_some (find_launched s.launched a) && not (has s.asked a) then record s { asked = s.asked ++ a ∷ [] } else s

abbrev pub after_ended : Config → Seen → ContainerId → Option Launched → Seen
after_ended cfg s c None = s
after_ended cfg s c (Some l) = after_end cfg s l.attempt (not (has_container s.killed c))

-- a packet that is heard while Running
unfoldable pub heard : Config → Seen → Packet → Seen
heard cfg s (Pending a) = after_ask s a
heard cfg s (Poll a) = after_ask s a
heard cfg s (Done a bytes) =
    if may_accept s a
    then record s { accepted = a ∷ s.accepted; standing = placed a (find_launched s.launched a) ++ s.standing; due = s.due ++ success_record a bytes (find_launched s.launched a) ∷ [] }
    else s
heard cfg s (Failed a) = after_end cfg s a true
heard cfg s (Ended c) = after_ended cfg s c (find_container s.launched c)
heard cfg s (NodeUp n i) =
    if nat_lt (s.known n) i
    then end_there n i s.launched (record s { known = know s.known n i; standing = still_there s.recorded n i s.standing })
    else s
heard cfg s (Where c m) = s
heard cfg s (FetchLost c a) = if is_some (find_container s.launched c) && has s.recorded a then record s { standing = without_placed s.standing a } else s
heard cfg s _ = s

-- An expiry

-- l's task comes before m's: maps before reduces, by number
abbrev pub task_before : Attempt → Attempt → Bool
task_before a b = (not (is_reduce a) && (is_reduce b)) || (bool_eq (is_reduce a) (is_reduce b) && nat_lt a.task.number b.task.number)

abbrev pub in_place : Launched → List Launched → List Launched
in_place l [] = l ∷ []
in_place l (m ∷ ms) = if task_before l.attempt m.attempt then l ∷ m ∷ ms else m ∷ in_place l ms

-- launches, given the newest first, by maps, then reduces, by task, then by arrival
abbrev pub in_task_order : List Launched → List Launched
in_task_order [] = []
in_task_order (l ∷ ls) = in_place l (in_task_order ls)

-- the live attempts of maps, or of reduces, that were launched on a node, the newest first
abbrev pub live_on : Seen → Bool → ℕ → List Launched → List Launched
live_on s r n [] = []
live_on s r n (l ∷ ls) = if nat_eq l.node n && (bool_eq (is_reduce l.attempt) r && is_live s l.attempt) then l ∷ live_on s r n ls else live_on s r n ls

abbrev pub lose_there : List Attempt → ℕ → List Placed → List Placed
lose_there rs n [] = []
lose_there rs n (p ∷ ps) = if has rs p.attempt && nat_eq p.node n then lose_there rs n ps else p ∷ lose_there rs n ps

-- each attempt has one bar due
abbrev pub more_bars : List Attempt → List Launched → List Attempt
more_bars bs [] = bs
more_bars bs (l ∷ ls) = more_bars (if has bs l.attempt then bs else bs ++ l.attempt ∷ []) ls

abbrev pub containers_of : List Launched → List ContainerId
containers_of [] = []
containers_of (l ∷ ls) = l.container ∷ containers_of ls

-- the live maps launched on a node are over
abbrev pub end_maps : ℕ → List Launched → Seen → Seen
end_maps n [] s = s
end_maps n (l ∷ ls) s =
    if nat_eq l.node n && (not (is_reduce l.attempt) && is_live s l.attempt)
    then end_maps n ls (record s { ended = over_with s l.attempt false })
    else end_maps n ls s

-- a node is given up: its maps are killed or lost, and its live reduces are to be barred
unfoldable pub expired : ℕ → Seen → Seen
expired n s = end_maps n s.launched (record s {
  standing = lose_there s.recorded n s.standing;
  killed = containers_of (live_on s false n s.launched) ++ s.killed;
  bars = more_bars s.bars (in_task_order (live_on s true n s.launched));
})

-- a master that has ended, or stopped, hears without effect
abbrev pub can_hear : Phase → Bool
can_hear (Finished b) = false
can_hear Stopped = false
can_hear _ = true

-- a packet that comes while not Running
abbrev pub only_known : Seen → Packet → Seen
only_known s (NodeUp n i) = if can_hear s.phase && nat_lt (s.known n) i then record s { known = know s.known n i } else s
only_known s _ = s

abbrev pub is_running : Phase → Bool
is_running Running = true
is_running _ = false
