-- What a container calls or sends for each of its wishes.
-- The calls are those that FileOutputCommitter, algorithm version 1, makes for needsTaskCommit, commitTask and abortTask. The packets restate
-- Hadoop's task umbilical protocol. The part file's own calls are our own profile.
use Rattle.std.specs.Prelude.{ℕ, ◌-◌, ◌^◌, false, nat_lt, List, [], ◌∷◌, ◌++◌, Option, Some, None, if◌then◌else◌, length}
use Rattle.mr_ids.specs.Attempt.{Attempt}
use Rattle.mr_ids.specs.declared.id.TaskKind.{TaskKind}
use Rattle.mr_ids.specs.declared.id.TaskKind.TheVariants.{Map, Reduce}
use Rattle.mr_paths.specs.Layout.{task_attempt, committed, part}
use Rattle.mr_names.specs.declared.op.Caller.{Caller}
use Rattle.mr_names.specs.declared.op.Op.{Op}
use Rattle.mr_names.specs.declared.op.Op.TheVariants as op
use Rattle.mr_packet.specs.declared.packet.ContainerId.{ContainerId}
use Rattle.mr_packet.specs.declared.packet.Packet.TheVariants as packet
use Rattle.mr_packet.specs.declared.packet.Envelope.{Envelope}
use Rattle.mr_packet.specs.Sends.{to_master, to_node, ended}
use Rattle.mr_container.specs.declared.wish.Wish.{Wish}
use Rattle.mr_container.specs.declared.wish.Wish.TheVariants as wish
use Rattle.mr_container.specs.Readings.{Seen, wish_sent}

-- a reduce's container calls for its attempt, a map's for none
abbrev pub calling_attempt : TaskKind → Attempt → Option Attempt
calling_attempt Map x = None
calling_attempt Reduce x = Some x

-- who calls: the generation of the master that launched the container, and a reduce's attempt
abbrev pub caller_of : ContainerId → Attempt → Caller
caller_of c x = record { app = c.app; attempt = calling_attempt x.task.kind x }

-- the file that attempt x writes
abbrev pub part_path : List (List ℕ) → ℕ → Attempt → List (List ℕ)
part_path dest k x = task_attempt dest k x ++ part x.task.number ∷ []

-- the call of a wish, of a container of generation k for attempt x
unfoldable pub wished_op : List (List ℕ) → ℕ → Attempt → List ℕ → Wish → Option Op
wished_op dest k x result wish.Mkdirs = Some (op.Mkdirs (task_attempt dest k x))
wished_op dest k x result wish.Create = Some (op.Create (part_path dest k x) false)
wished_op dest k x result wish.Write = Some (op.Append (part_path dest k x) result)
wished_op dest k x result wish.Close = Some (op.Close (part_path dest k x))
wished_op dest k x result wish.Needs = Some (op.Exists (task_attempt dest k x))
wished_op dest k x result wish.Look = Some (op.Exists (task_attempt dest k x))
wished_op dest k x result wish.Clear = Some (op.Delete (committed dest k x.task))
wished_op dest k x result wish.Rename = Some (op.Rename (task_attempt dest k x) (committed dest k x.task))
wished_op dest k x result wish.Abort = Some (op.Delete (task_attempt dest k x))
wished_op dest k x result _ = None

-- a length as a packet tells it
unfoldable pub told_length : ℕ → ℕ
told_length n = if nat_lt n (2 ^ 32) then n else 2 ^ 32 - 1

-- a reduce reports the length of its part file
abbrev pub reported : TaskKind → List ℕ → Option ℕ
reported Map result = None
reported Reduce result = Some (told_length (length result))

-- the packet of a wish
unfoldable pub wished_packet : ContainerId → Attempt → Seen → Wish → Option Envelope
wished_packet c x s (wish.Where m) = Some (to_master c.app (packet.Where c m))
wished_packet c x s (wish.Fetch a n i) = Some (to_node n (packet.Fetch c a x.task.number i (length s.pieces.got)))
wished_packet c x s (wish.Lost a) = Some (to_master c.app (packet.FetchLost c a))
wished_packet c x s wish.Pending = Some (to_master c.app (packet.Pending x))
wished_packet c x s wish.Poll = Some (to_master c.app (packet.Poll x))
wished_packet c x s wish.Report = Some (to_master c.app (packet.Done x (reported x.task.kind s.result)))
wished_packet c x s wish.Failed = Some (to_master c.app (packet.Failed x))
wished_packet c x s _ = None

-- ---- what goes into the bag

-- a container that came to its end tells its master
abbrev pub end_of : ContainerId → Wish → List Envelope
end_of c wish.Over = ended c ∷ []
end_of c _ = []

abbrev pub sent_and_ended : ContainerId → Wish → Option Envelope → List Envelope
sent_and_ended c after None = []
sent_and_ended c after (Some e) = e ∷ end_of c after

-- what a step adds in which it sends a packet: the packet, and if that was its last, that it ended
abbrev pub step_packets : ℕ → ContainerId → Attempt → Seen → List Envelope
step_packets maps c x s = sent_and_ended c (wish_sent maps s.pieces.blocks s.wish) (wished_packet c x s s.wish)
