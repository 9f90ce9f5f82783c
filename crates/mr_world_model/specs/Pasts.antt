-- The pasts of containers and nodes, and what is read off them. A past is a list, the newest first. The order of a reduce's calls is that of
-- Hadoop's OutputCommitter: setupTask (no call), needsTaskCommit, canCommit, commitTask, abortTask; pieces, nodes' memory and shelves are our own profile.
use Rattle.std.specs.Prelude.{ℕ, suc, Bool, true, false, ◌&&◌, ◌||◌, nat_eq, List, [], ◌∷◌, ◌++◌, Option, Some, None, if◌then◌else◌, length}
use Rattle.mr_container.specs.declared.wish.Wish as container_wish
use Rattle.mr_container.specs.declared.wish.Wish.TheVariants as wished
use Rattle.mr_container.specs.Readings as container
pub use Rattle.mr_container.specs.declared.place.Place.{Place}
pub use Rattle.mr_container.specs.Past.{Step, Hears as Got, Sends as Sent, Computes as Computed, Calls as Called}
pub use Rattle.mr_node.specs.Past.{Step as Node_step, Hears as Node_got, Shelves as Shelved, Ends as Gone, Restarts as Restarted}
use Rattle.mr_world_model.specs.Ids.{Attempt, ContainerId, Path, is_reduce, attempt_eq, container_eq, task_attempt, committed, part_name}
use Rattle.mr_world_model.specs.Content.{Op, MkDirs, Create, Append, Close, Delete, Rename, Exist}
use Rattle.mr_world_model.specs.Packets.{Packet, Launch, Kill, Fetch, Pending, Poll, Done, Failed, Where, FetchLost, Master, Node, Envelope}

-- Containers

pub data Wish : Type 0 where
  To_ask_where : (map : ℕ) → Wish
  To_fetch : (map : ℕ) → (a : Attempt) → (node incarnation : ℕ) → (got : List ℕ) → Wish  -- got: what was got of the block so far
  To_say_lost : (map : ℕ) → (a : Attempt) → Wish
  To_compute To_mkdirs To_create To_write To_close To_need To_pend To_poll To_look To_clear To_rename To_report To_abort To_fail Over : Wish

-- what mr_container reads, as one value: the wish, with the map that it is about (the first of which there is no block) and what was got of its block
abbrev pub as_wish : container.Pieces → container_wish.Wish → Wish
as_wish p (wished.Where m) = To_ask_where m
as_wish p (wished.Fetch a n i) = To_fetch (length p.blocks) a n i p.got
as_wish p (wished.Lost a) = To_say_lost (length p.blocks) a
as_wish p wished.Compute = To_compute
as_wish p wished.Mkdirs = To_mkdirs
as_wish p wished.Create = To_create
as_wish p wished.Write = To_write
as_wish p wished.Close = To_close
as_wish p wished.Needs = To_need
as_wish p wished.Pending = To_pend
as_wish p wished.Poll = To_poll
as_wish p wished.Look = To_look
as_wish p wished.Clear = To_clear
as_wish p wished.Rename = To_rename
as_wish p wished.Report = To_report
as_wish p wished.Abort = To_abort
as_wish p wished.Failed = To_fail
as_wish p wished.Over = Over

abbrev pub wish_of_seen : container.Seen → Wish
wish_of_seen s = as_wish s.pieces s.wish

unfoldable pub wish : ℕ → Attempt → List Step → Wish
wish maps x h = wish_of_seen (container.seen maps x h)

-- the fetched pieces: of each map all that was got of it, joined, in the order of the maps
unfoldable pub fetched : ℕ → Attempt → List Step → List (List ℕ)
fetched maps x h = (container.seen maps x h).pieces.blocks

-- the bytes that were handed in
unfoldable pub computed : List Step → List ℕ
computed [] = []
computed (Computed bytes ∷ h) = bytes
computed (Got p ∷ h) = computed h
computed (Sent p ∷ h) = computed h
computed (Called op r ∷ h) = computed h

unfoldable pub was_computed : List Step → Bool
was_computed [] = false
was_computed (Computed bytes ∷ h) = true
was_computed (Got p ∷ h) = was_computed h
was_computed (Sent p ∷ h) = was_computed h
was_computed (Called op r ∷ h) = was_computed h

abbrev pub part_at : ℕ → Attempt → Path
part_at k a = task_attempt k a ++ part_name a.task ∷ []

-- the store call of a wish
unfoldable pub wished_op : ℕ → Attempt → List ℕ → Wish → Option Op
wished_op k a bytes To_mkdirs = Some (MkDirs (task_attempt k a))
wished_op k a bytes To_create = Some (Create (part_at k a) false)
wished_op k a bytes To_write = Some (Append (part_at k a) bytes)
wished_op k a bytes To_close = Some (Close (part_at k a))
wished_op k a bytes To_need = Some (Exist (task_attempt k a))
wished_op k a bytes To_look = Some (Exist (task_attempt k a))
wished_op k a bytes To_clear = Some (Delete (committed k a.task))
wished_op k a bytes To_rename = Some (Rename (task_attempt k a) (committed k a.task))
wished_op k a bytes To_abort = Some (Delete (task_attempt k a))
wished_op k a bytes _ = None

-- a reduce reports the length of its part file
abbrev pub part_length : Attempt → List ℕ → Option ℕ
part_length a bytes = if is_reduce a then Some (length bytes) else None

abbrev pub to_master : ℕ → Packet → Option Envelope
to_master k p = Some (record { to = Master k; body = p })

-- the packet of a wish
unfoldable pub wished_packet : ContainerId → Attempt → List ℕ → Wish → Option Envelope
wished_packet c a bytes (To_ask_where m) = to_master c.app (Where c m)
wished_packet c a bytes (To_fetch m b n i got) = Some (record { to = Node n; body = Fetch c b a.task.number i (length got) })
wished_packet c a bytes (To_say_lost m b) = to_master c.app (FetchLost c b)
wished_packet c a bytes To_pend = to_master c.app (Pending a)
wished_packet c a bytes To_poll = to_master c.app (Poll a)
wished_packet c a bytes To_report = to_master c.app (Done a (part_length a bytes))
wished_packet c a bytes To_fail = to_master c.app (Failed a)
wished_packet c a bytes _ = None

-- Nodes

unfoldable pub incarnation_of : List Node_step → ℕ
incarnation_of [] = 1
incarnation_of (Restarted ∷ h) = suc (incarnation_of h)
incarnation_of (Node_got p ∷ h) = incarnation_of h
incarnation_of (Shelved a bytes ∷ h) = incarnation_of h
incarnation_of (Gone c ∷ h) = incarnation_of h

abbrev pub remembers : ℕ → ContainerId → Packet → Bool
remembers i c (Launch d a j) = container_eq c d && nat_eq i j
remembers i c (Kill d) = container_eq c d
remembers i c _ = false

-- a node remembers what it launched and what it was asked to kill
unfoldable pub is_known : List Node_step → ContainerId → Bool
is_known [] c = false
is_known (Node_got p ∷ h) c = remembers (incarnation_of h) c p || is_known h c
is_known (Restarted ∷ h) c = is_known h c
is_known (Shelved a bytes ∷ h) c = is_known h c
is_known (Gone d ∷ h) c = is_known h c

unfoldable pub on_shelf : List Node_step → Attempt → Option (List ℕ)
on_shelf [] a = None
on_shelf (Restarted ∷ h) a = None
on_shelf (Shelved b bytes ∷ h) a = if attempt_eq a b then Some bytes else on_shelf h a
on_shelf (Node_got p ∷ h) a = on_shelf h a
on_shelf (Gone d ∷ h) a = on_shelf h a
