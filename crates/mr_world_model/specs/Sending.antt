-- The packets that an event sends (our own profile).
use Rattle.std.specs.Prelude.{ℕ, zero, suc, Bool, true, false, ◌&&◌, ◌||◌, not, nat_eq, nat_le, List, [], ◌∷◌, ◌++◌, Option, Some, None, if◌then◌else◌, length, slice_get, take, drop}
use Rattle.mr_world_model.specs.Ids.{Attempt, ContainerId}
use Rattle.mr_world_model.specs.Content.{Op, bar_of}
use Rattle.mr_world_model.specs.Records.{Record, AttemptStarted, MapSucceeded, ReduceSucceeded, AttemptFailed, JobUnsuccessful}
use Rattle.mr_world_model.specs.Packets.{Config, Packet, Launch, Kill, Fetch, Pending, Poll, Done, Failed, Ended, NodeUp, Where, FetchLost, Answer, DoneAck, MapReady, Piece, Master, Node, Envelope, Store, Names, Flush, Reply, Fine, Won, Outcome, Address, Container}
use Rattle.mr_world_model.specs.Pasts.{incarnation_of, is_known, on_shelf}
use Rattle.mr_world_model.specs.Hearing.{Failing, Finished, Launched, Move_from, Phase, Placed, Recovering, Seen, find_launched, has, in_task_order, is_live, is_named, is_running, live_on, may_accept, stands, find_container}
use Rattle.mr_world_model.specs.Duties.{Asks, Came, Expires, Launches, Master_step, all_rivals, next_seen, success_of}
use Rattle.mr_world_model.specs.World.{Compute, ContainerStep, Container_act, Crash, Deliver, Die, Duty, Event, Expire, LaunchOn, Master_act, NodeRestart, Start, World, block_there, container_act, is_over_by, master_act, op_of, packet_of, piece_limit, seen_by}

abbrev pub to_node : ℕ → Packet → Envelope
to_node n p = record { to = Node n; body = p }

abbrev pub to_container : ContainerId → Packet → Envelope
to_container c p = record { to = Container c; body = p }

abbrev pub to_app : ℕ → Packet → Envelope
to_app k p = record { to = Master k; body = p }

-- one packet to every node below n
unfoldable pub to_all : ℕ → Packet → List Envelope
to_all zero p = []
to_all (suc n) p = to_all n p ++ to_node n p ∷ []

abbrev pub kills_of : List Launched → List Envelope
kills_of [] = []
kills_of (l ∷ ls) = to_node l.node (Kill l.container) ∷ kills_of ls

abbrev pub live_of : Seen → List Launched → List Launched
live_of s [] = []
live_of s (l ∷ ls) = if is_live s l.attempt then l ∷ live_of s ls else live_of s ls

abbrev pub answer_to : Option Launched → Bool → List Envelope
answer_to None b = []
answer_to (Some l) b = to_container l.container (Answer l.attempt b) ∷ []

abbrev pub ack_to : Option Launched → Attempt → List Envelope
ack_to None a = []
ack_to (Some l) a = to_container l.container (DoneAck a) ∷ []

-- nothing is answered to a container that the master did not launch
abbrev pub if_ours : Option Launched → Option Placed → Option Placed
if_ours None p = None
if_ours (Some l) p = p

abbrev pub ready : ContainerId → ℕ → List Attempt → Option Placed → List Envelope
ready c m rs None = []
ready c m rs (Some p) = if has rs p.attempt then to_container c (MapReady m p.attempt p.node p.incarnation) ∷ [] else []

abbrev pub is_failing : Phase → Bool
is_failing (Failing f) = true
is_failing _ = false

-- the answers of a Running master to a packet; before and after are what it has seen
abbrev pub replies : Seen → Seen → Packet → List Envelope
replies s s' (Pending a) = answer_to (find_launched s.launched a) (is_named s' a)
replies s s' (Poll a) = answer_to (find_launched s.launched a) (is_named s' a)
replies s s' (Done a bytes) = if may_accept s a || has s.accepted a then ack_to (find_launched s.launched a) a else []
replies s s' (Failed a) = if is_failing s'.phase then kills_of (in_task_order (live_of s' s.launched)) else []
replies s s' (Ended c) = if is_failing s'.phase then kills_of (in_task_order (live_of s' s.launched)) else []
replies s s' (Where c m) = ready c m s.recorded (if_ours (find_container s.launched c) (stands s.standing m))
replies s s' _ = []

abbrev pub wins : ℕ → List Record → List Envelope
wins nodes [] = []
wins nodes (ReduceSucceeded a bytes ∷ rs) = to_all nodes (Won a.task a) ++ wins nodes rs
wins nodes (AttemptStarted a n ∷ rs) = wins nodes rs
wins nodes (MapSucceeded a n i ∷ rs) = wins nodes rs
wins nodes (AttemptFailed a ∷ rs) = wins nodes rs
wins nodes (JobUnsuccessful ∷ rs) = wins nodes rs

abbrev pub won_by_recovery : ℕ → Phase → Reply → List Envelope
won_by_recovery nodes (Recovering (w ∷ ws) (Move_from j)) Fine = to_all nodes (Won w.task w.attempt)
won_by_recovery nodes p r = []

abbrev pub outcome_of : ℕ → Phase → Phase → List Envelope
outcome_of nodes (Finished b) p = []
outcome_of nodes p (Finished b) = to_all nodes (Outcome b)
outcome_of nodes p q = []

-- for each record in order: its win to every node, then a kill to each rival
abbrev pub flush_each : ℕ → Seen → List Record → List Envelope
flush_each nodes s [] = []
flush_each nodes s (r ∷ rs) = (wins nodes (r ∷ []) ++ kills_of (all_rivals s (success_of r))) ++ flush_each nodes s rs

abbrev pub flush_sends : ℕ → Seen → Store → Reply → List Envelope
flush_sends nodes s Flush Fine = flush_each nodes s s.tail
flush_sends nodes s call r = []

abbrev pub kill_to : Option Launched → List Envelope
kill_to None = []
kill_to (Some l) = to_node l.node (Kill l.container) ∷ []

abbrev pub bar_kill : Seen → Option Attempt → List Envelope
bar_kill s None = []
bar_kill s (Some a) = kill_to (find_launched s.launched a)

-- an attempt that is barred is killed
abbrev pub bar_sends : Seen → Store → Reply → List Envelope
bar_sends s (Names op) Fine = bar_kill s (bar_of op)
bar_sends s call r = []

abbrev pub duty_sends : Config → Seen → Seen → Store → Reply → List Envelope
duty_sends cfg s s' call r = won_by_recovery cfg.nodes s.phase r ++ (flush_sends cfg.nodes s call r ++ (bar_sends s call r ++ outcome_of cfg.nodes s.phase s'.phase))

abbrev pub step_sends : Config → Seen → Seen → Master_step → List Envelope
step_sends cfg s s' (Came p) = if is_running s.phase then replies s s' p else []
step_sends cfg s s' (Launches l) = to_node l.node (Launch l.container l.attempt l.incarnation) ∷ []
step_sends cfg s s' (Expires n) = kills_of (in_task_order (live_on s false n s.launched))
step_sends cfg s s' (Asks call r) = duty_sends cfg s s' call r

abbrev pub master_sends : Config → World → Option Master_act → List Envelope
master_sends cfg w None = []
master_sends cfg w (Some a) = step_sends cfg (seen_by cfg w a.who) (next_seen cfg a.who (seen_by cfg w a.who) a.step) a.step

-- a block from an offset on
abbrev pub piece_of : ContainerId → Attempt → (reduce offset : ℕ) → Option (List ℕ) → List Envelope
piece_of c a r o None = to_container c (FetchLost c a) ∷ []
piece_of c a r o (Some block) =
    if nat_le o (length block) then to_container c (Piece a r o (length block) (take piece_limit (drop o block))) ∷ [] else to_container c (FetchLost c a) ∷ []

abbrev pub node_replies : Config → World → ℕ → Packet → List Envelope
node_replies cfg w n (Launch c a i) =
    if not (is_known (w.node_past n) c) && not (nat_eq i (incarnation_of (w.node_past n)))
    then to_app c.app (NodeUp n (incarnation_of (w.node_past n))) ∷ [] else []
node_replies cfg w n (Kill c) = to_app c.app (Ended c) ∷ []
node_replies cfg w n (Fetch c a r i o) =
    if nat_eq i (incarnation_of (w.node_past n))
    then piece_of c a r o (block_there cfg.reduces (on_shelf (w.node_past n) a) r) else to_container c (FetchLost c a) ∷ []
node_replies cfg w n _ = []

abbrev pub node_sends : Config → World → Option Envelope → List Envelope
node_sends cfg w None = []
node_sends cfg w (Some e) = to e.to e.body
  where
    to : Address → Packet → List Envelope
    to (Master k) p = []
    to (Container c) p = []
    to (Node n) p = node_replies cfg w n p

abbrev pub some_packet : Option Op → Option Envelope → List Envelope
some_packet (Some op) e = []
some_packet None None = []
some_packet None (Some e) = e ∷ []

abbrev pub said_ended : Bool → ContainerId → List Envelope
said_ended true c = to_app c.app (Ended c) ∷ []
said_ended false c = []

abbrev pub own_end : Config → World → Event → Option Container_act → List Envelope
own_end cfg w e None = []
own_end cfg w e (Some a) = said_ended (is_over_by cfg w a) a.who

-- to the living masters up to k, rising
unfoldable pub to_masters : (ℕ → Bool) → ℕ → Packet → List Envelope
to_masters alive zero p = []
to_masters alive (suc k) p = to_masters alive k p ++ (if alive (suc k) then to_app (suc k) p ∷ [] else [])

unfoldable pub sent : Config → World → Event → List Envelope
sent cfg w (Start k kept) = []
sent cfg w (Crash k kept) = []
sent cfg w (Duty k f) = master_sends cfg w (master_act cfg w (Duty k f))
sent cfg w (LaunchOn k t n) = master_sends cfg w (master_act cfg w (LaunchOn k t n))
sent cfg w (Deliver i) =
    master_sends cfg w (master_act cfg w (Deliver i)) ++
    (node_sends cfg w (slice_get w.bag i) ++ own_end cfg w (Deliver i) (container_act cfg w (Deliver i)))
sent cfg w (ContainerStep c f) =
    some_packet (op_of cfg w c) (packet_of cfg w c) ++ own_end cfg w (ContainerStep c f) (container_act cfg w (ContainerStep c f))
sent cfg w (Compute c bytes) = []
sent cfg w (Die c) = to_app c.app (Ended c) ∷ []
sent cfg w (Expire k n) = master_sends cfg w (master_act cfg w (Expire k n))
sent cfg w (NodeRestart n) = to_masters w.is_master w.fence (NodeUp n (suc (incarnation_of (w.node_past n))))
