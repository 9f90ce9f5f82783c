-- The world, its events, the store calls that an event makes, and the step that it adds to a past (our own profile).
use Rattle.std.specs.Prelude.{ℕ, suc, Bool, true, false, ◌&&◌, ◌||◌, not, nat_eq, nat_lt, List, [], ◌∷◌, ◌++◌, Option, Some, None, if◌then◌else◌, is_none, length, ◌+◌, slice_get, Ok, Err}
use Rattle.mr_ids.specs.Generations.{first_attempt_number}
use Rattle.mr_world_model.specs.Ids.{Attempt, ContainerId, TaskId, task_eq, container_eq, staged}
use Rattle.mr_world_model.specs.Content.{Op, ListDir, Exist, Read, bar_of, Superseded, NameFault, Barred, Content, Dir, refusal, left, put, entry_at, children, bytes_of, option_kind}
use Rattle.mr_world_model.specs.Packets.{Config, Packet, Launch, Kill, Master, Node, Envelope, Store, Names, Append_record, Flush, Read_history, Reply, Fine, Found, Entries, Bytes, Records, Refused, Address, Container, Caller, Sealed, Fault}
use Rattle.mr_mapside.specs.Cutting.{cut}
use Rattle.mr_names.specs.declared.op.Answer.TheVariants as answers
use Rattle.mr_container.specs.declared.reply.Reply as heard
use Rattle.mr_container.specs.declared.reply.Reply.TheVariants as hears
use Rattle.mr_world_model.specs.Records.{History, Segment, records_below, fresh, appended, flushed}
use Rattle.mr_world_model.specs.Pasts.{Called, Computed, Got, Node_step, Over, Place, Sent, Step, Wish, computed, incarnation_of, is_known, wish, wished_op, wished_packet}
use Rattle.mr_world_model.specs.Hearing.{Launched, Seen, has}
use Rattle.mr_world_model.specs.Duties.{Asks, Came, Expires, Launches, Master_step, duty_of, seen}
use Rattle.std.specs.FinMap as finite
pub use Rattle.mr_world_events.specs.declared.event.Event.{Event}
pub use Rattle.mr_world_events.specs.declared.event.Event.TheVariants.{Start, Crash, Duty, LaunchOn, Deliver, ContainerStep, Computed as Compute, Die, NodeRestart, Expire}
pub use Rattle.mr_world_events.specs.declared.event.Weather.{Weather}
pub use Rattle.mr_world_events.specs.declared.event.Weather.TheVariants.{Calm, Unavailable, Unanswered}

pub record World : Type 0 where
  pub content : Content
  pub fence : ℕ
  pub barred : List Attempt  -- the attempts that the namespace has barred, for good
  pub history : History
  pub bag : List Envelope  -- every packet ever sent, the oldest first
  pub master_past : ℕ → List Master_step
  pub container_past : ContainerId → List Step
  pub node_past : ℕ → List Node_step
  pub place : ContainerId → Option Place  -- what a launched container was launched as
  pub is_master : ℕ → Bool  -- the masters that are alive
  pub is_alive : ContainerId → Bool  -- the containers that are alive

abbrev pub opening_world : World
opening_world = record {
  content = put (put finite.empty [] Dir) staged Dir;
  fence = 0;
  barred = [];
  history = λ k. fresh;
  bag = [];
  master_past = λ k. [];
  container_past = λ c. [];
  node_past = λ n. [];
  place = λ c. None;
  is_master = λ k. false;
  is_alive = λ c. false;
}

-- Store calls

abbrev pub names_answer : Content → Op → Reply
names_answer c (ListDir p) = Entries (children c p)
names_answer c (Exist p) = Found (option_kind (entry_at c p))
names_answer c (Read p) = Bytes (bytes_of (entry_at c p))
names_answer c _ = Fine

abbrev pub unless_refused : Option NameFault → Reply → Reply
unless_refused None r = r
unless_refused (Some why) r = Refused why

abbrev pub own_reply : World → ℕ → Store → Reply
own_reply w k (Names op) = unless_refused (refusal w.content op) (names_answer w.content op)
own_reply w k (Append_record r) = if (w.history k).is_sealed then Sealed else Fine
own_reply w k Flush = if (w.history k).is_sealed then Sealed else Fine
own_reply w k Read_history = Records (records_below w.history k)

-- the answer to a master that is not lost
unfoldable pub reply_of : World → ℕ → Store → Reply
reply_of w k call = if nat_lt k w.fence then Refused (Superseded w.fence) else own_reply w k call

abbrev pub has_option : List Attempt → Option Attempt → Bool
has_option bs None = false
has_option bs (Some a) = has bs a

-- a bar turns the call away, where the fence has not
abbrev pub is_stopped : World → Caller → Bool
is_stopped w c = has_option w.barred c.attempt && not (nat_lt c.app w.fence)

-- the answer to any caller that is not lost: the fence's, the bar's, the store's own
unfoldable pub reply_to : World → Caller → Store → Reply
reply_to w c call = if is_stopped w c then Refused Barred else reply_of w c.app call

abbrev pub reply_under : Weather → Reply → Reply
reply_under Calm r = r
reply_under Unavailable r = Fault
reply_under Unanswered r = Fault

abbrev pub is_applied : World → ℕ → Weather → Bool
is_applied w k Unavailable = false
is_applied w k Calm = not (nat_lt k w.fence)
is_applied w k Unanswered = not (nat_lt k w.fence)

abbrev pub names_left : Content → Store → Content
names_left c (Names op) = if is_none (refusal c op) then left c op else c
names_left c (Append_record r) = c
names_left c Flush = c
names_left c Read_history = c

-- what a call leaves of the attempts that are barred
abbrev pub with_bar : Option Attempt → List Attempt → List Attempt
with_bar None bs = bs
with_bar (Some a) bs = if has bs a then bs else bs ++ a ∷ []

abbrev pub barred_left : List Attempt → Store → List Attempt
barred_left bs (Names op) = with_bar (bar_of op) bs
barred_left bs (Append_record r) = bs
barred_left bs Flush = bs
barred_left bs Read_history = bs

abbrev pub unless_sealed : Segment → Segment → Segment
unless_sealed s t = if s.is_sealed then s else t

abbrev pub segment_left : Segment → Store → Segment
segment_left s (Append_record r) = unless_sealed s (appended s r)
segment_left s Flush = unless_sealed s (flushed s)
segment_left s (Names op) = s
segment_left s Read_history = s

-- a store call that an event makes
pub record Made : Type 0 where
  pub app : ℕ
  pub call : Store
  pub fault : Weather

-- Reading the pasts

abbrev pub seen_by : Config → World → ℕ → Seen
seen_by cfg w k = seen cfg k (w.master_past k)

abbrev pub wish_at : Config → ContainerId → Option Place → List Step → Wish
wish_at cfg c None h = Over
wish_at cfg c (Some p) h = wish (length cfg.splits) p.attempt h

abbrev pub wish_of : Config → World → ContainerId → Wish
wish_of cfg w c = wish_at cfg c (w.place c) (w.container_past c)

abbrev pub op_at : Config → ContainerId → Option Place → List Step → Option Op
op_at cfg c None h = None
op_at cfg c (Some p) h = wished_op c.app p.attempt (computed h) (wish (length cfg.splits) p.attempt h)

abbrev pub op_of : Config → World → ContainerId → Option Op
op_of cfg w c = op_at cfg c (w.place c) (w.container_past c)

abbrev pub packet_at : Config → ContainerId → Option Place → List Step → Option Envelope
packet_at cfg c None h = None
packet_at cfg c (Some p) h = wished_packet c p.attempt (computed h) (wish (length cfg.splits) p.attempt h)

abbrev pub packet_of : Config → World → ContainerId → Option Envelope
packet_of cfg w c = packet_at cfg c (w.place c) (w.container_past c)

abbrev pub attempt_of : Option Place → Option Attempt
attempt_of None = None
attempt_of (Some p) = Some p.attempt

abbrev pub caller_as : ContainerId → Attempt → Caller
caller_as c a = record { app = c.app; attempt = Some a }

-- a container calls for its attempt
abbrev pub caller_of : World → ContainerId → Caller
caller_of w c = record { app = c.app; attempt = attempt_of (w.place c) }

abbrev pub duty : Config → World → ℕ → Option Store
duty cfg w k = duty_of cfg k (seen_by cfg w k) (seen_by cfg w k).phase

-- the block of a reduce in what lies on a shelf of an attempt
abbrev pub block_at : Option (List (List ℕ)) → ℕ → Option (List ℕ)
block_at None r = None
block_at (Some bs) r = slice_get bs r

abbrev pub block_there : ℕ → Option (List ℕ) → ℕ → Option (List ℕ)
block_there reduces None r = None
block_there reduces (Some bytes) r = block_at (cut reduces bytes) r

-- most bytes of a piece
unfoldable pub piece_limit : ℕ
piece_limit = 65536

-- What an event makes: the step of a master

abbrev pub count_of : List Launched → TaskId → ℕ
count_of [] t = 0
count_of (l ∷ ls) t = if task_eq l.attempt.task t then suc (count_of ls t) else count_of ls t

abbrev pub launch_of : ℕ → Seen → TaskId → ℕ → Launched
launch_of k s t n = record {
  attempt = record { task = t; number = first_attempt_number k + count_of s.launched t };
  container = record { app = k; number = length s.launched };
  node = n;
  incarnation = s.known n;
}

pub record Master_act : Type 0 where
  pub who : ℕ
  pub step : Master_step

pub record Container_act : Type 0 where
  pub who : ContainerId
  pub step : Step

abbrev pub duty_act : World → ℕ → Weather → Option Store → Option Master_act
duty_act w k f None = None
duty_act w k f (Some call) = Some (record { who = k; step = Asks call (reply_under f (reply_of w k call)) })

abbrev pub came_act : Option Envelope → Option Master_act
came_act None = None
came_act (Some e) = to e.to e.body
  where
    to : Address → Packet → Option Master_act
    to (Master k) p = Some (record { who = k; step = Came p })
    to (Container c) p = None
    to (Node n) p = None

unfoldable pub master_act : Config → World → Event → Option Master_act
master_act cfg w (Duty k f) = duty_act w k f (duty cfg w k)
master_act cfg w (LaunchOn k t n) = Some (record { who = k; step = Launches (launch_of k (seen_by cfg w k) t n) })
master_act cfg w (Deliver i) = came_act (slice_get w.bag i)
master_act cfg w (Expire k n) = Some (record { who = k; step = Expires n })
master_act cfg w _ = None

abbrev pub duty_made : ℕ → Weather → Option Store → Option Made
duty_made k f None = None
duty_made k f (Some call) = Some (record { app = k; call = call; fault = f })

abbrev pub op_made : ℕ → Weather → Option Op → Option Made
op_made k f None = None
op_made k f (Some op) = Some (record { app = k; call = Names op; fault = f })

abbrev pub unless_stopped : Bool → Option Made → Option Made
unless_stopped true m = None
unless_stopped false m = m

-- the store call of an event, if no bar turns it away
unfoldable pub call_of : Config → World → Event → Option Made
call_of cfg w (Duty k f) = duty_made k f (duty cfg w k)
call_of cfg w (ContainerStep c f) = unless_stopped (is_stopped w (caller_of w c)) (op_made c.app f (op_of cfg w c))
call_of cfg w _ = None

-- what a container hears of an answer of the namespace
abbrev pub as_heard : Reply → heard.Reply
as_heard Fine = hears.Answered (Ok answers.Done)
as_heard (Found kind) = hears.Answered (Ok (answers.Found kind))
as_heard (Entries names) = hears.Answered (Ok (answers.Listed names))
as_heard (Bytes bytes) = hears.Answered (Ok (answers.Contents bytes))
as_heard (Refused why) = hears.Answered (Err why)
as_heard _ = hears.Fault

abbrev pub step_act : World → ContainerId → Weather → Option Op → Option Envelope → Option Container_act
step_act w c f (Some op) p = Some (record { who = c; step = Called op (as_heard (reply_under f (reply_to w (caller_of w c) (Names op)))) })
step_act w c f None (Some e) = Some (record { who = c; step = Sent e.body })
step_act w c f None None = None

abbrev pub got_act : Option Envelope → Option Container_act
got_act None = None
got_act (Some e) = to e.to e.body
  where
    to : Address → Packet → Option Container_act
    to (Master k) p = None
    to (Container c) p = Some (record { who = c; step = Got p })
    to (Node n) p = None

unfoldable pub container_act : Config → World → Event → Option Container_act
container_act cfg w (Deliver i) = got_act (slice_get w.bag i)
container_act cfg w (ContainerStep c f) = step_act w c f (op_of cfg w c) (packet_of cfg w c)
container_act cfg w (Compute c bytes) = Some (record { who = c; step = Computed bytes })
container_act cfg w _ = None

-- a launch that node n obeys
pub record Obeyed : Type 0 where
  pub container : ContainerId
  pub place : Place

abbrev pub obeys : World → ℕ → Packet → Option Obeyed
obeys w n (Launch c a i) =
    if not (is_known (w.node_past n) c) && nat_eq i (incarnation_of (w.node_past n))
    then Some (record { container = c; place = record { attempt = a; node = n; incarnation = i } }) else None
obeys w n _ = None

abbrev pub obeyed_at : World → Option Envelope → Option Obeyed
obeyed_at w None = None
obeyed_at w (Some e) = to e.to e.body
  where
    to : Address → Packet → Option Obeyed
    to (Master k) p = None
    to (Container c) p = None
    to (Node n) p = obeys w n p

unfoldable pub obeyed : World → Event → Option Obeyed
obeyed w (Deliver i) = obeyed_at w (slice_get w.bag i)
obeyed w _ = None

-- the containers that an event ends
abbrev pub is_over : Wish → Bool
is_over Over = true
is_over _ = false

abbrev pub is_over_by : Config → World → Container_act → Bool
is_over_by cfg w a = is_over (wish_at cfg a.who (w.place a.who) (a.step ∷ w.container_past a.who))

-- the step is the last of its container
abbrev pub ends_by : Config → World → Option Container_act → ContainerId → Bool
ends_by cfg w None c = false
ends_by cfg w (Some a) c = container_eq c a.who && is_over_by cfg w a

abbrev pub kills : World → Option Envelope → ContainerId → Bool
kills w None c = false
kills w (Some e) c = to e.to e.body
  where
    to : Address → Packet → Bool
    to (Node n) (Kill d) = container_eq c d
    to a p = false

abbrev pub is_on : ℕ → Option Place → Bool
is_on n None = false
is_on n (Some p) = nat_eq n p.node

unfoldable pub ends : Config → World → Event → ContainerId → Bool
ends cfg w (Die d) c = container_eq c d
ends cfg w (NodeRestart n) c = is_on n (w.place c)
ends cfg w (Deliver i) c = kills w (slice_get w.bag i) c || ends_by cfg w (container_act cfg w (Deliver i)) c
ends cfg w (ContainerStep d f) c = ends_by cfg w (container_act cfg w (ContainerStep d f)) c
ends cfg w _ c = false
