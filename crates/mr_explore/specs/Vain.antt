-- Where a run goes on in vain (our own profile): every living container waits for its master, and all that comes is
-- that they ask, and that nothing is answered, or no.
use Rattle.std.specs.Prelude.{ℕ, suc, ◌*◌, ◌-◌, ◌&&◌, ◌||◌, Bool, true, false, not, nat_eq, nat_lt, min, List, drop, filter, length, slice_get, Option, Some, None, is_some, if◌then◌else◌}
use Rattle.std.specs.List.{list_all, list_any, range_with_len}
use Rattle.mr_packet.specs.declared.packet.ContainerId.{ContainerId}
use Rattle.mr_container.specs.declared.wish.Wish.{Wish}
use Rattle.mr_container.specs.declared.wish.Wish.TheVariants as wish
use Rattle.mr_world_model.specs.Packets.{Config, Envelope, Packet, Answer, Done, Pending, Poll, Where}
use Rattle.mr_world_model.specs.World.{World, Event, ContainerStep, Deliver}
use Rattle.mr_world_model.specs.Effect.{addressee}
use Rattle.mr_play.specs.mr_world_state.specs.declared.limits.TheConstants.{MAX_CONTAINERS}
use Rattle.mr_play.specs.mr_world.specs.Readings.{wish_in}
use Rattle.mr_explore_faults.specs.Kinds.{is_delivery}

-- ---- who waits

-- it asks its master where a map's output lies, or whether it may commit, or reports that it is done, until it is answered
abbrev pub is_waiting : Wish → Bool
is_waiting (wish.Where m) = true
is_waiting wish.Pending = true
is_waiting wish.Poll = true
is_waiting wish.Report = true
is_waiting _ = false

abbrev pub waits_by : Option Wish → Bool
waits_by None = false
waits_by (Some w) = is_waiting w

abbrev pub waits : Config → World → ContainerId → Bool
waits cfg w c = waits_by (wish_in cfg w c)

-- ---- what is asked and answered

-- such a question; and the answer that a container may not commit yet
abbrev pub is_asking : Packet → Bool
is_asking (Where c m) = true
is_asking (Pending a) = true
is_asking (Poll a) = true
is_asking (Done a bytes) = true
is_asking (Answer a may) = not may
is_asking _ = false

abbrev pub asks_in : Envelope → Bool
asks_in e = is_asking e.body

abbrev pub is_asked : Option Envelope → Bool
is_asked (Some e) = asks_in e
is_asked None = false

-- a container makes a step, or such a packet comes
abbrev pub asks : List Envelope → Event → Bool
asks bag (ContainerStep c weather) = true
asks bag (Deliver i) = is_asked (slice_get bag i)
asks bag _ = false

-- who waits makes a step, or such a packet comes: here, in this world
abbrev pub asks_here : Config → World → Event → Bool
asks_here cfg w (ContainerStep c weather) = waits cfg w c
asks_here cfg w (Deliver i) = is_asked (slice_get w.bag i)
asks_here cfg w _ = false

-- the last n packets are all such
abbrev pub asked_last : ℕ → List Envelope → Bool
asked_last n bag = if nat_lt (length bag) n then false else list_all asks_in (drop (length bag - n) bag)

-- ---- how far is looked

-- how many these are: a world has no more than MAX_CONTAINERS
abbrev pub count_of : List ContainerId → ℕ
count_of cs = min (length cs) MAX_CONTAINERS

-- Each has asked twice, and was answered no twice, if it was answered: the last packets are nothing else.
abbrev pub most_packets : List ContainerId → ℕ
most_packets cs = 4 * count_of cs

-- Four rounds: in each of them each makes a step, its question comes, and the answer.
abbrev pub most_ahead : List ContainerId → ℕ
most_ahead cs = 12 * count_of cs

-- somebody lives, all who live wait, and nothing was sent last but what is asked and answered so
abbrev pub all_wait : Config → World → List ContainerId → Bool
all_wait cfg w cs = nat_lt 0 (length cs) && (asked_last (most_packets cs) w.bag && list_all (waits cfg w) cs)

-- ---- what comes next

abbrev pub is_step : Event → Bool
is_step (ContainerStep c weather) = true
is_step _ = false

-- Each makes two steps, and one more comes. A calm makes a step where nothing is on its way: so all that was has come, and what the two led to.
abbrev pub step_twice : List ContainerId → List Event → Bool
step_twice cs events = nat_lt (2 * count_of cs) (length (filter is_step events))

-- an event delivers the packet at place i; or it goes to nobody who is alive
abbrev pub comes : World → List Event → ℕ → Bool
comes w events i = list_any (is_delivery i) events || is_some (addressee w (slice_get w.bag i))

-- each packet from place n on comes, but the last, which may be on its way
abbrev pub all_come : World → List Event → ℕ → Bool
all_come w events n = list_all (comes w events) (range_with_len n (length w.bag - suc n))

-- these events only ask, and what they send, which lies from place `sent` on, comes
abbrev pub only_ask : List ContainerId → ℕ → World → List Event → Bool
only_ask cs sent w events = step_twice cs events && (list_all (asks w.bag) events && all_come w events sent)

-- behind the first n events there are as many as are looked at, and they are such
abbrev pub ask_behind : List ContainerId → (n sent : ℕ) → World → List Event → Bool
ask_behind cs n sent w events = if nat_lt (length events) n then false else (nat_eq (length (drop n events)) (most_ahead cs) && only_ask cs sent w (drop n events))
