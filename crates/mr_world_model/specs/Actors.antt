-- What the machines of a running cluster's containers and nodes stand for, and what each event changes of it: for whoever runs them.
-- Our own: it ties the cluster to the crates beneath it.
use Rattle.std.specs.Prelude.{◌≡◌, ◌<◌, ◌^◌, ℕ, Bool, true, false, ◌&&◌, not, List, [], Some, None, length, slice_get, Result}
use Rattle.mr_names.specs.declared.fault.NameFault as faults
use Rattle.mr_names.specs.declared.op.Answer as answers
use Rattle.mr_names.specs.Calls as names
use Rattle.mr_container.specs.declared.reply.Reply.TheVariants as replies
use Rattle.mr_container.specs.declared.wish.Wish as container_wish
use Rattle.mr_container.specs.declared.wish.Wish.TheVariants as wished
use Rattle.mr_container.specs.Readings as readings_of
use Rattle.mr_container.specs.State as container
use Rattle.mr_container.specs.Wished as called
use Rattle.mr_node.specs.State as node
use Rattle.mr_world_model.specs.Ids.{ContainerId, container_eq, dest}
use Rattle.mr_world_model.specs.Content.{Op}
use Rattle.mr_world_model.specs.Packets.{Config, Envelope, Reply, Caller, Names}
use Rattle.mr_world_model.specs.Pasts.{wish_of_seen, Place, incarnation_of}
use Rattle.mr_world_model.specs.World.{World, Calm, Unavailable, Unanswered, Event, Start, Crash, Duty, LaunchOn, Compute, Expire, Obeyed, obeyed, wish_of, op_of, packet_of, caller_of, reply_under, as_heard, reply_to}
use Rattle.mr_world_model.specs.Effect.{not_now, wants_compute}
use Rattle.mr_world_model.specs.Claims.{Limits, world_of}
use Rattle.mr_world_model.specs.Containers.{AllWished}
use Rattle.mr_world_model.specs.Stores.{reply_of_names, NamesStand}

-- the machine m of container c stands for its past in the world
pub record ContainerIn (cfg : Config) (w : World) (c : ContainerId) (m : container.Container) : Type 0 where
  pub launched : Place
  pub place : w.place c ≡ Some launched
  pub stands : container.StandsFor m c (length cfg.splits) (record { launched = launched; steps = w.container_past c })

-- the machine m of node n stands for its past in the world
abbrev pub NodeIn : Config → World → ℕ → node.Node → Type 0
NodeIn cfg w n m = node.StandsFor m n cfg.reduces (w.node_past n)

-- What a machine says is what the cluster's definitions say of its container. That is what it was launched as, its wish, whether it computes, its
-- call and who makes it, its packet
pub record ContainerSays (cfg : Config) (w : World) (c : ContainerId) (m : container.Container) : Type 0 where
  pub place : w.place c ≡ Some m.place
  pub wish : wish_of cfg w c ≡ wish_of_seen m.seen
  pub computes : wants_compute (wish_of cfg w c) ≡ readings_of.is_computing m.seen.wish
  pub call : op_of cfg w c ≡ called.wished_op dest m.id.app m.place.attempt m.seen.result m.seen.wish
  pub caller : (op : Op) → op_of cfg w c ≡ Some op → caller_of w c ≡ called.caller_of m.id m.place.attempt
  pub packet : packet_of cfg w c ≡ called.wished_packet m.id m.place.attempt m.seen m.seen.wish

-- the limits take no bytes of which a packet could not tell the length
abbrev pub BoundsBytes : Limits → Type 0
BoundsBytes within = (w : World) (c : ContainerId) (bytes : List ℕ) → within w (Compute c bytes) ≡ true → length bytes < 2 ^ 32

abbrev pub ContainersSay : Type 0
ContainersSay = (cfg : Config) (within : Limits) → BoundsBytes within → (es : List Event) (c : ContainerId) (m : container.Container) →
    ContainerIn cfg (world_of cfg within es) c m → ContainerSays cfg (world_of cfg within es) c m

-- a container that lives was launched, in its node's present incarnation, and one that a delivery starts was not: it has done nothing
pub record BeginsOnce : Type 0 where
  pub placed : (cfg : Config) (within : Limits) (es : List Event) (c : ContainerId) → (world_of cfg within es).is_alive c ≡ true →
      (p : Place) × ((world_of cfg within es).place c ≡ Some p) × (p.incarnation ≡ incarnation_of ((world_of cfg within es).node_past p.node))
  pub unborn : (cfg : Config) (within : Limits) (es : List Event) (e : Event) (o : Obeyed) → not_now cfg (world_of cfg within es) e ≡ None → obeyed (world_of cfg within es) e ≡ Some o →
      ((world_of cfg within es).place o.container ≡ None) × ((world_of cfg within es).container_past o.container ≡ []) × ((world_of cfg within es).is_alive o.container ≡ false)

-- in every run bytes were handed in only where they were wished
abbrev pub PastsAreWished : Type 0
PastsAreWished = (cfg : Config) (within : Limits) (es : List Event) (c : ContainerId) (p : Place) → (world_of cfg within es).place c ≡ Some p → AllWished (length cfg.splits) p.attempt ((world_of cfg within es).container_past c)

-- what a container hears of a call is what the namespace answered, or that nobody can tell
pub record AnswersAreHeard : Type 0 where
  pub answered : (r : Result answers.Answer faults.NameFault) → as_heard (reply_under Calm (reply_of_names r)) ≡ replies.Answered r
  -- so of a namespace that stands for the world's, whoever calls (that it is full is no answer)
  pub called : (s : names.State) (w : World) → NamesStand s w → (c : Caller) (o : Op) → names.passes_limit s.barred o ≡ false →
      as_heard (reply_under Calm (reply_to w c (Names o))) ≡ replies.Answered (names.call_of s c o).0
  pub unavailable : (r : Reply) → as_heard (reply_under Unavailable r) ≡ replies.Fault
  pub unanswered : (r : Reply) → as_heard (reply_under Unanswered r) ≡ replies.Fault

-- Each kind of event

-- all machines of containers stand, and all containers live, as before
pub record SameContainers (cfg : Config) (w u : World) : Type 0 where
  pub machines : (c : ContainerId) (m : container.Container) → ContainerIn cfg w c m → ContainerIn cfg u c m
  pub living : (c : ContainerId) → u.is_alive c ≡ w.is_alive c

-- all machines of nodes stand as before
abbrev pub SameNodes : Config → World → World → Type 0
SameNodes cfg w u = (n : ℕ) (m : node.Node) → NodeIn cfg w n m → NodeIn cfg u n m

abbrev pub is_finished : container_wish.Wish → Bool
is_finished wished.Over = true
is_finished _ = false

-- the machine of container c went on to m, all others stand as before; the container lives on unless it is over
pub record ContainerMoved (cfg : Config) (w u : World) (c : ContainerId) (m : container.Container) : Type 0 where
  pub now : ContainerIn cfg u c m
  pub others : (d : ContainerId) (o : container.Container) → container_eq d c ≡ false → ContainerIn cfg w d o → ContainerIn cfg u d o
  pub living : (d : ContainerId) → u.is_alive d ≡ (w.is_alive d && not (container_eq d c && is_finished m.seen.wish))

-- the machine of node n went on to m, all others stand as before
pub record NodeMoved (cfg : Config) (w u : World) (n : ℕ) (m : node.Node) : Type 0 where
  pub now : NodeIn cfg u n m
  pub others : (k : ℕ) (o : node.Node) → (k ≡ n → ⊥) → NodeIn cfg w k o → NodeIn cfg u k o

abbrev pub is_of_masters : Event → Bool
is_of_masters (Start k kept) = true
is_of_masters (Crash k kept) = true
is_of_masters (Duty k f) = true
is_of_masters (LaunchOn k t n) = true
is_of_masters (Expire k n) = true
is_of_masters _ = false

-- the envelope of a delivery
abbrev pub Carries : World → ℕ → Envelope → Type 0
Carries w i e = slice_get w.bag i ≡ Some e
