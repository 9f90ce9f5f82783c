-- What both stores of a running cluster stand for, and what each event leaves of them: for whoever runs them.
-- Our own: it ties the cluster to the crates beneath it.
use Rattle.std.specs.Prelude.{◌≡◌, ◌≤◌, ℕ, true, false, Bool, List, replicate, Some, None, is_none, Result}
use Rattle.mr_names.specs.declared.fault.NameFault as faults
use Rattle.mr_names.specs.declared.op.Answer as answers
use Rattle.mr_names.specs.Calls as names
use Rattle.mr_history.specs.State.{State}
use Rattle.mr_history.specs.Segment as segments
use Rattle.mr_history.specs.Calls as history
use Rattle.mr_history.specs.Laws.{IsHistory}
use Rattle.mr_container.specs.declared.reply.Reply as container
use Rattle.mr_container.specs.declared.reply.Reply.TheVariants as replies
use Rattle.mr_world_model.specs.Ids.{ContainerId, staged}
use Rattle.mr_world_model.specs.Content.{Op, MkDirs}
use Rattle.mr_world_model.specs.Packets.{Config, Caller, Store, Names}
use Rattle.mr_world_model.specs.World.{World, Event, Start, Crash, Duty, ContainerStep, Weather, Calm, Unavailable, Unanswered, opening_world, duty, op_of, caller_of, is_applied, as_heard, reply_under, reply_to}
use Rattle.mr_world_model.specs.Effect.{effect, not_now, version_of}
use Rattle.mr_world_model.specs.Bytes.{TellsAll}
use Rattle.mr_world_model.specs.Stores.{NamesStand, call_of_history, HasRoom}
use Rattle.mr_world_model.specs.Claims.{Limits, world_of}

-- the namespace s and the history h stand for the world's
pub record StoresStand (s : names.State) (h : State) (w : World) : Type 0 where
  pub namespace : NamesStand s w
  pub tells : TellsAll h w.history
  pub fence : h.fence ≡ w.fence
  pub sound : IsHistory h

-- a master calls for no attempt
abbrev pub master : ℕ → Caller
master k = record { app = k; attempt = None }

-- what a call leaves, in each weather: where it is not made, what was
abbrev pub left_in : {A : Type 0} → Weather → A → A → A
left_in Calm old new = new
left_in Unavailable old new = old
left_in Unanswered old new = new

-- what a container hears of an answer, in each weather
abbrev pub heard_in : Weather → Result answers.Answer faults.NameFault → container.Reply
heard_in Calm r = replies.Answered r
heard_in Unavailable r = replies.Fault
heard_in Unanswered r = replies.Fault

-- a container's call: what it hears, fence and bar first, and what is left
pub record ContainerCalls (cfg : Config) (w : World) (s : names.State) (h : State) (c : ContainerId) (f : Weather) (o : Op) : Type 0 where
  pub heard : as_heard (reply_under f (reply_to w (caller_of w c) (Names o))) ≡ heard_in f (names.call_of s (caller_of w c) o).0
  pub left : StoresStand (left_in f s (names.call_of s (caller_of w c) o).1) h (effect cfg w (ContainerStep c f))

-- an event that calls no store
abbrev pub calls_none : Config → World → Event → Bool
calls_none cfg w (Start k kept) = false
calls_none cfg w (Crash k kept) = false
calls_none cfg w (Duty k f) = false
calls_none cfg w (ContainerStep c f) = is_none (op_of cfg w c)
calls_none cfg w _ = true

-- What each event leaves of both stores. A call that would be `Full` is not taken: where it is applied, an attempt that is barred finds its place, and a record its room.
pub record StoresGoOn : Type 0 where
  -- a new namespace, once the staging folder is made, and a new history
  pub opens : StoresStand (names.call_of names.opening (master 1) (MkDirs staged)).1 (record { segments = replicate 1000 (segments.fresh 1); fence = 0 }) opening_world
  pub starts : (cfg : Config) (w : World) (s : names.State) (h : State) (k kept : ℕ) → StoresStand s h w → not_now cfg w (Start k kept) ≡ None → k ≤ 1000 →
      StoresStand (names.raised s k) (history.raised k kept (version_of cfg k) h) (effect cfg w (Start k kept))
  pub crashes : (cfg : Config) (within : Limits) (es : List Event) (s : names.State) (h : State) (k kept : ℕ) → StoresStand s h (world_of cfg within es) → (world_of cfg within es).is_master k ≡ true →
      StoresStand s (history.sealed_at k kept h) (effect cfg (world_of cfg within es) (Crash k kept))
  -- the call of a master's: of the namespace, or of the history
  pub names_called : (cfg : Config) (w : World) (s : names.State) (h : State) (k : ℕ) (f : Weather) (o : Op) → StoresStand s h w → duty cfg w k ≡ Some (Names o) →
      (is_applied w k f ≡ true → names.passes_limit s.barred o ≡ false) → StoresStand (left_in f s (names.call_of s (master k) o).1) h (effect cfg w (Duty k f))
  pub history_called : (cfg : Config) (within : Limits) (es : List Event) (s : names.State) (h : State) (k : ℕ) (f : Weather) (call : Store) (q : history.Call) → StoresStand s h (world_of cfg within es) →
      (world_of cfg within es).is_master k ≡ true → duty cfg (world_of cfg within es) k ≡ Some call → call_of_history call ≡ Some q → (is_applied (world_of cfg within es) k f ≡ true → HasRoom h k call) →
      StoresStand s (left_in f h (history.call_of h k q).1) (effect cfg (world_of cfg within es) (Duty k f))
  pub container_calls : (cfg : Config) (w : World) (s : names.State) (h : State) (c : ContainerId) (f : Weather) (o : Op) → StoresStand s h w → op_of cfg w c ≡ Some o → ContainerCalls cfg w s h c f o
  pub rests : (cfg : Config) (w : World) (s : names.State) (h : State) (e : Event) → StoresStand s h w → calls_none cfg w e ≡ true → StoresStand s h (effect cfg w e)
