-- For whoever runs machines of masters: what one is told of its store call, and what the call leaves of both stores. Also what each event is to the pasts of
-- masters. Our own: it ties two sets of definitions.
use Rattle.std.specs.Prelude.{◌≡◌, ℕ, Bool, true, false, ◌&&◌, ◌||◌, not, nat_eq, List, [], ◌∷◌, Some, None, Result, Ok, Err}
use Rattle.mr_ids.specs.declared.id.TaskId.{TaskId}
use Rattle.mr_names.specs.declared.op.Op.{Op}
use Rattle.mr_names.specs.Calls as namespace
use Rattle.mr_history.specs.declared.fault.HistoryFault as fault
use Rattle.mr_history.specs.State.{State}
use Rattle.mr_history.specs.Calls as segments
use Rattle.mr_master_model.specs.declared.store.StoreAnswer.{StoreAnswer}
use Rattle.mr_master_model.specs.declared.store.StoreAnswer.TheVariants as answer
use Rattle.mr_master_model.specs.Past as machine
use Rattle.mr_master_model.specs.Next as next
use Rattle.mr_packet.specs.declared.packet.Address.{Address}
use Rattle.mr_world_model.specs.Packets.{Config, Store, Names, Envelope, Master, Container, Node}
use Rattle.mr_world_model.specs.Duties.{Master_step, Came, Launches, Expires, Asks, next_seen}
use Rattle.mr_world_model.specs.World.{World, Event, Start, Crash, Duty, LaunchOn, Deliver, ContainerStep, Compute, Die, NodeRestart, Expire, Weather, Calm, Unavailable, Unanswered, duty, is_applied, launch_of, reply_of, reply_under, seen_by}
use Rattle.mr_world_model.specs.Effect.{effect, not_now}
use Rattle.mr_world_model.specs.Sending.{sent, step_sends}
use Rattle.mr_world_model.specs.Claims.{Limits, world_of}
use Rattle.mr_world_model.specs.Stores.{call_of_history, HasRoom}
use Rattle.mr_world_model.specs.Actors.{Carries}
use Rattle.mr_world_model.specs.Stored.{StoresStand, left_in, master}
use Rattle.mr_master_refinement.specs.Steps.{setting, step_of, steps, answer_of}
use Rattle.mr_master_refinement.specs.Agreement.{machine_seen}

-- ---- what each event is to the pasts of masters

-- An event that is a step of master k. The past of its machine grows by it, those of all others and who lives stay, and the packets of the event are the step's.
pub record MasterMoves (cfg : Config) (w : World) (e : Event) (k : ℕ) (x : Master_step) : Type 0 where
  pub now : steps ((effect cfg w e).master_past k) ≡ step_of x ∷ steps (w.master_past k)
  pub others : (j : ℕ) → (j ≡ k → ⊥) → (effect cfg w e).master_past j ≡ w.master_past j
  pub living : (j : ℕ) → (effect cfg w e).is_master j ≡ w.is_master j
  pub sends : sent cfg w e ≡ step_sends cfg (seen_by cfg w k) (next_seen cfg k (seen_by cfg w k) x) x

-- Pasts, and who lives, stay.
pub record MastersRest (cfg : Config) (w : World) (e : Event) : Type 0 where
  pub pasts : (j : ℕ) → (effect cfg w e).master_past j ≡ w.master_past j
  pub living : (j : ℕ) → (effect cfg w e).is_master j ≡ w.is_master j

-- A start: the new master has no past; nobody else is touched, and no packet is sent.
pub record MasterStarts (cfg : Config) (w : World) (k kept : ℕ) : Type 0 where
  pub none : (effect cfg w (Start k kept)).master_past k ≡ []
  pub pasts : (j : ℕ) → (effect cfg w (Start k kept)).master_past j ≡ w.master_past j
  pub living : (j : ℕ) → (effect cfg w (Start k kept)).is_master j ≡ (nat_eq j k || w.is_master j)
  pub sends : sent cfg w (Start k kept) ≡ []

-- A crash: pasts stay.
pub record MasterCrashes (cfg : Config) (w : World) (k kept : ℕ) : Type 0 where
  pub pasts : (j : ℕ) → (effect cfg w (Crash k kept)).master_past j ≡ w.master_past j
  pub living : (j : ℕ) → (effect cfg w (Crash k kept)).is_master j ≡ (not (nat_eq j k) && w.is_master j)
  pub sends : sent cfg w (Crash k kept) ≡ []

-- an event of no master; a delivery is asked about by its envelope
abbrev pub is_of_none : Event → Bool
is_of_none (ContainerStep c f) = true
is_of_none (Compute c bytes) = true
is_of_none (Die c) = true
is_of_none (NodeRestart n) = true
is_of_none _ = false

abbrev pub is_to_a_master : Address → Bool
is_to_a_master (Master k) = true
is_to_a_master (Container c) = false
is_to_a_master (Node n) = false

-- Each event that is no store call (those are below), and the pasts of masters.
pub record MastersGoOn : Type 0 where
  pub starts : (cfg : Config) (within : Limits) (es : List Event) (k kept : ℕ) → not_now cfg (world_of cfg within es) (Start k kept) ≡ None → MasterStarts cfg (world_of cfg within es) k kept
  pub crashes : (cfg : Config) (w : World) (k kept : ℕ) → MasterCrashes cfg w k kept
  pub launches : (cfg : Config) (w : World) (k : ℕ) (t : TaskId) (n : ℕ) → MasterMoves cfg w (LaunchOn k t n) k (Launches (launch_of k (seen_by cfg w k) t n))
  pub expires : (cfg : Config) (w : World) (k n : ℕ) → MasterMoves cfg w (Expire k n) k (Expires n)
  pub hears : (cfg : Config) (w : World) (i k : ℕ) (e : Envelope) → Carries w i e → e.to ≡ Master k → MasterMoves cfg w (Deliver i) k (Came e.body)
  pub told_others : (cfg : Config) (w : World) (i : ℕ) (e : Envelope) → Carries w i e → is_to_a_master e.to ≡ false → MastersRest cfg w (Deliver i)
  pub rests : (cfg : Config) (w : World) (e : Event) → is_of_none e ≡ true → MastersRest cfg w e

-- ---- what the machine is told of its store call

-- of an answer of the history
abbrev pub told_of : segments.Call → Result segments.Answer fault.HistoryFault → StoreAnswer
told_of (segments.Append r) (Ok _) = answer.Wrote (Ok tt)
told_of (segments.Append r) (Err f) = answer.Wrote (Err f)
told_of segments.Flush (Ok _) = answer.Wrote (Ok tt)
told_of segments.Flush (Err f) = answer.Wrote (Err f)
told_of segments.Read (Ok (segments.Told records)) = answer.Told records
told_of segments.Read (Ok segments.Done) = answer.Fault
told_of segments.Read (Err f) = answer.Unread f

-- in each weather: of a call that is not made, or whose answer is lost, that nobody can tell
abbrev pub told_in : Weather → StoreAnswer → StoreAnswer
told_in Calm a = a
told_in Unavailable a = answer.Fault
told_in Unanswered a = answer.Fault

-- A store call of master k, the answer a of which is told in this weather: the machine's past grows by it, and the stores are then these.
pub record CallAgrees (cfg : Config) (w : World) (k : ℕ) (f : Weather) (call : Store) (a : StoreAnswer) (s : namespace.State) (h : State) : Type 0 where
  pub told : answer_of call (reply_under f (reply_of w k call)) ≡ told_in f a
  pub moves : MasterMoves cfg w (Duty k f) k (Asks call (reply_under f (reply_of w k call)))
  pub left : StoresStand s h (effect cfg w (Duty k f))

-- Of a namespace and a history that stand for the world's, whatever the weather. A call that would be `Full` is not taken: where it is applied, an attempt that is
-- barred finds its place, and a record its room.
pub record StoreCallsAgree : Type 0 where
  pub names : (cfg : Config) (w : World) (s : namespace.State) (h : State) (k : ℕ) (f : Weather) (o : Op) → StoresStand s h w → duty cfg w k ≡ Some (Names o) →
      (is_applied w k f ≡ true → namespace.passes_limit s.barred o ≡ false) →
      CallAgrees cfg w k f (Names o) (answer.Names (namespace.call_of s (master k) o).0) (left_in f s (namespace.call_of s (master k) o).1) h
  pub history : (cfg : Config) (within : Limits) (es : List Event) (s : namespace.State) (h : State) (k : ℕ) (f : Weather) (call : Store) (q : segments.Call) → StoresStand s h (world_of cfg within es) →
      (world_of cfg within es).is_master k ≡ true → duty cfg (world_of cfg within es) k ≡ Some call → call_of_history call ≡ Some q → (is_applied (world_of cfg within es) k f ≡ true → HasRoom h k call) →
      CallAgrees cfg (world_of cfg within es) k f call (told_of q (segments.call_of h k q).0) s (left_in f h (segments.call_of h k q).1)

-- ---- what a machine sends

-- In a run, the packets of each event of a master are those that its machine, which has seen the same, sends by that step.
pub record MastersSend : Type 0 where
  pub launches : (cfg : Config) (within : Limits) (es : List Event) (k : ℕ) (t : TaskId) (n : ℕ) → not_now cfg (world_of cfg within es) (LaunchOn k t n) ≡ None →
      next.sent_by (setting cfg k) (machine_seen cfg k ((world_of cfg within es).master_past k)) (machine.Launches t n) ≡ sent cfg (world_of cfg within es) (LaunchOn k t n)
  pub expires : (cfg : Config) (within : Limits) (es : List Event) (k n : ℕ) → not_now cfg (world_of cfg within es) (Expire k n) ≡ None →
      next.sent_by (setting cfg k) (machine_seen cfg k ((world_of cfg within es).master_past k)) (machine.Expires n) ≡ sent cfg (world_of cfg within es) (Expire k n)
  pub hears : (cfg : Config) (within : Limits) (es : List Event) (i k : ℕ) (e : Envelope) → Carries (world_of cfg within es) i e → e.to ≡ Master k → not_now cfg (world_of cfg within es) (Deliver i) ≡ None →
      next.sent_by (setting cfg k) (machine_seen cfg k ((world_of cfg within es).master_past k)) (machine.Hears e.body) ≡ sent cfg (world_of cfg within es) (Deliver i)
  pub calls : (cfg : Config) (within : Limits) (es : List Event) (k : ℕ) (f : Weather) (call : Store) → duty cfg (world_of cfg within es) k ≡ Some call → not_now cfg (world_of cfg within es) (Duty k f) ≡ None →
      next.sent_by (setting cfg k) (machine_seen cfg k ((world_of cfg within es).master_past k)) (machine.Answered (answer_of call (reply_under f (reply_of (world_of cfg within es) k call)))) ≡ sent cfg (world_of cfg within es) (Duty k f)
