-- What the machine of a master that is alive foresees of an event: the same as the parts do that keep it, and that
-- have this bag.
use Rattle.std.specs.Prelude.{◌≡◌, ℕ, Some, Result}
use Rattle.mr_ids.specs.declared.id.TaskId.{TaskId}
use Rattle.mr_packet.specs.Bag.{Held}
use Rattle.mr_packet.specs.declared.packet.Address.TheVariants.{Master}
use Rattle.mr_master.specs.State as master
use Rattle.mr_master.specs.Prepared.{Prepared}
use Rattle.mr_world_model.specs.World.{Event, Deliver, LaunchOn, Expire}
use Rattle.mr_master_model.specs.declared.store.StoreAnswer.{StoreAnswer}
use Rattle.mr_world_state.specs.declared.fault.WorldFault.{WorldFault}
use Rattle.mr_world_state.specs.declared.parts.Parts.{Parts}
use Rattle.mr_world_state.specs.inner.Duties.{PlansAnswer}
use Rattle.mr_world_state.specs.Machines.{master_of}
use Rattle.mr_world_state.specs.Standing.{IsTo, Foresees}

-- the parts have this bag, and keep this machine of the master of generation k
pub record Keeps (p : Parts) (held : Held) (k : ℕ) (m : master.Master) : Type 0 where
  pub bag : p.bag.packets ≡ held.packets
  pub at : master_of p.masters k ≡ Some m

-- it hears the packet at place i
abbrev pub ForeseesHeard : Held → ℕ → master.Master → Result Prepared WorldFault → Type 0
ForeseesHeard bag i m r = (p : Parts) (k : ℕ) → Keeps p bag k m → IsTo p i (Master k) → Foresees p (Deliver i) r

-- it launches an attempt, where so many containers were launched before
abbrev pub ForeseesLaunch : Held → ℕ → master.Master → TaskId → ℕ → Result Prepared WorldFault → Type 0
ForeseesLaunch bag launched m t n r = (p : Parts) (k : ℕ) → Keeps p bag k m → p.launched ≡ launched → Foresees p (LaunchOn k t n) r

-- it gives a node up
abbrev pub ForeseesExpiry : Held → master.Master → ℕ → Result Prepared WorldFault → Type 0
ForeseesExpiry bag m n r = (p : Parts) (k : ℕ) → Keeps p bag k m → Foresees p (Expire k n) r

-- it hears the answer of its store call
abbrev pub PlansAnswerOf : Held → master.Master → StoreAnswer → Result Prepared WorldFault → Type 0
PlansAnswerOf bag m a r = (p : Parts) (k : ℕ) → Keeps p bag k m → PlansAnswer p k a r
