-- The duty of a master, and what is planned for the answer.
use Rattle.std.specs.Prelude.{◌≡◌, ◌+◌, ℕ, Bool, true, List, Some, None, Result, Ok, Err, is_some, length, nat_le}
use Rattle.std.specs.Option.{option_map}
use Rattle.mr_packet.specs.declared.packet.Envelope.{Envelope}
use Rattle.mr_packet.specs.declared.bag.TheConstants.{MAX_PACKETS}
use Rattle.mr_master_model.specs.Next as next
use Rattle.mr_master_model.specs.Past.{Step, Answered}
use Rattle.mr_master_model.specs.declared.store.StoreCall.{StoreCall}
use Rattle.mr_master_model.specs.declared.store.StoreAnswer.{StoreAnswer}
use Rattle.mr_master.specs.State.{Master}
use Rattle.mr_master.specs.Prepared.{Prepared, PlansFor}
use Rattle.mr_world_model.specs.Packets.{Config}
use Rattle.mr_world_model.specs.World.{World, duty}
use Rattle.mr_master_refinement.specs.Steps.{setting, steps, store_call}
use Rattle.mr_world_state.specs.declared.fault.WorldFault.{WorldFault}
use Rattle.mr_world_state.specs.declared.masters.Masters.{Masters}
use Rattle.mr_world_state.specs.declared.parts.Parts.{Parts}
use Rattle.mr_world_state.specs.Machines.{master_of}
use Rattle.mr_world_state.specs.Standing.{Standing, Refuses}

-- ---- the call

-- the master is alive, and this is the store call that it has to make
pub record IsDue (cfg : Config) (w : World) (k : ℕ) (call : StoreCall) : Type 0 where
  pub alive : w.is_master k ≡ true
  pub due : option_map store_call (duty cfg w k) ≡ Some call

-- it is kept, and this call is its duty in every world that the parts stand for
pub record HasDuty (p : Parts) (k : ℕ) (call : StoreCall) : Type 0 where
  pub kept : is_some (master_of p.masters k) ≡ true
  pub due : (w : World) → Standing p w → IsDue p.config w k call

-- what the machine of a master would send and change at a step
pub record IsPlannedAt (masters : Masters) (k : ℕ) (step : Step) (p : Prepared) : Type 0 where
  pub machine : Master
  pub at : master_of masters k ≡ Some machine
  pub planned : PlansFor machine step p

-- ---- an answer

-- what the master sends once it hears this answer
abbrev pub says_then : Config → World → ℕ → StoreAnswer → List Envelope
says_then cfg w k a = next.sent (setting cfg k) (steps (w.master_past k)) (Answered a)

-- whether that finds room in the bag
abbrev pub fits_then : Config → World → ℕ → StoreAnswer → Bool
fits_then cfg w k a = nat_le (length w.bag + length (says_then cfg w k a)) MAX_PACKETS

-- What would be sent and changed at an answer. In every world that the parts stand for the packets are what is sent
-- then, and find room. Else they find no room, or memory was refused.
abbrev pub PlansAnswer : Parts → ℕ → StoreAnswer → Result Prepared WorldFault → Type 0
PlansAnswer parts k a (Ok p) = IsPlannedAt parts.masters k (Answered a) p × ((w : World) → Standing parts w → (p.packets ≡ says_then parts.config w k a) × (fits_then parts.config w k a ≡ true))
PlansAnswer parts k a (Err fault) = (w : World) → Standing parts w → Refuses None (fits_then parts.config w k a) true fault
