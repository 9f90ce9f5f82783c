-- The bytes that are handed in to a container.
use Rattle.std.specs.Prelude.{◌≡◌, ℕ, ◌^◌, Bool, true, nat_le, nat_lt, List, Option, Some, None, Result, Ok, Err, if◌then◌else◌, is_some, length}
use Rattle.mr_ids.specs.declared.id.TaskKind.{TaskKind}
use Rattle.mr_ids.specs.declared.id.TaskKind.TheVariants.{Map, Reduce}
use Rattle.mr_mapside.specs.Cutting.{cut}
use Rattle.mr_mapside.specs.declared.TheConstants.{MAX_OUTPUT_LEN}
use Rattle.mr_container.specs.declared.place.Place.{Place}
use Rattle.mr_container.specs.Readings.{is_computing}
use Rattle.mr_container.specs.State.{Container}
use Rattle.mr_world_events.specs.declared.why.Why.TheVariants.{NotBlocks}
use Rattle.mr_world_state.specs.declared.fault.WorldFault.{WorldFault}
use Rattle.mr_world_state.specs.declared.fault.WorldFault.TheVariants as fault

-- the fault of bytes that are blocks or not, and within the length of a map's or of a reduce's or not
abbrev pub fault_by : TaskKind → Bool → Bool → Bool → Option WorldFault
fault_by Map blocks small short = if blocks then (if small then None else Some fault.Full) else Some (fault.NotNow NotBlocks)
fault_by Reduce blocks small short = if short then None else Some fault.Full

-- why bytes are refused to a container of a task of this kind
abbrev pub bytes_fault : TaskKind → ℕ → List ℕ → Option WorldFault
bytes_fault kind reduces bytes = fault_by kind (is_some (cut reduces bytes)) (nat_le (length bytes) MAX_OUTPUT_LEN) (nat_lt (length bytes) (2 ^ 32))

abbrev pub unless_fault : Option WorldFault → Result (Unit {0}) WorldFault
unless_fault None = Ok tt
unless_fault (Some f) = Err f

-- the machine of a container that is to compute, and was launched so
pub record Computes (o : Option Container) (p : Place) : Type 0 where
  pub machine : Container
  pub there : o ≡ Some machine
  pub place : machine.place ≡ p
  pub wish : is_computing machine.seen.wish ≡ true
