-- What a container's work is given, and what it answers. The bytes that are meant are the definition's (`made_of` of mr_world_model); which faults there are is our own profile.
use Rattle.std.specs.Prelude.{◌≡◌, ℕ, ◌<◌, ◌≤◌, ◌^◌, List, length, Option, Some, None, Result, Ok, Err, IfSome}
use Rattle.std.specs.List.{AllByRecursion}
use Rattle.mr_ids.specs.declared.id.TaskKind.{TaskKind}
use Rattle.mr_ids.specs.declared.id.TaskKind.TheVariants as kind
use Rattle.mr_user.specs.Computation.{Computation}
use Rattle.mr_mapside.specs.Block.{map_output}
use Rattle.mr_mapside.specs.Work.{MapFaultIs}
use Rattle.mr_mapside.specs.declared.TheConstants.{MAX_OUTPUT_LEN}
use Rattle.mr_mapside.specs.declared.fault.WorkFault.{WorkFault}
use Rattle.mr_mapside.specs.declared.fault.WorkFault.TheVariants as work
use Rattle.mr_shuffle.specs.Part.{part}
use Rattle.mr_shuffle.specs.Work.{ReduceFaultIs}
use Rattle.mr_world_files.specs.mr_world_model.specs.Ids.{ContainerId}
use Rattle.mr_world_files.specs.mr_world_model.specs.Packets.{Config}
use Rattle.mr_world_files.specs.mr_world_model.specs.World.{World}
use Rattle.mr_world_files.specs.mr_world_model.specs.Sequential as cluster
use Rattle.mr_world_files.specs.mr_world_model.specs.Sequential.{Split, Pieces, input_of, most_output}
use Rattle.mr_container_work.specs.declared.input.Input.{Input}
use Rattle.mr_container_work.specs.declared.input.Input.TheVariants.{Map, Reduce}

-- an input, as the cluster's definitions have it
abbrev pub as_input : Input → cluster.Input
as_input (Map split bytes) = Split split bytes
as_input (Reduce reduce pieces) = Pieces reduce pieces

-- who is given it
abbrev pub kind_of : Input → TaskKind
kind_of (Map split bytes) = kind.Map
kind_of (Reduce reduce pieces) = kind.Reduce

-- a split is not too long, and pieces are not too many
abbrev pub IsShort : cluster.Input → Type 0
IsShort (Split m split) = length split ≤ 2 ^ 24
IsShort (Pieces reduce pieces) = length pieces ≤ 1000

-- what a container of a cluster is given is so, where the splits of its config are
abbrev pub InputsAreShort : Type 0
InputsAreShort = (cfg : Config) (w : World) (c : ContainerId) → length cfg.splits ≤ 1000 → AllByRecursion (λ split. length split ≤ 2 ^ 24) cfg.splits → IfSome (input_of cfg w c) IsShort

-- A work whose gate may refuse gave the bytes that are meant; no bytes are meant where they are refused. Or the gate
-- refused it, the bytes are too many, or memory was refused.
abbrev pub Works : (refuses : Type 0) → Option (List ℕ) → Result (List ℕ) WorkFault → Type 0
Works refuses meant (Ok bytes) = (meant ≡ Some bytes) × (length bytes ≤ most_output)
Works refuses meant (Err (work.User f)) = meant ≡ None
Works refuses meant (Err (work.Gate f)) = refuses
Works refuses meant (Err (work.Shuffle f)) = meant ≡ None
Works refuses meant (Err work.Full) = (bytes : List ℕ) × (meant ≡ Some bytes) × (most_output < length bytes)
Works refuses meant (Err work.NoMemory) = Unit {0}

-- which fault it is: a map work's, or that of a reduce work whose pieces are in place
abbrev pub FaultIs : {K V : Type 0} → (refuses : Type 0) → Computation K V → (reduces : ℕ) → cluster.Input → WorkFault → Type 0
FaultIs refuses job reduces (Split m split) f = MapFaultIs refuses f (map_output job reduces m split)
FaultIs refuses job reduces (Pieces reduce pieces) f = ReduceFaultIs refuses (Unit {0}) (part job pieces) MAX_OUTPUT_LEN f
