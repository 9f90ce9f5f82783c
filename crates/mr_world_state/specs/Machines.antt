-- The machines of masters, by generation. Our own: where code and definitions meet.
use Rattle.std.specs.Prelude.{ℕ, zero, suc, Option, Some, None, length, slice_get}
use Rattle.std.specs.Option.{option_and_then}
use Rattle.mr_master.specs.State as master
use Rattle.mr_master.specs.Same.{SameMachines}
use Rattle.mr_world_state.specs.declared.masters.Masters.{Masters}

-- the machine of the master of generation k, from 1, if it is alive
unfoldable pub master_of : Masters → ℕ → Option master.Master
master_of masters zero = None
master_of masters (suc n) = option_and_then (λ m. m) (slice_get masters.machines.items n)

-- how many masters were started
unfoldable pub master_count : Masters → ℕ
master_count masters = length masters.machines.items

-- ---- the masters of two worlds

-- of one generation: no machine is kept in both, or two that hold the same
abbrev pub SameMaster : Option master.Master → Option master.Master → Type 0
SameMaster None None = Unit {0}
SameMaster (Some m) None = ⊥
SameMaster None (Some n) = ⊥
SameMaster (Some m) (Some n) = SameMachines m n
