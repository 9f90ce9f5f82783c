-- How the machines of masters change.
use Rattle.std.specs.Prelude.{◌≡◌, ℕ, suc, nat_eq, Option, Some, None, if◌then◌else◌}
use Rattle.mr_master.specs.State as master
use Rattle.mr_world_state.specs.declared.masters.Masters.{Masters}
use Rattle.mr_world_state.specs.Machines.{master_of, master_count}

-- of the master of generation k this is kept from then on, of each other one what was
abbrev pub ChangesMaster : Masters → ℕ → Option master.Master → Masters → Type 0
ChangesMaster old k m new = (j : ℕ) → master_of new j ≡ (if nat_eq j k then m else master_of old j)

-- all are kept as they were
pub record SameMasters (old new : Masters) : Type 0 where
  pub count : master_count new ≡ master_count old
  pub kept : (j : ℕ) → master_of new j ≡ master_of old j

-- a master of the next generation is kept
pub record Begins (old : Masters) (m : master.Master) (new : Masters) : Type 0 where
  pub count : master_count new ≡ suc (master_count old)
  pub kept : ChangesMaster old (suc (master_count old)) (Some m) new

-- the master of generation k is kept no longer
pub record Ceases (old : Masters) (k : ℕ) (new : Masters) : Type 0 where
  pub count : master_count new ≡ master_count old
  pub kept : ChangesMaster old k None new

-- this machine is at the place of generation k
pub record Returns (old : Masters) (k : ℕ) (m : master.Master) (new : Masters) : Type 0 where
  pub count : master_count new ≡ master_count old
  pub kept : ChangesMaster old k (Some m) new
