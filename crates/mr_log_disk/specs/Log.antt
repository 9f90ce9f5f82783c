-- A log whose entries are names: each is made by one exclusive call, and is durable once its folder was synced, as POSIX says of symlink
-- and of fsync of a folder.
use Rattle.std.specs.Prelude.{◌≡◌, ℕ, suc, ◌==◌, List, [], ◌∷◌, if◌then◌else◌}
use Rattle.mr_log_entries.specs.declared.entry.Entry.{Entry}
use Rattle.mr_log_disk.specs.declared.place.Place.{Place}
use Rattle.mr_log_disk.specs.Names.{Moments}

-- the name of an entry
pub data LogName : Type 0 where
  -- nothing stands there
  Absent : LogName
  -- an entry that a power cut may take
  Fresh : (entry : Entry) → LogName
  -- an entry for good
  Durable : (entry : Entry) → LogName

pub record Disk : Type 0 where
  -- the names of the entries, by number, from 0
  pub log : ℕ → LogName
  -- the visible names
  pub names : Place → Moments

abbrev pub IsThere : Entry → LogName → Type 0
IsThere e Absent = ⊥
IsThere e (Fresh f) = f ≡ e
IsThere e (Durable f) = f ≡ e

-- these entries stand at the names from this number on
unfoldable pub AreThere : Disk → ℕ → List Entry → Type 0
AreThere d n [] = Unit {0}
AreThere d n (e ∷ es) = IsThere e (d.log n) × AreThere d (suc n) es

-- the entry stands at the name from now on
abbrev pub with_entry : ℕ → Entry → Disk → ℕ → LogName
with_entry n e d i = if i == n then Fresh e else d.log i

-- what stands at the name is durable
abbrev pub settled : LogName → LogName
settled Absent = Absent
settled (Fresh e) = Durable e
settled (Durable e) = Durable e
