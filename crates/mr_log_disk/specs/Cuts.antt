-- What a power cut leaves: every entry that is durable, and of the others any; of each other name one of the moments since its folder was synced.
-- This is the weakest reading of POSIX: each name by itself.
use Rattle.std.specs.Prelude.{◌≡◌, ◌⊎◌, ℕ, List, [], ◌∷◌, Option}
use Rattle.mr_log_disk.specs.declared.place.Node.{Node}
use Rattle.mr_log_disk.specs.declared.place.Place.{Place}
use Rattle.mr_log_disk.specs.Names.{IsVisible, Moments}
use Rattle.mr_log_disk.specs.Log.{LogName, Absent, Fresh, Durable, Disk}

abbrev pub IsLeft : LogName → LogName → Type 0
IsLeft Absent after = after ≡ Absent
IsLeft (Fresh e) after = (after ≡ Absent) ⊎ (after ≡ Durable e)
IsLeft (Durable e) after = after ≡ Durable e

-- the node, or none, is among these
abbrev pub IsOneOf : Option Node → List (Option Node) → Type 0
IsOneOf x [] = ⊥
IsOneOf x (y ∷ ys) = (y ≡ x) ⊎ IsOneOf x ys

-- one moment of a name is left, and it is durable
pub record IsMoment (before after : Moments) : Type 0 where
  pub was : IsOneOf after.now (before.now ∷ before.before)
  pub alone : after.before ≡ []

pub record IsCut (before after : Disk) : Type 0 where
  pub log : (n : ℕ) → IsLeft (before.log n) (after.log n)
  pub names : (p : Place) → IsVisible p → IsMoment (before.names p) (after.names p)
