-- What a power cut leaves: of each name one of the moments since its folder was synced, each file that was synced, and a front of the records
-- that were appended since the history was synced. This is the weakest reading of POSIX: each name by itself, so that of a rename one half may be left.
use Rattle.std.specs.Prelude.{◌≡◌, ◌⊎◌, ℕ, true, List, [], ◌∷◌, ◌++◌, Option}
use Rattle.mr_history.specs.declared.record.Record.{Record}
use Rattle.mr_out_disk.specs.declared.place.Place.{Place}
use Rattle.mr_out_disk.specs.Disk.{Moments, Disk}

-- the file is among these
abbrev pub IsOneOf : Option ℕ → List (Option ℕ) → Type 0
IsOneOf file [] = ⊥
IsOneOf file (x ∷ xs) = (x ≡ file) ⊎ IsOneOf file xs

-- one moment of a name is left, and it is durable
pub record IsLeft (before after : Moments) : Type 0 where
  pub was : IsOneOf after.now (before.now ∷ before.before)
  pub alone : after.before ≡ []

-- one list begins with another
pub record IsFront (xs ys : List Record) : Type 0 where
  pub rest : List Record
  pub is : ys ≡ xs ++ rest

pub record IsCut (before after : Disk) : Type 0 where
  -- some front of what was appended is left, and it is durable
  pub kept : List Record
  pub front : IsFront kept before.appended
  pub synced : after.synced ≡ before.synced ++ kept
  pub appended : after.appended ≡ []
  pub names : (p : Place) → IsLeft (before.moments p) (after.moments p)
  -- a file that was synced is what it was; of any other nothing is known
  pub bytes : (file : ℕ) → before.is_whole file ≡ true → after.bytes file ≡ before.bytes file
  pub whole : (file : ℕ) → before.is_whole file ≡ true → after.is_whole file ≡ true
