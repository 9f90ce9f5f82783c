-- What is stored of the launches: by the numbers of their containers, from 0. Our own: where code and definitions meet.
use Rattle.std.specs.Prelude.{◌≡◌, ◌<◌, ◌||◌, ℕ, Bool, nat_eq, List, length, Some, slice_get}
use Rattle.mr_ids.specs.Attempt.{Attempt}
use Rattle.mr_packet.specs.declared.packet.Envelope.{Envelope}
use Rattle.mr_master_model.specs.declared.launch.Launch.{Launch}
use Rattle.mr_master_model.specs.Sends.{killed_by}

-- the launches, and how many more need no memory for sure
pub record Entries : Type 0 where
  pub entries : List (Attempt × Launch)
  pub spare : ℕ

pub record Launched : Type 0 where
  pub entries : List (Attempt × Launch)
  pub killed : List Bool  -- whether a Kill was sent to the container
  pub room : ℕ  -- how many more launches need no memory for sure, for the entries and for the truth values
  pub killed_room : ℕ

-- the same, room aside
pub record SameLaunches (old new : Launched) : Type 0 where
  pub entries : new.entries ≡ old.entries
  pub killed : new.killed ≡ old.killed

pub record KeepsLaunches (m : Launched) (launched : List (Attempt × Launch)) (was_killed : ℕ → Bool) : Type 0 where
  pub entries : m.entries ≡ launched
  pub count : length m.killed ≡ length launched
  pub killed : (n : ℕ) → n < length launched → slice_get m.killed n ≡ Some (was_killed n)

-- the truth value at place i becomes true, the others stay
abbrev pub Marks : List Bool → ℕ → List Bool → Type 0
Marks old i new = (n : ℕ) (b : Bool) → slice_get old n ≡ Some b → slice_get new n ≡ Some (nat_eq i n || b)

-- the Kills among the packets are noted
abbrev pub NotesKills : List Bool → List Envelope → List Bool → Type 0
NotesKills old es new = (n : ℕ) (killed : ℕ → Bool) → slice_get old n ≡ Some (killed n) → slice_get new n ≡ Some (killed_by es killed n)

abbrev pub Notes : Launched → List Envelope → Launched → Type 0
Notes old es new = (launched : List (Attempt × Launch)) (killed : ℕ → Bool) → KeepsLaunches old launched killed → KeepsLaunches new launched (killed_by es killed)
