-- What follows from the readings alone, for every past.
use Rattle.std.specs.Prelude.{◌≡◌, ◌<◌, ℕ, length, Bool, true, false, ◌&&◌, ◌||◌, List, [], ◌∷◌, ◌++◌, map, Some}
use Rattle.mr_ids.specs.Attempt.{Attempt}
pub use Rattle.mr_ids.specs.Kind.{is_reduce}
use Rattle.mr_ids.specs.declared.id.TaskKind.{TaskKind}
use Rattle.mr_ids.specs.declared.id.TaskKind.TheVariants.{Reduce}
use Rattle.mr_packet.specs.declared.packet.Packet.{Packet}
use Rattle.mr_packet.specs.declared.packet.Packet.TheVariants as packet
use Rattle.mr_commit.specs.Line.{Line, op_of}
use Rattle.mr_commit.specs.Tables.{commit_task, abort_task}
use Rattle.mr_container.specs.declared.wish.Wish.{Wish}
use Rattle.mr_container.specs.declared.wish.Wish.TheVariants as wish
use Rattle.mr_container.specs.Past.{Step, Hears, Sends, Computes, Calls}
use Rattle.mr_container.specs.Readings.{Seen, seen, same_attempt, is_fine, is_reporting, is_computing}
use Rattle.mr_container.specs.Wished.{wished_op}

-- the packet tells the attempt that it may commit
abbrev pub tells_yes : Attempt → Packet → Bool
tells_yes x (packet.Answer a is_yes) = is_yes && same_attempt x a
tells_yes x _ = false

abbrev pub is_yes : Attempt → Step → Bool
is_yes x (Hears p) = tells_yes x p
is_yes x (Sends p) = false
is_yes x (Computes bytes) = false
is_yes x (Calls op r) = false

unfoldable pub was_told_yes : Attempt → List Step → Bool
was_told_yes x [] = false
was_told_yes x (step ∷ h) = is_yes x step || was_told_yes x h

-- it commits its task, or reports that it did
unfoldable pub commits : TaskKind → Wish → Bool
commits kind wish.Look = true
commits kind wish.Clear = true
commits kind wish.Rename = true
commits kind wish.Report = is_reduce kind
commits kind _ = false

-- who commits, or reports that it did, was told yes
abbrev pub YesFirst : Type 0
YesFirst = (maps : ℕ) (x : Attempt) (h : List Step) → commits x.task.kind (seen maps x h).wish ≡ true → was_told_yes x h ≡ true

abbrev pub is_renaming : Wish → Bool
is_renaming wish.Rename = true
is_renaming _ = false

-- the step is a rename that was done
abbrev pub renames : Wish → Step → Bool
renames w (Calls op r) = is_renaming w && is_fine r
renames w (Hears p) = false
renames w (Sends p) = false
renames w (Computes bytes) = false

unfoldable pub was_renamed : ℕ → Attempt → List Step → Bool
was_renamed maps x [] = false
was_renamed maps x (step ∷ h) = renames (seen maps x h).wish step || was_renamed maps x h

-- a reduce reports only what it renamed
abbrev pub RenamedFirst : Type 0
RenamedFirst = (maps : ℕ) (x : Attempt) (h : List Step) → x.task.kind ≡ Reduce → is_reporting (seen maps x h).wish ≡ true → was_renamed maps x h ≡ true

-- the calls by which it commits, and the one by which it aborts, are those of the committer's tables
pub record CommitsByTable : Type 0 where
  pub commits : (dest : List (List ℕ)) (k : ℕ) (x : Attempt) (result : List ℕ)
      → map (λ (w : Wish). wished_op dest k x result w) (wish.Look ∷ wish.Clear ∷ wish.Rename ∷ []) ≡ map (λ (l : Line). Some (op_of l)) (commit_task dest k x)
  pub aborts : (dest : List (List ℕ)) (k : ℕ) (x : Attempt) (result : List ℕ)
      → map (λ (w : Wish). wished_op dest k x result w) (wish.Abort ∷ []) ≡ map (λ (l : Line). Some (op_of l)) (abort_task dest k x)

-- how many blocks are there fits the wish. While one is missing, it asks for the first that is, fetches it, or tells that it is lost; else
-- all are there
unfoldable pub Fits : ℕ → ℕ → Wish → Type 0
Fits maps count (wish.Where m) = (m ≡ count) × (count < maps)
Fits maps count (wish.Fetch a n i) = count < maps
Fits maps count (wish.Lost a) = count < maps
Fits maps count _ = count ≡ maps

-- a reduce computes, and does all that comes after, with the blocks of all maps
abbrev pub AllFetched : Type 0
AllFetched = (maps : ℕ) (x : Attempt) (h : List Step) → x.task.kind ≡ Reduce → Fits maps (length (seen maps x h).pieces.blocks) (seen maps x h).wish

-- the bytes were handed in, and are not asked for again
unfoldable pub has_computed : Wish → Bool
has_computed (wish.Where m) = false
has_computed (wish.Fetch a n i) = false
has_computed (wish.Lost a) = false
has_computed wish.Compute = false
has_computed _ = true

-- what was handed in and what it was computed from are in the new readings as in the old
pub record Kept (old new : Seen) : Type 0 where
  pub computed : has_computed new.wish ≡ true
  pub result : new.result ≡ old.result
  pub pieces : new.pieces ≡ old.pieces

-- a reduce's bytes, once handed in, are its whole output for good, and the blocks from which they were computed stay
pub record BytesStay : Type 0 where
  pub stay : (maps : ℕ) (x : Attempt) (h more : List Step) → has_computed (seen maps x h).wish ≡ true → Kept (seen maps x h) (seen maps x (more ++ h))
  pub handed_in : (maps : ℕ) (x : Attempt) (h more : List Step) (bytes : List ℕ) → x.task.kind ≡ Reduce → is_computing (seen maps x h).wish ≡ true
      → Kept (record (seen maps x h) { result = bytes }) (seen maps x (more ++ Computes bytes ∷ h))
