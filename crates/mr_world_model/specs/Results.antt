-- What comes of a run for those outside: the outcome that was told first, and the files that a reader of the destination sees. That hidden names are not seen is
-- Hadoop's committer document's; the rest is our own profile.
use Rattle.std.specs.Prelude.{◌≡◌, ℕ, Bool, List, [], ◌∷◌, ◌++◌, Option, Some, None, if◌then◌else◌}
use Rattle.std.specs.List.{flat_map}
use Rattle.std.specs.Option.{option_or}
use Rattle.mr_world_model.specs.Ids.{Name, dest, is_hidden}
use Rattle.mr_world_model.specs.Content.{Content, Entry, File, Dir, children, entry_at}
use Rattle.mr_world_model.specs.Packets.{Config, Packet, Envelope, Outcome}
use Rattle.mr_world_model.specs.World.{World, Event}
use Rattle.mr_world_model.specs.Claims.{Limits, IsMarked, IsToldOutcome, world_of}

-- the outcome that a packet tells
abbrev pub told_by : Packet → Option Bool
told_by (Outcome succeeded) = Some succeeded
told_by _ = None

-- the first that is told in a list of packets
abbrev pub first_told : List Envelope → Option Bool
first_told [] = None
first_told (e ∷ es) = option_or (told_by e.body) (first_told es)

-- the job's outcome, once one was told
abbrev pub outcome : World → Option Bool
outcome w = first_told w.bag

-- the name and the bytes of a file
abbrev pub file_as : Name → Option Entry → List (Name × List ℕ)
file_as name None = []
file_as name (Some Dir) = []
file_as name (Some (File bytes is_closed)) = (name, bytes) ∷ []

abbrev pub visible_at : Content → Name → List (Name × List ℕ)
visible_at c name = if is_hidden name then [] else file_as name (entry_at c (dest ++ name ∷ []))

-- the files directly beneath the destination whose names are not hidden, by rising name
unfoldable pub visible_in : Content → List (Name × List ℕ)
visible_in c = flat_map (λ line. visible_at c line.name) (children c dest)

abbrev pub visible : World → List (Name × List ℕ)
visible w = visible_in w.content

-- The outcome is one that was told, and the one of all that were told; no further event changes it. What is visible stays once the marker is there, or an outcome was
-- told, a failed one too.
pub record ResultsStay (cfg : Config) (within : Limits) : Type 0 where
  pub outcome_told : (es : List Event) (b : Bool) → outcome (world_of cfg within es) ≡ Some b → IsToldOutcome (world_of cfg within es) b
  pub told_outcome : (es : List Event) (b : Bool) → IsToldOutcome (world_of cfg within es) b → outcome (world_of cfg within es) ≡ Some b
  pub outcome_stays : (es fs : List Event) (b : Bool) → outcome (world_of cfg within es) ≡ Some b → outcome (world_of cfg within (es ++ fs)) ≡ Some b
  pub marked_stays : (es fs : List Event) → IsMarked (world_of cfg within es) → visible (world_of cfg within (es ++ fs)) ≡ visible (world_of cfg within es)
  pub told_stays : (es fs : List Event) (b : Bool) → outcome (world_of cfg within es) ≡ Some b → visible (world_of cfg within (es ++ fs)) ≡ visible (world_of cfg within es)
