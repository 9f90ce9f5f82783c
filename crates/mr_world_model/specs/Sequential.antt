-- What is claimed of files where a job's functions are deterministic: they are those of the sequential execution (Dean and Ghemawat 3.3).
use Rattle.std.specs.Prelude.{ℕ, ◌+◌, ◌<◌, ◌≤◌, Bool, true, false, ◌&&◌, List, [], ◌∷◌, ◌++◌, ◌≡◌, Option, Some, None, if◌then◌else◌, is_none, length, slice_get}
use Rattle.std.specs.Option.{option_map, option_and_then}
use Rattle.mr_world_model.specs.Ids.{Attempt, ContainerId, TaskId, is_reduce, part}
use Rattle.mr_world_model.specs.Content.{File, entry_at}
use Rattle.mr_mapside.specs.Cutting.{cut}
use Rattle.mr_mapside.specs.declared.TheConstants.{MAX_OUTPUT_LEN}
use Rattle.mr_world_model.specs.Packets.{Config}
use Rattle.mr_world_model.specs.Pasts.{Place, Step, fetched, wish}
use Rattle.mr_world_model.specs.World.{World, Event, Compute}
use Rattle.mr_world_model.specs.Effect.{not_now, wants_compute}
use Rattle.mr_world_model.specs.Claims.{IsReduce, Limits, world_of, IsMarked, IsWhole}

-- What a job with deterministic functions gives. (Filled by the crates of the user functions, of the map side and of the shuffle)
pub record Job : Type 0 where
  -- the whole output of map m over its split, for `reduces` reduces; none where it refuses a line
  pub output : (reduces m : ℕ) → (split : List ℕ) → Option (List ℕ)
  -- what map m hands to reduce r
  pub block : (reduces r m : ℕ) → (split : List ℕ) → Option (List ℕ)
  -- the text that a reduce makes of its pieces, in the order of the maps; none where they can't be read
  pub part : (pieces : List (List ℕ)) → Option (List ℕ)
  -- what the sequential execution over the splits writes for reduce r; none where a line is refused
  pub sequential : (reduces r : ℕ) → (splits : List (List ℕ)) → Option (List ℕ)

-- most bytes of a map's output
unfoldable pub most_output : ℕ
most_output = MAX_OUTPUT_LEN

abbrev pub in_front : Option (List ℕ) → Option (List (List ℕ)) → Option (List (List ℕ))
in_front None rest = None
in_front (Some block) None = None
in_front (Some block) (Some blocks) = Some (block ∷ blocks)

-- what the maps that are numbered from m hand to reduce r
abbrev pub blocks_from : Job → (reduces r m : ℕ) → List (List ℕ) → Option (List (List ℕ))
blocks_from job reduces r m [] = Some []
blocks_from job reduces r m (split ∷ splits) = in_front (job.block reduces r m split) (blocks_from job reduces r (m + 1) splits)

-- The two laws of a job, over the splits and the reduces of a config
pub record JobLaws (job : Job) (cfg : Config) : Type 0 where
  -- a map's output is its blocks
  pub output_is_its_blocks : (m : ℕ) (split bytes : List ℕ) → job.output cfg.reduces m split ≡ Some bytes → length bytes ≤ most_output →
      (blocks : List (List ℕ)) × (cut cfg.reduces bytes ≡ Some blocks) × ((r : ℕ) → r < cfg.reduces → job.block cfg.reduces r m split ≡ slice_get blocks r)
  -- the part of the blocks is the sequential text
  pub part_of_blocks : (r : ℕ) → option_map job.part (blocks_from job cfg.reduces r 0 cfg.splits) ≡ option_map Some (job.sequential cfg.reduces r cfg.splits)

-- What a container's work is given: the split of a map, or the fetched pieces of a reduce, in the order of the maps
pub data Input : Type 0 where
  Split : (map : ℕ) → (split : List ℕ) → Input
  Pieces : (reduce : ℕ) → (pieces : List (List ℕ)) → Input

abbrev pub given : Config → Attempt → List Step → Option Input
given cfg a h =
    if is_reduce a then Some (Pieces a.task.number (fetched (length cfg.splits) a h))
    else option_map (Split a.task.number) (slice_get cfg.splits a.task.number)

-- a container's input: of one that wishes to compute
abbrev pub input_at : Config → Option Place → List Step → Option Input
input_at cfg None h = None
input_at cfg (Some p) h = if wants_compute (wish (length cfg.splits) p.attempt h) then given cfg p.attempt h else None

abbrev pub input_of : Config → World → ContainerId → Option Input
input_of cfg w c = input_at cfg (w.place c) (w.container_past c)

-- the definition's bytes of an input; none where it refuses
abbrev pub made_of : Job → Config → Input → Option (List ℕ)
made_of job cfg (Split m split) = job.output cfg.reduces m split
made_of job cfg (Pieces r pieces) = job.part pieces

-- bytes that are handed in are the definition's, of the container's input
abbrev pub CarriesDefinition : Job → Config → World → Event → Type 0
CarriesDefinition job cfg w (Compute c bytes) = option_and_then (made_of job cfg) (input_of cfg w c) ≡ Some bytes
CarriesDefinition job cfg w _ = Unit {0}

abbrev pub is_taken : Config → Limits → World → Event → Bool
is_taken cfg within w e = is_none (not_now cfg w e) && within w e

-- Faithful: each result that is taken is the definition's
abbrev pub IsFaithful : Job → Config → Limits → List Event → Type 0
IsFaithful job cfg within es = (before after : List Event) (e : Event) → es ≡ before ++ e ∷ after → is_taken cfg within (world_of cfg within before) e ≡ true → CarriesDefinition job cfg (world_of cfg within before) e

-- an event more: where it is taken, and hands in a result, that is the definition's. Then the list stays faithful
abbrev pub StaysFaithful : Job → Config → Limits → Type 0
StaysFaithful job cfg within = (es : List Event) (e : Event) → IsFaithful job cfg within es → (is_taken cfg within (world_of cfg within es) e ≡ true → CarriesDefinition job cfg (world_of cfg within es) e) → IsFaithful job cfg within (es ++ e ∷ [])

-- no map's output beyond what it may have is taken
abbrev pub BoundsOutputs : Limits → Type 0
BoundsOutputs within = (w : World) (c : ContainerId) (p : Place) (bytes : List ℕ) → w.place c ≡ Some p → is_reduce p.attempt ≡ false → within w (Compute c bytes) ≡ true → length bytes ≤ most_output

-- over a faithful list a reduce's whole output is what the sequential execution writes, which then exists
abbrev pub WholeIsSequential : Job → Config → Limits → Type 0
WholeIsSequential job cfg within = (es : List Event) → IsFaithful job cfg within es → (a : Attempt) (bytes : List ℕ) → is_reduce a ≡ true → IsWhole (world_of cfg within es) a bytes →
    job.sequential cfg.reduces a.task.number cfg.splits ≡ Some bytes

-- a reader of the destination sees what the sequential execution writes
abbrev pub SeesSequential : Job → Config → World → Type 0
SeesSequential job cfg w = (t : TaskId) → IsReduce cfg t → (text : List ℕ) × (job.sequential cfg.reduces t.number cfg.splits ≡ Some text) × (entry_at w.content (part t) ≡ Some (File text true))

-- over a faithful list, once the marker is there
abbrev pub MarkedFilesAreSequential : Job → Config → Limits → Type 0
MarkedFilesAreSequential job cfg within = (es : List Event) → IsFaithful job cfg within es → IsMarked (world_of cfg within es) → SeesSequential job cfg (world_of cfg within es)
