-- What a reader of the destination sees once the success marker is there: the files of the sequential execution (Dean and Ghemawat 3.3), by rising name.
use Rattle.std.specs.Prelude.{◌≡◌, ◌<◌, ◌≤◌, ℕ, ◌+◌, List, [], ◌∷◌, length, slice_get}
use Rattle.mr_paths.specs.Layout as layout
use Rattle.mr_world_model.specs.Ids.{Name}
use Rattle.mr_world_model.specs.Packets.{Config}
use Rattle.mr_world_model.specs.World.{World, Event}
use Rattle.mr_world_model.specs.Claims.{Limits, IsMarked, world_of}
use Rattle.mr_world_model.specs.Results.{visible}
use Rattle.mr_world_model.specs.Sequential.{Job, JobLaws, BoundsOutputs, IsFaithful}

-- the part files of the reduces from n on, each with its name
abbrev pub named : ℕ → List (List ℕ) → List (Name × List ℕ)
named n [] = []
named n (file ∷ files) = (layout.part n, file) ∷ named (n + 1) files

-- what is seen is the part file of each reduce, with the text of the sequential execution, and nothing else
pub record ShowsSequential (job : Job) (cfg : Config) (w : World) : Type 0 where
  pub files : List (List ℕ)
  pub count : length files ≡ cfg.reduces
  pub texts : (r : ℕ) → r < cfg.reduces → slice_get files r ≡ job.sequential cfg.reduces r cfg.splits
  pub seen : visible w ≡ named 0 files

-- so it is over a faithful list of a job of at most 1,000 reduces, once the marker is there. More than 100,000 part
-- files would not stand in the order of their numbers
abbrev pub MarkedWorldsShowSequential : Type 0
MarkedWorldsShowSequential = (job : Job) (cfg : Config) (within : Limits) → JobLaws job cfg → BoundsOutputs within → cfg.reduces ≤ 1000 →
    (es : List Event) → IsFaithful job cfg within es → IsMarked (world_of cfg within es) → ShowsSequential job cfg (world_of cfg within es)
