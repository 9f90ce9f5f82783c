-- The history at records stands for mr_history's bytes.
-- When the bytes of a segment, which mr_history keeps, tell the records that the model keeps in their place.
-- Our own: it ties the cluster to the crates beneath it.
use Rattle.std.specs.Prelude.{ℕ, ◌≡◌, ◌≤◌, [], length}
use Rattle.mr_history.specs.State.{SegmentState, State}
use Rattle.mr_history.specs.Segment.{IsSound}
use Rattle.mr_history.specs.Recorded.{recorded}
use Rattle.mr_history.specs.Calls.{segment}
use Rattle.mr_world_model.specs.Records.{Segment, History}

-- a segment's bytes tell these records
pub record Tells (s : SegmentState) (m : Segment) : Type 0 where
  pub sound : IsSound s
  pub is : recorded s ≡ m

-- and so do the segments of all generations, from 1 on
pub record TellsAll (h : State) (m : History) : Type 0 where
  pub none : ((m 0).stable ≡ []) × ((m 0).tail ≡ [])
  pub each : (j : ℕ) → 1 ≤ j → j ≤ length h.segments → Tells (segment h j) (m j)
