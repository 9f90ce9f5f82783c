-- A segment and a history as what they hold.
-- A segment for each application attempt is Hadoop's job history file, which a later attempt reads. A stable part and a tail that a crash cuts
-- are those of any write-ahead log. The fence is our own profile.
use Rattle.std.specs.Prelude.{ℕ, Bool, List}

-- the version, stable bytes, the unflushed tail, and whether the segment is sealed
pub record SegmentState : Type 0 where
  pub version : ℕ
  pub stable : List ℕ
  pub tail : List ℕ
  pub is_sealed : Bool

-- the segments of all generations by rising number, from 1, and the fence
pub record State : Type 0 where
  pub segments : List SegmentState
  pub fence : ℕ
