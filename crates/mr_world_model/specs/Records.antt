-- The job history: one segment for each generation of the master, with a flushed part and a tail that a crash may cut. Records, versions and segments are
-- those of mr_history, which says what of them is Hadoop's and what our own profile. A history by generation, and what is read off it, are here.
use Rattle.std.specs.Prelude.{ℕ, zero, suc, nat_eq, nat_lt, List, [], ◌∷◌, ◌++◌, Option, Some, None, if◌then◌else◌}
use Rattle.mr_history.specs.Recorded.{SegmentRecords, unwritten, added, settled, cut}
use Rattle.mr_world_model.specs.Ids.{Attempt, TaskId, task_eq}
pub use Rattle.mr_history.specs.declared.record.Record.{Record}
pub use Rattle.mr_history.specs.declared.record.Record.TheVariants.{AttemptStarted, MapSucceeded, ReduceSucceeded, AttemptFailed, JobUnsuccessful}
unfoldable pub use Rattle.mr_history.specs.Line.{width, whole_in}
pub use Rattle.mr_history.specs.Line.{as_written}
pub use Rattle.mr_history.specs.Recorded.{head_width}

-- a segment as its records: its version, what is stable, the tail, and whether it is sealed
abbrev pub Segment : Type 0
Segment = SegmentRecords

abbrev pub fresh : Segment
fresh = unwritten 1

-- the length that a segment of this version tells: the first version has none
abbrev pub bytes_kept : ℕ → Option ℕ → Option ℕ
bytes_kept version bytes = if nat_eq version 2 then bytes else None

abbrev pub appended : Segment → Record → Segment
appended s r = added r s

abbrev pub flushed : Segment → Segment
flushed s = settled s

-- a seal keeps the records that lie whole in a front of the tail's bytes. Sealed again, a segment stays
abbrev pub sealed : ℕ → Segment → Segment
sealed kept s = cut kept s

-- the segments by generation
abbrev pub History : Type 0
History = ℕ → Segment

abbrev pub with_segment : History → ℕ → Segment → History
with_segment h k s j = if nat_eq j k then s else h j

-- a generation's segment is raised with its version
abbrev pub with_version : ℕ → ℕ → History → History
with_version version k h = with_segment h k (record (h k) { version = version })

abbrev pub sealed_below : ℕ → ℕ → History → History
sealed_below k kept h j = if nat_lt j k then sealed kept (h j) else h j

-- the stable records of the generations below k, in order
unfoldable pub records_below : History → ℕ → List Record
records_below h zero = []
records_below h (suc k) = records_below h k ++ (h k).stable

-- the attempt of the first success of a reduce
unfoldable pub winner_in : List Record → TaskId → Option Attempt
winner_in [] t = None
winner_in (ReduceSucceeded a bytes ∷ rs) t = if task_eq a.task t then Some a else winner_in rs t
winner_in (AttemptStarted a node ∷ rs) t = winner_in rs t
winner_in (MapSucceeded a node incarnation ∷ rs) t = winner_in rs t
winner_in (AttemptFailed a ∷ rs) t = winner_in rs t
winner_in (JobUnsuccessful ∷ rs) t = winner_in rs t

-- the length that the first success of a reduce was recorded with
unfoldable pub length_in : List Record → TaskId → Option ℕ
length_in [] t = None
length_in (ReduceSucceeded a bytes ∷ rs) t = if task_eq a.task t then bytes else length_in rs t
length_in (AttemptStarted a node ∷ rs) t = length_in rs t
length_in (MapSucceeded a node incarnation ∷ rs) t = length_in rs t
length_in (AttemptFailed a ∷ rs) t = length_in rs t
length_in (JobUnsuccessful ∷ rs) t = length_in rs t
