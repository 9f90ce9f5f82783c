-- A segment as its records: what the layers above speak of. Our own: it ties bytes to records.
use Rattle.std.specs.Prelude.{ℕ, ◌-◌, ◌+◌, Bool, false, true, List, [], ◌∷◌, ◌++◌, length, sum_by, if◌then◌else◌}
use Rattle.mr_history.specs.declared.record.Record.{Record}
use Rattle.mr_history.specs.State.{SegmentState}
use Rattle.mr_history.specs.Line.{head, width, whole_in, as_written}
use Rattle.mr_history.specs.Reading.{records_of, records_as}

-- the version, the records of the stable bytes and of the tail, and whether the segment is sealed
pub record SegmentRecords : Type 0 where
  pub version : ℕ
  pub stable : List Record
  pub tail : List Record
  pub is_sealed : Bool

abbrev pub recorded : SegmentState → SegmentRecords
recorded s = record { version = s.version; stable = records_of s.stable; tail = records_as s.version s.tail; is_sealed = s.is_sealed }

-- a segment of this version with no record
abbrev pub unwritten : ℕ → SegmentRecords
unwritten version = record { version = version; stable = []; tail = []; is_sealed = false }

-- an append adds one record, as the segment's version tells it
abbrev pub added : Record → SegmentRecords → SegmentRecords
added r s = record s { tail = s.tail ++ as_written s.version r ∷ [] }

-- a flush makes those of the tail stable
abbrev pub settled : SegmentRecords → SegmentRecords
settled s = record s { stable = s.stable ++ s.tail; tail = [] }

-- how many bytes of a tail come before its first record's line: those of the version line, where no record is stable
abbrev pub head_width : SegmentRecords → ℕ
head_width s = before s.stable
  where
    before : List Record → ℕ
    before [] = length (head s.version)
    before (r ∷ rs) = 0

-- A seal keeps those that lie whole in the first bytes of the tail. A sealed segment stays as it is.
abbrev pub cut : ℕ → SegmentRecords → SegmentRecords
cut kept s = if s.is_sealed then s else record s { stable = s.stable ++ whole_in (kept - head_width s) s.tail; tail = []; is_sealed = true }

-- the length of a tail's bytes
abbrev pub tail_width : SegmentRecords → ℕ
tail_width s = of s.tail
  where
    of : List Record → ℕ
    of [] = 0
    of (r ∷ rs) = head_width s + sum_by width (r ∷ rs)
