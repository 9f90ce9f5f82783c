-- One segment of the history. That a flush makes bytes stable, that a crash keeps a front of the rest and that a
-- sealed segment takes nothing more is our own profile.
use Rattle.std.specs.Prelude.{◌≡◌, ◌≤◌, ◌+◌, ℕ, Bool, true, false, nat_lt, nat_eq, List, [], ◌∷◌, ◌++◌, length, take, Option, Some, None, unwrap_or, Result, Ok, Err, if◌then◌else◌}
use Rattle.mr_history.specs.declared.record.Record.{Record}
use Rattle.mr_history.specs.declared.fault.HistoryFault.{HistoryFault}
use Rattle.mr_history.specs.declared.fault.HistoryFault.TheVariants as fault
use Rattle.mr_history.specs.declared.segment.TheConstants.{MAX_SEGMENT_LEN}
use Rattle.mr_history.specs.State.{SegmentState}
use Rattle.std.specs.List.{AllByRecursion}
use Rattle.mr_history.specs.Line.{whole_line, width, lines, head, text, as_written, IsVersion, IsRecordOf}

-- a segment of this version in which nothing was written
abbrev pub fresh : ℕ → SegmentState
fresh version = record { version = version; stable = []; tail = []; is_sealed = false }

-- what comes before the next record: in a segment in which nothing was written, what its version begins with
abbrev pub opening : SegmentState → List ℕ
opening s = if nat_eq (length s.stable + length s.tail) 0 then head s.version else []

-- A record's line added to the tail, as the segment's version tells it. The version line comes with the first record.
abbrev pub appended : Record → SegmentState → SegmentState
appended r s = record s { tail = s.tail ++ opening s ++ whole_line (as_written s.version r) }

-- the tail made stable
abbrev pub flushed : SegmentState → SegmentState
flushed s = record s { stable = s.stable ++ s.tail; tail = [] }

-- A crash keeps the first `kept` bytes of the tail, and the rest is lost. A sealed segment stays as it is.
abbrev pub sealed : ℕ → SegmentState → SegmentState
sealed kept s = if s.is_sealed then s else record s { stable = s.stable ++ take kept s.tail; tail = []; is_sealed = true }

-- the fault of the first row that applies
abbrev pub first_of : List (Bool × HistoryFault) → Option HistoryFault
first_of [] = None
first_of (row ∷ rows) = if row.0 then Some row.1 else first_of rows

-- why `more` bytes are refused; the version line comes before them where it is still to come
abbrev pub growth_refusal : ℕ → SegmentState → Option HistoryFault
growth_refusal more s = first_of (
    (s.is_sealed, fault.Sealed)
    ∷ (nat_lt MAX_SEGMENT_LEN (length s.stable + length s.tail + length (opening s) + more), fault.Full) ∷ [])

abbrev pub append_refusal : Record → SegmentState → Option HistoryFault
append_refusal r s = growth_refusal (width (as_written s.version r)) s

abbrev pub flush_refusal : SegmentState → Option HistoryFault
flush_refusal s = first_of ((s.is_sealed, fault.Sealed) ∷ [])

-- A function made a change that has this refusal. Its fault is that refusal, or an allocation failure where there is none,
-- and changed nothing.
abbrev pub Changes : Option HistoryFault → SegmentState → SegmentState → Result (Unit {0}) HistoryFault → SegmentState → Type 0
Changes refusal old wanted (Ok u) new = (refusal ≡ None) × (new ≡ wanted)
Changes refusal old wanted (Err f) new = (f ≡ unwrap_or refusal fault.NoMemory) × (new ≡ old)

-- the same of a function that takes no memory
abbrev pub ChangesAlways : Option HistoryFault → SegmentState → SegmentState → Result (Unit {0}) HistoryFault → SegmentState → Type 0
ChangesAlways refusal old wanted (Ok u) new = (refusal ≡ None) × (new ≡ wanted)
ChangesAlways refusal old wanted (Err f) new = (refusal ≡ Some f) × (new ≡ old)

-- ---- what holds of each segment: its bytes are those of records and within the limit, and only a seal leaves a torn
-- end

-- what is added to a segment with the first records by the second ones
abbrev pub addition : ℕ → List Record → List Record → List ℕ
addition version [] ts = text version ts
addition version (r ∷ rs) ts = lines ts

-- some records are stable, and some in the tail
pub record IsOpen (version : ℕ) (stable tail : List ℕ) : Type 0 where
  pub first : List Record
  pub second : List Record
  pub are_first : AllByRecursion (IsRecordOf version) first
  pub are_second : AllByRecursion (IsRecordOf version) second
  pub stable_is : stable ≡ text version first
  pub tail_is : tail ≡ addition version first second

-- the first bytes of those of some records
pub record IsFront (version : ℕ) (bytes : List ℕ) : Type 0 where
  pub all : List Record
  pub kept : ℕ
  pub are : AllByRecursion (IsRecordOf version) all
  pub is : bytes ≡ take kept (text version all)

pub record IsSound (s : SegmentState) : Type 0 where
  pub when_open : s.is_sealed ≡ false → IsOpen s.version s.stable s.tail
  pub when_sealed : s.is_sealed ≡ true → IsFront s.version s.stable × (s.tail ≡ [])
  pub version : IsVersion s.version
  pub short : length s.stable + length s.tail ≤ MAX_SEGMENT_LEN
