-- The calls of the history: when each is refused, what it answers and what it leaves. That a generation recovers from the history of those
-- before it restates the Hadoop MapReduce application master, as the committer architecture document describes it. Segments, seals and the
-- fence are our own profile.
use Rattle.std.specs.Prelude.{◌≡◌, ◌<◌, ◌-◌, ℕ, nat_lt, List, ◌++◌, take, drop, map, set, get_or, flat_map, Option, Some, None, unwrap_or, Result, Ok, Err, if◌then◌else◌}
use Rattle.mr_history.specs.declared.record.Record.{Record}
use Rattle.mr_history.specs.declared.fault.HistoryFault.{HistoryFault}
use Rattle.mr_history.specs.declared.fault.HistoryFault.TheVariants as fault
use Rattle.mr_history.specs.State.{SegmentState, State}
use Rattle.mr_history.specs.Segment.{fresh, appended, flushed, sealed, append_refusal, flush_refusal}
use Rattle.mr_history.specs.Reading.{records_of}

-- the segment of a generation
abbrev pub segment : State → ℕ → SegmentState
segment h k = get_or h.segments (k - 1) (fresh 1)

abbrev pub with_segment : State → ℕ → SegmentState → State
with_segment h k s = record h { segments = set h.segments (k - 1) s }

-- the records of some segments, in order: those of their stable bytes
abbrev pub records_in : List SegmentState → List Record
records_in segments = flat_map (λ s. records_of s.stable) segments

-- the records of a history: those of the segments up to the fence, by rising number. None above it was written to
abbrev pub records : State → List Record
records h = records_in (take h.fence h.segments)

-- those of the segments before k
abbrev pub records_before : State → ℕ → List Record
records_before h k = records_in (take (k - 1) h.segments)

-- a call of a generation
pub data Call : Type 0 where
  Append : Record → Call
  Flush : Call
  Read : Call

pub data Answer : Type 0 where
  Done : Answer
  Told : List Record → Answer

-- why a call is refused, memory aside: the fence comes first
abbrev pub refusal : SegmentState → Call → Option HistoryFault
refusal s (Append r) = append_refusal r s
refusal s Flush = flush_refusal s
refusal s Read = None

-- why a call of k is refused for the fence
abbrev pub superseded : State → ℕ → Option HistoryFault
superseded h k = if nat_lt k h.fence then Some (fault.Superseded h.fence) else None

abbrev pub refused : State → ℕ → Call → Option HistoryFault
refused h k call = if nat_lt k h.fence then Some (fault.Superseded h.fence) else refusal (segment h k) call

-- ---- effects and answers of a call that is not refused

abbrev pub effect : State → ℕ → Call → State
effect h k (Append r) = with_segment h k (appended r (segment h k))
effect h k Flush = with_segment h k (flushed (segment h k))
effect h k Read = h

abbrev pub answer : State → ℕ → Call → Answer
answer h k (Append r) = Done
answer h k Flush = Done
answer h k Read = Told (records_before h k)

-- ---- the call

abbrev pub settled : Option HistoryFault → State → ℕ → Call → Result Answer HistoryFault × State
settled None h k call = (Ok (answer h k call), effect h k call)
settled (Some f) h k call = (Err f, h)

-- the answer of a call, and the history after it. A refusal changes nothing
abbrev pub call_of : State → ℕ → Call → Result Answer HistoryFault × State
call_of h k call = settled (refused h k call) h k call

-- A function made the call: where it answered, as the call does. Its fault is the call's, or an allocation failure
-- where the call has none, and changed nothing.
abbrev pub Makes : {A : Type 0} → (A → Answer) → State → ℕ → Call → Result A HistoryFault → State → Type 0
Makes shows old k call (Ok a) new = call_of old k call ≡ (Ok (shows a), new)
Makes shows old k call (Err f) new = (f ≡ unwrap_or (refused old k call) fault.NoMemory) × (new ≡ old)

-- the same of a function that takes no memory
abbrev pub MakesAlways : {A : Type 0} → (A → Answer) → State → ℕ → Call → Result A HistoryFault → State → Type 0
MakesAlways shows old k call (Ok a) new = call_of old k call ≡ (Ok (shows a), new)
MakesAlways shows old k call (Err f) new = call_of old k call ≡ (Err f, new)

-- ---- what nobody can be refused

-- the segment of k sealed, the others as they are
abbrev pub sealed_at : ℕ → ℕ → State → State
sealed_at k kept h = with_segment h k (sealed kept (segment h k))

-- the segment with this version
abbrev pub with_version : ℕ → SegmentState → SegmentState
with_version version s = record s { version = version }

-- A greater generation raises the fence, seals every older segment, and its own is of this version.
abbrev pub raised : ℕ → ℕ → ℕ → State → State
raised k kept version h = if nat_lt h.fence k then with_segment (record { segments = map (sealed kept) (take (k - 1) h.segments) ++ drop (k - 1) h.segments; fence = k }) k (with_version version (segment h k)) else h

-- Segments above the fence are as they were made.
abbrev pub AreUnraised : State → Type 0
AreUnraised h = (k : ℕ) → h.fence < k → segment h k ≡ fresh 1
