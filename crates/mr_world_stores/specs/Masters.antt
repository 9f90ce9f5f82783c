-- A master's store call: what both stores answer, what they leave, and whether one of them is full. Our own.
use Rattle.std.specs.Prelude.{◌≡◌, ℕ, Bool, true, false, Option, Some, None, Ok, Err}
use Rattle.mr_names.specs.declared.op.Op.{Op}
use Rattle.mr_names.specs.declared.op.Op.TheVariants as op
use Rattle.mr_names.specs.declared.fault.NameFault.TheVariants as name_fault
use Rattle.mr_names.specs.Calls as names
use Rattle.mr_history.specs.declared.fault.HistoryFault.{HistoryFault}
use Rattle.mr_history.specs.declared.fault.HistoryFault.TheVariants as history_fault
use Rattle.mr_history.specs.Line.{InRange, fits, suits}
use Rattle.mr_history.specs.State as history
use Rattle.mr_history.specs.Calls as segments
use Rattle.mr_master_model.specs.declared.store.StoreCall.{StoreCall}
use Rattle.mr_master_model.specs.declared.store.StoreCall.TheVariants as call
use Rattle.mr_master_model.specs.declared.store.StoreAnswer.{StoreAnswer}
use Rattle.mr_master_model.specs.declared.store.StoreAnswer.TheVariants as answer
use Rattle.mr_world_model.specs.Stored.{master}
use Rattle.mr_master_refinement.specs.Stores.{told_of}
use Rattle.mr_world_stores.specs.Calls.{is_full}

-- the answer to the master of generation k
abbrev pub answer_to : names.State → history.State → ℕ → StoreCall → StoreAnswer
answer_to s h k (call.Names o) = answer.Names (names.call_of s (master k) o).0
answer_to s h k (call.Append r) = told_of (segments.Append r) (segments.call_of h k (segments.Append r)).0
answer_to s h k call.Flush = told_of segments.Flush (segments.call_of h k segments.Flush).0
answer_to s h k call.Read = told_of segments.Read (segments.call_of h k segments.Read).0

-- that of an append or a flush with this refusal
abbrev pub written_as : Option HistoryFault → StoreAnswer
written_as None = answer.Wrote (Ok tt)
written_as (Some f) = answer.Wrote (Err f)

-- the calls of the namespace that change nothing
abbrev pub is_look : Op → Bool
is_look (op.List p) = true
is_look (op.Exists p) = true
is_look (op.Read p) = true
is_look _ = false

-- the namespace after the call
abbrev pub names_after : names.State → ℕ → StoreCall → names.State
names_after s k (call.Names o) = (names.call_of s (master k) o).1
names_after s k _ = s

-- the history after it
abbrev pub history_after : history.State → ℕ → StoreCall → history.State
history_after h k (call.Append r) = (segments.call_of h k (segments.Append r)).1
history_after h k call.Flush = (segments.call_of h k segments.Flush).1
history_after h k _ = h

-- ---- whether a store is full

abbrev pub is_segment_full : Option HistoryFault → Bool
is_segment_full (Some history_fault.Full) = true
is_segment_full _ = false

-- the call would be refused for want of room
abbrev pub finds_full : names.State → history.State → ℕ → StoreCall → Bool
finds_full s h k (call.Names o) = is_full (names.refused s (master k) o)
finds_full s h k (call.Append r) = is_segment_full (segments.refused h k (segments.Append r))
finds_full s h k _ = false

-- the answer tells so
abbrev pub tells_full : StoreAnswer → Bool
tells_full (answer.Names (Err name_fault.Full)) = true
tells_full (answer.Wrote (Err history_fault.Full)) = true
tells_full _ = false

-- the numbers of a record that is appended are in their ranges
abbrev pub IsRanged : StoreCall → Type 0
IsRanged (call.Append r) = InRange r
IsRanged _ = Unit

-- a record that is appended has a line in its segment's version
abbrev pub IsSuited : history.State → ℕ → StoreCall → Type 0
IsSuited h k (call.Append r) = (fits r ≡ true) × (suits (segments.segment h k).version r ≡ true)
IsSuited h k _ = Unit
