-- Laws of lines, segments and histories, by which the layers above can speak of records alone.
use Rattle.std.specs.Prelude.{◌≡◌, ◌≢◌, ◌≤◌, ◌<◌, ◌-◌, ℕ, true, false, nat_lt, nat_le, nat_eq, List, [], ◌∷◌, ◌++◌, length, take, replicate, sum_by, Some, None, is_some, Result, Ok, Err, is_ok, if◌then◌else◌}
use Rattle.std.specs.List.{AllByRecursion}
use Rattle.serde_json.specs.Read.{read}
use Rattle.mr_ids.specs.Attempt.{Attempt}
use Rattle.mr_ids.specs.declared.id.TaskId.{TaskId}
use Rattle.mr_history.specs.declared.record.Record.{Record}
use Rattle.mr_history.specs.declared.fault.HistoryFault.{HistoryFault}
use Rattle.mr_history.specs.declared.line.TheConstants.{MAX_LINE_LEN}
use Rattle.mr_history.specs.declared.fault.HistoryFault.TheVariants.{NoMemory}
use Rattle.mr_history.specs.State.{SegmentState, State}
use Rattle.mr_history.specs.Line.{line_of, version_line, head, text, lines, width, whole_in, suits, IsVersion, IsRecord, IsRecordOf}
use Rattle.mr_history.specs.Json.{value_of}
use Rattle.mr_history.specs.Reading.{record_of, records_as, records_of, version_of, torn_of, bad_line, HasNoFeed}
use Rattle.mr_history.specs.Segment.{fresh, appended, flushed, sealed, append_refusal, IsSound}
use Rattle.mr_history.specs.Calls.{Call, Append, Flush, Read, Done, Makes, MakesAlways, refused, effect, segment, with_segment, with_version, sealed_at, raised, call_of, records_in, records_before, AreUnraised}
use Rattle.mr_history.specs.Recorded.{recorded, unwritten, added, settled, cut, tail_width}
use Rattle.mr_history.specs.Winner.{winner_in, length_in}

-- A line is read back as its record, in the versions that can tell it, and whatever is read as a record is that
-- record's line. It is JSON, and not longer than the longest. The version line is no record.
pub record LinesReadBack : Type 0 where
  pub there : (version : ℕ) (r : Record) → IsRecordOf version r → record_of version (line_of r) ≡ Some r
  pub back : (version : ℕ) (line : List ℕ) (r : Record) → record_of version line ≡ Some r → IsRecordOf version r × (line ≡ line_of r)
  pub is_json : (r : Record) → IsRecord r → read (line_of r) ≡ Some (value_of r)
  pub has_no_feed : (r : Record) → IsRecord r → HasNoFeed (line_of r)
  pub is_short : (r : Record) → IsRecord r → length (line_of r) ≤ MAX_LINE_LEN
  pub of_version : (version : ℕ) → record_of version version_line ≡ None

-- Whole lines, and what follows them.
pub record LinesReplay : Type 0 where
  -- bytes that end with a line feed and more bytes: the records of both
  pub both : (version : ℕ) (bytes more : List ℕ) → torn_of bytes ≡ [] → (records_as version (bytes ++ more) ≡ records_as version bytes ++ records_as version more) × (torn_of (bytes ++ more) ≡ torn_of more)
  -- what a segment begins with, the lines of records, and bytes with no line feed
  pub of_lines : (version : ℕ) (rs : List Record) (torn : List ℕ) → IsVersion version → AllByRecursion (IsRecordOf version) rs → HasNoFeed torn →
      (records_of (head version ++ lines rs ++ torn) ≡ rs) × (torn_of (head version ++ lines rs ++ torn) ≡ torn) × (bad_line (head version ++ lines rs ++ torn) ≡ None) × (version_of (head version ++ lines rs ++ torn) ≡ version)
  -- how long lines are
  pub len : (rs : List Record) → length (lines rs) ≡ sum_by width rs

-- The first n bytes of a segment tell the records that lie whole in them, which are the first ones. Bytes that hold no
-- more than a part of the version line are of version 1, and no line of them is bad.
pub record FrontsReplay : Type 0 where
  pub whole : (version n : ℕ) (rs : List Record) → IsVersion version → AllByRecursion (IsRecordOf version) rs → records_of (take n (text version rs)) ≡ whole_in (n - length (head version)) rs
  pub good : (version n : ℕ) (rs : List Record) → IsVersion version → AllByRecursion (IsRecordOf version) rs → bad_line (take n (text version rs)) ≡ None
  pub version : (version n : ℕ) (r : Record) (rs : List Record) → IsVersion version → AllByRecursion (IsRecordOf version) (r ∷ rs) → version_of (take n (text version (r ∷ rs))) ≡ (if nat_le (length (head version)) n then version else 1)
  pub first : (n : ℕ) (rs : List Record) → (more : List Record) × (rs ≡ whole_in n rs ++ more)

-- Each change of a segment, seen at its records.
pub record SegmentsRecord : Type 0 where
  pub of_fresh : (version : ℕ) → recorded (fresh version) ≡ unwritten version
  pub of_appended : (s : SegmentState) (r : Record) → IsSound s → s.is_sealed ≡ false → IsRecord r → suits s.version r ≡ true → recorded (appended r s) ≡ added r (recorded s)
  pub of_flushed : (s : SegmentState) → IsSound s → s.is_sealed ≡ false → recorded (flushed s) ≡ settled (recorded s)
  pub of_sealed : (s : SegmentState) (kept : ℕ) → IsSound s → recorded (sealed kept s) ≡ cut kept (recorded s)
  pub stays : (s : SegmentState) (kept : ℕ) → s.is_sealed ≡ true → sealed kept s ≡ s
  pub tail_len : (s : SegmentState) → IsSound s → length s.tail ≡ tail_width (recorded s)

-- Each change keeps a segment sound, an append where it is not refused: so no segment passes the limit. Each record of a
-- sound segment is one that its version can tell.
pub record SegmentsStaySound : Type 0 where
  pub of_fresh : (version : ℕ) → IsVersion version → IsSound (fresh version)
  pub of_appended : (s : SegmentState) (r : Record) → IsSound s → append_refusal r s ≡ None → IsRecord r → suits s.version r ≡ true → IsSound (appended r s)
  pub of_flushed : (s : SegmentState) → IsSound s → s.is_sealed ≡ false → IsSound (flushed s)
  pub of_sealed : (s : SegmentState) (kept : ℕ) → IsSound s → IsSound (sealed kept s)
  pub no_bad_line : (s : SegmentState) → IsSound s → bad_line s.stable ≡ None
  pub are_stable : (s : SegmentState) → IsSound s → AllByRecursion (IsRecordOf s.version) (records_of s.stable)
  pub are_tail : (s : SegmentState) → IsSound s → AllByRecursion (IsRecordOf s.version) (records_as s.version s.tail)

-- A change of one segment changes no other, and raising seals and gives a version.
pub record OthersStay : Type 0 where
  pub named : (h : State) (k : ℕ) (s : SegmentState) → 1 ≤ k → k ≤ length h.segments → segment (with_segment h k s) k ≡ s
  pub others : (h : State) (j k : ℕ) (s : SegmentState) → 1 ≤ j → 1 ≤ k → j ≢ k → segment (with_segment h k s) j ≡ segment h j
  pub after_raise : (h : State) (j k kept version : ℕ) → 1 ≤ j → j ≤ length h.segments → h.fence < k →
      segment (raised k kept version h) j ≡ (if nat_eq j k then with_version version (segment h j) else (if nat_lt j k then sealed kept (segment h j) else segment h j))
  pub no_raise : (h : State) (k kept version : ℕ) → k ≤ h.fence → raised k kept version h ≡ h
  pub count : (h : State) (k kept version : ℕ) → length (raised k kept version h).segments ≡ length h.segments

-- A winner that is there stays when records are added behind, with the length that was recorded with it, and it is an
-- attempt at that task. Where there is none, what is added decides.
pub record WinnersStay : Type 0 where
  pub stays : (rs more : List Record) (t : TaskId) (a : Attempt) → winner_in rs t ≡ Some a → (winner_in (rs ++ more) t ≡ Some a) × (length_in (rs ++ more) t ≡ length_in rs t)
  pub decided : (rs more : List Record) (t : TaskId) → winner_in rs t ≡ None → (winner_in (rs ++ more) t ≡ winner_in more t) × (length_in (rs ++ more) t ≡ length_in more t)
  pub of_task : (rs : List Record) (t : TaskId) (a : Attempt) → winner_in rs t ≡ Some a → a.task ≡ t

-- the segment that made a winner, among those before and after it
pub record MadeIn (segments : List SegmentState) (t : TaskId) (a : Attempt) : Type 0 where
  pub before : List SegmentState
  pub by : SegmentState
  pub after : List SegmentState
  pub is : segments ≡ before ++ by ∷ after
  pub none_before : winner_in (records_in before) t ≡ None
  pub first : winner_in (records_of by.stable) t ≡ Some a
  pub same_length : length_in (records_in segments) t ≡ length_in (records_of by.stable) t
  pub has_length : is_some (length_in (records_in segments) t) ≡ nat_eq by.version 2

-- The record that made a winner tells a length exactly where its segment is of version 2.
abbrev pub WinnersHaveLengths : Type 0
WinnersHaveLengths = (segments : List SegmentState) (t : TaskId) (a : Attempt) → AllByRecursion IsSound segments → winner_in (records_in segments) t ≡ Some a → MadeIn segments t a

-- ---- refusals that are told before

-- A call that has a refusal answers it, and changes nothing; one that has none is made, or memory is wanting and nothing
-- changes. One that takes no memory is made.
pub record RefusalsAreHeard : Type 0 where
  pub refused_call : (old new : State) (k : ℕ) (call : Call) (result : Result (Unit {0}) HistoryFault) (f : HistoryFault) → Makes (λ _. Done) old k call result new → refused old k call ≡ Some f → (result ≡ Err f) × (new ≡ old)
  pub made : (old new : State) (k : ℕ) (call : Call) (u : Unit {0}) → Makes (λ _. Done) old k call (Ok u) new → new ≡ effect old k call
  pub wanting : (old new : State) (k : ℕ) (call : Call) (f : HistoryFault) → Makes {A = Unit {0}} (λ _. Done) old k call (Err f) new → refused old k call ≡ None → (f ≡ NoMemory) × (new ≡ old)
  pub always_refused : (old new : State) (k : ℕ) (call : Call) (result : Result (Unit {0}) HistoryFault) (f : HistoryFault) → MakesAlways (λ _. Done) old k call result new → refused old k call ≡ Some f → (result ≡ Err f) × (new ≡ old)
  pub always_made : (old new : State) (k : ℕ) (call : Call) (result : Result (Unit {0}) HistoryFault) → MakesAlways (λ _. Done) old k call result new → refused old k call ≡ None → (is_ok result ≡ true) × (new ≡ effect old k call)

-- ---- whole histories

-- What holds of each history that its changes make: a thousand segments, all sound; those below the fence are sealed,
-- and those above it are as they were made.
pub record IsHistory (h : State) : Type 0 where
  pub count : length h.segments ≡ 1000
  pub bound : h.fence ≤ 1000
  pub sound : AllByRecursion IsSound h.segments
  pub older : (k : ℕ) → 1 ≤ k → k < h.fence → (segment h k).is_sealed ≡ true
  pub unraised : AreUnraised h

-- A change of a history, by the generation that it is of. A seal tells how many bytes it keeps, and a raise gives a version too.
pub data Change : Type 0 where
  Calls : ℕ → Call → Change
  Seals : ℕ → ℕ → Change
  Raises : ℕ → ℕ → ℕ → Change

abbrev pub after : State → Change → State
after h (Calls k call) = (call_of h k call).1
after h (Seals k kept) = sealed_at k kept h
after h (Raises k kept version) = raised k kept version h

-- what a call may hand in
abbrev pub IsCall : SegmentState → Call → Type 0
IsCall s (Append r) = IsRecord r × (suits s.version r ≡ true)
IsCall s Flush = Unit {0}
IsCall s Read = Unit {0}

-- what each change asks
abbrev pub IsChange : State → Change → Type 0
IsChange h (Calls k call) = (1 ≤ k) × (k ≤ h.fence) × IsCall (segment h k) call
IsChange h (Seals k kept) = (1 ≤ k) × (k ≤ h.fence)
IsChange h (Raises k kept version) = (1 ≤ k) × (k ≤ 1000) × IsVersion version

-- A new history is one, and each change leaves one.
pub record HistoriesStay : Type 0 where
  pub of_new : IsHistory (record { segments = replicate 1000 (fresh 1); fence = 0 })
  pub of_change : (h : State) (c : Change) → IsHistory h → IsChange h c → IsHistory (after h c)
  pub each : (h : State) (k : ℕ) → IsHistory h → IsSound (segment h k)

-- What is stable stays, whatever changes a history. A sealed segment is as it was, stable bytes only grow at their end, and the segments
-- below the fence tell the records that they told. The fence is never lowered.
pub record StableStays : Type 0 where
  pub of_sealed : (h : State) (c : Change) (j : ℕ) → IsHistory h → IsChange h c → 1 ≤ j → (segment h j).is_sealed ≡ true → segment (after h c) j ≡ segment h j
  pub grows : (h : State) (c : Change) (j : ℕ) → IsHistory h → IsChange h c → 1 ≤ j → j ≤ 1000 → (more : List ℕ) × ((segment (after h c) j).stable ≡ (segment h j).stable ++ more)
  pub below : (h : State) (c : Change) → IsHistory h → IsChange h c → records_before (after h c) h.fence ≡ records_before h h.fence
  pub fence : (h : State) (c : Change) → IsHistory h → IsChange h c → h.fence ≤ (after h c).fence
