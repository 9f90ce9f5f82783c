-- What bytes tell: a version, the records of the whole lines, and what is torn. Our own profile.
use Rattle.std.specs.Prelude.{◌≡◌, ◌≤◌, ◌==◌, ◌^◌, ◌+◌, ℕ, Bool, true, false, ◌&&◌, nat_lt, nat_eq, List, [], ◌∷◌, ◌++◌, length, codes, if◌then◌else◌, Option, Some, None, is_none, option_map, option_and_then, Result, Ok, Err, All}
use Rattle.std.specs.List.{slice_split, filter_map}
use Rattle.std.specs.Cmp.Lexicographic.{pointwise}
use Rattle.std.specs.Str.Parse.{digits_value}
use Rattle.serde_json.specs.Data.{Data}
use Rattle.serde_json.specs.Find.{get, as_str, as_number, as_u64}
use Rattle.serde_json.specs.Read.{read}
use Rattle.mr_ids.specs.Attempt.{Attempt}
use Rattle.mr_ids.specs.Text.{is_bar}
use Rattle.mr_ids.specs.declared.id.TaskKind.{TaskKind}
use Rattle.mr_ids.specs.declared.id.TaskKind.TheVariants.{Map, Reduce}
use Rattle.mr_history.specs.declared.record.Record.{Record}
use Rattle.mr_history.specs.declared.record.Record.TheVariants.{AttemptStarted, MapSucceeded, ReduceSucceeded, AttemptFailed, JobUnsuccessful}
use Rattle.mr_history.specs.declared.reading.Replayed.{Replayed}
use Rattle.mr_history.specs.declared.line.TheConstants.{MAX_LINE_LEN}
use Rattle.mr_history.specs.declared.fault.HistoryFault.{HistoryFault}
use Rattle.mr_history.specs.declared.fault.HistoryFault.TheVariants.{Superseded, Sealed, BadLine, Full, NoMemory}
use Rattle.mr_history.specs.Line.{line_of, version_line, fits, is_of}

-- ---- one line

-- the bytes are equal
abbrev pub is_text : List ℕ → List ℕ → Bool
is_text xs ys = pointwise nat_eq xs ys

-- An attempt, a number or a record that a text may tell. Whatever else the text holds is not looked at here, since a line is a record only
-- where it is the record's own line.
abbrev pub number_told : List ℕ → ℕ
number_told text = digits_value 10 text

abbrev pub kind_told : List ℕ → TaskKind
kind_told text = if is_text text (codes "m") then Map else Reduce

abbrev pub attempt_from : List (List ℕ) → Option Attempt
attempt_from (word ∷ start ∷ job ∷ kind ∷ task ∷ number ∷ fields) = Some (record { task = record { job = record { start = number_told start; number = number_told job }; kind = kind_told kind; number = number_told task }; number = number_told number })
attempt_from _ = None

abbrev pub attempt_told : List ℕ → Option Attempt
attempt_told text = attempt_from (slice_split is_bar text)

abbrev pub text_at : List ℕ → Data → Option (List ℕ)
text_at key value = option_and_then as_str (get key value)

abbrev pub number_at : List ℕ → Data → Option ℕ
number_at key value = option_and_then as_u64 (option_and_then as_number (get key value))

abbrev pub record_told : List ℕ → Option Attempt → Option ℕ → Option ℕ → Option ℕ → Option Record
record_told event attempt bytes node incarnation =
    if is_text event (codes "unsuccessful") then Some JobUnsuccessful
    else (if is_text event (codes "reduce") then option_map (λ a. ReduceSucceeded a bytes) attempt
    else (if is_text event (codes "failed") then option_map AttemptFailed attempt
    else (if is_text event (codes "started") then option_and_then (λ a. option_map (λ n. AttemptStarted a n) node) attempt
    else option_and_then (λ a. option_and_then (λ n. option_map (λ i. MapSucceeded a n i) incarnation) node) attempt)))

abbrev pub record_in : Data → Option Record
record_in value = option_and_then (λ event. record_told event (option_and_then attempt_told (text_at (codes "attempt") value)) (number_at (codes "bytes") value) (number_at (codes "node") value) (number_at (codes "incarnation") value)) (text_at (codes "event") value)

-- the ranges of a record, as a test
abbrev pub is_id : Attempt → Bool
is_id a = nat_lt a.task.job.start (2 ^ 64) && nat_lt a.task.job.number (2 ^ 32) && nat_lt a.task.number (2 ^ 32) && nat_lt a.number 1000000

abbrev pub in_range : Record → Bool
in_range (AttemptStarted a node) = is_id a && nat_lt node (2 ^ 32)
in_range (MapSucceeded a node incarnation) = is_id a && nat_lt node (2 ^ 32) && nat_lt incarnation (2 ^ 32)
in_range (ReduceSucceeded a None) = is_id a
in_range (ReduceSucceeded a (Some bytes)) = is_id a && nat_lt bytes (2 ^ 32)
in_range (AttemptFailed a) = is_id a
in_range JobUnsuccessful = true

-- the record, if it has a line in this version and this is it
abbrev pub if_written : ℕ → List ℕ → Record → Option Record
if_written version line r = if fits r && in_range r && is_of version r && is_text line (line_of r) then Some r else None

-- A line is a record of a segment exactly when it is the text that the record is written as in the segment's version.
unfoldable pub record_of : ℕ → List ℕ → Option Record
record_of version line = option_and_then (if_written version line) (option_and_then record_in (read line))

-- ---- the lines of bytes

abbrev pub is_feed : ℕ → Bool
is_feed b = b == 10

abbrev pub HasNoFeed : List ℕ → Type 0
HasNoFeed bytes = All (λ b. is_feed b ≡ false) bytes

-- all pieces but the last
abbrev pub all_but_last : List (List ℕ) → List (List ℕ)
all_but_last [] = []
all_but_last (piece ∷ []) = []
all_but_last (piece ∷ next ∷ pieces) = piece ∷ all_but_last (next ∷ pieces)

abbrev pub last_piece : List (List ℕ) → List ℕ
last_piece [] = []
last_piece (piece ∷ []) = piece
last_piece (piece ∷ next ∷ pieces) = last_piece (next ∷ pieces)

-- the lines that a line feed ends, without it
unfoldable pub whole_lines : List ℕ → List (List ℕ)
whole_lines bytes = all_but_last (slice_split is_feed bytes)

-- what stands after the last line feed
unfoldable pub torn_of : List ℕ → List ℕ
torn_of bytes = last_piece (slice_split is_feed bytes)

-- Bytes are of version 2 where their first whole line is the version line, and else of version 1.
abbrev pub version_in : List (List ℕ) → ℕ
version_in [] = 1
version_in (line ∷ more) = if is_text line version_line then 2 else 1

unfoldable pub version_of : List ℕ → ℕ
version_of bytes = version_in (whole_lines bytes)

-- the records of bytes that lie in a segment of this version: those of the whole lines (the version line is no record)
unfoldable pub records_as : ℕ → List ℕ → List Record
records_as version bytes = filter_map (record_of version) (whole_lines bytes)

-- the records of the bytes of a segment, read in the version that they show
abbrev pub records_of : List ℕ → List Record
records_of bytes = records_as (version_of bytes) bytes

-- the number, from 1, of the first of these lines that is no record of the version
abbrev pub bad_among : ℕ → List (List ℕ) → Option ℕ
bad_among version [] = None
bad_among version (line ∷ more) = if is_none (record_of version line) then Some 1 else option_map (λ n. n + 1) (bad_among version more)

-- the same of all lines of a segment, of which the first may be the version line: it counts
abbrev pub bad_in : List (List ℕ) → Option ℕ
bad_in [] = None
bad_in (line ∷ more) = if is_text line version_line then option_map (λ n. n + 1) (bad_among 2 more) else bad_among 1 (line ∷ more)

unfoldable pub bad_line : List ℕ → Option ℕ
bad_line bytes = bad_in (whole_lines bytes)

-- the whole lines that are to be records: all but the version line at the head
abbrev pub record_lines : List (List ℕ) → List (List ℕ)
record_lines [] = []
record_lines (line ∷ more) = if is_text line version_line then more else line ∷ more

-- A line among these, no longer than a record's longest, behind lines that are records of the version: it is read in
-- memory. A longer one is no record, and the version line is compared where it lies.
pub record TakesMemory (version : ℕ) (lines : List (List ℕ)) : Type 0 where
  pub before : List (List ℕ)
  pub line : List ℕ
  pub after : List (List ℕ)
  pub are : lines ≡ before ++ line ∷ after
  pub good : bad_among version before ≡ None
  pub short : length line ≤ MAX_LINE_LEN

-- What replaying bytes gives: the version, all records and how many bytes are torn, unless a whole line is bad.
-- Memory may be refused for a line that is read in memory, which the bytes then hold.
abbrev pub Replays : List ℕ → Result Replayed HistoryFault → Type 0
Replays bytes (Ok p) = (bad_line bytes ≡ None) × (p.version ≡ version_of bytes) × (p.records ≡ records_of bytes) × (p.torn ≡ length (torn_of bytes))
Replays bytes (Err (BadLine n)) = bad_line bytes ≡ Some n
Replays bytes (Err NoMemory) = TakesMemory (version_of bytes) (record_lines (whole_lines bytes))
Replays bytes (Err (Superseded fence)) = ⊥
Replays bytes (Err Sealed) = ⊥
Replays bytes (Err Full) = ⊥
