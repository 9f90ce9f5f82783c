-- The line of a record: JSON with no space, its keys in this order. The form of the lines is our own profile.
use Rattle.std.specs.Prelude.{◌≡◌, ◌≤◌, ◌<◌, ◌^◌, ◌+◌, ◌-◌, ℕ, Bool, true, ◌&&◌, nat_eq, nat_le, List, [], ◌∷◌, ◌++◌, length, flat_map, codes, decimal, Option, Some, None, is_some, is_none, if◌then◌else◌}
use Rattle.mr_ids.specs.Text.{attempt_text, numeral, IsAttempt}
pub use Rattle.mr_ids.specs.Kind.{is_map, is_reduce}
use Rattle.mr_history.specs.declared.record.TheConstants.{MAX_PART_LEN}
use Rattle.mr_history.specs.declared.record.Record.{Record}
use Rattle.mr_history.specs.declared.record.Record.TheVariants.{AttemptStarted, MapSucceeded, ReduceSucceeded, AttemptFailed, JobUnsuccessful}

-- A segment is of version 1 or 2. In version 2 the success of a reduce tells the length of its part file.
abbrev pub IsVersion : ℕ → Type 0
IsVersion version = (1 ≤ version) × (version ≤ 2)

-- the text that a record is written as, without the line feed
unfoldable pub line_of : Record → List ℕ
line_of (AttemptStarted a node) = codes "{\"attempt\":\"" ++ (attempt_text a ++ (codes "\",\"event\":\"started\",\"node\":" ++ (decimal node ++ codes "}")))
line_of (MapSucceeded a node incarnation) = codes "{\"attempt\":\"" ++ (attempt_text a ++ (codes "\",\"event\":\"map\",\"incarnation\":" ++ (decimal incarnation ++ (codes ",\"node\":" ++ (decimal node ++ codes "}")))))
line_of (ReduceSucceeded a None) = codes "{\"attempt\":\"" ++ (attempt_text a ++ codes "\",\"event\":\"reduce\"}")
line_of (ReduceSucceeded a (Some bytes)) = codes "{\"attempt\":\"" ++ (attempt_text a ++ (codes "\",\"bytes\":" ++ (decimal bytes ++ codes ",\"event\":\"reduce\"}")))
line_of (AttemptFailed a) = codes "{\"attempt\":\"" ++ (attempt_text a ++ codes "\",\"event\":\"failed\"}")
line_of JobUnsuccessful = codes "{\"event\":\"unsuccessful\"}"

-- the record's line, ended by its line feed
abbrev pub whole_line : Record → List ℕ
whole_line r = line_of r ++ 10 ∷ []

-- the lines of records, one after another
abbrev pub lines : List Record → List ℕ
lines rs = flat_map whole_line rs

-- the line that a segment of version 2 begins with, without the line feed
abbrev pub version_line : List ℕ
version_line = codes "{\"version\":2}"

-- what stands before the first record of a segment: the version line of version 2, and nothing in version 1
abbrev pub head : ℕ → List ℕ
head version = if nat_eq version 2 then version_line ++ 10 ∷ [] else []

-- all bytes of a segment of this version to which these records were appended: none before the first of them
abbrev pub text : ℕ → List Record → List ℕ
text version [] = []
text version (r ∷ rs) = head version ++ lines (r ∷ rs)

-- how many bytes a record takes
unfoldable pub width : Record → ℕ
width r = length (line_of r) + 1

-- how many of them a length takes, with its key and comma
abbrev pub bytes_width : Option ℕ → ℕ
bytes_width None = 0
bytes_width (Some bytes) = 9 + length (numeral 1 bytes)

-- the records whose whole lines are among the first n bytes of these records' lines
unfoldable pub whole_in : ℕ → List Record → List Record
whole_in n [] = []
whole_in n (r ∷ rs) = if nat_le (width r) n then r ∷ whole_in (n - width r) rs else []

-- a length, if there is one, is that of a file
abbrev pub is_length : Option ℕ → Bool
is_length None = true
is_length (Some bytes) = nat_le bytes MAX_PART_LEN

-- whether the attempt is of the kind that succeeds so, the incarnation is one, and the length is that of a file
abbrev pub fits : Record → Bool
fits (AttemptStarted a node) = true
fits (MapSucceeded a node incarnation) = is_map a.task.kind && nat_le 1 incarnation
fits (ReduceSucceeded a bytes) = is_reduce a.task.kind && is_length bytes
fits (AttemptFailed a) = true
fits JobUnsuccessful = true

-- what has a line: its numbers are in their ranges, its attempt is of the kind
abbrev pub IsIn32 : Option ℕ → Type 0
IsIn32 None = Unit {0}
IsIn32 (Some n) = n < 2 ^ 32

abbrev pub InRange : Record → Type 0
InRange (AttemptStarted a node) = IsAttempt a × (node < 2 ^ 32)
InRange (MapSucceeded a node incarnation) = IsAttempt a × (node < 2 ^ 32) × (incarnation < 2 ^ 32)
InRange (ReduceSucceeded a bytes) = IsAttempt a × IsIn32 bytes
InRange (AttemptFailed a) = IsAttempt a
InRange JobUnsuccessful = Unit {0}

abbrev pub IsRecord : Record → Type 0
IsRecord r = (fits r ≡ true) × InRange r

-- ---- a record in a version

-- what a segment of this version can take: one of version 2 asks for the length of a reduce's file
abbrev pub suits : ℕ → Record → Bool
suits version (AttemptStarted a node) = true
suits version (MapSucceeded a node incarnation) = true
suits version (ReduceSucceeded a bytes) = if nat_eq version 2 then is_some bytes else true
suits version (AttemptFailed a) = true
suits version JobUnsuccessful = true

-- the record as a segment of this version tells it: version 1 has no lengths
abbrev pub as_written : ℕ → Record → Record
as_written version (AttemptStarted a node) = AttemptStarted a node
as_written version (MapSucceeded a node incarnation) = MapSucceeded a node incarnation
as_written version (ReduceSucceeded a bytes) = ReduceSucceeded a (if nat_eq version 2 then bytes else None)
as_written version (AttemptFailed a) = AttemptFailed a
as_written version JobUnsuccessful = JobUnsuccessful

-- whether a segment of this version can tell the record: with a length exactly in version 2
abbrev pub is_of : ℕ → Record → Bool
is_of version (AttemptStarted a node) = true
is_of version (MapSucceeded a node incarnation) = true
is_of version (ReduceSucceeded a bytes) = if nat_eq version 2 then is_some bytes else is_none bytes
is_of version (AttemptFailed a) = true
is_of version JobUnsuccessful = true

abbrev pub IsRecordOf : ℕ → Record → Type 0
IsRecordOf version r = IsRecord r × (is_of version r ≡ true)
