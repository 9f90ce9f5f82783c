-- What `history` prints for the bytes of a segment. Our own format.
use Rattle.std.specs.Prelude.{◌≡◌, ℕ, List, [], ◌∷◌, ◌++◌, length, flat_map, codes, decimal, nat_eq, Option, Some, None, if◌then◌else◌}
use Rattle.mr_ids.specs.Text.{attempt_text}
use Rattle.mr_history.specs.declared.record.Record.{Record}
use Rattle.mr_history.specs.declared.record.Record.TheVariants.{AttemptStarted, MapSucceeded, ReduceSucceeded, AttemptFailed, JobUnsuccessful}
use Rattle.mr_history.specs.declared.fault.HistoryFault.{HistoryFault}
use Rattle.mr_history.specs.declared.fault.HistoryFault.TheVariants.{Superseded, Sealed, BadLine, Full, NoMemory}
use Rattle.mr_history.specs.Reading.{version_of, records_of, torn_of, bad_line}

-- the length of a part file, where there is one
abbrev pub length_text : Option ℕ → List ℕ
length_text None = []
length_text (Some bytes) = codes " bytes " ++ decimal bytes

-- one record
abbrev pub record_text : Record → List ℕ
record_text (AttemptStarted a node) = codes "started " ++ attempt_text a ++ codes " node " ++ decimal node
record_text (MapSucceeded a node incarnation) = codes "map " ++ attempt_text a ++ codes " node " ++ decimal node ++ codes " incarnation " ++ decimal incarnation
record_text (ReduceSucceeded a bytes) = codes "reduce " ++ attempt_text a ++ length_text bytes
record_text (AttemptFailed a) = codes "failed " ++ attempt_text a
record_text JobUnsuccessful = codes "unsuccessful"

abbrev pub record_line : Record → List ℕ
record_line r = record_text r ++ 10 ∷ []

-- how many bytes were dropped
abbrev pub torn_line : ℕ → List ℕ
torn_line n = codes "torn " ++ decimal n ++ 10 ∷ []

-- which version it is: of a segment of version 1 nothing is said
abbrev pub version_text : ℕ → List ℕ
version_text version = if nat_eq version 2 then codes "version 2" ++ 10 ∷ [] else []

-- the version, all records, and then what is torn
abbrev pub history_text : List ℕ → List ℕ
history_text bytes = version_text (version_of bytes) ++ flat_map record_line (records_of bytes) ++ torn_line (length (torn_of bytes))

-- bytes in which no whole line is bad, and what is printed for them
pub record PrintsHistory (bytes text : List ℕ) : Type 0 where
  pub good : bad_line bytes ≡ None
  pub is : text ≡ history_text bytes

-- why nothing is printed: the first bad line, or an allocation failure
abbrev pub RefusesHistory : List ℕ → HistoryFault → Type 0
RefusesHistory bytes (BadLine n) = bad_line bytes ≡ Some n
RefusesHistory bytes NoMemory = Unit {0}
RefusesHistory bytes (Superseded fence) = ⊥
RefusesHistory bytes Sealed = ⊥
RefusesHistory bytes Full = ⊥
