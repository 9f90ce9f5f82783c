-- What `history --json` tells of the bytes of a segment (our own profile).
use Rattle.std.specs.Prelude.{◌≡◌, ℕ, List, [], ◌∷◌, ◌++◌, length, None, codes}
use Rattle.std.specs.List.{flat_map}
use Rattle.serde_json.specs.Data.{Data}
use Rattle.mr_history.specs.declared.record.Record.{Record}
use Rattle.mr_history.specs.Json.{value_of}
use Rattle.mr_history.specs.Reading.{bad_line, records_of, torn_of, version_of}
use Rattle.mr_sim_json.specs.Members.{count, line_of, object_of}

-- a record as it stands in a segment
abbrev pub record_line : Record → List ℕ
record_line r = line_of (value_of r)

-- the version, and how many bytes behind the last whole line are torn
abbrev pub rest_object : ℕ → ℕ → Data
rest_object version torn = object_of ((codes "version", count version) ∷ (codes "torn", count torn) ∷ [])

abbrev pub rest_line : ℕ → ℕ → List ℕ
rest_line version torn = line_of (rest_object version torn)

-- all records, in order, and then the rest
abbrev pub segment_text : List ℕ → List ℕ
segment_text bytes = flat_map record_line (records_of bytes) ++ rest_line (version_of bytes) (length (torn_of bytes))

-- bytes in which no whole line is bad, and what is told of them
pub record TellsHistory (bytes text : List ℕ) : Type 0 where
  pub good : bad_line bytes ≡ None
  pub is : text ≡ segment_text bytes
