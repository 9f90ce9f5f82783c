-- What the bytes of a segment tell: the records of its lines, up to an end that may be torn. Segments are of version 1. Our own.
use Rattle.std.specs.Prelude.{◌≡◌, ◌+◌, ◌==◌, ◌||◌, ◌&&◌, ℕ, Bool, true, false, not, nat_lt, nat_eq, List, ◌++◌, length, if◌then◌else◌, Result, Ok, Err}
use Rattle.std.specs.List.{AllByRecursion}
use Rattle.mr_history.specs.declared.record.Record.{Record}
use Rattle.mr_history.specs.Line.{whole_line, lines, IsRecordOf}
use Rattle.mr_history.specs.Reading.{whole_lines, torn_of, version_of}
use Rattle.mr_out_layout.specs.declared.segments.Told.{Told}
use Rattle.mr_out_layout.specs.declared.segments.Damage.{Damage}
use Rattle.mr_out_layout.specs.declared.segments.Damage.TheVariants.{Line, NoMemory}

-- it does not begin with the line of a record
abbrev pub BeginsOtherwise : List ℕ → Type 0
BeginsOtherwise end = (r : Record) (rest : List ℕ) → IsRecordOf 1 r → end ≡ whole_line r ++ rest → ⊥

-- bytes are the lines of these records, and an end that begins otherwise
pub record Splits (bytes : List ℕ) (rs : List Record) (end : List ℕ) : Type 0 where
  pub are : bytes ≡ lines rs ++ end
  pub records : AllByRecursion (IsRecordOf 1) rs
  pub ends : BeginsOtherwise end

-- how many lines there are, one that has no line feed included
abbrev pub line_count : List ℕ → ℕ
line_count bytes = length (whole_lines bytes) + (if length (torn_of bytes) == 0 then 0 else 1)

-- A command that is killed leaves an end of at most 64 lines. At the head of a segment the line of another version is no such end.
abbrev pub is_damage : Bool → List ℕ → Bool
is_damage head end = nat_lt 64 (line_count end) || (head && nat_eq (version_of end) 2)

-- What bytes tell, at the head of a segment or behind some of its lines: the records before the end, and whether there is one; or the number of
-- the line, from 1, with which an end begins that is no torn one.
abbrev pub Tells : Bool → List ℕ → Result Told Damage → Type 0
Tells head bytes (Ok told) = (end : List ℕ) × (Splits bytes told.records end × (told.is_torn ≡ not (length end == 0)) × (is_damage (head && (length told.records == 0)) end ≡ false))
Tells head bytes (Err (Line n)) = (rs : List Record) × (end : List ℕ) × (Splits bytes rs end × (n ≡ length rs + 1) × (is_damage (head && (length rs == 0)) end ≡ true))
Tells head bytes (Err NoMemory) = Unit {0}
