-- Objects of JSON (RFC 8259) by their members: each key stands once, in the order of its letters. What a value is, and its compact text, is told by serde_json.
use Rattle.std.specs.Prelude.{ℕ, Bool, false, ◌||◌, List, [], ◌∷◌, ◌++◌}
use Rattle.std.specs.Str.Lossy.{utf8_lossy}
use Rattle.serde_json.specs.Data.{Data, Members, array, no_members, number, object, put, string, unsigned}
use Rattle.serde_json.specs.View.{items_of}
use Rattle.serde_json.specs.Written.{compact_text, has_float}

-- a key and its value
abbrev pub Member : Type 0
Member = List ℕ × Data

-- an object's members with these put to them in turn
abbrev pub with_all : List Member → Members → Members
with_all [] ms = ms
with_all (m ∷ more) ms = with_all more (put m.0 m.1 ms)

abbrev pub object_of : List Member → Data
object_of all = object (with_all all no_members)

-- words; bytes of them that are no UTF-8 are replaced, as Rust's `from_utf8_lossy` does
abbrev pub text : List ℕ → Data
text words = string (utf8_lossy words)

abbrev pub count : ℕ → Data
count n = number (unsigned n)

abbrev pub list : List Data → Data
list all = array (items_of all)

-- a line of compact JSON
abbrev pub line_of : Data → List ℕ
line_of d = compact_text d ++ 10 ∷ []
