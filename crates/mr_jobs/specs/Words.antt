-- The words of a line, and where a word goes (a profile of its own).
use Rattle.std.specs.Prelude.{ℕ, ◌%◌, ◌||◌, nat_eq, sum, filter, not, length, Bool, List}
use Rattle.std.specs.List.{slice_split}

-- a space or a tab
abbrev pub is_gap : ℕ → Bool
is_gap b = nat_eq b 32 || nat_eq b 9

abbrev pub is_empty : List ℕ → Bool
is_empty bytes = nat_eq (length bytes) 0

-- the longest runs of bytes other than space and tab
abbrev pub words_of : List ℕ → List (List ℕ)
words_of line = filter (λ word. not (is_empty word)) (slice_split is_gap line)

-- the sum of a word's bytes modulo the number of reduces
abbrev pub word_partition : List ℕ → ℕ → ℕ
word_partition word reduces = sum word % reduces
