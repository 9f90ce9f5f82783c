-- What the greatest number of each key is (a profile of its own).
use Rattle.std.specs.Prelude.{ℕ, ◌^◌, ◌&&◌, nat_lt, nat_le, max, length, Bool, List, [], ◌∷◌, Option, Some, None, decimal, if◌then◌else◌}
use Rattle.std.specs.List.{list_all}
use Rattle.std.specs.Option.{option_map}
use Rattle.std.specs.Char.{is_ascii_digit}
use Rattle.std.specs.Str.Parse.{digits_value}
use Rattle.mr_user.specs.Computation.{Functions}
use Rattle.mr_jobs.specs.Words.{words_of, word_partition}

-- 1 to 20 digits, with a value below 2^64
abbrev pub is_number : List ℕ → Bool
is_number word = list_all is_ascii_digit word && nat_lt 0 (length word) && nat_le (length word) 20 && nat_lt (digits_value 10 word) (2 ^ 64)

-- the number that a word writes
abbrev pub number_of : List ℕ → Option ℕ
number_of word = if is_number word then Some (digits_value 10 word) else None

-- the pairs of a line's words: none of no word, one of a key and a number, and every other line is refused
abbrev pub numbered : List (List ℕ) → Option (List (List ℕ × ℕ))
numbered [] = Some []
numbered (key ∷ []) = None
numbered (key ∷ word ∷ []) = option_map (λ number. (key, number) ∷ []) (number_of word)
numbered (key ∷ word ∷ third ∷ words) = None

-- the greatest of numbers
abbrev pub greatest : List ℕ → ℕ
greatest [] = 0
greatest (number ∷ numbers) = max number (greatest numbers)

abbrev pub max_by_key : Functions (List ℕ) ℕ
max_by_key = record {
  mapped = λ split line_no line. numbered (words_of line);
  partition_of = word_partition;
  combined = λ key numbers. greatest numbers ∷ [];
  reduced = λ key numbers. decimal (greatest numbers) ∷ [];
  key_text = λ key. key;
}
