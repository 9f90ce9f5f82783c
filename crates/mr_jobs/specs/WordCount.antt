-- What the count of words gives (a profile of its own).
use Rattle.std.specs.Prelude.{ℕ, ◌-◌, ◌^◌, min, sum, map, List, [], ◌∷◌, Some, decimal}
use Rattle.mr_user.specs.Computation.{Functions}
use Rattle.mr_jobs.specs.Words.{words_of, word_partition}

-- a sum, held at 2^64 - 1
abbrev pub held_sum : List ℕ → ℕ
held_sum counts = min (sum counts) (2 ^ 64 - 1)

-- each word with a one, and the sum of the ones
abbrev pub word_count : Functions (List ℕ) ℕ
word_count = record {
  mapped = λ split line_no line. Some (map (λ word. (word, 1)) (words_of line));
  partition_of = word_partition;
  combined = λ word counts. held_sum counts ∷ [];
  reduced = λ word counts. decimal (held_sum counts) ∷ [];
  key_text = λ word. word;
}
