-- The sequential execution of a job, against which a distributed one is measured (Dean and Ghemawat 2004, section 3.3).
use Rattle.std.specs.Prelude.{ℕ, ◌+◌, nat_eq, cond, List, [], ◌∷◌, ◌++◌, filter, Option, Some, None}
use Rattle.std.specs.Option.{option_map}
use Rattle.std.specs.List.{flat_map}
use Rattle.mr_user.specs.Computation.{Computation}
use Rattle.mr_user.specs.Groups.{groups_of}

-- a byte goes to the front of the first line
abbrev pub onto_first : ℕ → List (List ℕ) → List (List ℕ)
onto_first b [] = (b ∷ []) ∷ []
onto_first b (line ∷ lines) = (b ∷ line) ∷ lines

-- the lines of a split: the pieces before each line feed, and the rest after the last one if that is not empty
abbrev pub lines_of : List ℕ → List (List ℕ)
lines_of [] = []
lines_of (b ∷ bytes) = cond (nat_eq b 10) ([] ∷ lines_of bytes) (onto_first b (lines_of bytes))

-- both lists, one after the other, where both are there
abbrev pub both : {A : Type 0} → Option (List A) → Option (List A) → Option (List A)
both None y = None
both (Some x) None = None
both (Some x) (Some y) = Some (x ++ y)

module _ {K V : Type 0} (job : Computation K V) where
  -- the pairs of lines that are numbered from n, unless a line is refused
  abbrev pub pairs_of_lines : ℕ → ℕ → List (List ℕ) → Option (List (K × V))
  pairs_of_lines split n [] = Some []
  pairs_of_lines split n (line ∷ lines) = both (job.functions.mapped split n line) (pairs_of_lines split (n + 1) lines)

  -- the pairs of a split
  abbrev pub pairs_of_split : ℕ → List ℕ → Option (List (K × V))
  pairs_of_split split bytes = pairs_of_lines split 0 (lines_of bytes)

  -- the pairs of splits that are numbered from n: by split, by line, and as the map function gives them
  abbrev pub pairs_of_splits : ℕ → List (List ℕ) → Option (List (K × V))
  pairs_of_splits n [] = Some []
  pairs_of_splits n (bytes ∷ splits) = both (pairs_of_split n bytes) (pairs_of_splits (n + 1) splits)

  -- the pairs that go to reduce r
  abbrev pub part_of : ℕ → ℕ → List (K × V) → List (K × V)
  part_of reduces r ps = filter (λ p. nat_eq (job.functions.partition_of p.0 reduces) r) ps

  -- key text, tab, value text, line feed, for each value text of a key and its values
  abbrev pub key_lines : K × List V → List ℕ
  key_lines group = flat_map (λ text. job.functions.key_text group.0 ++ 9 ∷ text ++ 10 ∷ []) (job.functions.reduced group.0 group.1)

  -- the lines of the keys, rising, each reduced with all its values in order
  abbrev pub text_of : List (K × V) → List ℕ
  text_of ps = flat_map key_lines (groups_of job.cmp ps)

  -- the sequential execution: what it writes for reduce r, unless a line is refused
  abbrev pub output : ℕ → ℕ → List (List ℕ) → Option (List ℕ)
  output reduces r splits = option_map (λ ps. text_of (part_of reduces r ps)) (pairs_of_splits 0 splits)
