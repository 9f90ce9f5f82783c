-- Attempts in order of arrival: which are one, which is the first. Our own.
use Rattle.std.specs.Prelude.{Bool, false, not, List, [], ◌∷◌, ◌++◌, Option, Some, None, if◌then◌else◌, filter}
use Rattle.std.specs.List.{list_any}
use Rattle.mr_ids.specs.Attempt.{Attempt}
unfoldable pub use Rattle.mr_ids.specs.Same.{same_attempt}

-- whether a is among them
abbrev pub has : List Attempt → Attempt → Bool
has xs a = list_any (same_attempt a) xs

abbrev pub first_of : List Attempt → Option Attempt
first_of [] = None
first_of (x ∷ xs) = Some x

-- whether a is the first of them
abbrev pub is_first : List Attempt → Attempt → Bool
is_first [] a = false
is_first (x ∷ xs) a = same_attempt x a

-- with a as the last, if it is not there
abbrev pub with_last : List Attempt → Attempt → List Attempt
with_last xs a = if has xs a then xs else xs ++ a ∷ []

-- those other than a, in their order
abbrev pub without : List Attempt → Attempt → List Attempt
without xs a = filter (λ x. not (same_attempt a x)) xs
