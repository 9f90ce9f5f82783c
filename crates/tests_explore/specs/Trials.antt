-- A run of four steps that remembers a number (our own).
use Rattle.std.specs.Prelude.{◌≡◌, ℕ, ◌+◌, ◌-◌, ◌*◌, ◌%◌, ◌^◌, Bool, ◌||◌, List, [], ◌∷◌, Option, Some, None, if◌then◌else◌, nat_lt, nat_le, nat_eq}
use Rattle.mr_explore_search.specs.Steps.{Onward, Goes, Ends, Full, Steps}
use Rattle.tests_explore.specs.declared.trial.Trial.{Trial}

-- its script is longer by one
abbrev pub longer : ℕ → ℕ
longer size = (size + 1) % 2 ^ 64

abbrev pub has_no_end : Trial → Bool
has_no_end c = nat_eq c.number 6

-- at its third step what it remembers is changed
abbrev pub stepped : Trial → Trial
stepped c = record {
  at = c.at + 1;
  number = if nat_eq (c.at + 1) 3 then ((c.number * 3) % 2 ^ 32) % 11 else c.number;
  size = longer c.size;
  limit = c.limit;
}

abbrev pub went : Trial → Onward Trial
went c = if has_no_end c || nat_le 4 c.at then Ends c else (if nat_le c.limit c.size then Full else Goes (stepped c))

abbrev pub with_number : Trial → ℕ → Trial
with_number c n = record { at = c.at; number = n; size = longer c.size; limit = c.limit }

-- what these faults make of it: the first one is put off, the second one sets it back, and the others change what it remembers
abbrev pub struck : ℕ → Trial → Option Trial
struck f c =
    if has_no_end c then None else (
    if nat_eq f 0 then (if nat_lt 1 c.at then Some (with_number c c.number) else None) else (
    if nat_eq f 1 then (if nat_eq c.at 0 then None else Some (record { at = c.at - 1; number = c.number; size = longer c.size; limit = c.limit })) else (
    if nat_eq f 2 then Some (with_number c (((c.number + 1) % 2 ^ 32) % 11)) else
    Some (with_number c (((c.number + 5) % 2 ^ 32) % 11)))))

abbrev pub puts_off : ℕ → Option ℕ
puts_off f = if nat_eq f 0 then Some 3 else None

abbrev pub trial : Steps Trial ℕ
trial = record { onward = went; faults = λ c. 2 ∷ 1 ∷ 0 ∷ []; befallen = struck; later = puts_off }

abbrev pub steps_left : Trial → ℕ
steps_left c = 4 - c.at

abbrev pub comes_before : Trial → Trial → Bool
comes_before c d = nat_le c.size d.size

abbrev pub two_alike : Trial → List ℕ → Trial → List ℕ → Type 0
two_alike c owed d other = (c.at ≡ d.at) × (c.number ≡ d.number) × (owed ≡ other)

abbrev pub are_one : Trial → Trial → Type 0
are_one c d = c.number ≡ d.number
