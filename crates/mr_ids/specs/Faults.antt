-- What is wrong with a text that is no identifier: its first field from the left that is not what its place asks for, and how.
-- The fields are the pieces of the text between its bars. All of this is our own profile.
use Rattle.std.specs.Prelude.{ℕ, Bool, true, false, List, [], ◌∷◌, ◌++◌, ◌^◌, length, nat_eq, nat_lt, ◌&&◌, ◌||◌, Option, Some, None, codes}
use Rattle.std.specs.List.{list_all}
use Rattle.std.specs.Option.{option_or}
use Rattle.std.specs.Cmp.Lexicographic.{pointwise}
use Rattle.std.specs.Char.{is_ascii_digit}
use Rattle.std.specs.Str.Parse.{digits_value}
use Rattle.mr_ids.specs.declared.fault.IdFault.{IdFault}
use Rattle.mr_ids.specs.declared.fault.IdFault.TheVariants as fault
use Rattle.mr_ids.specs.declared.id.TaskKind.TheVariants.{Map, Reduce}
use Rattle.mr_ids.specs.Text.{numeral, letter}

-- what stands at a place: a word, a number of some width and below some limit, or the letter of a task's kind
pub data Place : Type 0 where
  Word : List ℕ → Place
  Number : ℕ → ℕ → Place
  Letter : Place

abbrev pub is_text : List ℕ → List ℕ → Bool
is_text = pointwise nat_eq

-- some digits, and their value below the limit
abbrev pub is_number : ℕ → List ℕ → Bool
is_number limit field = list_all is_ascii_digit field && nat_lt 0 (length field) && nat_lt (digits_value 10 field) limit

-- digits that are the one spelling of their value
abbrev pub is_spelled : ℕ → List ℕ → Bool
is_spelled width field = is_text field (numeral width (digits_value 10 field))

-- how a field is wrong for its place, if it is
abbrev pub unless : Bool → IdFault → Option IdFault
unless true fault = None
unless false fault = Some fault

abbrev pub fault_of : Place → List ℕ → Option IdFault
fault_of (Word word) field = unless (is_text field word) fault.Prefix
fault_of (Number width limit) field = option_or (unless (is_number limit field) fault.Number) (unless (is_spelled width field) fault.Width)
fault_of Letter field = unless (is_text field (letter Map) || is_text field (letter Reduce)) fault.Kind

-- the fault of a place whose field is missing
abbrev pub missing : Place → IdFault
missing (Word word) = fault.Prefix
missing (Number width limit) = fault.Number
missing Letter = fault.Kind

-- the first fault from the left: that of the first field that is wrong or missing, or else that a field is left over
abbrev pub first_fault : List Place → List (List ℕ) → Option IdFault
first_fault [] [] = None
first_fault [] (field ∷ fields) = Some fault.Trailing
first_fault (place ∷ places) [] = Some (missing place)
first_fault (place ∷ places) (field ∷ fields) = option_or (fault_of place field) (first_fault places fields)

-- what stands at each place of a text
abbrev pub job_numbers : List Place
job_numbers = Number 1 (2 ^ 64) ∷ Number 4 (2 ^ 32) ∷ []

abbrev pub task_numbers : List Place
task_numbers = job_numbers ++ Letter ∷ Number 6 (2 ^ 32) ∷ []

abbrev pub job_places : List Place
job_places = Word (codes "job") ∷ job_numbers

abbrev pub task_places : List Place
task_places = Word (codes "task") ∷ task_numbers

abbrev pub attempt_places : List Place
attempt_places = Word (codes "attempt") ∷ task_numbers ++ Number 1 1000000 ∷ []
