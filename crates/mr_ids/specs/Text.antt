-- The text of each identifier: its one spelling.
-- The forms are those of Hadoop MapReduce, which names the attempts' directories by them (the architecture document of its committers).
-- That a number has one spelling, and its range, are our own profile.
use Rattle.std.specs.Prelude.{◌<◌, ◌≤◌, ◌≡◌, ◌^◌, ◌-◌, ◌+◌, ◌==◌, ◌||◌, ℕ, Bool, true, List, [], ◌∷◌, ◌++◌, length, map, replicate, codes}
use Rattle.std.specs.List.{join_with_byte, list_all}
use Rattle.std.specs.Char.{is_ascii_alphanumeric}
use Rattle.std.specs.Int.Digits.{digits_of}
use Rattle.mr_ids.specs.declared.id.TaskKind.{TaskKind}
use Rattle.mr_ids.specs.declared.id.TaskKind.TheVariants.{Map, Reduce}
use Rattle.mr_ids.specs.declared.id.JobId.{JobId}
use Rattle.mr_ids.specs.declared.id.TaskId.{TaskId}
use Rattle.mr_ids.specs.Attempt.{Attempt}

-- the bar between two fields
abbrev pub is_bar : ℕ → Bool
is_bar b = b == 95

-- decimal digits, with zeros in front up to the width: at width 1 those of 0 are `0`
abbrev pub numeral : ℕ → ℕ → List ℕ
numeral width n = replicate (width - length (digits_of 10 n)) 48 ++ map (λ d. 48 + d) (digits_of 10 n)

abbrev pub letter : TaskKind → List ℕ
letter Map = codes "m"
letter Reduce = codes "r"

-- the fields between the bars, without the first, which is the word
abbrev pub job_fields : JobId → List (List ℕ)
job_fields j = numeral 1 j.start ∷ numeral 4 j.number ∷ []

abbrev pub task_fields : TaskId → List (List ℕ)
task_fields t = job_fields t.job ++ letter t.kind ∷ numeral 6 t.number ∷ []

abbrev pub attempt_fields : Attempt → List (List ℕ)
attempt_fields a = task_fields a.task ++ numeral 1 a.number ∷ []

abbrev pub job_text : JobId → List ℕ
job_text j = join_with_byte 95 (codes "job" ∷ job_fields j)

abbrev pub task_text : TaskId → List ℕ
task_text t = join_with_byte 95 (codes "task" ∷ task_fields t)

abbrev pub attempt_text : Attempt → List ℕ
attempt_text a = join_with_byte 95 (codes "attempt" ∷ attempt_fields a)

-- the ranges of the numbers
pub record IsJob (j : JobId) : Type 0 where
  pub start : j.start < 2 ^ 64
  pub number : j.number < 2 ^ 32

pub record IsTask (t : TaskId) : Type 0 where
  pub job : IsJob t.job
  pub number : t.number < 2 ^ 32

pub record IsAttempt (a : Attempt) : Type 0 where
  pub task : IsTask a.task
  pub number : a.number < 1000000

-- a text of ASCII letters, digits and bars alone, with at least one byte and at most `most`: it can name a file
pub record IsPlain (most : ℕ) (text : List ℕ) : Type 0 where
  pub some : 0 < length text
  pub short : length text ≤ most
  pub plain : list_all (λ b. is_ascii_alphanumeric b || is_bar b) text ≡ true
