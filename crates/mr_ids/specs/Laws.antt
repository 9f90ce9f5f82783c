-- Laws of the texts.
use Rattle.std.specs.Prelude.{◌≡◌, ◌≢◌, ℕ, true, ◌≤◌, ◌<◌, ◌^◌, length}
use Rattle.std.specs.List.{list_all}
use Rattle.std.specs.Char.{is_ascii_digit}
use Rattle.mr_ids.specs.declared.id.JobId.{JobId}
use Rattle.mr_ids.specs.declared.id.TaskId.{TaskId}
use Rattle.mr_ids.specs.Attempt.{Attempt}
use Rattle.mr_ids.specs.Text.{numeral, job_text, task_text, attempt_text, IsJob, IsTask, IsAttempt, IsPlain}

-- two identifiers of one kind with one text are one, and no text is of two kinds
pub record TextsAreDistinct : Type 0 where
  pub jobs : (i j : JobId) → job_text i ≡ job_text j → i ≡ j
  pub tasks : (t u : TaskId) → task_text t ≡ task_text u → t ≡ u
  pub attempts : (a b : Attempt) → attempt_text a ≡ attempt_text b → a ≡ b
  pub job_and_task : (j : JobId) (t : TaskId) → job_text j ≢ task_text t
  pub job_and_attempt : (j : JobId) (a : Attempt) → job_text j ≢ attempt_text a
  pub task_and_attempt : (t : TaskId) (a : Attempt) → task_text t ≢ attempt_text a

-- a numeral is of one number alone, whatever the widths
abbrev pub NumeralsAreDistinct : Type 0
NumeralsAreDistinct = (v w m n : ℕ) → numeral v m ≡ numeral w n → m ≡ n

-- a numeral is of digits alone, at least as many as its width
pub record NumeralsAreDigits : Type 0 where
  pub digits : (width n : ℕ) → list_all is_ascii_digit (numeral width n) ≡ true
  pub least : (width n : ℕ) → width ≤ length (numeral width n)
  pub most : (width n k : ℕ) → 0 < width → width ≤ k → n < 10 ^ k → n < 2 ^ 64 → length (numeral width n) ≤ k

-- a text is of letters, digits and bars alone, and short
pub record TextsArePlain : Type 0 where
  pub jobs : (j : JobId) → IsJob j → IsPlain 35 (job_text j)
  pub tasks : (t : TaskId) → IsTask t → IsPlain 49 (task_text t)
  pub attempts : (a : Attempt) → IsAttempt a → IsPlain 59 (attempt_text a)
