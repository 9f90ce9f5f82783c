-- Where a job's committer keeps what it makes, beneath the job's destination.
-- These are the paths of the Hadoop MapReduce committer architecture document. That part files are named
-- `part-r-` and at least five digits is that of the Hadoop OutputFormat; the staging folder is our own profile.
use Rattle.std.specs.Prelude.{ℕ, Bool, false, ◌==◌, ◌||◌, List, [], ◌∷◌, ◌++◌, codes}
use Rattle.mr_ids.specs.Attempt.{Attempt}
use Rattle.mr_ids.specs.declared.id.TaskId.{TaskId}
use Rattle.mr_ids.specs.Text.{numeral, task_text, attempt_text}

-- the name of each directory of work that is not yet output
abbrev pub temporary_name : List ℕ
temporary_name = codes "_temporary"

-- the name of the empty file that says that the output is whole
abbrev pub marker_name : List ℕ
marker_name = codes "_SUCCESS"

-- $dest/_temporary
unfoldable pub temporary : List (List ℕ) → List (List ℕ)
temporary dest = dest ++ temporary_name ∷ []

-- $dest/_temporary/k, of the master's generation k
unfoldable pub job_attempt : List (List ℕ) → ℕ → List (List ℕ)
job_attempt dest k = dest ++ temporary_name ∷ numeral 1 k ∷ []

-- $dest/_temporary/k/_temporary/<attempt>
unfoldable pub task_attempt : List (List ℕ) → ℕ → Attempt → List (List ℕ)
task_attempt dest k a = dest ++ temporary_name ∷ numeral 1 k ∷ temporary_name ∷ attempt_text a ∷ []

-- $dest/_temporary/k/<task>
unfoldable pub committed : List (List ℕ) → ℕ → TaskId → List (List ℕ)
committed dest k t = dest ++ temporary_name ∷ numeral 1 k ∷ task_text t ∷ []

-- $dest/_SUCCESS
unfoldable pub marker : List (List ℕ) → List (List ℕ)
marker dest = dest ++ marker_name ∷ []

-- the name of the output of reduce n
unfoldable pub part : ℕ → List ℕ
part n = codes "part-r-" ++ numeral 5 n

-- /staging/<name>
unfoldable pub staging : List ℕ → List (List ℕ)
staging name = codes "staging" ∷ name ∷ []

-- a hidden name begins with `_` or `.`
abbrev pub is_hidden : List ℕ → Bool
is_hidden [] = false
is_hidden (b ∷ rest) = (b == 95) || (b == 46)
