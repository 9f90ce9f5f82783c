-- The tables of the committer's operations, of generation k and with its destination at dest.
-- Hadoop's OutputCommitter API has these operations: setupJob, commitTask, abortTask, recoverTask, commitJob, abortJob. What they do
-- is FileOutputCommitter's algorithm version 1, but for recoverTask, which there looks at the generation before alone.
use Rattle.std.specs.Prelude.{ℕ, true, List, [], ◌∷◌}
use Rattle.mr_ids.specs.Attempt.{Attempt}
use Rattle.mr_paths.specs.Layout.{temporary, job_attempt, task_attempt, committed, marker}
use Rattle.mr_names.specs.declared.op.Op.TheVariants as op
use Rattle.mr_commit.specs.Line.{Line, moves}
use Rattle.mr_commit.specs.Line.Line.{Does, Clears, Needs, MergesTasks}

-- the job attempt path is made
abbrev pub setup_job : List (List ℕ) → ℕ → List Line
setup_job dest k = Does (op.Mkdirs (job_attempt dest k)) ∷ []

-- the attempt's output takes the place of what the task had committed
abbrev pub commit_task : List (List ℕ) → ℕ → Attempt → List Line
commit_task dest k attempt =
    Needs (task_attempt dest k attempt)
    ∷ Clears (committed dest k attempt.task)
    ∷ moves (task_attempt dest k attempt) (committed dest k attempt.task) ∷ []

-- the attempt's output is deleted, if there is any
abbrev pub abort_task : List (List ℕ) → ℕ → Attempt → List Line
abort_task dest k attempt = Clears (task_attempt dest k attempt) ∷ []

-- what was temporary is deleted, if anything was
abbrev pub abort_job : List (List ℕ) → List Line
abort_job dest = Clears (temporary dest) ∷ []

-- all committed output is merged onto the destination, then what was temporary goes, and last comes the marker,
-- which overwrites nothing
abbrev pub commit_job : List (List ℕ) → ℕ → List Line
commit_job dest k =
    MergesTasks (job_attempt dest k) dest
    ∷ Clears (temporary dest)
    ∷ Does (op.Create (marker dest) true) ∷ []
