-- Which operation is asked for, and its table: the operations of Hadoop's OutputCommitter API, as mr_commit has their calls.
use Rattle.std.specs.Prelude.{ℕ, List}
use Rattle.mr_commit.specs.Tables.{setup_job, commit_task, abort_task, commit_job, abort_job}
use Rattle.mr_commit.specs.Recovery.{Recovery, recover_task}
use Rattle.mr_commit.specs.Recovery.Recovery.{Left}
use Rattle.mr_step.specs.declared.wish.Wish.{Wish}
use Rattle.mr_step.specs.declared.wish.Wish.TheVariants as wish

-- the table of an operation of generation k with its destination at dest
abbrev pub table : Wish → List (List ℕ) → ℕ → Recovery
table wish.SetupJob dest k = Left (setup_job dest k)
table (wish.CommitTask a) dest k = Left (commit_task dest k a)
table (wish.AbortTask a) dest k = Left (abort_task dest k a)
table wish.CommitJob dest k = Left (commit_job dest k)
table wish.AbortJob dest k = Left (abort_job dest)
table (wish.RecoverTask t bytes) dest k = recover_task dest k t bytes
