-- What standings are taken of: a job, and a front of its log. Our own.
use Rattle.std.specs.Prelude.{List}
use Rattle.mr_log_entries.specs.declared.entry.Entry.{Entry}
use Rattle.mr_log_standing.specs.declared.job.Job.{Job}

pub record Front : Type 0 where
  pub job : Job
  pub entries : List Entry
