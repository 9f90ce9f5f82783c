-- What is seen once attempts' tasks were told something, and records are due. Our own: where code and definitions
-- meet.
use Rattle.std.specs.Prelude.{ℕ, false, List, [], ◌∷◌, ◌++◌, Option, Some, None}
use Rattle.mr_ids.specs.Attempt as ids
use Rattle.mr_task.specs.Calls.{Dies, Loses}
use Rattle.mr_history.specs.declared.record.Record.{Record}
use Rattle.mr_history.specs.declared.record.Record.TheVariants.{AttemptFailed, JobUnsuccessful}
use Rattle.mr_master_model.specs.Past as past
use Rattle.mr_master_model.specs.declared.setting.Setting.{Setting}
use Rattle.mr_master_model.specs.Readings.{Seen, with_due}
use Rattle.mr_master_tasks.specs.Told.{told_all}
use Rattle.mr_master_state.specs.declared.blame.Blame.{Blame}
use Rattle.mr_master_state.specs.declared.blame.Blame.TheVariants.{Nobody, Attempt, Job}

-- The attempts end, and that is no failure of theirs. The outputs of the attempts are lost.
abbrev pub with_deaths : Setting → Seen → List ids.Attempt → Seen
with_deaths w s as' = record s { calls = told_all w Dies as' s.calls }

abbrev pub with_losses : Setting → Seen → List ids.Attempt → Seen
with_losses w s as' = record s { calls = told_all w Loses as' s.calls }

-- ---- one attempt

-- the record, if there is one, is due
abbrev pub with_record : Seen → Option Record → Seen
with_record s None = s
with_record s (Some r) = with_due s (r ∷ [])

abbrev pub due_count : Option Record → ℕ
due_count None = 0
due_count (Some r) = 1

-- its failure is to be recorded, and that of the job too
abbrev pub blamed : Seen → ids.Attempt → Blame → Seen
blamed s a Nobody = s
blamed s a Attempt = record s { due = s.due ++ AttemptFailed a ∷ [] }
blamed s a Job = record s { due = s.due ++ AttemptFailed a ∷ JobUnsuccessful ∷ []; work = past.Fails false }

abbrev pub blame_count : Blame → ℕ
blame_count Nobody = 0
blame_count Attempt = 1
blame_count Job = 2
