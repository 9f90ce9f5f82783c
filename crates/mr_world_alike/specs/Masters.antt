-- When two masters of one generation are alike, whatever their pasts.
-- Compared is what the machine of a master stores, and no past: of each task one machine stands for what it was told in both. Our own.
use Rattle.std.specs.Prelude.{◌≡◌, ℕ, List}
use Rattle.mr_ids.specs.declared.id.TaskId.{TaskId}
use Rattle.mr_task.specs.Calls.{TaskCall}
use Rattle.mr_task.specs.State.{StandsFor}
use Rattle.mr_task.specs.Steps.{Task}
use Rattle.mr_master_model.specs.declared.setting.Setting.{Setting}
use Rattle.mr_master_model.specs.Readings.{Seen}

-- one machine of task t stands for two lists of calls
pub record OneTask (t : TaskId) (k : ℕ) (g h : List TaskCall) : Type 0 where
  pub machine : Task
  pub one : StandsFor machine t k g
  pub other : StandsFor machine t k h

-- What a master is at, its tasks, its launches and to which of their containers a Kill was sent, the incarnations that it knows, what it read of earlier
-- generations, its records and its bars.
pub record SameMasters (w : Setting) (r s : Seen) : Type 0 where
  pub work : r.work ≡ s.work
  pub tasks : (t : TaskId) → OneTask t w.app (r.calls t) (s.calls t)
  pub launched : r.launched ≡ s.launched
  pub killed : (n : ℕ) → r.killed n ≡ s.killed n
  pub known : (n : ℕ) → r.known n ≡ s.known n
  pub earlier : r.earlier ≡ s.earlier
  pub due : r.due ≡ s.due
  pub tail : r.tail ≡ s.tail
  pub bars : r.bars ≡ s.bars
