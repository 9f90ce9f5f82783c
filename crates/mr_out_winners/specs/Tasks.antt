-- What the history of a directory of mrout says of each task, and what is seen of the directory. That the winner of a task is the attempt of its first
-- recorded success is told by mr_history. The history has no lengths; they are noted beside it once the files are published. Our own.
use Rattle.std.specs.Prelude.{ℕ, zero, suc, List, [], ◌∷◌, ◌++◌, Option, Some, None, if◌then◌else◌}
use Rattle.std.specs.Str.{bytes_eq}
use Rattle.mr_ids.specs.Attempt.{Attempt}
use Rattle.mr_ids.specs.Same.{same_attempt}
use Rattle.mr_ids.specs.declared.id.JobId.{JobId}
use Rattle.mr_paths.specs.Layout.{part}
use Rattle.mr_history.specs.declared.record.Record.{Record}
use Rattle.mr_history.specs.Winner.{winner_in}
use Rattle.mr_out_steps.specs.Standing.{task_of}
use Rattle.mr_out_winners.specs.declared.name.Look.{Look}
use Rattle.mr_out_winners.specs.declared.name.Name.{Name}
use Rattle.mr_out_winners.specs.declared.task.Measured.{Measured}
use Rattle.mr_out_winners.specs.declared.task.Task.{Task}
use Rattle.mr_out_winners.specs.declared.task.Won.{Won}

-- ---- what is seen

-- a name in the directory itself: its kind and its length
pub record NameSeen : Type 0 where
  pub name : List ℕ
  pub look : Look

abbrev pub as_seen : Name → NameSeen
as_seen n = record { name = n.name.items; look = n.look }

-- what stands at a name, if anything was seen there
abbrev pub look_at : List ℕ → List NameSeen → Option Look
look_at name [] = None
look_at name (n ∷ ns) = if bytes_eq n.name name then Some n.look else look_at name ns

-- ---- what the history says

-- a task: the name of its part file; and, if it is won, how long the file is that its winner handed in, where that is known
pub record Part : Type 0 where
  pub name : List ℕ
  pub won : Option Won

abbrev pub as_part : Task → Part
as_part t = record { name = t.name.items; won = t.won }

-- how long the file is that an attempt handed in, where that was noted
abbrev pub length_of : Attempt → List Measured → Option ℕ
length_of a [] = None
length_of a (m ∷ ms) = if same_attempt m.attempt a then Some m.len else length_of a ms

abbrev pub won_by : Option Attempt → List Measured → Option Won
won_by None ms = None
won_by (Some a) ms = Some (record { len = length_of a ms })

abbrev pub part_name : ℕ → List ℕ → List ℕ
part_name n suffix = part n ++ suffix

-- the task of number n
abbrev pub part_at : JobId → List ℕ → List Record → List Measured → ℕ → Part
part_at job suffix rs ms n = record { name = part_name n suffix; won = won_by (winner_in rs (task_of job n)) ms }

-- the first n tasks, in order
unfoldable pub parts : JobId → List ℕ → List Record → List Measured → ℕ → List Part
parts job suffix rs ms zero = []
parts job suffix rs ms (suc n) = parts job suffix rs ms n ++ part_at job suffix rs ms n ∷ []
