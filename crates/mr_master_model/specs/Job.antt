-- The tasks of a master's job, in order: maps, then reduces, each by rising number.
-- Dean and Ghemawat 3.1: M map tasks and R reduce tasks. Their order is our own.
use Rattle.std.specs.Prelude.{ℕ, Bool, ◌&&◌, ◌==◌, nat_lt, zero, suc, List, [], ◌∷◌, ◌++◌}
use Rattle.mr_ids.specs.declared.id.TaskId.{TaskId}
use Rattle.mr_ids.specs.declared.id.TaskKind.{TaskKind}
use Rattle.mr_ids.specs.declared.id.TaskKind.TheVariants.{Map, Reduce}
use Rattle.mr_master_model.specs.declared.setting.Setting.{Setting}

abbrev pub count_of : Setting → TaskKind → ℕ
count_of w Map = w.maps
count_of w Reduce = w.reduces

-- whether t is a task of the job
abbrev pub is_task : Setting → TaskId → Bool
is_task w t = (t.job.start == w.job.start) && (t.job.number == w.job.number) && nat_lt t.number (count_of w t.kind)

abbrev pub task_of : Setting → TaskKind → ℕ → TaskId
task_of w kind n = record { job = w.job; kind = kind; number = n }

-- the first n tasks of a kind, rising
unfoldable pub first_tasks : Setting → TaskKind → ℕ → List TaskId
first_tasks w kind zero = []
first_tasks w kind (suc n) = first_tasks w kind n ++ task_of w kind n ∷ []

abbrev pub all_maps : Setting → List TaskId
all_maps w = first_tasks w Map w.maps

abbrev pub all_reduces : Setting → List TaskId
all_reduces w = first_tasks w Reduce w.reduces

abbrev pub all_tasks : Setting → List TaskId
all_tasks w = all_maps w ++ all_reduces w
