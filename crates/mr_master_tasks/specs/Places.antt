-- Where the machines of a master's tasks stand, in order: maps first.
-- A place is an index in the list of these machines. Our own: where code and definitions meet.
use Rattle.std.specs.Prelude.{ℕ, ◌+◌}
use Rattle.mr_ids.specs.declared.id.TaskId.{TaskId}
use Rattle.mr_ids.specs.declared.id.TaskKind.{TaskKind}
use Rattle.mr_ids.specs.declared.id.TaskKind.TheVariants.{Map, Reduce}
use Rattle.mr_master_model.specs.declared.setting.Setting.{Setting}

abbrev pub place_by : Setting → TaskKind → ℕ → ℕ
place_by w Map n = n
place_by w Reduce n = w.maps + n

abbrev pub place_of : Setting → TaskId → ℕ
place_of w t = place_by w t.kind t.number
