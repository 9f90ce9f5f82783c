-- Kills to all live attempts but one. Our own: where code and definitions meet.
use Rattle.std.specs.Prelude.{not, List, [], flat_map, filter, if◌then◌else◌}
use Rattle.mr_ids.specs.Attempt.{Attempt}
use Rattle.mr_ids.specs.declared.id.TaskId.{TaskId}
use Rattle.mr_grant.specs.Attempts.{same_attempt}
use Rattle.mr_task.specs.Readings as task
use Rattle.mr_packet.specs.declared.packet.Envelope.{Envelope}
use Rattle.mr_master_model.specs.declared.setting.Setting.{Setting}
use Rattle.mr_master_model.specs.Job.{is_task}
use Rattle.mr_master_model.specs.Readings.{Seen, of_task}
use Rattle.mr_master_model.specs.Sends.{kill_of}

-- Kills to those of a task's live attempts that are not a
abbrev pub kills_but : Setting → Seen → Attempt → TaskId → List Envelope
kills_but w s a t = if is_task w t then flat_map (kill_of w s) (filter (λ x. not (same_attempt a x)) (task.live (of_task w s t))) else []
