-- The end of an attempt, as it says itself or as its container's end tells.
-- Whether it is a failure, whether it fails the job, and which Kills are sent then.
use Rattle.std.specs.Prelude.{◌+◌, Bool, ◌&&◌, not, nat_le, List, [], flat_map, if◌then◌else◌}
use Rattle.mr_ids.specs.Attempt.{Attempt}
use Rattle.mr_master_state.specs.mr_master_tasks.specs.declared.ending.Ending.{Ending}
use Rattle.mr_master_state.specs.mr_master_tasks.specs.Told.{call_of, is_failure}
use Rattle.mr_master_state.specs.Kills.{kills_but}
use Rattle.mr_master_state.specs.declared.blame.Blame.{Blame}
use Rattle.mr_master_state.specs.declared.blame.Blame.TheVariants as blame
use Rattle.mr_task.specs.Readings as task
use Rattle.mr_packet.specs.declared.packet.Envelope.{Envelope}
use Rattle.mr_master_model.specs.declared.setting.Setting.{Setting}
use Rattle.mr_master_model.specs.Job.{all_tasks}
use Rattle.mr_master_model.specs.Readings.{Seen, is_running, of_task, is_live}
use Rattle.mr_master_model.specs.Hearing.{after_end}
use Rattle.mr_master_model.specs.Sends.{kill_all}

-- whether one failure more fails the job: the task is not won, and failed then as often as the limit
abbrev pub is_last_of : Setting → task.Seen → Bool
is_last_of w r = not (task.is_won r) && nat_le w.limit (task.failures r + 1)

-- whether the end of the attempt fails the job
abbrev pub fails_job : Setting → Seen → Attempt → Ending → Bool
fails_job w s a e = is_failure e && (is_live w s a && is_last_of w (of_task w s a.task))

-- whose failure it is
abbrev pub blame_of : Setting → Seen → Attempt → Ending → Blame
blame_of w s a e = if is_failure e && is_live w s a then (if is_last_of w (of_task w s a.task) then blame.Job else blame.Attempt) else blame.Nobody

abbrev pub ended : Setting → Seen → Attempt → Ending → Seen
ended w s a e = after_end w s a (call_of e a) (is_failure e)

-- what is sent where the master was Running
abbrev pub end_sends : Setting → Seen → Attempt → Ending → List Envelope
end_sends w s a e = if is_running (ended w s a e).work then [] else kill_all w (ended w s a e)

-- where the job fails, to all live attempts but the one that ended
abbrev pub kills_by : Setting → Seen → Attempt → Blame → List Envelope
kills_by w s a blame.Nobody = []
kills_by w s a blame.Attempt = []
kills_by w s a blame.Job = flat_map (kills_but w s a) (all_tasks w)

-- a Kill to every live attempt, where the master is Running no longer
abbrev pub kills_if_over : Setting → Seen → List Envelope
kills_if_over w s = if is_running s.work then [] else kill_all w s
