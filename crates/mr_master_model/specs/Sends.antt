-- The packets that a master sends at each step, in order.
-- Answers restate Hadoop's canCommit and done. That reduces are told where outputs lie is Dean and Ghemawat 3.1 and 3.3; that nodes are told
-- winners and outcomes is our own profile.
use Rattle.std.specs.Prelude.{ℕ, zero, suc, Bool, false, ◌||◌, nat_eq, List, [], ◌∷◌, ◌++◌, flat_map, Option, Some, None, is_some, is_none, if◌then◌else◌}
use Rattle.std.specs.List.{find}
use Rattle.mr_ids.specs.Attempt.{Attempt}
use Rattle.mr_ids.specs.declared.id.TaskId.{TaskId}
use Rattle.mr_ids.specs.declared.id.TaskKind.TheVariants.{Map}
use Rattle.mr_grant.specs.Attempts.{has}
use Rattle.mr_task.specs.Readings as task
use Rattle.mr_packet.specs.declared.packet.ContainerId.{ContainerId}
use Rattle.mr_packet.specs.declared.packet.Envelope.{Envelope}
use Rattle.mr_packet.specs.declared.packet.Packet.{Packet}
use Rattle.mr_packet.specs.declared.packet.Packet.TheVariants as packet
use Rattle.mr_packet.specs.Sends.{to_node, to_container}
use Rattle.mr_history.specs.declared.record.Record.{Record}
use Rattle.mr_history.specs.declared.record.Record.TheVariants.{AttemptStarted, MapSucceeded, ReduceSucceeded, AttemptFailed, JobUnsuccessful}
use Rattle.mr_master_model.specs.declared.launch.Launch.{Launch}
use Rattle.mr_master_model.specs.declared.phase.DutyName.{DutyName}
use Rattle.mr_master_model.specs.declared.phase.DutyName.TheVariants as name
use Rattle.mr_master_model.specs.declared.setting.Setting.{Setting}
use Rattle.mr_master_model.specs.declared.store.StoreAnswer.{StoreAnswer}
use Rattle.mr_master_model.specs.Job.{is_task, task_of, all_maps, all_tasks}
use Rattle.mr_master_model.specs.Past.{Work, TakesOver, Runs, Fails, Ends}
use Rattle.mr_master_model.specs.Readings.{Seen, Place, is_running, of_task, is_live, launch_of, launched_in, succeeded, place_of, launch_refusal, expire_refusal, launched_as, next_attempt}
use Rattle.mr_master_model.specs.Hearing.{after_ask, given_up_of_maps}
use Rattle.mr_master_model.specs.Duty.{Duty, duty}
use Rattle.mr_master_model.specs.Answered.{is_fine, is_finished, heard_by, success_in, work_after}

-- one packet to every node below n, rising
unfoldable pub to_all : ℕ → Packet → List Envelope
to_all zero p = []
to_all (suc n) p = to_all n p ++ to_node n p ∷ []

-- a Kill to the container of a launch
abbrev pub kill_at : Option Launch → List Envelope
kill_at None = []
kill_at (Some l) = to_node l.node (packet.Kill l.container) ∷ []

abbrev pub kill_of : Setting → Seen → Attempt → List Envelope
kill_of w s a = kill_at (launch_of w s a)

-- to every live attempt of a task of the job, in order of arrival
abbrev pub kills_of : Setting → Seen → TaskId → List Envelope
kills_of w s t = if is_task w t then flat_map (kill_of w s) (task.live (of_task w s t)) else []

-- to every live attempt: by maps, then reduces, by task number, then arrival
abbrev pub kill_all : Setting → Seen → List Envelope
kill_all w s = flat_map (kills_of w s) (all_tasks w)

-- ---- answers to what is heard

abbrev pub answer_to : Attempt → Option Launch → Bool → List Envelope
answer_to a None may = []
answer_to a (Some l) may = to_container l.container (packet.Answer a may) ∷ []

-- to Pending and Poll: whether the attempt is named once it asked
abbrev pub pending_answer : Setting → Seen → Attempt → List Envelope
pending_answer w s a = answer_to a (launch_of w s a) (task.is_named (of_task w (after_ask s a (launch_of w s a)) a.task) a)

-- Done is acknowledged where it is accepted, now or before
abbrev pub ack_to : Setting → Seen → Attempt → Option Launch → List Envelope
ack_to w s a None = []
ack_to w s a (Some l) =
    if has (of_task w s a.task).accepted a || task.may_accept (of_task w s a.task) a
    then to_container l.container (packet.DoneAck a) ∷ [] else []

-- to Where: where the output of map m lies, if it has a Succeeded attempt
abbrev pub ready_at : ContainerId → ℕ → Attempt → Option Place → List Envelope
ready_at c m a None = []
ready_at c m a (Some p) = to_container c (packet.MapReady m a p.node p.incarnation) ∷ []

abbrev pub ready_by : Setting → Seen → ContainerId → ℕ → Option Attempt → List Envelope
ready_by w s c m None = []
ready_by w s c m (Some a) = ready_at c m a (place_of w s a)

abbrev pub ready_to : Setting → Seen → ContainerId → ℕ → Option (Attempt × Launch) → List Envelope
ready_to w s c m None = []
ready_to w s c m (Some p) = ready_by w s c m (succeeded w s (task_of w Map m))

-- the answers to a packet that is heard while Running. After it the master has seen s'
unfoldable pub replies : Setting → Seen → Seen → Packet → List Envelope
replies w s s' (packet.Pending a) = pending_answer w s a
replies w s s' (packet.Poll a) = pending_answer w s a
replies w s s' (packet.Done a bytes) = ack_to w s a (launch_of w s a)
replies w s s' (packet.Failed a) = if is_running s'.work then [] else kill_all w s'
replies w s s' (packet.Ended c) = if is_running s'.work then [] else kill_all w s'
replies w s s' (packet.Where c m) = ready_to w s c m (launched_in w s c)
replies w s s' _ = []

-- ---- a flush that was answered: for each record, the win to every node, then a Kill to each other live attempt of its task.
-- (Its own attempt is accepted, and so not live.)

abbrev pub wins : Setting → Record → List Envelope
wins w (ReduceSucceeded a bytes) = to_all w.nodes (packet.Won a.task a)
wins w (MapSucceeded a n i) = []
wins w (AttemptStarted a n) = []
wins w (AttemptFailed a) = []
wins w JobUnsuccessful = []

abbrev pub kills_beside : Setting → Seen → Option Attempt → List Envelope
kills_beside w s None = []
kills_beside w s (Some a) = kills_of w s a.task

abbrev pub flush_sends : Setting → Seen → List Record → List Envelope
flush_sends w s rs = flat_map (λ r. wins w r ++ kills_beside w s (success_in r)) rs

-- ---- a bar that was answered

abbrev pub bar_sends : Setting → Seen → Option Attempt → List Envelope
bar_sends w s None = []
bar_sends w s (Some a) = kill_of w s a

-- ---- answers of store calls

abbrev pub duty_sends : Setting → Seen → DutyName → List Envelope
duty_sends w s name.Bar = bar_sends w s (find (is_live w s) s.bars)
duty_sends w s name.Flush = flush_sends w s s.tail
duty_sends w s _ = []

abbrev pub due_sends : Setting → Seen → Option Duty → List Envelope
due_sends w s None = []
due_sends w s (Some d) = duty_sends w s d.name

unfoldable pub work_sends : Setting → Seen → StoreAnswer → Work → List Envelope
work_sends w s a (TakesOver x left others) = if is_finished (heard_by left a).0 then to_all w.nodes (packet.Won x.task x.attempt) else []
work_sends w s a Runs = if is_fine a then due_sends w s (duty w s) else []
work_sends w s a (Fails is_stable) = if is_fine a then due_sends w s (duty w s) else []
work_sends w s a _ = []

-- on becoming Ended: the outcome, to every node
abbrev pub outcome_of : Setting → Work → List Envelope
outcome_of w (Ends succeeded) = to_all w.nodes (packet.Outcome succeeded)
outcome_of w _ = []

abbrev pub answer_sends : Setting → Seen → StoreAnswer → List Envelope
answer_sends w s a = if is_some (duty w s) then work_sends w s a s.work ++ outcome_of w (work_after w s a s.work) else []

-- ---- launches and expiries

abbrev pub launch_sends : Setting → Seen → TaskId → ℕ → List Envelope
launch_sends w s t n =
    if is_none (launch_refusal w s t n)
    then to_node n (packet.Launch (launched_as w s n).container (next_attempt w s t) (launched_as w s n).incarnation) ∷ []
    else []

-- to the container of each live map's attempt that was launched on the node, by map number, then arrival
abbrev pub expiry_sends : Setting → Seen → ℕ → List Envelope
expiry_sends w s n = if is_none (expire_refusal w s n) then flat_map (kill_of w s) (flat_map (given_up_of_maps w s n) (all_maps w)) else []

-- ---- which containers were sent a Kill

abbrev pub is_kill : Packet → ℕ → Bool
is_kill (packet.Kill c) n = nat_eq c.number n
is_kill _ n = false

abbrev pub with_kill : Packet → (ℕ → Bool) → ℕ → Bool
with_kill p killed n = is_kill p n || killed n

-- what is known of Kills after these packets were sent, in order
unfoldable pub killed_by : List Envelope → (ℕ → Bool) → ℕ → Bool
killed_by [] killed = killed
killed_by (e ∷ es) killed = killed_by es (with_kill e.body killed)
