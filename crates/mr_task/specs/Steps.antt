-- What each call does to what a machine stores: for its proofs. What the calls mean is in Readings. Our own: where code and definitions meet.
use Rattle.std.specs.Prelude.{ℕ, Bool, true, false, ◌&&◌, not, List, [], ◌∷◌, Option, Some, None, is_some, ⊤, Result, Ok, Err, if◌then◌else◌}
use Rattle.std.specs.List.{list_any}
use Rattle.std.specs.Map.{lookup}
use Rattle.mr_ids.specs.Attempt.{Attempt}
use Rattle.mr_ids.specs.declared.id.TaskId.{TaskId}
use Rattle.mr_ids.specs.declared.id.TaskKind.{TaskKind}
use Rattle.mr_ids.specs.declared.id.TaskKind.TheVariants.{Map, Reduce}
use Rattle.mr_attempt.specs.Machine.{machine_after}
use Rattle.mr_attempt.specs.declared.state.AttemptState.{AttemptState}
use Rattle.mr_attempt.specs.declared.state.AttemptState.TheVariants.{Failed}
use Rattle.mr_attempt.specs.declared.state.AttemptEvent.{AttemptEvent}
use Rattle.mr_attempt.specs.declared.state.AttemptEvent.TheVariants as event
use Rattle.mr_attempt.specs.Table as table
use Rattle.mr_grant.specs.Attempts.{same_attempt, is_first}
use Rattle.mr_grant.specs.Grant.{Askers, after_pending, after_release, after_fix}
use Rattle.mr_task.specs.declared.attempts.Entry.{Entry}
use Rattle.mr_task.specs.declared.fault.TaskFault.{TaskFault}
use Rattle.mr_task.specs.declared.fault.TaskFault.TheVariants.{Unknown}
use Rattle.mr_task.specs.declared.reply.DoneReply.{DoneReply}
use Rattle.mr_task.specs.declared.reply.DoneReply.TheVariants.{Accepted, Again, Ignored}

-- what a machine stores
pub record Task : Type 0 where
  pub task : TaskId
  pub app : ℕ
  pub attempts : List (Attempt × Entry)  -- in order of arrival
  pub grant : Askers
  pub numbered : ℕ

-- what is kept of attempt a
abbrev pub entry_in : List (Attempt × Entry) → Attempt → Option Entry
entry_in ps a = lookup (same_attempt a) ps

-- with e in the place of what is kept of a
abbrev pub with_entry : List (Attempt × Entry) → Attempt → Entry → List (Attempt × Entry)
with_entry [] a e = []
with_entry (p ∷ ps) a e = if same_attempt a p.0 then (p.0, e) ∷ ps else p ∷ with_entry ps a e

abbrev pub is_over : Entry → Bool
is_over e = table.is_over e.machine.state && not e.accepted

abbrev pub is_failed : AttemptState → Bool
is_failed Failed = true
is_failed _ = false

abbrev pub any_won : List (Attempt × Entry) → Bool
any_won ps = list_any (λ p. table.is_won p.1.machine.state) ps

-- a call of an attempt that is not there is refused
abbrev pub if_there : Option Entry → Result ⊤ TaskFault
if_there None = Err Unknown
if_there (Some e) = Ok tt

abbrev pub entry_after : Entry → AttemptEvent → Entry
entry_after e event = record { machine = machine_after e.machine event; accepted = e.accepted }

-- the attempt takes an event
abbrev pub with_event : Task → Attempt → AttemptEvent → Option Entry → Task
with_event m a event None = m
with_event m a event (Some e) = record m { attempts = with_entry m.attempts a (entry_after e event) }

abbrev pub noted : Task → Attempt → AttemptEvent → Task
noted m a event = with_event m a event (entry_in m.attempts a)

-- the attempt ends, and is released if that moved it
abbrev pub with_end : Task → Attempt → AttemptEvent → Option Entry → Task
with_end m a event None = m
with_end m a event (Some e) = record m {
  attempts = with_entry m.attempts a (entry_after e event);
  grant = if is_some (table.next e.machine.attempt.task.kind e.machine.state event) then after_release m.grant a else m.grant;
}

abbrev pub ended : Task → Attempt → AttemptEvent → Task
ended m a event = with_end m a event (entry_in m.attempts a)

-- the attempt asks, and waits unless it is over
abbrev pub with_asker : Task → Attempt → Option Entry → Task
with_asker m a None = m
with_asker m a (Some e) = record m {
  attempts = with_entry m.attempts a (entry_after e event.Pending);
  grant = if is_over e then m.grant else after_pending m.grant a;
}

abbrev pub asked : Task → Attempt → Task
asked m a = with_asker m a (entry_in m.attempts a)

-- the attempt says that it is done
abbrev pub accepted_entry : Entry → Entry
accepted_entry e = record { machine = machine_after e.machine event.Done; accepted = true }

abbrev pub may_accept : TaskKind → Task → Attempt → Entry → Bool
may_accept Map m a e = not (is_over e) && not (any_won m.attempts)
may_accept Reduce m a e = is_first m.grant.attempts a

abbrev pub grant_after : TaskKind → Task → Attempt → Askers
grant_after Map m a = m.grant
grant_after Reduce m a = after_fix m.grant a

abbrev pub with_done : Task → Attempt → Option Entry → Result DoneReply TaskFault × Task
with_done m a None = (Err Unknown, m)
with_done m a (Some e) =
    if e.accepted then (Ok Again, m) else
    if may_accept a.task.kind m a e
    then (Ok Accepted, record m { attempts = with_entry m.attempts a (accepted_entry e); grant = grant_after a.task.kind m a })
    else (Ok Ignored, m)

abbrev pub done : Task → Attempt → Result DoneReply TaskFault × Task
done m a = with_done m a (entry_in m.attempts a)
