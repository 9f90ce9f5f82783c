-- Which calls the machine of one task stands for. Our own: where code and definitions meet.
use Rattle.std.specs.Prelude.{◌≡◌, ℕ, false, List, [], ◌∷◌, Option, Some, None, ⊤, Result, Ok, Err, if◌then◌else◌}
use Rattle.mr_ids.specs.Attempt.{Attempt}
use Rattle.mr_ids.specs.declared.id.TaskId.{TaskId}
use Rattle.mr_attempt.specs.declared.state.AttemptState.{AttemptState}
use Rattle.mr_grant.specs.Attempts.{has, first_of}
use Rattle.mr_task.specs.declared.attempts.Entry.{Entry}
use Rattle.mr_task.specs.declared.fault.TaskFault.{TaskFault}
use Rattle.mr_task.specs.declared.fault.TaskFault.TheVariants.{Unknown}
use Rattle.mr_task.specs.declared.reply.DoneReply.{DoneReply}
use Rattle.mr_task.specs.declared.reply.DoneReply.TheVariants.{Accepted, Again, Ignored}
use Rattle.mr_task.specs.Calls.{TaskCall}
use Rattle.mr_task.specs.Readings.{seen, state_of, waiting_in, named, may_accept, launch_refusal, next_attempt}
use Rattle.mr_task.specs.Steps.{Task}

-- what is to be kept of attempt a after the calls: its state, and whether it was accepted
abbrev pub entry_of : TaskId → ℕ → List TaskCall → Attempt → Entry
entry_of t k calls a = record { machine = record { attempt = a; state = state_of t k calls a }; accepted = has (seen t k calls).accepted a }

-- some attempts, each with what is kept of it
abbrev pub kept : (Attempt → Entry) → List Attempt → List (Attempt × Entry)
kept f [] = []
kept f (a ∷ as') = (a, f a) ∷ kept f as'

-- The machine m stands for the calls: what it stores is what is read off them, part by part.
pub record StandsFor (m : Task) (t : TaskId) (k : ℕ) (calls : List TaskCall) : Type 0 where
  pub task : m.task ≡ t
  pub app : m.app ≡ k
  -- the attempts in order of arrival, each with its state and whether it was accepted
  pub attempts : m.attempts ≡ kept (entry_of t k calls) (seen t k calls).arrived
  -- who asked and is not over, in order; once the name is for good, only who is first counts
  pub askers : (seen t k calls).is_fixed ≡ false → m.grant.attempts ≡ waiting_in (seen t k calls).asked (seen t k calls).ended
  pub first : first_of m.grant.attempts ≡ named (seen t k calls)
  pub fixed : m.grant.is_fixed ≡ (seen t k calls).is_fixed
  -- how many numbers are given away
  pub numbered : m.numbered ≡ (seen t k calls).numbered

-- the machine stands for some calls
abbrev pub StandsForSome : Task → Type 0
StandsForSome m = (calls : List TaskCall) × StandsFor m m.task m.app calls

-- ---- how the contracts say it

-- whatever calls the machine stood for, it stands for them and this call
abbrev pub Stands : Task → TaskCall → Task → Type 0
Stands old call new = (t : TaskId) (k : ℕ) (calls : List TaskCall) → StandsFor old t k calls → StandsFor new t k (call ∷ calls)

-- the new machine is the old one after some call
abbrev pub StandsAfterSome : Task → Task → Type 0
StandsAfterSome old new = (call : TaskCall) × Stands old call new

-- the answer is what is read off the calls that the machine stands for, whatever they are
abbrev pub Answers : {A : Type 0} → Task → (TaskId → ℕ → List TaskCall → A) → A → Type 0
Answers m reading answer = (t : TaskId) (k : ℕ) (calls : List TaskCall) → StandsFor m t k calls → answer ≡ reading t k calls

-- ---- what is answered

-- a call of an attempt that the machine never had is refused
abbrev pub known : Attempt → TaskId → ℕ → List TaskCall → Result ⊤ TaskFault
known a t k calls = if has (seen t k calls).arrived a then Ok tt else Err Unknown

-- to a launch: why it is refused, or the attempt
abbrev pub refusal_or : Option TaskFault → Attempt → Result Attempt TaskFault
refusal_or (Some fault) a = Err fault
refusal_or None a = Ok a

abbrev pub launch_answer : TaskId → ℕ → List TaskCall → Result Attempt TaskFault
launch_answer t k calls = refusal_or (launch_refusal (seen t k calls)) (next_attempt t k (seen t k calls))

-- to Done: accepted, accepted before, or ignored
abbrev pub done_answer : Attempt → TaskId → ℕ → List TaskCall → Result DoneReply TaskFault
done_answer a t k calls =
    if has (seen t k calls).arrived a then Ok (
    if has (seen t k calls).accepted a then Again else
    if may_accept (seen t k calls) a then Accepted else Ignored)
    else Err Unknown

-- an answer, where a refusal stands for this one
abbrev pub reply_or : {A : Type 0} → Result A TaskFault → A → A
reply_or (Ok x) y = x
reply_or (Err f) y = y

-- the state of an attempt that the machine has
abbrev pub state_answer : Attempt → TaskId → ℕ → List TaskCall → Option AttemptState
state_answer a t k calls = if has (seen t k calls).arrived a then Some (state_of t k calls a) else None

-- the fault of an answer, or another one where it has none
abbrev pub fault_or : {A : Type 0} → Result A TaskFault → TaskFault → TaskFault
fault_or (Ok x) fault = fault
fault_or (Err f) fault = f
