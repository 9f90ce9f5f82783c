-- Which calls were made for an order, and how its end is told. Our own.
use Rattle.std.specs.Prelude.{◌≡◌, ◌≢◌, ◌⊎◌, ℕ, Bool, true, false, List, [], ◌++◌, codes, decimal, Option, Some, None, Result, Ok, Err, IsErrAnd, ◌<◌, if◌then◌else◌}
use Rattle.std.specs.String.{string_bytes}
use Rattle.mr_ids.specs.Attempt.{Attempt}
use Rattle.mr_ids.specs.Text.{attempt_text, IsAttempt}
use Rattle.mr_out_layout.specs.Faults.{IsFailure, IsRefusal}
use Rattle.mr_out_layout.specs.Layout.{work_path}
use Rattle.mr_out_layout.specs.declared.fault.Fault.{Fault}
use Rattle.mr_out_layout.specs.declared.fault.Fault.TheVariants as fault
use Rattle.mr_out_layout.specs.declared.fault.Why.TheVariants.{NoAttempt}
use Rattle.mr_out_layout.specs.declared.job.Job.{Job}
use Rattle.mr_out_steps.specs.declared.order.Order.{Order}
use Rattle.mr_out_steps.specs.declared.order.Order.TheVariants as order
use Rattle.mr_out_steps.specs.declared.order.Outcome.{Outcome}
use Rattle.mr_out_steps.specs.declared.order.Outcome.TheVariants as outcome
use Rattle.mr_out_steps.specs.Commands.{Command, opening}
use Rattle.mr_out_calls.specs.Recorded.{IsCarriedOut}
use Rattle.mr_out_files.specs.declared.directory.Directory.{Directory}
use Rattle.mr_out_files.specs.Made.{calls_of, Keeps}
use Rattle.mr_out_program.specs.declared.answering.Answered.{Answered}
use Rattle.mr_out_program.specs.declared.saying.Saying.{Saying}
use Rattle.mr_out_program.specs.Faults.{IsFaultOf}
use Rattle.mr_out_program.specs.Sayings.{text_of, message_of, status_of, attempt_saying, order_saying}

-- the command with this order, before its first call
abbrev pub first_of : Order → Job → Command
first_of order job = opening order job.id job.tasks job.limit job.hold

-- The order was carried out in the directory, and ended so: the calls that were recorded meanwhile are its command's, and no others.
pub record CarriesOut (order : Order) (old new : Directory) (end : Outcome) : Type 0 where
  pub calls : IsCarriedOut (first_of order old.job) (calls_of old) (calls_of new) end
  pub job : new.job ≡ old.job

-- ---- how its end is told

-- whether it is told as a fault
abbrev pub is_fault : Outcome → Bool
is_fault (outcome.Foreign a) = true
is_fault (outcome.Vanished a) = true
is_fault outcome.NoFile = true
is_fault outcome.NotAFile = true
is_fault outcome.StillWritten = true
is_fault outcome.Failed = true
is_fault outcome.NotKnown = true
is_fault outcome.NoMemory = true
is_fault _ = false

-- it is handed on as it is, or as its fault
abbrev pub Settles : Order → Directory → Directory → Outcome → Result Outcome Fault → Type 0
Settles order old new end (Ok told) = (told ≡ end) × (is_fault end ≡ false)
Settles order old new end (Err f) = (is_fault end ≡ true) × IsFaultOf order old new end f

abbrev pub CarriesAndSettles : Order → Directory → Directory → Result Outcome Fault → Type 0
CarriesAndSettles order old new result = (end : Outcome) × CarriesOut order old new end × Settles order old new end result

-- what is printed, and the exit status, are those of a saying
pub record Says (saying : Saying) (a : Answered) : Type 0 where
  pub prints : string_bytes a.output ≡ text_of saying
  pub says : string_bytes a.message ≡ message_of saying
  pub ends : a.status ≡ status_of saying

-- no fault
abbrev pub Never : Fault → Type 0
Never f = ⊥

-- a saying is told, if there is one; otherwise such a fault. Or there is no memory to tell it
abbrev pub SaysIfAny : (Fault → Type 0) → Option Saying → Result Answered Fault → Type 0
SaysIfAny refuses None (Ok a) = ⊥
SaysIfAny refuses None (Err f) = refuses f
SaysIfAny refuses (Some saying) (Ok a) = Says saying a
SaysIfAny refuses (Some saying) (Err f) = f ≡ fault.NoMemory

-- It is told by these words, if there are any for such an end; by its own fault; or by the fault that refuses what has no words. Or there is no memory to tell it.
abbrev pub Tells : (Outcome → Option Saying) → (Outcome → Fault → Type 0) → (Fault → Type 0) → Outcome → Result Answered Fault → Type 0
Tells says faults refuses end (Ok a) = (is_fault end ≡ false) × ((saying : Saying) × (says end ≡ Some saying) × Says saying a)
Tells says faults refuses end (Err f) = ((is_fault end ≡ true) × faults end f) ⊎ (((says end ≡ None) × refuses f) ⊎ (f ≡ fault.NoMemory))

-- the order was carried out, and its end told so
abbrev pub CarriesAndTells : Order → (Outcome → Option Saying) → (Fault → Type 0) → Directory → Directory → Result Answered Fault → Type 0
CarriesAndTells order says refuses old new result = (end : Outcome) × CarriesOut order old new end × Tells says (IsFaultOf order old new) refuses end result

-- the end of the order to forget is told; or by its fault, or that of a call on what is removed then
abbrev pub TellsForgotten : (Outcome → Fault → Type 0) → Outcome → Result Answered Fault → Type 0
TellsForgotten faults end (Ok a) = (is_fault end ≡ false) × Says (order_saying end) a
TellsForgotten faults end (Err f) = ((is_fault end ≡ true) × faults end f) ⊎ IsFailure (codes "remove") (codes "_mrout.forgotten") f

abbrev pub Forgets : Directory → Directory → Result Answered Fault → Type 0
Forgets old new result = (end : Outcome) × CarriesOut order.Forget old new end × TellsForgotten (IsFaultOf order.Forget old new) end result

-- ---- an attempt that is named by its text

-- the job has no such attempt
abbrev pub IsNoAttempt : List ℕ → Job → Type 0
IsNoAttempt text job = (a : Attempt) → IsAttempt a → text ≡ attempt_text a → a.task.job ≢ job.id

-- The order of the attempt with this text was carried out, and its end told. Where the job has no such attempt, the text is refused, and no call is made.
abbrev pub CarriesAndTellsOf : (Attempt → Order) → (Outcome → Option Saying) → List ℕ → Directory → Directory → Result Answered Fault → Type 0
CarriesAndTellsOf order says text old new result =
    ((a : Attempt) × (text ≡ attempt_text a) × (a.task.job ≡ old.job.id) × CarriesAndTells (order a) says (IsRefusal text NoAttempt) old new result)
    ⊎ (IsErrAnd result (IsRefusal text NoAttempt) × IsNoAttempt text old.job × Keeps old new)

-- ---- an attempt that is begun

-- at the first task that waits for one, or at this one: beside what is under way there, or over it
abbrev pub start_of : Option ℕ → Bool → Order
start_of None over = order.StartNext
start_of (Some n) over = if over then order.StartOver n else order.StartAt n

-- its line: the task, the attempt, and the path of the file that it is to write
abbrev pub started_line : Job → Attempt → List ℕ → List ℕ
started_line job a here = decimal a.task.number ++ (codes " " ++ (attempt_text a ++ (codes " " ++ (here ++ (codes "/" ++ (work_path (string_bytes job.suffix) a ++ codes "\n"))))))

pub record IsStarted (job : Job) (a : Attempt) (answered : Answered) : Type 0 where
  pub here : List ℕ
  pub prints : string_bytes answered.output ≡ started_line job a here
  pub says : string_bytes answered.message ≡ []
  pub ends : answered.status ≡ 0

-- the line of the attempt that was begun, or why none was
abbrev pub TellsStart : Job → Outcome → Answered → Type 0
TellsStart job (outcome.Started a) answered = IsStarted job a answered
TellsStart job end answered = (is_fault end ≡ false) × Says (attempt_saying end) answered

-- or its fault; or where the process stands is not known, and so no path can be told
abbrev pub StartsOrFails : Job → (Outcome → Fault → Type 0) → Outcome → Result Answered Fault → Type 0
StartsOrFails job faults end (Ok answered) = TellsStart job end answered
StartsOrFails job faults end (Err f) = ((is_fault end ≡ true) × faults end f) ⊎ IsFailure (codes "look") (codes ".") f

abbrev pub Begins : Order → Directory → Directory → Result Answered Fault → Type 0
Begins order old new result = (end : Outcome) × CarriesOut order old new end × StartsOrFails old.job (IsFaultOf order old new) end result

-- the job has the task of this number, if one is named
abbrev pub HasTask : Option ℕ → Job → Type 0
HasTask None job = Unit {0}
HasTask (Some n) job = n < job.tasks
