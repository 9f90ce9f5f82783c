-- What is answered to the lines of a task. Each answer is read off the calls that the task got before, the newest first, as mr_task reads them. Our own protocol.
use Rattle.std.specs.Prelude.{◌≡◌, ⊤, ℕ, suc, Bool, true, false, List, [], ◌∷◌, ◌++◌, Option, Some, None, Result, Ok, Err, codes, decimal}
use Rattle.mr_ids.specs.Attempt.{Attempt}
use Rattle.mr_ids.specs.Text.{attempt_text}
use Rattle.mr_ids.specs.declared.id.TaskId.{TaskId}
use Rattle.mr_script.specs.Lines.{IsNoLine}
use Rattle.mr_task.specs.Calls.{TaskCall, Launches, Asks, Reports, Fails, Ends, Dies, Records, Loses}
use Rattle.mr_task.specs.Readings.{is_named, launch_refusal, seen}
use Rattle.mr_task.specs.State.{done_answer, known, launch_answer}
use Rattle.mr_task.specs.declared.fault.TaskFault.{TaskFault}
use Rattle.mr_task.specs.declared.fault.TaskFault.TheVariants as fault
use Rattle.mr_task.specs.declared.reply.DoneReply.{DoneReply}
use Rattle.mr_task.specs.declared.reply.DoneReply.TheVariants as reply
use Rattle.mr_pipe_json.specs.Form.{said_as, told_as}
use Rattle.mr_pipe.specs.declared.form.Form.{Form}
use Rattle.mr_pipe_json.specs.declared.key.Key.TheVariants as key
use Rattle.mr_task_talk.specs.Line.{IsLine}
use Rattle.mr_task_talk.specs.declared.line.Line.{Line}
use Rattle.mr_task_talk.specs.declared.line.Line.TheVariants.{Launch, Of}
use Rattle.mr_task_talk.specs.declared.line.Verb.{Verb}
use Rattle.mr_task_talk.specs.declared.line.Verb.TheVariants as verb

-- ---- the words of an answer

abbrev pub fault_text : TaskFault → List ℕ
fault_text fault.AlreadyWon = codes "AlreadyWon"
fault_text fault.TooManyLive = codes "TooManyLive"
fault_text fault.TooManyAttempts = codes "TooManyAttempts"
fault_text fault.Unknown = codes "Unknown"
fault_text fault.NoMemory = codes "NoMemory"

abbrev pub refused : TaskFault → List ℕ
refused f = codes "refused " ++ fault_text f

abbrev pub launch_words : Result Attempt TaskFault → List ℕ
launch_words (Ok a) = codes "launched " ++ attempt_text a
launch_words (Err f) = refused f

abbrev pub noted_words : Result ⊤ TaskFault → List ℕ
noted_words (Ok x) = codes "noted"
noted_words (Err f) = refused f

abbrev pub poll_words : Bool → List ℕ
poll_words true = codes "yes"
poll_words false = codes "no"

abbrev pub done_words : Result DoneReply TaskFault → List ℕ
done_words (Ok reply.Accepted) = codes "wins"
done_words (Ok reply.Again) = codes "wins already"
done_words (Ok reply.Ignored) = codes "ignored"
done_words (Err f) = refused f

-- ---- what is answered, and the calls behind it

-- to what is said of an attempt
abbrev pub answer_of : TaskId → ℕ → List TaskCall → Verb → Attempt → List ℕ
answer_of t k calls verb.Poll a = poll_words (is_named (seen t k calls) a)
answer_of t k calls verb.Done a = done_words (done_answer a t k calls)
answer_of t k calls v a = noted_words (known a t k calls)

abbrev pub answer : TaskId → ℕ → List TaskCall → Line → List ℕ
answer t k calls Launch = launch_words (launch_answer t k calls)
answer t k calls (Of v a) = answer_of t k calls v a

-- a launch that is refused is no call, nor is what an attempt asks that the task never had
abbrev pub with_launch : Option TaskFault → List TaskCall → List TaskCall
with_launch None calls = Launches ∷ calls
with_launch (Some f) calls = calls

abbrev pub with_ask : Result ⊤ TaskFault → Attempt → List TaskCall → List TaskCall
with_ask (Ok x) a calls = Asks a ∷ calls
with_ask (Err f) a calls = calls

abbrev pub past_of : TaskId → ℕ → List TaskCall → Verb → Attempt → List TaskCall
past_of t k calls verb.Pending a = with_ask (known a t k calls) a calls
past_of t k calls verb.Poll a = calls
past_of t k calls verb.Done a = Reports a ∷ calls
past_of t k calls verb.Recorded a = Records a ∷ calls
past_of t k calls verb.Failed a = Fails a ∷ calls
past_of t k calls verb.Ended a = Ends a false ∷ calls
past_of t k calls verb.Killed a = Dies a ∷ calls
past_of t k calls verb.Lost a = Loses a ∷ calls

abbrev pub past : TaskId → ℕ → List TaskCall → Line → List TaskCall
past t k calls Launch = with_launch (launch_refusal (seen t k calls)) calls
past t k calls (Of v a) = past_of t k calls v a

-- ---- the whole

abbrev pub Reads : List ℕ → Option Line → Type 0
Reads line None = IsNoLine IsLine line
Reads line (Some said) = IsLine line said

-- what is told in a form says what the line says that it tells, if it tells one
abbrev pub ReadsTold : Option (List ℕ) → Option Line → Type 0
ReadsTold None found = found ≡ None
ReadsTold (Some line) found = Reads line found

-- to line n, which is this line of a task, or none
abbrev pub reply_to : Form → TaskId → ℕ → List TaskCall → ℕ → Option Line → List ℕ
reply_to form t k calls n None = said_as form key.Error (codes "no line " ++ decimal n)
reply_to form t k calls n (Some said) = said_as form key.Answer (answer t k calls said)

abbrev pub past_behind : TaskId → ℕ → List TaskCall → Option Line → List TaskCall
past_behind t k calls None = calls
past_behind t k calls (Some said) = past t k calls said

-- what is answered to the lines from number n on by task t of generation k that got these calls
abbrev pub Talks : Form → TaskId → ℕ → List TaskCall → ℕ → List (List ℕ) → List ℕ → Type 0
Talks form t k calls n [] said = said ≡ []
Talks form t k calls n (line ∷ lines) said =
    (found : Option Line) × (more : List ℕ) × ReadsTold (told_as form key.Event line) found × (said ≡ reply_to form t k calls n found ++ more)
    × Talks form t k (past_behind t k calls found) (suc n) lines more
