-- What a command says of how it ended, and its exit status. Our own; the statuses are those of mrsim. 75 is EX_TEMPFAIL of sysexits.h: to be tried later.
use Rattle.std.specs.Prelude.{ℕ, Bool, true, false, List, [], codes, Option, Some, None}
use Rattle.mr_out_layout.specs.declared.fault.Fault.{Fault}
use Rattle.mr_out_layout.specs.declared.fault.Fault.TheVariants as fault
use Rattle.mr_out_steps.specs.declared.order.Outcome.{Outcome}
use Rattle.mr_out_steps.specs.declared.order.Outcome.TheVariants as outcome
use Rattle.mr_out_steps.specs.declared.standing.Standing.{Standing}
use Rattle.mr_out_steps.specs.declared.standing.Standing.TheVariants as standing
use Rattle.mr_out_program.specs.declared.saying.Saying.{Saying}
use Rattle.mr_out_program.specs.declared.saying.Saying.TheVariants.{Done, Undone, Won, LostAnother, LostGivenUp, LostOver, NoneAllWon, NoneBusy, NoneOver, Full, NotAllWon, EndedAsFailed, NotEnded, NotForgotten}

-- ---- what is printed

-- on standard output
abbrev pub text_of : Saying → List ℕ
text_of Done = []
text_of Undone = []
text_of Won = codes "won\n"
text_of LostAnother = codes "lost another\n"
text_of LostGivenUp = codes "lost given-up\n"
text_of LostOver = codes "lost over\n"
text_of NoneAllWon = codes "none all-won\n"
text_of NoneBusy = codes "none busy\n"
text_of NoneOver = codes "none over\n"
text_of Full = []
text_of NotAllWon = []
text_of EndedAsFailed = []
text_of NotEnded = []
text_of NotForgotten = []

-- on standard error
abbrev pub message_of : Saying → List ℕ
message_of Full = codes "mrout: full\n"
message_of NotAllWon = codes "mrout: not all are won\n"
message_of EndedAsFailed = codes "mrout: the job was ended as failed\n"
message_of NotEnded = codes "mrout: every task is won, and the job is published; nothing was ended\n"
message_of NotForgotten = codes "mrout: the job is not published, so nothing was forgotten (see: mrout status)\n"
message_of _ = []

-- ---- the exit status

abbrev pub status_of : Saying → ℕ
status_of Done = 0
status_of Undone = 1
status_of Won = 0
status_of LostAnother = 1
status_of LostGivenUp = 1
status_of LostOver = 1
status_of NoneAllWon = 1
status_of NoneBusy = 75
status_of NoneOver = 6
status_of Full = 7
status_of NotAllWon = 1
status_of EndedAsFailed = 1
status_of NotEnded = 1
status_of NotForgotten = 1

-- that of a command that was refused, or of which a call failed
abbrev pub fault_status : Fault → ℕ
fault_status fault.NoMemory = 5
fault_status (fault.Call what path error) = 4
fault_status (fault.Refused path why) = 3
fault_status fault.Busy = 75
fault_status fault.Full = 7

-- ---- which of them a command says. None: the attempt is refused, as one that the job does not have

-- `done`, of an attempt that stands so
abbrev pub standing_saying : Standing → Option Saying
standing_saying standing.Won = Some Won
standing_saying standing.Beaten = Some LostAnother
standing_saying standing.GivenUp = Some LostGivenUp
standing_saying standing.JobOver = Some LostOver
standing_saying standing.UnderWay = None
standing_saying standing.Unknown = None

abbrev pub done_saying : Outcome → Option Saying
done_saying (outcome.Stands s) = standing_saying s
done_saying _ = None

-- `fail`, of an attempt that stands so
abbrev pub failing_saying : Standing → Option Saying
failing_saying standing.GivenUp = Some Done
failing_saying standing.Unknown = None
failing_saying _ = Some Undone

abbrev pub fail_saying : Outcome → Option Saying
fail_saying (outcome.Stands s) = failing_saying s
fail_saying _ = Some Undone

-- `attempt` that began none
abbrev pub attempt_saying : Outcome → Saying
attempt_saying outcome.Busy = NoneBusy
attempt_saying outcome.JobOver = NoneOver
attempt_saying outcome.Full = Full
attempt_saying _ = NoneAllWon

abbrev pub publish_saying : Outcome → Saying
publish_saying outcome.Finished = Done
publish_saying outcome.JobOver = EndedAsFailed
publish_saying _ = NotAllWon

-- `abort` and `forget`
abbrev pub order_saying : Outcome → Saying
order_saying outcome.Finished = Done
order_saying outcome.AllWon = NotEnded
order_saying outcome.Unpublished = NotForgotten
order_saying _ = Undone

-- ---- words of `status`

abbrev pub yes_or_no : Bool → List ℕ
yes_or_no true = codes "yes"
yes_or_no false = codes "no"

-- of a job that was ended as failed, and one that is published
abbrev pub outcome_word : Bool → Bool → List ℕ
outcome_word true published = codes "failed"
outcome_word false true = codes "succeeded"
outcome_word false false = codes "none"
