-- Marks of events (our own profile).
use Rattle.std.specs.Prelude.{ℕ, Bool, true, false, ◌&&◌, ◌==◌, not}
use Rattle.mr_ids.specs.Attempt.{Attempt as AttemptOfTask}
use Rattle.mr_ids.specs.Kind as kind
use Rattle.mr_ids.specs.Same.{same_attempt}
use Rattle.mr_trace_marks.specs.declared.mark.Mark.{Mark}
use Rattle.mr_trace_marks.specs.declared.mark.Sign.{Sign}
use Rattle.mr_trace_marks.specs.declared.mark.Sign.TheVariants.{Launched, Allowed, Denied, Committed, Recorded, Won, Lost, Refused, Barred, Failed, Killed, Died, Restarted, GivenUp, Superseded, Ended, Starts, Crashes, Stops, Begins, Publishes, Completes, Restarts, Leaves, Succeeds, Fails}
use Rattle.mr_trace_marks.specs.declared.mark.Subject.{Subject}
use Rattle.mr_trace_marks.specs.declared.mark.Subject.TheVariants.{Attempt, Master, Node, Job}

-- the number of a sign in the table
abbrev pub number_of : Sign → ℕ
number_of Launched = 0
number_of Allowed = 1
number_of Denied = 2
number_of Committed = 3
number_of Recorded = 4
number_of Won = 5
number_of Lost = 6
number_of Refused = 7
number_of Barred = 8
number_of Failed = 9
number_of Killed = 10
number_of Died = 11
number_of Restarted = 12
number_of GivenUp = 13
number_of Superseded = 14
number_of Ended = 15
number_of Starts = 16
number_of Crashes = 17
number_of Stops = 18
number_of Begins = 19
number_of Publishes = 20
number_of Completes = 21
number_of Restarts = 22
number_of Leaves = 23
number_of Succeeds = 24
number_of Fails = 25

abbrev pub is_attempts : Subject → AttemptOfTask → Bool
is_attempts (Attempt b) a = same_attempt b a
is_attempts (Master k) a = false
is_attempts (Node n) a = false
is_attempts Job a = false

-- a mark of this attempt, with this sign
abbrev pub is_of : Mark → AttemptOfTask → Sign → Bool
is_of m a s = is_attempts m.subject a && (number_of m.sign == number_of s)

-- not an attempt at a map
abbrev pub is_reduces : Subject → Bool
is_reduces (Attempt a) = kind.is_reduce a.task.kind
is_reduces (Master k) = true
is_reduces (Node n) = true
is_reduces Job = true

-- the end of a container whose attempt is done, or was marked otherwise
abbrev pub is_minor : Sign → Bool
is_minor s = number_of s == number_of Ended

abbrev pub is_deciding : Mark → Bool
is_deciding m = is_reduces m.subject && not (is_minor m.sign)
