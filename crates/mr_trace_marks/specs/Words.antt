-- The words of marks and of fates: one table (our own profile).
use Rattle.std.specs.Prelude.{ℕ, Bool, true, false, List, [], ◌∷◌, ◌++◌, Option, Some, None, if◌then◌else◌, filter, codes, decimal}
use Rattle.std.specs.List.{flat_map}
use Rattle.mr_ids.specs.Attempt.{Attempt as AttemptOfTask}
use Rattle.mr_ids.specs.declared.id.TaskKind.{TaskKind}
use Rattle.mr_ids.specs.declared.id.TaskKind.TheVariants.{Map, Reduce}
use Rattle.mr_trace_marks.specs.declared.mark.Mark.{Mark}
use Rattle.mr_trace_marks.specs.declared.mark.Sign.{Sign}
use Rattle.mr_trace_marks.specs.declared.mark.Sign.TheVariants as sign
use Rattle.mr_trace_marks.specs.declared.mark.Subject.{Subject}
use Rattle.mr_trace_marks.specs.declared.mark.Subject.TheVariants as subject
use Rattle.mr_trace_marks.specs.declared.fate.Fate.{Fate}
use Rattle.mr_trace_marks.specs.declared.fate.Fate.TheVariants as fate
use Rattle.mr_trace_marks.specs.Marks.{is_deciding}
use Rattle.mr_trace_marks.specs.Fates.{event_of, place_of}

-- ---- marks

-- what a mark says, in a word
abbrev pub sign_word : Sign → List ℕ
sign_word sign.Launched = codes "launched"
sign_word sign.Allowed = codes "allowed"
sign_word sign.Denied = codes "denied"
sign_word sign.Committed = codes "committed"
sign_word sign.Recorded = codes "recorded"
sign_word sign.Won = codes "won"
sign_word sign.Lost = codes "lost"
sign_word sign.Refused = codes "refused"
sign_word sign.Barred = codes "barred"
sign_word sign.Failed = codes "failed"
sign_word sign.Killed = codes "killed"
sign_word sign.Died = codes "died"
sign_word sign.Restarted = codes "ended with its node"
sign_word sign.GivenUp = codes "given up"
sign_word sign.Superseded = codes "superseded"
sign_word sign.Ended = codes "ended"
sign_word sign.Starts = codes "starts"
sign_word sign.Crashes = codes "crashes"
sign_word sign.Stops = codes "stops"
sign_word sign.Begins = codes "begins the job commit"
sign_word sign.Publishes = codes "publishes"
sign_word sign.Completes = codes "completes"
sign_word sign.Restarts = codes "restarts"
sign_word sign.Leaves = codes "is given up"
sign_word sign.Succeeds = codes "succeeded"
sign_word sign.Fails = codes "failed"

-- the same behind the subject of a sentence
abbrev pub verb : Sign → List ℕ
verb sign.Launched = codes " is launched."
verb sign.Allowed = codes " hears that it may commit."
verb sign.Denied = codes " hears that it may not commit."
verb sign.Committed = codes " commits: its output takes the place of the task's. This alone does not make it the winner."
verb sign.Recorded = codes " is recorded as done. That is not stable yet: a crash can still lose it."
verb sign.Won = codes " is the winner from now on: its success is stable."
verb sign.Lost = codes " loses its success, which was recorded and not stable."
verb sign.Refused = codes " makes a store call, which is refused."
verb sign.Barred = codes " is barred from the store."
verb sign.Failed = codes " gives up, and reports that it failed."
verb sign.Killed = codes " is killed."
verb sign.Died = codes " dies."
verb sign.Restarted = codes " ends with its node."
verb sign.GivenUp = codes " is given up with its node, and may still run."
verb sign.Superseded = codes " is superseded: a newer master starts."
verb sign.Ended = codes " ends."
verb sign.Starts = codes " starts."
verb sign.Crashes = codes " crashes."
verb sign.Stops = codes " stops: a call of it was refused, or its answer was lost."
verb sign.Begins = codes " begins the job commit."
verb sign.Publishes = codes " moves a part file into the destination."
verb sign.Completes = codes " makes _SUCCESS."
verb sign.Restarts = codes " restarts: its containers end, and its map outputs are gone."
verb sign.Leaves = codes " is given up, and may still run."
verb sign.Succeeds = codes " is reported succeeded."
verb sign.Fails = codes " is reported failed."

abbrev pub kind_word : TaskKind → List ℕ
kind_word Map = codes "Map "
kind_word Reduce = codes "Reduce "

-- an attempt by its task and its number
abbrev pub attempt_name : AttemptOfTask → List ℕ
attempt_name a = kind_word a.task.kind ++ (decimal a.task.number ++ (codes " attempt " ++ decimal a.number))

-- the subject of a sentence
abbrev pub subject_name : Subject → List ℕ
subject_name (subject.Attempt a) = attempt_name a
subject_name (subject.Master k) = codes "Master " ++ decimal k
subject_name (subject.Node n) = codes "Node " ++ decimal n
subject_name subject.Job = codes "The job"

abbrev pub clause_text : Mark → List ℕ
clause_text m = subject_name m.subject ++ verb m.sign

-- sentences with a space between them
abbrev pub joined : List Mark → List ℕ
joined [] = []
joined (m ∷ ms) = clause_text m ++ flat_map (λ n. 32 ∷ clause_text n) ms

-- what an event with these marks decides
abbrev pub sentence : List Mark → List ℕ
sentence ms = joined (filter is_deciding ms)

-- ---- fates

abbrev pub fate_word : Fate → List ℕ
fate_word fate.Won = codes "won"
fate_word fate.Lost = codes "lost"
fate_word fate.Failed = codes "failed"
fate_word fate.Died = codes "died"
fate_word fate.Restarted = codes "ended with its node"
fate_word fate.GivenUp = codes "given up"
fate_word fate.Killed = codes "killed"
fate_word fate.Undecided = codes "undecided"
fate_word fate.Refused = codes "refused"
fate_word fate.Superseded = codes "superseded"
fate_word fate.Unfinished = codes "unfinished"

-- the event of this place, in brackets
unfoldable pub at_place : ℕ → List ℕ
at_place place = codes " (event " ++ (decimal place ++ codes ")")

abbrev pub at_event : Option ℕ → List ℕ
at_event None = []
at_event (Some place) = at_place place

-- how a reason begins, in front of the event that decided it
abbrev pub lead : Fate → List ℕ
lead fate.Won = codes "Its success was the first of its reduce to be stable"
lead fate.Lost = codes ", and lost before it was stable"
lead fate.Failed = codes "It reported that it failed"
lead fate.Died = codes "Its container died"
lead fate.Restarted = codes "Its node restarted"
lead fate.GivenUp = codes "Its node was given up"
lead fate.Killed = codes "It was killed"
lead fate.Undecided = codes "Its success was recorded"
lead fate.Refused = codes "A store call of it was refused"
lead fate.Superseded = codes "A newer master started"
lead fate.Unfinished = codes "The run ends before it is done"

-- and how it ends
abbrev pub ending : Fate → List ℕ
ending fate.Won = codes "."
ending fate.Lost = codes "."
ending fate.Failed = codes "."
ending fate.Died = codes "."
ending fate.Restarted = codes "."
ending fate.GivenUp = codes ": nothing that it does later counts."
ending fate.Killed = codes "."
ending fate.Undecided = codes ", and is not stable where the run ends."
ending fate.Refused = codes "."
ending fate.Superseded = codes ": nothing that it does later counts."
ending fate.Unfinished = codes "."

abbrev pub recorded_at : Option ℕ → List ℕ
recorded_at at = codes "Its success was recorded" ++ at_event at

-- of what was lost it is said before when it was recorded
abbrev pub recorded_before : List Mark → AttemptOfTask → Fate → List ℕ
recorded_before ms a fate.Lost = recorded_at (place_of ms a sign.Recorded)
recorded_before ms a _ = []

-- its success was recorded
abbrev pub was_recorded : Fate → Bool
was_recorded fate.Won = true
was_recorded fate.Lost = true
was_recorded fate.Undecided = true
was_recorded _ = false

abbrev pub commit_at : Option ℕ → List ℕ
commit_at at = codes " It had committed" ++ at_event at

abbrev pub had_committed : Option ℕ → List ℕ
had_committed at = commit_at at ++ codes ", which alone does not count."

abbrev pub committed_at : Option ℕ → List ℕ
committed_at None = []
committed_at (Some place) = had_committed (Some place)

-- that an attempt had committed, where its success was not recorded
abbrev pub aside : List Mark → AttemptOfTask → Fate → List ℕ
aside ms a f = if was_recorded f then [] else committed_at (place_of ms a sign.Committed)

-- why an attempt has this fate
abbrev pub reason : List Mark → AttemptOfTask → Fate → List ℕ
reason ms a f = recorded_before ms a f ++ (lead f ++ (at_event (event_of ms a f) ++ (ending f ++ aside ms a f)))
