-- The lines of a task. Whose messages they are: an attempt of Hadoop's application master reports `commitPending` and `done` over the umbilical protocol, and asks
-- `canCommit`. Their words are our own.
use Rattle.std.specs.Prelude.{◌≡◌, List, ℕ, codes}
use Rattle.mr_ids.specs.Text.{IsAttempt}
use Rattle.mr_script.specs.Words.{attempt_word, with_word}
use Rattle.mr_task_talk.specs.declared.line.Line.{Line}
use Rattle.mr_task_talk.specs.declared.line.Line.TheVariants.{Launch, Of}
use Rattle.mr_task_talk.specs.declared.line.Verb.{Verb}
use Rattle.mr_task_talk.specs.declared.line.Verb.TheVariants.{Pending, Poll, Done, Recorded, Failed, Ended, Killed, Lost}

abbrev pub verb_text : Verb → List ℕ
verb_text Pending = codes "pending"
verb_text Poll = codes "poll"
verb_text Done = codes "done"
verb_text Recorded = codes "recorded"
verb_text Failed = codes "failed"
verb_text Ended = codes "ended"
verb_text Killed = codes "killed"
verb_text Lost = codes "lost"

abbrev pub line_text : Line → List ℕ
line_text Launch = codes "launch"
line_text (Of verb a) = with_word (verb_text verb) (attempt_word a)

abbrev pub NamesAttempt : Line → Type 0
NamesAttempt Launch = Unit {0}
NamesAttempt (Of verb a) = IsAttempt a

-- the line is the one that this is written as
abbrev pub IsLine : List ℕ → Line → Type 0
IsLine line said = NamesAttempt said × (line ≡ line_text said)
