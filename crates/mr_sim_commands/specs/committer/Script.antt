-- Scripts of committer calls: one command per line. The commands are our own; the calls behind them are those of the
-- Hadoop OutputCommitter API.
use Rattle.std.specs.Prelude.{◌≡◌, ◌<◌, ◌^◌, ℕ, List, ◌∷◌, ◌++◌, Option, Some, None, codes, decimal}
use Rattle.mr_ids.specs.Attempt.{Attempt}
use Rattle.mr_ids.specs.declared.id.TaskId.{TaskId}
use Rattle.mr_ids.specs.Text.{task_text, IsTask, IsAttempt}
use Rattle.mr_ids.specs.declared.id.TaskKind.TheVariants.{Reduce}
use Rattle.mr_script.specs.Lines.{IsNoLine, AreLines, IsFirstNoLine}
use Rattle.mr_script.specs.Script.{IsGeneration}
use Rattle.mr_script.specs.Words.{attempt_word}
use Rattle.mr_sim_commands.specs.declared.committer.command.ScriptCommand.{ScriptCommand}
use Rattle.mr_sim_commands.specs.declared.committer.command.ScriptCommand.TheVariants.{As, Raise, Check, Setup, Write, Needs, Commit, Abort, Recover, CommitJob, AbortJob, Bar, By}

-- the word that names a task: its canonical spelling
unfoldable pub task_word : TaskId → List ℕ
task_word t = task_text t

-- a task, and the recorded length of its part file, if there is one
abbrev pub recovery_words : TaskId → Option ℕ → List ℕ
recovery_words t None = task_word t
recovery_words t (Some bytes) = task_word t ++ 32 ∷ decimal bytes

-- the caller's attempt, or none
abbrev pub caller_word : Option Attempt → List ℕ
caller_word None = codes "none"
caller_word (Some a) = attempt_word a

-- the line that the command is written as
abbrev pub line_of : ScriptCommand → List ℕ
line_of (As k) = codes "as " ++ decimal k
line_of (Raise k) = codes "raise " ++ decimal k
line_of Check = codes "check"
line_of Setup = codes "setup"
line_of (Write a text) = codes "write " ++ (attempt_word a ++ 32 ∷ text)
line_of (Needs a) = codes "needs " ++ attempt_word a
line_of (Commit a) = codes "commit " ++ attempt_word a
line_of (Abort a) = codes "abort " ++ attempt_word a
line_of (Recover t bytes) = codes "recover " ++ recovery_words t bytes
line_of CommitJob = codes "commitjob"
line_of AbortJob = codes "abortjob"
line_of (Bar a) = codes "bar " ++ attempt_word a
line_of (By who) = codes "by " ++ caller_word who

-- a recorded length, if there is one
abbrev pub IsLength : Option ℕ → Type 0
IsLength None = Unit {0}
IsLength (Some bytes) = bytes < 2 ^ 32

-- a caller's attempt, if it has one
abbrev pub IsCaller : Option Attempt → Type 0
IsCaller None = Unit {0}
IsCaller (Some a) = IsAttempt a

-- the words name no task that is recovered
abbrev pub NamesNone : List ℕ → Type 0
NamesNone rest = (t : TaskId) (bytes : Option ℕ) → IsTask t → IsLength bytes → rest ≡ recovery_words t bytes → ⊥

-- what a command may name: only reduces write
abbrev pub IsCommand : ScriptCommand → Type 0
IsCommand (As k) = IsGeneration k
IsCommand (Raise k) = IsGeneration k
IsCommand Check = Unit {0}
IsCommand Setup = Unit {0}
IsCommand (Write a text) = IsAttempt a × (a.task.kind ≡ Reduce)
IsCommand (Needs a) = IsAttempt a
IsCommand (Commit a) = IsAttempt a
IsCommand (Abort a) = IsAttempt a
IsCommand (Recover t bytes) = IsTask t × IsLength bytes
IsCommand CommitJob = Unit {0}
IsCommand AbortJob = Unit {0}
IsCommand (Bar a) = IsAttempt a
IsCommand (By who) = IsCaller who

-- the line is the command
abbrev pub IsLine : List ℕ → ScriptCommand → Type 0
IsLine line c = IsCommand c × (line ≡ line_of c)

-- the line is no command
abbrev pub IsBad : List ℕ → Type 0
IsBad line = IsNoLine IsLine line

-- The lines, numbered from n on, are these commands: an empty line is counted and skipped.
abbrev pub AreCommands : ℕ → List (List ℕ) → List (ℕ × ScriptCommand) → Type 0
AreCommands n lines cs = AreLines IsLine n lines cs

-- Line k is the first that is not empty and is no command, where the lines are numbered from n on.
abbrev pub IsFirstBad : ℕ → List (List ℕ) → ℕ → Type 0
IsFirstBad n lines k = IsFirstNoLine IsLine n lines k
