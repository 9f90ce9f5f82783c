-- The text of an entry: its lines, each ended by a semicolon, and where it came from. Our own.
-- An attempt is told by its task's number and its own, in decimal: the log is that of one job. Other numbers are in base 64.
use Rattle.std.specs.Prelude.{◌≡◌, ◌<◌, ◌^◌, ℕ, Bool, true, ◌&&◌, not, nat_le, nat_eq, List, [], ◌∷◌, ◌++◌, codes, length}
use Rattle.std.specs.List.{AllByRecursion, list_all}
use Rattle.mr_ids.specs.Attempt.{Attempt}
use Rattle.mr_ids.specs.declared.id.JobId.{JobId}
use Rattle.mr_ids.specs.declared.id.TaskKind.TheVariants.{Reduce}
use Rattle.mr_log_entries.specs.declared.line.Handed.{Handed}
use Rattle.mr_log_entries.specs.declared.line.Handed.TheVariants.{File, Folder}
use Rattle.mr_log_entries.specs.declared.line.Line.{Line}
use Rattle.mr_log_entries.specs.declared.line.Line.TheVariants.{Started, Won, Failed, Interrupted, Unsuccessful, Publish, Published}
use Rattle.mr_log_entries.specs.declared.entry.Entry.{Entry}
use Rattle.mr_log_entries.specs.declared.entry.Origin.{Origin}
use Rattle.mr_log_entries.specs.Numerals.{number_text}

-- the task's number, a full stop, the attempt's number
abbrev pub attempt_name : Attempt → List ℕ
attempt_name a = number_text 10 a.task.number ++ 46 ∷ number_text 10 a.number

-- the length; of a file also the number that its disk gave it
abbrev pub handed_text : Handed → List ℕ
handed_text (File inode bytes) = number_text 64 bytes ++ 32 ∷ number_text 64 inode
handed_text (Folder bytes) = number_text 64 bytes

unfoldable pub line_text : Line → List ℕ
line_text (Started a) = codes "started " ++ attempt_name a
line_text (Won a handed) = codes "won " ++ (attempt_name a ++ 32 ∷ handed_text handed)
line_text (Failed a) = codes "failed " ++ attempt_name a
line_text (Interrupted a) = codes "interrupted " ++ attempt_name a
line_text Unsuccessful = codes "unsuccessful"
line_text Publish = codes "publish"
line_text Published = codes "published"

unfoldable pub lines_text : List Line → List ℕ
lines_text [] = []
lines_text (line ∷ lines) = line_text line ++ 59 ∷ lines_text lines

unfoldable pub origin_text : Origin → List ℕ
origin_text o = number_text 64 o.boot ++ 32 ∷ (number_text 64 o.time ++ 32 ∷ number_text 64 o.id)

abbrev pub entry_text : Entry → List ℕ
entry_text e = lines_text e.lines ++ origin_text e.origin

-- ---- which bytes it has, and how many

-- a byte that can be printed, and is no slash
abbrev pub is_link_byte : ℕ → Bool
is_link_byte b = (nat_le 32 b && nat_le b 126) && not (nat_eq b 47)

-- what a link can hold that shows what it is
pub record IsLinkText (text : List ℕ) : Type 0 where
  pub some : 0 < length text
  pub bytes : list_all is_link_byte text ≡ true

abbrev pub IsUsualName : Attempt → Type 0
IsUsualName a = (a.task.number < 100000) × (a.number < 10)

abbrev pub IsUsualSize : Handed → Type 0
IsUsualSize (File inode bytes) = (inode < 2 ^ 40) × (bytes < 2 ^ 40)
IsUsualSize (Folder bytes) = bytes < 2 ^ 40

-- a line of numbers as most jobs have them
abbrev pub IsUsual : Line → Type 0
IsUsual (Started a) = IsUsualName a
IsUsual (Won a handed) = IsUsualName a × IsUsualSize handed
IsUsual (Failed a) = IsUsualName a
IsUsual (Interrupted a) = IsUsualName a
IsUsual Unsuccessful = Unit {0}
IsUsual Publish = Unit {0}
IsUsual Published = Unit {0}

-- ---- what has a text that is read back

-- an attempt at a reduce of this job
pub record IsAttemptOf (j : JobId) (a : Attempt) : Type 0 where
  pub job : a.task.job ≡ j
  pub kind : a.task.kind ≡ Reduce
  pub task : a.task.number < 2 ^ 32
  pub number : a.number < 1000000

abbrev pub IsHanded : Handed → Type 0
IsHanded (File inode bytes) = (inode < 2 ^ 64) × (bytes < 2 ^ 64)
IsHanded (Folder bytes) = bytes < 2 ^ 64

-- a line of this job's log
abbrev pub IsLineOf : JobId → Line → Type 0
IsLineOf job (Started a) = IsAttemptOf job a
IsLineOf job (Won a handed) = IsAttemptOf job a × IsHanded handed
IsLineOf job (Failed a) = IsAttemptOf job a
IsLineOf job (Interrupted a) = IsAttemptOf job a
IsLineOf job Unsuccessful = Unit {0}
IsLineOf job Publish = Unit {0}
IsLineOf job Published = Unit {0}

pub record IsOrigin (o : Origin) : Type 0 where
  pub boot : o.boot < 2 ^ 64
  pub time : o.time < 2 ^ 64
  pub id : o.id < 2 ^ 64

-- an entry of this job's log
pub record IsEntryOf (job : JobId) (e : Entry) : Type 0 where
  pub lines : AllByRecursion (IsLineOf job) e.lines
  pub origin : IsOrigin e.origin
