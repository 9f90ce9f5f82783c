-- What is printed of a directory as text: the answer in one line, then what was seen, and each premise that is not met. Our own profile.
use Rattle.std.specs.Prelude.{ℕ, ◌+◌, Bool, true, false, ◌&&◌, ◌||◌, List, [], ◌∷◌, ◌++◌, ◌==◌, nat_lt, length, map, codes, decimal, Option, Some, None, if◌then◌else◌}
use Rattle.std.specs.List.{flat_map}
use Rattle.mr_out_check.specs.Seen.{Noted, Seen}
use Rattle.mr_out_check.specs.Verdicts.{answer, is_never, premises, same_standing, standing}
use Rattle.mr_out_check.specs.declared.class.Class.{Class}
use Rattle.mr_out_check.specs.declared.class.Class.TheVariants as class
use Rattle.mr_out_check.specs.declared.seen.Times.{Times}
use Rattle.mr_out_check.specs.declared.seen.Times.TheVariants.{Never, Once, More}
use Rattle.mr_out_check.specs.declared.told.Told.{Told}
use Rattle.mr_out_check.specs.declared.premise.Premise.{Premise}
use Rattle.mr_out_check.specs.declared.premise.Premise.TheVariants as premise
use Rattle.mr_out_check.specs.declared.premise.Standing.{Standing}
use Rattle.mr_out_check.specs.declared.premise.Standing.TheVariants.{Met, Open, Broken}
use Rattle.mr_out_check.specs.declared.verdict.Answer.{Answer}
use Rattle.mr_out_check.specs.declared.verdict.Answer.TheVariants.{Yes, No, ItDepends}

-- ---- words

abbrev pub answer_word : Answer → List ℕ
answer_word Yes = codes "yes"
answer_word No = codes "no"
answer_word ItDepends = codes "it depends"

abbrev pub class_words : Class → List ℕ
class_words class.Marker = codes "marker"
class_words class.MarkerWithBytes = codes "marker with bytes"
class_words class.MarkerFolder = codes "marker that is no file"
class_words class.ReducePart = codes "part files of reduces"
class_words class.MapPart = codes "part files of maps"
class_words class.PlainPart = codes "part files"
class_words class.Temporary = codes "folder _temporary"
class_words class.TemporaryClosed = codes "folder _temporary, not listed"
class_words class.Generation = codes "generations of the master"
class_words class.CommittedTask = codes "committed tasks"
class_words class.TaskAttempt = codes "task attempts"
class_words class.OtherWork = codes "other work"
class_words class.Mrout = codes "names of mrout"
class_words class.Spark = codes "files of Spark"
class_words class.Hive = codes "files of Hive"
class_words class.Partition = codes "partitions"
class_words class.CommitMark = codes "marks of Databricks"
class_words class.DeltaLog = codes "names of a Delta log"
class_words class.Hidden = codes "hidden names"
class_words class.Folder = codes "folders"
class_words class.InFolder = codes "names in folders"
class_words class.Foreign = codes "other names"

-- a premise is named by the word that settles it, where there is one
abbrev pub premise_word : Premise → List ℕ
premise_word premise.Marker = codes "marker"
premise_word premise.WorkDone = codes "work"
premise_word premise.Tasks = codes "tasks"
premise_word premise.Numbers = codes "numbers"
premise_word premise.Family = codes "family"
premise_word premise.Names = codes "names"
premise_word premise.Mrout = codes "mrout"
premise_word premise.AppAttempts = codes "app-attempts"
premise_word premise.TaskAttempts = codes "task-attempts"
premise_word premise.Algorithm = codes "algorithm"
premise_word premise.Store = codes "store"
premise_word premise.Order = codes "listed-after-marker"

-- why a premise is broken
abbrev pub broken_reason : Premise → List ℕ
broken_reason premise.Marker = codes "there is no empty file _SUCCESS"
broken_reason premise.WorkDone = codes "work is left beneath _temporary: the job runs, or it was stopped"
broken_reason premise.Tasks = codes "a part file of the tasks that are told is missing"
broken_reason premise.Numbers = []
broken_reason premise.Family = []
broken_reason premise.Names = []
broken_reason premise.Mrout = []
broken_reason premise.AppAttempts = []
broken_reason premise.TaskAttempts = []
broken_reason premise.Algorithm = []
broken_reason premise.Store = []
broken_reason premise.Order = []

-- why it is open, and how one learns more
abbrev pub open_reason : Premise → List ℕ
open_reason premise.Marker = codes "_SUCCESS has bytes, so another committer made it"
open_reason premise.WorkDone = codes "what stands in _temporary was not listed: list with -R"
open_reason premise.Tasks = codes "tell with --tasks N how many part files there are to be, and no more may be there (not tried here: the job's page of the history server)"
open_reason premise.Numbers = codes "there is no part file, or a number is missing or comes twice"
open_reason premise.Family = codes "the part files are of more than one family"
open_reason premise.Names = codes "there are names that the committer of a job does not make"
open_reason premise.Mrout = codes "it is a directory of mrout, whose history decides"
open_reason premise.AppAttempts = codes "tell with --app-attempts 1 that the job had one application attempt (not tried here: yarn applicationattempt -list APPLICATION); with more the answer is never yes"
open_reason premise.TaskAttempts = codes "tell with --task-attempts 1 that each task had one attempt (not tried here: the job's page of the history server); with more the answer is never yes"
open_reason premise.Algorithm = codes "tell with --algorithm 1 that tasks publish in the job commit (mapreduce.fileoutputcommitter.algorithm.version); of version 2 the answer is never yes, so run the job with version 1"
open_reason premise.Store = codes "tell with --store local or hdfs that a rename happens whole; of an object store the answer is never yes"
open_reason premise.Order = codes "tell with --listed-after-marker that _SUCCESS was seen before the listing began"

-- ---- the answer in one line: `it depends: out: tasks app-attempts`

-- a byte of a name; a control byte is shown as a question mark
abbrev pub shown_byte : ℕ → ℕ
shown_byte b = if nat_lt b 32 || (b == 127) then 63 else b

abbrev pub shown : List ℕ → List ℕ
shown name = map shown_byte name

-- how a premise stands that is named beside the answer
abbrev pub told_standing : Answer → Standing
told_standing Yes = Broken
told_standing No = Broken
told_standing ItDepends = Open

-- a blank and the premise, if it stands so
abbrev pub word_if : Standing → Seen → Told → Premise → List ℕ
word_if at s t p = if same_standing (standing p s t) at then 32 ∷ premise_word p else []

abbrev pub premise_words : Standing → Seen → Told → List ℕ
premise_words at s t = flat_map (word_if at s t) premises

abbrev pub ends_words : Answer → List ℕ → List ℕ
ends_words Yes words = 10 ∷ []
ends_words No words = 58 ∷ words ++ 10 ∷ []
ends_words ItDepends words = 58 ∷ words ++ 10 ∷ []

abbrev pub answer_line_of : Answer → List ℕ → Seen → Told → List ℕ
answer_line_of a dir s t = answer_word a ++ (codes ": " ++ (shown dir ++ ends_words a (premise_words (told_standing a) s t)))

abbrev pub answer_line : List ℕ → Seen → Told → List ℕ
answer_line dir s t = answer_line_of (answer s t) dir s t

-- ---- what was seen: `  part files of reduces: 2, first part-r-00000`

abbrev pub note_line : Noted → List ℕ
note_line n = codes "  " ++ (class_words n.class ++ (codes ": " ++ (decimal n.count ++ (codes ", first " ++ (shown n.first ++ 10 ∷ [])))))

-- the first number that never came, where they stand from k on
abbrev pub first_never : ℕ → List Times → Option ℕ
first_never k [] = None
first_never k (t ∷ ts) = if is_never t then Some k else first_never (k + 1) ts

abbrev pub is_more : Times → Bool
is_more Never = false
is_more Once = false
is_more More = true

-- the first that came more than once
abbrev pub first_double : ℕ → List Times → Option ℕ
first_double k [] = None
first_double k (t ∷ ts) = if is_more t then Some k else first_double (k + 1) ts

abbrev pub or_behind : ℕ → Option ℕ → Option ℕ → Option ℕ
or_behind len (Some k) tasks = Some k
or_behind len None None = None
or_behind len None (Some n) = if nat_lt len n then Some len else None

-- the first that is missing, of those below the number of tasks where that is told
abbrev pub first_missing : Option ℕ → List Times → Option ℕ
first_missing tasks tally = or_behind (length tally) (first_never 0 tally) tasks

abbrev pub number_line : List ℕ → Option ℕ → List ℕ
number_line what None = []
number_line what (Some k) = what ++ (decimal k ++ 10 ∷ [])

-- ---- premises that are not met: `  store: tell with ..`

abbrev pub reason_line : Premise → List ℕ → List ℕ
reason_line p reason = codes "  " ++ (premise_word p ++ (codes ": " ++ (reason ++ 10 ∷ [])))

abbrev pub premise_line_at : Standing → Premise → List ℕ
premise_line_at Met p = []
premise_line_at Open p = reason_line p (open_reason p)
premise_line_at Broken p = reason_line p (broken_reason p)

abbrev pub premise_line : Seen → Told → Premise → List ℕ
premise_line s t p = premise_line_at (standing p s t) p

-- ---- all of it

abbrev pub numbers_text : Seen → Told → List ℕ
numbers_text s t = number_line (codes "  first number that is missing: ") (first_missing t.tasks s.tally) ++ number_line (codes "  first number that comes twice: ") (first_double 0 s.tally)

abbrev pub report : List ℕ → Seen → Told → List ℕ
report dir s t = answer_line dir s t ++ (flat_map note_line s.notes ++ (numbers_text s t ++ flat_map (premise_line s t) premises))
