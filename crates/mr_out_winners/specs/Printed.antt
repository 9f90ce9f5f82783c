-- What is printed of a directory of mrout, in each form. Our own profile.
use Rattle.std.specs.Prelude.{ℕ, Bool, List, [], ◌∷◌, ◌++◌, ◌==◌, codes, flat_map, map, if◌then◌else◌}
use Rattle.std.specs.List.{list_any}
use Rattle.serde_json.specs.Data.{Data, string}
use Rattle.mr_sim_json.specs.Members.{Member, line_of, list, object_of, text}
use Rattle.mr_out_check.specs.Report.{answer_word, shown}
use Rattle.mr_out_check.specs.declared.shape.Shape as shape
use Rattle.mr_out_check.specs.declared.shape.Shape.TheVariants.{Report, Line, Json, Quiet}
use Rattle.mr_out_winners.specs.Findings.{Found, answer_of}
use Rattle.mr_out_winners.specs.declared.trouble.Trouble.{Trouble}
use Rattle.mr_out_winners.specs.declared.trouble.Trouble.TheVariants.{Unmarked, OtherTasks, Over, Unwon, Missing, NoFile, Unmeasured, OtherLength, Foreign}

-- ---- words

abbrev pub trouble_word : Trouble → List ℕ
trouble_word Unmarked = codes "marker"
trouble_word OtherTasks = codes "tasks"
trouble_word Over = codes "over"
trouble_word Unwon = codes "winners"
trouble_word Missing = codes "missing"
trouble_word NoFile = codes "files"
trouble_word Unmeasured = codes "unmeasured"
trouble_word OtherLength = codes "lengths"
trouble_word Foreign = codes "foreign"

abbrev pub trouble_reason : Trouble → List ℕ
trouble_reason Unmarked = codes "there was no such empty file before the directory was listed"
trouble_reason OtherTasks = codes "the job has another number of tasks than is told"
trouble_reason Over = codes "the job was ended as failed"
trouble_reason Unwon = codes "its task has no recorded winner"
trouble_reason Missing = codes "the winner's file is missing"
trouble_reason NoFile = codes "it is no regular file"
trouble_reason Unmeasured = codes "no length was noted of the winner's file (mrout resume notes it, if the file is still kept)"
trouble_reason OtherLength = codes "it has another length than the winner's file"
trouble_reason Foreign = codes "mrout did not make it"

-- the order of the troubles, by which two are one
abbrev pub place_of : Trouble → ℕ
place_of Unmarked = 0
place_of OtherTasks = 1
place_of Over = 2
place_of Unwon = 3
place_of Missing = 4
place_of NoFile = 5
place_of Unmeasured = 6
place_of OtherLength = 7
place_of Foreign = 8

abbrev pub troubles : List Trouble
troubles = Unmarked ∷ OtherTasks ∷ Over ∷ Unwon ∷ Missing ∷ NoFile ∷ Unmeasured ∷ OtherLength ∷ Foreign ∷ []

abbrev pub came : List Found → Trouble → Bool
came fs t = list_any (λ (f : Found). place_of f.trouble == place_of t) fs

-- ---- the answer in one line: `no: out: marker winners`

-- a blank and the word of a trouble, if it came
abbrev pub word_if : List Found → Trouble → List ℕ
word_if fs t = if came fs t then 32 ∷ trouble_word t else []

abbrev pub words_behind : List Found → List ℕ
words_behind [] = []
words_behind (f ∷ fs) = 58 ∷ flat_map (word_if (f ∷ fs)) troubles

abbrev pub answer_line : List ℕ → List Found → List ℕ
answer_line dir fs = answer_word (answer_of fs) ++ (codes ": " ++ (shown dir ++ (words_behind fs ++ 10 ∷ [])))

-- ---- then what does not agree: `  part-r-00003: the winner's file is missing`

abbrev pub found_line : Found → List ℕ
found_line f = codes "  " ++ (shown f.name ++ (codes ": " ++ (trouble_reason f.trouble ++ 10 ∷ [])))

abbrev pub last_line : List ℕ
last_line = codes "  (mrout's history decides; lengths of files were compared, their bytes were not)\n"

abbrev pub report : List ℕ → List Found → List ℕ
report dir fs = answer_line dir fs ++ (flat_map found_line fs ++ last_line)

-- ---- a line of JSON (RFC 8259)

abbrev pub words_of : List Found → List Trouble → List Data
words_of fs [] = []
words_of fs (t ∷ ts) = if came fs t then string (trouble_word t) ∷ words_of fs ts else words_of fs ts

abbrev pub found_object : Found → Data
found_object f = object_of ((codes "trouble", string (trouble_word f.trouble)) ∷ (codes "name", text f.name) ∷ [])

abbrev pub answer_members : List ℕ → List Found → List Member
answer_members dir fs =
    (codes "answer", string (answer_word (answer_of fs)))
    ∷ (codes "dir", text dir)
    ∷ (codes "broken", list (words_of fs troubles))
    ∷ (codes "open", list [])
    ∷ (codes "findings", list (map found_object fs))
    ∷ []

abbrev pub report_json : List ℕ → List Found → List ℕ
report_json dir fs = line_of (object_of (answer_members dir fs))

-- ---- any form

abbrev pub printed : shape.Shape → List ℕ → List Found → List ℕ
printed Report dir fs = report dir fs
printed Line dir fs = answer_line dir fs
printed Json dir fs = report_json dir fs
printed Quiet dir fs = []
