-- How a verdict is said: as a line, or as an object of JSON. Our own format.
use Rattle.std.specs.Prelude.{ℕ, List, [], ◌∷◌, ◌++◌, Result, Ok, Err, codes, decimal, true, false}
use Rattle.serde_json.specs.Data.{Data, boolean}
use Rattle.mr_sim_json.specs.Members.{count, line_of, object_of, text}
use Rattle.mr_judge.specs.declared.fault.JudgeFault.{JudgeFault}
use Rattle.mr_judge.specs.declared.fault.JudgeFault.TheVariants.{BadLine, TooLong, NoMemory}
use Rattle.mr_pipe.specs.declared.form.Form.{Form}
use Rattle.mr_pipe.specs.declared.form.Form.TheVariants.{Text, Json}
use Rattle.mr_judge.specs.declared.verdict.Verdict.{Verdict}
use Rattle.mr_judge.specs.declared.verdict.Verdict.TheVariants.{Right, Wrong}

abbrev pub verdict_text : Verdict → List ℕ
verdict_text Right = codes "right\n"
verdict_text (Wrong line answered expected) = codes "line " ++ decimal line ++ codes ": answered " ++ answered ++ codes ", expected " ++ expected ++ 10 ∷ []

abbrev pub verdict_object : Verdict → Data
verdict_object Right = object_of ((codes "right", boolean true) ∷ [])
verdict_object (Wrong line answered expected) =
    object_of ((codes "right", boolean false) ∷ (codes "line", count line) ∷ (codes "answered", text answered) ∷ (codes "expected", text expected) ∷ [])

abbrev pub verdict_json : Verdict → List ℕ
verdict_json verdict = line_of (verdict_object verdict)

abbrev pub verdict_as : Form → Verdict → List ℕ
verdict_as Text verdict = verdict_text verdict
verdict_as Json verdict = verdict_json verdict

-- nothing is written where there is no verdict
abbrev pub said_of : Form → Result Verdict JudgeFault → List ℕ
said_of form (Ok verdict) = verdict_as form verdict
said_of form (Err e) = []

-- ---- the exit status, as those of the other subcommands: 1 says no, 3 is about the input, 5 about memory
abbrev pub status_of : Result Verdict JudgeFault → ℕ
status_of (Ok Right) = 0
status_of (Ok (Wrong line answered expected)) = 1
status_of (Err (BadLine line)) = 3
status_of (Err TooLong) = 3
status_of (Err NoMemory) = 5
