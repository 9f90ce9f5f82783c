-- A store's trace, and its judgement by the namespace's definition. The lines are our own format, in the words of a trace of `mrsim`; what an answer has to be is mr_names' `call_of`.
use Rattle.std.specs.Prelude.{◌≡◌, ◌≢◌, ◌<◌, ◌≤◌, ◌^◌, ◌⊎◌, ℕ, List, [], ◌∷◌, ◌++◌, length, Option, Some, None, Result, Ok, Err, codes, decimal}
use Rattle.mr_ids.specs.Attempt.{Attempt}
use Rattle.mr_ids.specs.Text.{IsAttempt}
use Rattle.mr_names.specs.declared.op.Caller.{Caller}
use Rattle.mr_names.specs.Calls.{State, call_of, opening, raised}
use Rattle.mr_script.specs.declared.script.ScriptFault.{ScriptFault}
use Rattle.mr_script.specs.declared.script.ScriptFault.TheVariants as script
use Rattle.mr_script.specs.Lines.{AreLines, IsFirstNoLine, lines_of}
use Rattle.mr_script.specs.Script.{IsGeneration}
use Rattle.mr_script.specs.Words.{attempt_word, with_word}
use Rattle.mr_call_words.specs.Words.{IsCall, answer_line, call_line}
use Rattle.mr_judge.specs.declared.fault.JudgeFault.{JudgeFault}
use Rattle.mr_judge.specs.declared.fault.JudgeFault.TheVariants as fault
use Rattle.mr_judge.specs.declared.line.Told.{Told}
use Rattle.mr_judge.specs.declared.line.Told.TheVariants.{Raised, Called}
use Rattle.mr_judge.specs.declared.verdict.Verdict.{Verdict}
use Rattle.mr_judge.specs.declared.verdict.Verdict.TheVariants.{Right, Wrong}

-- who makes a call beside its master: an attempt, or none
abbrev pub who_word : Option Attempt → List ℕ
who_word None = codes "none"
who_word (Some a) = attempt_word a

-- a generation to which the fence is raised; or the generation, the attempt, the call and its answer
abbrev pub told_line : Told → List ℕ
told_line (Raised k) = with_word (codes "raise") (decimal k)
told_line (Called caller call answer) = with_word (decimal caller.app) (with_word (who_word caller.attempt) (call_line call ++ 58 ∷ 32 ∷ answer))

abbrev pub IsWho : Option Attempt → Type 0
IsWho None = Unit {0}
IsWho (Some a) = IsAttempt a

abbrev pub IsTold : Told → Type 0
IsTold (Raised k) = IsGeneration k
IsTold (Called caller call answer) = IsGeneration caller.app × IsWho caller.attempt × IsCall call

abbrev pub IsLine : List ℕ → Told → Type 0
IsLine line told = IsTold told × (line ≡ told_line told)

-- ---- the judgement

-- each answer is right, or the first one that is not is told: the number of its line, the words that it has, and those that it should have
abbrev pub Judges : State → List (ℕ × Told) → Verdict → Type 0
Judges s [] verdict = verdict ≡ Right
Judges s ((n, Raised k) ∷ rest) verdict = Judges (raised s k) rest verdict
Judges s ((n, Called caller call answer) ∷ rest) verdict =
    ((answer ≡ answer_line (call_of s caller call).0) × Judges (call_of s caller call).1 rest verdict)
    ⊎ ((answer ≢ answer_line (call_of s caller call).0) × (verdict ≡ Wrong n answer (answer_line (call_of s caller call).0)))

-- a trace whose lines are all such, and its verdict
abbrev pub JudgesText : List ℕ → Verdict → Type 0
JudgesText input verdict = (all : List (ℕ × Told)) × AreLines IsLine 1 (lines_of input) all × Judges opening all verdict

-- the first line that is no line of a trace; there may be an allocation failure at any input. How long it may be is for whoever reads it
abbrev pub JudgeFails : List ℕ → JudgeFault → Type 0
JudgeFails input (fault.BadLine n) = IsFirstNoLine IsLine 1 (lines_of input) n
JudgeFails input fault.TooLong = ⊥
JudgeFails input fault.NoMemory = Unit {0}

-- of what is read: a trace has at most 2^24 bytes, and a longer one is not judged
abbrev pub JudgedAs : List ℕ → Result Verdict JudgeFault → Type 0
JudgedAs input (Ok verdict) = (length input ≤ 2 ^ 24) × JudgesText input verdict
JudgedAs input (Err (fault.BadLine n)) = (length input ≤ 2 ^ 24) × JudgeFails input (fault.BadLine n)
JudgedAs input (Err fault.TooLong) = 2 ^ 24 < length input
JudgedAs input (Err fault.NoMemory) = Unit {0}

abbrev pub judge_fault : ScriptFault → JudgeFault
judge_fault (script.BadCommand n) = fault.BadLine n
judge_fault script.NoMemory = fault.NoMemory
