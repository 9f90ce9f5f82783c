-- What is said of one line, and the namespace behind it.
use Rattle.std.specs.Prelude.{◌≡◌, ◌≢◌, ℕ, List, Option, Some, None}
use Rattle.mr_names.specs.declared.op.Caller.{Caller}
use Rattle.mr_names.specs.declared.op.Op.{Op}
use Rattle.mr_names.specs.Calls.{State, call_of, raised}
use Rattle.mr_call_words.specs.Words.{answer_line}
use Rattle.mr_judge.specs.declared.line.Told.{Told}
use Rattle.mr_judge.specs.declared.line.Told.TheVariants.{Raised, Called}
use Rattle.mr_judge.specs.declared.verdict.Verdict.{Verdict}
use Rattle.mr_judge.specs.declared.verdict.Verdict.TheVariants.{Wrong}

abbrev pub JudgesCall : State → ℕ → Caller → Op → List ℕ → Option Verdict → State → Type 0
JudgesCall s n caller call answer None t = (answer ≡ answer_line (call_of s caller call).0) × (t ≡ (call_of s caller call).1)
JudgesCall s n caller call answer (Some verdict) t = (answer ≢ answer_line (call_of s caller call).0) × (verdict ≡ Wrong n answer (answer_line (call_of s caller call).0))

abbrev pub JudgesOne : State → ℕ → Told → Option Verdict → State → Type 0
JudgesOne s n (Raised k) None t = t ≡ raised s k
JudgesOne s n (Raised k) (Some verdict) t = ⊥
JudgesOne s n (Called caller call answer) verdict t = JudgesCall s n caller call answer verdict t
