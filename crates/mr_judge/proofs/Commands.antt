-- What was read is judged, and the verdict is written.
use Rattle.std.proofs.Common.{◌≡◌, ◌<◌, ◌≤◌, ◌^◌, ℕ, List, length, Option, Some, None, IfSome, IfOk, IfErr, Result, Ok, Err, subst}
use Rattle.std.specs.Io.KnownBytes.{Appends}
use Rattle.mr_judge.specs.Said.{said_of}
use Rattle.mr_judge.specs.Trace.{JudgeFails, JudgedAs, JudgesText}
use Rattle.mr_judge.specs.declared.fault.JudgeFault.{JudgeFault}
use Rattle.mr_judge.specs.declared.fault.JudgeFault.TheVariants as fault
use Rattle.mr_pipe.specs.declared.form.Form.{Form}
use Rattle.mr_judge.specs.declared.verdict.Verdict.{Verdict}

of_short : (input : List ℕ) (judged : Result Verdict JudgeFault) → length input ≤ 2 ^ 24 → IfOk judged (λ verdict. JudgesText input verdict) → IfErr judged (λ e. JudgeFails input e) → JudgedAs input judged
of_short input (Ok verdict) short ok bad = (short, ok)
of_short input (Err (fault.BadLine n)) short ok bad = (short, bad)
of_short input (Err fault.TooLong) short ok bad = absurd bad
of_short input (Err fault.NoMemory) short ok bad = tt

-- of all that a reader had, which is not too long
pub judged_as : (left : Option (List ℕ)) (input : List ℕ) (judged : Result Verdict JudgeFault) → IfSome left (λ all. input ≡ all) → length input ≤ 2 ^ 24 →
    IfOk judged (λ verdict. JudgesText input verdict) → IfErr judged (λ e. JudgeFails input e) → IfSome left (λ input. JudgedAs input judged)
judged_as None input judged read short ok bad = tt
judged_as (Some all) input judged read short ok bad = subst (λ x. JudgedAs x judged) read (of_short input judged short ok bad)

-- of more than that
pub too_long : (left : Option (List ℕ)) → IfSome left (λ all. 2 ^ 24 < length all) → IfSome left (λ input. JudgedAs input (Err fault.TooLong))
too_long None long = tt
too_long (Some all) long = long

pub judges : (left : Option (List ℕ)) (text : List ℕ) (form : Form) (judged : Result Verdict JudgeFault) (was now : Option (List ℕ)) → IfSome left (λ input. JudgedAs input judged) →
    text ≡ said_of form judged → Appends was now text → IfSome left (λ input. JudgedAs input judged × Appends was now (said_of form judged))
judges None text form judged was now is said sends = tt
judges (Some all) text form judged was now is said sends = (is, subst (λ x. Appends was now x) said sends)
