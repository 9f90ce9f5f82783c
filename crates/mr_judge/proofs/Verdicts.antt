-- A line more is judged.
use Rattle.std.proofs.Common.{◌≡◌, ◌⊎◌, inl, inr, ℕ, List, [], ◌∷◌, Option, Some, None, sym, subst}
use Rattle.mr_names.specs.declared.op.Caller.{Caller}
use Rattle.mr_names.specs.declared.op.Op.{Op}
use Rattle.mr_names.specs.Calls.{State, call_of, raised}
use Rattle.mr_judge.specs.declared.line.Told.{Told}
use Rattle.mr_judge.specs.declared.line.Told.TheVariants.{Raised, Called}
use Rattle.mr_judge.specs.declared.verdict.Verdict.{Verdict}
use Rattle.mr_judge.specs.Trace.{Judges}
use Rattle.mr_judge.specs.inner.Verdict.{JudgesOne}

pub judge_more : (s t : State) (n : ℕ) (told : Told) (rest : List (ℕ × Told)) (verdict : Verdict) → JudgesOne s n told None t → Judges t rest verdict → Judges s ((n, told) ∷ rest) verdict
judge_more s t n (Raised k) rest verdict one judges = subst (λ u. Judges u rest verdict) one judges
judge_more s t n (Called caller call answer) rest verdict one judges = inl (one.0, subst (λ u. Judges u rest verdict) one.1 judges)

pub judge_end : (s t : State) (n : ℕ) (told : Told) (rest : List (ℕ × Told)) (verdict : Verdict) → JudgesOne s n told (Some verdict) t → Judges s ((n, told) ∷ rest) verdict
judge_end s t n (Raised k) rest verdict one = absurd one
judge_end s t n (Called caller call answer) rest verdict one = inr one
