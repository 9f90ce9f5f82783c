-- No member of a verdict's object is a float.
use Rattle.std.proofs.Common.{◌≡◌, false, refl, ap, ◌∙◌}
use Rattle.serde_json.specs.View.{view}
use Rattle.serde_json.specs.Written.{has_float}
use Rattle.serde_json.specs.declared.value.Value.{Value}
use Rattle.mr_judge.specs.declared.verdict.Verdict.{Verdict}
use Rattle.mr_judge.specs.declared.verdict.Verdict.TheVariants.{Right, Wrong}
use Rattle.mr_judge.specs.Said.{verdict_object}

pub is_plain : (v : Value) (verdict : Verdict) → view v ≡ verdict_object verdict → has_float (view v) ≡ false
is_plain v Right is = ap has_float is ∙ refl
is_plain v (Wrong line answered expected) is = ap has_float is ∙ refl
