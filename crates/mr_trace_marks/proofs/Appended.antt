-- Two parts that were appended in turn, as one.
use Rattle.std.proofs.Common.{◌≡◌, ◌++◌, ◌∙◌, ℕ, List, Result, Ok, Err, append_assoc}
use Rattle.std.specs.Prelude.{OnOk}

pub appended : {A E : Type 0} (r : Result A E) (new out words more : List ℕ) → OnOk r (new ≡ out ++ words ++ more) → OnOk r (new ≡ out ++ (words ++ more))
appended (Ok x) new out words more h = h ∙ append_assoc out words more
appended (Err e) new out words more h = h
