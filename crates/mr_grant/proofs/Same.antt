-- The test for one attempt is equality, and is the code's `==`: the lemmas of identifiers, by short names.
use Rattle.std.proofs.Common.{◌≡◌, true, List, refl, sym, ap, ◌∙◌}
use Rattle.std.proofs.lemmas.Slice.Eq.{slice_eq-Decides}
use Rattle.std.specs.Bool.{Decides}
use Rattle.std.specs.Cmp.Lexicographic.{pointwise}
use Rattle.mr_ids.specs.Attempt.{Attempt}
use Rattle.mr_ids.specs.contracts.id.AttemptIdPartialEq.TheImpl.{eq-value}
use Rattle.mr_ids.proofs.Same.{attempt-is, attempt-itself, attempt-same, attempts-same, same_attempt-is, same_attempt-itself}
use Rattle.mr_grant.specs.Attempts.{same_attempt}

-- what `==` of attempts answers
pub eq-same : (a b : Attempt) → eq-value.it a b ≡ same_attempt a b
eq-same = attempt-same

-- the same, of the two tests as functions
pub the_same : eq-value.it ≡ same_attempt
the_same = attempts-same

pub same-is : (a b : Attempt) → same_attempt a b ≡ true → a ≡ b
same-is = same_attempt-is

pub same-itself : (a : Attempt) → same_attempt a a ≡ true
same-itself = same_attempt-itself

-- `==` of two attempts, and of two lists of attempts, holds exactly where they are equal

pub attempts_decide : (a b : Attempt) → Decides (eq-value.it a b) (a ≡ b)
attempts_decide a b = (attempt-is a b, λ e. ap (eq-value.it a) (sym e) ∙ attempt-itself a)

pub lists_decide : (xs ys : List Attempt) → Decides (pointwise eq-value.it xs ys) (xs ≡ ys)
lists_decide xs ys = slice_eq-Decides attempts_decide xs ys _ refl
