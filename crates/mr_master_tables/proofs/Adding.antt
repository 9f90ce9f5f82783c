-- Attempts are added as the last, one after another.
use Rattle.std.proofs.Common.{ℕ, ◌+◌, ◌<◌, ◌≡◌, refl, sym, ◌∙◌, ap, List, [], ◌∷◌, ◌++◌, length, take, get_or, add-one}
use Rattle.std.proofs.Math.Seq.{take-suc}
use Rattle.mr_ids.specs.Attempt.{Attempt}
use Rattle.mr_grant.specs.Attempts.{with_last}
use Rattle.mr_master_tables.specs.Bars.{all_added}

added-more : (bars xs : List Attempt) (a : Attempt) → all_added bars (xs ++ a ∷ []) ≡ with_last (all_added bars xs) a
added-more bars [] a = refl
added-more bars (x ∷ xs) a = added-more (with_last bars x) xs a

pub next-added : (bars xs : List Attempt) (i : ℕ) (x : Attempt) (mid new : List Attempt) → i < length xs → x ≡ get_or xs i x → mid ≡ all_added bars (take i xs) → new ≡ with_last mid x → new ≡ all_added bars (take (i + 1) xs)
next-added bars xs i x mid new within is before now =
    let more : take (i + 1) xs ≡ take i xs ++ x ∷ [] = ap (λ (n : ℕ). take n xs) (add-one i) ∙ take-suc xs i x within ∙ ap (λ (y : Attempt). take i xs ++ y ∷ []) (sym is) in
    now ∙ ap (λ (l : List Attempt). with_last l x) before ∙ sym (ap (λ (l : List Attempt). all_added bars l) more ∙ added-more bars (take i xs) x)
