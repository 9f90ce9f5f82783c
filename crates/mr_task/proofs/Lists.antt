-- Lists of attempts, and what is kept of each.
use Rattle.std.proofs.Common.{◌≡◌, Bool, true, false, ◌||◌, cond, List, [], ◌∷◌, ◌++◌, Some, None, refl, sym, ap, ◌∙◌, true≢false}
use Rattle.std.specs.List.{list_any}
use Rattle.mr_ids.specs.Attempt.{Attempt}
use Rattle.mr_grant.specs.Attempts.{same_attempt, has, first_of, is_first}
use Rattle.mr_task.specs.declared.attempts.Entry.{Entry}
use Rattle.mr_task.specs.Steps.{entry_in, with_entry}
use Rattle.mr_task.specs.State.{kept}
use Rattle.mr_task.specs.Readings.{AreDistinct}
use Rattle.mr_grant.proofs.Same.{same-is, same-itself}
use Rattle.mr_task.proofs.Same.{same-other}

or_assoc : (x y z : Bool) → ((x || y) || z) ≡ (x || (y || z))
or_assoc true y z = refl
or_assoc false y z = refl

or_false : (x : Bool) → (x || false) ≡ x
or_false true = refl
or_false false = refl

pub has-append : (xs : List Attempt) (b a : Attempt) → has (xs ++ b ∷ []) a ≡ (has xs a || same_attempt a b)
has-append [] b a = or_false (same_attempt a b)
has-append (x ∷ xs) b a = ap (λ r. same_attempt a x || r) (has-append xs b a) ∙ sym (or_assoc (same_attempt a x) (has xs a) (same_attempt a b))

-- what is kept depends on what is kept of each alone
pub kept-same : (f g : Attempt → Entry) (xs : List Attempt) → ((x : Attempt) → has xs x ≡ true → f x ≡ g x) → kept f xs ≡ kept g xs
kept-same f g [] h = refl
kept-same f g (x ∷ xs) h =
    let here : f x ≡ g x = h x (ap (λ b. b || has xs x) (same-itself x)) in
    let rest = kept-same f g xs (λ y there. h y (more y (same_attempt y x) there)) in
    λ i. (x, here i) ∷ rest i
  where
    more : (y : Attempt) (b : Bool) → has xs y ≡ true → (b || has xs y) ≡ true
    more y true e = refl
    more y false e = e

pub kept-append : (f : Attempt → Entry) (xs : List Attempt) (a : Attempt) → kept f (xs ++ a ∷ []) ≡ kept f xs ++ (a, f a) ∷ []
kept-append f [] a = refl
kept-append f (x ∷ xs) a = ap (λ l. (x, f x) ∷ l) (kept-append f xs a)

pub entry_in-kept : (f : Attempt → Entry) (xs : List Attempt) (a : Attempt) → entry_in (kept f xs) a ≡ cond (has xs a) (Some (f a)) None
entry_in-kept f [] a = refl
entry_in-kept f (x ∷ xs) a = by (same_attempt a x) refl (entry_in-kept f xs a)
  where
    by : (b : Bool) → same_attempt a x ≡ b → entry_in (kept f xs) a ≡ cond (has xs a) (Some (f a)) None → cond b (Some (f x)) (entry_in (kept f xs) a) ≡ cond (b || has xs a) (Some (f a)) None
    by true e rest = ap (λ y. Some (f y)) (sym (same-is a x e))
    by false e rest = rest

-- what is kept of one attempt is replaced
pub with_entry-kept : (f g : Attempt → Entry) (xs : List Attempt) (a : Attempt) → AreDistinct xs → has xs a ≡ true
    → ((x : Attempt) → same_attempt x a ≡ false → g x ≡ f x) → with_entry (kept f xs) a (g a) ≡ kept g xs
with_entry-kept f g [] a d there h = absurd (true≢false (sym there))
with_entry-kept f g (x ∷ xs) a d there h = by (same_attempt a x) refl there (λ in'. with_entry-kept f g xs a d.1 in' h)
  where
    apart : (y : Attempt) → same_attempt a x ≡ true → has xs y ≡ true → (b : Bool) → same_attempt y a ≡ b → b ≡ false
    apart y e in' false p = refl
    apart y e in' true p = let q : y ≡ x = same-is y a p ∙ same-is a x e in absurd (true≢false (sym in' ∙ ap (λ z. has xs z) q ∙ d.0))

    others : (y : Attempt) → same_attempt a x ≡ true → has xs y ≡ true → f y ≡ g y
    others y e in' = sym (h y (apart y e in' (same_attempt y a) refl))

    by : (b : Bool) → same_attempt a x ≡ b → (b || has xs a) ≡ true → (has xs a ≡ true → with_entry (kept f xs) a (g a) ≡ kept g xs)
        → cond b ((x, g a) ∷ kept f xs) ((x, f x) ∷ with_entry (kept f xs) a (g a)) ≡ (x, g x) ∷ kept g xs
    by true e in' go = let q = same-is a x e in let rest = kept-same f g xs (λ y. others y e) in λ i. (x, g (q i)) ∷ rest i
    by false e in' go =
        let here : f x ≡ g x = sym (h x (same-other a x e)) in
        let rest = go in' in λ i. (x, here i) ∷ rest i

pub distinct-append : (xs : List Attempt) (a : Attempt) → AreDistinct xs → has xs a ≡ false → AreDistinct (xs ++ a ∷ [])
distinct-append [] a d h = (refl, tt)
distinct-append (x ∷ xs) a d h = by (same_attempt a x) refl h (distinct-append xs a d.1)
  where
    by : (b : Bool) → same_attempt a x ≡ b → (b || has xs a) ≡ false → (has xs a ≡ false → AreDistinct (xs ++ a ∷ [])) → (has (xs ++ a ∷ []) x ≡ false) × AreDistinct (xs ++ a ∷ [])
    by true e g go = absurd (true≢false g)
    by false e g go =
        let is : has (xs ++ a ∷ []) x ≡ false = has-append xs a x ∙ ap (λ b. b || same_attempt x a) (d.0) ∙ same-other a x e in
        (is, go g)

-- tests that agree
pub any-same : {X : Type 0} (p q : X → Bool) (xs : List X) → ((x : X) → p x ≡ q x) → list_any p xs ≡ list_any q xs
any-same p q [] h = refl
any-same p q (x ∷ xs) h = let here = h x in let rest = any-same p q xs h in λ i. here i || rest i

pub first-is : (xs ys : List Attempt) (a : Attempt) → first_of xs ≡ first_of ys → is_first xs a ≡ is_first ys a
first-is [] [] a e = refl
first-is [] (y ∷ ys) a e = absurd (cc)
first-is (x ∷ xs) [] a e = absurd (cc)
first-is (x ∷ xs) (y ∷ ys) a e = let q : x ≡ y = cc in ap (λ z. same_attempt z a) q
