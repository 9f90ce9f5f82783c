-- Which paths of a job are apart.
use Rattle.std.proofs.Common.{◌≡◌, ◌≢◌, ℕ, Bool, true, false, cond, List, [], ◌∷◌, ◌++◌, refl, sym, ap, ◌∙◌, None, is_some, nat_eq, append_assoc, append-nil, true≢false}
use Rattle.std.specs.Cmp.Lexicographic.{pointwise}
use Rattle.mr_ids.specs.Text.{numeral}
use Rattle.mr_paths.specs.Path.{strip, Diverge}
use Rattle.mr_paths.specs.Layout.{temporary_name, temporary, job_attempt}
use Rattle.mr_paths.proofs.Apart.{diverge_by_name, diverge_beneath_left, diverge_beneath_one, diverge_not_within}
use Rattle.mr_names_tree.specs.Content.{within}

pub apart_within : (p q : List (List ℕ)) → Diverge p q → within p q ≡ false
apart_within p q d = ap (λ x. is_some (strip p x)) (sym (append-nil q)) ∙ ap is_some (diverge_not_within p q [] d)

pub work_and_named : (dest rest : List (List ℕ)) (k : ℕ) (name : List ℕ) → name ≢ temporary_name → Diverge (job_attempt dest k ++ rest) (dest ++ name ∷ [])
unfolding job_attempt
work_and_named dest rest k name other = diverge_beneath_left _ _ rest (diverge_beneath_one dest (temporary_name ∷ numeral 1 k ∷ []) (name ∷ []) (diverge_by_name temporary_name name (numeral 1 k ∷ []) [] (λ e. other (sym e))))

pub temporary_and_named : (dest : List (List ℕ)) (name : List ℕ) → name ≢ temporary_name → Diverge (temporary dest) (dest ++ name ∷ [])
unfolding temporary
temporary_and_named dest name other = diverge_beneath_one dest (temporary_name ∷ []) (name ∷ []) (diverge_by_name temporary_name name [] [] (λ e. other (sym e)))

pub entries_part : (top x y : List (List ℕ)) (e f : List ℕ) → e ≢ f → Diverge (top ++ e ∷ x) (top ++ f ∷ y)
entries_part top x y e f other = diverge_beneath_one top (e ∷ x) (f ∷ y) (diverge_by_name e f x y other)

further_down : (top x q : List (List ℕ)) → within top q ≡ false → within (top ++ x) q ≡ false
further_down [] x q out = absurd (true≢false out)
further_down (n ∷ top) x [] out = refl
further_down (n ∷ top) x (m ∷ q) out = by (pointwise nat_eq n m) out (further_down top x q)
  where
    by : (b : Bool) → is_some (cond b (strip top q) None) ≡ false → (within top q ≡ false → within (top ++ x) q ≡ false) → is_some (cond b (strip (top ++ x) q) None) ≡ false
    by true out on = on out
    by false out on = refl

pub work_is : (dest x : List (List ℕ)) (k : ℕ) → job_attempt dest k ++ x ≡ temporary dest ++ numeral 1 k ∷ x
unfolding job_attempt temporary
work_is dest x k = append_assoc dest (temporary_name ∷ numeral 1 k ∷ []) x ∙ sym (append_assoc dest (temporary_name ∷ []) (numeral 1 k ∷ x))

pub out_of_work : (dest x q : List (List ℕ)) (k : ℕ) → within (temporary dest) q ≡ false → within (job_attempt dest k ++ x) q ≡ false
out_of_work dest x q k out = ap (λ p. within p q) (work_is dest x k) ∙ further_down (temporary dest) (numeral 1 k ∷ x) q out

pub last_name : (dest : List (List ℕ)) (n m : List ℕ) → dest ++ n ∷ [] ≡ dest ++ m ∷ [] → n ≡ m
last_name [] n m e = cc
last_name (x ∷ dest) n m e = last_name dest n m cc
