-- Paths that part ways, and the layout's.
use Rattle.std.proofs.Common.{◌≡◌, ◌≢◌, ◌↔◌, inl, inr, ℕ, Bool, true, false, List, [], ◌∷◌, ◌++◌, length, Some, None, refl, sym, ap, ◌∙◌, nat_eq, cond, arith, ◌-◌, ◌+◌}
use Rattle.std.specs.Prelude.{codes}
use Rattle.std.specs.Cmp.Lexicographic.{pointwise, same_text, nat_list_eq_equiv}
use Rattle.std.proofs.lemmas.Bool.{true≢false, eqb-true, eq-eqb}
use Rattle.std.proofs.lemmas.List.{length-append}
use Rattle.std.proofs.Math.Seq.{take-append_seam}
use Rattle.mr_ids.specs.Attempt.{Attempt}
use Rattle.mr_ids.specs.declared.id.TaskId.{TaskId}
use Rattle.mr_ids.specs.Text.{numeral, task_text, attempt_text}
use Rattle.mr_ids.proofs.Texts.{numeral_injective, task_text_injective, attempt_text_injective}
use Rattle.mr_paths.specs.Path.{strip, parent, Diverge}
use Rattle.mr_paths.specs.Layout.{temporary_name, marker_name, temporary, job_attempt, task_attempt, committed, marker, part, staging, is_hidden}
use Rattle.mr_paths.proofs.Paths.{strip-append, append-strip}

-- names that are not one are told apart
pub names_differ : (n m : List ℕ) → n ≢ m → pointwise nat_eq n m ≡ false
names_differ n m other = by (pointwise nat_eq n m) refl
  where
    by : (b : Bool) → pointwise nat_eq n m ≡ b → pointwise nat_eq n m ≡ false
    by true e = absurd (other (same_text n m (sym e)))
    by false e = e

told_apart : (n m : List ℕ) → pointwise nat_eq n m ≡ false → n ≢ m
told_apart n m e same = true≢false (sym (nat_list_eq_equiv.refl n) ∙ (ap (pointwise nat_eq n) same ∙ e))

pub diverge_by_name : (n m : List ℕ) (p q : List (List ℕ)) → n ≢ m → Diverge (n ∷ p) (m ∷ q)
diverge_by_name n m p q other = inl (names_differ n m other)

pub diverge_both_ways : (p q : List (List ℕ)) → Diverge p q → Diverge q p
diverge_both_ways [] q d = absurd d
diverge_both_ways (n ∷ p) [] d = absurd d
diverge_both_ways (n ∷ p) (m ∷ q) (inl e) = inl (names_differ m n (λ same. told_apart n m e (sym same)))
diverge_both_ways (n ∷ p) (m ∷ q) (inr d) = inr (diverge_both_ways p q d)

pub diverge_beneath_each : (p q x y : List (List ℕ)) → Diverge p q → Diverge (p ++ x) (q ++ y)
diverge_beneath_each [] q x y d = absurd d
diverge_beneath_each (n ∷ p) [] x y d = absurd d
diverge_beneath_each (n ∷ p) (m ∷ q) x y (inl e) = inl e
diverge_beneath_each (n ∷ p) (m ∷ q) x y (inr d) = inr (diverge_beneath_each p q x y d)

pub diverge_beneath_left : (p q x : List (List ℕ)) → Diverge p q → Diverge (p ++ x) q
diverge_beneath_left [] q x d = absurd d
diverge_beneath_left (n ∷ p) [] x d = absurd d
diverge_beneath_left (n ∷ p) (m ∷ q) x (inl e) = inl e
diverge_beneath_left (n ∷ p) (m ∷ q) x (inr d) = inr (diverge_beneath_left p q x d)

pub diverge_beneath_right : (p q y : List (List ℕ)) → Diverge p q → Diverge p (q ++ y)
diverge_beneath_right [] q y d = absurd d
diverge_beneath_right (n ∷ p) [] y d = absurd d
diverge_beneath_right (n ∷ p) (m ∷ q) y (inl e) = inl e
diverge_beneath_right (n ∷ p) (m ∷ q) y (inr d) = inr (diverge_beneath_right p q y d)

pub diverge_beneath_one : (top p q : List (List ℕ)) → Diverge p q → Diverge (top ++ p) (top ++ q)
diverge_beneath_one [] p q d = d
diverge_beneath_one (n ∷ top) p q d = inr (diverge_beneath_one top p q d)

pub diverge_not_within : (p q x : List (List ℕ)) → Diverge p q → strip p (q ++ x) ≡ None
diverge_not_within [] q x d = absurd d
diverge_not_within (n ∷ p) [] x d = absurd d
diverge_not_within (n ∷ p) (m ∷ q) x (inl e) = rw e refl
diverge_not_within (n ∷ p) (m ∷ q) x (inr d) = by (pointwise nat_eq n m) (diverge_not_within p q x d)
  where
    by : (b : Bool) → strip p (q ++ x) ≡ None → cond b (strip p (q ++ x)) None ≡ None
    by true e = e
    by false e = refl

pub diverge_different : (p q x y : List (List ℕ)) → Diverge p q → p ++ x ≢ q ++ y
diverge_different [] q x y d e = absurd d
diverge_different (n ∷ p) [] x y d e = absurd d
diverge_different (n ∷ p) (m ∷ q) x y (inl f) e = told_apart n m f cc
diverge_different (n ∷ p) (m ∷ q) x y (inr d) e = diverge_different p q x y d cc

-- beneath a path

pub beneath_is : (top path rest : List (List ℕ)) → strip top path ≡ Some rest ↔ (path ≡ top ++ rest)
beneath_is top path rest = (append-strip top path rest, λ e. ap (strip top) e ∙ strip-append top rest)

pub parent_of_child : (top : List (List ℕ)) (name : List ℕ) → parent (top ++ name ∷ []) ≡ top
parent_of_child top name =
    let long : length (top ++ name ∷ []) ≡ length top + 1 = length-append top (name ∷ []) in
    let front : length (top ++ name ∷ []) - 1 ≡ length top = omega arith in
    rw front (take-append_seam top (name ∷ []))

-- the layout

pub generations_part : (dest : List (List ℕ)) (k j : ℕ) → k ≢ j → Diverge (job_attempt dest k) (job_attempt dest j)
unfolding job_attempt
generations_part dest k j other =
    diverge_beneath_one dest (temporary_name ∷ numeral 1 k ∷ []) (temporary_name ∷ numeral 1 j ∷ [])
    (inr (diverge_by_name (numeral 1 k) (numeral 1 j) [] [] (λ e. other (numeral_injective 1 1 k j e))))

-- two places of one generation, or of two, where the names beneath the generation differ
numbered : (k j : ℕ) (p q : List (List ℕ)) → (k ≡ j → Diverge p q) → Diverge (numeral 1 k ∷ p) (numeral 1 j ∷ q)
numbered k j p q same = by (nat_eq k j) refl
  where
    by : (b : Bool) → nat_eq k j ≡ b → Diverge (numeral 1 k ∷ p) (numeral 1 j ∷ q)
    by true e = inr (same (eqb-true k j e))
    by false e = inl (names_differ (numeral 1 k) (numeral 1 j) (λ f. true≢false (sym (eq-eqb k j (numeral_injective 1 1 k j f)) ∙ e)))

pub attempts_part : (dest : List (List ℕ)) (k j : ℕ) (a b : Attempt) → (k ≡ j → a ≢ b) → Diverge (task_attempt dest k a) (task_attempt dest j b)
unfolding task_attempt
attempts_part dest k j a b other =
    diverge_beneath_one dest (temporary_name ∷ numeral 1 k ∷ temporary_name ∷ attempt_text a ∷ []) (temporary_name ∷ numeral 1 j ∷ temporary_name ∷ attempt_text b ∷ [])
    (inr (numbered k j (temporary_name ∷ attempt_text a ∷ []) (temporary_name ∷ attempt_text b ∷ [])
    (λ same. inr (diverge_by_name (attempt_text a) (attempt_text b) [] [] (λ e. other same (attempt_text_injective a b e))))))

pub tasks_part : (dest : List (List ℕ)) (k j : ℕ) (t u : TaskId) → (k ≡ j → t ≢ u) → Diverge (committed dest k t) (committed dest j u)
unfolding committed
tasks_part dest k j t u other =
    diverge_beneath_one dest (temporary_name ∷ numeral 1 k ∷ task_text t ∷ []) (temporary_name ∷ numeral 1 j ∷ task_text u ∷ [])
    (inr (numbered k j (task_text t ∷ []) (task_text u ∷ [])
    (λ same. diverge_by_name (task_text t) (task_text u) [] [] (λ e. other same (task_text_injective t u e)))))

pub task_and_attempt_part : (dest : List (List ℕ)) (k j : ℕ) (t : TaskId) (a : Attempt) → Diverge (committed dest k t) (task_attempt dest j a)
unfolding committed task_attempt
task_and_attempt_part dest k j t a =
    diverge_beneath_one dest (temporary_name ∷ numeral 1 k ∷ task_text t ∷ []) (temporary_name ∷ numeral 1 j ∷ temporary_name ∷ attempt_text a ∷ [])
    (inr (inr (inl refl)))

-- a visible name is no hidden one
visible : (name : List ℕ) → is_hidden name ≡ false → (other : List ℕ) → is_hidden other ≡ true → other ≢ name
visible name shown other hidden e = true≢false (sym hidden ∙ (ap is_hidden e ∙ shown))

-- all work is apart from the marker and from what is visible
work_and_marker : (dest rest : List (List ℕ)) → Diverge (dest ++ temporary_name ∷ rest) (dest ++ marker_name ∷ [])
work_and_marker dest rest = diverge_beneath_one dest (temporary_name ∷ rest) (marker_name ∷ []) (inl refl)

work_and_visible : (dest rest : List (List ℕ)) (name : List ℕ) → is_hidden name ≡ false → Diverge (dest ++ temporary_name ∷ rest) (dest ++ name ∷ [])
work_and_visible dest rest name shown =
    diverge_beneath_one dest (temporary_name ∷ rest) (name ∷ []) (diverge_by_name temporary_name name rest [] (visible name shown temporary_name refl))

pub temporary_and_marker_part : (dest : List (List ℕ)) → Diverge (temporary dest) (marker dest)
unfolding temporary marker
temporary_and_marker_part dest = work_and_marker dest []

pub temporary_and_visible_part : (dest : List (List ℕ)) (name : List ℕ) → is_hidden name ≡ false → Diverge (temporary dest) (dest ++ name ∷ [])
unfolding temporary
temporary_and_visible_part dest name shown = work_and_visible dest [] name shown

pub marker_and_visible_part : (dest : List (List ℕ)) (name : List ℕ) → is_hidden name ≡ false → Diverge (marker dest) (dest ++ name ∷ [])
unfolding marker
marker_and_visible_part dest name shown =
    diverge_beneath_one dest (marker_name ∷ []) (name ∷ []) (diverge_by_name marker_name name [] [] (visible name shown marker_name refl))

pub generation_and_marker_part : (dest : List (List ℕ)) (k : ℕ) → Diverge (job_attempt dest k) (marker dest)
unfolding job_attempt marker
generation_and_marker_part dest k = work_and_marker dest (numeral 1 k ∷ [])

pub attempt_and_marker_part : (dest : List (List ℕ)) (k : ℕ) (a : Attempt) → Diverge (task_attempt dest k a) (marker dest)
unfolding task_attempt marker
attempt_and_marker_part dest k a = work_and_marker dest (numeral 1 k ∷ temporary_name ∷ attempt_text a ∷ [])

pub task_and_marker_part : (dest : List (List ℕ)) (k : ℕ) (t : TaskId) → Diverge (committed dest k t) (marker dest)
unfolding committed marker
task_and_marker_part dest k t = work_and_marker dest (numeral 1 k ∷ task_text t ∷ [])

pub generation_and_visible_part : (dest : List (List ℕ)) (k : ℕ) (name : List ℕ) → is_hidden name ≡ false → Diverge (job_attempt dest k) (dest ++ name ∷ [])
unfolding job_attempt
generation_and_visible_part dest k name shown = work_and_visible dest (numeral 1 k ∷ []) name shown

pub attempt_and_visible_part : (dest : List (List ℕ)) (k : ℕ) (a : Attempt) (name : List ℕ) → is_hidden name ≡ false → Diverge (task_attempt dest k a) (dest ++ name ∷ [])
unfolding task_attempt
attempt_and_visible_part dest k a name shown = work_and_visible dest (numeral 1 k ∷ temporary_name ∷ attempt_text a ∷ []) name shown

pub task_and_visible_part : (dest : List (List ℕ)) (k : ℕ) (t : TaskId) (name : List ℕ) → is_hidden name ≡ false → Diverge (committed dest k t) (dest ++ name ∷ [])
unfolding committed
task_and_visible_part dest k t name shown = work_and_visible dest (numeral 1 k ∷ task_text t ∷ []) name shown

pub part_is_visible : (n : ℕ) → is_hidden (part n) ≡ false
unfolding part
part_is_visible n = refl

pub part_injective : (n m : ℕ) → part n ≡ part m → n ≡ m
unfolding part
part_injective n m e = numeral_injective 5 5 n m cc

pub part_is_not_marker : (n : ℕ) → part n ≢ marker_name
part_is_not_marker n e = true≢false (ap is_hidden (sym e) ∙ part_is_visible n)

pub parts_part : (dest : List (List ℕ)) (n m : ℕ) → n ≢ m → Diverge (dest ++ part n ∷ []) (dest ++ part m ∷ [])
parts_part dest n m other =
    diverge_beneath_one dest (part n ∷ []) (part m ∷ []) (diverge_by_name (part n) (part m) [] [] (λ e. other (part_injective n m e)))

pub staged_part : (n m : List ℕ) → n ≢ m → Diverge (staging n) (staging m)
unfolding staging
staged_part n m other = inr (diverge_by_name n m [] [] other)

pub staged_elsewhere : (dest : List (List ℕ)) (name : List ℕ) (rest : List (List ℕ)) → Diverge (codes "staging" ∷ []) dest → Diverge (staging name) (dest ++ rest)
unfolding staging
staged_elsewhere [] name rest d = absurd d
staged_elsewhere (m ∷ dest) name rest (inl e) = inl e
staged_elsewhere (m ∷ dest) name rest (inr d) = absurd d
