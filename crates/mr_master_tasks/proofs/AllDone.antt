-- Whether all of the first tasks of a kind pass a test.
use Rattle.std.proofs.Common.{◌⊎◌, inl, inr, ℕ, zero, suc, ◌<◌, ◌≡◌, refl, sym, ap, ◌∙◌, Bool, true, false, ◌&&◌, [], ◌∷◌, arith}
use Rattle.std.specs.List.{list_all}
use Rattle.std.proofs.lemmas.Bool.{and_right, and_left, cases_eq}
use Rattle.std.proofs.lemmas.List.Folds.{list_all-append}
use Rattle.mr_ids.specs.declared.id.TaskId.{TaskId}
use Rattle.mr_ids.specs.declared.id.TaskKind.{TaskKind}
use Rattle.mr_master_model.specs.declared.setting.Setting.{Setting}
use Rattle.mr_master_model.specs.Job.{task_of, first_tasks}

and-true : (b : Bool) → (b && true) ≡ b
and-true true = refl
and-true false = refl

all-suc : (w : Setting) (kind : TaskKind) (p : TaskId → Bool) (n : ℕ) → list_all p (first_tasks w kind (suc n)) ≡ (list_all p (first_tasks w kind n) && p (task_of w kind n))
unfolding first_tasks
all-suc w kind p n =
    list_all-append p (first_tasks w kind n) (task_of w kind n ∷ [])
    ∙ ap (λ b. list_all p (first_tasks w kind n) && b) (and-true (p (task_of w kind n)))

pub all-of : (w : Setting) (kind : TaskKind) (p : TaskId → Bool) (n : ℕ) → ((i : ℕ) → i < n → p (task_of w kind i) ≡ true) → true ≡ list_all p (first_tasks w kind n)
unfolding first_tasks
all-of w kind p zero each = refl
all-of w kind p (suc n) each =
    let before = all-of w kind p n (λ i within. each i (omega arith)) in
    let last = each n (omega arith) in
    (λ j. before j && sym last j) ∙ sym (all-suc w kind p n)

pub all-but : (w : Setting) (kind : TaskKind) (p : TaskId → Bool) (n i : ℕ) → i < n → p (task_of w kind i) ≡ false → false ≡ list_all p (first_tasks w kind n)
all-but w kind p zero i within e = absurd (omega arith)
all-but w kind p (suc n) i within e = by (cases_eq i n) (λ low. all-but w kind p n i low e)
  where
    by : (i ≡ n) ⊎ (i ≡ n → ⊥) → (i < n → false ≡ list_all p (first_tasks w kind n)) → false ≡ list_all p (first_tasks w kind (suc n))
    by (inl q) before = sym (and_right _ _ (ap (λ j. p (task_of w kind j)) (sym q) ∙ e)) ∙ sym (all-suc w kind p n)
    by (inr ne) before = sym (and_left _ _ (sym (before (omega arith)))) ∙ sym (all-suc w kind p n)
