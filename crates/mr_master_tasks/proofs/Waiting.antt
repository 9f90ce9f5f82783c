-- Which task waits for a launch.
use Rattle.std.proofs.Common.{ℕ, zero, suc, ◌+◌, ◌<◌, ◌≤◌, length, drop, get_or, add-one, drop-cons, ◌≡◌, refl, sym, ap, ◌∙◌, Bool, true, false, ◌&&◌, cond, List, [], ◌∷◌, ◌++◌, Some, None, ◌-◌, arith}
use Rattle.std.specs.List.{find}
use Rattle.mr_ids.specs.Attempt.{Attempt}
use Rattle.mr_ids.specs.declared.id.TaskId.{TaskId}
use Rattle.mr_ids.specs.declared.id.TaskKind.{TaskKind}
use Rattle.mr_master_model.specs.declared.setting.Setting.{Setting}
use Rattle.mr_master_model.specs.Job.{is_task, task_of, count_of, first_tasks}
use Rattle.mr_master_tasks.proofs.Telling.{task-of-is}

-- ---- among what is left of a list

left-is : (xs : List Attempt) (i : ℕ) (x : Attempt) → i < length xs → x ≡ get_or xs i x → drop i xs ≡ x ∷ drop (i + 1) xs
left-is xs i x within is = drop-cons xs i x within ∙ (λ j. sym is j ∷ drop (sym (add-one i) j) xs)

-- ---- among the first tasks of a kind

find-more : (p : TaskId → Bool) (xs : List TaskId) (t : TaskId) → find p xs ≡ None → find p (xs ++ t ∷ []) ≡ cond (p t) (Some t) None
find-more p [] t e = refl
find-more p (x ∷ xs) t e = by (p x) e (find-more p xs t)
  where
    by : (b : Bool) → cond b (Some x) (find p xs) ≡ None → (find p xs ≡ None → find p (xs ++ t ∷ []) ≡ cond (p t) (Some t) None)
        → cond b (Some x) (find p (xs ++ t ∷ [])) ≡ cond (p t) (Some t) None
    by true q go = cc
    by false q go = go q

find-stays : (p : TaskId → Bool) (xs ys : List TaskId) (t : TaskId) → find p xs ≡ Some t → find p (xs ++ ys) ≡ Some t
find-stays p [] ys t e = cc
find-stays p (x ∷ xs) ys t e = by (p x) e (find-stays p xs ys t)
  where
    by : (b : Bool) → cond b (Some x) (find p xs) ≡ Some t → (find p xs ≡ Some t → find p (xs ++ ys) ≡ Some t) → cond b (Some x) (find p (xs ++ ys)) ≡ Some t
    by true q go = q
    by false q go = go q

tests-it : (w : Setting) (kind : TaskKind) (p : TaskId → Bool) (n : ℕ) (b : Bool) → n < count_of w kind → b ≡ (is_task w (task_of w kind n) && p (task_of w kind n)) → p (task_of w kind n) ≡ b
tests-it w kind p n b within e = sym (e ∙ ap (λ c. c && p (task_of w kind n)) (task-of-is w kind n within))

pub none-to : (w : Setting) (kind : TaskKind) (p : TaskId → Bool) (n : ℕ) → n ≤ count_of w kind → ((i : ℕ) → i < n → p (task_of w kind i) ≡ false) → find p (first_tasks w kind n) ≡ None
unfolding first_tasks
none-to w kind p zero within idle = refl
none-to w kind p (suc n) within idle =
    find-more p (first_tasks w kind n) (task_of w kind n) (none-to w kind p n (omega arith) (λ i below. idle i (omega arith)))
    ∙ ap (λ c. cond c (Some (task_of w kind n)) None) (idle n (omega arith))

later : (w : Setting) (kind : TaskKind) (p : TaskId → Bool) (n more : ℕ) (t : TaskId) → find p (first_tasks w kind n) ≡ Some t → find p (first_tasks w kind (n + more)) ≡ Some t
unfolding first_tasks
later w kind p n zero t e = ap (λ (m : ℕ). find p (first_tasks w kind m)) (let q : n + 0 ≡ n = omega arith in q) ∙ e
later w kind p n (suc more) t e =
    ap (λ (m : ℕ). find p (first_tasks w kind m)) (let q : n + suc more ≡ suc (n + more) = omega arith in q)
    ∙ find-stays p (first_tasks w kind (n + more)) (task_of w kind (n + more) ∷ []) t (later w kind p n more t e)

pub found-first : (w : Setting) (kind : TaskKind) (p : TaskId → Bool) (n : ℕ) (b : Bool) → n < count_of w kind → b ≡ (is_task w (task_of w kind n) && p (task_of w kind n)) → b ≡ true
    → find p (first_tasks w kind n) ≡ None → Some (task_of w kind n) ≡ find p (first_tasks w kind (count_of w kind))
unfolding first_tasks
found-first w kind p n b within e yes' before =
    let all : suc n + (count_of w kind - suc n) ≡ count_of w kind = omega arith in
    let here : find p (first_tasks w kind (suc n)) ≡ Some (task_of w kind n) =
    find-more p (first_tasks w kind n) (task_of w kind n) before ∙ ap (λ c. cond c (Some (task_of w kind n)) None) (tests-it w kind p n b within e ∙ yes') in
    sym (ap (λ (m : ℕ). find p (first_tasks w kind m)) (sym all) ∙ later w kind p (suc n) (count_of w kind - suc n) (task_of w kind n) here)
