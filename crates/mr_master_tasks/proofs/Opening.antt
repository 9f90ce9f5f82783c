-- A new machine stands for the empty past.
use Rattle.std.proofs.Common.{ℕ, ◌+◌, ◌<◌, ◌≡◌, refl, sym, ◌∙◌, ap, subst, Bool, true, false, List, [], ◌∷◌, ◌++◌, Some, length, slice_get, arith, zero-add, nat_eq, length-append}
use Rattle.std.proofs.lemmas.Bool.{and_parts, eqb-true, eqb-false, ltb-true}
use Rattle.std.proofs.lemmas.Option.{slice_get-get_or}
use Rattle.std.proofs.lemmas.List.{get_or_append_left}
use Rattle.std.proofs.Math.Seq.{get_or-append_seam}
use Rattle.mr_ids.specs.declared.id.TaskId.{TaskId}
use Rattle.mr_ids.specs.declared.id.TaskKind.{TaskKind}
use Rattle.mr_ids.specs.declared.id.TaskKind.TheVariants.{Map, Reduce}
use Rattle.mr_task.specs.State as task
use Rattle.mr_task.specs.Steps.{Task}
use Rattle.mr_master_model.specs.declared.setting.Setting.{Setting}
use Rattle.mr_master_model.specs.Job.{is_task, count_of, task_of}
use Rattle.mr_master_tasks.specs.Places.{place_by}
use Rattle.mr_master_tasks.specs.Tasks.{KeepsTasks, NewTasks}

pub front : {A : Type 0} (xs : List A) (y : A) (i : ℕ) → i < length xs → slice_get (xs ++ y ∷ []) i ≡ slice_get xs i
front {A} xs y i within =
    slice_get-get_or (xs ++ y ∷ []) i y (let e = length-append xs (y ∷ []) in omega arith)
    ∙ ap (λ (z : A). Some z) (get_or_append_left xs (y ∷ []) y i within)
    ∙ sym (slice_get-get_or xs i y within)

pub seam : {A : Type 0} (xs : List A) (y : A) → slice_get (xs ++ y ∷ []) (length xs) ≡ Some y
seam {A} xs y =
    slice_get-get_or (xs ++ y ∷ []) (length xs) y (let e = length-append xs (y ∷ []) in omega arith)
    ∙ ap (λ (z : A). Some z) (get_or-append_seam xs y [] y)

some-is : {A : Type 0} {x y : A} → Some x ≡ Some y → x ≡ y
some-is e = cc

pub new-task : (w : Setting) (kind : TaskKind) (n : ℕ) (old mid new : List Task) (x : Task) → NewTasks w kind n old mid → new ≡ mid ++ x ∷ [] → task.StandsFor x (task_of w kind n) w.app [] → NewTasks w kind (n + 1) old new
new-task w kind n old mid new x k e st = subst (λ (l : List Task). NewTasks w kind (n + 1) old l) (sym e) (record {
  count = let f = length-append mid (x ∷ []) in let g = k.count in omega arith;
  stand = λ i y within at. by i y (nat_eq i n) refl within at;
  others = λ j within. front mid x j (let g = k.count in omega arith) ∙ k.others j within;
})
  where
    by : (i : ℕ) (y : Task) (b : Bool) → nat_eq i n ≡ b → i < n + 1 → slice_get (mid ++ x ∷ []) (length old + i) ≡ Some y → task.StandsFor y (task_of w kind i) w.app []
    by i y true q within at =
        let f : i ≡ n = eqb-true i n q in
        let place : length old + i ≡ length mid = (let g = k.count in omega arith) in
        let same : x ≡ y = some-is (sym (seam mid x) ∙ ap (λ j. slice_get (mid ++ x ∷ []) j) (sym place) ∙ at) in
        subst (λ (j : ℕ). task.StandsFor y (task_of w kind j) w.app []) (sym f) (subst (λ (z : Task). task.StandsFor z (task_of w kind n) w.app []) same st)
    by i y false q within at =
        let f = eqb-false i n q in
        k.stand i y (omega (arith, f)) (sym (front mid x (length old + i) (let g = k.count in omega (arith, f))) ∙ at)

-- ---- all of them

task-is-of : (w : Setting) (t : TaskId) → is_task w t ≡ true → t ≡ task_of w t.kind t.number
task-is-of w t e =
    let p = and_parts _ _ e in let r = and_parts _ _ p.0 in
    let x : t.job.start ≡ w.job.start = eqb-true _ _ r.0 in
    let y : t.job.number ≡ w.job.number = eqb-true _ _ r.1 in
    λ i. record { job = record { start = x i; number = y i }; kind = t.kind; number = t.number }

pub opens : (w : Setting) (maps all : List Task) → NewTasks w Map w.maps [] maps → NewTasks w Reduce w.reduces maps all → KeepsTasks (record { machines = all }) w (λ t. [])
opens w maps all k l = record {
  count = let e = k.count in let f = l.count in omega arith;
  stand = λ t x there at. subst (λ (u : TaskId). task.StandsFor x u w.app []) (sym (task-is-of w t there)) (by t.kind t.number x (ltb-true _ _ (and_parts _ _ there).1) at);
  outside = λ t not_one. refl;
}
  where
    by : (kind : TaskKind) (n : ℕ) (x : Task) → n < count_of w kind → slice_get all (place_by w kind n) ≡ Some x → task.StandsFor x (task_of w kind n) w.app []
    by Map n x within at = k.stand n x within (ap (λ j. slice_get maps j) (zero-add n) ∙ sym (l.others n (let e = k.count in omega arith)) ∙ at)
    by Reduce n x within at = l.stand n x within (ap (λ j. slice_get all (j + n)) (k.count ∙ zero-add w.maps) ∙ at)
