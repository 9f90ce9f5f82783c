-- Which task is wanted next, by what comes first.
use Rattle.std.proofs.Common.{◌-◌, ◌≡◌, refl, sym, ◌∙◌, ap, Bool, true, false, not, Option, Some, None, if◌then◌else◌}
use Rattle.std.specs.List.{find}
use Rattle.mr_ids.specs.declared.id.TaskId.{TaskId}
use Rattle.mr_master_model.specs.declared.setting.Setting.{Setting}
use Rattle.mr_master_model.specs.Job.{all_maps, all_reduces}
use Rattle.mr_master_model.specs.Readings.{Seen, is_running, or_else, of_task, wants_launch, all_succeeded, wanted}

-- ---- what is wanted

abbrev test : Setting → Seen → TaskId → Bool
test w s t = wants_launch (of_task w s t)

abbrev reduce_once : Setting → Seen → Option TaskId
reduce_once w s = if all_succeeded w s (all_maps w) then find (test w s) (all_reduces w) else None

-- while it runs
running : (w : Setting) (s : Seen) (o : Option TaskId) → is_running s.work ≡ true → o ≡ or_else (find (test w s) (all_maps w)) (reduce_once w s) → o ≡ wanted w s
running w s o runs e = e ∙ sym (ap (λ b. if not b then None else or_else (find (test w s) (all_maps w)) (reduce_once w s)) runs)

same-none : (b : Bool) → ◌≡◌ {A = Option TaskId} None (if b then None else None)
same-none true = refl
same-none false = refl

pub wants-none : (w : Setting) (s : Seen) → is_running s.work ≡ true → find (test w s) (all_maps w) ≡ None → find (test w s) (all_reduces w) ≡ None → None ≡ wanted w s
wants-none w s runs maps reduces =
    let b = all_succeeded w s (all_maps w) in
    running w s None runs (same-none b ∙ sym (λ i. or_else (maps i) (if b then reduces i else None)))

pub wants-map : (w : Setting) (s : Seen) (t : TaskId) → is_running s.work ≡ true → Some t ≡ find (test w s) (all_maps w) → Some t ≡ wanted w s
wants-map w s t runs e = running w s (Some t) runs (ap (λ o. or_else o (reduce_once w s)) e)

pub wants-reduce : (w : Setting) (s : Seen) (t : TaskId) (o : Option TaskId) → is_running s.work ≡ true → find (test w s) (all_maps w) ≡ None → Some t ≡ find (test w s) (all_reduces w)
    → o ≡ (if all_succeeded w s (all_maps w) then Some t else None) → o ≡ wanted w s
wants-reduce w s t o runs maps e is =
    let b = all_succeeded w s (all_maps w) in
    running w s o runs (is ∙ (λ i. or_else (sym maps i) (if b then e i else None)))
