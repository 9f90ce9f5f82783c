-- Where one past of a task refuses no launch, none that its machine stands for does.
use Rattle.std.proofs.Common.{◌≡◌, ℕ, true, List, None, slice_get, sym, ◌∙◌, ap, count_by}
use Rattle.mr_ids.specs.declared.id.TaskId.{TaskId}
use Rattle.mr_task.specs.Calls.{TaskCall}
use Rattle.mr_task.specs.Readings.{seen, is_won, is_live, refusal_of, launch_refusal}
use Rattle.mr_task.specs.State as task
use Rattle.mr_task.specs.Steps.{Task}
use Rattle.mr_task.proofs.Moves.{any-won-is}
use Rattle.mr_task.proofs.Launches.{live-is-counted}
use Rattle.mr_master_model.specs.declared.setting.Setting.{Setting}
use Rattle.mr_master_model.specs.Job.{is_task}
use Rattle.mr_master_tasks.specs.Places.{place_of}
use Rattle.mr_master_tasks.specs.Tasks.{Tasks, KeepsTasks, AnswersAt}

-- what a machine refuses is read off what it stores
same-refusal : (x : Task) (t u : TaskId) (k l : ℕ) (old new : List TaskCall) → task.StandsFor x t k old → task.StandsFor x u l new → launch_refusal (seen t k old) ≡ launch_refusal (seen u l new)
same-refusal x t u k l old new a b =
    let won : is_won (seen t k old) ≡ is_won (seen u l new) = sym (any-won-is x t k old a) ∙ any-won-is x u l new b in
    let live : count_by (is_live (seen t k old)) (seen t k old).arrived ≡ count_by (is_live (seen u l new)) (seen u l new).arrived =
    sym (live-is-counted x t k old a) ∙ live-is-counted x u l new b in
    let numbered : (seen t k old).numbered ≡ (seen u l new).numbered = sym a.numbered ∙ b.numbered in
    λ i. refusal_of (won i) (live i) (numbered i)

-- the task at a place refuses no launch
pub is-free : (m : Tasks) (w : Setting) (calls : TaskId → List TaskCall) (t : TaskId) (i : ℕ) → KeepsTasks m w calls → is_task w t ≡ true → i ≡ place_of w t
    → launch_refusal (seen t w.app (calls t)) ≡ None → AnswersAt m.machines i (λ u k told. launch_refusal (seen u k told)) None
is-free m w calls t i keeps own at none x found u k told stands =
    let kept = keeps.stand t x own (ap (λ j. slice_get m.machines j) (sym at) ∙ found) in
    sym (same-refusal x u t k w.app told (calls t) stands kept ∙ none)
