-- What a master's call makes, what a mark's look changes, and that a marker means whole files in each phase.
use Rattle.std.proofs.Common.{ℕ, zero, suc, ◌≡◌, refl, sym, ◌∙◌, ap, subst, false, Some}
use Rattle.std.proofs.lemmas.Bool.{false≢true, true≢false}
use Rattle.mr_world_model.specs.Ids.{Path, path_eq, job_attempt, marker, commit_started, commit_success, commit_fail, is_hidden, marker_name}
use Rattle.mr_world_model.specs.Content.{Op, MkDirs, left, refusal, is_file}
use Rattle.mr_world_model.specs.Packets.{Config, Store, Names}
use Rattle.mr_world_model.specs.Hearing.{Seen, Phase, Opening, Setting_up, Recovering, Running, Committing, Failing, Finished, Stopped, List_job, Merging, Cleaning, Marking, Succeeding, Failing_mark, Aborting}
use Rattle.mr_world_model.specs.Duties.{duty_of, mark_at}
use Rattle.mr_world_model.specs.World.{World, Weather, is_applied, reply_of, reply_under}
use Rattle.mr_world_model.specs.Effect.{content_after}
use Rattle.mr_world_model.specs.Claims.{IsVisible}
use Rattle.mr_world_model.proofs.Basic.{if_cases}
use Rattle.mr_world_model.proofs.Regions.{name-ne}
use Rattle.mr_world_model.proofs.Steps.{newest}
use Rattle.mr_world_model.proofs.Outside.{Result, result}
use Rattle.mr_world_model.proofs.Merge.{Unmarked, Loose, MergePhase, Merge, created_by, is_created}

pub created-visible : (p : Phase) (x : Path) → IsVisible x → is_created (created_by p) x ≡ false
created-visible (Opening i) x v = refl
created-visible Setting_up x v = refl
created-visible (Recovering ws at) x v = refl
created-visible Running x v = subst (λ z. path_eq commit_started z ≡ false) (sym v.2) refl
created-visible (Failing f) x v = refl
created-visible (Committing List_job) x v = refl
created-visible (Committing (Merging ms)) x v = refl
created-visible (Committing Cleaning) x v = refl
created-visible (Committing Marking) x v = subst (λ z. path_eq marker z ≡ false) (sym v.2)
    (rw (name-ne marker_name v.0 (λ q. true≢false (subst (λ z. is_hidden z ≡ false) (sym q) v.3))) refl)
created-visible (Committing Succeeding) x v = subst (λ z. path_eq commit_success z ≡ false) (sym v.2) refl
created-visible (Committing Failing_mark) x v = subst (λ z. path_eq commit_fail z ≡ false) (sym v.2) refl
created-visible (Committing Aborting) x v = refl
created-visible (Finished b) x v = refl
created-visible Stopped x v = refl

-- looking for a mark changes nothing
pub mark-same : (w : World) (g : Weather) (i : ℕ) → content_after w (Some (record { app = w.fence; call = mark_at i; fault = g })) ≡ w.content
unfolding refusal left
mark-same w g zero = if_cases (λ z. z ≡ w.content) (is_applied w w.fence g) _ _ (λ t. refl) (λ t. refl)
mark-same w g (suc zero) = if_cases (λ z. z ≡ w.content) (is_applied w w.fence g) _ _ (λ t. refl) (λ t. refl)
mark-same w g (suc (suc zero)) = if_cases (λ z. z ≡ w.content) (is_applied w w.fence g) _ _ (λ t. refl) (λ t. refl)
mark-same w g (suc (suc (suc i))) = if_cases (λ z. z ≡ w.content) (is_applied w w.fence g) _ _ (λ t. refl) (λ t. refl)

pub result-at : (w : World) (op : Op) (call : Store) (g : Weather) → Names op ≡ call → Result w.content op (content_after w (Some (record { app = w.fence; call = call; fault = g }))) (reply_under g (reply_of w w.fence call))
result-at w op call g q = subst (λ y. Result w.content op (content_after w (Some (record { app = w.fence; call = y; fault = g }))) (reply_under g (reply_of w w.fence y))) q (result w w.fence op g)

-- what a marked world's phase says, whichever it is
pub loose-of : (cfg : Config) (w : World) → Merge cfg w → Loose cfg w
loose-of cfg w m = by (newest cfg w).phase m.phase
  where
    not_marked : Unmarked w → Loose cfg w
    not_marked x k = absurd (false≢true (sym (ap is_file x.0) ∙ k))

    by : (p : Phase) → MergePhase cfg w w.fence p → Loose cfg w
    by (Opening zero) o = o
    by (Opening (suc zero)) o = o.1
    by (Opening (suc (suc i))) o = o.1
    by Setting_up o = o
    by (Recovering ws at) o = o.1
    by Running o = o.1
    by (Failing f) o = o
    by (Committing List_job) o = not_marked o.0
    by (Committing (Merging ms)) o = not_marked o.0
    by (Committing Cleaning) o = not_marked o.0
    by (Committing Marking) o = not_marked o.0
    by (Committing Succeeding) o = λ k. o.1.1
    by (Committing Failing_mark) o = o.1
    by (Committing Aborting) o = o.1
    by (Finished b) o = o.1
    by Stopped o = o

pub setup-call : (cfg : Config) (k : ℕ) (s : Seen) (call : Store) → duty_of cfg k s Setting_up ≡ Some call → Names (MkDirs (job_attempt k)) ≡ call
unfolding duty_of
setup-call cfg k s call d = cc
