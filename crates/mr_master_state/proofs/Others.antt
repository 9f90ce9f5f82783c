-- Kills to all but one, gathered one by one.
use Rattle.std.proofs.Common.{ℕ, ◌≤◌, length, take, ◌≡◌, refl, sym, ◌∙◌, ap, Bool, true, false, ◌&&◌, not, List, [], ◌∷◌, filter, cond, if◌then◌else◌}
use Rattle.std.specs.List.{flat_map}
use Rattle.std.proofs.lemmas.List.{take_all}
use Rattle.mr_ids.specs.Attempt.{Attempt}
use Rattle.mr_ids.specs.declared.id.TaskId.{TaskId}
use Rattle.mr_grant.specs.Attempts.{same_attempt}
use Rattle.mr_task.specs.Readings as task
use Rattle.mr_packet.specs.declared.packet.Envelope.{Envelope}
use Rattle.mr_master_model.specs.declared.setting.Setting.{Setting}
use Rattle.mr_master_model.specs.Job.{is_task}
use Rattle.mr_master_model.specs.Readings.{Seen, of_task, is_live}
use Rattle.mr_master_model.specs.Sends.{kill_of}
use Rattle.mr_master_state.specs.Kills.{kills_but}
use Rattle.mr_master_tables.specs.Gone.{of_job}
use Rattle.mr_master_state.proofs.Gathering.{passing, of-job}

abbrev pub kill_if_other : Setting → Seen → Attempt → Attempt → List Envelope
kill_if_other w s a x = cond (not (same_attempt a x)) (kill_of w s x) []

pub others-all : (w : Setting) (s : Seen) (a : Attempt) (t : TaskId) (xs : List Attempt) (i : ℕ) → length xs ≤ i → xs ≡ of_job w t (task.live (of_task w s t))
    → flat_map (kill_if_other w s a) (take i xs) ≡ kills_but w s a t
others-all w s a t xs i all is =
    ap (λ (l : List Attempt). flat_map (kill_if_other w s a) l) (take_all i xs all ∙ is)
    ∙ of-job w t (kill_if_other w s a) (task.live (of_task w s t))
    ∙ ap (λ (l : List Envelope). of_job w t l) (passing (λ x. not (same_attempt a x)) (kill_of w s) (task.live (of_task w s t)))

pub of-job-once : (w : Setting) (s : Seen) (a : Attempt) (t : TaskId) → kills_but w s a t ≡ cond (is_task w t) (kills_but w s a t) []
of-job-once w s a t = by (is_task w t)
  where
    by : (b : Bool) → cond b (flat_map (kill_of w s) (filter (λ x. not (same_attempt a x)) (task.live (of_task w s t)))) [] ≡ cond b (cond b (flat_map (kill_of w s) (filter (λ x. not (same_attempt a x)) (task.live (of_task w s t)))) []) []
    by true = refl
    by false = refl
