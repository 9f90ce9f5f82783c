-- The layout's paths: what they stand beneath, and name by name.
use Rattle.std.proofs.Common.{◌≡◌, ℕ, List, [], ◌∷◌, ◌++◌, append_assoc, sym, ◌∙◌, refl}
use Rattle.mr_ids.specs.Attempt.{Attempt}
use Rattle.mr_ids.specs.declared.id.TaskId.{TaskId}
use Rattle.mr_ids.specs.Text.{numeral, task_text, attempt_text}
use Rattle.mr_paths.specs.Layout.{temporary_name, marker_name, temporary, job_attempt, task_attempt, committed, marker}

pub temporary_is : (dest : List (List ℕ)) → temporary dest ≡ dest ++ temporary_name ∷ []
unfolding temporary
temporary_is dest = refl

pub marker_is : (dest : List (List ℕ)) → marker dest ≡ dest ++ marker_name ∷ []
unfolding marker
marker_is dest = refl

pub job_attempt_is : (dest : List (List ℕ)) (k : ℕ) → job_attempt dest k ≡ temporary dest ++ numeral 1 k ∷ []
unfolding temporary job_attempt
job_attempt_is dest k = sym (append_assoc dest (temporary_name ∷ []) (numeral 1 k ∷ []))

pub task_attempt_is : (dest : List (List ℕ)) (k : ℕ) (a : Attempt) → task_attempt dest k a ≡ job_attempt dest k ++ temporary_name ∷ attempt_text a ∷ []
unfolding job_attempt task_attempt
task_attempt_is dest k a = sym (append_assoc dest (temporary_name ∷ numeral 1 k ∷ []) (temporary_name ∷ attempt_text a ∷ []))

pub committed_is : (dest : List (List ℕ)) (k : ℕ) (t : TaskId) → committed dest k t ≡ job_attempt dest k ++ task_text t ∷ []
unfolding job_attempt committed
committed_is dest k t = sym (append_assoc dest (temporary_name ∷ numeral 1 k ∷ []) (task_text t ∷ []))

pub task_attempt_of_all : (dest : List (List ℕ)) (k : ℕ) (a : Attempt) → task_attempt dest k a ≡ temporary dest ++ numeral 1 k ∷ temporary_name ∷ attempt_text a ∷ []
unfolding temporary task_attempt
task_attempt_of_all dest k a = sym (append_assoc dest (temporary_name ∷ []) (numeral 1 k ∷ temporary_name ∷ attempt_text a ∷ []))

pub committed_of_all : (dest : List (List ℕ)) (k : ℕ) (t : TaskId) → committed dest k t ≡ temporary dest ++ numeral 1 k ∷ task_text t ∷ []
unfolding temporary committed
committed_of_all dest k t = sym (append_assoc dest (temporary_name ∷ []) (numeral 1 k ∷ task_text t ∷ []))

-- what pushing the next names gives

pub job_attempt_pushed : (dest path next : List (List ℕ)) (k : ℕ) (name : List ℕ) → path ≡ temporary dest → name ≡ numeral 1 k → next ≡ path ++ name ∷ [] → next ≡ job_attempt dest k
job_attempt_pushed dest path next k name e f g = rw (g, e, f) (sym (job_attempt_is dest k))

pub committed_pushed : (dest path next : List (List ℕ)) (k : ℕ) (t : TaskId) (name : List ℕ) → path ≡ job_attempt dest k → name ≡ task_text t → next ≡ path ++ name ∷ [] → next ≡ committed dest k t
committed_pushed dest path next k t name e f g = rw (g, e, f) (sym (committed_is dest k t))

pub task_attempt_pushed : (dest path next last : List (List ℕ)) (k : ℕ) (a : Attempt) (name own : List ℕ) → path ≡ job_attempt dest k → name ≡ temporary_name → own ≡ attempt_text a → next ≡ path ++ name ∷ [] → last ≡ next ++ own ∷ [] → last ≡ task_attempt dest k a
task_attempt_pushed dest path next last k a name own e f g h i =
    rw (i, h, e, f, g) (append_assoc (job_attempt dest k) (temporary_name ∷ []) (attempt_text a ∷ []) ∙ sym (task_attempt_is dest k a))
