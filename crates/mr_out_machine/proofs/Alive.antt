-- One record more in front, and one task more.
use Rattle.std.proofs.Common.{◌≡◌, ◌<◌, ◌≤◌, ◌+◌, length, drop, get_or, ℕ, Bool, true, false, not, ◌&&◌, cond, List, [], ◌∷◌, Option, Some, None, refl, sym, ap, ◌∙◌, add-one}
use Rattle.std.specs.List.{list_any}
use Rattle.std.proofs.lemmas.List.{drop_all}
use Rattle.mr_ids.specs.Attempt.{Attempt}
use Rattle.mr_ids.specs.Same.{same_task}
use Rattle.mr_ids.specs.declared.id.JobId.{JobId}
use Rattle.mr_ids.specs.declared.id.TaskId.{TaskId}
use Rattle.mr_history.specs.declared.record.Record.{Record}
use Rattle.mr_history.specs.declared.record.Record.TheVariants.{AttemptStarted, MapSucceeded, ReduceSucceeded, AttemptFailed, JobUnsuccessful}
use Rattle.mr_out_steps.specs.Standing.{tells_failure, is_alive_at, first_alive, or_idle, first_idle}
use Rattle.mr_out_machine.specs.inner.Standing.{alive_of}
use Rattle.mr_out_machine.proofs.Winning.{left-is}

pub found : (rs : List Record) (t : TaskId) (r : Record) (qs : List Record) (a : Attempt) → alive_of rs t r ≡ Some a → first_alive rs t (r ∷ qs) ≡ Some a
unfolding first_alive
found rs t (AttemptStarted b node) qs a e = by (is_alive_at rs t (AttemptStarted b node)) e
  where
    by : (m : Bool) → cond m (Some b) None ≡ Some a → cond m (Some b) (first_alive rs t qs) ≡ Some a
    by true e = e
    by false e = absurd (cc)
found rs t (MapSucceeded b node incarnation) qs a e = absurd (cc)
found rs t (ReduceSucceeded b bytes) qs a e = absurd (cc)
found rs t (AttemptFailed b) qs a e = absurd (cc)
found rs t JobUnsuccessful qs a e = absurd (cc)

pub passed : (rs : List Record) (t : TaskId) (r : Record) (qs : List Record) → alive_of rs t r ≡ None → first_alive rs t (r ∷ qs) ≡ first_alive rs t qs
unfolding first_alive
passed rs t (AttemptStarted b node) qs e = by (is_alive_at rs t (AttemptStarted b node)) e
  where
    by : (m : Bool) → cond m (Some b) None ≡ None → cond m (Some b) (first_alive rs t qs) ≡ first_alive rs t qs
    by true e = absurd (cc)
    by false e = refl
passed rs t (MapSucceeded b node incarnation) qs e = refl
passed rs t (ReduceSucceeded b bytes) qs e = refl
passed rs t (AttemptFailed b) qs e = refl
passed rs t JobUnsuccessful qs e = refl

pub nobody : (rs : List Record) (t : TaskId) → first_alive rs t [] ≡ None
unfolding first_alive
nobody rs t = refl

-- ---- the loop over the records

pub stops : (rs : List Record) (t : TaskId) (i : ℕ) (r : Record) (a : Attempt) → i < length rs → r ≡ get_or rs i r → alive_of rs t r ≡ Some a → first_alive rs t (drop i rs) ≡ Some a
stops rs t i r a within is e = ap (λ (qs : List Record). first_alive rs t qs) (left-is rs i r within is) ∙ found rs t r (drop (i + 1) rs) a e

pub passes : (rs : List Record) (t : TaskId) (i : ℕ) (r : Record) → i < length rs → r ≡ get_or rs i r → alive_of rs t r ≡ None → first_alive rs t (drop i rs) ≡ first_alive rs t (drop (i + 1) rs)
passes rs t i r within is e = ap (λ (qs : List Record). first_alive rs t qs) (left-is rs i r within is) ∙ passed rs t r (drop (i + 1) rs) e

pub at-end : (rs : List Record) (t : TaskId) (i : ℕ) → length rs ≤ i → first_alive rs t (drop i rs) ≡ None
at-end rs t i l = ap (λ (qs : List Record). first_alive rs t qs) (drop_all i rs l) ∙ nobody rs t

-- ---- the loop over the tasks

pub one_task : (job : JobId) (rs : List Record) (n : ℕ) → first_idle job rs (n + 1) ≡ or_idle job rs n (first_idle job rs n)
unfolding first_idle
one_task job rs n = ap (λ m. first_idle job rs m) (add-one n)

pub no_task : (job : JobId) (rs : List Record) → first_idle job rs 0 ≡ None
unfolding first_idle
no_task job rs = refl
