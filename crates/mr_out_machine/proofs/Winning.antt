-- One record more in front, and one task more.
use Rattle.std.proofs.Common.{◌≡◌, ◌<◌, ◌≤◌, ◌+◌, ◌-◌, arith, length, drop, get_or, drop-cons, ℕ, zero, suc, Bool, true, false, cond, List, [], ◌∷◌, Option, Some, None, refl, sym, ap, ◌∙◌, add-one}
use Rattle.std.proofs.lemmas.List.{drop_all}
use Rattle.mr_ids.specs.Attempt.{Attempt}
use Rattle.mr_ids.specs.Same.{same_task}
use Rattle.mr_ids.specs.declared.id.JobId.{JobId}
use Rattle.mr_ids.specs.declared.id.TaskId.{TaskId}
use Rattle.mr_history.specs.declared.record.Record.{Record}
use Rattle.mr_history.specs.declared.record.Record.TheVariants.{AttemptStarted, MapSucceeded, ReduceSucceeded, AttemptFailed, JobUnsuccessful}
use Rattle.mr_history.specs.Winner.{winner_in}
use Rattle.mr_out_steps.specs.Standing.{task_of, winners, with_winner}
use Rattle.mr_out_machine.specs.inner.Standing.{success_of}

pub found : (r : Record) (rs : List Record) (t : TaskId) (a : Attempt) → success_of r t ≡ Some a → winner_in (r ∷ rs) t ≡ Some a
unfolding winner_in
found (ReduceSucceeded b bytes) rs t a e = by (same_task b.task t) e
  where
    by : (m : Bool) → cond m (Some b) None ≡ Some a → cond m (Some b) (winner_in rs t) ≡ Some a
    by true e = e
    by false e = absurd (cc)
found (AttemptStarted b node) rs t a e = absurd (cc)
found (MapSucceeded b node incarnation) rs t a e = absurd (cc)
found (AttemptFailed b) rs t a e = absurd (cc)
found JobUnsuccessful rs t a e = absurd (cc)

pub passed : (r : Record) (rs : List Record) (t : TaskId) → success_of r t ≡ None → winner_in (r ∷ rs) t ≡ winner_in rs t
unfolding winner_in
passed (ReduceSucceeded b bytes) rs t e = by (same_task b.task t) e
  where
    by : (m : Bool) → cond m (Some b) None ≡ None → cond m (Some b) (winner_in rs t) ≡ winner_in rs t
    by true e = absurd (cc)
    by false e = refl
passed (AttemptStarted b node) rs t e = refl
passed (MapSucceeded b node incarnation) rs t e = refl
passed (AttemptFailed b) rs t e = refl
passed JobUnsuccessful rs t e = refl

pub nobody : (t : TaskId) → winner_in [] t ≡ None
unfolding winner_in
nobody t = refl

pub one_more : (job : JobId) (rs : List Record) (n : ℕ) → winners job rs (n + 1) ≡ with_winner (winner_in rs (task_of job n)) (winners job rs n)
unfolding winners
one_more job rs n = ap (λ m. winners job rs m) (add-one n)

pub no_task : (job : JobId) (rs : List Record) → winners job rs 0 ≡ Some []
unfolding winners
no_task job rs = refl

-- ---- tasks without a winner

pub lacks_last : (job : JobId) (rs : List Record) (n last : ℕ) → n ≡ last + 1 → winner_in rs (task_of job last) ≡ None → winners job rs n ≡ None
lacks_last job rs n last e none = ap (λ m. winners job rs m) e ∙ one_more job rs last ∙ ap (λ w. with_winner w (winners job rs last)) none

lacks_one : (w : Option Attempt) → with_winner w None ≡ None
lacks_one None = refl
lacks_one (Some a) = refl

none_behind : (job : JobId) (rs : List Record) (n k : ℕ) → winners job rs n ≡ None → winners job rs (n + k) ≡ None
none_behind job rs n zero none = let e : n + 0 ≡ n = omega arith in ap (λ m. winners job rs m) e ∙ none
none_behind job rs n (suc k) none =
    let e : n + suc k ≡ (n + k) + 1 = omega arith in
    ap (λ m. winners job rs m) e ∙ one_more job rs (n + k)
    ∙ ap (λ all. with_winner (winner_in rs (task_of job (n + k))) all) (none_behind job rs n k none) ∙ lacks_one (winner_in rs (task_of job (n + k)))

pub none_stays : (job : JobId) (rs : List Record) (n m : ℕ) → n ≤ m → winners job rs n ≡ None → winners job rs m ≡ None
none_stays job rs n m l none = let e : m ≡ n + (m - n) = omega arith in ap (λ k. winners job rs k) e ∙ none_behind job rs n (m - n) none

-- ---- the loop over the records

pub left-is : (rs : List Record) (i : ℕ) (r : Record) → i < length rs → r ≡ get_or rs i r → drop i rs ≡ r ∷ drop (i + 1) rs
left-is rs i r within is = drop-cons rs i r within ∙ (λ j. sym is j ∷ drop (sym (add-one i) j) rs)

pub stops : (rs : List Record) (t : TaskId) (i : ℕ) (r : Record) (a : Attempt) → i < length rs → r ≡ get_or rs i r → success_of r t ≡ Some a → winner_in (drop i rs) t ≡ Some a
stops rs t i r a within is e = ap (λ (qs : List Record). winner_in qs t) (left-is rs i r within is) ∙ found r (drop (i + 1) rs) t a e

pub passes : (rs : List Record) (t : TaskId) (i : ℕ) (r : Record) → i < length rs → r ≡ get_or rs i r → success_of r t ≡ None → winner_in (drop i rs) t ≡ winner_in (drop (i + 1) rs) t
passes rs t i r within is e = ap (λ (qs : List Record). winner_in qs t) (left-is rs i r within is) ∙ passed r (drop (i + 1) rs) t e

pub at-end : (rs : List Record) (t : TaskId) (i : ℕ) → length rs ≤ i → winner_in (drop i rs) t ≡ None
at-end rs t i l = ap (λ (qs : List Record). winner_in qs t) (drop_all i rs l) ∙ nobody t
