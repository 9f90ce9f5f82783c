-- What follows from how an attempt stands, and what a record more changes.
use Rattle.std.proofs.Common.{◌≡◌, ◌≢◌, ◌⊎◌, inl, inr, ◌<◌, ℕ, zero, suc, Bool, true, false, ◌&&◌, ◌||◌, cond, nat_lt, List, [], ◌∷◌, ◌++◌, Option, Some, None, refl, sym, ap, subst, ◌∙◌, append_assoc, true≢false}
use Rattle.std.specs.List.{list_any}
use Rattle.std.proofs.lemmas.List.Folds.{list_any-append}
use Rattle.std.proofs.lemmas.Bool.{ltb-true}
use Rattle.mr_ids.specs.Attempt.{Attempt}
use Rattle.mr_ids.specs.Same.{same_task, same_attempt}
use Rattle.mr_ids.specs.declared.id.JobId.{JobId}
use Rattle.mr_ids.specs.declared.id.TaskId.{TaskId}
use Rattle.mr_ids.proofs.Same.{same_attempt-is, same_attempt-itself}
use Rattle.mr_history.specs.declared.record.Record.{Record}
use Rattle.mr_history.specs.declared.record.Record.TheVariants.{AttemptStarted, MapSucceeded, ReduceSucceeded, AttemptFailed, JobUnsuccessful}
use Rattle.mr_history.specs.Winner.{winner_in}
use Rattle.mr_history.proofs.Winners.{winner-stays, winner-decided, winner-of}
use Rattle.mr_out_disk.specs.Cuts.{IsFront}
use Rattle.mr_out_steps.specs.declared.standing.Standing.{Standing}
use Rattle.mr_out_steps.specs.declared.standing.Standing.TheVariants.{Won, Beaten, GivenUp, JobOver, UnderWay, Unknown}
use Rattle.mr_out_steps.specs.Standing.{task_of, is_of_job, tells_start, tells_failure, is_over, unwon, beside, standing, winners, with_winner}

-- ---- an attempt that is under way

pub record IsOpen (job : JobId) (tasks : ℕ) (rs : List Record) (a : Attempt) : Type 0 where
  pub unwon : winner_in rs a.task ≡ None
  pub stands : list_any (tells_failure a) rs ≡ false
  pub goes_on : is_over rs ≡ false
  pub of_job : is_of_job job tasks a ≡ true

both : (x y : Bool) → (x && y) ≡ true → x ≡ true
both true y e = refl
both false y e = absurd (cc)

record Tests (g o u : Bool) : Type 0 where
  pub stands : g ≡ false
  pub goes_on : o ≡ false
  pub there : u ≡ true

tests : (g o u : Bool) → cond g GivenUp (cond o JobOver (cond u UnderWay Unknown)) ≡ UnderWay → Tests g o u
tests true o u e = absurd (cc)
tests false true u e = absurd (cc)
tests false false true e = record { stands = refl; goes_on = refl; there = refl }
tests false false false e = absurd (cc)

pub is-open : (job : JobId) (tasks : ℕ) (rs : List Record) (a : Attempt) → standing job tasks rs a ≡ UnderWay → IsOpen job tasks rs a
unfolding standing
is-open job tasks rs a e = by (winner_in rs a.task) refl e
  where
    beaten : (b : Bool) → cond b Won Beaten ≡ UnderWay → ⊥
    beaten true e = absurd (cc)
    beaten false e = absurd (cc)

    by : (o : Option Attempt) → winner_in rs a.task ≡ o → beside o a (unwon job tasks rs a) ≡ UnderWay → IsOpen job tasks rs a
    by None w e =
        let t = tests (list_any (tells_failure a) rs) (is_over rs) (is_of_job job tasks a && list_any (tells_start a) rs) e in
        record { unwon = w; stands = t.stands; goes_on = t.goes_on; of_job = both (is_of_job job tasks a) (list_any (tells_start a) rs) t.there }
    by (Some b) w e = absurd (beaten (same_attempt b a) e)

-- ---- an attempt of which a command tells

-- why an attempt can win no more
abbrev pub Why : List Record → Attempt → Type 0
Why rs a = (list_any (tells_failure a) rs ≡ true) ⊎ ((is_over rs ≡ true) ⊎ ((b : Attempt) × (winner_in rs a.task ≡ Some b)))

abbrev pub IsLost : Standing → Type 0
IsLost Won = ⊥
IsLost Beaten = Unit {0}
IsLost GivenUp = Unit {0}
IsLost JobOver = Unit {0}
IsLost UnderWay = ⊥
IsLost Unknown = ⊥

pub has-won : (job : JobId) (tasks : ℕ) (rs : List Record) (a : Attempt) → standing job tasks rs a ≡ Won → winner_in rs a.task ≡ Some a
unfolding standing
has-won job tasks rs a e = by (winner_in rs a.task) refl e
  where
    none : (g o u : Bool) → cond g GivenUp (cond o JobOver (cond u UnderWay Unknown)) ≡ Won → ⊥
    none true o u e = absurd (cc)
    none false true u e = absurd (cc)
    none false false true e = absurd (cc)
    none false false false e = absurd (cc)

    same : (b : Attempt) (v : Bool) → same_attempt b a ≡ v → cond v Won Beaten ≡ Won → b ≡ a
    same b true is e = same_attempt-is b a is
    same b false is e = absurd (cc)

    by : (o : Option Attempt) → winner_in rs a.task ≡ o → beside o a (unwon job tasks rs a) ≡ Won → winner_in rs a.task ≡ Some a
    by None w e = absurd (none (list_any (tells_failure a) rs) (is_over rs) (is_of_job job tasks a && list_any (tells_start a) rs) e)
    by (Some b) w e = w ∙ ap (λ x. Some x) (same b (same_attempt b a) refl e)

pub record HasLost (rs : List Record) (a : Attempt) : Type 0 where
  pub why : Why rs a
  pub never : winner_in rs a.task ≡ Some a → ⊥

pub has-lost : (job : JobId) (tasks : ℕ) (rs : List Record) (a : Attempt) (st : Standing) → standing job tasks rs a ≡ st → IsLost st → HasLost rs a
unfolding standing
has-lost job tasks rs a st e l = by (winner_in rs a.task) refl e
  where
    no_winner : winner_in rs a.task ≡ None → winner_in rs a.task ≡ Some a → ⊥
    no_winner w s = absurd (cc)

    none : winner_in rs a.task ≡ None → (g o u : Bool) → list_any (tells_failure a) rs ≡ g → is_over rs ≡ o → cond g GivenUp (cond o JobOver (cond u UnderWay Unknown)) ≡ st → HasLost rs a
    none w true o u p q e = record { why = inl p; never = no_winner w }
    none w false true u p q e = record { why = inr (inl q); never = no_winner w }
    none w false false true p q e = absurd (subst IsLost (sym e) l)
    none w false false false p q e = absurd (subst IsLost (sym e) l)

    other : (b : Attempt) → winner_in rs a.task ≡ Some b → (v : Bool) → same_attempt b a ≡ v → cond v Won Beaten ≡ st → HasLost rs a
    other b w true is e = absurd (subst IsLost (sym e) l)
    other b w false is e = record { why = inr (inr (b, w)); never = λ s. let same : b ≡ a = cc in absurd (true≢false (sym (ap (λ (x : Attempt). same_attempt x a) same ∙ same_attempt-itself a) ∙ is)) }

    by : (o : Option Attempt) → winner_in rs a.task ≡ o → beside o a (unwon job tasks rs a) ≡ st → HasLost rs a
    by None w e = none w (list_any (tells_failure a) rs) (is_over rs) (is_of_job job tasks a && list_any (tells_start a) rs) refl refl e
    by (Some b) w e = other b w (same_attempt b a) refl e
