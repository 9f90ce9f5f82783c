-- Who is under way, and who has lost for good.
use Rattle.std.proofs.Common.{◌≡◌, ◌⊎◌, inl, inr, Bool, true, false, ◌&&◌, ◌||◌, cond, List, [], ◌∷◌, ◌++◌, Option, Some, None, refl, sym, ap, subst, ◌∙◌, append_assoc, append-nil}
use Rattle.std.specs.List.{list_any}
use Rattle.std.proofs.lemmas.List.Folds.{list_any-append}
use Rattle.mr_ids.specs.Attempt.{Attempt}
use Rattle.mr_ids.specs.Same.{same_task, same_attempt}
use Rattle.mr_ids.specs.declared.id.TaskId.{TaskId}
use Rattle.mr_ids.proofs.Same.{same_attempt-is, same_attempt-itself}
use Rattle.mr_log_entries.specs.declared.line.Line.{Line}
use Rattle.mr_log_entries.specs.declared.line.Line.TheVariants.{Started, Won, Failed, Interrupted, Unsuccessful, Publish, Published}
use Rattle.mr_log_standing.specs.declared.job.Job.{Job}
use Rattle.mr_log_standing.specs.declared.standing.Standing.{Standing}
use Rattle.mr_log_standing.specs.declared.standing.Standing.TheVariants as stands
use Rattle.mr_log_standing.specs.Standing.{is_of_job, is_start_of, gives_up, ends_job, success_at, first_or, winner_of, is_over, unwon, against, standing, is_under_way}
use Rattle.mr_log_standing.specs.Lawful.{is_lawful, are_lawful}
use Rattle.mr_log_standing.specs.Laws.{IsOpen, IsLost}
use Rattle.mr_log_standing.proofs.Winning.{winner-stays, winner-decided}

-- ---- tests in turn

abbrev three : Bool → Bool → Bool → Standing
three g o s = cond g stands.GivenUp (cond o stands.JobOver (cond s stands.UnderWay stands.Unknown))

record Tests (g o s : Bool) : Type 0 where
  pub stands : g ≡ false
  pub goes_on : o ≡ false
  pub there : s ≡ true

tests : (g o s : Bool) → is_under_way (three g o s) ≡ true → Tests g o s
tests true o s e = absurd (cc)
tests false true s e = absurd (cc)
tests false false true e = record { stands = refl; goes_on = refl; there = refl }
tests false false false e = absurd (cc)

against-open : (b : Bool) → is_under_way (cond b stands.Won stands.Beaten) ≡ true → ⊥
against-open true e = absurd (cc)
against-open false e = absurd (cc)

pub under-way : (job : Job) (ls : List Line) (a : Attempt) → is_under_way (standing job ls a) ≡ true → IsOpen job ls a
unfolding standing
under-way job ls a e = by (is_of_job job a) refl e
  where
    at : is_of_job job a ≡ true → (o : Option Attempt) → winner_of ls a.task ≡ o → is_under_way (against o a (unwon ls a)) ≡ true → IsOpen job ls a
    at of None w e =
        let t = tests (list_any (gives_up a) ls) (is_over ls) (list_any (is_start_of a) ls) e in
        record { unwon = w; stands = t.stands; goes_on = t.goes_on; started = t.there; of_job = of }
    at of (Some b) w e = absurd (against-open (same_attempt b a) e)

    by : (m : Bool) → is_of_job job a ≡ m → is_under_way (cond m (against (winner_of ls a.task) a (unwon ls a)) stands.Unknown) ≡ true → IsOpen job ls a
    by true of e = at of (winner_of ls a.task) refl e
    by false of e = absurd (cc)

pub is-open : (job : Job) (ls : List Line) (a : Attempt) → standing job ls a ≡ stands.UnderWay → IsOpen job ls a
is-open job ls a e = under-way job ls a (ap is_under_way e)

-- ---- the winner

three-won : (g o s : Bool) → three g o s ≡ stands.Won → ⊥
three-won true o s e = absurd (cc)
three-won false true s e = absurd (cc)
three-won false false true e = absurd (cc)
three-won false false false e = absurd (cc)

record HasWon (job : Job) (ls : List Line) (a : Attempt) : Type 0 where
  pub of_job : is_of_job job a ≡ true
  pub winner : winner_of ls a.task ≡ Some a

won : (job : Job) (ls : List Line) (a : Attempt) → standing job ls a ≡ stands.Won → HasWon job ls a
unfolding standing
won job ls a e = by (is_of_job job a) refl e
  where
    same : (b : Attempt) (m : Bool) → same_attempt b a ≡ m → cond m stands.Won stands.Beaten ≡ stands.Won → b ≡ a
    same b true is e = same_attempt-is b a is
    same b false is e = absurd (cc)

    at : is_of_job job a ≡ true → (o : Option Attempt) → winner_of ls a.task ≡ o → against o a (unwon ls a) ≡ stands.Won → HasWon job ls a
    at of None w e = absurd (three-won (list_any (gives_up a) ls) (is_over ls) (list_any (is_start_of a) ls) e)
    at of (Some b) w e = record { of_job = of; winner = w ∙ ap Some (same b (same_attempt b a) refl e) }

    by : (m : Bool) → is_of_job job a ≡ m → cond m (against (winner_of ls a.task) a (unwon ls a)) stands.Unknown ≡ stands.Won → HasWon job ls a
    by true of e = at of (winner_of ls a.task) refl e
    by false of e = absurd (cc)

pub has-won : (job : Job) (ls : List Line) (a : Attempt) → standing job ls a ≡ stands.Won → winner_of ls a.task ≡ Some a
has-won job ls a e = (won job ls a e).winner

wins : (job : Job) (ls : List Line) (a : Attempt) → HasWon job ls a → standing job ls a ≡ stands.Won
unfolding standing
wins job ls a h =
    ap (λ m. cond m (against (winner_of ls a.task) a (unwon ls a)) stands.Unknown) h.of_job
    ∙ ap (λ o. against o a (unwon ls a)) h.winner
    ∙ ap (λ m. cond m stands.Won stands.Beaten) (same_attempt-itself a)

pub won-stays : (job : Job) (ls more : List Line) (a : Attempt) → standing job ls a ≡ stands.Won → standing job (ls ++ more) a ≡ stands.Won
won-stays job ls more a e =
    let h = won job ls a e in
    wins job (ls ++ more) a (record { of_job = h.of_job; winner = winner-stays ls more a.task a h.winner })

-- ---- who has lost

record IsBeaten (ls : List Line) (a : Attempt) : Type 0 where
  pub winner : Attempt
  pub is : winner_of ls a.task ≡ Some winner
  pub other : same_attempt winner a ≡ false

record IsClosed (ls : List Line) (a : Attempt) : Type 0 where
  pub unwon : winner_of ls a.task ≡ None
  pub closed : (list_any (gives_up a) ls || is_over ls) ≡ true

record HasLost (job : Job) (ls : List Line) (a : Attempt) : Type 0 where
  pub of_job : is_of_job job a ≡ true
  pub why : IsBeaten ls a ⊎ IsClosed ls a

three-lost : (g o s : Bool) → IsLost (three g o s) → (g || o) ≡ true
three-lost true o s h = refl
three-lost false true s h = refl
three-lost false false true h = absurd h
three-lost false false false h = absurd h

has-lost : (job : Job) (ls : List Line) (a : Attempt) → IsLost (standing job ls a) → HasLost job ls a
unfolding standing
has-lost job ls a h = by (is_of_job job a) refl h
  where
    other : (b : Attempt) (m : Bool) → same_attempt b a ≡ m → IsLost (cond m stands.Won stands.Beaten) → same_attempt b a ≡ false
    other b true is h = absurd h
    other b false is h = is

    at : is_of_job job a ≡ true → (o : Option Attempt) → winner_of ls a.task ≡ o → IsLost (against o a (unwon ls a)) → HasLost job ls a
    at of None w h = record { of_job = of; why = inr (record { unwon = w; closed = three-lost (list_any (gives_up a) ls) (is_over ls) (list_any (is_start_of a) ls) h }) }
    at of (Some b) w h = record { of_job = of; why = inl (record { winner = b; is = w; other = other b (same_attempt b a) refl h }) }

    by : (m : Bool) → is_of_job job a ≡ m → IsLost (cond m (against (winner_of ls a.task) a (unwon ls a)) stands.Unknown) → HasLost job ls a
    by true of h = at of (winner_of ls a.task) refl h
    by false of h = absurd h

lost-three : (g o s : Bool) → (g || o) ≡ true → IsLost (three g o s)
lost-three true o s e = tt
lost-three false true s e = tt
lost-three false false s e = absurd (cc)

loses : (job : Job) (ls : List Line) (a : Attempt) → HasLost job ls a → IsLost (standing job ls a)
unfolding standing
loses job ls a h = subst (λ m. IsLost (cond m (against (winner_of ls a.task) a (unwon ls a)) stands.Unknown)) (sym h.of_job) (by h.why)
  where
    by : IsBeaten ls a ⊎ IsClosed ls a → IsLost (against (winner_of ls a.task) a (unwon ls a))
    by (inl b) = subst (λ o. IsLost (against o a (unwon ls a))) (sym b.is) (subst (λ m. IsLost (cond m stands.Won stands.Beaten)) (sym b.other) tt)
    by (inr c) = subst (λ o. IsLost (against o a (unwon ls a))) (sym c.unwon) (lost-three (list_any (gives_up a) ls) (is_over ls) (list_any (is_start_of a) ls) c.closed)

-- ---- one line more

-- a success that is put where it is lawful is of an attempt that is under way
success-open : (job : Job) (ls : List Line) (l : Line) (t : TaskId) (b : Attempt) → success_at t l ≡ Some b → is_lawful job ls l ≡ true → IsOpen job ls b
success-open job ls (Won c handed) t b e lawful = by (same_task c.task t) e
  where
    by : (m : Bool) → cond m (Some c) None ≡ Some b → IsOpen job ls b
    by true e = let same : c ≡ b = cc in subst (λ x. IsOpen job ls x) same (under-way job ls c lawful)
    by false e = absurd (cc)
success-open job ls (Started c) t b e lawful = absurd (cc)
success-open job ls (Failed c) t b e lawful = absurd (cc)
success-open job ls (Interrupted c) t b e lawful = absurd (cc)
success-open job ls Unsuccessful t b e lawful = absurd (cc)
success-open job ls Publish t b e lawful = absurd (cc)
success-open job ls Published t b e lawful = absurd (cc)

or-left : (x y : Bool) → x ≡ true → (x || y) ≡ true
or-left true y e = refl
or-left false y e = absurd (cc)

four : (g h o p : Bool) → (g || o) ≡ true → ((g || h) || (o || p)) ≡ true
four true h o p e = refl
four false true o p e = refl
four false false true p e = refl
four false false false p e = absurd (cc)

closed-more : (ls more : List Line) (a : Attempt) → (list_any (gives_up a) ls || is_over ls) ≡ true → (list_any (gives_up a) (ls ++ more) || is_over (ls ++ more)) ≡ true
closed-more ls more a e =
    (λ i. list_any-append (gives_up a) ls more i || list_any-append ends_job ls more i)
    ∙ four (list_any (gives_up a) ls) (list_any (gives_up a) more) (is_over ls) (is_over more) e

neither : (x y : Bool) → x ≡ false → y ≡ false → (x || y) ≡ true → ⊥
neither true y e f h = absurd (cc)
neither false true e f h = absurd (cc)
neither false false e f h = absurd (cc)

lost-one : (job : Job) (ls : List Line) (l : Line) (a : Attempt) → HasLost job ls a → is_lawful job ls l ≡ true → HasLost job (ls ++ l ∷ []) a
unfolding winner_of
lost-one job ls l a h lawful = record { of_job = h.of_job; why = by h.why }
  where
    other : (b : Attempt) → IsOpen job ls b → (list_any (gives_up a) ls || is_over ls) ≡ true → (m : Bool) → same_attempt b a ≡ m → same_attempt b a ≡ false
    other b o closed true is =
        let same = same_attempt-is b a is in
        absurd (neither (list_any (gives_up a) ls) (is_over ls) (subst (λ (x : Attempt). list_any (gives_up x) ls ≡ false) same o.stands) o.goes_on closed)
    other b o closed false is = is

    at : IsClosed ls a → (s : Option Attempt) → success_at a.task l ≡ s → IsBeaten (ls ++ l ∷ []) a ⊎ IsClosed (ls ++ l ∷ []) a
    at c None is = inr (record {
      unwon = winner-decided ls (l ∷ []) a.task c.unwon ∙ ap (λ o. first_or Attempt o None) is;
      closed = closed-more ls (l ∷ []) a c.closed;
    })
    at c (Some b) is = inl (record {
      winner = b;
      is = winner-decided ls (l ∷ []) a.task c.unwon ∙ ap (λ o. first_or Attempt o None) is;
      other = other b (success-open job ls l a.task b is lawful) c.closed (same_attempt b a) refl;
    })

    by : IsBeaten ls a ⊎ IsClosed ls a → IsBeaten (ls ++ l ∷ []) a ⊎ IsClosed (ls ++ l ∷ []) a
    by (inl b) = inl (record { winner = b.winner; is = winner-stays ls (l ∷ []) a.task b.winner b.is; other = b.other })
    by (inr c) = at c (success_at a.task l) refl

pub record Both (x y : Bool) : Type 0 where
  pub first : x ≡ true
  pub second : y ≡ true

pub both : (x y : Bool) → (x && y) ≡ true → Both x y
both true true e = record { first = refl; second = refl }
both true false e = absurd (cc)
both false y e = absurd (cc)

lost-more : (job : Job) (ls more : List Line) (a : Attempt) → HasLost job ls a → are_lawful job ls more ≡ true → HasLost job (ls ++ more) a
unfolding are_lawful
lost-more job ls [] a h e = subst (λ xs. HasLost job xs a) (sym (append-nil ls)) h
lost-more job ls (l ∷ more) a h e =
    let b = both (is_lawful job ls l) (are_lawful job (ls ++ l ∷ []) more) e in
    subst (λ xs. HasLost job xs a) (append_assoc ls (l ∷ []) more) (lost-more job (ls ++ l ∷ []) more a (lost-one job ls l a h b.first) b.second)

pub lost-stays : (job : Job) (ls more : List Line) (a : Attempt) → IsLost (standing job ls a) → are_lawful job ls more ≡ true → IsLost (standing job (ls ++ more) a)
lost-stays job ls more a h e = loses job (ls ++ more) a (lost-more job ls more a (has-lost job ls a h) e)
