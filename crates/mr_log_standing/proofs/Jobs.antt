-- What stays of the job.
use Rattle.std.proofs.Common.{◌≡◌, Bool, true, false, not, ◌&&◌, ◌||◌, List, [], ◌∷◌, ◌++◌, Option, Some, None, is_some, refl, sym, ap, subst, ◌∙◌, append_assoc, append-nil}
use Rattle.std.specs.List.{list_any}
use Rattle.std.proofs.lemmas.List.Folds.{list_any-append}
use Rattle.mr_ids.specs.Attempt.{Attempt}
use Rattle.mr_log_entries.specs.declared.line.Line.{Line}
use Rattle.mr_log_entries.specs.declared.line.Line.TheVariants.{Started, Won, Failed, Interrupted, Unsuccessful, Publish, Published}
use Rattle.mr_log_standing.specs.declared.job.Job.{Job}
use Rattle.mr_log_standing.specs.Standing.{task_of, winner_of, is_left, left, has_won_all, is_over, ends_job, releases, is_released, is_publishable}
use Rattle.mr_log_standing.specs.Lawful.{is_lawful, are_lawful}
use Rattle.mr_log_standing.proofs.Winning.{winner-stays}
use Rattle.mr_log_standing.proofs.Below.{none-passes, passes-none}
use Rattle.mr_log_standing.proofs.Lost.{both}

-- a task that has a winner is not left
left-stays : (o p : Option Attempt) → ((a : Attempt) → o ≡ Some a → p ≡ Some a) → not (is_some o) ≡ false → not (is_some p) ≡ false
left-stays (Some a) p h e = ap (λ q. not (is_some q)) (h a refl)
left-stays None p h e = absurd (cc)

pub all-won : (job : Job) (ls more : List Line) → has_won_all job ls ≡ true → has_won_all job (ls ++ more) ≡ true
unfolding left
all-won job ls more e =
    passes-none (is_left job (ls ++ more)) job.tasks (λ k below. left-stays (winner_of ls (task_of job.id k)) (winner_of (ls ++ more) (task_of job.id k)) (winner-stays ls more (task_of job.id k)) (none-passes (is_left job ls) job.tasks e k below))

or-stays : (x y : Bool) → x ≡ true → (x || y) ≡ true
or-stays true y e = refl
or-stays false y e = absurd (cc)

pub any-stays : (p : Line → Bool) (ls more : List Line) → list_any p ls ≡ true → list_any p (ls ++ more) ≡ true
any-stays p ls more e = list_any-append p ls more ∙ or-stays (list_any p ls) (list_any p more) e

over-unpublishable : (w o : Bool) (r : Bool) → o ≡ true → (w && (not o && r)) ≡ false
over-unpublishable true true r e = refl
over-unpublishable false true r e = refl
over-unpublishable w false r e = absurd (cc)

pub failed : (job : Job) (ls more : List Line) → is_over ls ≡ true → is_publishable job (ls ++ more) ≡ false
failed job ls more e = over-unpublishable (has_won_all job (ls ++ more)) (is_over (ls ++ more)) (not job.hold || is_released (ls ++ more)) (any-stays ends_job ls more e)

-- ---- one line more

record CanPublish (job : Job) (ls : List Line) : Type 0 where
  pub won : has_won_all job ls ≡ true
  pub goes_on : is_over ls ≡ false
  pub released : (not job.hold || is_released ls) ≡ true

not-true : (x : Bool) → not x ≡ true → x ≡ false
not-true true e = absurd (cc)
not-true false e = refl

can-publish : (job : Job) (ls : List Line) → is_publishable job ls ≡ true → CanPublish job ls
can-publish job ls e =
    let b = both (has_won_all job ls) (not (is_over ls) && (not job.hold || is_released ls)) e in
    let c = both (not (is_over ls)) (not job.hold || is_released ls) b.second in
    record { won = b.first; goes_on = not-true (is_over ls) c.first; released = c.second }

publishes : (job : Job) (ls : List Line) → CanPublish job ls → is_publishable job ls ≡ true
publishes job ls c = by (has_won_all job ls) (is_over ls) (not job.hold || is_released ls) c.won c.goes_on c.released
  where
    by : (w o r : Bool) → w ≡ true → o ≡ false → r ≡ true → (w && (not o && r)) ≡ true
    by true false true e f g = refl
    by true false false e f g = absurd (cc)
    by true true r e f g = absurd (cc)
    by false o r e f g = absurd (cc)

-- where it may be published, it may not end
keeps-on : (job : Job) (ls : List Line) (l : Line) → CanPublish job ls → is_lawful job ls l ≡ true → ends_job l ≡ false
keeps-on job ls Unsuccessful c lawful = absurd (by (has_won_all job ls) job.hold (is_released ls) c.won c.released lawful)
  where
    by : (w h r : Bool) → w ≡ true → (not h || r) ≡ true → (not w || (h && not r)) ≡ true → ⊥
    by true true true e f g = absurd (cc)
    by true true false e f g = absurd (cc)
    by true false r e f g = absurd (cc)
    by false h r e f g = absurd (cc)
keeps-on job ls (Started a) c lawful = refl
keeps-on job ls (Won a handed) c lawful = refl
keeps-on job ls (Failed a) c lawful = refl
keeps-on job ls (Interrupted a) c lawful = refl
keeps-on job ls Publish c lawful = refl
keeps-on job ls Published c lawful = refl

still : (x y : Bool) → x ≡ false → y ≡ false → (x || (y || false)) ≡ false
still true y e f = absurd (cc)
still false true e f = absurd (cc)
still false false e f = refl

released-more : (h x y : Bool) → (not h || x) ≡ true → (not h || (x || y)) ≡ true
released-more false x y e = refl
released-more true true y e = refl
released-more true false y e = absurd (cc)

publish-one : (job : Job) (ls : List Line) (l : Line) → CanPublish job ls → is_lawful job ls l ≡ true → CanPublish job (ls ++ l ∷ [])
publish-one job ls l c lawful = record {
  won = all-won job ls (l ∷ []) c.won;
  goes_on = list_any-append ends_job ls (l ∷ []) ∙ still (is_over ls) (ends_job l) c.goes_on (keeps-on job ls l c lawful);
  released = ap (λ m. not job.hold || m) (list_any-append releases ls (l ∷ [])) ∙ released-more job.hold (is_released ls) (is_released (l ∷ [])) c.released;
}

publish-more : (job : Job) (ls more : List Line) → CanPublish job ls → are_lawful job ls more ≡ true → CanPublish job (ls ++ more)
unfolding are_lawful
publish-more job ls [] c e = subst (λ xs. CanPublish job xs) (sym (append-nil ls)) c
publish-more job ls (l ∷ more) c e =
    let b = both (is_lawful job ls l) (are_lawful job (ls ++ l ∷ []) more) e in
    subst (λ xs. CanPublish job xs) (append_assoc ls (l ∷ []) more) (publish-more job (ls ++ l ∷ []) more (publish-one job ls l c b.first) b.second)

pub publishable : (job : Job) (ls more : List Line) → is_publishable job ls ≡ true → are_lawful job ls more ≡ true → is_publishable job (ls ++ more) ≡ true
publishable job ls more e lawful = publishes job (ls ++ more) (publish-more job ls more (can-publish job ls e) lawful)
