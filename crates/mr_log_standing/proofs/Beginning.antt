-- The lines that begin attempts are lawful.
use Rattle.std.proofs.Common.{◌≡◌, ◌<◌, ◌≤◌, ℕ, zero, suc, Bool, true, false, not, ◌&&◌, cond, nat_lt, count_by, map, flat_map, length, List, [], ◌∷◌, ◌++◌, Option, Some, None, is_some, refl, sym, ap, subst, ◌∙◌, append_assoc, append-nil, arith, le_refl}
use Rattle.std.specs.List.{AllByRecursion}
use Rattle.std.proofs.lemmas.List.Concat.{flat_map-append}
use Rattle.std.proofs.lemmas.Bool.{lt-ltb}
use Rattle.mr_ids.specs.Attempt.{Attempt}
use Rattle.mr_ids.specs.Same.{same_task}
use Rattle.mr_ids.specs.declared.id.TaskId.{TaskId}
use Rattle.mr_ids.proofs.Same.{same_attempt-itself, task-itself}
use Rattle.mr_log_entries.specs.declared.line.Line.{Line}
use Rattle.mr_log_entries.specs.declared.line.Line.TheVariants as line
use Rattle.mr_log_entries.specs.declared.entry.Entry.{Entry}
use Rattle.mr_log_entries.specs.Recorded.{lines_of}
use Rattle.mr_log_standing.specs.declared.job.Job.{Job}
use Rattle.mr_log_standing.specs.declared.order.Order.{Order}
use Rattle.mr_log_standing.specs.declared.order.Order.TheVariants as order
use Rattle.mr_log_standing.specs.declared.order.Outcome.TheVariants as outcome
use Rattle.mr_log_standing.specs.declared.decision.Decision.{Decision}
use Rattle.mr_log_standing.specs.declared.decision.Decision.TheVariants.{Ends, Puts}
use Rattle.mr_log_standing.specs.declared.decision.Conclusion.{Conclusion}
use Rattle.mr_log_standing.specs.declared.decision.Conclusion.TheVariants.{Succeeded, Failed, Interrupted}
use Rattle.mr_log_standing.specs.Host.{Host}
use Rattle.mr_log_standing.specs.Standing.{task_of, is_of_job, winner_of, has_winner, is_over, those_below, under_way, is_start_at, numbered, next_attempt, is_cut_off}
use Rattle.mr_log_standing.specs.Deciding.{ends, reaches, under_way_below, cut_off, alive, is_none, is_idle, idle, started, beginning, then_begins, begins, begins_first, begins_those, begins_all, at_task, begins_next_to, given_up, begins_over, in_one_entry, hands_in, decided, concluded}
use Rattle.mr_log_standing.specs.Lawful.{is_that, are_lawful}
use Rattle.mr_log_standing.specs.Laws.{IsOpen}
use Rattle.mr_log_standing.proofs.Lost.{under-way}
use Rattle.mr_log_standing.proofs.Following.{and-true, lawful-both, lawful-take, lawful-one, lawful-none, IsMild, mild-append, mild-weaker, still-none, still-on, still-next, all-filter, all-open, all-open-below, all-take, not-some, mild-failed, mild-interrupted, failed-lawful, interrupted-lawful, end-lawful, reaches-none, IsFit, fit-if, fit-ends, fit-of, fit-fails, fit-done, fit-fail, fit-fails-task, fit-aborts, fit-releases, fit-forgets, fit-settles}

-- the task has no winner, in a job that goes on
record IsReady (job : Job) (es : List Entry) (n : ℕ) : Type 0 where
  pub below : nat_lt n job.tasks ≡ true
  pub goes_on : is_over (lines_of es) ≡ false
  pub unwon : winner_of (lines_of es) (task_of job.id n) ≡ None

-- the attempt that comes next is at the task
next-task : (ls : List Line) (t : TaskId) (a : Attempt) → next_attempt ls t ≡ Some a → a.task ≡ t
unfolding next_attempt
next-task ls t a e = by (count_by (is_start_at t) ls) e
  where
    at : (k : ℕ) (m : Bool) → cond m (Some (record { task = t; number = k })) None ≡ Some a → a.task ≡ t
    at k true e = let same : record { task = t; number = k } ≡ a = cc in sym (ap (λ (x : Attempt). x.task) same)
    at k false e = absurd (cc)

    by : (k : ℕ) → numbered t k ≡ Some a → a.task ≡ t
    by k e = at k (nat_lt k 1000000) e

abbrev task-in : Job → ℕ → TaskId
task-in job n = task_of job.id n

-- the attempt that comes next may be started, behind lines that begin others alone
start-lawful : (job : Job) (es : List Entry) (n : ℕ) (before : List Line) (a : Attempt) → IsReady job es n → AllByRecursion (IsMild n) before → next_attempt (lines_of es) (task-in job n) ≡ Some a → are_lawful job (lines_of es ++ before) (line.Started a ∷ []) ≡ true
start-lawful job es n before a r m e =
    lawful-one job (lines_of es ++ before) (line.Started a)
    (and-true (is_of_job job a) (not (is_over (lines_of es ++ before)) && (not (has_winner (lines_of es ++ before) a.task) && is_that (next_attempt (lines_of es ++ before) a.task) a)) of
    (and-true (not (is_over (lines_of es ++ before))) (not (has_winner (lines_of es ++ before) a.task) && is_that (next_attempt (lines_of es ++ before) a.task) a) (ap not (still-on n (lines_of es) before r.goes_on m))
    (and-true (not (has_winner (lines_of es ++ before) a.task)) (is_that (next_attempt (lines_of es ++ before) a.task) a) none that)))
  where
    at : a.task ≡ task-in job n
    at = next-task (lines_of es) (task-in job n) a e

    of : is_of_job job a ≡ true
    of = subst (λ u. (same_task u (task_of job.id u.number) && nat_lt u.number job.tasks) ≡ true) (sym at) (and-true (same_task (task-in job n) (task-in job n)) (nat_lt n job.tasks) (task-itself (task-in job n)) r.below)

    none : not (has_winner (lines_of es ++ before) a.task) ≡ true
    none = not-some (winner_of (lines_of es ++ before) a.task) (subst (λ u. winner_of (lines_of es ++ before) u ≡ None) (sym at) (still-none n (lines_of es) before (task-in job n) r.unwon m))

    that : is_that (next_attempt (lines_of es ++ before) a.task) a ≡ true
    that =
        ap (λ u. is_that (next_attempt (lines_of es ++ before) u) a) at
        ∙ ap (λ o. is_that o a) (still-next n (lines_of es) before (task-in job n) (le_refl n) m ∙ e)
        ∙ same_attempt-itself a

all-cut : (job : Job) (host : Host) (es : List Entry) (n : ℕ) → AllByRecursion (IsOpen job (lines_of es)) (cut_off job host es n)
all-cut job host es n = all-filter (IsOpen job (lines_of es)) (λ a. is_cut_off host es a) (under_way job (lines_of es) (task-in job n)) (all-open job (lines_of es) (task-in job n))

all-alive : (job : Job) (host : Host) (es : List Entry) (n : ℕ) → AllByRecursion (IsOpen job (lines_of es)) (alive job host es n)
all-alive job host es n = all-filter (IsOpen job (lines_of es)) (λ a. not (is_cut_off host es a)) (under_way job (lines_of es) (task-in job n)) (all-open job (lines_of es) (task-in job n))

from-nothing : (job : Job) (ls more : List Line) → are_lawful job (ls ++ []) more ≡ true → are_lawful job ls more ≡ true
from-nothing job ls more e = subst (λ xs. are_lawful job xs more ≡ true) (append-nil ls) e

cut-lawful : (job : Job) (host : Host) (es : List Entry) (n : ℕ) → are_lawful job (lines_of es) (map line.Interrupted (cut_off job host es n)) ≡ true
cut-lawful job host es n = from-nothing job (lines_of es) (map line.Interrupted (cut_off job host es n)) (interrupted-lawful job (lines_of es) [] (cut_off job host es n) 0 tt (all-cut job host es n))

mild-up : (n : ℕ) (xs : List Line) → AllByRecursion (IsMild 0) xs → AllByRecursion (IsMild n) xs
mild-up n xs h = mild-weaker 0 n (let low : 0 ≤ n = omega arith in low) xs h

-- ---- one task

then-fit : (job : Job) (es : List Entry) (n : ℕ) (before : List Line) → IsReady job es n → AllByRecursion (IsMild 0) before → are_lawful job (lines_of es) before ≡ true →
    IsFit job (lines_of es) (then_begins before (next_attempt (lines_of es) (task-in job n)))
then-fit job es n before r m e = by (next_attempt (lines_of es) (task-in job n)) refl
  where
    by : (o : Option Attempt) → next_attempt (lines_of es) (task-in job n) ≡ o → IsFit job (lines_of es) (then_begins before o)
    by None is = lawful-none job (lines_of es)
    by (Some a) is = lawful-both job (lines_of es) before (line.Started a ∷ []) e (start-lawful job es n before a r (mild-up n before m) is)

fit-begins : (job : Job) (host : Host) (es : List Entry) (n : ℕ) → IsReady job es n → IsFit job (lines_of es) (begins job host es n)
fit-begins job host es n r = then-fit job es n (map line.Interrupted (cut_off job host es n)) r (mild-interrupted (cut_off job host es n)) (cut-lawful job host es n)

fit-next-to : (job : Job) (host : Host) (es : List Entry) (n : ℕ) → IsReady job es n → IsFit job (lines_of es) (begins_next_to job host es n)
fit-next-to job host es n r =
    fit-if job (lines_of es) (begins job host es n) (Ends outcome.Busy) (nat_lt (length (alive job host es n)) 2) (λ e. fit-begins job host es n r) (λ e. lawful-none job (lines_of es))

given-mild : (job : Job) (host : Host) (es : List Entry) (n : ℕ) → AllByRecursion (IsMild 0) (given_up job host es n)
given-mild job host es n = mild-append 0 (map line.Interrupted (cut_off job host es n)) (map line.Failed (alive job host es n)) (mild-interrupted (cut_off job host es n)) (mild-failed (alive job host es n))

given-lawful : (job : Job) (host : Host) (es : List Entry) (n : ℕ) → are_lawful job (lines_of es) (given_up job host es n) ≡ true
given-lawful job host es n =
    lawful-both job (lines_of es) (map line.Interrupted (cut_off job host es n)) (map line.Failed (alive job host es n)) (cut-lawful job host es n)
    (failed-lawful job (lines_of es) (map line.Interrupted (cut_off job host es n)) (alive job host es n) (mild-interrupted (cut_off job host es n)) (all-alive job host es n))

over-lawful : (job : Job) (ls given : List Line) (those : List Attempt) → AllByRecursion (IsMild 0) given → AllByRecursion (IsOpen job ls) those → reaches job.limit (ls ++ given) those ≡ true → are_lawful job ls given ≡ true →
    are_lawful job ls (given ++ line.Unsuccessful ∷ []) ≡ true
over-lawful job ls given [] m h reached e = absurd (let no : true ≡ false = sym reached ∙ reaches-none job.limit (ls ++ given) in cc)
over-lawful job ls given (a ∷ those) m h reached e = lawful-both job ls given (line.Unsuccessful ∷ []) e (end-lawful job (ls ++ given) a h.0.of_job (still-none 0 ls given a.task h.0.unwon m))

fit-over : (job : Job) (host : Host) (es : List Entry) (n : ℕ) → IsReady job es n → IsFit job (lines_of es) (begins_over job host es n)
fit-over job host es n r =
    fit-if job (lines_of es) (Puts (given_up job host es n ++ line.Unsuccessful ∷ [])) (then_begins (given_up job host es n) (next_attempt (lines_of es) (task-in job n))) (reaches job.limit (lines_of es ++ given_up job host es n) (alive job host es n))
    (λ e. over-lawful job (lines_of es) (given_up job host es n) (alive job host es n) (given-mild job host es n) (all-alive job host es n) e (given-lawful job host es n))
    (λ e. then-fit job es n (given_up job host es n) r (given-mild job host es n) (given-lawful job host es n))

not-false : (x : Bool) → not x ≡ false → x ≡ true
not-false true e = refl
not-false false e = absurd (cc)

is-none : (o : Option Attempt) → is_some o ≡ false → o ≡ None
is-none None e = refl
is-none (Some a) e = absurd (cc)

fit-at-task : (job : Job) (es : List Entry) (n : ℕ) (d : Decision) → (IsReady job es n → IsFit job (lines_of es) d) → IsFit job (lines_of es) (at_task job (lines_of es) n d)
fit-at-task job es n d h =
    fit-if job (lines_of es) (Ends outcome.NoTask) (cond (is_over (lines_of es)) (Ends outcome.JobOver) (cond (has_winner (lines_of es) (task-in job n)) (ends job (lines_of es) outcome.AllWon) d)) (not (nat_lt n job.tasks))
    (λ e. lawful-none job (lines_of es))
    (λ below. fit-if job (lines_of es) (Ends outcome.JobOver) (cond (has_winner (lines_of es) (task-in job n)) (ends job (lines_of es) outcome.AllWon) d) (is_over (lines_of es))
    (λ e. lawful-none job (lines_of es))
    (λ over. fit-if job (lines_of es) (ends job (lines_of es) outcome.AllWon) d (has_winner (lines_of es) (task-in job n))
    (λ e. fit-ends job (lines_of es) outcome.AllWon)
    (λ none. h (record { below = not-false (nat_lt n job.tasks) below; goes_on = over; unwon = is-none (winner_of (lines_of es) (task-in job n)) none }))))

-- ---- all idle tasks

idle-unwon : (o : Option Attempt) (m : Bool) → (not (is_some o) && m) ≡ true → o ≡ None
idle-unwon None m e = refl
idle-unwon (Some a) m e = absurd (cc)

ready : (job : Job) (host : Host) (es : List Entry) (n : ℕ) → is_over (lines_of es) ≡ false → nat_lt n job.tasks ≡ true → is_idle job host es n ≡ true → IsReady job es n
ready job host es n over below e = record { below = below; goes_on = over; unwon = idle-unwon (winner_of (lines_of es) (task-in job n)) (is_none (alive job host es n)) e }

passing-append : (P : ℕ → Type 0) (xs ys : List ℕ) → AllByRecursion P xs → AllByRecursion P ys → AllByRecursion P (xs ++ ys)
passing-append P [] ys h k = k
passing-append P (x ∷ xs) ys h k = (h.0, passing-append P xs ys h.1 k)

passing : (P : ℕ → Type 0) (p : ℕ → Bool) (n : ℕ) → ((k : ℕ) → k < n → p k ≡ true → P k) → AllByRecursion P (those_below p n)
unfolding those_below
passing P p zero h = tt
passing P p (suc n) h =
    passing-append P (those_below p n) (cond (p n) (n ∷ []) []) (passing P p n (λ k l. h k (let more : k < suc n = omega arith in more))) (by (p n) refl)
  where
    by : (m : Bool) → p n ≡ m → AllByRecursion P (cond m (n ∷ []) [])
    by true is = (h n (let more : n < suc n = omega arith in more) is, tt)
    by false is = tt

all-ready : (job : Job) (host : Host) (es : List Entry) → is_over (lines_of es) ≡ false → AllByRecursion (IsReady job es) (idle job host es)
unfolding idle
all-ready job host es over = passing (IsReady job es) (is_idle job host es) job.tasks (λ k l e. ready job host es k over (lt-ltb k job.tasks l) e)

fit-first : (job : Job) (host : Host) (es : List Entry) (ns : List ℕ) → AllByRecursion (IsReady job es) ns → IsFit job (lines_of es) (begins_first job host es ns)
fit-first job host es [] h = fit-settles job (lines_of es)
fit-first job host es (n ∷ ns) h = fit-begins job host es n h.0

beginning-lawful : (job : Job) (host : Host) (es : List Entry) (n : ℕ) (before : List Line) → IsReady job es n → AllByRecursion (IsMild n) before → are_lawful job (lines_of es ++ before) (beginning job host es n) ≡ true
beginning-lawful job host es n before r m =
    lawful-both job (lines_of es ++ before) (map line.Interrupted (cut_off job host es n)) (started (next_attempt (lines_of es) (task-in job n)))
    (interrupted-lawful job (lines_of es) before (cut_off job host es n) n m (all-cut job host es n))
    (subst (λ xs. are_lawful job xs (started (next_attempt (lines_of es) (task-in job n))) ≡ true) (sym (append_assoc (lines_of es) before (map line.Interrupted (cut_off job host es n)))) (by (next_attempt (lines_of es) (task-in job n)) refl))
  where
    by : (o : Option Attempt) → next_attempt (lines_of es) (task-in job n) ≡ o → are_lawful job (lines_of es ++ (before ++ map line.Interrupted (cut_off job host es n))) (started o) ≡ true
    by None is = lawful-none job (lines_of es ++ (before ++ map line.Interrupted (cut_off job host es n)))
    by (Some a) is =
        start-lawful job es n (before ++ map line.Interrupted (cut_off job host es n)) a r
        (mild-append n before (map line.Interrupted (cut_off job host es n)) m (mild-up n (map line.Interrupted (cut_off job host es n)) (mild-interrupted (cut_off job host es n)))) is

beginning-mild : (job : Job) (host : Host) (es : List Entry) (n : ℕ) → AllByRecursion (IsMild (suc n)) (beginning job host es n)
beginning-mild job host es n =
    mild-append (suc n) (map line.Interrupted (cut_off job host es n)) (started (next_attempt (lines_of es) (task-in job n)))
    (mild-up (suc n) (map line.Interrupted (cut_off job host es n)) (mild-interrupted (cut_off job host es n))) (by (next_attempt (lines_of es) (task-in job n)) refl)
  where
    by : (o : Option Attempt) → next_attempt (lines_of es) (task-in job n) ≡ o → AllByRecursion (IsMild (suc n)) (started o)
    by None is = tt
    by (Some a) is =
        let number : a.task.number ≡ n = ap (λ (u : TaskId). u.number) (next-task (lines_of es) (task-in job n) a is) in
        ((let low : a.task.number < suc n = omega arith in low), tt)

record AreBegun (job : Job) (host : Host) (es : List Entry) (n : ℕ) (xs : List Line) : Type 0 where
  pub lawful : are_lawful job (lines_of es) xs ≡ true
  pub mild : AllByRecursion (IsMild n) xs

all-begun : (job : Job) (host : Host) (es : List Entry) → is_over (lines_of es) ≡ false → (n : ℕ) → n ≤ job.tasks → AreBegun job host es n (flat_map (beginning job host es) (those_below (is_idle job host es) n))
unfolding those_below
all-begun job host es over zero l = record { lawful = lawful-none job (lines_of es); mild = tt }
all-begun job host es over (suc n) l =
    subst (λ xs. AreBegun job host es (suc n) xs) (sym (flat_map-append (beginning job host es) (those_below (is_idle job host es) n) (cond (is_idle job host es n) (n ∷ []) [])))
    (by (is_idle job host es n) refl (all-begun job host es over n (let low : n ≤ job.tasks = omega arith in low)))
  where
    by : (m : Bool) → is_idle job host es n ≡ m → AreBegun job host es n (flat_map (beginning job host es) (those_below (is_idle job host es) n)) →
        AreBegun job host es (suc n) (flat_map (beginning job host es) (those_below (is_idle job host es) n) ++ flat_map (beginning job host es) (cond m (n ∷ []) []))
    by true is h = record {
      lawful = lawful-both job (lines_of es) (flat_map (beginning job host es) (those_below (is_idle job host es) n)) (beginning job host es n ++ []) h.lawful
          (subst (λ xs. are_lawful job (lines_of es ++ flat_map (beginning job host es) (those_below (is_idle job host es) n)) xs ≡ true) (sym (append-nil (beginning job host es n)))
          (beginning-lawful job host es n (flat_map (beginning job host es) (those_below (is_idle job host es) n)) (ready job host es n over (lt-ltb n job.tasks (let low : n < job.tasks = omega arith in low)) is) h.mild));
      mild = mild-append (suc n) (flat_map (beginning job host es) (those_below (is_idle job host es) n)) (beginning job host es n ++ [])
          (mild-weaker n (suc n) (let up : n ≤ suc n = omega arith in up) (flat_map (beginning job host es) (those_below (is_idle job host es) n)) h.mild)
          (subst (λ xs. AllByRecursion (IsMild (suc n)) xs) (sym (append-nil (beginning job host es n))) (beginning-mild job host es n));
    }
    by false is h = subst (λ xs. AreBegun job host es (suc n) xs) (sym (append-nil (flat_map (beginning job host es) (those_below (is_idle job host es) n))))
        (record { lawful = h.lawful; mild = mild-weaker n (suc n) (let up : n ≤ suc n = omega arith in up) (flat_map (beginning job host es) (those_below (is_idle job host es) n)) h.mild })

fit-those : (job : Job) (ls more : List Line) → are_lawful job ls more ≡ true → IsFit job ls (begins_those more)
fit-those job ls [] e = lawful-none job ls
fit-those job ls (l ∷ more) e = lawful-take job ls (l ∷ more) 36 e

fit-all : (job : Job) (host : Host) (es : List Entry) (ns : List ℕ) → are_lawful job (lines_of es) (flat_map (beginning job host es) ns) ≡ true → IsFit job (lines_of es) (begins_all job host es ns)
fit-all job host es [] e = fit-settles job (lines_of es)
fit-all job host es (n ∷ ns) e = fit-those job (lines_of es) (flat_map (beginning job host es) (n ∷ ns)) e

idle-lawful : (job : Job) (host : Host) (es : List Entry) → is_over (lines_of es) ≡ false → are_lawful job (lines_of es) (flat_map (beginning job host es) (idle job host es)) ≡ true
unfolding idle
idle-lawful job host es over = (all-begun job host es over job.tasks (le_refl job.tasks)).lawful

-- ---- all orders

pub decided-lawful : (o : Order) (job : Job) (host : Host) (es : List Entry) → IsFit job (lines_of es) (decided o job host es)
unfolding decided
decided-lawful (order.Done a) job host es = fit-of job (lines_of es) a (hands_in job host es a) (λ e. fit-done job host es a)
decided-lawful (order.Fail a) job host es = fit-fail job (lines_of es) a
decided-lawful (order.FailTask n) job host es = fit-fails-task job (lines_of es) n
decided-lawful order.FailAll job host es =
    fit-fails job (lines_of es) (in_one_entry Attempt (under_way_below job (lines_of es) job.tasks)) (all-take (IsOpen job (lines_of es)) 36 (under_way_below job (lines_of es) job.tasks) (all-open-below job (lines_of es) job.tasks))
decided-lawful (order.Ask a) job host es = lawful-none job (lines_of es)
decided-lawful order.Resume job host es = fit-ends job (lines_of es) outcome.Finished
decided-lawful order.Abort job host es = fit-aborts job (lines_of es)
decided-lawful order.Publish job host es = fit-releases job (lines_of es)
decided-lawful order.Forget job host es = fit-forgets job (lines_of es)
decided-lawful order.StartNext job host es =
    fit-if job (lines_of es) (Ends outcome.JobOver) (begins_first job host es (idle job host es)) (is_over (lines_of es)) (λ e. lawful-none job (lines_of es)) (λ over. fit-first job host es (idle job host es) (all-ready job host es over))
decided-lawful order.StartAll job host es =
    fit-if job (lines_of es) (Ends outcome.JobOver) (begins_all job host es (idle job host es)) (is_over (lines_of es)) (λ e. lawful-none job (lines_of es)) (λ over. fit-all job host es (idle job host es) (idle-lawful job host es over))
decided-lawful (order.StartAt n) job host es = fit-at-task job es n (begins_next_to job host es n) (λ r. fit-next-to job host es n r)
decided-lawful (order.StartOver n) job host es = fit-at-task job es n (begins_over job host es n) (λ r. fit-over job host es n r)

pub concluded-lawful : (c : Conclusion) (a : Attempt) (job : Job) (es : List Entry) → IsFit job (lines_of es) (concluded c a job es)
unfolding concluded
concluded-lawful (Succeeded handed) a job es = fit-of job (lines_of es) a (Puts (line.Won a handed ∷ [])) (λ e. lawful-one job (lines_of es) (line.Won a handed) e)
concluded-lawful Failed a job es = fit-fail job (lines_of es) a
concluded-lawful Interrupted a job es = fit-of job (lines_of es) a (Puts (line.Interrupted a ∷ [])) (λ e. lawful-one job (lines_of es) (line.Interrupted a) (not-some (winner_of (lines_of es) a.task) (under-way job (lines_of es) a e).unwon))
