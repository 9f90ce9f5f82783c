-- Nobody notes that the job is published but who has published it.
use Rattle.std.proofs.Common.{◌≡◌, ℕ, zero, suc, nat_lt, Bool, true, false, cond, not, ◌&&◌, ◌||◌, List, [], ◌∷◌, ◌++◌, length, take, map, flat_map, Option, Some, None, refl, ◌∙◌}
use Rattle.std.proofs.lemmas.List.Folds.{list_any-append}
use Rattle.mr_ids.specs.Attempt.{Attempt}
use Rattle.mr_log_entries.specs.declared.line.Line.{Line}
use Rattle.mr_log_entries.specs.declared.line.Line.TheVariants as line
use Rattle.mr_log_entries.specs.declared.entry.Entry.{Entry}
use Rattle.mr_log_entries.specs.Recorded.{lines_of}
use Rattle.mr_log_standing.specs.declared.job.Job.{Job}
use Rattle.mr_log_standing.specs.declared.order.Order.{Order}
use Rattle.mr_log_standing.specs.declared.order.Order.TheVariants as order
use Rattle.mr_log_standing.specs.declared.order.Outcome.{Outcome}
use Rattle.mr_log_standing.specs.declared.order.Outcome.TheVariants as outcome
use Rattle.mr_log_standing.specs.declared.decision.Decision.{Decision}
use Rattle.mr_log_standing.specs.declared.decision.Decision.TheVariants.{Ends, Publishes, HandsIn, Puts, Begins, Forgets}
use Rattle.mr_log_standing.specs.declared.decision.Conclusion.{Conclusion}
use Rattle.mr_log_standing.specs.declared.decision.Conclusion.TheVariants as conclusion
use Rattle.mr_log_standing.specs.Host.{Host}
use Rattle.mr_log_standing.specs.Standing.{task_of, has_winner, is_over, is_released, is_publication, is_published, has_won_all, is_publishable, may_end, standing, is_under_way, under_way, next_attempt, begun_in, is_this}
use Rattle.mr_log_standing.specs.Deciding as deciding
use Rattle.mr_log_standing.specs.Deciding.{in_one_entry, ends, failing, fails, with_end, started, under_way_below, cut_off, alive, idle, beginning, then_begins, begins, settles, begins_first, begins_those, begins_all, at_task, begins_next_to, reaches, given_up, begins_over, hands_in, of_attempt, fails_task, aborts, releases_job, forgets, decided, concluded}
use Rattle.mr_log_steps.specs.Turns.{decision_of}

-- none of the lines says that the job is published
abbrev IsMute : List Line → Type 0
IsMute ls = is_published ls ≡ false

mute-both : (xs ys : List Line) → IsMute xs → IsMute ys → IsMute (xs ++ ys)
mute-both xs ys e f = list_any-append is_publication xs ys ∙ by (is_published xs) (is_published ys) e f
  where
    by : (x y : Bool) → x ≡ false → y ≡ false → (x || y) ≡ false
    by true y e f = absurd (cc)
    by false y e f = f

mute-failed : (xs : List Attempt) → IsMute (map line.Failed xs)
mute-failed [] = refl
mute-failed (x ∷ xs) = mute-failed xs

mute-interrupted : (xs : List Attempt) → IsMute (map line.Interrupted xs)
mute-interrupted [] = refl
mute-interrupted (x ∷ xs) = mute-interrupted xs

mute-started : (x : Option Attempt) → IsMute (started x)
mute-started None = refl
mute-started (Some a) = refl

mute-take : (n : ℕ) (ls : List Line) → IsMute ls → IsMute (take n ls)
mute-take zero ls e = refl
mute-take (suc n) [] e = refl
mute-take (suc n) (l ∷ ls) e = by (is_publication l) e (mute-take n ls)
  where
    by : (b : Bool) → (b || is_published ls) ≡ false → (IsMute ls → IsMute (take n ls)) → (b || is_published (take n ls)) ≡ false
    by true e go = absurd (cc)
    by false e go = go e

mute-flat : (f : ℕ → List Line) → ((n : ℕ) → IsMute (f n)) → (ns : List ℕ) → IsMute (flat_map f ns)
mute-flat f h [] = refl
mute-flat f h (n ∷ ns) = mute-both (f n) (flat_map f ns) (h n) (mute-flat f h ns)

-- ---- by the decision

abbrev pub PutsMute : Decision → Type 0
PutsMute (Puts ls) = is_published ls ≡ false
PutsMute (Begins ls) = is_published ls ≡ false
PutsMute (Ends o) = Unit {0}
PutsMute (Publishes o) = Unit {0}
PutsMute (HandsIn a) = Unit {0}
PutsMute Forgets = Unit {0}

mute-if : (b : Bool) (d e : Decision) → PutsMute d → PutsMute e → PutsMute (cond b d e)
mute-if true d e f g = f
mute-if false d e f g = g

mute-ends : (job : Job) (ls : List Line) (o : Outcome) → PutsMute (ends job ls o)
mute-ends job ls o = by (is_publishable job ls && not (is_published ls))
  where
    by : (b : Bool) → PutsMute (cond b (Publishes o) (Ends o))
    by true = tt
    by false = tt

mute-end : (job : Job) (ls : List Line) (failed : List Attempt) (more : List Line) → IsMute more → IsMute (with_end job ls failed more)
mute-end job ls failed more e = by (reaches job.limit (ls ++ more) failed)
  where
    by : (b : Bool) → IsMute (cond b (more ++ line.Unsuccessful ∷ []) more)
    by true = mute-both more (line.Unsuccessful ∷ []) e refl
    by false = e

mute-failing : (job : Job) (ls : List Line) (failed : List Attempt) → IsMute (failing job ls failed)
mute-failing job ls failed = mute-end job ls failed (map line.Failed failed) (mute-failed failed)

mute-fails : (job : Job) (ls : List Line) (xs : List Attempt) → PutsMute (fails job ls xs)
mute-fails job ls [] = mute-ends job ls outcome.Finished
mute-fails job ls (a ∷ more) = mute-failing job ls (a ∷ more)

mute-then : (before : List Line) (x : Option Attempt) → IsMute before → PutsMute (then_begins before x)
mute-then before None e = tt
mute-then before (Some a) e = mute-both before (line.Started a ∷ []) e refl

mute-begins : (job : Job) (host : Host) (es : List Entry) (n : ℕ) → PutsMute (begins job host es n)
mute-begins job host es n = mute-then (map line.Interrupted (cut_off job host es n)) (next_attempt (lines_of es) (task_of job.id n)) (mute-interrupted (cut_off job host es n))

mute-beginning : (job : Job) (host : Host) (es : List Entry) (n : ℕ) → IsMute (beginning job host es n)
mute-beginning job host es n =
    mute-both (map line.Interrupted (cut_off job host es n)) (started (next_attempt (lines_of es) (task_of job.id n))) (mute-interrupted (cut_off job host es n)) (mute-started (next_attempt (lines_of es) (task_of job.id n)))

mute-settles : (job : Job) (ls : List Line) → PutsMute (settles job ls)
mute-settles job ls = mute-if (has_won_all job ls) (ends job ls outcome.AllWon) (Ends outcome.Busy) (mute-ends job ls outcome.AllWon) tt

mute-first : (job : Job) (host : Host) (es : List Entry) (ns : List ℕ) → PutsMute (begins_first job host es ns)
mute-first job host es [] = mute-settles job (lines_of es)
mute-first job host es (n ∷ more) = mute-begins job host es n

mute-those : (xs : List Line) → IsMute xs → PutsMute (begins_those xs)
mute-those [] e = tt
mute-those (x ∷ xs) e = mute-take 36 (x ∷ xs) e

mute-all : (job : Job) (host : Host) (es : List Entry) (ns : List ℕ) → PutsMute (begins_all job host es ns)
mute-all job host es [] = mute-settles job (lines_of es)
mute-all job host es (n ∷ more) = mute-those (flat_map (beginning job host es) (n ∷ more)) (mute-flat (beginning job host es) (mute-beginning job host es) (n ∷ more))

mute-at : (job : Job) (ls : List Line) (n : ℕ) (d : Decision) → PutsMute d → PutsMute (at_task job ls n d)
mute-at job ls n d f = one (nat_lt n job.tasks) (is_over ls) (has_winner ls (task_of job.id n))
  where
    one : (b o w : Bool) → PutsMute (cond (not b) (Ends outcome.NoTask) (cond o (Ends outcome.JobOver) (cond w (ends job ls outcome.AllWon) d)))
    one false o w = tt
    one true true w = tt
    one true false true = mute-ends job ls outcome.AllWon
    one true false false = f

mute-given : (job : Job) (host : Host) (es : List Entry) (n : ℕ) → IsMute (given_up job host es n)
mute-given job host es n = mute-both (map line.Interrupted (cut_off job host es n)) (map line.Failed (alive job host es n)) (mute-interrupted (cut_off job host es n)) (mute-failed (alive job host es n))

mute-over : (job : Job) (host : Host) (es : List Entry) (n : ℕ) → PutsMute (begins_over job host es n)
mute-over job host es n = one (reaches job.limit (lines_of es ++ given_up job host es n) (alive job host es n))
  where
    one : (b : Bool) → PutsMute (cond b (Puts (given_up job host es n ++ line.Unsuccessful ∷ [])) (then_begins (given_up job host es n) (next_attempt (lines_of es) (task_of job.id n))))
    one true = mute-both (given_up job host es n) (line.Unsuccessful ∷ []) (mute-given job host es n) refl
    one false = mute-then (given_up job host es n) (next_attempt (lines_of es) (task_of job.id n)) (mute-given job host es n)

mute-of : (job : Job) (ls : List Line) (a : Attempt) (d : Decision) → PutsMute d → PutsMute (of_attempt job ls a d)
mute-of job ls a d f = mute-if (is_under_way (standing job ls a)) d (ends job ls (outcome.Stands (standing job ls a))) f (mute-ends job ls (outcome.Stands (standing job ls a)))

mute-hands : (job : Job) (host : Host) (es : List Entry) (a : Attempt) → PutsMute (hands_in job host es a)
mute-hands job host es a = mute-if (is_this host (begun_in es a)) (HandsIn a) (Ends outcome.OtherBoot) tt tt

mute-fails-task : (job : Job) (ls : List Line) (n : ℕ) → PutsMute (fails_task job ls n)
mute-fails-task job ls n = one (nat_lt n job.tasks)
  where
    one : (b : Bool) → PutsMute (cond b (fails job ls (in_one_entry Attempt (under_way job ls (task_of job.id n)))) (Ends outcome.NoTask))
    one true = mute-fails job ls (in_one_entry Attempt (under_way job ls (task_of job.id n)))
    one false = tt

mute-aborts : (job : Job) (ls : List Line) → PutsMute (aborts job ls)
mute-aborts job ls = one (is_over ls) (may_end job ls)
  where
    one : (o m : Bool) → PutsMute (cond o (Ends outcome.Finished) (cond m (Puts (line.Unsuccessful ∷ [])) (ends job ls outcome.AllWon)))
    one true m = tt
    one false true = refl
    one false false = mute-ends job ls outcome.AllWon

mute-releases : (job : Job) (ls : List Line) → PutsMute (releases_job job ls)
mute-releases job ls = one (is_over ls) (has_won_all job ls) (job.hold && not (is_released ls))
  where
    one : (o w h : Bool) → PutsMute (cond o (Ends outcome.JobOver) (cond (not w) (Ends outcome.NotAllWon) (cond h (Puts (line.Publish ∷ [])) (ends job ls outcome.Finished))))
    one true w h = tt
    one false false h = tt
    one false true true = refl
    one false true false = mute-ends job ls outcome.Finished

mute-forgets : (job : Job) (ls : List Line) → PutsMute (forgets job ls)
mute-forgets job ls = mute-if (is_published ls) Forgets (ends job ls outcome.Unpublished) tt (mute-ends job ls outcome.Unpublished)

mute-unless-over : (ls : List Line) (d : Decision) → PutsMute d → PutsMute (cond (is_over ls) (Ends outcome.JobOver) d)
mute-unless-over ls d f = mute-if (is_over ls) (Ends outcome.JobOver) d tt f

mute-next-to : (job : Job) (host : Host) (es : List Entry) (n : ℕ) → PutsMute (begins_next_to job host es n)
mute-next-to job host es n = mute-if (nat_lt (length (alive job host es n)) 2) (begins job host es n) (Ends outcome.Busy) (mute-begins job host es n) tt

mute-decided : (o : Order) (job : Job) (host : Host) (es : List Entry) → PutsMute (decided o job host es)
unfolding decided
mute-decided (order.Done a) job host es = mute-of job (lines_of es) a (hands_in job host es a) (mute-hands job host es a)
mute-decided (order.Fail a) job host es = mute-of job (lines_of es) a (Puts (failing job (lines_of es) (a ∷ []))) (mute-failing job (lines_of es) (a ∷ []))
mute-decided (order.FailTask n) job host es = mute-fails-task job (lines_of es) n
mute-decided order.FailAll job host es = mute-fails job (lines_of es) (in_one_entry Attempt (under_way_below job (lines_of es) job.tasks))
mute-decided (order.Ask a) job host es = tt
mute-decided order.Resume job host es = mute-ends job (lines_of es) outcome.Finished
mute-decided order.Abort job host es = mute-aborts job (lines_of es)
mute-decided order.Publish job host es = mute-releases job (lines_of es)
mute-decided order.Forget job host es = mute-forgets job (lines_of es)
mute-decided order.StartNext job host es = mute-unless-over (lines_of es) (begins_first job host es (idle job host es)) (mute-first job host es (idle job host es))
mute-decided order.StartAll job host es = mute-unless-over (lines_of es) (begins_all job host es (idle job host es)) (mute-all job host es (idle job host es))
mute-decided (order.StartAt n) job host es = mute-at job (lines_of es) n (begins_next_to job host es n) (mute-next-to job host es n)
mute-decided (order.StartOver n) job host es = mute-at job (lines_of es) n (begins_over job host es n) (mute-over job host es n)

mute-concluded : (x : Conclusion) (a : Attempt) (job : Job) (es : List Entry) → PutsMute (concluded x a job es)
unfolding concluded
mute-concluded x a job es = mute-of job (lines_of es) a (Puts (deciding.conclusion job (lines_of es) a x)) (by x)
  where
    by : (y : Conclusion) → IsMute (deciding.conclusion job (lines_of es) a y)
    by (conclusion.Succeeded handed) = refl
    by conclusion.Failed = mute-failing job (lines_of es) (a ∷ [])
    by conclusion.Interrupted = refl

pub mute-decision : (x : Option Conclusion) (o : Order) (job : Job) (host : Host) (es : List Entry) → PutsMute (decision_of x o job host es)
mute-decision None o job host es = mute-decided o job host es
mute-decision (Some x) (order.Done a) job host es = mute-concluded x a job es
mute-decision (Some x) o job host es = mute-decided o job host es
