-- What is decided from exactly the lines before it is lawful there.
use Rattle.std.proofs.Common.{◌≡◌, ◌<◌, ◌≤◌, ◌+◌, ℕ, zero, suc, Bool, true, false, not, ◌&&◌, ◌||◌, cond, nat_lt, count_by, filter, map, take, drop, List, [], ◌∷◌, ◌++◌, Option, Some, None, is_some, refl, sym, ap, subst, ◌∙◌, append_assoc, append-nil, take-append-drop, arith}
use Rattle.std.specs.List.{AllByRecursion}
use Rattle.std.proofs.lemmas.List.Folds.{list_any-append}
use Rattle.std.proofs.lemmas.List.Sums.{sum_by-append, sum_by-cons}
use Rattle.std.proofs.lemmas.Bool.{ltb-true}
use Rattle.mr_ids.specs.Attempt.{Attempt}
use Rattle.mr_ids.specs.Same.{same_task}
use Rattle.mr_ids.specs.declared.id.TaskId.{TaskId}
use Rattle.mr_ids.proofs.Same.{task-is}
use Rattle.mr_log_entries.specs.declared.line.Line.{Line}
use Rattle.mr_log_entries.specs.declared.line.Line.TheVariants as line
use Rattle.mr_log_entries.specs.declared.entry.Entry.{Entry}
use Rattle.mr_log_entries.specs.Recorded.{lines_of}
use Rattle.mr_log_standing.specs.declared.job.Job.{Job}
use Rattle.mr_log_standing.specs.declared.order.Outcome.{Outcome}
use Rattle.mr_log_standing.specs.declared.order.Outcome.TheVariants as outcome
use Rattle.mr_log_standing.specs.declared.decision.Decision.{Decision}
use Rattle.mr_log_standing.specs.declared.decision.Decision.TheVariants.{Ends, Publishes, HandsIn, Puts, Forgets}
use Rattle.mr_log_standing.specs.Host.{Host}
use Rattle.mr_log_standing.specs.Standing.{task_of, is_of_job, ends_job, is_start_at, winner_of, is_over, is_released, is_published, is_left, left, has_won_all, is_publishable, may_end, standing, is_under_way, started_at, under_way, numbered, next_attempt, is_this, begun_in}
use Rattle.mr_log_standing.specs.Deciding.{in_one_entry, ends, reaches, with_end, failing, fails, under_way_below, settles, hands_in, of_attempt, fails_task, aborts, releases_job, forgets, lines_put}
use Rattle.mr_log_standing.specs.Lawful.{is_lawful, are_lawful}
use Rattle.mr_log_standing.specs.Laws.{IsOpen}
use Rattle.mr_log_standing.proofs.Winning.{winner-decided}
use Rattle.mr_log_standing.proofs.Below.{none-passes}
use Rattle.mr_log_standing.proofs.Lost.{Both, both, under-way}
use Rattle.mr_log_standing.proofs.Once.{one_if}

-- ---- lists of lawful lines

pub and-true : (x y : Bool) → x ≡ true → y ≡ true → (x && y) ≡ true
and-true true true e f = refl
and-true true false e f = absurd (cc)
and-true false y e f = absurd (cc)

pub and-assoc : (x y z : Bool) → (x && (y && z)) ≡ ((x && y) && z)
and-assoc true y z = refl
and-assoc false y z = refl

pub lawful-append : (job : Job) (ls more most : List Line) → are_lawful job ls (more ++ most) ≡ (are_lawful job ls more && are_lawful job (ls ++ more) most)
unfolding are_lawful
lawful-append job ls [] most = ap (λ xs. are_lawful job xs most) (sym (append-nil ls))
lawful-append job ls (l ∷ more) most =
    ap (λ m. is_lawful job ls l && m) (lawful-append job (ls ++ l ∷ []) more most ∙ ap (λ xs. are_lawful job (ls ++ l ∷ []) more && are_lawful job xs most) (append_assoc ls (l ∷ []) more))
    ∙ and-assoc (is_lawful job ls l) (are_lawful job (ls ++ l ∷ []) more) (are_lawful job (ls ++ l ∷ more) most)

pub lawful-both : (job : Job) (ls more most : List Line) → are_lawful job ls more ≡ true → are_lawful job (ls ++ more) most ≡ true → are_lawful job ls (more ++ most) ≡ true
lawful-both job ls more most e f = lawful-append job ls more most ∙ and-true (are_lawful job ls more) (are_lawful job (ls ++ more) most) e f

pub lawful-front : (job : Job) (ls more most : List Line) → are_lawful job ls (more ++ most) ≡ true → are_lawful job ls more ≡ true
lawful-front job ls more most e = (both (are_lawful job ls more) (are_lawful job (ls ++ more) most) (sym (lawful-append job ls more most) ∙ e)).first

pub lawful-take : (job : Job) (ls more : List Line) (n : ℕ) → are_lawful job ls more ≡ true → are_lawful job ls (take n more) ≡ true
lawful-take job ls more n e = lawful-front job ls (take n more) (drop n more) (ap (λ xs. are_lawful job ls xs) (take-append-drop n more) ∙ e)

pub lawful-one : (job : Job) (ls : List Line) (l : Line) → is_lawful job ls l ≡ true → are_lawful job ls (l ∷ []) ≡ true
unfolding are_lawful
lawful-one job ls l e = and-true (is_lawful job ls l) true e refl

pub lawful-none : (job : Job) (ls : List Line) → are_lawful job ls [] ≡ true
unfolding are_lawful
lawful-none job ls = refl

pub published-lawful : (job : Job) (ls : List Line) → is_publishable job ls ≡ true → are_lawful job ls (line.Published ∷ []) ≡ true
published-lawful job ls e = lawful-one job ls line.Published e

-- ---- lines that make no winner, end nothing, and begin attempts at tasks below a number alone

abbrev pub IsMild : ℕ → Line → Type 0
IsMild n (line.Started a) = a.task.number < n
IsMild n (line.Won a handed) = ⊥
IsMild n (line.Failed a) = Unit {0}
IsMild n (line.Interrupted a) = Unit {0}
IsMild n line.Unsuccessful = ⊥
IsMild n line.Publish = ⊥
IsMild n line.Published = ⊥

pub mild-append : (n : ℕ) (xs ys : List Line) → AllByRecursion (IsMild n) xs → AllByRecursion (IsMild n) ys → AllByRecursion (IsMild n) (xs ++ ys)
mild-append n [] ys h k = k
mild-append n (x ∷ xs) ys h k = (h.0, mild-append n xs ys h.1 k)

pub mild-weaker : (n m : ℕ) → n ≤ m → (xs : List Line) → AllByRecursion (IsMild n) xs → AllByRecursion (IsMild m) xs
mild-weaker n m l [] h = tt
mild-weaker n m l (x ∷ xs) h = (one x h.0, mild-weaker n m l xs h.1)
  where
    one : (x : Line) → IsMild n x → IsMild m x
    one (line.Started a) h = let low : a.task.number < n = h in omega arith
    one (line.Won a handed) h = absurd h
    one (line.Failed a) h = tt
    one (line.Interrupted a) h = tt
    one line.Unsuccessful h = absurd h
    one line.Publish h = absurd h
    one line.Published h = absurd h

pub mild-winner : (n : ℕ) (xs : List Line) (t : TaskId) → AllByRecursion (IsMild n) xs → winner_of xs t ≡ None
unfolding winner_of
mild-winner n [] t h = refl
mild-winner n (line.Started a ∷ xs) t h = mild-winner n xs t h.1
mild-winner n (line.Won a handed ∷ xs) t h = absurd h.0
mild-winner n (line.Failed a ∷ xs) t h = mild-winner n xs t h.1
mild-winner n (line.Interrupted a ∷ xs) t h = mild-winner n xs t h.1
mild-winner n (line.Unsuccessful ∷ xs) t h = absurd h.0
mild-winner n (line.Publish ∷ xs) t h = absurd h.0
mild-winner n (line.Published ∷ xs) t h = absurd h.0

-- whoever had no winner has none behind them
pub still-none : (n : ℕ) (ls xs : List Line) (t : TaskId) → winner_of ls t ≡ None → AllByRecursion (IsMild n) xs → winner_of (ls ++ xs) t ≡ None
still-none n ls xs t e h = winner-decided ls xs t e ∙ mild-winner n xs t h

pub mild-over : (n : ℕ) (xs : List Line) → AllByRecursion (IsMild n) xs → is_over xs ≡ false
mild-over n [] h = refl
mild-over n (line.Started a ∷ xs) h = mild-over n xs h.1
mild-over n (line.Won a handed ∷ xs) h = absurd h.0
mild-over n (line.Failed a ∷ xs) h = mild-over n xs h.1
mild-over n (line.Interrupted a ∷ xs) h = mild-over n xs h.1
mild-over n (line.Unsuccessful ∷ xs) h = absurd h.0
mild-over n (line.Publish ∷ xs) h = absurd h.0
mild-over n (line.Published ∷ xs) h = absurd h.0

pub or-false : (x y : Bool) → x ≡ false → y ≡ false → (x || y) ≡ false
or-false true y e f = absurd (cc)
or-false false y e f = f

pub still-on : (n : ℕ) (ls xs : List Line) → is_over ls ≡ false → AllByRecursion (IsMild n) xs → is_over (ls ++ xs) ≡ false
still-on n ls xs e h = list_any-append ends_job ls xs ∙ or-false (is_over ls) (is_over xs) e (mild-over n xs h)

-- at a task from the number on nothing is begun
pub mild-count : (n : ℕ) (xs : List Line) (t : TaskId) → n ≤ t.number → AllByRecursion (IsMild n) xs → count_by (is_start_at t) xs ≡ 0
mild-count n [] t l h = refl
mild-count n (x ∷ xs) t l h =
    let rest : count_by (is_start_at t) xs ≡ 0 = mild-count n xs t l h.1 in
    let first : one_if (is_start_at t x) ≡ 0 = ap one_if (one x h.0) in
    sum_by-cons (λ y. one_if (is_start_at t y)) x xs ∙ (let sum : one_if (is_start_at t x) + count_by (is_start_at t) xs ≡ 0 = omega arith in sum)
  where
    other : (a : Attempt) (m : Bool) → same_task a.task t ≡ m → a.task.number < n → is_some (cond m (Some a) None) ≡ false
    other a true is low =
        let same : a.task.number ≡ t.number = ap (λ (u : TaskId). u.number) (task-is a.task t is) in
        absurd (omega arith)
    other a false is low = refl

    one : (x : Line) → IsMild n x → is_start_at t x ≡ false
    one (line.Started a) h = other a (same_task a.task t) refl h
    one (line.Won a handed) h = refl
    one (line.Failed a) h = refl
    one (line.Interrupted a) h = refl
    one line.Unsuccessful h = refl
    one line.Publish h = refl
    one line.Published h = refl

pub still-next : (n : ℕ) (ls xs : List Line) (t : TaskId) → n ≤ t.number → AllByRecursion (IsMild n) xs → next_attempt (ls ++ xs) t ≡ next_attempt ls t
unfolding next_attempt
still-next n ls xs t l h =
    let more : count_by (is_start_at t) (ls ++ xs) ≡ count_by (is_start_at t) ls + count_by (is_start_at t) xs = sum_by-append (λ y. one_if (is_start_at t y)) ls xs in
    let none : count_by (is_start_at t) xs ≡ 0 = mild-count n xs t l h in
    let same : count_by (is_start_at t) (ls ++ xs) ≡ count_by (is_start_at t) ls = omega arith in
    ap (λ k. numbered t k) same

-- ---- attempts whose tasks have no winner

abbrev pub IsFree : List Line → Attempt → Type 0
IsFree ls a = winner_of ls a.task ≡ None

pub all-append : (P : Attempt → Type 0) (xs ys : List Attempt) → AllByRecursion P xs → AllByRecursion P ys → AllByRecursion P (xs ++ ys)
all-append P [] ys h k = k
all-append P (x ∷ xs) ys h k = (h.0, all-append P xs ys h.1 k)

pub all-front : (P : Attempt → Type 0) (xs ys : List Attempt) → AllByRecursion P (xs ++ ys) → AllByRecursion P xs
all-front P [] ys h = tt
all-front P (x ∷ xs) ys h = (h.0, all-front P xs ys h.1)

pub all-take : (P : Attempt → Type 0) (n : ℕ) (xs : List Attempt) → AllByRecursion P xs → AllByRecursion P (take n xs)
all-take P n xs h = all-front P (take n xs) (drop n xs) (subst (λ ys. AllByRecursion P ys) (sym (take-append-drop n xs)) h)

pub all-filter : (P : Attempt → Type 0) (p : Attempt → Bool) → (xs : List Attempt) → AllByRecursion P xs → AllByRecursion P (filter p xs)
all-filter P p [] h = tt
all-filter P p (x ∷ xs) h = by (p x) (all-filter P p xs h.1)
  where
    by : (m : Bool) → AllByRecursion P (filter p xs) → AllByRecursion P (cond m (x ∷ filter p xs) (filter p xs))
    by true rest = (h.0, rest)
    by false rest = rest

pub all-passing : (P : Attempt → Type 0) (p : Attempt → Bool) → ((x : Attempt) → p x ≡ true → P x) → (xs : List Attempt) → AllByRecursion P (filter p xs)
all-passing P p f [] = tt
all-passing P p f (x ∷ xs) = by (p x) refl (all-passing P p f xs)
  where
    by : (m : Bool) → p x ≡ m → AllByRecursion P (filter p xs) → AllByRecursion P (cond m (x ∷ filter p xs) (filter p xs))
    by true is rest = (f x is, rest)
    by false is rest = rest

-- who is under way is at a task without a winner
pub all-open : (job : Job) (ls : List Line) (t : TaskId) → AllByRecursion (IsOpen job ls) (under_way job ls t)
all-open job ls t = all-passing (IsOpen job ls) (λ a. is_under_way (standing job ls a)) (λ a e. under-way job ls a e) (started_at ls t)

pub all-open-below : (job : Job) (ls : List Line) (n : ℕ) → AllByRecursion (IsOpen job ls) (under_way_below job ls n)
unfolding under_way_below
all-open-below job ls zero = tt
all-open-below job ls (suc n) = all-append (IsOpen job ls) (under_way_below job ls n) (under_way job ls (task_of job.id n)) (all-open-below job ls n) (all-open job ls (task_of job.id n))

pub not-some : (o : Option Attempt) → o ≡ None → not (is_some o) ≡ true
not-some o e = ap (λ p. not (is_some p)) e

pub mild-failed : (those : List Attempt) → AllByRecursion (IsMild 0) (map line.Failed those)
mild-failed [] = tt
mild-failed (a ∷ those) = (tt, mild-failed those)

pub mild-interrupted : (those : List Attempt) → AllByRecursion (IsMild 0) (map line.Interrupted those)
mild-interrupted [] = tt
mild-interrupted (a ∷ those) = (tt, mild-interrupted those)

-- they may fail, or be noted as cut off, one after another
pub failed-lawful : (job : Job) (ls before : List Line) (those : List Attempt) → AllByRecursion (IsMild 0) before → AllByRecursion (IsOpen job ls) those → are_lawful job (ls ++ before) (map line.Failed those) ≡ true
unfolding are_lawful
failed-lawful job ls before [] m h = refl
failed-lawful job ls before (a ∷ those) m h =
    and-true (is_lawful job (ls ++ before) (line.Failed a)) (are_lawful job ((ls ++ before) ++ line.Failed a ∷ []) (map line.Failed those))
    (not-some (winner_of (ls ++ before) a.task) (still-none 0 ls before a.task h.0.unwon m))
    (ap (λ xs. are_lawful job xs (map line.Failed those)) (append_assoc ls before (line.Failed a ∷ [])) ∙ failed-lawful job ls (before ++ line.Failed a ∷ []) those (mild-append 0 before (line.Failed a ∷ []) m (tt, tt)) h.1)

pub interrupted-lawful : (job : Job) (ls before : List Line) (those : List Attempt) → (n : ℕ) → AllByRecursion (IsMild n) before → AllByRecursion (IsOpen job ls) those → are_lawful job (ls ++ before) (map line.Interrupted those) ≡ true
unfolding are_lawful
interrupted-lawful job ls before [] n m h = refl
interrupted-lawful job ls before (a ∷ those) n m h =
    and-true (is_lawful job (ls ++ before) (line.Interrupted a)) (are_lawful job ((ls ++ before) ++ line.Interrupted a ∷ []) (map line.Interrupted those))
    (not-some (winner_of (ls ++ before) a.task) (still-none n ls before a.task h.0.unwon m))
    (ap (λ xs. are_lawful job xs (map line.Interrupted those)) (append_assoc ls before (line.Interrupted a ∷ [])) ∙ interrupted-lawful job ls (before ++ line.Interrupted a ∷ []) those n (mild-append n before (line.Interrupted a ∷ []) m (tt, tt)) h.1)

-- where a task of the job has no winner, the job may end
pub not-all : (job : Job) (ls : List Line) (a : Attempt) → is_of_job job a ≡ true → winner_of ls a.task ≡ None → has_won_all job ls ≡ false
unfolding left
not-all job ls a of none = by (has_won_all job ls) refl
  where
    here : Both (same_task a.task (task_of job.id a.task.number)) (nat_lt a.task.number job.tasks)
    here = both (same_task a.task (task_of job.id a.task.number)) (nat_lt a.task.number job.tasks) of

    by : (m : Bool) → has_won_all job ls ≡ m → has_won_all job ls ≡ false
    by false e = e
    by true e =
        let won : is_left job ls a.task.number ≡ false = none-passes (is_left job ls) job.tasks e a.task.number (ltb-true _ _ here.second) in
        let lacks : is_left job ls a.task.number ≡ true = not-some (winner_of ls (task_of job.id a.task.number)) (subst (λ t. winner_of ls t ≡ None) (task-is a.task (task_of job.id a.task.number) here.first) none) in
        absurd (let no : true ≡ false = sym lacks ∙ won in cc)

pub end-lawful : (job : Job) (ls : List Line) (a : Attempt) → is_of_job job a ≡ true → winner_of ls a.task ≡ None → are_lawful job ls (line.Unsuccessful ∷ []) ≡ true
end-lawful job ls a of none = lawful-one job ls line.Unsuccessful (by (has_won_all job ls) (not-all job ls a of none))
  where
    by : (m : Bool) → m ≡ false → (not m || (job.hold && not (is_released ls))) ≡ true
    by false e = refl
    by true e = absurd (cc)

pub reaches-none : (limit : Option ℕ) (ls : List Line) → reaches limit ls [] ≡ false
reaches-none None ls = refl
reaches-none (Some n) ls = refl

-- lines that are lawful, and the end of the job where these failures reach the limit
pub with-end : (job : Job) (ls more : List Line) (those : List Attempt) → AllByRecursion (IsMild 0) more → AllByRecursion (IsOpen job ls) those → are_lawful job ls more ≡ true → are_lawful job ls (with_end job ls those more) ≡ true
with-end job ls more [] m h e =
    ap (λ b. are_lawful job ls (cond b (more ++ line.Unsuccessful ∷ []) more)) (reaches-none job.limit (ls ++ more)) ∙ e
with-end job ls more (a ∷ those) m h e = by (reaches job.limit (ls ++ more) (a ∷ those))
  where
    by : (b : Bool) → are_lawful job ls (cond b (more ++ line.Unsuccessful ∷ []) more) ≡ true
    by true = lawful-both job ls more (line.Unsuccessful ∷ []) e (end-lawful job (ls ++ more) a h.0.of_job (still-none 0 ls more a.task h.0.unwon m))
    by false = e

pub failing-lawful : (job : Job) (ls : List Line) (those : List Attempt) → AllByRecursion (IsOpen job ls) those → are_lawful job ls (failing job ls those) ≡ true
failing-lawful job ls those h =
    with-end job ls (map line.Failed those) those (mild-failed those) h (subst (λ xs. are_lawful job xs (map line.Failed those) ≡ true) (append-nil ls) (failed-lawful job ls [] those tt h))

-- ---- decisions

abbrev pub IsFit : Job → List Line → Decision → Type 0
IsFit job ls d = are_lawful job ls (lines_put d) ≡ true

pub fit-if : (job : Job) (ls : List Line) (d e : Decision) (m : Bool) → (m ≡ true → IsFit job ls d) → (m ≡ false → IsFit job ls e) → IsFit job ls (cond m d e)
fit-if job ls d e true f g = f refl
fit-if job ls d e false f g = g refl

pub fit-ends : (job : Job) (ls : List Line) (o : Outcome) → IsFit job ls (ends job ls o)
fit-ends job ls o = fit-if job ls (Publishes o) (Ends o) (is_publishable job ls && not (is_published ls)) (λ e. lawful-none job ls) (λ e. lawful-none job ls)

pub fit-of : (job : Job) (ls : List Line) (a : Attempt) (d : Decision) → (is_under_way (standing job ls a) ≡ true → IsFit job ls d) → IsFit job ls (of_attempt job ls a d)
fit-of job ls a d h = fit-if job ls d (ends job ls (outcome.Stands (standing job ls a))) (is_under_way (standing job ls a)) h (λ e. fit-ends job ls (outcome.Stands (standing job ls a)))

pub fit-fails : (job : Job) (ls : List Line) (those : List Attempt) → AllByRecursion (IsOpen job ls) those → IsFit job ls (fails job ls those)
fit-fails job ls [] h = fit-ends job ls outcome.Finished
fit-fails job ls (a ∷ those) h = failing-lawful job ls (a ∷ those) h

pub fit-done : (job : Job) (host : Host) (es : List Entry) (a : Attempt) → IsFit job (lines_of es) (hands_in job host es a)
fit-done job host es a = fit-if job (lines_of es) (HandsIn a) (Ends outcome.OtherBoot) (is_this host (begun_in es a)) (λ e. lawful-none job (lines_of es)) (λ e. lawful-none job (lines_of es))

pub fit-fail : (job : Job) (ls : List Line) (a : Attempt) → IsFit job ls (of_attempt job ls a (Puts (failing job ls (a ∷ []))))
fit-fail job ls a = fit-of job ls a (Puts (failing job ls (a ∷ []))) (λ e. failing-lawful job ls (a ∷ []) (under-way job ls a e, tt))

pub fit-fails-task : (job : Job) (ls : List Line) (n : ℕ) → IsFit job ls (fails_task job ls n)
fit-fails-task job ls n =
    fit-if job ls (fails job ls (in_one_entry Attempt (under_way job ls (task_of job.id n)))) (Ends outcome.NoTask) (nat_lt n job.tasks)
    (λ e. fit-fails job ls (in_one_entry Attempt (under_way job ls (task_of job.id n))) (all-take (IsOpen job ls) 36 (under_way job ls (task_of job.id n)) (all-open job ls (task_of job.id n))))
    (λ e. lawful-none job ls)

pub fit-aborts : (job : Job) (ls : List Line) → IsFit job ls (aborts job ls)
fit-aborts job ls =
    fit-if job ls (Ends outcome.Finished) (cond (may_end job ls) (Puts (line.Unsuccessful ∷ [])) (ends job ls outcome.AllWon)) (is_over ls)
    (λ e. lawful-none job ls)
    (λ e. fit-if job ls (Puts (line.Unsuccessful ∷ [])) (ends job ls outcome.AllWon) (may_end job ls) (λ f. lawful-one job ls line.Unsuccessful f) (λ f. fit-ends job ls outcome.AllWon))

pub not-false : (x : Bool) → not x ≡ false → x ≡ true
not-false true e = refl
not-false false e = absurd (cc)

pub fit-releases : (job : Job) (ls : List Line) → IsFit job ls (releases_job job ls)
fit-releases job ls =
    fit-if job ls (Ends outcome.JobOver) (cond (not (has_won_all job ls)) (Ends outcome.NotAllWon) (cond (job.hold && not (is_released ls)) (Puts (line.Publish ∷ [])) (ends job ls outcome.Finished))) (is_over ls)
    (λ e. lawful-none job ls)
    (λ over. fit-if job ls (Ends outcome.NotAllWon) (cond (job.hold && not (is_released ls)) (Puts (line.Publish ∷ [])) (ends job ls outcome.Finished)) (not (has_won_all job ls))
    (λ e. lawful-none job ls)
    (λ all. fit-if job ls (Puts (line.Publish ∷ [])) (ends job ls outcome.Finished) (job.hold && not (is_released ls))
    (λ e. lawful-one job ls line.Publish (and-true (has_won_all job ls) (not (is_over ls)) (not-false (has_won_all job ls) all) (ap not over)))
    (λ e. fit-ends job ls outcome.Finished)))

pub fit-forgets : (job : Job) (ls : List Line) → IsFit job ls (forgets job ls)
fit-forgets job ls = fit-if job ls Forgets (ends job ls outcome.Unpublished) (is_published ls) (λ e. lawful-none job ls) (λ e. fit-ends job ls outcome.Unpublished)

pub fit-settles : (job : Job) (ls : List Line) → IsFit job ls (settles job ls)
fit-settles job ls = fit-if job ls (ends job ls outcome.AllWon) (Ends outcome.Busy) (has_won_all job ls) (λ e. fit-ends job ls outcome.AllWon) (λ e. lawful-none job ls)
