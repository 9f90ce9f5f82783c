-- Logs whose entries were each decided from exactly those before them.
use Rattle.std.proofs.Common.{◌≡◌, ◌⊎◌, inl, inr, ℕ, nat_lt, Bool, true, false, cond, not, ◌&&◌, ◌||◌, List, [], ◌∷◌, ◌++◌, length, map, Option, Some, None, refl, sym, ap, subst, ◌∙◌, append_assoc, append-nil, flat_map}
use Rattle.std.proofs.lemmas.List.Folds.{list_any-append}
use Rattle.mr_ids.specs.Attempt.{Attempt}
use Rattle.mr_log_entries.specs.declared.line.Line.{Line}
use Rattle.mr_log_entries.specs.declared.line.Line.TheVariants as line
use Rattle.mr_log_entries.specs.declared.entry.Entry.{Entry}
use Rattle.mr_log_entries.specs.Recorded.{lines_of}
use Rattle.mr_log_disk.specs.declared.call.Call.{Call}
use Rattle.mr_log_disk.specs.declared.call.Call.TheVariants as call
use Rattle.mr_log_standing.specs.declared.job.Job.{Job}
use Rattle.mr_log_standing.specs.declared.order.Order.{Order}
use Rattle.mr_log_standing.specs.declared.order.Order.TheVariants as order
use Rattle.mr_log_standing.specs.declared.order.Outcome.{Outcome}
use Rattle.mr_log_standing.specs.declared.order.Outcome.TheVariants as outcome
use Rattle.mr_log_standing.specs.declared.decision.Decision.{Decision}
use Rattle.mr_log_standing.specs.declared.decision.Decision.TheVariants.{Ends, Publishes, HandsIn, Puts, Begins, Forgets}
use Rattle.mr_log_standing.specs.declared.decision.Conclusion.{Conclusion}
use Rattle.mr_log_standing.specs.Host.{Host}
use Rattle.mr_log_standing.specs.Standing.{is_start_of, task_of, has_winner, is_over, is_released, is_publication, is_published, has_won_all, is_publishable, may_end, standing, is_under_way, under_way, next_attempt, begun_in, is_this}
use Rattle.mr_log_standing.specs.Deciding.{in_one_entry, ends, failing, fails, under_way_below, cut_off, alive, idle, beginning, then_begins, begins, settles, begins_first, begins_those, begins_all, at_task, begins_next_to, reaches, given_up, begins_over, hands_in, of_attempt, fails_task, aborts, releases_job, forgets, decided, conclusion, concluded, lines_put}
use Rattle.mr_log_standing.specs.Lawful.{is_lawful, are_lawful}
use Rattle.mr_log_standing.proofs.Following.{lawful-both, published-lawful}
use Rattle.mr_log_standing.proofs.Beginning.{decided-lawful, concluded-lawful}
use Rattle.mr_log_standing.proofs.Jobs.{any-stays, publishable}
use Rattle.mr_log_standing.proofs.Lost.{lost-stays}
use Rattle.mr_log_steps.specs.Turns.{decision_of}
use Rattle.mr_log_model.specs.Promises.{IsPutBy, IsDecided, AreDecided, IsAllowed}
use Rattle.mr_log_model.proofs.Fronts.{lines-more}

-- ---- one entry more, or fewer

pub decided-one : (job : Job) (before es : List Entry) (e : Entry) → AreDecided job before es → IsDecided job (before ++ es) e → AreDecided job before (es ++ e ∷ [])
unfolding AreDecided
decided-one job before [] e h d = let P : List Entry → Type 0 = λ xs. IsDecided job xs e in (subst P (append-nil before) d, tt)
decided-one job before (x ∷ es) e h d = let P : List Entry → Type 0 = λ xs. IsDecided job xs e in (h.0, decided-one job (before ++ x ∷ []) es e h.1 (subst P (sym (append_assoc before (x ∷ []) es)) d))

pub decided-front : (job : Job) (before es more : List Entry) → AreDecided job before (es ++ more) → AreDecided job before es
unfolding AreDecided
decided-front job before [] more h = tt
decided-front job before (x ∷ es) more h = (h.0, decided-front job (before ++ x ∷ []) es more h.1)

pub decided-rest : (job : Job) (before es more : List Entry) → AreDecided job before (es ++ more) → AreDecided job (before ++ es) more
unfolding AreDecided
decided-rest job before [] more h = let P : List Entry → Type 0 = λ xs. AreDecided job xs more in subst P (sym (append-nil before)) h
decided-rest job before (x ∷ es) more h = let P : List Entry → Type 0 = λ xs. AreDecided job xs more in subst P (append_assoc before (x ∷ []) es) (decided-rest job (before ++ x ∷ []) es more h.1)

-- ---- who publishes may, and who forgets; nobody says that it begins an attempt before it has

abbrev pub starts_none : Outcome → Bool
starts_none (outcome.Started a) = false
starts_none _ = true

abbrev pub IsFair : Job → List Line → Decision → Type 0
IsFair job ls (Publishes o) = is_publishable job ls ≡ true
IsFair job ls (Ends o) = starts_none o ≡ true
IsFair job ls (HandsIn a) = Unit {0}
IsFair job ls (Puts xs) = Unit {0}
IsFair job ls (Begins xs) = Unit {0}
IsFair job ls Forgets = is_published ls ≡ true

fair-if : (job : Job) (ls : List Line) (b : Bool) (d e : Decision) → IsFair job ls d → IsFair job ls e → IsFair job ls (cond b d e)
fair-if job ls true d e f g = f
fair-if job ls false d e f g = g

fair-ends : (job : Job) (ls : List Line) (o : Outcome) → starts_none o ≡ true → IsFair job ls (ends job ls o)
fair-ends job ls o q = by (is_publishable job ls) (is_published ls) refl
  where
    by : (p r : Bool) → is_publishable job ls ≡ p → IsFair job ls (cond (p && not r) (Publishes o) (Ends o))
    by true true e = q
    by true false e = e
    by false r e = q

fair-fails : (job : Job) (ls : List Line) (xs : List Attempt) → IsFair job ls (fails job ls xs)
fair-fails job ls [] = fair-ends job ls outcome.Finished refl
fair-fails job ls (a ∷ more) = tt

fair-then : (job : Job) (ls before : List Line) (x : Option Attempt) → IsFair job ls (then_begins before x)
fair-then job ls before None = refl
fair-then job ls before (Some a) = tt

fair-begins : (job : Job) (host : Host) (es : List Entry) (n : ℕ) → IsFair job (lines_of es) (begins job host es n)
fair-begins job host es n = fair-then job (lines_of es) (map line.Interrupted (cut_off job host es n)) (next_attempt (lines_of es) (task_of job.id n))

fair-settles : (job : Job) (ls : List Line) → IsFair job ls (settles job ls)
fair-settles job ls = fair-if job ls (has_won_all job ls) (ends job ls outcome.AllWon) (Ends outcome.Busy) (fair-ends job ls outcome.AllWon refl) refl

fair-first : (job : Job) (host : Host) (es : List Entry) (ns : List ℕ) → IsFair job (lines_of es) (begins_first job host es ns)
fair-first job host es [] = fair-settles job (lines_of es)
fair-first job host es (n ∷ more) = fair-begins job host es n

fair-those : (job : Job) (ls xs : List Line) → IsFair job ls (begins_those xs)
fair-those job ls [] = refl
fair-those job ls (x ∷ xs) = tt

fair-all : (job : Job) (host : Host) (es : List Entry) (ns : List ℕ) → IsFair job (lines_of es) (begins_all job host es ns)
fair-all job host es [] = fair-settles job (lines_of es)
fair-all job host es (n ∷ more) = fair-those job (lines_of es) (flat_map (beginning job host es) (n ∷ more))

fair-at : (job : Job) (ls : List Line) (n : ℕ) (d : Decision) → IsFair job ls d → IsFair job ls (at_task job ls n d)
fair-at job ls n d f = one (nat_lt n job.tasks) (is_over ls) (has_winner ls (task_of job.id n))
  where
    one : (b o w : Bool) → IsFair job ls (cond (not b) (Ends outcome.NoTask) (cond o (Ends outcome.JobOver) (cond w (ends job ls outcome.AllWon) d)))
    one false o w = refl
    one true true w = refl
    one true false true = fair-ends job ls outcome.AllWon refl
    one true false false = f

fair-over : (job : Job) (host : Host) (es : List Entry) (n : ℕ) → IsFair job (lines_of es) (begins_over job host es n)
fair-over job host es n = one (reaches job.limit (lines_of es ++ given_up job host es n) (alive job host es n))
  where
    one : (b : Bool) → IsFair job (lines_of es) (cond b (Puts (given_up job host es n ++ line.Unsuccessful ∷ [])) (then_begins (given_up job host es n) (next_attempt (lines_of es) (task_of job.id n))))
    one true = tt
    one false = fair-then job (lines_of es) (given_up job host es n) (next_attempt (lines_of es) (task_of job.id n))

fair-of : (job : Job) (ls : List Line) (a : Attempt) (d : Decision) → IsFair job ls d → IsFair job ls (of_attempt job ls a d)
fair-of job ls a d f = fair-if job ls (is_under_way (standing job ls a)) d (ends job ls (outcome.Stands (standing job ls a))) f (fair-ends job ls (outcome.Stands (standing job ls a)) refl)

fair-hands : (job : Job) (host : Host) (es : List Entry) (a : Attempt) → IsFair job (lines_of es) (hands_in job host es a)
fair-hands job host es a = fair-if job (lines_of es) (is_this host (begun_in es a)) (HandsIn a) (Ends outcome.OtherBoot) tt refl

fair-fails-task : (job : Job) (ls : List Line) (n : ℕ) → IsFair job ls (fails_task job ls n)
fair-fails-task job ls n = one (nat_lt n job.tasks)
  where
    one : (b : Bool) → IsFair job ls (cond b (fails job ls (in_one_entry Attempt (under_way job ls (task_of job.id n)))) (Ends outcome.NoTask))
    one true = fair-fails job ls (in_one_entry Attempt (under_way job ls (task_of job.id n)))
    one false = refl

fair-aborts : (job : Job) (ls : List Line) → IsFair job ls (aborts job ls)
fair-aborts job ls = one (is_over ls) (may_end job ls)
  where
    one : (o m : Bool) → IsFair job ls (cond o (Ends outcome.Finished) (cond m (Puts (line.Unsuccessful ∷ [])) (ends job ls outcome.AllWon)))
    one true m = refl
    one false true = tt
    one false false = fair-ends job ls outcome.AllWon refl

fair-releases : (job : Job) (ls : List Line) → IsFair job ls (releases_job job ls)
fair-releases job ls = one (is_over ls) (has_won_all job ls) (job.hold && not (is_released ls))
  where
    one : (o w h : Bool) → IsFair job ls (cond o (Ends outcome.JobOver) (cond (not w) (Ends outcome.NotAllWon) (cond h (Puts (line.Publish ∷ [])) (ends job ls outcome.Finished))))
    one true w h = refl
    one false false h = refl
    one false true true = tt
    one false true false = fair-ends job ls outcome.Finished refl

fair-forgets : (job : Job) (ls : List Line) → IsFair job ls (forgets job ls)
fair-forgets job ls = one (is_published ls) refl
  where
    one : (p : Bool) → is_published ls ≡ p → IsFair job ls (cond p Forgets (ends job ls outcome.Unpublished))
    one true e = e
    one false e = fair-ends job ls outcome.Unpublished refl

fair-unless-over : (job : Job) (ls : List Line) (d : Decision) → IsFair job ls d → IsFair job ls (cond (is_over ls) (Ends outcome.JobOver) d)
fair-unless-over job ls d f = fair-if job ls (is_over ls) (Ends outcome.JobOver) d refl f

fair-next-to : (job : Job) (host : Host) (es : List Entry) (n : ℕ) → IsFair job (lines_of es) (begins_next_to job host es n)
fair-next-to job host es n = fair-if job (lines_of es) (nat_lt (length (alive job host es n)) 2) (begins job host es n) (Ends outcome.Busy) (fair-begins job host es n) refl

fair-decided : (o : Order) (job : Job) (host : Host) (es : List Entry) → IsFair job (lines_of es) (decided o job host es)
unfolding decided
fair-decided (order.Done a) job host es = fair-of job (lines_of es) a (hands_in job host es a) (fair-hands job host es a)
fair-decided (order.Fail a) job host es = fair-of job (lines_of es) a (Puts (failing job (lines_of es) (a ∷ []))) tt
fair-decided (order.FailTask n) job host es = fair-fails-task job (lines_of es) n
fair-decided order.FailAll job host es = fair-fails job (lines_of es) (in_one_entry Attempt (under_way_below job (lines_of es) job.tasks))
fair-decided (order.Ask a) job host es = refl
fair-decided order.Resume job host es = fair-ends job (lines_of es) outcome.Finished refl
fair-decided order.Abort job host es = fair-aborts job (lines_of es)
fair-decided order.Publish job host es = fair-releases job (lines_of es)
fair-decided order.Forget job host es = fair-forgets job (lines_of es)
fair-decided order.StartNext job host es = fair-unless-over job (lines_of es) (begins_first job host es (idle job host es)) (fair-first job host es (idle job host es))
fair-decided order.StartAll job host es = fair-unless-over job (lines_of es) (begins_all job host es (idle job host es)) (fair-all job host es (idle job host es))
fair-decided (order.StartAt n) job host es = fair-at job (lines_of es) n (begins_next_to job host es n) (fair-next-to job host es n)
fair-decided (order.StartOver n) job host es = fair-at job (lines_of es) n (begins_over job host es n) (fair-over job host es n)

fair-concluded : (x : Conclusion) (a : Attempt) (job : Job) (es : List Entry) → IsFair job (lines_of es) (concluded x a job es)
unfolding concluded
fair-concluded x a job es = fair-of job (lines_of es) a (Puts (conclusion job (lines_of es) a x)) tt

pub fair-decision : (x : Option Conclusion) (o : Order) (job : Job) (host : Host) (es : List Entry) → IsFair job (lines_of es) (decision_of x o job host es)
fair-decision None o job host es = fair-decided o job host es
fair-decision (Some x) (order.Done a) job host es = fair-concluded x a job es
fair-decision (Some x) o job host es = fair-decided o job host es

-- ---- what is decided is lawful

lawful-decision : (x : Option Conclusion) (o : Order) (job : Job) (host : Host) (es : List Entry) → are_lawful job (lines_of es) (lines_put (decision_of x o job host es)) ≡ true
lawful-decision None o job host es = decided-lawful o job host es
lawful-decision (Some x) (order.Done a) job host es = concluded-lawful x a job es
lawful-decision (Some x) o job host es = decided-lawful o job host es

lawful-entry : (job : Job) (before : List Entry) (e : Entry) → IsDecided job before e → are_lawful job (lines_of before) e.lines ≡ true
lawful-entry job before e h = by (decision_of h.conclusion h.order job h.host before) (lawful-decision h.conclusion h.order job h.host before) (fair-decision h.conclusion h.order job h.host before) h.put
  where
    by : (d : Decision) → are_lawful job (lines_of before) (lines_put d) ≡ true → IsFair job (lines_of before) d → IsPutBy d e.lines → are_lawful job (lines_of before) e.lines ≡ true
    by (Puts xs) l f p = ap (are_lawful job (lines_of before)) p ∙ l
    by (Begins xs) l f p = ap (are_lawful job (lines_of before)) p ∙ l
    by (Publishes o) l f p = ap (are_lawful job (lines_of before)) p ∙ published-lawful job (lines_of before) f
    by (Ends o) l f p = absurd p
    by (HandsIn a) l f p = absurd p
    by Forgets l f p = absurd p

one-entry : (e : Entry) → lines_of (e ∷ []) ≡ e.lines
unfolding lines_of
one-entry e = append-nil e.lines

pub lawful : (job : Job) (before es : List Entry) → AreDecided job before es → are_lawful job (lines_of before) (lines_of es) ≡ true
unfolding AreDecided lines_of are_lawful
lawful job before [] h = refl
lawful job before (e ∷ es) h =
    let next : lines_of (before ++ e ∷ []) ≡ lines_of before ++ e.lines = lines-more before (e ∷ []) ∙ ap (λ (ls : List Line). lines_of before ++ ls) (one-entry e) in
    lawful-both job (lines_of before) e.lines (lines_of es) (lawful-entry job before e h.0)
    (ap (λ (ls : List Line). are_lawful job ls (lines_of es)) (sym next) ∙ lawful job (before ++ e ∷ []) es h.1)

-- ---- a job that is published may be published, for good

both-true : (x y : Bool) → (x && y) ≡ true → (x ≡ true) × (y ≡ true)
both-true true true e = (refl, refl)
both-true true false e = absurd (cc)
both-true false y e = absurd (cc)

lawful-one : (job : Job) (ls : List Line) (l : Line) → is_lawful job ls l ≡ true → are_lawful job ls (l ∷ []) ≡ true
unfolding are_lawful
lawful-one job ls l e = ap (λ b. b && true) e

noted : (job : Job) (ls : List Line) (l : Line) → is_lawful job ls l ≡ true → is_publication l ≡ true → is_publishable job ls ≡ true
noted job ls line.Published e p = e
noted job ls (line.Started a) e p = absurd (cc)
noted job ls (line.Won a h) e p = absurd (cc)
noted job ls (line.Failed a) e p = absurd (cc)
noted job ls (line.Interrupted a) e p = absurd (cc)
noted job ls line.Unsuccessful e p = absurd (cc)
noted job ls line.Publish e p = absurd (cc)

either : (x y : Bool) → (x || (y || false)) ≡ true → (x ≡ true) ⊎ (y ≡ true)
either true y e = inl refl
either false true e = inr refl
either false false e = absurd (cc)

published-one : (job : Job) (ls : List Line) (l : Line) → (is_published ls ≡ true → is_publishable job ls ≡ true) → is_lawful job ls l ≡ true → is_published (ls ++ l ∷ []) ≡ true → is_publishable job (ls ++ l ∷ []) ≡ true
published-one job ls l h e p = publishable job ls (l ∷ []) (by (either (is_published ls) (is_publication l) (sym (list_any-append is_publication ls (l ∷ [])) ∙ p))) (lawful-one job ls l e)
  where
    by : (is_published ls ≡ true) ⊎ (is_publication l ≡ true) → is_publishable job ls ≡ true
    by (inl q) = h q
    by (inr q) = noted job ls l e q

published-may : (job : Job) (ls more : List Line) → (is_published ls ≡ true → is_publishable job ls ≡ true) → are_lawful job ls more ≡ true → is_published (ls ++ more) ≡ true → is_publishable job (ls ++ more) ≡ true
unfolding are_lawful
published-may job ls [] h e p =
    let P : List Line → Type 0 = λ xs. is_publishable job xs ≡ true in
    let Q : List Line → Type 0 = λ xs. is_published xs ≡ true in
    subst P (sym (append-nil ls)) (h (subst Q (append-nil ls) p))
published-may job ls (l ∷ more) h e p =
    let b = both-true (is_lawful job ls l) (are_lawful job (ls ++ l ∷ []) more) e in
    let P : List Line → Type 0 = λ xs. is_publishable job xs ≡ true in
    let Q : List Line → Type 0 = λ xs. is_published xs ≡ true in
    let grouped : (ls ++ l ∷ []) ++ more ≡ ls ++ l ∷ more = append_assoc ls (l ∷ []) more in
    subst P grouped (published-may job (ls ++ l ∷ []) more (published-one job ls l h b.0) b.1 (subst Q (sym grouped) p))

not-over : (job : Job) (ls : List Line) → is_publishable job ls ≡ true → is_over ls ≡ false
not-over job ls e = by (has_won_all job ls) (is_over ls) (not job.hold || is_released ls) e
  where
    by : (w o r : Bool) → (w && (not o && r)) ≡ true → o ≡ false
    by true true r e = absurd (cc)
    by true false r e = refl
    by false o r e = absurd (cc)

pub published-never-over : (job : Job) (ls more : List Line) → are_lawful job [] ls ≡ true → are_lawful job ls more ≡ true → is_published ls ≡ true → is_over (ls ++ more) ≡ false
published-never-over job ls more e f p =
    not-over job (ls ++ more) (publishable job ls more (published-may job [] ls (λ q. absurd (cc)) e p) f)

-- ---- what lines allow, they allow for good

pub allowed-stays : (job : Job) (ls more : List Line) (x : Call) → are_lawful job ls more ≡ true → IsAllowed job ls x → IsAllowed job (ls ++ more) x
allowed-stays job ls more (call.Link from to) e h = publishable job ls more h e
allowed-stays job ls more (call.MakeFolder p) e h = publishable job ls more h e
allowed-stays job ls more call.LinkMarker e h = publishable job ls more h e
allowed-stays job ls more (call.MakeWork a) e h = any-stays (is_start_of a) ls more h
allowed-stays job ls more (call.Empty a) e h = lost-stays job ls more a h e
allowed-stays job ls more call.EmptyAll e h = any-stays is_publication ls more h
allowed-stays job ls more call.Forget e h = any-stays is_publication ls more h
allowed-stays job ls more _ e h = tt
