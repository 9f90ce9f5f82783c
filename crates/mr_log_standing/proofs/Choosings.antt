-- Attempts that fail, and who is under way.
use Rattle.std.proofs.Common.{◌≡◌, ◌⊎◌, inl, inr, ◌<◌, ◌≤◌, ◌+◌, ◌-◌, ℕ, zero, suc, Bool, true, false, not, ◌||◌, cond, nat_lt, leb, ltb, count_by, filter, take, length, get_or, List, [], ◌∷◌, ◌++◌, Option, Some, None, is_some, refl, sym, ap, subst, ◌∙◌, arith}
use Rattle.std.specs.List.{list_any, filter_map, cons_option, AllByRecursion}
use Rattle.std.proofs.lemmas.List.{take_more, take_all}
use Rattle.std.proofs.lemmas.List.Folds.{list_any-append}
use Rattle.std.proofs.lemmas.List.Sums.{sum_by-append, sum_by-cons}
use Rattle.std.proofs.lemmas.Bool.{lt-ltb, le-ltb, lt-leb, le-leb, cases_lt}
use Rattle.mr_ids.specs.Attempt.{Attempt}
use Rattle.mr_ids.specs.declared.id.TaskId.{TaskId}
use Rattle.mr_log_entries.specs.declared.line.Line.{Line}
use Rattle.mr_log_entries.specs.declared.entry.Entry.{Entry}
use Rattle.mr_log_entries.specs.Recorded.{lines_of}
use Rattle.mr_log_standing.specs.declared.job.Job.{Job}
use Rattle.mr_log_standing.specs.declared.notes.Note.{Note}
use Rattle.mr_log_standing.specs.Host.{Host}
use Rattle.mr_log_standing.specs.Standing.{task_of, is_of_job, is_failure_at, failures, those_below, standing, is_under_way, started_at, under_way, is_nobody, is_cut_off}
use Rattle.mr_log_standing.specs.Deciding.{is_none, alive, is_idle, idle, begins_first}
use Rattle.mr_log_standing.specs.inner.Notes.{notes_at, start_in, under_way_in}
use Rattle.mr_log_standing.specs.inner.Choosing.{IsMine, alike, kept_if, chosen, choice, is_choice, apart, first_of, begins_by}
use Rattle.mr_log_standing.proofs.Lost.{under-way}
use Rattle.mr_log_standing.proofs.Once.{one_if}
use Rattle.mr_log_standing.proofs.Asked.{its_task, picked, under_way_are}
use Rattle.mr_log_standing.proofs.Following.{all-filter, all-passing}
use Rattle.mr_log_standing.proofs.Counting.{any-picked, one_more, passed_more}

pub open_of_job : (job : Job) (ls : List Line) (a : Attempt) → is_under_way (standing job ls a) ≡ true → is_of_job job a ≡ true
open_of_job job ls a e = (under-way job ls a e).of_job

pub alone : (job : Job) (a : Attempt) → is_of_job job a ≡ true → AllByRecursion (IsMine job) (a ∷ [])
alone job a e = (e, tt)

pub failures-both : (ls more : List Line) (t : TaskId) → failures (ls ++ more) t ≡ failures ls t + failures more t
failures-both ls more t = sum_by-append (λ l. one_if (is_failure_at t l)) ls more

at-index : (P : Attempt → Type 0) (xs : List Attempt) (i : ℕ) (x d : Attempt) → AllByRecursion P xs → i < length xs → x ≡ get_or xs i d → P x
at-index P [] i x d h l e = absurd (let no : i < 0 = l in omega arith)
at-index P (y ∷ xs) zero x d h l e = subst P (sym e) h.0
at-index P (y ∷ xs) (suc i) x d h l e = at-index P xs i x d h.1 (let less : i < length xs = omega arith in less) e

pub mine-at : (job : Job) (xs : List Attempt) (i : ℕ) (x : Attempt) → AllByRecursion (IsMine job) xs → i < length xs → x ≡ get_or xs i x → is_of_job job x ≡ true
mine-at job xs i x h l e = at-index (IsMine job) xs i x x h l e

-- ---- whether one of them fails once too often

abbrev pub is_out : ℕ → List Line → Attempt → Bool
is_out limit ls a = not (nat_lt (failures ls a.task) limit)

pub out-next : (limit : ℕ) (ls : List Line) (xs : List Attempt) (i : ℕ) (x : Attempt) → i < length xs → x ≡ get_or xs i x → list_any (is_out limit ls) (take i xs) ≡ false → is_out limit ls x ≡ false → list_any (is_out limit ls) (take (i + 1) xs) ≡ false
out-next limit ls xs i x within is e f =
    ap (λ ys. list_any (is_out limit ls) ys) (take_more xs i x within ∙ ap (λ y. take i xs ++ y ∷ []) (sym is))
    ∙ list_any-append (is_out limit ls) (take i xs) (x ∷ [])
    ∙ both (list_any (is_out limit ls) (take i xs)) (is_out limit ls x) e f
  where
    both : (m n : Bool) → m ≡ false → n ≡ false → (m || (n || false)) ≡ false
    both false false e f = refl
    both false true e f = absurd (cc)
    both true n e f = absurd (cc)

pub out-here : (limit : ℕ) (ls : List Line) (xs : List Attempt) (i : ℕ) (x : Attempt) → i < length xs → x ≡ get_or xs i x → is_out limit ls x ≡ true → list_any (is_out limit ls) xs ≡ true
out-here limit ls xs i x within is e = at xs i within (is)
  where
    at : (ys : List Attempt) (j : ℕ) → j < length ys → x ≡ get_or ys j x → list_any (is_out limit ls) ys ≡ true
    at [] j l is = absurd (let no : j < 0 = l in omega arith)
    at (y ∷ ys) zero l is = ap (λ m. m || list_any (is_out limit ls) ys) (ap (λ z. is_out limit ls z) (sym is) ∙ e)
    at (y ∷ ys) (suc j) l is = or-right (is_out limit ls y) (list_any (is_out limit ls) ys) (at ys j (let less : j < length ys = omega arith in less) is)
      where
        or-right : (m n : Bool) → n ≡ true → (m || n) ≡ true
        or-right true n e = refl
        or-right false n e = e

-- a number that is short of a limit by no more than another reaches it with that
pub reached : (before more limit : ℕ) → leb (limit - before) more ≡ not (ltb (before + more) limit)
reached before more limit = by (cases_lt (before + more) limit)
  where
    by : (before + more < limit) ⊎ (limit ≤ before + more) → leb (limit - before) more ≡ not (ltb (before + more) limit)
    by (inl low) = lt-leb (limit - before) more (let short : more < limit - before = omega arith in short) ∙ sym (ap not (lt-ltb (before + more) limit low))
    by (inr high) = le-leb (limit - before) more (let near : limit - before ≤ more = omega arith in near) ∙ sym (ap not (le-ltb (before + more) limit high))

pub own-task : (job : Job) (a : Attempt) (t : TaskId) → is_of_job job a ≡ true → t ≡ a.task → task_of job.id t.number ≡ a.task
own-task job a t e is = ap (λ (u : TaskId). task_of job.id u.number) is ∙ sym (its_task job a e)

-- ---- who is under way, and was cut off or not

chosen-of : (cut : Bool) (job : Job) (host : Host) (es : List Entry) (t : TaskId) (ns : List Note) → filter_map (choice cut job host es t) ns ≡ filter (λ a. alike cut (is_cut_off host es a)) (filter_map (picked job (lines_of es) t) ns)
chosen-of cut job host es t [] = refl
chosen-of cut job host es t (n ∷ ns) = by (start_in t n) (chosen-of cut job host es t ns)
  where
    keep : (a : Attempt) (u k : Bool) → filter_map (choice cut job host es t) ns ≡ filter (λ b. alike cut (is_cut_off host es b)) (filter_map (picked job (lines_of es) t) ns) → alike cut (is_cut_off host es a) ≡ k →
        cons_option (cond u (kept_if cut host es a) None) (filter_map (choice cut job host es t) ns) ≡ filter (λ b. alike cut (is_cut_off host es b)) (cons_option (cond u (Some a) None) (filter_map (picked job (lines_of es) t) ns))
    keep a false k e is = e
    keep a true true e is =
        ap (λ m. cons_option (cond m (Some a) None) (filter_map (choice cut job host es t) ns)) is ∙ ap (λ xs. a ∷ xs) e
        ∙ sym (ap (λ m. cond m (a ∷ filter (λ b. alike cut (is_cut_off host es b)) (filter_map (picked job (lines_of es) t) ns)) (filter (λ b. alike cut (is_cut_off host es b)) (filter_map (picked job (lines_of es) t) ns))) is)
    keep a true false e is =
        ap (λ m. cons_option (cond m (Some a) None) (filter_map (choice cut job host es t) ns)) is ∙ e
        ∙ sym (ap (λ m. cond m (a ∷ filter (λ b. alike cut (is_cut_off host es b)) (filter_map (picked job (lines_of es) t) ns)) (filter (λ b. alike cut (is_cut_off host es b)) (filter_map (picked job (lines_of es) t) ns))) is)

    by : (o : Option Attempt) → filter_map (choice cut job host es t) ns ≡ filter (λ b. alike cut (is_cut_off host es b)) (filter_map (picked job (lines_of es) t) ns) →
        cons_option (chosen cut job host es o) (filter_map (choice cut job host es t) ns) ≡ filter (λ b. alike cut (is_cut_off host es b)) (cons_option (under_way_in job (lines_of es) o) (filter_map (picked job (lines_of es) t) ns))
    by None e = e
    by (Some a) e = keep a (is_under_way (standing job (lines_of es) a)) (alike cut (is_cut_off host es a)) e refl

apart-by : (cut : Bool) (job : Job) (host : Host) (es : List Entry) (k : ℕ) → filter (λ a. alike cut (is_cut_off host es a)) (under_way job (lines_of es) (task_of job.id k)) ≡ apart cut job host es k
apart-by true job host es k = refl
apart-by false job host es k = refl

pub apart-is : (cut : Bool) (job : Job) (host : Host) (es : List Entry) (k : ℕ) (t : TaskId) (ns : List Note) → t ≡ task_of job.id k → ns ≡ notes_at job.id es k → filter_map (choice cut job host es t) ns ≡ apart cut job host es k
apart-is cut job host es k t ns is kept =
    chosen-of cut job host es t ns
    ∙ ap (λ xs. filter (λ a. alike cut (is_cut_off host es a)) xs) (under_way_are job es k t ns is kept)
    ∙ apart-by cut job host es k

pub apart-mine : (cut : Bool) (job : Job) (host : Host) (es : List Entry) (k : ℕ) → AllByRecursion (IsMine job) (apart cut job host es k)
apart-mine cut job host es k =
    subst (λ xs. AllByRecursion (IsMine job) xs) (apart-by cut job host es k)
    (all-filter (IsMine job) (λ a. alike cut (is_cut_off host es a)) (under_way job (lines_of es) (task_of job.id k))
    (all-passing (IsMine job) (λ a. is_under_way (standing job (lines_of es) a)) (λ a e. open_of_job job (lines_of es) a e) (started_at (lines_of es) (task_of job.id k))))

count-some : (f : Note → Option Attempt) (ns : List Note) → count_by (λ n. is_some (f n)) ns ≡ length (filter_map f ns)
count-some f [] = refl
count-some f (n ∷ ns) = sum_by-cons (λ m. one_if (is_some (f m))) n ns ∙ by (f n) (count-some f ns)
  where
    by : (o : Option Attempt) → count_by (λ m. is_some (f m)) ns ≡ length (filter_map f ns) → one_if (is_some o) + count_by (λ m. is_some (f m)) ns ≡ length (cons_option o (filter_map f ns))
    by None e = (let none : 0 + count_by (λ m. is_some (f m)) ns ≡ count_by (λ m. is_some (f m)) ns = omega arith in none) ∙ e
    by (Some a) e = ap (λ k. 1 + k) e ∙ (let one : 1 + length (filter_map f ns) ≡ suc (length (filter_map f ns)) = omega arith in one)

pub alive-count : (job : Job) (host : Host) (es : List Entry) (k : ℕ) (t : TaskId) (ns : List Note) → t ≡ task_of job.id k → ns ≡ notes_at job.id es k → count_by (is_choice job host es t) ns ≡ length (alive job host es k)
alive-count job host es k t ns is kept = count-some (choice false job host es t) ns ∙ ap (λ (xs : List Attempt). length xs) (apart-is false job host es k t ns is kept)

none-nobody : (xs : List Attempt) → is_nobody xs ≡ is_none xs
none-nobody [] = refl
none-nobody (x ∷ xs) = refl

pub alive-any : (job : Job) (host : Host) (es : List Entry) (k : ℕ) (t : TaskId) (ns : List Note) → t ≡ task_of job.id k → ns ≡ notes_at job.id es k → list_any (is_choice job host es t) ns ≡ not (is_none (alive job host es k))
alive-any job host es k t ns is kept =
    any-picked (choice false job host es t) ns ∙ ap (λ (xs : List Attempt). not (is_nobody xs)) (apart-is false job host es k t ns is kept) ∙ ap not (none-nobody (alive job host es k))

-- ---- the first that passes

first-append : (xs ys : List ℕ) (n : ℕ) → first_of xs ≡ Some n → first_of (xs ++ ys) ≡ Some n
first-append [] ys n e = absurd (cc)
first-append (x ∷ xs) ys n e = e

first-stays : (p : ℕ → Bool) (n m : ℕ) → first_of (those_below p n) ≡ Some m → (k : ℕ) → first_of (those_below p (n + k)) ≡ Some m
first-stays p n m e zero = ap (λ j. first_of (those_below p j)) (let same : n + 0 ≡ n = omega arith in same) ∙ e
first-stays p n m e (suc k) =
    ap (λ j. first_of (those_below p j)) (let same : n + suc k ≡ (n + k) + 1 = omega arith in same)
    ∙ ap (λ (xs : List ℕ). first_of xs) (one_more p (n + k))
    ∙ first-append (those_below p (n + k)) (cond (p (n + k)) ((n + k) ∷ []) []) m (first-stays p n m e k)

pub idle-found : (job : Job) (host : Host) (es : List Entry) (n : ℕ) → n < job.tasks → those_below (is_idle job host es) n ≡ [] → is_idle job host es n ≡ true → first_of (idle job host es) ≡ Some n
unfolding idle
idle-found job host es n l none e =
    let here : first_of (those_below (is_idle job host es) (n + 1)) ≡ Some n = ap (λ (xs : List ℕ). first_of xs) (passed_more (is_idle job host es) n e ∙ ap (λ xs. xs ++ n ∷ []) none) in
    ap (λ j. first_of (those_below (is_idle job host es) j)) (let same : job.tasks ≡ (n + 1) + (job.tasks - (n + 1)) = omega arith in same)
    ∙ first-stays (is_idle job host es) (n + 1) n here (job.tasks - (n + 1))

pub idle-none : (job : Job) (host : Host) (es : List Entry) (n : ℕ) → n ≡ job.tasks → those_below (is_idle job host es) n ≡ [] → idle job host es ≡ []
unfolding idle
idle-none job host es n is none = ap (λ j. those_below (is_idle job host es) j) (sym is) ∙ none

pub by-first : (job : Job) (host : Host) (es : List Entry) (o : Option ℕ) (ns : List ℕ) → o ≡ first_of ns → begins_by job host es o ≡ begins_first job host es ns
by-first job host es o [] e = ap (λ p. begins_by job host es p) e
by-first job host es o (n ∷ ns) e = ap (λ p. begins_by job host es p) e
