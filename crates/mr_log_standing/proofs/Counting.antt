-- What is said of all tasks, one task after another.
use Rattle.std.proofs.Common.{◌≡◌, ◌<◌, ◌+◌, ℕ, Bool, true, false, not, ◌||◌, cond, List, [], ◌∷◌, ◌++◌, Option, Some, None, is_some, refl, sym, ap, ◌∙◌, add-one, append-nil}
use Rattle.std.specs.List.{list_any, filter_map, cons_option}
use Rattle.mr_ids.specs.Attempt.{Attempt}
use Rattle.mr_ids.specs.declared.id.TaskId.{TaskId}
use Rattle.mr_log_entries.specs.declared.entry.Entry.{Entry}
use Rattle.mr_log_entries.specs.declared.line.Line.{Line}
use Rattle.mr_log_entries.specs.Recorded.{lines_of}
use Rattle.mr_log_standing.specs.declared.job.Job.{Job}
use Rattle.mr_log_standing.specs.declared.notes.Note.{Note}
use Rattle.mr_log_standing.specs.Standing.{task_of, has_winner, those_below, is_left, left, is_none_of, has_won_all, is_nobody, is_run, run}
use Rattle.mr_log_standing.specs.inner.Notes.{notes_at, is_picked}
use Rattle.mr_log_standing.proofs.Below.{none-passes}
use Rattle.mr_log_standing.proofs.Asked.{picked, under_way_are}

pub one_more : (p : ℕ → Bool) (n : ℕ) → those_below p (n + 1) ≡ those_below p n ++ cond (p n) (n ∷ []) []
unfolding those_below
one_more p n = ap (λ m. those_below p m) (add-one n)

pub none_below : (p : ℕ → Bool) → those_below p 0 ≡ []
unfolding those_below
none_below p = refl

pub passed_more : (p : ℕ → Bool) (n : ℕ) → p n ≡ true → those_below p (n + 1) ≡ those_below p n ++ n ∷ []
passed_more p n e = one_more p n ∙ ap (λ m. those_below p n ++ cond m (n ∷ []) []) e

pub failed_more : (p : ℕ → Bool) (n : ℕ) → p n ≡ false → those_below p (n + 1) ≡ those_below p n
failed_more p n e = one_more p n ∙ ap (λ m. those_below p n ++ cond m (n ∷ []) []) e ∙ append-nil (those_below p n)

-- ---- who is under way

pub any-picked : (f : Note → Option Attempt) (ns : List Note) → list_any (λ n. is_some (f n)) ns ≡ not (is_nobody (filter_map f ns))
any-picked f [] = refl
any-picked f (n ∷ ns) = by (f n) (any-picked f ns)
  where
    by : (o : Option Attempt) → list_any (λ m. is_some (f m)) ns ≡ not (is_nobody (filter_map f ns)) → (is_some o || list_any (λ m. is_some (f m)) ns) ≡ not (is_nobody (cons_option o (filter_map f ns)))
    by None e = e
    by (Some a) e = refl

pub run_is : (job : Job) (es : List Entry) (k : ℕ) (t : TaskId) (ns : List Note) → t ≡ task_of job.id k → ns ≡ notes_at job.id es k → list_any (is_picked job (lines_of es) t) ns ≡ is_run job (lines_of es) k
run_is job es k t ns is kept = any-picked (picked job (lines_of es) t) ns ∙ ap (λ xs. not (is_nobody xs)) (under_way_are job es k t ns is kept)

-- ---- whether all have won

pub won_more : (job : Job) (ls : List Line) (n : ℕ) → is_none_of ℕ (those_below (is_left job ls) n) ≡ true → has_winner ls (task_of job.id n) ≡ true → is_none_of ℕ (those_below (is_left job ls) (n + 1)) ≡ true
won_more job ls n e w = ap (λ xs. is_none_of ℕ xs) (failed_more (is_left job ls) n (ap not w)) ∙ e

pub one_lacks : (job : Job) (ls : List Line) (n : ℕ) → n < job.tasks → has_winner ls (task_of job.id n) ≡ false → has_won_all job ls ≡ false
unfolding left
one_lacks job ls n l lacks = by (is_none_of ℕ (those_below (is_left job ls) job.tasks)) refl
  where
    by : (m : Bool) → is_none_of ℕ (those_below (is_left job ls) job.tasks) ≡ m → is_none_of ℕ (those_below (is_left job ls) job.tasks) ≡ false
    by false e = e
    by true e = absurd (let no : true ≡ false = sym (ap not lacks) ∙ none-passes (is_left job ls) job.tasks e n l in cc)

pub left-at : (job : Job) (ls : List Line) (n : ℕ) → n ≡ job.tasks → those_below (is_left job ls) n ≡ left job ls
unfolding left
left-at job ls n e = ap (λ k. those_below (is_left job ls) k) e

pub run-at : (job : Job) (ls : List Line) (n : ℕ) → n ≡ job.tasks → those_below (is_run job ls) n ≡ run job ls
unfolding run
run-at job ls n e = ap (λ k. those_below (is_run job ls) k) e

pub all-won-at : (job : Job) (ls : List Line) (n : ℕ) → n ≡ job.tasks → is_none_of ℕ (those_below (is_left job ls) n) ≡ true → has_won_all job ls ≡ true
all-won-at job ls n e won = ap (λ xs. is_none_of ℕ xs) (sym (left-at job ls n e)) ∙ won
