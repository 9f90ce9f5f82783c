-- What is asked of a task, by the lines about it.
use Rattle.std.proofs.Common.{◌≡◌, ◌<◌, ◌+◌, ℕ, Bool, true, false, cond, nat_lt, count_by, filter, take, length, get_or, List, [], ◌∷◌, ◌++◌, Option, Some, None, is_some, refl, sym, ap, ◌∙◌}
use Rattle.std.specs.List.{list_any, filter_map, cons_option}
use Rattle.std.proofs.lemmas.List.{take_more}
use Rattle.std.proofs.lemmas.List.Elements.{filter_map-append}
use Rattle.std.proofs.lemmas.Bool.{ltb-true}
use Rattle.mr_ids.specs.Attempt.{Attempt}
use Rattle.mr_ids.specs.Same.{same_task}
use Rattle.mr_ids.specs.declared.id.TaskId.{TaskId}
use Rattle.mr_ids.proofs.Same.{task-is}
use Rattle.mr_log_entries.specs.declared.entry.Entry.{Entry}
use Rattle.mr_log_entries.specs.declared.line.Line.{Line}
use Rattle.mr_log_entries.specs.Recorded.{lines_of}
use Rattle.mr_log_standing.specs.declared.job.Job.{Job}
use Rattle.mr_log_standing.specs.declared.notes.Note.{Note}
use Rattle.mr_log_standing.specs.declared.standing.Win.{Win}
use Rattle.mr_log_standing.specs.Standing.{task_of, is_of_job, is_start_of, gives_up, winner_of, has_winner, win_of, begun_in, failures, standing, is_under_way, under_way}
use Rattle.mr_log_standing.specs.inner.Notes.{notes_at, notes_start, notes_giving_up, notes_start_at, notes_failure_at, start_in, win_in, boot_in, first_in, starts_of, under_way_in}
use Rattle.mr_log_standing.proofs.Lost.{both}
use Rattle.mr_log_standing.proofs.Winning.{attempt_of, win-attempt}
use Rattle.mr_log_standing.proofs.Noted.{wins, begun, started, given, starts, failed, starters}

-- the number of an attempt of the job is that of a task
pub below : (job : Job) (a : Attempt) → is_of_job job a ≡ true → a.task.number < job.tasks
below job a e = ltb-true a.task.number job.tasks (both (same_task a.task (task_of job.id a.task.number)) (nat_lt a.task.number job.tasks) e).second

pub its_task : (job : Job) (a : Attempt) → is_of_job job a ≡ true → a.task ≡ task_of job.id a.task.number
its_task job a e = task-is a.task (task_of job.id a.task.number) (both (same_task a.task (task_of job.id a.task.number)) (nat_lt a.task.number job.tasks) e).first

pub won : (es : List Entry) (t : TaskId) (w : Win) → win_of es t ≡ Some w → winner_of (lines_of es) t ≡ Some w.attempt
won es t w e = sym (win-attempt es t) ∙ ap attempt_of e

pub unwon : (es : List Entry) (t : TaskId) → win_of es t ≡ None → winner_of (lines_of es) t ≡ None
unwon es t e = sym (win-attempt es t) ∙ ap attempt_of e

-- ---- the answers, from what was kept

pub win_is : (job : Job) (es : List Entry) (k : ℕ) (t : TaskId) (ns : List Note) → t ≡ task_of job.id k → ns ≡ notes_at job.id es k → first_in Win (win_in t) ns ≡ win_of es (task_of job.id k)
win_is job es k t ns is kept = (λ i. first_in Win (win_in (is i)) (kept i)) ∙ wins job.id es k

pub failures_are : (job : Job) (es : List Entry) (k : ℕ) (t : TaskId) (ns : List Note) → t ≡ task_of job.id k → ns ≡ notes_at job.id es k → count_by (notes_failure_at t) ns ≡ failures (lines_of es) (task_of job.id k)
failures_are job es k t ns is kept = (λ i. count_by (notes_failure_at (is i)) (kept i)) ∙ failed job.id es k

pub starts_are : (job : Job) (es : List Entry) (k : ℕ) (t : TaskId) (ns : List Note) → t ≡ task_of job.id k → ns ≡ notes_at job.id es k → count_by (notes_start_at t) ns ≡ starts_of (lines_of es) (task_of job.id k)
starts_are job es k t ns is kept = (λ i. count_by (notes_start_at (is i)) (kept i)) ∙ starts job.id es k

at-own : (job : Job) (a : Attempt) (t : TaskId) (k : ℕ) → is_of_job job a ≡ true → t ≡ a.task → k ≡ t.number → a.task ≡ task_of job.id k
at-own job a t k e is number = its_task job a e ∙ ap (λ j. task_of job.id j) (sym (number ∙ ap (λ (u : TaskId). u.number) is))

pub given_is : (job : Job) (es : List Entry) (a : Attempt) (t : TaskId) (k : ℕ) (ns : List Note) → is_of_job job a ≡ true → t ≡ a.task → k ≡ t.number → ns ≡ notes_at job.id es k → list_any (notes_giving_up a) ns ≡ list_any (gives_up a) (lines_of es)
given_is job es a t k ns e is number kept = ap (λ xs. list_any (notes_giving_up a) xs) kept ∙ given job.id es k a (at-own job a t k e is number)

pub started_is : (job : Job) (es : List Entry) (a : Attempt) (t : TaskId) (k : ℕ) (ns : List Note) → is_of_job job a ≡ true → t ≡ a.task → k ≡ t.number → ns ≡ notes_at job.id es k → list_any (notes_start a) ns ≡ list_any (is_start_of a) (lines_of es)
started_is job es a t k ns e is number kept = ap (λ xs. list_any (notes_start a) xs) kept ∙ started job.id es k a (at-own job a t k e is number)

pub begun_is : (job : Job) (es : List Entry) (a : Attempt) (t : TaskId) (k : ℕ) (ns : List Note) → is_of_job job a ≡ true → t ≡ a.task → k ≡ t.number → ns ≡ notes_at job.id es k → first_in ℕ (boot_in a) ns ≡ begun_in es a
begun_is job es a t k ns e is number kept = ap (λ xs. first_in ℕ (boot_in a) xs) kept ∙ begun job.id es k a (at-own job a t k e is number)

-- ---- those who are under way

abbrev pub picked : Job → List Line → TaskId → Note → Option Attempt
picked job ls t n = under_way_in job ls (start_in t n)

picks : (job : Job) (ls : List Line) (t : TaskId) (ns : List Note) → filter_map (picked job ls t) ns ≡ filter (λ a. is_under_way (standing job ls a)) (filter_map (start_in t) ns)
picks job ls t [] = refl
picks job ls t (n ∷ ns) = by (start_in t n) (picks job ls t ns)
  where
    keep : (a : Attempt) (m : Bool) → filter_map (picked job ls t) ns ≡ filter (λ b. is_under_way (standing job ls b)) (filter_map (start_in t) ns) →
        cons_option (cond m (Some a) None) (filter_map (picked job ls t) ns) ≡ cond m (a ∷ filter (λ b. is_under_way (standing job ls b)) (filter_map (start_in t) ns)) (filter (λ b. is_under_way (standing job ls b)) (filter_map (start_in t) ns))
    keep a true e = ap (λ xs. a ∷ xs) e
    keep a false e = e

    by : (o : Option Attempt) → filter_map (picked job ls t) ns ≡ filter (λ a. is_under_way (standing job ls a)) (filter_map (start_in t) ns) →
        cons_option (under_way_in job ls o) (filter_map (picked job ls t) ns) ≡ filter (λ a. is_under_way (standing job ls a)) (cons_option o (filter_map (start_in t) ns))
    by None e = e
    by (Some a) e = keep a (is_under_way (standing job ls a)) e

pub under_way_are : (job : Job) (es : List Entry) (k : ℕ) (t : TaskId) (ns : List Note) → t ≡ task_of job.id k → ns ≡ notes_at job.id es k → filter_map (picked job (lines_of es) t) ns ≡ under_way job (lines_of es) (task_of job.id k)
under_way_are job es k t ns is kept =
    (λ i. filter_map (picked job (lines_of es) (is i)) (kept i))
    ∙ picks job (lines_of es) (task_of job.id k) (notes_at job.id es k)
    ∙ ap (λ xs. filter (λ a. is_under_way (standing job (lines_of es) a)) xs) (starters job.id es k)

pub picked_more : (f : Note → Option Attempt) (ns : List Note) (i : ℕ) (n : Note) → i < length ns → n ≡ get_or ns i n → filter_map f (take (i + 1) ns) ≡ filter_map f (take i ns) ++ cons_option (f n) []
picked_more f ns i n within is = ap (λ xs. filter_map f xs) (take_more ns i n within ∙ ap (λ y. take i ns ++ y ∷ []) (sym is)) ∙ filter_map-append f (take i ns) (n ∷ [])

pub same_has : (es : List Entry) (t : TaskId) → is_some (win_of es t) ≡ has_winner (lines_of es) t
same_has es t = by (win_of es t) ∙ ap (λ (o : Option Attempt). is_some o) (win-attempt es t)
  where
    by : (o : Option Win) → is_some o ≡ is_some (attempt_of o)
    by None = refl
    by (Some w) = refl
