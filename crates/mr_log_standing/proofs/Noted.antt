-- The lines about a task answer all that is asked of the task.
use Rattle.std.proofs.Common.{◌≡◌, ◌<◌, ◌≤◌, ◌+◌, ℕ, Bool, true, false, ◌||◌, cond, count_by, filter, map, length, get_or, drop, List, [], ◌∷◌, ◌++◌, Option, Some, None, is_some, refl, sym, ap, ◌∙◌, arith, drop-cons, add-one}
use Rattle.std.specs.List.{list_any, filter_map, cons_option}
use Rattle.std.proofs.lemmas.List.{drop_all}
use Rattle.std.proofs.lemmas.List.Folds.{list_any-append}
use Rattle.std.proofs.lemmas.List.Sums.{sum_by-append, sum_by-cons}
use Rattle.std.proofs.lemmas.List.Elements.{filter_map-append}
use Rattle.mr_ids.specs.Attempt.{Attempt}
use Rattle.mr_ids.specs.Same.{same_task, same_attempt}
use Rattle.mr_ids.specs.declared.id.JobId.{JobId}
use Rattle.mr_ids.specs.declared.id.TaskId.{TaskId}
use Rattle.mr_ids.proofs.Same.{same_attempt-is, task-itself}
use Rattle.mr_log_entries.specs.declared.line.Line.{Line}
use Rattle.mr_log_entries.specs.declared.line.Line.TheVariants.{Started, Won, Failed, Interrupted, Unsuccessful, Publish, Published}
use Rattle.mr_log_entries.specs.declared.entry.Origin.{Origin}
use Rattle.mr_log_entries.specs.declared.entry.Entry.{Entry}
use Rattle.mr_log_entries.specs.Recorded.{lines_of}
use Rattle.mr_log_standing.specs.declared.notes.Note.{Note}
use Rattle.mr_log_standing.specs.declared.standing.Win.{Win}
use Rattle.mr_log_standing.specs.Standing.{task_of, is_start_of, gives_up, start_at, is_start_at, is_failure_at, win_by, win_among, win_of, first_or, begun_in}
use Rattle.mr_log_standing.specs.inner.Notes.{note, notes_of, task_in, is_at, is_about, notes_at, notes_start, notes_giving_up, notes_start_at, notes_failure_at, start_in, win_in, boot_in, first_in}
use Rattle.mr_log_standing.proofs.Once.{one_if}

-- ---- a loop that ends with the first answer

pub found : (A : Type 0) (f : Note → Option A) (n : Note) (ns : List Note) (x : A) → f n ≡ Some x → first_in A f (n ∷ ns) ≡ Some x
unfolding first_in
found A f n ns x e = ap (λ o. first_or A o (first_in A f ns)) e

pub passed : (A : Type 0) (f : Note → Option A) (n : Note) (ns : List Note) → f n ≡ None → first_in A f (n ∷ ns) ≡ first_in A f ns
unfolding first_in
passed A f n ns e = ap (λ o. first_or A o (first_in A f ns)) e

pub nobody : (A : Type 0) (f : Note → Option A) → first_in A f [] ≡ None
unfolding first_in
nobody A f = refl

pub left-is : (ns : List Note) (i : ℕ) (n : Note) → i < length ns → n ≡ get_or ns i n → drop i ns ≡ n ∷ drop (i + 1) ns
left-is ns i n within is = drop-cons ns i n within ∙ (λ j. sym is j ∷ drop (sym (add-one i) j) ns)

pub stops : (A : Type 0) (f : Note → Option A) (ns : List Note) (i : ℕ) (n : Note) (x : A) → i < length ns → n ≡ get_or ns i n → f n ≡ Some x → first_in A f (drop i ns) ≡ Some x
stops A f ns i n x within is e = ap (λ qs. first_in A f qs) (left-is ns i n within is) ∙ found A f n (drop (i + 1) ns) x e

pub passes : (A : Type 0) (f : Note → Option A) (ns : List Note) (i : ℕ) (n : Note) → i < length ns → n ≡ get_or ns i n → f n ≡ None → first_in A f (drop i ns) ≡ first_in A f (drop (i + 1) ns)
passes A f ns i n within is e = ap (λ qs. first_in A f qs) (left-is ns i n within is) ∙ passed A f n (drop (i + 1) ns) e

pub at-end : (A : Type 0) (f : Note → Option A) (ns : List Note) (i : ℕ) → length ns ≤ i → first_in A f (drop i ns) ≡ None
at-end A f ns i l = ap (λ qs. first_in A f qs) (drop_all i ns l) ∙ nobody A f

-- ---- what a filter leaves out does not matter to those who pass over it

any-narrow : (p q : Note → Bool) → ((n : Note) → q n ≡ false → p n ≡ false) → (ns : List Note) → list_any p (filter q ns) ≡ list_any p ns
any-narrow p q h [] = refl
any-narrow p q h (n ∷ ns) = by (q n) refl (any-narrow p q h ns)
  where
    by : (m : Bool) → q n ≡ m → list_any p (filter q ns) ≡ list_any p ns → list_any p (cond m (n ∷ filter q ns) (filter q ns)) ≡ (p n || list_any p ns)
    by true is e = ap (λ b. p n || b) e
    by false is e = e ∙ ap (λ b. b || list_any p ns) (sym (h n is))

count-narrow : (p q : Note → Bool) → ((n : Note) → q n ≡ false → p n ≡ false) → (ns : List Note) → count_by p (filter q ns) ≡ count_by p ns
count-narrow p q h [] = refl
count-narrow p q h (n ∷ ns) = by (q n) refl (count-narrow p q h ns)
  where
    by : (m : Bool) → q n ≡ m → count_by p (filter q ns) ≡ count_by p ns → count_by p (cond m (n ∷ filter q ns) (filter q ns)) ≡ count_by p (n ∷ ns)
    by true is e = sum_by-cons (λ x. one_if (p x)) n (filter q ns) ∙ ap (λ k. one_if (p n) + k) e ∙ sym (sum_by-cons (λ x. one_if (p x)) n ns)
    by false is e =
        let none : one_if (p n) ≡ 0 = ap one_if (h n is) in
        let rest : count_by p (filter q ns) ≡ count_by p ns = e in
        (let sum : count_by p (filter q ns) ≡ one_if (p n) + count_by p ns = omega arith in sum) ∙ sym (sum_by-cons (λ x. one_if (p x)) n ns)

some-narrow : (f : Note → Option Attempt) (q : Note → Bool) → ((n : Note) → q n ≡ false → f n ≡ None) → (ns : List Note) → filter_map f (filter q ns) ≡ filter_map f ns
some-narrow f q h [] = refl
some-narrow f q h (n ∷ ns) = by (q n) refl (some-narrow f q h ns)
  where
    by : (m : Bool) → q n ≡ m → filter_map f (filter q ns) ≡ filter_map f ns → filter_map f (cond m (n ∷ filter q ns) (filter q ns)) ≡ filter_map f (n ∷ ns)
    by true is e = ap (λ xs. cons_option (f n) xs) e
    by false is e = e ∙ ap (λ o. cons_option o (filter_map f ns)) (sym (h n is))

first-narrow : (A : Type 0) (f : Note → Option A) (q : Note → Bool) → ((n : Note) → q n ≡ false → f n ≡ None) → (ns : List Note) → first_in A f (filter q ns) ≡ first_in A f ns
unfolding first_in
first-narrow A f q h [] = refl
first-narrow A f q h (n ∷ ns) = by (q n) refl (first-narrow A f q h ns)
  where
    by : (m : Bool) → q n ≡ m → first_in A f (filter q ns) ≡ first_in A f ns → first_in A f (cond m (n ∷ filter q ns) (filter q ns)) ≡ first_or A (f n) (first_in A f ns)
    by true is e = ap (λ o. first_or A (f n) o) e
    by false is e = e ∙ ap (λ o. first_or A o (first_in A f ns)) (sym (h n is))

-- ---- notes, for lines

any-map : (p : Line → Bool) (o : Origin) (ls : List Line) → list_any (λ (n : Note). p n.line) (map (note o) ls) ≡ list_any p ls
any-map p o [] = refl
any-map p o (l ∷ ls) = ap (λ b. p l || b) (any-map p o ls)

any-notes : (p : Line → Bool) (es : List Entry) → list_any (λ (n : Note). p n.line) (notes_of es) ≡ list_any p (lines_of es)
unfolding notes_of lines_of
any-notes p [] = refl
any-notes p (e ∷ es) =
    list_any-append (λ (n : Note). p n.line) (map (note e.origin) e.lines) (notes_of es)
    ∙ (λ i. any-map p e.origin e.lines i || any-notes p es i)
    ∙ sym (list_any-append p e.lines (lines_of es))

count-map : (p : Line → Bool) (o : Origin) (ls : List Line) → count_by (λ (n : Note). p n.line) (map (note o) ls) ≡ count_by p ls
count-map p o [] = refl
count-map p o (l ∷ ls) =
    sum_by-cons (λ (n : Note). one_if (p n.line)) (note o l) (map (note o) ls) ∙ ap (λ k. one_if (p l) + k) (count-map p o ls) ∙ sym (sum_by-cons (λ x. one_if (p x)) l ls)

count-notes : (p : Line → Bool) (es : List Entry) → count_by (λ (n : Note). p n.line) (notes_of es) ≡ count_by p (lines_of es)
unfolding notes_of lines_of
count-notes p [] = refl
count-notes p (e ∷ es) =
    sum_by-append (λ (n : Note). one_if (p n.line)) (map (note e.origin) e.lines) (notes_of es)
    ∙ (λ i. count-map p e.origin e.lines i + count-notes p es i)
    ∙ sym (sum_by-append (λ x. one_if (p x)) e.lines (lines_of es))

some-map : (f : Line → Option Attempt) (o : Origin) (ls : List Line) → filter_map (λ (n : Note). f n.line) (map (note o) ls) ≡ filter_map f ls
some-map f o [] = refl
some-map f o (l ∷ ls) = by (f l) (some-map f o ls)
  where
    by : (x : Option Attempt) → filter_map (λ (n : Note). f n.line) (map (note o) ls) ≡ filter_map f ls → cons_option x (filter_map (λ (n : Note). f n.line) (map (note o) ls)) ≡ cons_option x (filter_map f ls)
    by x e = ap (λ xs. cons_option x xs) e

some-notes : (f : Line → Option Attempt) (es : List Entry) → filter_map (λ (n : Note). f n.line) (notes_of es) ≡ filter_map f (lines_of es)
unfolding notes_of lines_of
some-notes f [] = refl
some-notes f (e ∷ es) =
    filter_map-append (λ (n : Note). f n.line) (map (note e.origin) e.lines) (notes_of es)
    ∙ (λ i. some-map f e.origin e.lines i ++ some-notes f es i)
    ∙ sym (filter_map-append f e.lines (lines_of es))

first-both : (A : Type 0) (f : Note → Option A) (xs ys : List Note) → first_in A f (xs ++ ys) ≡ first_or A (first_in A f xs) (first_in A f ys)
unfolding first_in
first-both A f [] ys = refl
first-both A f (x ∷ xs) ys = by (f x) (first-both A f xs ys)
  where
    by : (o : Option A) → first_in A f (xs ++ ys) ≡ first_or A (first_in A f xs) (first_in A f ys) → first_or A o (first_in A f (xs ++ ys)) ≡ first_or A (first_or A o (first_in A f xs)) (first_in A f ys)
    by (Some a) e = refl
    by None e = e

win-map : (o : Origin) (ls : List Line) (t : TaskId) → first_in Win (win_in t) (map (note o) ls) ≡ win_among o.id ls t
unfolding first_in win_among
win-map o [] t = refl
win-map o (l ∷ ls) t = ap (λ w. first_or Win (win_by o.id t l) w) (win-map o ls t)

pub win-notes : (es : List Entry) (t : TaskId) → first_in Win (win_in t) (notes_of es) ≡ win_of es t
unfolding notes_of win_of
win-notes [] t = nobody Win (win_in t)
win-notes (e ∷ es) t =
    first-both Win (win_in t) (map (note e.origin) e.lines) (notes_of es) ∙ (λ i. first_or Win (win-map e.origin e.lines t i) (win-notes es t i))

begun-map : (o : Origin) (ls : List Line) (a : Attempt) → first_in ℕ (boot_in a) (map (note o) ls) ≡ cond (list_any (is_start_of a) ls) (Some o.boot) None
unfolding first_in
begun-map o [] a = refl
begun-map o (l ∷ ls) a = by (is_start_of a l) (begun-map o ls a)
  where
    by : (m : Bool) → first_in ℕ (boot_in a) (map (note o) ls) ≡ cond (list_any (is_start_of a) ls) (Some o.boot) None →
        first_or ℕ (cond m (Some o.boot) None) (first_in ℕ (boot_in a) (map (note o) ls)) ≡ cond (m || list_any (is_start_of a) ls) (Some o.boot) None
    by true e = refl
    by false e = e

begun-notes : (es : List Entry) (a : Attempt) → first_in ℕ (boot_in a) (notes_of es) ≡ begun_in es a
unfolding notes_of begun_in
begun-notes [] a = nobody ℕ (boot_in a)
begun-notes (e ∷ es) a =
    first-both ℕ (boot_in a) (map (note e.origin) e.lines) (notes_of es)
    ∙ (λ i. first_or ℕ (begun-map e.origin e.lines a i) (begun-notes es a i))
    ∙ by (list_any (is_start_of a) e.lines)
  where
    by : (m : Bool) → first_or ℕ (cond m (Some e.origin.boot) None) (begun_in es a) ≡ cond m (Some e.origin.boot) (begun_in es a)
    by true = refl
    by false = refl

-- ---- a line that is not about the task answers nothing of it

same-no : (a b : Attempt) (t : TaskId) → a.task ≡ t → same_task b.task t ≡ false → same_attempt a b ≡ false
same-no a b t at e = by (same_attempt a b) refl
  where
    by : (m : Bool) → same_attempt a b ≡ m → same_attempt a b ≡ false
    by false is = is
    by true is =
        let same : a ≡ b = same_attempt-is a b is in
        let itself : same_task b.task t ≡ true = ap (λ (u : TaskId). same_task u t) (sym (ap (λ (x : Attempt). x.task) same) ∙ at) ∙ task-itself t in
        absurd (let no : true ≡ false = sym itself ∙ e in cc)

start-no : (a : Attempt) (t : TaskId) → a.task ≡ t → (l : Line) → is_at t (task_in l) ≡ false → is_start_of a l ≡ false
start-no a t at (Started b) e = same-no a b t at e
start-no a t at (Won b handed) e = refl
start-no a t at (Failed b) e = refl
start-no a t at (Interrupted b) e = refl
start-no a t at Unsuccessful e = refl
start-no a t at Publish e = refl
start-no a t at Published e = refl

giving-no : (a : Attempt) (t : TaskId) → a.task ≡ t → (l : Line) → is_at t (task_in l) ≡ false → gives_up a l ≡ false
giving-no a t at (Started b) e = refl
giving-no a t at (Won b handed) e = refl
giving-no a t at (Failed b) e = same-no a b t at e
giving-no a t at (Interrupted b) e = same-no a b t at e
giving-no a t at Unsuccessful e = refl
giving-no a t at Publish e = refl
giving-no a t at Published e = refl

start-at-no : (t : TaskId) (l : Line) → is_at t (task_in l) ≡ false → start_at t l ≡ None
start-at-no t (Started b) e = ap (λ m. cond m (Some b) None) e
start-at-no t (Won b handed) e = refl
start-at-no t (Failed b) e = refl
start-at-no t (Interrupted b) e = refl
start-at-no t Unsuccessful e = refl
start-at-no t Publish e = refl
start-at-no t Published e = refl

failure-no : (t : TaskId) (l : Line) → is_at t (task_in l) ≡ false → is_failure_at t l ≡ false
failure-no t (Started b) e = refl
failure-no t (Won b handed) e = refl
failure-no t (Failed b) e = e
failure-no t (Interrupted b) e = refl
failure-no t Unsuccessful e = refl
failure-no t Publish e = refl
failure-no t Published e = refl

win-no : (id : ℕ) (t : TaskId) (l : Line) → is_at t (task_in l) ≡ false → win_by id t l ≡ None
win-no id t (Started b) e = refl
win-no id t (Won b handed) e = ap (λ m. cond m (Some (record { attempt = b; handed = handed; id = id })) None) e
win-no id t (Failed b) e = refl
win-no id t (Interrupted b) e = refl
win-no id t Unsuccessful e = refl
win-no id t Publish e = refl
win-no id t Published e = refl

-- ---- so the lines about a task answer it

pub wins : (job : JobId) (es : List Entry) (k : ℕ) → first_in Win (win_in (task_of job k)) (notes_at job es k) ≡ win_of es (task_of job k)
unfolding notes_at
wins job es k = first-narrow Win (win_in (task_of job k)) (is_about (task_of job k)) (λ n e. win-no n.origin.id (task_of job k) n.line e) (notes_of es) ∙ win-notes es (task_of job k)

pub begun : (job : JobId) (es : List Entry) (k : ℕ) (a : Attempt) → a.task ≡ task_of job k → first_in ℕ (boot_in a) (notes_at job es k) ≡ begun_in es a
unfolding notes_at
begun job es k a at =
    first-narrow ℕ (boot_in a) (is_about (task_of job k)) (λ n e. ap (λ m. cond m (Some n.origin.boot) None) (start-no a (task_of job k) at n.line e)) (notes_of es) ∙ begun-notes es a

pub started : (job : JobId) (es : List Entry) (k : ℕ) (a : Attempt) → a.task ≡ task_of job k → list_any (notes_start a) (notes_at job es k) ≡ list_any (is_start_of a) (lines_of es)
unfolding notes_at
started job es k a at = any-narrow (notes_start a) (is_about (task_of job k)) (λ n e. start-no a (task_of job k) at n.line e) (notes_of es) ∙ any-notes (is_start_of a) es

pub given : (job : JobId) (es : List Entry) (k : ℕ) (a : Attempt) → a.task ≡ task_of job k → list_any (notes_giving_up a) (notes_at job es k) ≡ list_any (gives_up a) (lines_of es)
unfolding notes_at
given job es k a at = any-narrow (notes_giving_up a) (is_about (task_of job k)) (λ n e. giving-no a (task_of job k) at n.line e) (notes_of es) ∙ any-notes (gives_up a) es

pub starts : (job : JobId) (es : List Entry) (k : ℕ) → count_by (notes_start_at (task_of job k)) (notes_at job es k) ≡ count_by (is_start_at (task_of job k)) (lines_of es)
unfolding notes_at
starts job es k =
    count-narrow (notes_start_at (task_of job k)) (is_about (task_of job k)) (λ n e. ap (λ o. is_some o) (start-at-no (task_of job k) n.line e)) (notes_of es) ∙ count-notes (is_start_at (task_of job k)) es

pub failed : (job : JobId) (es : List Entry) (k : ℕ) → count_by (notes_failure_at (task_of job k)) (notes_at job es k) ≡ count_by (is_failure_at (task_of job k)) (lines_of es)
unfolding notes_at
failed job es k = count-narrow (notes_failure_at (task_of job k)) (is_about (task_of job k)) (λ n e. failure-no (task_of job k) n.line e) (notes_of es) ∙ count-notes (is_failure_at (task_of job k)) es

pub starters : (job : JobId) (es : List Entry) (k : ℕ) → filter_map (start_in (task_of job k)) (notes_at job es k) ≡ filter_map (start_at (task_of job k)) (lines_of es)
unfolding notes_at
starters job es k = some-narrow (start_in (task_of job k)) (is_about (task_of job k)) (λ n e. start-at-no (task_of job k) n.line e) (notes_of es) ∙ some-notes (start_at (task_of job k)) es
