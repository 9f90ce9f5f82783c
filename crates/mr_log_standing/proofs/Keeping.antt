-- What is kept stays that of the log, entry by entry.
use Rattle.std.proofs.Common.{◌≡◌, ◌≢◌, ◌⊎◌, inl, inr, ◌<◌, ◌+◌, ℕ, zero, suc, Bool, true, false, ◌&&◌, ◌||◌, cond, nat_lt, filter, map, length, get_or, set, take, List, [], ◌∷◌, ◌++◌, Option, Some, None, refl, sym, ap, subst, ◌∙◌, append_assoc, append-nil, get_or-set_same, get_or-set_other, length-set}
use Rattle.std.specs.List.{list_any}
use Rattle.std.proofs.lemmas.List.{take_more, map-append}
use Rattle.std.proofs.lemmas.List.Folds.{list_any-append}
use Rattle.std.proofs.lemmas.List.Elements.{filter-append}
use Rattle.std.proofs.lemmas.Bool.{ltb-true, lt-ltb, cases_eq}
use Rattle.mr_ids.specs.Same.{same_task}
use Rattle.mr_ids.specs.declared.id.JobId.{JobId}
use Rattle.mr_ids.specs.declared.id.TaskId.{TaskId}
use Rattle.mr_ids.proofs.Same.{task-is, task-itself}
use Rattle.mr_log_entries.specs.declared.line.Line.{Line}
use Rattle.mr_log_entries.specs.declared.entry.Origin.{Origin}
use Rattle.mr_log_entries.specs.declared.entry.Entry.{Entry}
use Rattle.mr_log_entries.specs.Recorded.{lines_of}
use Rattle.mr_log_standing.specs.declared.job.Job.{Job}
use Rattle.mr_log_standing.specs.declared.notes.Note.{Note}
use Rattle.mr_log_standing.specs.Standing.{task_of, ends_job, releases, is_publication}
use Rattle.mr_log_standing.specs.inner.Notes.{note, notes_by, notes_of, task_in, is_at, is_about, notes_at}
use Rattle.mr_log_standing.specs.inner.Kept.{AreKept, HasNoted, number_in}
use Rattle.mr_log_standing.proofs.Lost.{both}
use Rattle.mr_log_standing.proofs.Winning.{lines-both}

-- ---- one note

record IsNumbered (job : JobId) (count n : ℕ) (t : TaskId) : Type 0 where
  pub below : n < count
  pub is : t ≡ task_of job n

numbered : (job : JobId) (count n : ℕ) (t : TaskId) → number_in job count (Some t) ≡ Some n → IsNumbered job count n t
numbered job count n t e = by (nat_lt t.number count && same_task t (task_of job t.number)) refl e
  where
    by : (m : Bool) → (nat_lt t.number count && same_task t (task_of job t.number)) ≡ m → cond m (Some t.number) None ≡ Some n → IsNumbered job count n t
    by false is e = absurd (cc)
    by true is e =
        let b = both (nat_lt t.number count) (same_task t (task_of job t.number)) is in
        let same : t.number ≡ n = cc in
        record { below = subst (λ k. k < count) same (ltb-true t.number count b.first); is = task-is t (task_of job t.number) b.second ∙ ap (λ k. task_of job k) same }

unnumbered : (job : JobId) (count k : ℕ) (t : TaskId) → k < count → number_in job count (Some t) ≡ None → same_task t (task_of job k) ≡ false
unnumbered job count k t l e = by (same_task t (task_of job k)) refl
  where
    number : t ≡ task_of job k → number_in job count (Some t) ≡ Some k
    number same =
        ap (λ u. number_in job count (Some u)) same
        ∙ (λ i. cond (lt-ltb k count l i && task-itself (task_of job k) i) (Some k) None)

    by : (m : Bool) → same_task t (task_of job k) ≡ m → same_task t (task_of job k) ≡ false
    by false is = is
    by true is = absurd (let no : Some k ≡ None = sym (number (task-is t (task_of job k) is)) ∙ e in cc)

one-if : (job : JobId) (k : ℕ) (n : Note) (m : Bool) → is_about (task_of job k) n ≡ m → filter (is_about (task_of job k)) (n ∷ []) ≡ cond m (n ∷ []) []
one-if job k n m e = ap (λ b. cond b (n ∷ []) []) e

pub noted-none : (job : JobId) (n : Note) (old : List (List Note)) → number_in job (length old) (task_in n.line) ≡ None → HasNoted job (n ∷ []) old old
noted-none job n old e = record { count = refl; each = each }
  where
    at : (k : ℕ) → k < length old → (o : Option TaskId) → number_in job (length old) o ≡ None → is_at (task_of job k) o ≡ false
    at k l None e = refl
    at k l (Some t) e = unnumbered job (length old) k t l e

    each : (k : ℕ) → k < length old → get_or old k [] ≡ get_or old k [] ++ filter (is_about (task_of job k)) (n ∷ [])
    each k l = sym (ap (λ xs. get_or old k [] ++ xs) (one-if job k n false (at k l (task_in n.line) e)) ∙ append-nil (get_or old k []))

pub noted-some : (job : JobId) (n : Note) (old : List (List Note)) (i : ℕ) (x : List Note) → number_in job (length old) (task_in n.line) ≡ Some i → x ≡ get_or old i [] ++ n ∷ [] → HasNoted job (n ∷ []) old (set old i x)
noted-some job n old i x e is = by (task_in n.line) refl e
  where
    other : (k : ℕ) (t : TaskId) → t ≡ task_of job i → k ≢ i → (m : Bool) → same_task t (task_of job k) ≡ m → same_task t (task_of job k) ≡ false
    other k t at apart false same = same
    other k t at apart true same = absurd (apart (ap (λ (u : TaskId). u.number) (sym (task-is t (task_of job k) same) ∙ at)))

    here : (t : TaskId) → task_in n.line ≡ Some t → IsNumbered job (length old) i t → (k : ℕ) → k < length old → get_or (set old i x) k [] ≡ get_or old k [] ++ filter (is_about (task_of job k)) (n ∷ [])
    here t about h k l = choose (cases_eq k i)
      where
        at : k ≡ i → is_at (task_of job k) (task_in n.line) ≡ true
        at same = ap (λ o. is_at (task_of job k) o) about ∙ ap (λ u. same_task u (task_of job k)) (h.is ∙ ap (λ j. task_of job j) (sym same)) ∙ task-itself (task_of job k)

        choose : (k ≡ i) ⊎ (k ≡ i → ⊥) → get_or (set old i x) k [] ≡ get_or old k [] ++ filter (is_about (task_of job k)) (n ∷ [])
        choose (inl same) =
            ap (λ j. get_or (set old i x) j []) same ∙ get_or-set_same old i x [] h.below ∙ is ∙ ap (λ j. get_or old j [] ++ n ∷ []) (sym same)
            ∙ sym (ap (λ xs. get_or old k [] ++ xs) (one-if job k n true (at same)))
        choose (inr apart) =
            get_or-set_other old i k x [] apart
            ∙ sym (ap (λ xs. get_or old k [] ++ xs) (one-if job k n false (ap (λ o. is_at (task_of job k) o) about ∙ other k t h.is apart (same_task t (task_of job k)) refl)) ∙ append-nil (get_or old k []))

    by : (o : Option TaskId) → task_in n.line ≡ o → number_in job (length old) o ≡ Some i → HasNoted job (n ∷ []) old (set old i x)
    by None about e = absurd (cc)
    by (Some t) about e = record { count = length-set old i x; each = here t about (numbered job (length old) i t e) }

-- ---- all notes of an entry

pub noted-start : (job : JobId) (old : List (List Note)) → HasNoted job [] old old
noted-start job old = record { count = refl; each = λ k l. sym (append-nil (get_or old k [])) }

pub noted-more : (job : JobId) (ns : List Note) (n : Note) (old mid new : List (List Note)) → HasNoted job ns old mid → HasNoted job (n ∷ []) mid new → HasNoted job (ns ++ n ∷ []) old new
noted-more job ns n old mid new h g = record {
  count = g.count ∙ h.count;
  each = λ k l.
      g.each k (subst (λ c. k < c) (sym h.count) l)
      ∙ ap (λ xs. xs ++ filter (is_about (task_of job k)) (n ∷ [])) (h.each k l)
      ∙ append_assoc (get_or old k []) (filter (is_about (task_of job k)) ns) (filter (is_about (task_of job k)) (n ∷ []))
      ∙ ap (λ xs. get_or old k [] ++ xs) (sym (filter-append (is_about (task_of job k)) ns (n ∷ [])));
}

pub noted-next : (job : JobId) (o : Origin) (ls : List Line) (i : ℕ) (l : Line) (old mid new : List (List Note)) → i < length ls → l ≡ get_or ls i l → HasNoted job (notes_by o (take i ls)) old mid → HasNoted job (note o l ∷ []) mid new →
    HasNoted job (notes_by o (take (i + 1) ls)) old new
noted-next job o ls i l old mid new within is h g =
    subst (λ ns. HasNoted job ns old new)
    (sym (ap (λ xs. map (note o) xs) (take_more ls i l within ∙ ap (λ y. take i ls ++ y ∷ []) (sym is)) ∙ map-append (note o) (take i ls) (l ∷ [])))
    (noted-more job (notes_by o (take i ls)) (note o l) old mid new h g)

-- ---- the log

notes-both : (es more : List Entry) → notes_of (es ++ more) ≡ notes_of es ++ notes_of more
unfolding notes_of
notes-both [] more = refl
notes-both (e ∷ es) more = ap (λ ns. notes_by e.origin e.lines ++ ns) (notes-both es more) ∙ sym (append_assoc (notes_by e.origin e.lines) (notes_of es) (notes_of more))

notes-one : (e : Entry) → notes_of (e ∷ []) ≡ notes_by e.origin e.lines
unfolding notes_of
notes-one e = append-nil (notes_by e.origin e.lines)

at-more : (job : JobId) (es : List Entry) (e : Entry) (k : ℕ) → notes_at job (es ++ e ∷ []) k ≡ notes_at job es k ++ filter (is_about (task_of job k)) (notes_by e.origin e.lines)
unfolding notes_at
at-more job es e k =
    ap (λ ns. filter (is_about (task_of job k)) ns) (notes-both es (e ∷ []) ∙ ap (λ ns. notes_of es ++ ns) (notes-one e))
    ∙ filter-append (is_about (task_of job k)) (notes_of es) (notes_by e.origin e.lines)

lines-one : (e : Entry) → lines_of (e ∷ []) ≡ e.lines
unfolding lines_of
lines-one e = append-nil e.lines

any-more : (p : Line → Bool) (es : List Entry) (e : Entry) → list_any p (lines_of (es ++ e ∷ [])) ≡ (list_any p (lines_of es) || list_any p e.lines)
any-more p es e = ap (λ ls. list_any p ls) (lines-both es (e ∷ []) ∙ ap (λ ls. lines_of es ++ ls) (lines-one e)) ∙ list_any-append p (lines_of es) e.lines

pub kept-more : (job : Job) (es : List Entry) (e : Entry) (old new : List (List Note)) (over released published o r p : Bool) → AreKept job es old over released published → HasNoted job.id (notes_by e.origin e.lines) old new →
    o ≡ (over || list_any ends_job e.lines) → r ≡ (released || list_any releases e.lines) → p ≡ (published || list_any is_publication e.lines) → AreKept job (es ++ e ∷ []) new o r p
kept-more job es e old new over released published o r p h g is-o is-r is-p = record {
  count = g.count ∙ h.count;
  each = λ k l.
      g.each k (subst (λ c. k < c) (sym h.count) l)
      ∙ ap (λ xs. xs ++ filter (is_about (task_of job.id k)) (notes_by e.origin e.lines)) (h.each k l)
      ∙ sym (at-more job.id es e k);
  over = is-o ∙ ap (λ b. b || list_any ends_job e.lines) h.over ∙ sym (any-more ends_job es e);
  released = is-r ∙ ap (λ b. b || list_any releases e.lines) h.released ∙ sym (any-more releases es e);
  published = is-p ∙ ap (λ b. b || list_any is_publication e.lines) h.published ∙ sym (any-more is_publication es e);
}

nothing-at : (job : JobId) (k : ℕ) → notes_at job [] k ≡ []
unfolding notes_at notes_of
nothing-at job k = refl

nothing-any : (p : Line → Bool) → list_any p (lines_of []) ≡ false
unfolding lines_of
nothing-any p = refl

pub kept-new : (job : Job) (tasks : List (List Note)) → length tasks ≡ job.tasks → ((k : ℕ) → get_or tasks k [] ≡ []) → AreKept job [] tasks false false false
kept-new job tasks count h = record {
  count = count;
  each = λ k l. h k ∙ sym (nothing-at job.id k);
  over = sym (nothing-any ends_job);
  released = sym (nothing-any releases);
  published = sym (nothing-any is_publication);
}

-- ---- a task more about which nothing is recorded

pub none-more : (tasks : List (List Note)) → ((k : ℕ) → get_or tasks k [] ≡ []) → (k : ℕ) → get_or (tasks ++ [] ∷ []) k [] ≡ []
none-more tasks h k = more tasks h k
  where
    more : (xs : List (List Note)) → ((k : ℕ) → get_or xs k [] ≡ []) → (k : ℕ) → get_or (xs ++ [] ∷ []) k [] ≡ []
    more [] h zero = refl
    more [] h (suc k) = refl
    more (x ∷ xs) h zero = h 0
    more (x ∷ xs) h (suc k) = more xs (λ j. h (suc j)) k
