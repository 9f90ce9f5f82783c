-- Of a lawful log an attempt is started at most once.
use Rattle.std.proofs.Common.{◌≡◌, ◌⊎◌, inl, inr, ◌<◌, ◌≤◌, ◌+◌, ℕ, Bool, true, false, not, ◌&&◌, ◌||◌, cond, count_by, List, [], ◌∷◌, ◌++◌, Some, None, is_some, refl, sym, ap, subst, ◌∙◌, append_assoc, append-nil, arith, nat_lt}
use Rattle.std.specs.List.{list_any}
use Rattle.std.proofs.lemmas.List.Folds.{list_any-append}
use Rattle.std.proofs.lemmas.List.Sums.{sum_by_push, sum_by-cons}
use Rattle.mr_ids.specs.Attempt.{Attempt}
use Rattle.mr_ids.proofs.Same.{same_attempt-is, task-itself}
use Rattle.mr_log_entries.specs.declared.line.Line.{Line}
use Rattle.mr_log_entries.specs.declared.line.Line.TheVariants.{Started, Won, Failed, Interrupted, Unsuccessful, Publish, Published}
use Rattle.mr_log_standing.specs.declared.job.Job.{Job}
use Rattle.mr_log_standing.specs.Standing.{is_of_job, is_start_of, is_start_at, has_winner, is_over, numbered, next_attempt}
use Rattle.mr_log_standing.specs.Lawful.{is_that, is_lawful, are_lawful}
use Rattle.mr_log_standing.proofs.Lost.{both}

-- ---- counts

abbrev pub one_if : Bool → ℕ
one_if m = cond m 1 0

pub count-one : {X : Type 0} (p : X → Bool) (xs : List X) (x : X) → count_by p (xs ++ x ∷ []) ≡ count_by p xs + one_if (p x)
count-one p xs x = sum_by_push (λ y. one_if (p y)) xs x

pub count-none : {X : Type 0} (p : X → Bool) (xs : List X) → list_any p xs ≡ false → count_by p xs ≡ 0
count-none p [] e = refl
count-none p (y ∷ xs) e = by (p y) refl e (count-none p xs)
  where
    by : (m : Bool) → p y ≡ m → (m || list_any p xs) ≡ false → (list_any p xs ≡ false → count_by p xs ≡ 0) → count_by p (y ∷ xs) ≡ 0
    by true is e go = absurd (cc)
    by false is e go =
        let rest : count_by p xs ≡ 0 = go e in
        let one : one_if (p y) ≡ 0 = ap one_if is in
        sum_by-cons (λ z. one_if (p z)) y xs ∙ (let both : one_if (p y) + count_by p xs ≡ 0 = omega arith in both)

-- ---- the numbers of a task's attempts are below how many were started

record AreNumbered (ls : List Line) : Type 0 where
  pub below : (a : Attempt) → list_any (is_start_of a) ls ≡ true → a.number < count_by (is_start_at a.task) ls
  pub once : (a : Attempt) → count_by (is_start_of a) ls ≤ 1

numbers-none : AreNumbered []
numbers-none = record { below = λ a e. absurd (cc); once = λ a. omega arith }

-- the lawful start is of the number that comes next
next-number : (ls : List Line) (c : Attempt) → is_that (next_attempt ls c.task) c ≡ true → c.number ≡ count_by (is_start_at c.task) ls
unfolding next_attempt
next-number ls c e = by (count_by (is_start_at c.task) ls) e
  where
    at : (n : ℕ) (m : Bool) → is_that (cond m (Some (record { task = c.task; number = n })) None) c ≡ true → c.number ≡ n
    at n true e = sym (ap (λ (x : Attempt). x.number) (same_attempt-is (record { task = c.task; number = n }) c e))
    at n false e = absurd (cc)

    by : (n : ℕ) → is_that (numbered c.task n) c ≡ true → c.number ≡ n
    by n e = at n (nat_lt n 1000000) e

start-here : (c : Attempt) → is_start_at c.task (Started c) ≡ true
start-here c = ap (λ m. is_some (cond m (Some c) None)) (task-itself c.task)

-- a start that is lawful, and the number that it has
record Starts (ls : List Line) (l : Line) (a : Attempt) : Type 0 where
  pub is : l ≡ Started a
  pub number : a.number ≡ count_by (is_start_at a.task) ls

starts : (job : Job) (ls : List Line) (l : Line) (a : Attempt) → is_start_of a l ≡ true → is_lawful job ls l ≡ true → Starts ls l a
starts job ls (Started c) a e lawful =
    let first = both (is_of_job job c) (not (is_over ls) && (not (has_winner ls c.task) && is_that (next_attempt ls c.task) c)) lawful in
    let second = both (not (is_over ls)) (not (has_winner ls c.task) && is_that (next_attempt ls c.task) c) first.second in
    let third = both (not (has_winner ls c.task)) (is_that (next_attempt ls c.task) c) second.second in
    let same : c ≡ a = sym (same_attempt-is a c e) in
    subst (λ x. Starts ls (Started c) x) same (record { is = refl; number = next-number ls c third.second })
starts job ls (Won c handed) a e lawful = absurd (cc)
starts job ls (Failed c) a e lawful = absurd (cc)
starts job ls (Interrupted c) a e lawful = absurd (cc)
starts job ls Unsuccessful a e lawful = absurd (cc)
starts job ls Publish a e lawful = absurd (cc)
starts job ls Published a e lawful = absurd (cc)

either : (x y : Bool) → (x || (y || false)) ≡ true → (x ≡ true) ⊎ (y ≡ true)
either true y e = inl refl
either false true e = inr refl
either false false e = absurd (cc)

numbers-one : (job : Job) (ls : List Line) (l : Line) → AreNumbered ls → is_lawful job ls l ≡ true → AreNumbered (ls ++ l ∷ [])
numbers-one job ls l h lawful = record { below = below; once = once }
  where
    below : (a : Attempt) → list_any (is_start_of a) (ls ++ l ∷ []) ≡ true → a.number < count_by (is_start_at a.task) (ls ++ l ∷ [])
    below a e = by (either (list_any (is_start_of a) ls) (is_start_of a l) (sym (list_any-append (is_start_of a) ls (l ∷ [])) ∙ e))
      where
        more : count_by (is_start_at a.task) (ls ++ l ∷ []) ≡ count_by (is_start_at a.task) ls + one_if (is_start_at a.task l)
        more = count-one (is_start_at a.task) ls l

        by : (list_any (is_start_of a) ls ≡ true) ⊎ (is_start_of a l ≡ true) → a.number < count_by (is_start_at a.task) (ls ++ l ∷ [])
        by (inl e) =
            let old : a.number < count_by (is_start_at a.task) ls = h.below a e in
            let grown : count_by (is_start_at a.task) (ls ++ l ∷ []) ≡ count_by (is_start_at a.task) ls + one_if (is_start_at a.task l) = more in
            omega arith
        by (inr e) =
            let s = starts job ls l a e lawful in
            let number : a.number ≡ count_by (is_start_at a.task) ls = s.number in
            let one : one_if (is_start_at a.task l) ≡ 1 = ap (λ x. one_if (is_start_at a.task x)) s.is ∙ ap one_if (start-here a) in
            let grown : count_by (is_start_at a.task) (ls ++ l ∷ []) ≡ count_by (is_start_at a.task) ls + one_if (is_start_at a.task l) = more in
            omega arith

    once : (a : Attempt) → count_by (is_start_of a) (ls ++ l ∷ []) ≤ 1
    once a = by (is_start_of a l) refl (list_any (is_start_of a) ls) refl
      where
        by : (m : Bool) → is_start_of a l ≡ m → (n : Bool) → list_any (is_start_of a) ls ≡ n → count_by (is_start_of a) (ls ++ l ∷ []) ≤ 1
        by false is n old =
            let grown : count_by (is_start_of a) (ls ++ l ∷ []) ≡ count_by (is_start_of a) ls + one_if (is_start_of a l) = count-one (is_start_of a) ls l in
            let none : one_if (is_start_of a l) ≡ 0 = ap one_if is in
            let few : count_by (is_start_of a) ls ≤ 1 = h.once a in
            omega arith
        by true is true old =
            let s = starts job ls l a is lawful in
            let number : a.number ≡ count_by (is_start_at a.task) ls = s.number in
            let low : a.number < count_by (is_start_at a.task) ls = h.below a old in
            omega arith
        by true is false old =
            let grown : count_by (is_start_of a) (ls ++ l ∷ []) ≡ count_by (is_start_of a) ls + one_if (is_start_of a l) = count-one (is_start_of a) ls l in
            let one : one_if (is_start_of a l) ≡ 1 = ap one_if is in
            let none : count_by (is_start_of a) ls ≡ 0 = count-none (is_start_of a) ls old in
            omega arith

numbers-more : (job : Job) (ls more : List Line) → AreNumbered ls → are_lawful job ls more ≡ true → AreNumbered (ls ++ more)
unfolding are_lawful
numbers-more job ls [] h e = subst (λ xs. AreNumbered xs) (sym (append-nil ls)) h
numbers-more job ls (l ∷ more) h e =
    let b = both (is_lawful job ls l) (are_lawful job (ls ++ l ∷ []) more) e in
    subst (λ xs. AreNumbered xs) (append_assoc ls (l ∷ []) more) (numbers-more job (ls ++ l ∷ []) more (numbers-one job ls l h b.first) b.second)

pub once : (job : Job) (ls : List Line) (a : Attempt) → are_lawful job [] ls ≡ true → count_by (is_start_of a) ls ≤ 1
once job ls a e = (numbers-more job [] ls numbers-none e).once a
