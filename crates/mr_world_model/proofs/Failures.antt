-- A task's failures are the endings that are failures: a law of a task's readings.
use Rattle.std.proofs.Common.{ℕ, suc, ◌+◌, ◌≡◌, refl, sym, ◌∙◌, ap, subst, Bool, true, false, ◌&&◌, ◌||◌, not, List, [], ◌∷◌, ◌++◌, is_none, if◌then◌else◌, count_by, true≢false, arith}
use Rattle.std.proofs.lemmas.Bool.{and_parts, false≢true, not-true}
use Rattle.std.proofs.lemmas.List.Sums.{sum_by-cons}
use Rattle.mr_grant.specs.Attempts.{same_attempt, has}
use Rattle.mr_grant.proofs.Same.{same-is, same-itself}
use Rattle.mr_task.specs.Calls.{TaskCall, Launches, Hears, Asks, Reports, Fails, Ends, Dies, Records, Recovers, Loses}
use Rattle.mr_task.specs.Readings as task
use Rattle.mr_task.specs.Readings.{Ending, is_over, has_failed, AreDistinct}
use Rattle.mr_task.proofs.Same.{same-sym}
use Rattle.mr_task.proofs.Lists.{has-append}
use Rattle.mr_task.proofs.Arrivals.{nothing-arrived, fresh, arrivals}
use Rattle.mr_world_model.specs.Ids.{Attempt, TaskId}
use Rattle.mr_world_model.proofs.Basic.{if_cases}

abbrev pub failed_in : List Ending → ℕ
failed_in [] = 0
failed_in (e ∷ es) = if e.is_failure then suc (failed_in es) else failed_in es

not-over-not-failed : (es : List Ending) (a : Attempt) → is_over es a ≡ false → has_failed es a ≡ false
not-over-not-failed [] a e = refl
not-over-not-failed (x ∷ es) a e = by (same_attempt a x.attempt) refl e (not-over-not-failed es a)
  where
    by : (b : Bool) → same_attempt a x.attempt ≡ b → (b || is_over es a) ≡ false → (is_over es a ≡ false → has_failed es a ≡ false) → (if b then x.is_failure else has_failed es a) ≡ false
    by true q f go = absurd (true≢false f)
    by false q f go = go f

abbrev or_is : (Attempt → Bool) → Attempt → Attempt → Bool
or_is f a x = if same_attempt x a then true else f x

abbrev and_not : (Attempt → Bool) → Attempt → Attempt → Bool
and_not f a x = if same_attempt x a then false else f x

pub counted : (p : Attempt → Bool) (x : Attempt) (xs : List Attempt) (b : Bool) → p x ≡ b → count_by p (x ∷ xs) ≡ (if b then 1 else 0) + count_by p xs
counted p x xs b e = sum_by-cons (λ y. if p y then 1 else 0) x xs ∙ ap (λ c. (if c then 1 else 0) + count_by p xs) e

-- an attempt that is not among them changes no count
none-more : (f : Attempt → Bool) (a : Attempt) (xs : List Attempt) → has xs a ≡ false → count_by (or_is f a) xs ≡ count_by f xs
none-more f a [] e = refl
none-more f a (x ∷ xs) e = by (same_attempt a x) refl e (none-more f a xs)
  where
    by : (b : Bool) → same_attempt a x ≡ b → (b || has xs a) ≡ false → (has xs a ≡ false → count_by (or_is f a) xs ≡ count_by f xs) → count_by (or_is f a) (x ∷ xs) ≡ count_by f (x ∷ xs)
    by true q h go = absurd (true≢false h)
    by false q h go =
        let here : or_is f a x ≡ f x = ap (λ b. if b then true else f x) (same-sym x a ∙ q) in
        counted (or_is f a) x xs (f x) here ∙ ap (λ n. (if f x then 1 else 0) + n) (go h) ∙ sym (counted f x xs (f x) refl)

-- one that is among them, and did not pass, is one more
one-more : (f : Attempt → Bool) (a : Attempt) (xs : List Attempt) → AreDistinct xs → has xs a ≡ true → f a ≡ false → count_by (or_is f a) xs ≡ count_by f xs + 1
one-more f a [] d there e = absurd (true≢false (sym there))
one-more f a (x ∷ xs) d there e = by (same_attempt a x) refl there (λ h. one-more f a xs d.1 h e)
  where
    by : (b : Bool) → same_attempt a x ≡ b → (b || has xs a) ≡ true → (has xs a ≡ true → count_by (or_is f a) xs ≡ count_by f xs + 1) → count_by (or_is f a) (x ∷ xs) ≡ count_by f (x ∷ xs) + 1
    by true q h go =
        let same : a ≡ x = same-is a x q in
        let g : or_is f a x ≡ true = ap (λ b. if b then true else f x) (same-sym x a ∙ q) in
        let o : f x ≡ false = ap (λ y. f y) (sym same) ∙ e in
        let r = none-more f a xs (ap (λ y. has xs y) same ∙ d.0) in
        let u = counted (or_is f a) x xs true g in
        let v = counted f x xs false o in
        omega (arith, u, v, r)
    by false q h go =
        let g : or_is f a x ≡ f x = ap (λ b. if b then true else f x) (same-sym x a ∙ q) in
        let r = go h in
        let u = counted (or_is f a) x xs (f x) g in
        let v = counted f x xs (f x) refl in
        omega (arith, u, v, r)

-- where it did not pass, nothing is less
same-count : (f : Attempt → Bool) (a : Attempt) (xs : List Attempt) → f a ≡ false → count_by (and_not f a) xs ≡ count_by f xs
same-count f a xs e = λ i. count_by (λ x. is x (same_attempt x a) refl i) xs
  where
    is : (x : Attempt) (b : Bool) → same_attempt x a ≡ b → (if b then false else f x) ≡ f x
    is x false q = refl
    is x true q = sym (ap (λ y. f y) (same-is x a q) ∙ e)

pub last-count : (f : Attempt → Bool) (a : Attempt) (xs : List Attempt) → f a ≡ false → count_by f (xs ++ a ∷ []) ≡ count_by f xs
last-count f a [] e = counted f a [] false e
last-count f a (x ∷ xs) e = counted f x (xs ++ a ∷ []) (f x) refl ∙ (ap (λ n. (if f x then 1 else 0) + n) (last-count f a xs e) ∙ sym (counted f x xs (f x) refl))

pub last-one : (f : Attempt → Bool) (a : Attempt) (xs : List Attempt) → f a ≡ true → count_by f (xs ++ a ∷ []) ≡ suc (count_by f xs)
last-one f a [] e = counted f a [] true e
last-one f a (x ∷ xs) e =
    let u = counted f x (xs ++ a ∷ []) (f x) refl in let v = last-one f a xs e in let w = counted f x xs (f x) refl in omega (arith, u, v, w)

-- ---- over every list of calls

record Counted (arrived : List Attempt) (ended : List Ending) : Type 0 where
  pub there : (a : Attempt) → is_over ended a ≡ true → has arrived a ≡ true
  pub count : count_by (has_failed ended) arrived ≡ failed_in ended

abbrev CountedIn : task.Seen → Type 0
CountedIn r = Counted r.arrived r.ended

end-counted : (r : task.Seen) (a : Attempt) (f : Bool) → AreDistinct r.arrived → CountedIn r → CountedIn (task.after_end r a f)
end-counted r a f distinct o = if_cases CountedIn (task.is_live r a) _ _ (λ live. record { there = there live; count = count f live }) (λ e. o)
  where
    there : task.is_live r a ≡ true → (x : Attempt) → (same_attempt x a || is_over r.ended x) ≡ true → has r.arrived x ≡ true
    there live x = by (same_attempt x a) refl
      where
        by : (b : Bool) → same_attempt x a ≡ b → (b || is_over r.ended x) ≡ true → has r.arrived x ≡ true
        by true q e = subst (λ y. has r.arrived y ≡ true) (sym (same-is x a q)) (and_parts (has r.arrived a) (not (has r.accepted a) && not (is_over r.ended a)) live).0
        by false q e = o.there x e

    unfailed : task.is_live r a ≡ true → has_failed r.ended a ≡ false
    unfailed live = not-over-not-failed r.ended a (not-true (is_over r.ended a) (and_parts (not (has r.accepted a)) (not (is_over r.ended a)) (and_parts (has r.arrived a) (not (has r.accepted a) && not (is_over r.ended a)) live).1).1)

    count : (f : Bool) → task.is_live r a ≡ true → count_by (has_failed (record { attempt = a; is_failure = f } ∷ r.ended)) r.arrived ≡ (if f then suc (failed_in r.ended) else failed_in r.ended)
    count true live =
        let u = one-more (has_failed r.ended) a r.arrived distinct (and_parts (has r.arrived a) (not (has r.accepted a) && not (is_over r.ended a)) live).0 (unfailed live) in
        let v = o.count in omega (arith, u, v)
    count false live = same-count (has_failed r.ended) a r.arrived (unfailed live) ∙ o.count

launch-counted : (r : task.Seen) (new : Attempt) → has r.arrived new ≡ false → CountedIn r → Counted (r.arrived ++ new ∷ []) r.ended
launch-counted r new fresh o = record {
  there = λ x e. has-append r.arrived new x ∙ ap (λ b. b || same_attempt x new) (o.there x e);
  count = last-count (has_failed r.ended) new r.arrived (not-over-not-failed r.ended new (free (is_over r.ended new) refl)) ∙ o.count;
}
  where
    free : (b : Bool) → is_over r.ended new ≡ b → is_over r.ended new ≡ false
    free false e = e
    free true e = absurd (true≢false (sym (o.there new e) ∙ fresh))

recover-counted : (t : TaskId) (k : ℕ) (r : task.Seen) (a : Attempt) → CountedIn r → task.may_recover t r a ≡ true → Counted (a ∷ []) r.ended
recover-counted t k r a o e = by r.ended refl
  where
    none : (x : Attempt) → is_over r.ended x ≡ true → ⊥
    none x h = false≢true (subst (λ xs. has xs x ≡ true) (nothing-arrived r.arrived (and_parts _ _ e).0) (o.there x h))

    by : (es : List Ending) → r.ended ≡ es → Counted (a ∷ []) es
    by [] q = record { there = λ x h. absurd (false≢true h); count = counted (has_failed []) a [] false refl }
    by (x ∷ es) q = absurd (none x.attempt (ap (λ l. is_over l x.attempt) q ∙ ap (λ b. b || is_over es x.attempt) (same-itself x.attempt)))

counts : (t : TaskId) (k : ℕ) (h : List TaskCall) → CountedIn (task.seen t k h)
unfolding task.seen task.next_seen
counts t k [] = record { there = λ a e. absurd (false≢true e); count = refl }
counts t k (Launches ∷ h) = let o = counts t k h in if_cases CountedIn (is_none (task.launch_refusal (task.seen t k h))) _ _ (λ e. launch-counted (task.seen t k h) (task.next_attempt t k (task.seen t k h)) (fresh t k (task.seen t k h) (arrivals t k h) e) o) (λ e. o)
counts t k (Hears a ∷ h) = counts t k h
counts t k (Asks a ∷ h) = let o = counts t k h in if_cases CountedIn (has (task.seen t k h).arrived a && not (has (task.seen t k h).asked a)) _ _ (λ e. o) (λ e. o)
counts t k (Reports a ∷ h) = let o = counts t k h in if_cases CountedIn (task.may_accept (task.seen t k h) a) _ _ (λ e. o) (λ e. o)
counts t k (Fails a ∷ h) = end-counted (task.seen t k h) a true (arrivals t k h).distinct (counts t k h)
counts t k (Ends a was_asked ∷ h) = end-counted (task.seen t k h) a (not was_asked) (arrivals t k h).distinct (counts t k h)
counts t k (Dies a ∷ h) = end-counted (task.seen t k h) a false (arrivals t k h).distinct (counts t k h)
counts t k (Records a ∷ h) = let o = counts t k h in if_cases CountedIn (has (task.seen t k h).accepted a) _ _ (λ e. o) (λ e. o)
counts t k (Recovers a ∷ h) = let o = counts t k h in if_cases CountedIn (task.may_recover t (task.seen t k h) a) _ _ (λ e. recover-counted t k (task.seen t k h) a o e) (λ e. o)
counts t k (Loses a ∷ h) = let o = counts t k h in if_cases CountedIn (not (task.is_reduce a.task.kind) && has (task.seen t k h).recorded a) _ _ (λ e. o) (λ e. o)

-- the failures are the endings that are failures
pub failures-are : (t : TaskId) (k : ℕ) (h : List TaskCall) → task.failures (task.seen t k h) ≡ failed_in (task.seen t k h).ended
failures-are t k h = (counts t k h).count
