-- Membership, tests of equality, and the look-ups of the read-offs.
use Rattle.std.proofs.Common.{ℕ, ◌-◌, ◌≡◌, refl, sym, ◌∙◌, ap, subst, Bool, true, false, ◌&&◌, ◌||◌, not, List, [], ◌∷◌, ◌++◌, Option, Some, None, if◌then◌else◌, is_some, nat_le, ◌⊎◌, inl, inr}
use Rattle.std.proofs.lemmas.Bool.{and_parts, false≢true, eqb-true, eq-eqb}
use Rattle.mr_world_model.specs.Ids.{Attempt, attempt_eq, bool_eq, TaskId, is_reduce, task_eq}
use Rattle.mr_world_model.proofs.Names.{task_eq-true, task_eq-is, task_eq-refl}
use Rattle.mr_world_model.specs.Records.{Record, winner_in, ReduceSucceeded, AttemptStarted, MapSucceeded, AttemptFailed, JobUnsuccessful, whole_in, width}
use Rattle.mr_world_model.specs.Hearing.{has, is_over, Ending, Launched, find_launched, named_in}
use Rattle.mr_world_model.specs.Claims.{In}

pub In-left : {A : Type 0} (x : A) (xs ys : List A) → In x xs → In x (xs ++ ys)
In-left x [] ys i = absurd i
In-left x (y ∷ xs) ys (inl e) = inl e
In-left x (y ∷ xs) ys (inr i) = inr (In-left x xs ys i)

pub In-right : {A : Type 0} (x : A) (xs ys : List A) → In x ys → In x (xs ++ ys)
In-right x [] ys i = i
In-right x (y ∷ xs) ys i = inr (In-right x xs ys i)

pub In-parts : {A : Type 0} (x : A) (xs ys : List A) → In x (xs ++ ys) → In x xs ⊎ In x ys
In-parts x [] ys i = inr i
In-parts x (y ∷ xs) ys (inl e) = inl (inl e)
In-parts x (y ∷ xs) ys (inr i) = front (In-parts x xs ys i)
  where
    front : In x xs ⊎ In x ys → In x (y ∷ xs) ⊎ In x ys
    front (inl j) = inl (inr j)
    front (inr j) = inr j

abbrev pub Each : {A : Type 0} → (A → Type 0) → List A → Type 0
Each P [] = Unit {0}
Each P (x ∷ xs) = P x × Each P xs

pub Each-append : {A : Type 0} (P : A → Type 0) (xs ys : List A) → Each P xs → Each P ys → Each P (xs ++ ys)
Each-append P [] ys p q = q
Each-append P (x ∷ xs) ys p q = (p.0, Each-append P xs ys p.1 q)

pub Each-In : {A : Type 0} (P : A → Type 0) (xs : List A) → Each P xs → (x : A) → In x xs → P x
Each-In P [] p x i = absurd i
Each-In P (y ∷ xs) p x (inl e) = subst P e p.0
Each-In P (y ∷ xs) p x (inr i) = Each-In P xs p.1 x i

pub Each-by : {A : Type 0} (P : A → Type 0) (xs : List A) → ((x : A) → In x xs → P x) → Each P xs
Each-by P [] f = tt
Each-by P (x ∷ xs) f = (f x (inl refl), Each-by P xs (λ y i. f y (inr i)))

bool_eq-true : (a b : Bool) → bool_eq a b ≡ true → a ≡ b
bool_eq-true true b e = sym e
bool_eq-true false true e = e
bool_eq-true false false e = refl

bool_eq-refl : (a : Bool) → bool_eq a a ≡ true
bool_eq-refl true = refl
bool_eq-refl false = refl

pub attempt_eq-true : (a b : Attempt) → attempt_eq a b ≡ true → a ≡ b
attempt_eq-true a b e =
    let p = and_parts _ _ e in λ i. record { task = task_eq-true a.task b.task p.0 i; number = eqb-true a.number b.number p.1 i }

pub attempt_eq-refl : (a : Attempt) → attempt_eq a a ≡ true
attempt_eq-refl a = rw (task_eq-refl a.task, eq-eqb a.number a.number refl) refl

pub attempt_ne : (a b : Attempt) → (a ≡ b → ⊥) → attempt_eq a b ≡ false
attempt_ne a b n = by (attempt_eq a b) refl
  where
    by : (t : Bool) → attempt_eq a b ≡ t → attempt_eq a b ≡ false
    by true e = absurd (n (attempt_eq-true a b e))
    by false e = e

pub In-has : (xs : List Attempt) (a : Attempt) → In a xs → has xs a ≡ true
In-has [] a i = absurd i
In-has (x ∷ xs) a (inl e) = rw (e, attempt_eq-refl a) refl
In-has (x ∷ xs) a (inr i) = rw (In-has xs a i) (by (attempt_eq a x))
  where
    by : (t : Bool) → (t || true) ≡ true
    by true = refl
    by false = refl

pub not-has : (xs : List Attempt) (a b : Attempt) → has xs a ≡ false → In b xs → b ≡ a → ⊥
not-has xs a b f i e = false≢true (sym f ∙ subst (λ x. has xs x ≡ true) e (In-has xs b i))

pub found_launched : (ls : List Launched) (a : Attempt) → is_some (find_launched ls a) ≡ true → (l : Launched) × In l ls × (l.attempt ≡ a)
found_launched [] a e = absurd (false≢true e)
found_launched (l ∷ ls) a e = by (attempt_eq a l.attempt) refl e (found_launched ls a)
  where
    by : (t : Bool) → attempt_eq a l.attempt ≡ t → is_some (if t then Some l else find_launched ls a) ≡ true →
        (is_some (find_launched ls a) ≡ true → (m : Launched) × In m ls × (m.attempt ≡ a)) → (m : Launched) × In m (l ∷ ls) × (m.attempt ≡ a)
    by true q e f = (l, inl refl, sym (attempt_eq-true a l.attempt q))
    by false q e f = let r = f e in (r.0, inr r.1, r.2)

-- what is whole in the first bytes is among the records
pub whole_among : (n : ℕ) (rs : List Record) (r : Record) → In r (whole_in n rs) → In r rs
unfolding whole_in
whole_among n [] r i = i
whole_among n (s ∷ rs) r i = by (nat_le (width s) n) i (whole_among (n - width s) rs r)
  where
    by : (t : Bool) → In r (if t then s ∷ whole_in (n - width s) rs else []) → (In r (whole_in (n - width s) rs) → In r rs) → In r (s ∷ rs)
    by true (inl e) f = inl e
    by true (inr j) f = inr (f j)
    by false j f = absurd j

-- the first asker that is not over stays the first, if another comes after or another ends
pub named-more : (asked more : List Attempt) (es : List Ending) (t : TaskId) (b : Attempt) →
    named_in asked es t ≡ Some b → named_in (asked ++ more) es t ≡ Some b
unfolding named_in
named-more [] more es t b e = cc
named-more (a ∷ as') more es t b e = by (is_reduce a && (task_eq a.task t && not (is_over es a))) e (named-more as' more es t b)
  where
    by : (c : Bool) → (if c then Some a else named_in as' es t) ≡ Some b → (named_in as' es t ≡ Some b → named_in (as' ++ more) es t ≡ Some b) →
        (if c then Some a else named_in (as' ++ more) es t) ≡ Some b
    by true e f = e
    by false e f = f e

pub named-ended : (asked : List Attempt) (x : Ending) (es : List Ending) (t : TaskId) (b : Attempt) →
    (b ≡ x.attempt → ⊥) → named_in asked es t ≡ Some b → named_in asked (x ∷ es) t ≡ Some b
unfolding named_in
named-ended [] x es t b n e = cc
named-ended (a ∷ as') x es t b n e =
    by (is_reduce a) (task_eq a.task t) (is_over es a) (attempt_eq a x.attempt) refl e (named-ended as' x es t b n)
  where
    by : (r s o c : Bool) → attempt_eq a x.attempt ≡ c → (if r && (s && not o) then Some a else named_in as' es t) ≡ Some b →
        (named_in as' es t ≡ Some b → named_in as' (x ∷ es) t ≡ Some b) →
        (if r && (s && not (c || o)) then Some a else named_in as' (x ∷ es) t) ≡ Some b
    by true true false false q e f = e
    by true true false true q e f = let p : a ≡ b = cc in absurd (n (sym p ∙ attempt_eq-true a x.attempt q))
    by true true true true q e f = f e
    by true true true false q e f = f e
    by true false o c q e f = f e
    by false s o c q e f = f e

-- the winner in a list that has one and no other
pub winner_in-only : (rs : List Record) (a : Attempt) (z : Option ℕ) → In (ReduceSucceeded a z) rs →
    ((b : Attempt) (y : Option ℕ) → In (ReduceSucceeded b y) rs → b.task ≡ a.task → b ≡ a) → winner_in rs a.task ≡ Some a
unfolding winner_in
winner_in-only [] a z i u = absurd i
winner_in-only (ReduceSucceeded b y ∷ rs) a z i u = by (task_eq b.task a.task) refl i (λ j. winner_in-only rs a z j (λ c x k. u c x (inr k)))
  where
    by : (t : Bool) → task_eq b.task a.task ≡ t → In (ReduceSucceeded a z) (ReduceSucceeded b y ∷ rs) → (In (ReduceSucceeded a z) rs → winner_in rs a.task ≡ Some a) →
        (if t then Some b else winner_in rs a.task) ≡ Some a
    by true e i f = ap Some (u b y (inl refl) (task_eq-true b.task a.task e))
    by false e (inl q) f = let p : b ≡ a = cc in absurd (false≢true (sym e ∙ task_eq-is b.task a.task (ap (λ x. x.task) p)))
    by false e (inr j) f = f j
winner_in-only (AttemptStarted b n ∷ rs) a z (inl q) u = cc
winner_in-only (AttemptStarted b n ∷ rs) a z (inr j) u = winner_in-only rs a z j (λ c x k. u c x (inr k))
winner_in-only (MapSucceeded b n m ∷ rs) a z (inl q) u = cc
winner_in-only (MapSucceeded b n m ∷ rs) a z (inr j) u = winner_in-only rs a z j (λ c x k. u c x (inr k))
winner_in-only (AttemptFailed b ∷ rs) a z (inl q) u = cc
winner_in-only (AttemptFailed b ∷ rs) a z (inr j) u = winner_in-only rs a z j (λ c x k. u c x (inr k))
winner_in-only (JobUnsuccessful ∷ rs) a z (inl q) u = cc
winner_in-only (JobUnsuccessful ∷ rs) a z (inr j) u = winner_in-only rs a z j (λ c x k. u c x (inr k))

pub winner-none-append : (a b : List Record) (t : TaskId) → winner_in a t ≡ None → winner_in (a ++ b) t ≡ winner_in b t
unfolding winner_in
winner-none-append [] b t e = refl
winner-none-append (ReduceSucceeded a z ∷ rs) b t e = by (task_eq a.task t) e (winner-none-append rs b t)
  where
    by : (c : Bool) → (if c then Some a else winner_in rs t) ≡ None → (winner_in rs t ≡ None → winner_in (rs ++ b) t ≡ winner_in b t) →
        (if c then Some a else winner_in (rs ++ b) t) ≡ winner_in b t
    by true e f = cc
    by false e f = f e
winner-none-append (AttemptStarted a n ∷ rs) b t e = winner-none-append rs b t e
winner-none-append (MapSucceeded a n i ∷ rs) b t e = winner-none-append rs b t e
winner-none-append (AttemptFailed a ∷ rs) b t e = winner-none-append rs b t e
winner-none-append (JobUnsuccessful ∷ rs) b t e = winner-none-append rs b t e
