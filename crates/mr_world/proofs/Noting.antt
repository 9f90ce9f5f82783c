-- The winners of a job's reduces, noted in one walk over what is told.
use Rattle.std.proofs.Common.{◌≡◌, ◌≤◌, ◌<◌, ℕ, zero, suc, ◌+◌, refl, sym, ◌∙◌, ap, ap₂, Bool, true, false, nat_eq, List, ◌∷◌, map, drop, length, replicate, get_or, slice_get, slice_set, Option, Some, None, if◌then◌else◌, arith}
use Rattle.std.proofs.lemmas.Bool.{eqb-true, eq-eqb}
use Rattle.std.proofs.lemmas.Bool.Decides.{nat_tests}
use Rattle.std.proofs.Math.ListN.{drop_of_length-le}
use Rattle.std.specs.List.{range_with_len}
use Rattle.std.specs.Option.{option_or}
use Rattle.mr_ids.specs.Attempt.{Attempt}
use Rattle.mr_ids.specs.declared.id.JobId.{JobId}
use Rattle.mr_history.specs.declared.record.Record.{Record}
use Rattle.mr_world_model.specs.Ids.{reduce_of}
use Rattle.mr_world_model.specs.Records.{winner_in}
use Rattle.mr_world.specs.inner.Winning.{Notes, NotesAt, is_free, success_of, with_entry, with_one}
use Rattle.mr_world.proofs.Read_winners.{at-place, none-told}

-- ---- lists that are made number by number

alike : {A : Type 0} (f g : ℕ → A) (a n : ℕ) → ((r : ℕ) → a ≤ r → r < a + n → f r ≡ g r) → map f (range_with_len a n) ≡ map g (range_with_len a n)
alike f g a zero h = refl
alike f g a (suc n) h = ap₂ (λ x xs. x ∷ xs) (h a (omega arith) (omega arith)) (alike f g (a + 1) n (λ r l m. h r (omega (arith, l)) (omega (arith, m))))

there : {A : Type 0} (g : ℕ → A) (a n i : ℕ) → i < n → slice_get (map g (range_with_len a n)) i ≡ Some (g (a + i))
there g a zero i l = absurd (omega (arith, l))
there g a (suc n) zero l = ap (λ k. Some (g k)) (let e : a ≡ a + 0 = omega arith in e)
there g a (suc n) (suc i) l = there g (a + 1) n i (omega (arith, l)) ∙ ap (λ k. Some (g k)) (let e : a + 1 + i ≡ a + suc i = omega arith in e)

there-first : {A : Type 0} (g : ℕ → A) (n i : ℕ) → i < 0 + n → slice_get (map g (range_with_len 0 n)) i ≡ Some (g i)
there-first g n i l = there g 0 n i (omega (arith, l)) ∙ ap (λ k. Some (g k)) (let e : 0 + i ≡ i = omega arith in e)

past : {A : Type 0} (g : ℕ → A) (a n i : ℕ) (x : A) → slice_get (map g (range_with_len a n)) i ≡ Some x → i < n
past g a zero i x e = absurd (cc)
past g a (suc n) zero x e = omega arith
past g a (suc n) (suc i) x e = let l = past g (a + 1) n i x e in omega (arith, l)

differs : (r i : ℕ) → i < r → nat_eq r i ≡ false
differs r i l = grind (arith, nat_tests, l)

set-at : {A : Type 0} (g : ℕ → A) (a n i : ℕ) (v : A) → i < n → slice_set (map g (range_with_len a n)) i v ≡ map (λ r. if nat_eq r (a + i) then v else g r) (range_with_len a n)
set-at g a zero i v l = absurd (omega (arith, l))
set-at g a (suc n) zero v l = ap₂ (λ x xs. x ∷ xs) (ap (λ (b : Bool). if b then v else g a) (sym (eq-eqb a (a + 0) (omega arith))))
    (alike g (λ r. if nat_eq r (a + 0) then v else g r) (a + 1) n (λ r l m. ap (λ (b : Bool). if b then v else g r) (sym (differs r (a + 0) (omega (arith, l))))))
set-at g a (suc n) (suc i) v l = ap₂ (λ x xs. x ∷ xs) (ap (λ (b : Bool). if b then v else g a) (sym (before a (a + suc i) (omega arith))))
    (set-at g (a + 1) n i v (omega (arith, l)) ∙ ap (λ k. map (λ r. if nat_eq r k then v else g r) (range_with_len (a + 1) n)) (let e : a + 1 + i ≡ a + suc i = omega arith in e))
  where
    before : (r i : ℕ) → r < i → nat_eq r i ≡ false
    before r i l = grind (arith, nat_tests, l)

set-first : {A : Type 0} (g : ℕ → A) (n i : ℕ) (v : A) → i < n → slice_set (map g (range_with_len 0 n)) i v ≡ map (λ r. if nat_eq r i then v else g r) (range_with_len 0 n)
set-first g n i v l = set-at g 0 n i v l ∙ ap (λ k. map (λ r. if nat_eq r k then v else g r) (range_with_len 0 n)) (let e : 0 + i ≡ i = omega arith in e)

-- ---- an attempt that is noted at a place

or-none : {A : Type 0} (o : Option A) → o ≡ option_or o None
or-none None = refl
or-none (Some x) = refl

or-assoc : {A : Type 0} (a b c : Option A) → option_or (option_or a b) c ≡ option_or a (option_or b c)
or-assoc None b c = refl
or-assoc (Some x) b c = refl

free-is : (o : Option (Option Attempt)) → is_free o ≡ true → o ≡ Some None
free-is None e = cc
free-is (Some None) e = refl
free-is (Some (Some a)) e = cc

pub noted : (all new : List (Option Attempt)) (i : ℕ) (a : Attempt) → is_free (slice_get all i) ≡ true → new ≡ slice_set all i (Some a) → NotesAt i a all new
noted all new i a free e g n is =
    let at : slice_get (map g (range_with_len 0 n)) i ≡ Some None = ap (λ xs. slice_get xs i) (sym is) ∙ free-is (slice_get all i) free in
    let l : i < n = past g 0 n i None at in
    let none : g i ≡ None = some-is (g i) None (sym (there-first g n i (omega (arith, l))) ∙ at) in
    e ∙ (ap (λ xs. slice_set xs i (Some a)) is ∙ (set-first g n i (Some a) l ∙ alike (λ r. if nat_eq r i then Some a else g r) (with_one g i a) 0 n (λ r l m. by none r (nat_eq r i) refl)))
  where
    some-is : (x y : Option Attempt) → Some x ≡ Some y → x ≡ y
    some-is x y e = cc

    by : g i ≡ None → (r : ℕ) (t : Bool) → t ≡ nat_eq r i → (if t then Some a else g r) ≡ option_or (g r) (if t then Some a else None)
    by none r true at = ap (λ (o : Option Attempt). option_or o (Some a)) (sym (ap g (eqb-true r i (sym at)) ∙ none))
    by none r false at = or-none (g r)

pub not-noted : (all : List (Option Attempt)) (i : ℕ) (a : Attempt) → is_free (slice_get all i) ≡ false → NotesAt i a all all
not-noted all i a taken g n is = is ∙ alike g (with_one g i a) 0 n (λ r l m. by r m (nat_eq r i) refl)
  where
    stays : (o : Option Attempt) → is_free (Some o) ≡ false → o ≡ option_or o (Some a)
    stays None e = cc
    stays (Some b) e = refl

    by : (r : ℕ) → r < 0 + n → (t : Bool) → t ≡ nat_eq r i → g r ≡ option_or (g r) (if t then Some a else None)
    by r m true at = let same : r ≡ i = eqb-true r i (sym at) in stays (g r) (ap is_free (sym (there-first g n r m) ∙ ap (slice_get (map g (range_with_len 0 n))) same ∙ ap (λ xs. slice_get xs i) (sym is)) ∙ taken)
    by r m false at = or-none (g r)

-- ---- so far

abbrev nothing : ℕ → Option Attempt
nothing r = None

-- of each reduce this is noted, or else its winner is that of the entries that are left
pub record SoFar (job : JobId) (told : List Record) (n k : ℕ) (all : List (Option Attempt)) : Type 0 where
  pub noted : ℕ → Option Attempt
  pub are : all ≡ map noted (range_with_len 0 n)
  pub left : (r : ℕ) → option_or (noted r) (winner_in (drop k told) (reduce_of job r)) ≡ winner_in told (reduce_of job r)

none-of : (a n : ℕ) → replicate n None ≡ map nothing (range_with_len a n)
none-of a zero = refl
none-of a (suc n) = ap (λ xs. None ∷ xs) (none-of (a + 1) n)

pub none-yet : (job : JobId) (told : List Record) (n : ℕ) (all : List (Option Attempt)) → all ≡ replicate n None → SoFar job told n 0 all
none-yet job told n all e = record { noted = λ r. None; are = e ∙ none-of 0 n; left = λ r. refl }

pub one-entry : (job : JobId) (told : List Record) (n k : ℕ) (entry : Record) (old new : List (Option Attempt)) → k < length told → entry ≡ get_or told k entry → Notes job entry old new → SoFar job told n k old → SoFar job told n (k + 1) new
one-entry job told n k entry old new l is notes s = record {
  noted = with_entry s.noted job entry;
  are = notes s.noted n s.are;
  left = λ r. or-assoc (s.noted r) (success_of entry (reduce_of job r)) (winner_in (drop (k + 1) told) (reduce_of job r))
      ∙ (ap (option_or (s.noted r)) (sym (at-place told (reduce_of job r) k entry l is)) ∙ s.left r);
}

pub all-noted : (job : JobId) (told : List Record) (n k : ℕ) (all : List (Option Attempt)) → length told ≤ k → SoFar job told n k all → all ≡ map (λ r. winner_in told (reduce_of job r)) (range_with_len 0 n)
all-noted job told n k all l s = s.are ∙ alike s.noted (λ r. winner_in told (reduce_of job r)) 0 n (λ r a b.
    or-none (s.noted r) ∙ (ap (option_or (s.noted r)) (sym (none-told (reduce_of job r)) ∙ ap (λ (xs : List Record). winner_in xs (reduce_of job r)) (sym (drop_of_length-le told l))) ∙ s.left r))
