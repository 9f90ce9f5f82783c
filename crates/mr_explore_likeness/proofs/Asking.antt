-- How many packets lie last in a bag that only ask: all that is looked at of them, now and later.
use Rattle.std.proofs.Common.{ℕ, zero, suc, ◌+◌, ◌-◌, ◌≤◌, ◌<◌, ◌≡◌, refl, sym, ◌∙◌, ap, arith, Bool, true, false, ◌&&◌, List, [], ◌∷◌, ◌++◌, drop, length, length-append, nat_lt, nat_le, if◌then◌else◌}
use Rattle.std.specs.List.{list_all}
use Rattle.std.proofs.lemmas.Bool.{and_parts, ltb-true, ltb-false, leb-true, leb-false, le-leb}
use Rattle.std.proofs.lemmas.List.Folds.{list_all-append}
use Rattle.mr_world_model.specs.Packets.{Envelope}
use Rattle.mr_explore.specs.Vain.{asks_in, asked_last}
use Rattle.mr_explore_likeness.specs.Plays.{asking_last}

-- ---- orders as tests

not-le : (a b : ℕ) → b < a → nat_le a b ≡ false
not-le a b l = by (nat_le a b) refl
  where
    by : (c : Bool) → nat_le a b ≡ c → c ≡ false
    by true e = let m = leb-true a b e in absurd (omega (arith, l, m))
    by false e = refl

le-same : (a b c d : ℕ) → (a ≤ b → c ≤ d) → (c ≤ d → a ≤ b) → nat_le a b ≡ nat_le c d
le-same a b c d f g = by (nat_le a b) (nat_le c d) refl refl
  where
    by : (x y : Bool) → nat_le a b ≡ x → nat_le c d ≡ y → x ≡ y
    by true true p q = refl
    by false false p q = refl
    by true false p q = let l = f (leb-true a b p) in let m = leb-false c d q in absurd (omega (arith, l, m))
    by false true p q = let l = g (leb-true c d q) in let m = leb-false a b p in absurd (omega (arith, l, m))

and-false : (c : Bool) → (c && false) ≡ false
and-false true = refl
and-false false = refl

-- ---- how many they are

abbrev all : List Envelope → Bool
all es = list_all asks_in es

full : (es : List Envelope) → all es ≡ true → asking_last es ≡ length es
full [] e = refl
full (x ∷ es) e = let p = and_parts (asks_in x) (all es) e in λ i. if p.1 i then (if p.0 i then suc (length es) else length es) else asking_last es

at-most : (es : List Envelope) → asking_last es ≤ length es
at-most [] = omega arith
at-most (x ∷ es) = by (all es) (asks_in x) (at-most es)
  where
    by : (b c : Bool) → asking_last es ≤ length es → (if b then (if c then suc (length es) else length es) else asking_last es) ≤ suc (length es)
    by true true l = omega arith
    by true false l = omega arith
    by false c l = omega (arith, l)

counted : (k : ℕ) (es : List Envelope) → all (drop k es) ≡ nat_le (length es) (k + asking_last es)
counted zero [] = sym (le-leb 0 (zero + asking_last []) (omega arith))
counted (suc k) [] = sym (le-leb 0 (suc k + asking_last []) (omega arith))
counted zero (x ∷ es) = by (all es) (asks_in x) (at-most es)
  where
    by : (b c : Bool) → asking_last es ≤ length es → (c && b) ≡ nat_le (suc (length es)) (zero + (if b then (if c then suc (length es) else length es) else asking_last es))
    by true true l = sym (le-leb (suc (length es)) (zero + suc (length es)) (omega arith))
    by true false l = sym (not-le (suc (length es)) (zero + length es) (omega arith))
    by false c l = and-false c ∙ sym (not-le (suc (length es)) (zero + asking_last es) (omega (arith, l)))
counted (suc k) (x ∷ es) = counted k es ∙ by (all es) (asks_in x) refl
  where
    by : (b c : Bool) → all es ≡ b → nat_le (length es) (k + asking_last es) ≡ nat_le (suc (length es)) (suc k + (if b then (if c then suc (length es) else length es) else asking_last es))
    by true true e = let f = full es e in le-same (length es) (k + asking_last es) (suc (length es)) (suc k + suc (length es)) (λ l. omega arith) (λ l. omega (arith, f))
    by true false e = let f = full es e in le-same (length es) (k + asking_last es) (suc (length es)) (suc k + length es) (λ l. omega arith) (λ l. omega (arith, f))
    by false c e = le-same (length es) (k + asking_last es) (suc (length es)) (suc k + asking_last es) (λ l. omega (arith, l)) (λ l. omega (arith, l))

asked-is : (n : ℕ) (es : List Envelope) → asked_last n es ≡ nat_le n (asking_last es)
asked-is n es = by (nat_lt (length es) n) refl (at-most es)
  where
    by : (b : Bool) → nat_lt (length es) n ≡ b → asking_last es ≤ length es → (if b then false else list_all asks_in (drop (length es - n) es)) ≡ nat_le n (asking_last es)
    by true e m = let l = ltb-true (length es) n e in sym (not-le n (asking_last es) (omega (arith, l, m)))
    by false e m =
        let l = ltb-false (length es) n e in
        counted (length es - n) es ∙ le-same (length es) ((length es - n) + asking_last es) n (asking_last es) (λ h. omega (arith, l, h)) (λ h. omega (arith, l, h))

-- what is looked at of them
pub asked-same : (n : ℕ) (es fs : List Envelope) → asking_last es ≡ asking_last fs → asked_last n es ≡ asked_last n fs
asked-same n es fs e = asked-is n es ∙ (ap (λ k. nat_le n k) e ∙ sym (asked-is n fs))

-- ---- as bags grow

appended : (xs ys : List Envelope) → asking_last (xs ++ ys) ≡ (if all ys then asking_last xs + length ys else asking_last ys)
appended [] ys = by (all ys) refl
  where
    by : (b : Bool) → all ys ≡ b → asking_last ys ≡ (if b then 0 + length ys else asking_last ys)
    by true e = let f = full ys e in omega (arith, f)
    by false e = refl
appended (x ∷ xs) ys =
    ap (λ b. if b then (if asks_in x then suc (length (xs ++ ys)) else length (xs ++ ys)) else asking_last (xs ++ ys)) (list_all-append asks_in xs ys)
    ∙ by (all xs) (all ys) (asks_in x) (appended xs ys)
  where
    by : (a c d : Bool) → asking_last (xs ++ ys) ≡ (if c then asking_last xs + length ys else asking_last ys)
        → (if a && c then (if d then suc (length (xs ++ ys)) else length (xs ++ ys)) else asking_last (xs ++ ys)) ≡ (if c then (if a then (if d then suc (length xs) else length xs) else asking_last xs) + length ys else asking_last ys)
    by true true true h = let l = length-append xs ys in omega (arith, l)
    by true true false h = let l = length-append xs ys in omega (arith, l)
    by false true d h = h
    by true false d h = h
    by false false d h = h

pub asking-on : (xs ys zs : List Envelope) → asking_last xs ≡ asking_last ys → asking_last (xs ++ zs) ≡ asking_last (ys ++ zs)
asking-on xs ys zs e = appended xs zs ∙ (ap (λ n. if all zs then n + length zs else asking_last zs) e ∙ sym (appended ys zs))
