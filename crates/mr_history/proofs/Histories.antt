-- Segments by their numbers.
use Rattle.std.proofs.Common.{◌≡◌, ◌≢◌, ◌<◌, ◌≤◌, ◌-◌, ℕ, zero, suc, Bool, true, false, cond, nat_lt, nat_eq, List, [], ◌∷◌, ◌++◌, length, take, drop, map, get_or, refl, sym, ap, ◌∙◌, arith}
use Rattle.std.proofs.lemmas.List.{get_or-set_same, get_or-set_other, length-set}
use Rattle.std.proofs.lemmas.Bool.Decides.{nat_tests}
use Rattle.mr_history.specs.State.{SegmentState, State}
use Rattle.mr_history.specs.Segment.{fresh, sealed}
use Rattle.mr_history.specs.Reading.{records_of}
use Rattle.mr_history.specs.Calls.{records_in, segment, with_segment, with_version, raised}

-- where some segments tell no record, none of them does
both_nothing : {A : Type 0} (xs ys : List A) → xs ++ ys ≡ [] → (xs ≡ []) × (ys ≡ [])
both_nothing [] ys e = (refl, e)
both_nothing (x ∷ xs) ys e = absurd (cc)

pub own_nothing : (xs : List SegmentState) (i : ℕ) (d : SegmentState) → i < length xs → records_in xs ≡ [] → records_of (get_or xs i d).stable ≡ []
own_nothing [] i d inside e = absurd (omega arith)
own_nothing (x ∷ xs) zero d inside e = (both_nothing (records_of x.stable) (records_in xs) e).0
own_nothing (x ∷ xs) (suc i) d inside e = own_nothing xs i d (omega arith) (both_nothing (records_of x.stable) (records_in xs) e).1

-- ---- one segment is changed

pub named : (h : State) (k : ℕ) (s : SegmentState) → 1 ≤ k → k ≤ length h.segments → segment (with_segment h k s) k ≡ s
named h k s low high = get_or-set_same h.segments (k - 1) s (fresh 1) (omega arith)

pub others : (h : State) (j k : ℕ) (s : SegmentState) → 1 ≤ j → 1 ≤ k → j ≢ k → segment (with_segment h k s) j ≡ segment h j
others h j k s lj lk apart = get_or-set_other h.segments (k - 1) (j - 1) s (fresh 1) (λ e. apart (omega arith))

-- the first ones changed
get_or-front : (f : SegmentState → SegmentState) (xs : List SegmentState) (n i : ℕ) (d : SegmentState) → i < length xs → get_or (map f (take n xs) ++ drop n xs) i d ≡ cond (nat_lt i n) (f (get_or xs i d)) (get_or xs i d)
get_or-front f [] n i d h = absurd (omega arith)
get_or-front f (x ∷ xs) zero zero d h = refl
get_or-front f (x ∷ xs) zero (suc i) d h = let e : nat_lt (suc i) 0 ≡ false = grind (arith, nat_tests) in rw e refl
get_or-front f (x ∷ xs) (suc n) zero d h = let e : nat_lt 0 (suc n) ≡ true = grind (arith, nat_tests) in rw e refl
get_or-front f (x ∷ xs) (suc n) (suc i) d h = let e : nat_lt (suc i) (suc n) ≡ nat_lt i n = grind (arith, nat_tests) in get_or-front f xs n i d (omega arith) ∙ ap (λ t. cond t (f (get_or xs i d)) (get_or xs i d)) (sym e)

length-front : (f : SegmentState → SegmentState) (xs : List SegmentState) (n : ℕ) → length (map f (take n xs) ++ drop n xs) ≡ length xs
length-front f [] zero = refl
length-front f [] (suc n) = refl
length-front f (x ∷ xs) zero = refl
length-front f (x ∷ xs) (suc n) = ap suc (length-front f xs n)

before : (j k : ℕ) → 1 ≤ j → nat_lt (j - 1) (k - 1) ≡ nat_lt j k
before j k h = grind (arith, nat_tests)

-- those before k sealed, and the fence raised
sealed_before : ℕ → ℕ → State → State
sealed_before k kept h = record { segments = map (sealed kept) (take (k - 1) h.segments) ++ drop (k - 1) h.segments; fence = k }

segment-sealed : (h : State) (j k kept : ℕ) → 1 ≤ j → j ≤ length h.segments → segment (sealed_before k kept h) j ≡ cond (nat_lt j k) (sealed kept (segment h j)) (segment h j)
unfolding sealed_before
segment-sealed h j k kept low high = get_or-front (sealed kept) h.segments (k - 1) (j - 1) (fresh 1) (omega arith) ∙ ap (λ t. cond t (sealed kept (segment h j)) (segment h j)) (before j k low)

pub raised-above : (h : State) (k kept version : ℕ) → h.fence < k → raised k kept version h ≡ with_segment (record { segments = map (sealed kept) (take (k - 1) h.segments) ++ drop (k - 1) h.segments; fence = k }) k (with_version version (segment h k))
raised-above h k kept version above = let e : nat_lt h.fence k ≡ true = grind (arith, nat_tests) in rw e refl

pub raised-below : (h : State) (k kept version : ℕ) → k ≤ h.fence → raised k kept version h ≡ h
raised-below h k kept version low = let e : nat_lt h.fence k ≡ false = grind (arith, nat_tests) in rw e refl

pub segment-raised : (h : State) (j k kept version : ℕ) → 1 ≤ j → j ≤ length h.segments → h.fence < k → segment (raised k kept version h) j ≡ cond (nat_eq j k) (with_version version (segment h j)) (cond (nat_lt j k) (sealed kept (segment h j)) (segment h j))
unfolding sealed_before
segment-raised h j k kept version low high above = ap (λ s. segment s j) (raised-above h k kept version above) ∙ by (nat_eq j k) refl
  where
    len : length (sealed_before k kept h).segments ≡ length h.segments
    len = length-front (sealed kept) h.segments (k - 1)

    by : (b : Bool) → nat_eq j k ≡ b → segment (with_segment (sealed_before k kept h) k (with_version version (segment h k))) j ≡ cond b (with_version version (segment h j)) (cond (nat_lt j k) (sealed kept (segment h j)) (segment h j))
    by true e =
        let is : k ≡ j = grind (arith, nat_tests) in
        ap (λ n. segment (with_segment (sealed_before k kept h) n (with_version version (segment h n))) j) is ∙ named (sealed_before k kept h) j (with_version version (segment h j)) low (omega (arith, len))
    by false e =
        let apart : j ≢ k = grind (arith, nat_tests) in
        let some : 1 ≤ k = omega arith in
        others (sealed_before k kept h) j k (with_version version (segment h k)) low some apart ∙ segment-sealed h j k kept low high

pub length-raised : (h : State) (k kept version : ℕ) → length (raised k kept version h).segments ≡ length h.segments
unfolding sealed_before
length-raised h k kept version = by (nat_lt h.fence k) refl
  where
    by : (b : Bool) → nat_lt h.fence k ≡ b → length (raised k kept version h).segments ≡ length h.segments
    by true e = rw e (length-set (sealed_before k kept h).segments (k - 1) (with_version version (segment h k)) ∙ length-front (sealed kept) h.segments (k - 1))
    by false e = rw e refl
