-- The names of part files stand in the order of their numbers, and a listing that has them shows them in that order.
use Rattle.std.proofs.Common.{◌≡◌, ℕ, zero, suc, ◌+◌, ◌-◌, ◌*◌, ◌/◌, ◌%◌, ◌<◌, ◌≤◌, nat_lt, ◌==◌, cond, refl, sym, ◌∙◌, ap, subst, Bool, true, false, ◌||◌, List, [], ◌∷◌, ◌++◌, map, length, length-append, append_assoc, append-nil, ◌⊎◌, inl, inr, Ordering, Less, Equal, Greater, arith, ltb-true, ltb-false}
use Rattle.std.specs.Prelude.{replicate, codes}
use Rattle.std.specs.List.{flat_map}
use Rattle.std.specs.Int.Digits.{digits_of}
use Rattle.std.proofs.lemmas.Int.Digits.{digits_of_step}
use Rattle.std.proofs.lemmas.List.{map-append}
use Rattle.std.proofs.lemmas.Bool.{false≢true, true≢false, lt-ltb, eq-eqb}
use Rattle.std.specs.Cmp.{tied_itself}
use Rattle.std.specs.Cmp.Lexicographic.{slice_cmp, nat_list_cmp_total}
use Rattle.std.specs.Ordering.{nat_cmp, ordering_then}
use Rattle.mr_ids.specs.Text.{numeral}
use Rattle.mr_paths.specs.Layout as layout
use Rattle.mr_world_model.specs.Ids.{Name, name_eq}
use Rattle.mr_world_model.specs.Content.{Listed}
use Rattle.mr_world_model.proofs.Basic.{or_parts}
use Rattle.mr_world_model.proofs.Lists.{Each}
use Rattle.mr_world_model.proofs.Names.{name_eq-true, name_eq-refl}
use Rattle.mr_world_model.proofs.Listing.{has_name}
use Rattle.mr_world_model.proofs.Sorted.{Before, before-not, Above, Rises}

-- ---- numerals of one width

-- below this a number has at most k digits
bound : ℕ → ℕ
bound zero = 1
bound (suc k) = 10 * bound k

-- a number by k digits, zeros in front
padded : ℕ → ℕ → List ℕ
padded zero n = []
padded (suc k) n = padded k (n / 10) ++ (48 + n % 10) ∷ []

replicate-last : (k : ℕ) → replicate {A = ℕ} (suc k) 48 ≡ replicate k 48 ++ 48 ∷ []
replicate-last zero = refl
replicate-last (suc k) = ap (λ xs. 48 ∷ xs) (replicate-last k)

zeros : (k : ℕ) → replicate {A = ℕ} k 48 ≡ padded k 0
unfolding padded
zeros zero = refl
zeros (suc k) = replicate-last k ∙ ap (λ xs. xs ++ 48 ∷ []) (zeros k)

spelled : (k : ℕ) (ds : List ℕ) → List ℕ
spelled k ds = replicate {A = ℕ} (k - length ds) 48 ++ map (λ d. 48 + d) ds

spelled-none : (k : ℕ) → spelled k [] ≡ replicate {A = ℕ} k 48
unfolding spelled
spelled-none k = append-nil _ ∙ ap (λ z. replicate {A = ℕ} z 48) (let e : k - 0 ≡ k = omega arith in e)

spelled-more : (k d : ℕ) (ds : List ℕ) → spelled (suc k) (ds ++ d ∷ []) ≡ spelled k ds ++ (48 + d) ∷ []
unfolding spelled
spelled-more k d ds =
    let less : suc k - length (ds ++ d ∷ []) ≡ k - length ds = omega (arith, length-append ds (d ∷ [])) in
    (λ i. replicate {A = ℕ} (less i) 48 ++ map-append (λ x. 48 + x) ds (d ∷ []) i) ∙ sym (append_assoc (replicate {A = ℕ} (k - length ds) 48) (map (λ x. 48 + x) ds) ((48 + d) ∷ []))

spelled-padded : (k n : ℕ) → n < bound k → spelled k (digits_of 10 n) ≡ padded k n
unfolding bound padded
spelled-padded zero zero h = spelled-none 0
spelled-padded zero (suc m) h = absurd (omega (arith, h))
spelled-padded (suc k) zero h = spelled-none (suc k) ∙ zeros (suc k)
spelled-padded (suc k) (suc m) h =
    let small : suc m / 10 < bound k = omega (arith, h) in
    ap (spelled (suc k)) (digits_of_step 10 (suc m) (omega arith) (omega arith)) ∙ (spelled-more k (suc m % 10) (digits_of 10 (suc m / 10)) ∙ ap (λ xs. xs ++ (48 + suc m % 10) ∷ []) (spelled-padded k (suc m / 10) small))

numeral-padded : (n : ℕ) → n < 100000 → numeral 5 n ≡ padded 5 n
unfolding spelled bound
numeral-padded n h = spelled-padded 5 n h

-- the last byte decides where all before it are the same
last-decides : (xs ys : List ℕ) (x y : ℕ) → length xs ≡ length ys → slice_cmp nat_cmp (xs ++ x ∷ []) (ys ++ y ∷ []) ≡ ordering_then (slice_cmp nat_cmp xs ys) (nat_cmp x y)
last-decides [] [] x y e = by (nat_cmp x y)
  where
    by : (o : Ordering) → ordering_then o Equal ≡ ordering_then Equal o
    by Less = refl
    by Equal = refl
    by Greater = refl
last-decides [] (z ∷ ys) x y e = absurd (omega (arith, e))
last-decides (z ∷ xs) [] x y e = absurd (omega (arith, e))
last-decides (u ∷ xs) (v ∷ ys) x y e = by (nat_cmp u v) (last-decides xs ys x y (omega (arith, e)))
  where
    by : (o : Ordering) → slice_cmp nat_cmp (xs ++ x ∷ []) (ys ++ y ∷ []) ≡ ordering_then (slice_cmp nat_cmp xs ys) (nat_cmp x y) →
        ordering_then o (slice_cmp nat_cmp (xs ++ x ∷ []) (ys ++ y ∷ [])) ≡ ordering_then (ordering_then o (slice_cmp nat_cmp xs ys)) (nat_cmp x y)
    by Less go = refl
    by Equal go = go
    by Greater go = refl

padded-length : (k n : ℕ) → length (padded k n) ≡ k
unfolding padded
padded-length zero n = refl
padded-length (suc k) n = length-append (padded k (n / 10)) _ ∙ (let e : length (padded k (n / 10)) + 1 ≡ suc k = omega (arith, padded-length k (n / 10)) in e)

nat-less : (a b : ℕ) → a < b → nat_cmp a b ≡ Less
nat-less a b h = rw (lt-ltb a b h) refl

padded-less : (k a b : ℕ) → a < b → b < bound k → slice_cmp nat_cmp (padded k a) (padded k b) ≡ Less
unfolding bound padded
padded-less zero a b h z = absurd (omega (arith, h, z))
padded-less (suc k) a b h z = last-decides (padded k (a / 10)) (padded k (b / 10)) (48 + a % 10) (48 + b % 10) (padded-length k (a / 10) ∙ sym (padded-length k (b / 10))) ∙ by (λ l. padded-less k (a / 10) (b / 10) l (omega (arith, z))) (nat_lt (a / 10) (b / 10)) refl
  where
    by : (a / 10 < b / 10 → slice_cmp nat_cmp (padded k (a / 10)) (padded k (b / 10)) ≡ Less) → (t : Bool) → nat_lt (a / 10) (b / 10) ≡ t → ordering_then (slice_cmp nat_cmp (padded k (a / 10)) (padded k (b / 10))) (nat_cmp (48 + a % 10) (48 + b % 10)) ≡ Less
    by go true t = ap (λ o. ordering_then o (nat_cmp (48 + a % 10) (48 + b % 10))) (go (ltb-true (a / 10) (b / 10) t))
    by go false f =
        let same : a / 10 ≡ b / 10 = omega (arith, h, ltb-false (a / 10) (b / 10) f) in
        ap (λ o. ordering_then o (nat_cmp (48 + a % 10) (48 + b % 10))) (ap (λ x. slice_cmp nat_cmp (padded k (a / 10)) (padded k x)) (sym same) ∙ tied_itself nat_list_cmp_total (padded k (a / 10)))
        ∙ nat-less (48 + a % 10) (48 + b % 10) (omega (arith, h, same))

-- ---- names in order

-- the names of n part files, from a on
abbrev pub names_from : ℕ → ℕ → List Name
names_from a zero = []
names_from a (suc n) = layout.part a ∷ names_from (a + 1) n

part-before : (a b : ℕ) → a < b → b < 100000 → Before (layout.part a) (layout.part b)
unfolding layout.part bound
part-before a b h z = (λ i. slice_cmp nat_cmp (codes "part-r-" ++ numeral-padded a (omega (arith, h, z)) i) (codes "part-r-" ++ numeral-padded b z i)) ∙ padded-less 5 a b h z

abbrev Rise : List Name → Type 0
Rise [] = Unit {0}
Rise (n ∷ ns) = Each (λ m. Before n m) ns × Rise ns

parts-before : (a b n : ℕ) → a < b → b + n ≤ 100000 → Each (λ m. Before (layout.part a) m) (names_from b n)
parts-before a b zero h z = tt
parts-before a b (suc n) h z = (part-before a b h (omega (arith, z)), parts-before a (b + 1) n (omega (arith, h)) (omega (arith, z)))

pub names-rise : (a n : ℕ) → a + n ≤ 100000 → Rise (names_from a n)
names-rise a zero z = tt
names-rise a (suc n) z = (parts-before a (a + 1) n (omega arith) (omega (arith, z)), names-rise (a + 1) n (omega (arith, z)))

-- ---- a listing that has these names

abbrev pub is_one : List Name → Name → Bool
is_one [] m = false
is_one (n ∷ ns) m = name_eq n m || is_one ns m

before-trans : (a b c : Name) → Before a b → Before b c → Before a c
before-trans a b c = nat_list_cmp_total.trans a b c

above-name : (x n : Name) (ls : List Listed) → Each (Above x) ls → has_name ls n ≡ true → Before x n
above-name x n [] p e = absurd (false≢true e)
above-name x n (l ∷ ls) p e = by (above-name x n ls p.1) (or_parts (name_eq l.name n) (has_name ls n) e)
  where
    by : (has_name ls n ≡ true → Before x n) → (name_eq l.name n ≡ true) ⊎ (has_name ls n ≡ true) → Before x n
    by go (inl u) = subst (λ z. Before x z) (name_eq-true l.name n u) p.0
    by go (inr v) = go v

not-one : (x : Name) (ns : List Name) → Each (λ m. Before x m) ns → is_one ns x ≡ true → ⊥
not-one x [] p e = false≢true e
not-one x (n ∷ ns) p e = by (not-one x ns p.1) (or_parts (name_eq n x) (is_one ns x) e)
  where
    by : (is_one ns x ≡ true → ⊥) → (name_eq n x ≡ true) ⊎ (is_one ns x ≡ true) → ⊥
    by go (inl u) = before-not x (subst (λ z. Before x z) (name_eq-true n x u) p.0)
    by go (inr v) = go v

beyond : (x n : Name) (ns : List Name) → Before x n → Each (λ m. Before n m) ns → Each (λ m. Before x m) ns
beyond x n [] h p = tt
beyond x n (m ∷ ns) h p = (before-trans x n m h p.0, beyond x n ns h p.1)

-- names behind the first of a listing are in the rest of it
in-rest : (l : Listed) (ls : List Listed) (ns : List Name) → Each (λ m. Before l.name m) ns → Each (λ m. has_name (l ∷ ls) m ≡ true) ns → Each (λ m. has_name ls m ≡ true) ns
in-rest l ls [] p a = tt
in-rest l ls (m ∷ ns) p a = (by (or_parts (name_eq l.name m) (has_name ls m) a.0), in-rest l ls ns p.1 a.1)
  where
    by : (name_eq l.name m ≡ true) ⊎ (has_name ls m ≡ true) → has_name ls m ≡ true
    by (inl u) = absurd (before-not m (subst (λ z. Before z m) (name_eq-true l.name m u) p.0))
    by (inr v) = v

module _ {A : Type 0} (f : Name → List A) where
  abbrev Silent : List Name → Listed → Type 0
  Silent ns l = (is_one ns l.name ≡ true) ⊎ (f l.name ≡ [])

  silent-rest : (n : Name) (ns : List Name) (ls : List Listed) → Each (Above n) ls → Each (Silent (n ∷ ns)) ls → Each (Silent ns) ls
  silent-rest n ns [] p b = tt
  silent-rest n ns (l ∷ ls) p b = (by b.0, silent-rest n ns ls p.1 b.1)
    where
      one : (name_eq n l.name ≡ true) ⊎ (is_one ns l.name ≡ true) → Silent ns l
      one (inl u) = absurd (before-not n (subst (λ z. Before n z) (sym (name_eq-true n l.name u)) p.0))
      one (inr v) = inl v

      by : Silent (n ∷ ns) l → Silent ns l
      by (inl t) = one (or_parts (name_eq n l.name) (is_one ns l.name) t)
      by (inr z) = inr z

  abbrev Shown : List Listed → List Name → Type 0
  Shown ls ns = flat_map (λ (l : Listed). f l.name) ls ≡ flat_map f ns

  abbrev Shows : List Listed → List Name → Type 0
  Shows ls ns = Rise ns → Each (λ n. has_name ls n ≡ true) ns → Each (Silent ns) ls → Shown ls ns

  -- a rising listing that has all these names, and of whose others nothing is shown, shows these, in order
  pub shown : (ls : List Listed) (ns : List Name) → Rises ls → Shows ls ns
  shown [] [] r s a b = refl
  shown [] (n ∷ ns) r s a b = absurd (false≢true a.0)
  shown (l ∷ ls) [] r s a b = none (shown ls [] r.1 tt tt b.1) b.0
    where
      none : Shown ls [] → Silent [] l → Shown (l ∷ ls) []
      none go (inl t) = absurd (false≢true t)
      none go (inr z) = (λ i. z i ++ go i)
  shown (l ∷ ls) (n ∷ ns) r s a b = by (shown ls ns r.1) (shown ls (n ∷ ns) r.1) (name_eq l.name n) refl
    where
      silent : Each (λ m. Before l.name m) (n ∷ ns) → Silent (n ∷ ns) l → flat_map (λ (l : Listed). f l.name) (l ∷ ls) ≡ flat_map (λ (l : Listed). f l.name) ls
      silent behind (inl u) = absurd (not-one l.name (n ∷ ns) behind u)
      silent behind (inr z) = ap (λ x. x ++ flat_map (λ (l : Listed). f l.name) ls) z

      one : Shows ls (n ∷ ns) → name_eq l.name n ≡ false → (name_eq l.name n ≡ true) ⊎ (has_name ls n ≡ true) → Shown (l ∷ ls) (n ∷ ns)
      one all t (inl u) = absurd (true≢false (sym u ∙ t))
      one all t (inr v) =
          let first = above-name l.name n ls r.0 v in
          let behind : Each (λ m. Before l.name m) (n ∷ ns) = (first, beyond l.name n ns first s.0) in
          silent behind b.0 ∙ all s (in-rest l ls (n ∷ ns) behind a) b.1

      by : Shows ls ns → Shows ls (n ∷ ns) → (t : Bool) → name_eq l.name n ≡ t → Shown (l ∷ ls) (n ∷ ns)
      by rest all true t =
          let q : l.name ≡ n = name_eq-true l.name n t in
          let behind = subst (λ z. Each (λ m. Before z m) ns) (sym q) s.0 in
          let above = subst (λ z. Each (Above z) ls) q r.0 in
          let go = rest s.1 (in-rest l ls ns behind a.1) (silent-rest n ns ls above b.1) in
          (λ i. f (q i) ++ go i)
      by rest all false t = one all t (or_parts (name_eq l.name n) (has_name ls n) a.0)
