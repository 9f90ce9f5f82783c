-- Bytes are in the order of the numbers that their first eight make.
use Rattle.std.proofs.Common.{◌≡◌, ◌≢◌, ℕ, zero, suc, ◌+◌, ◌*◌, ◌<◌, ◌≤◌, List, [], ◌∷◌, length, refl, sym, ap, subst, ◌∙◌, arith}
use Rattle.std.proofs.lemmas.Cmp.{nat_list_cmp_total}
use Rattle.std.specs.Cmp.{nat_cmp_is, ranks}
use Rattle.std.specs.Cmp.Lexicographic.{slice_cmp}
use Rattle.std.specs.Int.{w64, from_be_bytes}
use Rattle.std.specs.Ordering.{nat_cmp, ordering_then, ordering_reverse, MatchOrdering}
use Rattle.std.specs.declared.cmp.Ordering.{Ordering}
use Rattle.std.specs.declared.cmp.Ordering.TheVariants.{Less, Equal, Greater}
use Rattle.mr_user.specs.Laws.{AreBytes}

-- the number that the first so many bytes make behind a number, zeros for those that are wanting
abbrev pub behind : ℕ → ℕ → List ℕ → ℕ
behind zero n bytes = n
behind (suc k) n [] = behind k (n * 256) []
behind (suc k) n (b ∷ bytes) = behind k (n * 256 + b) bytes

pub behind_front : (bytes : List ℕ) → from_be_bytes w64 bytes ≡ behind 8 0 bytes
behind_front [] = omega arith
behind_front (a ∷ []) = omega arith
behind_front (a ∷ b ∷ []) = omega arith
behind_front (a ∷ b ∷ c ∷ []) = omega arith
behind_front (a ∷ b ∷ c ∷ d ∷ []) = omega arith
behind_front (a ∷ b ∷ c ∷ d ∷ e ∷ []) = omega arith
behind_front (a ∷ b ∷ c ∷ d ∷ e ∷ f ∷ []) = omega arith
behind_front (a ∷ b ∷ c ∷ d ∷ e ∷ f ∷ g ∷ []) = omega arith
behind_front (a ∷ b ∷ c ∷ d ∷ e ∷ f ∷ g ∷ h ∷ bytes) = omega arith

-- a lesser number stays less, whatever comes behind
less_stays : (k m n : ℕ) (xs ys : List ℕ) → AreBytes xs → m < n → behind k m xs < behind k n ys
less_stays zero m n xs ys a h = h
less_stays (suc k) m n [] [] a h = less_stays k (m * 256) (n * 256) [] [] tt (omega arith)
less_stays (suc k) m n [] (y ∷ ys) a h = less_stays k (m * 256) (n * 256 + y) [] ys tt (omega arith)
less_stays (suc k) m n (x ∷ xs) [] a h = let byte : x < 256 = a.0 in less_stays k (m * 256 + x) (n * 256) xs [] a.1 (omega arith)
less_stays (suc k) m n (x ∷ xs) (y ∷ ys) a h = let byte : x < 256 = a.0 in less_stays k (m * 256 + x) (n * 256 + y) xs ys a.1 (omega arith)

-- nothing makes no more than something
none_least : (k m n : ℕ) (ys : List ℕ) → m ≤ n → behind k m [] ≤ behind k n ys
none_least zero m n ys h = h
none_least (suc k) m n [] h = none_least k (m * 256) (n * 256) [] (omega arith)
none_least (suc k) m n (y ∷ ys) h = none_least k (m * 256) (n * 256 + y) ys (omega arith)

is_less : (m n : ℕ) → m < n → nat_cmp m n ≡ Less
is_less m n h = sym (nat_cmp_is m n Less h)

is_equal : (m n : ℕ) → m ≡ n → nat_cmp m n ≡ Equal
is_equal m n h = sym (nat_cmp_is m n Equal h)

is_greater : (m n : ℕ) → n < m → nat_cmp m n ≡ Greater
is_greater m n h = sym (nat_cmp_is m n Greater h)

rank : (m n : ℕ) (o : Ordering) → nat_cmp m n ≡ o → MatchOrdering o (m < n) (m ≡ n) (n < m)
rank m n o e = subst (λ o. MatchOrdering o (m < n) (m ≡ n) (n < m)) e (ranks m n)

-- a lesser front decides
pub less_front : (k n : ℕ) (xs ys : List ℕ) → AreBytes xs → AreBytes ys → behind k n xs < behind k n ys → slice_cmp nat_cmp xs ys ≡ Less
less_front zero n xs ys a b h = absurd (omega arith)
less_front (suc k) n [] [] a b h = absurd (omega arith)
less_front (suc k) n [] (y ∷ ys) a b h = refl
less_front (suc k) n (x ∷ xs) [] a b h = let least = none_least k (n * 256) (n * 256 + x) xs (omega arith) in absurd (omega arith)
less_front (suc k) n (x ∷ xs) (y ∷ ys) a b h = by (nat_cmp x y) refl (λ l. less_front k (n * 256 + y) xs ys a.1 b.1 l) where
  by : (o : Ordering) → nat_cmp x y ≡ o → (behind k (n * 256 + y) xs < behind k (n * 256 + y) ys → slice_cmp nat_cmp xs ys ≡ Less) → ordering_then o (slice_cmp nat_cmp xs ys) ≡ Less
  by Less e rest = refl
  by Equal e rest =
      let same : x ≡ y = rank x y Equal e in
      rest (subst (λ (z : ℕ). behind k (n * 256 + z) xs < behind k (n * 256 + y) ys) same h)
  by Greater e rest =
      let more : y < x = rank x y Greater e in
      let less = less_stays k (n * 256 + y) (n * 256 + x) ys xs b.1 (omega arith) in
      absurd (omega arith)

-- with equal fronts of which neither leaves out a byte, the shorter is less
pub same_front : (k n : ℕ) (xs ys : List ℕ) → AreBytes xs → AreBytes ys → length xs ≤ k → length ys ≤ k → behind k n xs ≡ behind k n ys → slice_cmp nat_cmp xs ys ≡ nat_cmp (length xs) (length ys)
same_front k n [] [] a b h i e = refl
same_front zero n [] (y ∷ ys) a b h i e = absurd (omega arith)
same_front zero n (x ∷ xs) ys a b h i e = absurd (omega arith)
same_front (suc k) n [] (y ∷ ys) a b h i e = sym (is_less 0 (suc (length ys)) (omega arith))
same_front (suc k) n (x ∷ xs) [] a b h i e = sym (is_greater (suc (length xs)) 0 (omega arith))
same_front (suc k) n (x ∷ xs) (y ∷ ys) a b h i e = by (nat_cmp x y) refl (λ f. same_front k (n * 256 + y) xs ys a.1 b.1 (omega arith) (omega arith) f) where
  one_more : (i j : ℕ) (o : Ordering) → nat_cmp i j ≡ o → nat_cmp i j ≡ nat_cmp (suc i) (suc j)
  one_more i j Less e = let r : i < j = rank i j Less e in e ∙ sym (is_less (suc i) (suc j) (omega arith))
  one_more i j Equal e = let r : i ≡ j = rank i j Equal e in e ∙ sym (is_equal (suc i) (suc j) (ap (λ n. suc n) r))
  one_more i j Greater e = let r : j < i = rank i j Greater e in e ∙ sym (is_greater (suc i) (suc j) (omega arith))

  by : (o : Ordering) → nat_cmp x y ≡ o → (behind k (n * 256 + y) xs ≡ behind k (n * 256 + y) ys → slice_cmp nat_cmp xs ys ≡ nat_cmp (length xs) (length ys)) →
      ordering_then o (slice_cmp nat_cmp xs ys) ≡ nat_cmp (suc (length xs)) (suc (length ys))
  by Less o rest =
      let less : x < y = rank x y Less o in
      let stays = less_stays k (n * 256 + x) (n * 256 + y) xs ys a.1 (omega arith) in
      absurd (omega arith)
  by Equal o rest =
      let same : x ≡ y = rank x y Equal o in
      rest (subst (λ (z : ℕ). behind k (n * 256 + z) xs ≡ behind k (n * 256 + y) ys) same e)
      ∙ one_more (length xs) (length ys) _ refl
  by Greater o rest =
      let more : y < x = rank x y Greater o in
      let stays = less_stays k (n * 256 + y) (n * 256 + x) ys xs b.1 (omega arith) in
      absurd (omega arith)

-- the order of bytes, by their fronts first
module _ (xs ys : List ℕ) (m n : ℕ) (a : AreBytes xs) (b : AreBytes ys) (front : m ≡ from_be_bytes w64 xs) (other : n ≡ from_be_bytes w64 ys) where
  pub fronts_less : m < n → slice_cmp nat_cmp xs ys ≡ Less
  fronts_less h = less_front 8 0 xs ys a b (omega (arith, behind_front xs, behind_front ys))

  pub fronts_greater : n < m → slice_cmp nat_cmp xs ys ≡ Greater
  fronts_greater h =
      nat_list_cmp_total.antisymm xs ys
      ∙ ap ordering_reverse (less_front 8 0 ys xs b a (omega (arith, behind_front xs, behind_front ys)))

  pub fronts_same : m ≡ n → length xs ≤ 8 → length ys ≤ 8 → slice_cmp nat_cmp xs ys ≡ nat_cmp (length xs) (length ys)
  fronts_same h i j = same_front 8 0 xs ys a b i j (sym (behind_front xs) ∙ sym front ∙ h ∙ other ∙ behind_front ys)

  pub fronts_apart : m ≢ n → nat_cmp m n ≡ slice_cmp nat_cmp xs ys
  fronts_apart h = by (nat_cmp m n) refl where
    by : (o : Ordering) → nat_cmp m n ≡ o → o ≡ slice_cmp nat_cmp xs ys
    by Less e = sym (fronts_less (rank m n Less e))
    by Equal e = absurd (h (rank m n Equal e))
    by Greater e = sym (fronts_greater (rank m n Greater e))
