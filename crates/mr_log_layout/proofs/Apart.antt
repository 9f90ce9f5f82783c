-- No two names have one path.
use Rattle.std.proofs.Common.{◌≡◌, ◌<◌, ◌≤◌, ℕ, true, false, nat_eq, List, [], ◌∷◌, ◌++◌, codes, decimal, get_or, drop, map, refl, sym, ap, ap₂, ◌∙◌, subst, arith, true≢false}
use Rattle.std.specs.List.{list_all, AllByRecursion}
use Rattle.std.specs.Char.{is_ascii_digit}
use Rattle.std.specs.Int.Digits.{AllBelowBase}
use Rattle.std.proofs.lemmas.Bool.{and_parts}
use Rattle.std.proofs.lemmas.Bool.Decides.{nat_tests}
use Rattle.std.proofs.lemmas.Fmt.{decimal_injective}
use Rattle.mr_ids.specs.Attempt.{Attempt}
use Rattle.mr_ids.specs.Text.{numeral, attempt_text}
use Rattle.mr_ids.proofs.Numerals.{numeral_digits}
use Rattle.mr_ids.proofs.Texts.{numeral_injective, attempt_text_injective}
use Rattle.mr_history.proofs.Cuts.{Lacks, no_cut, same_cut}
use Rattle.mr_history.proofs.Texts.{plain, attempt_plain}
use Rattle.mr_log_entries.specs.Numerals.{digit_byte, number_text}
use Rattle.mr_log_entries.proofs.Digits.{spelled, number_injective}
use Rattle.mr_log_layout.specs.Paths.{Name, job, names, marker, entry, summary, boot, work, kept, listing, sync, path_of, PathsAreApart}

-- ---- by the first byte of what stands below `_mrout`

other : (m n : Name) → nat_eq (get_or (path_of m) 7 0) (get_or (path_of n) 7 0) ≡ false → path_of m ≡ path_of n → ⊥
other m n apart e =
    let same : get_or (path_of m) 7 0 ≡ get_or (path_of n) 7 0 = ap (λ (l : List ℕ). get_or l 7 0) e in
    differ (get_or (path_of m) 7 0) (get_or (path_of n) 7 0) apart same
  where
    differ : (x y : ℕ) → nat_eq x y ≡ false → x ≡ y → ⊥
    differ x y apart same = grind (arith, nat_tests)

-- ---- of an attempt: its text has no full stop

plain_lacks : (xs : List ℕ) → list_all plain xs ≡ true → Lacks 46 xs
plain_lacks [] h = tt
plain_lacks (x ∷ xs) h =
    let p = and_parts (plain x) (list_all plain xs) h in
    (λ e. true≢false (sym p.0 ∙ ap plain e), plain_lacks xs p.1)

attempt_lacks : (a : Attempt) → Lacks 46 (attempt_text a)
attempt_lacks a = plain_lacks (attempt_text a) (attempt_plain a)

longer : (a b : Attempt) (rest : List ℕ) → attempt_text a ≡ attempt_text b ++ 46 ∷ rest → ⊥
longer a b rest e = no_cut 46 (attempt_text b) rest (subst (Lacks 46) e (attempt_lacks a))

parts : (a b : Attempt) (rest more : List ℕ) → attempt_text a ++ 46 ∷ rest ≡ attempt_text b ++ 46 ∷ more → (attempt_text a ≡ attempt_text b) × (rest ≡ more)
parts a b rest more e = same_cut 46 (attempt_text a) (attempt_text b) rest more (attempt_lacks a) (attempt_lacks b) e

-- a number in base 16 has no letter past `f`
low_digit : (d : ℕ) → d < 16 → digit_byte d ≤ 102
low_digit d less = grind (arith, nat_tests)

low_digits : (ds : List ℕ) → AllBelowBase 16 ds → AllByRecursion (λ b. b ≤ 102) (map digit_byte ds)
low_digits [] below = tt
low_digits (d ∷ ds) below = (low_digit d below.0, low_digits ds below.1)

no_word : (n : ℕ) → number_text 16 n ≡ codes "sync" → ⊥
no_word n e =
    let s = spelled 16 n (omega arith) in
    let h = subst (AllByRecursion (λ b. b ≤ 102)) (sym s.is ∙ e) (low_digits s.digits s.below) in
    let over : 115 ≤ 102 = h.0 in
    omega arith

-- an entry's number has digits alone
no_entry : (m n : ℕ) → numeral 8 m ≡ codes "upto." ++ decimal n → ⊥
no_entry m n e = true≢false (sym (numeral_digits 8 m) ∙ ap (list_all is_ascii_digit) e)

below : (k : ℕ) (xs ys : List ℕ) → xs ≡ ys → drop k xs ≡ drop k ys
below k xs ys e = ap (λ (l : List ℕ). drop k l) e

pub apart : PathsAreApart
apart job job i j e = refl
apart names names i j e = refl
apart marker marker i j e = refl
apart (entry m) (entry n) i j e = ap entry (numeral_injective 8 8 m n (below 11 (path_of (entry m)) (path_of (entry n)) e))
apart (entry m) (summary n) i j e = absurd (no_entry m n (below 11 (path_of (entry m)) (path_of (summary n)) e))
apart (summary m) (entry n) i j e = absurd (no_entry n m (sym (below 11 (path_of (summary m)) (path_of (entry n)) e)))
apart (summary m) (summary n) i j e = ap summary (decimal_injective m n (omega (arith, i)) (omega (arith, j)) (below 16 (path_of (summary m)) (path_of (summary n)) e))
apart (boot m) (boot n) i j e = ap boot (number_injective 16 m n (omega arith) (omega arith) (below 13 (path_of (boot m)) (path_of (boot n)) e))
apart (work a) (work b) i j e = ap work (attempt_text_injective a b (below 12 (path_of (work a)) (path_of (work b)) e))
apart (kept a) (kept b) i j e = ap kept (attempt_text_injective a b (below 12 (path_of (kept a)) (path_of (kept b)) e))
apart (kept a) (listing b id) i j e = absurd (longer a b (number_text 16 id) (below 12 (path_of (kept a)) (path_of (listing b id)) e))
apart (kept a) (sync b) i j e = absurd (longer a b (codes "sync") (below 12 (path_of (kept a)) (path_of (sync b)) e))
apart (listing a id) (kept b) i j e = absurd (longer b a (number_text 16 id) (sym (below 12 (path_of (listing a id)) (path_of (kept b)) e)))
apart (listing a m) (listing b n) i j e =
    let p = parts a b (number_text 16 m) (number_text 16 n) (below 12 (path_of (listing a m)) (path_of (listing b n)) e) in
    ap₂ listing (attempt_text_injective a b p.0) (number_injective 16 m n (omega arith) (omega arith) p.1)
apart (listing a m) (sync b) i j e = absurd (no_word m (parts a b (number_text 16 m) (codes "sync") (below 12 (path_of (listing a m)) (path_of (sync b)) e)).1)
apart (sync a) (kept b) i j e = absurd (longer b a (codes "sync") (sym (below 12 (path_of (sync a)) (path_of (kept b)) e)))
apart (sync a) (listing b n) i j e = absurd (no_word n (sym (parts a b (codes "sync") (number_text 16 n) (below 12 (path_of (sync a)) (path_of (listing b n)) e)).1))
apart (sync a) (sync b) i j e = ap sync (attempt_text_injective a b (parts a b (codes "sync") (codes "sync") (below 12 (path_of (sync a)) (path_of (sync b)) e)).0)
apart m n i j e = absurd (other m n refl e)
