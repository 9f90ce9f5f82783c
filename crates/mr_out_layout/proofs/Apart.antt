-- No two names have one path.
use Rattle.std.proofs.Common.{◌≡◌, ◌≢◌, ◌≤◌, ℕ, drop, get_or, List, [], ◌∷◌, ◌++◌, refl, sym, ap, ◌∙◌, arith}
use Rattle.std.specs.List.{AllByRecursion}
use Rattle.std.proofs.lemmas.List.{append_cancel_right}
use Rattle.mr_ids.specs.Attempt.{Attempt}
use Rattle.mr_ids.specs.Text.{numeral, attempt_text, IsAttempt}
use Rattle.mr_ids.proofs.Texts.{numeral_injective, attempt_text_injective, attempt_text_plain, plain-All}
use Rattle.mr_out_disk.specs.declared.place.Place.TheVariants.{Part, Marker, Kept, Work, Decision, Home}
use Rattle.mr_out_layout.specs.Layout.{part_name, path_of, PathsAreApart}

abbrev Above : List ℕ → Type 0
Above bs = AllByRecursion (λ b. 48 ≤ b) bs

-- a slash stands below what an attempt's text has
above : (a : Attempt) → IsAttempt a → Above (attempt_text a)
above a is = plain-All (λ b. 48 ≤ b) (λ b low top. low) (attempt_text a) (attempt_text_plain a is).plain

same-front : (xs ys us vs : List ℕ) → Above xs → Above ys → xs ++ 47 ∷ us ≡ ys ++ 47 ∷ vs → xs ≡ ys
same-front [] [] us vs p q e = refl
same-front [] (y ∷ ys) us vs p q e = let h : 47 ≡ y = ap (λ (zs : List ℕ). get_or zs 0 0) e in let l : 48 ≤ y = q.0 in absurd (omega arith)
same-front (x ∷ xs) [] us vs p q e = let h : x ≡ 47 = ap (λ (zs : List ℕ). get_or zs 0 0) e in let l : 48 ≤ x = p.0 in absurd (omega arith)
same-front (x ∷ xs) (y ∷ ys) us vs p q e =
    let h : x ≡ y = ap (λ (zs : List ℕ). get_or zs 0 0) e in
    let t : xs ++ 47 ∷ us ≡ ys ++ 47 ∷ vs = ap (λ (zs : List ℕ). drop 1 zs) e in
    let r : xs ≡ ys = same-front xs ys us vs p.1 q.1 t in
    cc

-- the paths differ in this byte
other : (n x y : ℕ) (xs ys : List ℕ) → xs ≡ ys → get_or xs n 0 ≡ x → get_or ys n 0 ≡ y → x ≢ y → ⊥
other n x y xs ys e p q apart = absurd (apart (sym p ∙ ap (λ (zs : List ℕ). get_or zs n 0) e ∙ q))

pub apart : PathsAreApart
apart s (Part m) (Part n) i j e =
    let h : numeral 5 m ++ s ≡ numeral 5 n ++ s = ap (λ (xs : List ℕ). drop 7 xs) e in
    ap (λ (k : ℕ). Part k) (numeral_injective 5 5 m n (append_cancel_right (numeral 5 m) (numeral 5 n) s h))
apart s (Part m) Marker i j e = absurd (other 0 112 95 (path_of s (Part m)) (path_of s Marker) e refl refl (λ h. omega (arith, h)))
apart s (Part m) (Kept b) i j e = absurd (other 0 112 95 (path_of s (Part m)) (path_of s (Kept b)) e refl refl (λ h. omega (arith, h)))
apart s (Part m) (Work b) i j e = absurd (other 0 112 95 (path_of s (Part m)) (path_of s (Work b)) e refl refl (λ h. omega (arith, h)))
apart s (Part m) Decision i j e = absurd (other 0 112 95 (path_of s (Part m)) (path_of s Decision) e refl refl (λ h. omega (arith, h)))
apart s (Part m) Home i j e = absurd (other 0 112 95 (path_of s (Part m)) (path_of s Home) e refl refl (λ h. omega (arith, h)))
apart s Marker (Part n) i j e = absurd (other 0 95 112 (path_of s Marker) (path_of s (Part n)) e refl refl (λ h. omega (arith, h)))
apart s Marker Marker i j e = refl
apart s Marker (Kept b) i j e = absurd (other 1 83 109 (path_of s Marker) (path_of s (Kept b)) e refl refl (λ h. omega (arith, h)))
apart s Marker (Work b) i j e = absurd (other 1 83 109 (path_of s Marker) (path_of s (Work b)) e refl refl (λ h. omega (arith, h)))
apart s Marker Decision i j e = absurd (other 1 83 109 (path_of s Marker) (path_of s Decision) e refl refl (λ h. omega (arith, h)))
apart s Marker Home i j e = absurd (other 1 83 109 (path_of s Marker) (path_of s Home) e refl refl (λ h. omega (arith, h)))
apart s (Kept a) (Part n) i j e = absurd (other 0 95 112 (path_of s (Kept a)) (path_of s (Part n)) e refl refl (λ h. omega (arith, h)))
apart s (Kept a) Marker i j e = absurd (other 1 109 83 (path_of s (Kept a)) (path_of s Marker) e refl refl (λ h. omega (arith, h)))
apart s (Kept a) (Kept b) i j e =
    let h : attempt_text a ≡ attempt_text b = ap (λ (xs : List ℕ). drop 12 xs) e in
    ap (λ (x : Attempt). Kept x) (attempt_text_injective a b h)
apart s (Kept a) (Work b) i j e = absurd (other 7 107 119 (path_of s (Kept a)) (path_of s (Work b)) e refl refl (λ h. omega (arith, h)))
apart s (Kept a) Decision i j e = absurd (other 7 107 112 (path_of s (Kept a)) (path_of s Decision) e refl refl (λ h. omega (arith, h)))
apart s (Kept a) Home i j e = absurd (other 6 47 0 (path_of s (Kept a)) (path_of s Home) e refl refl (λ h. omega (arith, h)))
apart s (Work a) (Part n) i j e = absurd (other 0 95 112 (path_of s (Work a)) (path_of s (Part n)) e refl refl (λ h. omega (arith, h)))
apart s (Work a) Marker i j e = absurd (other 1 109 83 (path_of s (Work a)) (path_of s Marker) e refl refl (λ h. omega (arith, h)))
apart s (Work a) (Kept b) i j e = absurd (other 7 119 107 (path_of s (Work a)) (path_of s (Kept b)) e refl refl (λ h. omega (arith, h)))
apart s (Work a) (Work b) i j e =
    let h : attempt_text a ++ 47 ∷ part_name s a.task.number ≡ attempt_text b ++ 47 ∷ part_name s b.task.number = ap (λ (xs : List ℕ). drop 12 xs) e in
    ap (λ (x : Attempt). Work x) (attempt_text_injective a b (same-front (attempt_text a) (attempt_text b) (part_name s a.task.number) (part_name s b.task.number) (above a i) (above b j) h))
apart s (Work a) Decision i j e = absurd (other 7 119 112 (path_of s (Work a)) (path_of s Decision) e refl refl (λ h. omega (arith, h)))
apart s (Work a) Home i j e = absurd (other 6 47 0 (path_of s (Work a)) (path_of s Home) e refl refl (λ h. omega (arith, h)))
apart s Decision (Part n) i j e = absurd (other 0 95 112 (path_of s Decision) (path_of s (Part n)) e refl refl (λ h. omega (arith, h)))
apart s Decision Marker i j e = absurd (other 1 109 83 (path_of s Decision) (path_of s Marker) e refl refl (λ h. omega (arith, h)))
apart s Decision (Kept b) i j e = absurd (other 7 112 107 (path_of s Decision) (path_of s (Kept b)) e refl refl (λ h. omega (arith, h)))
apart s Decision (Work b) i j e = absurd (other 7 112 119 (path_of s Decision) (path_of s (Work b)) e refl refl (λ h. omega (arith, h)))
apart s Decision Decision i j e = refl
apart s Decision Home i j e = absurd (other 6 47 0 (path_of s Decision) (path_of s Home) e refl refl (λ h. omega (arith, h)))
apart s Home (Part n) i j e = absurd (other 0 95 112 (path_of s Home) (path_of s (Part n)) e refl refl (λ h. omega (arith, h)))
apart s Home Marker i j e = absurd (other 1 109 83 (path_of s Home) (path_of s Marker) e refl refl (λ h. omega (arith, h)))
apart s Home (Kept b) i j e = absurd (other 6 0 47 (path_of s Home) (path_of s (Kept b)) e refl refl (λ h. omega (arith, h)))
apart s Home (Work b) i j e = absurd (other 6 0 47 (path_of s Home) (path_of s (Work b)) e refl refl (λ h. omega (arith, h)))
apart s Home Decision i j e = absurd (other 6 0 47 (path_of s Home) (path_of s Decision) e refl refl (λ h. omega (arith, h)))
apart s Home Home i j e = refl
