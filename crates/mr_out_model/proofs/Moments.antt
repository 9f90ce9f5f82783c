-- What holds of a name at every moment since its folder was synced, and so behind a power cut too.
use Rattle.std.proofs.Common.{◌≡◌, ◌⊎◌, inl, inr, ℕ, Bool, true, false, cond, List, [], ◌∷◌, Option, Some, None, refl, sym, ap, subst, ◌∙◌}
use Rattle.mr_out_disk.specs.Disk.{Moments, moved, settled}
use Rattle.mr_out_disk.specs.Cuts.{IsOneOf, IsLeft}

abbrev pub EveryOf : (Option ℕ → Type 0) → List (Option ℕ) → Type 0
EveryOf P [] = Unit {0}
EveryOf P (x ∷ xs) = P x × EveryOf P xs

abbrev pub Every : (Option ℕ → Type 0) → Moments → Type 0
Every P m = P m.now × EveryOf P m.before

pub every-settled : (P : Option ℕ → Type 0) (m : Moments) → Every P m → Every P (settled m)
every-settled P m e = (e.0, tt)

pub every-moved : (P : Option ℕ → Type 0) (m : Moments) (file : Option ℕ) → P file → Every P m → Every P (moved file m)
every-moved P m file p e = (p, (e.0, e.1))

pub every_of-map : (P Q : Option ℕ → Type 0) (xs : List (Option ℕ)) → ((x : Option ℕ) → P x → Q x) → EveryOf P xs → EveryOf Q xs
every_of-map P Q [] f e = tt
every_of-map P Q (x ∷ xs) f e = (f x e.0, every_of-map P Q xs f e.1)

pub every-map : (P Q : Option ℕ → Type 0) (m : Moments) → ((x : Option ℕ) → P x → Q x) → Every P m → Every Q m
every-map P Q m f e = (f m.now e.0, every_of-map P Q m.before f e.1)

-- of two lists of moments by a test
pub every-if : (P : Option ℕ → Type 0) (b : Bool) (m n : Moments) → (b ≡ true → Every P m) → (b ≡ false → Every P n) → Every P (cond b m n)
every-if P true m n f g = f refl
every-if P false m n f g = g refl

one-of : (P : Option ℕ → Type 0) (file : Option ℕ) (xs : List (Option ℕ)) → IsOneOf file xs → EveryOf P xs → P file
one-of P file [] i e = absurd i
one-of P file (x ∷ xs) (inl is) e = subst P is e.0
one-of P file (x ∷ xs) (inr i) e = one-of P file xs i e.1

-- what held at every moment holds of what a power cut leaves
pub every-left : (P : Option ℕ → Type 0) (m n : Moments) → IsLeft m n → Every P m → Every P n
every-left P m n l e =
    let all : EveryOf P (m.now ∷ m.before) = (e.0, e.1) in
    let Q : List (Option ℕ) → Type 0 = λ xs. EveryOf P xs in
    (one-of P n.now (m.now ∷ m.before) l.was all, subst Q (sym l.alone) tt)
