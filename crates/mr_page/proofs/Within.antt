-- No `<` stands among the lines of a page.
use Rattle.std.proofs.Common.{◌≡◌, ◌==◌, ◌++◌, ◌∷◌, [], ℕ, List, Bool, true, false, if◌then◌else◌, codes, refl, ap, ◌∙◌}
use Rattle.std.specs.Prelude.{◌||◌}
use Rattle.std.specs.List.{list_any}
use Rattle.mr_page.specs.Page.{escaped, escaped_byte}
use Rattle.mr_page.specs.Laws.{LinesStayWithin}

either : (a b : Bool) → a ≡ false → b ≡ false → (a || b) ≡ false
either true b h g = h
either false b h g = g

both : (a b : Bool) → (a || b) ≡ false → (a ≡ false) × (b ≡ false)
both true b h = (h, absurd (cc))
both false b h = (refl, h)

parted : (xs ys : List ℕ) → list_any (λ b. b == 60) xs ≡ false → list_any (λ b. b == 60) ys ≡ false → list_any (λ b. b == 60) (xs ++ ys) ≡ false
parted [] ys h g = g
parted (x ∷ xs) ys h g =
    let parts = both (x == 60) (list_any (λ b. b == 60) xs) h in
    either (x == 60) (list_any (λ b. b == 60) (xs ++ ys)) parts.0 (parted xs ys parts.1 g)

one : (b : ℕ) → list_any (λ c. c == 60) (escaped_byte b) ≡ false
one b = by (b == 60) refl
  where
    by : (c : Bool) → (b == 60) ≡ c → list_any (λ c. c == 60) (escaped_byte b) ≡ false
    by true is = ap (λ (c : Bool). list_any (λ x. x == 60) (if c then codes "\\u003c" else b ∷ [])) is
    by false is = ap (λ (c : Bool). list_any (λ x. x == 60) (if c then codes "\\u003c" else b ∷ [])) is ∙ either (b == 60) false is refl

pub lines_stay_within_law : LinesStayWithin
lines_stay_within_law [] = refl
lines_stay_within_law (b ∷ text) = parted (escaped_byte b) (escaped text) (one b) (lines_stay_within_law text)
