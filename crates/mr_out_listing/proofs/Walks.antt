-- What stands up to the last slash, from the back of a path.
use Rattle.std.proofs.Common.{◌≡◌, ◌<◌, ◌≤◌, ◌+◌, ◌-◌, ℕ, suc, Bool, true, false, List, [], ◌∷◌, ◌++◌, ◌==◌, length, take, drop, get_or, if◌then◌else◌, refl, sym, ap, ◌∙◌, arith, add-one, drop-cons}
use Rattle.std.proofs.Math.Seq.{take-suc}
use Rattle.mr_out_listing.specs.Reading.{folder_of, has_slash}

has-none : (xs : List ℕ) (b : ℕ) → (b == 47) ≡ false → has_slash (xs ++ b ∷ []) ≡ has_slash xs
has-none [] b h = rw h refl
has-none (x ∷ xs) b h = ap (λ (t : Bool). if x == 47 then true else t) (has-none xs b h)

has-one : (xs : List ℕ) → has_slash (xs ++ 47 ∷ []) ≡ true
has-one [] = refl
has-one (x ∷ xs) = rw (has-one xs) (elim (x == 47) as (λ b. (if b then true else true) ≡ true) [ true ↦ refl | false ↦ refl ])

pub folder-none : (xs : List ℕ) (b : ℕ) → (b == 47) ≡ false → folder_of (xs ++ b ∷ []) ≡ folder_of xs
folder-none [] b h = rw h refl
folder-none (x ∷ xs) b h = rw (has-none xs b h, folder-none xs b h) refl

pub folder-one : (xs : List ℕ) → folder_of (xs ++ 47 ∷ []) ≡ xs ++ 47 ∷ []
folder-one [] = refl
folder-one (x ∷ xs) = rw (has-one (x ∷ xs), folder-one xs) refl

pub folder-step : (path : List ℕ) (m : ℕ) → m < length path → (get_or path m 0 == 47) ≡ false → folder_of (take (suc m) path) ≡ folder_of (take m path)
folder-step path m h ne = ap folder_of (take-suc path m 0 h) ∙ folder-none (take m path) (get_or path m 0) ne

pub folder-stop : (path : List ℕ) (m : ℕ) → m < length path → get_or path m 0 ≡ 47 → folder_of (take (suc m) path) ≡ take (suc m) path
folder-stop path m h e =
    let whole : take (suc m) path ≡ take m path ++ 47 ∷ [] = take-suc path m 0 h ∙ ap (λ b. take m path ++ b ∷ []) e in
    ap folder_of whole ∙ folder-one (take m path) ∙ sym whole
