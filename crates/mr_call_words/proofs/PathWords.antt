-- A path's text, and the path that has it.
use Rattle.std.proofs.Common.{◌≡◌, ℕ, List, [], ◌∷◌, ◌++◌, All, Option, Some, refl, sym, ap, subst, ◌∙◌, append-nil}
use Rattle.std.specs.List.{flat_map, join_with_byte, slice_split}
use Rattle.mr_paths.specs.Path.{IsName}
use Rattle.mr_paths.specs.Text.{is_slash, path_text}
use Rattle.mr_paths.proofs.TextReading.{slice_split-join}

pub beneath : (name : List ℕ) (path : List (List ℕ)) → flat_map (λ n. 47 ∷ n) (name ∷ path) ≡ path_text (name ∷ path)
beneath name [] = ap (λ l. 47 ∷ l) (append-nil name)
beneath name (next ∷ path) = ap (λ l. 47 ∷ (name ++ l)) (beneath next path)

pub path_found : (text rest : List ℕ) (found : Option (List (List ℕ))) (path : List (List ℕ)) → text ≡ 47 ∷ rest → (rest ≡ [] → ⊥) → (All IsName (slice_split is_slash rest) → found ≡ Some (slice_split is_slash rest)) →
    All IsName path → text ≡ path_text path → found ≡ Some path
path_found text rest found [] e some only all is = absurd (some cc)
path_found text rest found (n ∷ p) e some only all is =
    let same : rest ≡ join_with_byte 47 (n ∷ p) = cc in
    let split = ap (slice_split is_slash) same ∙ slice_split-join n p all in
    only (subst (λ l. All IsName l) (sym split) all) ∙ ap Some split

pub beneath_all : (path : List (List ℕ)) → (path ≡ [] → ⊥) → flat_map (λ n. 47 ∷ n) path ≡ path_text path
beneath_all [] some = absurd (some refl)
beneath_all (name ∷ path) some = beneath name path
