-- Where a path lies that is put together.
use Rattle.std.proofs.Common.{◌≡◌, inl, inr, ℕ, List, ◌++◌, codes, ap, ◌∙◌, append_assoc}
use Rattle.mr_out_removal.specs.Beneath.{IsBeneath, IsWithin}

-- a name in a folder that lies within another one
pub name_beneath : (top folder name path : List ℕ) → IsWithin top folder → path ≡ folder ++ (codes "/" ++ name) → IsBeneath top path
name_beneath top folder name path (inl same) is = (name, is ∙ ap (λ (x : List ℕ). x ++ (codes "/" ++ name)) same)
name_beneath top folder name path (inr (rest, deeper)) is = (
  rest ++ (codes "/" ++ name),
  is ∙ ap (λ (x : List ℕ). x ++ (codes "/" ++ name)) deeper
      ∙ append_assoc top (codes "/" ++ rest) (codes "/" ++ name)
      ∙ ap (λ (x : List ℕ). top ++ x) (append_assoc (codes "/") rest (codes "/" ++ name)),
)

pub beneath_within : (top path : List ℕ) → IsBeneath top path → IsWithin top path
beneath_within top path h = inr h

pub same_within : (top path : List ℕ) → path ≡ top → IsWithin top path
same_within top path e = inl e
