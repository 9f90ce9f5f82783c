-- Names and paths as texts: our own profile of the absolute paths of a file system.
use Rattle.std.specs.Prelude.{◌≡◌, ℕ, Bool, ◌==◌, List, ◌∷◌, map, All, Result, Ok, Err}
use Rattle.std.specs.List.{join_with_byte}
use Rattle.std.specs.Str.Lossy.{utf8_lossy}
use Rattle.mr_paths.specs.Path.{IsName}
use Rattle.mr_paths.specs.declared.fault.PathFault.{PathFault}
use Rattle.mr_paths.specs.declared.fault.PathFault.TheVariants.{BadName, NoMemory}

-- the slash before each name
abbrev pub is_slash : ℕ → Bool
is_slash b = b == 47

-- a slash, and then the names with a slash between each two: the root's text is `/`
abbrev pub path_text : List (List ℕ) → List ℕ
path_text path = 47 ∷ join_with_byte 47 path

-- the text of a path as it is shown, with U+FFFD for each part of a name that is no text
abbrev pub shown_text : List (List ℕ) → List ℕ
shown_text path = path_text (map utf8_lossy path)

-- a text is a path where it is the text of some list of names
pub record IsPath (text : List ℕ) : Type 0 where
  pub path : List (List ℕ)
  pub names : All IsName path
  pub spelled : text ≡ path_text path

-- what reading a text answers: the path of which it is the text, or that there is none; an allocation failure only where there is one
abbrev pub ReadsPath : List ℕ → Result (List (List ℕ)) PathFault → Type 0
ReadsPath text (Ok path) = All IsName path × (text ≡ path_text path)
ReadsPath text (Err BadName) = ¬ IsPath text
ReadsPath text (Err NoMemory) = IsPath text

-- the same of bytes as one name
abbrev pub ReadsName : List ℕ → Result (List ℕ) PathFault → Type 0
ReadsName bytes (Ok name) = IsName bytes × (name ≡ bytes)
ReadsName bytes (Err BadName) = ¬ IsName bytes
ReadsName bytes (Err NoMemory) = IsName bytes
