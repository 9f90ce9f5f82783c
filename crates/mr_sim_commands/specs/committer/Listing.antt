-- The listing of a content. Our own format.
use Rattle.std.specs.Prelude.{ℕ, List, [], ◌∷◌, ◌++◌, codes, decimal, Option, Some, None}
use Rattle.std.specs.List.{flat_map, join_with_byte}
use Rattle.mr_names_tree.specs.declared.walk.Found.{Found}
use Rattle.mr_names_tree.specs.Content.{Content}
use Rattle.mr_names_tree.specs.Walk.{walk}

-- what stands behind a path: for a directory a slash, for a file a space and its length
abbrev pub size_text : Option ℕ → List ℕ
size_text None = codes "/"
size_text (Some n) = codes " " ++ decimal n

-- a path as its names with slashes between them, and its size; the root has no line
abbrev pub path_line : List (List ℕ) → Option ℕ → List ℕ
path_line [] size = []
path_line (name ∷ path) size = join_with_byte 47 (name ∷ path) ++ size_text size ++ 10 ∷ []

abbrev pub found_line : Found → List ℕ
found_line f = path_line f.path f.length

-- All paths but the root. A content is walked in the order of its paths, by the bytes of their names: a directory
-- stands before its entries, and these by bytes.
unfoldable pub listing : Content → List ℕ
listing c = flat_map found_line (walk c)
