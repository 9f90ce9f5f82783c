-- What the namespace holds: a finite map from paths to nodes. Our own profile of a file system: no blocks, owners or times.
use Rattle.std.specs.Prelude.{◌≡◌, ℕ, Bool, List, [], ◌∷◌, ◌++◌, map, Option, Some, None, not, is_some, nat_eq, true, if◌then◌else◌}
use Rattle.std.specs.Cmp.Lexicographic.{pointwise}
use Rattle.std.specs.FinMap as finite
use Rattle.std.specs.Coded.{Coded, coded_ℕ, coded_list}
use Rattle.mr_paths.specs.Path.{path_cmp, strip, rebased}
use Rattle.mr_names_tree.specs.declared.node.Node.{Node}
use Rattle.mr_names_tree.specs.declared.node.Node.TheVariants.{Dir}
use Rattle.mr_names_tree.specs.Node.{coded_node}

abbrev pub Content : Type 0
Content = finite.FinMap path_cmp Node

abbrev pub content_code : Coded Content
content_code = finite.code (coded_list (coded_list coded_ℕ)) coded_node

-- without what is at a path and beneath it
abbrev pub without : List (List ℕ) → Content → Content
without top c = finite.retain_keys c (λ path. not (is_some (strip top path)))

abbrev pub is_path : List (List ℕ) → List (List ℕ) → Bool
is_path path other = pointwise (pointwise nat_eq) path other

-- without what is at a path
abbrev pub without_one : List (List ℕ) → Content → Content
without_one path c = finite.retain_keys c (λ p. not (is_path p path))

-- the content with entries put into it, one after another
abbrev pub with_all : Content → List (List (List ℕ) × Node) → Content
with_all c [] = c
with_all c (e ∷ es) = with_all (finite.insert c e.0 e.1) es

-- with a directory at each of some paths
abbrev pub with_dirs : Content → List (List (List ℕ)) → Content
with_dirs c paths = with_all c (map (λ path. (path, Dir)) paths)

-- an entry with its path, once what is at and beneath from is at and beneath to
abbrev pub moved : List (List ℕ) → List (List ℕ) → List (List ℕ) × Node → List (List ℕ) × Node
moved from to e = (rebased from to e.0, e.1)

-- each entry with its path, once what is at and beneath from is at and beneath to
abbrev pub renamed : List (List ℕ) → List (List ℕ) → Content → Content
renamed from to c = with_all finite.empty (map (moved from to) (finite.entries c))

-- with the node at a path changed, where there is one
abbrev pub changed_by : Content → List (List ℕ) → (Node → Node) → Option Node → Content
changed_by c path f None = c
changed_by c path f (Some node) = finite.insert c path (f node)

abbrev pub changed_at : Content → List (List ℕ) → (Node → Node) → Content
changed_at c path f = changed_by c path f (finite.get c path)

-- the root is a directory, and so is the parent of each other entry
pub record IsTree (c : Content) : Type 0 where
  pub root : finite.get c [] ≡ Some Dir
  pub parents : (path : List (List ℕ)) (name : List ℕ) → is_some (finite.get c (path ++ name ∷ [])) ≡ true → finite.get c path ≡ Some Dir

-- ---- what a path holds afterwards

abbrev pub within : List (List ℕ) → List (List ℕ) → Bool
within top path = is_some (strip top path)

-- what a path holds after a rename: what is beneath to was beneath from, and nothing is beneath from
abbrev pub renamed_at_by : List (List ℕ) → Content → List (List ℕ) → Option (List (List ℕ)) → Option Node
renamed_at_by from c path (Some rest) = finite.get c (from ++ rest)
renamed_at_by from c path None = if within from path then None else finite.get c path

abbrev pub renamed_at : List (List ℕ) → List (List ℕ) → Content → List (List ℕ) → Option Node
renamed_at from to c path = renamed_at_by from c path (strip to path)
