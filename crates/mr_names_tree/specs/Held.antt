-- What a path holds.
-- A directory, a file or nothing: the words in which calls and their refusals are defined.
-- Our own profile, after the file system that Hadoop's committer document asks for.
use Rattle.std.specs.Prelude.{◌≡◌, ℕ, Bool, true, false, List, [], length, filter, Option, Some, None, is_some, is_none, if◌then◌else◌}
use Rattle.std.specs.List.{list_any}
use Rattle.std.specs.FinMap as finite
use Rattle.mr_paths.specs.Path.{parent}
use Rattle.mr_names_tree.specs.declared.node.Node.{Node}
use Rattle.mr_names_tree.specs.declared.node.Node.TheVariants.{Dir, File}
use Rattle.mr_names_tree.specs.Content.{Content, within}

abbrev pub is_dir : Option Node → Bool
is_dir None = false
is_dir (Some Dir) = true
is_dir (Some (File bytes closed)) = false

abbrev pub is_file : Option Node → Bool
is_file None = false
is_file (Some Dir) = false
is_file (Some (File bytes closed)) = true

abbrev pub is_closed : Option Node → Bool
is_closed None = false
is_closed (Some Dir) = false
is_closed (Some (File bytes closed)) = closed

abbrev pub bytes_of : Option Node → List ℕ
bytes_of None = []
bytes_of (Some Dir) = []
bytes_of (Some (File bytes closed)) = bytes

abbrev pub node_at : Content → List (List ℕ) → Option Node
node_at c path = finite.get c path

abbrev pub is_absent : Content → List (List ℕ) → Bool
is_absent c path = is_none (node_at c path)

abbrev pub is_present : Content → List (List ℕ) → Bool
is_present c path = is_some (node_at c path)

-- how many of some paths hold nothing: none where one holds a file
abbrev pub missing_count : Content → List (List (List ℕ)) → Option ℕ
missing_count c paths = if list_any (λ path. is_file (node_at c path)) paths then None else Some (length (filter (is_absent c) paths))

-- what a rename asks of a content
pub record MayRename (c : Content) (from to : List (List ℕ)) : Type 0 where
  pub found : is_some (node_at c from) ≡ true
  pub outside : within from to ≡ false
  pub free : node_at c to ≡ None
  pub parent_dir : node_at c (parent to) ≡ Some Dir
