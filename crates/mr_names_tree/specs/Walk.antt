-- What a content holds, path by path. Our own format.
use Rattle.std.specs.Prelude.{ℕ, List, length, map, Option, Some, None}
use Rattle.std.specs.FinMap as finite
use Rattle.mr_names_tree.specs.declared.node.Node.{Node}
use Rattle.mr_names_tree.specs.declared.node.Node.TheVariants.{Dir, File}
use Rattle.mr_names_tree.specs.declared.walk.Found.{Found}
use Rattle.mr_names_tree.specs.Content.{Content}

-- a file's length, and none for a directory
abbrev pub length_of : Node → Option ℕ
length_of Dir = None
length_of (File bytes closed) = Some (length bytes)

abbrev pub found_of : List (List ℕ) × Node → Found
found_of e = record { path = e.0; length = length_of e.1 }

-- all paths, the root with them: a content's entries stand in the order of their paths, by the bytes of their names
unfoldable pub walk : Content → List Found
walk c = map found_of (finite.entries c)
