-- What stands at a path. Directories and files, as Hadoop's committer document asks of a file system; that a file is closed once is our own profile.
use Rattle.std.specs.Prelude.{◌≡◌, ℕ, Bool, true, List, ◌++◌, Option, Some, None, refl}
use Rattle.std.specs.Coded.{Coded, code_by, coded×, coded_ℕ, coded_list, coded_bool, coded_option}
use Rattle.mr_names_tree.specs.declared.node.Node.{Node}
use Rattle.mr_names_tree.specs.declared.node.Node.TheVariants.{Dir, File}
use Rattle.mr_names_tree.specs.declared.node.Kind.{Kind}
use Rattle.mr_names_tree.specs.declared.node.Kind.TheVariants as kind

-- a node as nothing, or the bytes and whether they are closed
abbrev pub node_parts : Node → Option (List ℕ × Bool)
node_parts Dir = None
node_parts (File bytes closed) = Some (bytes, closed)

abbrev pub node_from : Option (List ℕ × Bool) → Node
node_from None = Dir
node_from (Some p) = File p.0 p.1

pub node_from-node_parts : (n : Node) → node_from (node_parts n) ≡ n
node_from-node_parts Dir = refl
node_from-node_parts (File bytes closed) = refl

abbrev pub coded_node : Coded Node
coded_node = code_by (Option (List ℕ × Bool)) (coded_option (coded× (coded_list coded_ℕ) coded_bool)) node_parts node_from node_from-node_parts

-- a file with bytes added at its end
abbrev pub appended : List ℕ → Node → Node
appended more Dir = Dir
appended more (File bytes closed) = File (bytes ++ more) closed

-- a file that is closed
abbrev pub closed_of : Node → Node
closed_of Dir = Dir
closed_of (File bytes closed) = File bytes true

abbrev pub kind_of : Node → Kind
kind_of Dir = kind.Dir
kind_of (File bytes closed) = kind.File
