-- What a directory lists. A listing names the entries directly beneath, as a file system's does; their order is our own profile.
use Rattle.std.specs.Prelude.{◌≡◌, ℕ, List, [], ◌∷◌, ◌++◌, map, Option, Some, None, nat_eq, if◌then◌else◌}
use Rattle.std.specs.Cmp.Lexicographic.{pointwise, slice_cmp}
use Rattle.std.specs.Ordering.{nat_cmp}
use Rattle.std.specs.List.{filter_map}
use Rattle.std.specs.List.Sorted.{IsStrictlySortedBy}
use Rattle.std.specs.Option.{option_map}
use Rattle.std.specs.FinMap as finite
use Rattle.mr_paths.specs.Path.{child_of}
use Rattle.mr_names_tree.specs.declared.node.Node.{Node}
use Rattle.mr_names_tree.specs.declared.node.Kind.{Kind}
use Rattle.mr_names_tree.specs.declared.node.Entry.{Entry}
use Rattle.mr_names_tree.specs.Node.{kind_of}
use Rattle.mr_names_tree.specs.Content.{Content}
use Rattle.mr_names_tree.specs.Held.{node_at}

abbrev pub entry_of : List ℕ → Node → Entry
entry_of name node = record { name = name; kind = kind_of node }

-- the line of an entry, where it stands directly beneath a path
abbrev pub line_of : List (List ℕ) → List (List ℕ) × Node → Option Entry
line_of path e = option_map (λ name. entry_of name e.1) (child_of path e.0)

-- the entries directly beneath a path, by the bytes of their names, since a content's entries stand in the order of their paths
abbrev pub children : Content → List (List ℕ) → List Entry
children c path = filter_map (line_of path) (finite.entries c)

-- the kind with which a listing has a name
abbrev pub kind_listed : List Entry → List ℕ → Option Kind
kind_listed [] name = None
kind_listed (e ∷ es) name = if pointwise nat_eq name e.name then Some e.kind else kind_listed es name

-- a listing has exactly the names of what stands directly beneath the path
abbrev pub ListsChildren : Type 0
ListsChildren = (c : Content) (path : List (List ℕ)) (name : List ℕ) → kind_listed (children c path) name ≡ option_map kind_of (node_at c (path ++ name ∷ []))

-- each name once, by its bytes
abbrev pub ListsInOrder : Type 0
ListsInOrder = (c : Content) (path : List (List ℕ)) → IsStrictlySortedBy (slice_cmp nat_cmp) (map (λ (e : Entry). e.name) (children c path))
