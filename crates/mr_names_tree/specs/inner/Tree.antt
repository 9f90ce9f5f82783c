-- The content as a tree of nodes: a graph of edges by name, in which each path that holds something leads from the root to a node of its own.
use Rattle.std.specs.Prelude.{◌≡◌, ◌≤◌, ℕ, true, List, [], ◌∷◌, ◌++◌, take, Option, Some, None, is_some}
use Rattle.std.specs.Option.{option_map}
use Rattle.std.specs.Map.{lookup}
use Rattle.std.specs.BTreeMap.{is_at}
use Rattle.std.specs.Ordering.{nat_cmp}
use Rattle.std.specs.Cmp.Lexicographic.{slice_cmp}
use Rattle.std.specs.FinMap as finite
use Rattle.slab.specs.Slab.{Slab, get}
use Rattle.mr_names_tree.specs.declared.node.Node.{Node}
use Rattle.mr_names_tree.specs.declared.node.Entry.{Entry}
use Rattle.mr_names_tree.specs.declared.place.Place.{Place}
use Rattle.mr_names_tree.specs.declared.place.Ahead.{Ahead}
use Rattle.mr_names_tree.specs.Listing.{entry_of}
use Rattle.mr_names_tree.specs.Content.{Content, with_dirs, within, without}

-- the node to which an edge with this name leads from a node
abbrev pub Edges : Type 0
Edges = ℕ → List ℕ → Option ℕ

-- along one more edge
abbrev pub along : Edges → Option ℕ → List ℕ → Option ℕ
along edges None name = None
along edges (Some key) name = edges key name

-- along a path, from a node on
abbrev pub steps : Edges → Option ℕ → List (List ℕ) → Option ℕ
steps edges at [] = at
steps edges at (name ∷ path) = steps edges (along edges at name) path

-- what stands at a node
abbrev pub standing : (ℕ → Option Node) → Option ℕ → Option Node
standing nodes None = None
standing nodes (Some key) = nodes key

-- the content is what stands at the end of each path from the root
pub record IsTold (edges : Edges) (nodes : ℕ → Option Node) (root : ℕ) (c : Content) : Type 0 where
  pub holds : (path : List (List ℕ)) → finite.get c path ≡ standing nodes (steps edges (Some root) path)
  -- an edge leads to a node
  pub live : (path : List (List ℕ)) (key : ℕ) → steps edges (Some root) path ≡ Some key → is_some (nodes key) ≡ true
  -- no two paths lead to one node
  pub one : (path other : List (List ℕ)) (key : ℕ) → steps edges (Some root) path ≡ Some key → steps edges (Some root) other ≡ Some key → path ≡ other
  -- and to each node leads one
  pub kept : (key : ℕ) → is_some (nodes key) ≡ true → ((path : List (List ℕ)) → steps edges (Some root) path ≡ Some key → ⊥) → ⊥

abbrev pub child_by : Option Place → List ℕ → Option ℕ
child_by None name = None
child_by (Some place) name = lookup (is_at (slice_cmp nat_cmp name)) place.children.entries

abbrev pub edges_of : Slab Place → Edges
edges_of s key name = child_by (get s key) name

abbrev pub nodes_of : Slab Place → ℕ → Option Node
nodes_of s key = option_map (λ (p : Place). p.node) (get s key)

-- a content that the nodes hold
abbrev pub Held : Slab Place → ℕ → Type 0
Held s root = (c : Content) × IsTold (edges_of s) (nodes_of s) root c

-- one edge is set or taken out, and all else stays
pub record EdgeSet (old new : Slab Place) (at : ℕ) (name : List ℕ) (to : Option ℕ) : Type 0 where
  pub here : edges_of new at name ≡ to
  pub others : (key : ℕ) (other : List ℕ) → (key ≡ at → other ≡ name → ⊥) → edges_of new key other ≡ edges_of old key other
  pub nodes : (key : ℕ) → nodes_of new key ≡ nodes_of old key

pub record SameGraph (old new : Slab Place) : Type 0 where
  pub edges : (key : ℕ) (name : List ℕ) → edges_of new key name ≡ edges_of old key name
  pub nodes : (key : ℕ) → nodes_of new key ≡ nodes_of old key

-- the same node, and the same edges by the same names
abbrev pub SamePlace : Place → Place → Type 0
SamePlace old new = (new.node ≡ old.node) × (new.children.entries ≡ old.children.entries)

-- under one key of each there is nothing in both, or the same node with the same edges
abbrev pub AreSamePlaces : Option Place → Option Place → Type 0
AreSamePlaces None None = Unit {0}
AreSamePlaces None (Some new) = ⊥
AreSamePlaces (Some old) None = ⊥
AreSamePlaces (Some old) (Some new) = SamePlace old new

-- a node with no edges is added at the end of a new edge, and all else stays
pub record NodeAdded (old new : Slab Place) (at : ℕ) (name : List ℕ) (node : Node) (key : ℕ) : Type 0 where
  pub vacant : nodes_of old key ≡ None
  pub bare : (other : List ℕ) → edges_of old key other ≡ None
  pub here : edges_of new at name ≡ Some key
  pub others : (from : ℕ) (other : List ℕ) → (from ≡ at → other ≡ name → ⊥) → edges_of new from other ≡ edges_of old from other
  pub stands : nodes_of new key ≡ Some node
  pub nodes : (other : ℕ) → (other ≡ key → ⊥) → nodes_of new other ≡ nodes_of old other

-- an edge is moved, and all else stays
pub record EdgeMoved (old new : Slab Place) (from : ℕ) (from_name : List ℕ) (key at : ℕ) (name : List ℕ) : Type 0 where
  pub put : (at ≡ from → name ≡ from_name → ⊥) → edges_of new at name ≡ Some key
  pub gone : edges_of new from from_name ≡ None
  pub others : (other : ℕ) (by : List ℕ) → (other ≡ at → by ≡ name → ⊥) → (other ≡ from → by ≡ from_name → ⊥) → edges_of new other by ≡ edges_of old other by
  pub nodes : (other : ℕ) → nodes_of new other ≡ nodes_of old other

-- what stands at a node is changed, and all else stays
pub record NodeChanged (old new : Slab Place) (key : ℕ) (change : Node → Node) : Type 0 where
  pub here : nodes_of new key ≡ option_map change (nodes_of old key)
  pub others : (other : ℕ) → (other ≡ key → ⊥) → nodes_of new other ≡ nodes_of old other
  pub edges : (from : ℕ) (name : List ℕ) → edges_of new from name ≡ edges_of old from name

-- an edge is taken out, and the node to which it leads
pub record NodeCut (old new : Slab Place) (at : ℕ) (name : List ℕ) (key : ℕ) : Type 0 where
  pub gone : edges_of new at name ≡ None
  pub bare : (other : List ℕ) → edges_of new key other ≡ None
  pub others : (from : ℕ) (other : List ℕ) → (from ≡ at → other ≡ name → ⊥) → (from ≡ key → ⊥) → edges_of new from other ≡ edges_of old from other
  pub out : nodes_of new key ≡ None
  pub nodes : (other : ℕ) → (other ≡ key → ⊥) → nodes_of new other ≡ nodes_of old other

-- entries are deleted beneath the node `top`: all that goes is beneath the path that leads to it. The deletion begins at the node `at`
abbrev pub CutBeneath : Slab Place → Slab Place → ℕ → ℕ → Type 0
CutBeneath old new top at =
    (root : ℕ) (c : Content) (t p : List (List ℕ)) → IsTold (edges_of old) (nodes_of old) root c → steps (edges_of old) (Some root) t ≡ Some top → steps (edges_of old) (Some root) p ≡ Some at → within t p ≡ true
    → (d : Content) × IsTold (edges_of new) (nodes_of new) root d × (without t d ≡ without t c) × (finite.len d ≤ finite.len c)

abbrev pub first_of : List (List ℕ × ℕ) → Option (List ℕ × ℕ)
first_of [] = None
first_of (e ∷ es) = Some e

abbrev pub first_by : Option Place → Option (List ℕ × ℕ)
first_by None = None
first_by (Some place) = first_of place.children.entries

-- the edge whose name comes first
abbrev pub first_edge : Slab Place → ℕ → Option (List ℕ × ℕ)
first_edge s key = first_by (get s key)

-- each path on the way down from a path by these names
abbrev pub paths_down : List (List ℕ) → List (List ℕ) → List (List (List ℕ))
paths_down above [] = []
paths_down above (name ∷ names) = (above ++ name ∷ []) ∷ paths_down (above ++ name ∷ []) names

-- the nodes hold a content, the path leads to a node, and the first of these names leads from there to none
pub record HasRoom (s : Slab Place) (root : ℕ) (c : Content) (above : List (List ℕ)) (at : ℕ) (names : List (List ℕ)) : Type 0 where
  pub told : IsTold (edges_of s) (nodes_of s) root c
  pub leads : steps (edges_of s) (Some root) above ≡ Some at
  pub free : steps (edges_of s) (Some root) (above ++ take 1 names) ≡ None

-- directories are added by these names from a node on, each beneath the one before
abbrev pub DirsAdded : Slab Place → Slab Place → ℕ → List (List ℕ) → Type 0
DirsAdded old new at names =
    (root : ℕ) (c : Content) (above : List (List ℕ)) → HasRoom old root c above at names → IsTold (edges_of new) (nodes_of new) root (with_dirs c (paths_down above names))

-- some of these directories are added: all that is new is at and beneath the first of them
abbrev pub SomeAdded : Slab Place → Slab Place → ℕ → List (List ℕ) → Type 0
SomeAdded old new at names =
    (root : ℕ) (c : Content) (above : List (List ℕ)) → HasRoom old root c above at names
    → (d : Content) × IsTold (edges_of new) (nodes_of new) root d × (without (above ++ take 1 names) d ≡ c)

abbrev pub links_by : Option Place → List (List ℕ × ℕ)
links_by None = []
links_by (Some place) = place.children.entries

-- the edges of a node, by their names
abbrev pub links_of : Slab Place → ℕ → List (List ℕ × ℕ)
links_of s key = links_by (get s key)

-- the line of an edge in a listing
abbrev pub line_at : Slab Place → List ℕ × ℕ → Option Entry
line_at s e = option_map (entry_of e.0) (nodes_of s e.1)

-- the node to which an edge leads from a path's node
abbrev pub ahead_of : List (List ℕ) → List ℕ × ℕ → Ahead
ahead_of path e = record { path = path ++ e.0 ∷ []; at = e.1 }
