-- Places that are marked, kept as a tree of truth values. The children of node k are the nodes 2k and 2k + 1, the root is node 1,
-- and the last nodes are the places. Our own: where code and definitions meet.
use Rattle.std.specs.Prelude.{◌≡◌, ℕ, ◌+◌, ◌*◌, ◌^◌, ◌<◌, ◌≤◌, Bool, true, false, ◌||◌, List, length, slice_index_or}

-- whether place i is marked
abbrev pub is_marked : List Bool → ℕ → Bool
is_marked marks i = slice_index_or marks i false

-- place i is marked, and none before it
pub record IsFirst (marks : List Bool) (i : ℕ) : Type 0 where
  pub marked : is_marked marks i ≡ true
  pub first : (j : ℕ) → j < i → is_marked marks j ≡ false

-- place i is marked or not from then on, and all others are as they were
pub record IsSet (old : List Bool) (i : ℕ) (on : Bool) (new : List Bool) : Type 0 where
  pub count : length new ≡ length old
  pub here : is_marked new i ≡ on
  pub others : (j : ℕ) → (j ≡ i → ⊥) → is_marked new j ≡ is_marked old j

-- ---- the tree

-- a node is marked where one of its two children is
abbrev pub IsNode : List Bool → ℕ → Type 0
IsNode tree k = slice_index_or tree k false ≡ (slice_index_or tree (2 * k) false || slice_index_or tree (2 * k + 1) false)

-- so it is of each node above the places but node hole; as there is no node 0, of all where the hole is 0
abbrev pub NodesBut : List Bool → (size hole : ℕ) → Type 0
NodesBut tree size hole = (k : ℕ) → 0 < k → k < size → (k ≡ hole → ⊥) → IsNode tree k

pub record IsTree (tree : List Bool) (height : ℕ) : Type 0 where
  pub count : length tree ≡ 2 * 2 ^ height
  pub nodes : NodesBut tree (2 ^ height) 0

-- no node from one to another is marked
abbrev pub NoneBetween : List Bool → (from to : ℕ) → Type 0
NoneBetween tree from to = (j : ℕ) → from ≤ j → j < to → slice_index_or tree j false ≡ false
