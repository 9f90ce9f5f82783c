-- The tasks of which attempts were launched on a node: at least these, by node and number. Our own: where code and definitions meet.
use Rattle.std.specs.Prelude.{◌≡◌, ◌<◌, ◌≤◌, ℕ, min, Bool, true, false, nat_eq, List, Option, Some, None}
use Rattle.std.specs.BTreeSet.{BTreeSet, contains}
use Rattle.std.specs.Map.{lookup}
use Rattle.std.specs.Ordering.{nat_cmp, ordering_then}
use Rattle.std.specs.declared.cmp.Ordering.{Ordering}
use Rattle.mr_grant.specs.Attempts.{same_attempt}
use Rattle.mr_ids.specs.Attempt.{Attempt}
use Rattle.mr_ids.specs.declared.id.TaskKind.{TaskKind}
use Rattle.mr_ids.specs.declared.id.TaskKind.TheVariants.{Map, Reduce}
use Rattle.mr_master_model.specs.declared.launch.Launch.{Launch}
use Rattle.mr_master_tables.specs.declared.spots.Spot.{Spot}
use Rattle.mr_master_tables.specs.declared.gone.Gone.{Gone}
use Rattle.mr_master_tables.specs.declared.gone.Gone.TheVariants.{Restarted, GivenUp}

pub record Spread : Type 0 where
  pub maps : BTreeSet Spot
  pub reduces : BTreeSet Spot

-- by node, then by number
abbrev pub spot_cmp : Spot → Spot → Ordering
spot_cmp a b = ordering_then (nat_cmp a.node b.node) (nat_cmp a.number b.number)

abbrev pub spots_of : TaskKind → Spread → BTreeSet Spot
spots_of Map s = s.maps
spots_of Reduce s = s.reduces

-- whether the task of this kind and number is on the node
abbrev pub has_spot : Spread → TaskKind → ℕ → ℕ → Bool
has_spot s kind node number = contains spot_cmp (spots_of kind s) (record { node = node; number = number })

-- nothing is gone
abbrev pub Grows : Spread → Spread → Type 0
Grows old new = (kind : TaskKind) (node number : ℕ) → has_spot old kind node number ≡ true → has_spot new kind node number ≡ true

-- none of the tasks of a kind is on the node whose numbers are from one on, up to another
abbrev pub NoneBetween : Spread → TaskKind → ℕ → ℕ → ℕ → Type 0
NoneBetween s kind node from to = (number : ℕ) → from ≤ number → number < to → has_spot s kind node number ≡ false

abbrev pub NoneFrom : Spread → TaskKind → ℕ → ℕ → Type 0
NoneFrom s kind node from = (number : ℕ) → from ≤ number → has_spot s kind node number ≡ false

-- ---- of launches

-- each is on its node
abbrev pub IsSpread : Spread → List (Attempt × Launch) → Type 0
IsSpread s launched = (a : Attempt) (l : Launch) → lookup (same_attempt a) launched ≡ Some l → has_spot s a.task.kind l.node a.task.number ≡ true

-- no attempt of the task of this kind and number was launched on the node
abbrev pub IsFree : List (Attempt × Launch) → TaskKind → ℕ → ℕ → Type 0
IsFree launched kind node number = (a : Attempt) (l : Launch) → lookup (same_attempt a) launched ≡ Some l → a.task.kind ≡ kind → a.task.number ≡ number → nat_eq l.node node ≡ false

abbrev pub AreFree : List (Attempt × Launch) → TaskKind → ℕ → ℕ → ℕ → Type 0
AreFree launched kind node from to = (number : ℕ) → from ≤ number → number < to → IsFree launched kind node number

abbrev pub FreeFrom : List (Attempt × Launch) → TaskKind → ℕ → ℕ → Type 0
FreeFrom launched kind node from = (number : ℕ) → from ≤ number → IsFree launched kind node number

-- the lower of two numbers, where there are both
abbrev pub lower : Option ℕ → Option ℕ → Option ℕ
lower None other = other
lower (Some n) None = Some n
lower (Some n) (Some m) = Some (min n m)

-- the node that it is about
abbrev pub node_of : Gone → ℕ
node_of (Restarted n i) = n
node_of (GivenUp n) = n
