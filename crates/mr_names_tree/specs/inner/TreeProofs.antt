-- The nodes hold one content.
use Rattle.std.specs.Prelude.{◌≡◌, ℕ, List, Option}
use Rattle.std.proofs.Common.{sym, ◌∙◌}
use Rattle.std.specs.Coded.{Coded-set, coded_option, coded_ℕ, coded_list}
use Rattle.std.specs.FinMap as finite
use Rattle.std.proofs.Props.{props}
use mathlib.Core.HLevel.{Σ_prop_path}
use Rattle.slab.specs.Slab.{Slab}
use Rattle.mr_paths.specs.Path.{path_total, path_exact}
use Rattle.mr_names_tree.specs.declared.node.Node.{Node}
use Rattle.mr_names_tree.specs.declared.place.Place.{Place}
use Rattle.mr_names_tree.specs.Node.{coded_node}
use Rattle.mr_names_tree.specs.Content.{Content}
use Rattle.mr_names_tree.specs.inner.Tree.{Edges, IsTold, Held, edges_of, nodes_of}

nodes_set : (x y : Option Node) → IsProp (x ≡ y)
nodes_set x y = Coded-set (coded_option coded_node) x y

paths_set : (x y : List (List ℕ)) → IsProp (x ≡ y)
paths_set x y = Coded-set (coded_list (coded_list coded_ℕ)) x y

pub IsTold-prop : (edges : Edges) (nodes : ℕ → Option Node) (root : ℕ) (c : Content) → IsProp (IsTold edges nodes root c)
IsTold-prop edges nodes root c = hlevel (props, nodes_set, paths_set)

pub held_prop : (s : Slab Place) (root : ℕ) → IsProp (Held s root)
held_prop s root x y = Σ_prop_path (λ c. IsTold-prop (edges_of s) (nodes_of s) root c) (finite.same_map path_total path_exact x.0 y.0 (λ q. x.1.holds q ∙ sym (y.1.holds q)))
