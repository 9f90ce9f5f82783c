-- The nodes of a slab as a graph: what an edge set or taken out changes.
use Rattle.std.proofs.Common.{◌≡◌, ◌≢◌, ℕ, Bool, true, false, List, [], ◌∷◌, ◌++◌, subst, append-nil, true≢false, arith, refl, sym, ap, ◌∙◌, Option, Some, None, is_some, ◌⊎◌, inl, inr, Ordering, Less, Equal, Greater}
use Rattle.std.proofs.lemmas.Bool.Decides.{eqb_tells}
use Rattle.std.proofs.Math.Dec.{eqb}
use Rattle.std.specs.Cmp.{tied_itself}
use Rattle.std.specs.Cmp.Lexicographic.{nat_list_cmp_total}
use Rattle.std.specs.Prelude.{slice_index_or, IfSome, IfOk, Result, Ok, Err, OnOk, OnErr}
use Rattle.std.specs.Ordering.{is_eq, nat_cmp}
use Rattle.std.specs.Cmp.Lexicographic.{slice_cmp}
use Rattle.std.specs.FinMap.{slice_cmp-IsAntisymmetric, nat_cmp-IsAntisymmetric}
use Rattle.std.specs.BTreeMap.{is_at}
use Rattle.std.specs.Map.{lookup}
use Rattle.std.specs.Option.{option_map}
use Rattle.std.specs.FinMap as finite
use Rattle.slab.specs.Slab.{Slab, get, Updates}
use Rattle.mr_names_tree.specs.declared.place.Place.{Place}
use Rattle.mr_names_tree.specs.declared.node.Node.{Node}
use Rattle.mr_paths.specs.Path.{path_total, path_exact}
use Rattle.mr_names_tree.specs.Content.{Content, renamed, within, changed_at, changed_by, without_one}
use Rattle.mr_names_tree.specs.inner.Tree.{edges_of, nodes_of, child_by, steps, along, standing, IsTold, Held, EdgeSet, SameGraph, NodeAdded, EdgeMoved, NodeChanged, NodeCut, first_of, first_by, first_edge}
use Rattle.mr_paths.proofs.Paths.{strip-append}
use Rattle.mr_names_tree.proofs.ContentLaws.{different}
use Rattle.mr_names_tree.proofs.Walks.{leaf_stays, absent, added_told, added_leads, moved_told, changed_told, steps-append, root_told, leaf_told}
use Rattle.std.proofs.lemmas.List.{get_or_past}

abbrev pub name_cmp : List ℕ → List ℕ → Ordering
name_cmp = slice_cmp nat_cmp

equal : (o : Ordering) → is_eq o ≡ true → o ≡ Equal
equal Less e = absurd (cc)
equal Equal e = refl
equal Greater e = absurd (cc)

pub name_apart : (n m : List ℕ) → (m ≡ n → ⊥) → is_eq (name_cmp n m) ≡ false
name_apart n m apart = by (is_eq (name_cmp n m)) refl
  where
    by : (b : Bool) → is_eq (name_cmp n m) ≡ b → is_eq (name_cmp n m) ≡ false
    by true e = absurd (apart (sym (slice_cmp-IsAntisymmetric nat_cmp-IsAntisymmetric n m (equal _ e))))
    by false e = e

abbrev node_of : Option Place → Option Node
node_of o = option_map (λ (p : Place). p.node) o

-- a node is written whose edges differ at one name
pub edge_set : (s t : Slab Place) (at : ℕ) (place new : Place) (name : List ℕ) (to : Option ℕ) → get s at ≡ Some place → Updates s t at (Some new) → new.node ≡ place.node
    → child_by (Some new) name ≡ to → ((other : List ℕ) → (other ≡ name → ⊥) → child_by (Some new) other ≡ child_by (Some place) other) → EdgeSet s t at name to
edge_set s t at place new name to was up same here others = record { here = ap (λ o. child_by o name) up.changed ∙ here; others = edges; nodes = nodes }
  where
    edges : (key : ℕ) (other : List ℕ) → (key ≡ at → other ≡ name → ⊥) → edges_of t key other ≡ edges_of s key other
    edges key other apart = elim (eqb_tells key at) [
      | inl one ↦
          ap (λ k. edges_of t k other) one.1 ∙ ap (λ o. child_by o other) up.changed ∙ others other (apart one.1)
          ∙ ap (λ o. child_by o other) (sym was) ∙ ap (λ k. edges_of s k other) (sym one.1)
      | inr two ↦ ap (λ o. child_by o other) (up.others key two.1)
    ]

    nodes : (key : ℕ) → nodes_of t key ≡ nodes_of s key
    nodes key = elim (eqb_tells key at) [
      | inl one ↦
          ap (nodes_of t) one.1 ∙ ap node_of up.changed ∙ ap Some same
          ∙ ap node_of (sym was) ∙ ap (nodes_of s) (sym one.1)
      | inr two ↦ ap node_of (up.others key two.1)
    ]

-- a node is written whose edges and whose rest are as they were
pub graph_same : (s t : Slab Place) (at : ℕ) (place new : Place) → get s at ≡ Some place → Updates s t at (Some new) → new.node ≡ place.node → new.children.entries ≡ place.children.entries → SameGraph s t
graph_same s t at place new was up same children = record { edges = edges; nodes = nodes }
  where
    edges : (key : ℕ) (name : List ℕ) → edges_of t key name ≡ edges_of s key name
    edges key name = elim (eqb_tells key at) [
      | inl one ↦
          ap (λ k. edges_of t k name) one.1 ∙ ap (λ o. child_by o name) up.changed ∙ ap (lookup (is_at (name_cmp name))) children
          ∙ ap (λ o. child_by o name) (sym was) ∙ ap (λ k. edges_of s k name) (sym one.1)
      | inr two ↦ ap (λ o. child_by o name) (up.others key two.1)
    ]

    nodes : (key : ℕ) → nodes_of t key ≡ nodes_of s key
    nodes key = elim (eqb_tells key at) [
      | inl one ↦
          ap (nodes_of t) one.1 ∙ ap node_of up.changed ∙ ap Some same
          ∙ ap node_of (sym was) ∙ ap (nodes_of s) (sym one.1)
      | inr two ↦ ap node_of (up.others key two.1)
    ]

pub on_err : {A E : Type 0} (r : Result A E) (X : Type 0) → X → OnErr r X
on_err (Ok a) X x = tt
on_err (Err e) X x = x

pub on_ok_by : {A E : Type 0} (r : Result A E) {X Y : Type 0} → (X → Y) → OnOk r X → OnOk r Y
on_ok_by (Ok a) f x = f x
on_ok_by (Err e) f x = tt

pub on_err_by : {A E : Type 0} (r : Result A E) {X Y : Type 0} → (X → Y) → OnErr r X → OnErr r Y
on_err_by (Ok a) f x = tt
on_err_by (Err e) f x = f x

-- what stands at a node is written, and its edges are as they were
pub node_changed : (s t : Slab Place) (key : ℕ) (place new : Place) (f : Node → Node) → get s key ≡ Some place → Updates s t key (Some new) → new.node ≡ f place.node → new.children.entries ≡ place.children.entries → NodeChanged s t key f
node_changed s t key place new f was up changed children = record {
  here = ap node_of up.changed ∙ ap Some changed ∙ ap (λ o. option_map f (node_of o)) (sym was);
  others = λ other apart. ap node_of (up.others other apart);
  edges = edges;
}
  where
    edges : (from : ℕ) (name : List ℕ) → edges_of t from name ≡ edges_of s from name
    edges from name = elim (eqb_tells from key) [
      | inl one ↦
          ap (λ k. edges_of t k name) one.1 ∙ ap (λ o. child_by o name) up.changed ∙ ap (lookup (is_at (name_cmp name))) children
          ∙ ap (λ o. child_by o name) (sym was) ∙ ap (λ k. edges_of s k name) (sym one.1)
      | inr two ↦ ap (λ o. child_by o name) (up.others from two.1)
    ]

-- a node is put at a vacant key, and an edge to it is set
pub node_added : (s t u : Slab Place) (key at : ℕ) (place : Place) (name : List ℕ) → get s key ≡ None → Updates s t key (Some place) → place.children.entries ≡ [] → EdgeSet t u at name (Some key) → NodeAdded s u at name place.node key
node_added s t u key at place name vacant up bare set = record {
  vacant = ap node_of vacant;
  bare = λ other. ap (λ o. child_by o other) vacant;
  here = set.here;
  others = λ from other apart. set.others from other apart ∙ others from other;
  stands = set.nodes key ∙ ap node_of up.changed;
  nodes = λ other apart. set.nodes other ∙ ap node_of (up.others other apart);
}
  where
    others : (from : ℕ) (other : List ℕ) → edges_of t from other ≡ edges_of s from other
    others from other = elim (eqb_tells from key) [
      | inl one ↦
          ap (λ k. edges_of t k other) one.1 ∙ ap (λ o. child_by o other) up.changed ∙ ap (lookup (is_at (name_cmp other))) bare
          ∙ ap (λ o. child_by o other) (sym vacant) ∙ ap (λ k. edges_of s k other) (sym one.1)
      | inr two ↦ ap (λ o. child_by o other) (up.others from two.1)
    ]

-- it is taken out again
pub taken_back : (s t u v : Slab Place) (key : ℕ) (place : Place) → get s key ≡ None → Updates s t key (Some place) → SameGraph t u → Updates u v key None → SameGraph s v
taken_back s t u v key place vacant up same out = record { edges = edges; nodes = nodes }
  where
    edges : (k : ℕ) (name : List ℕ) → edges_of v k name ≡ edges_of s k name
    edges k name = elim (eqb_tells k key) [
      | inl one ↦ ap (λ x. edges_of v x name) one.1 ∙ ap (λ o. child_by o name) out.changed ∙ ap (λ o. child_by o name) (sym vacant) ∙ ap (λ x. edges_of s x name) (sym one.1)
      | inr two ↦ ap (λ o. child_by o name) (out.others k two.1) ∙ same.edges k name ∙ ap (λ o. child_by o name) (up.others k two.1)
    ]

    nodes : (k : ℕ) → nodes_of v k ≡ nodes_of s k
    nodes k = elim (eqb_tells k key) [
      | inl one ↦ ap (nodes_of v) one.1 ∙ ap node_of out.changed ∙ ap node_of (sym vacant) ∙ ap (nodes_of s) (sym one.1)
      | inr two ↦ ap node_of (out.others k two.1) ∙ same.nodes k ∙ ap node_of (up.others k two.1)
    ]

-- the same values
pub graph_kept : (s t : Slab Place) → t.slots ≡ s.slots → SameGraph s t
graph_kept s t same = record {
  edges = λ key name. ap (λ (slots : List (Option Place)). child_by (slice_index_or slots key None) name) same;
  nodes = λ key. ap (λ (slots : List (Option Place)). option_map (λ (p : Place). p.node) (slice_index_or slots key None)) same;
}

-- what is told of a graph is told of the same graph
pub told_same : (s t : Slab Place) (root : ℕ) (c : Content) → SameGraph s t → IsTold (edges_of s) (nodes_of s) root c → IsTold (edges_of t) (nodes_of t) root c
told_same s t root c same told =
    let edges : edges_of s ≡ edges_of t = λ i key name. sym (same.edges key name) i in
    let nodes : nodes_of s ≡ nodes_of t = λ i key. sym (same.nodes key) i in
    subst (λ e. IsTold e (nodes_of t) root c) edges (subst (λ n. IsTold (edges_of s) n root c) nodes told)

-- a node that is added
pub told_added : (s t : Slab Place) (root at key : ℕ) (c : Content) (above path : List (List ℕ)) (name : List ℕ) (node : Node) → IsTold (edges_of s) (nodes_of s) root c → path ≡ above ++ name ∷ []
    → steps (edges_of s) (Some root) above ≡ Some at → finite.get c path ≡ None → NodeAdded s t at name node key → IsTold (edges_of t) (nodes_of t) root (finite.insert c path node)
told_added s t root at key c above path name node told is leads free new =
    subst (λ p. IsTold (edges_of t) (nodes_of t) root (finite.insert c p node)) (sym is)
    (added_told (edges_of s) (nodes_of s) root c told above name at key (edges_of t) (nodes_of t) node leads
    (ap (steps (edges_of s) (Some root)) (sym is) ∙ absent (edges_of s) (nodes_of s) root c told path free) new.vacant new.here new.others new.bare new.stands new.nodes)

-- its path leads to it, and from there no edge goes on
pub added_at : (s t : Slab Place) (root at key : ℕ) (c : Content) (above path : List (List ℕ)) (name : List ℕ) (node : Node) → IsTold (edges_of s) (nodes_of s) root c → path ≡ above ++ name ∷ []
    → steps (edges_of s) (Some root) above ≡ Some at → steps (edges_of s) (Some root) path ≡ None → NodeAdded s t at name node key → steps (edges_of t) (Some root) path ≡ Some key
added_at s t root at key c above path name node told is leads free new =
    ap (steps (edges_of t) (Some root)) is
    ∙ added_leads (edges_of s) (nodes_of s) root c told above name at key (edges_of t) (nodes_of t) node leads
    (ap (steps (edges_of s) (Some root)) (sym is) ∙ free) new.vacant new.here new.others new.bare new.stands new.nodes

pub added_bare : (s t : Slab Place) (at key : ℕ) (name other : List ℕ) (node : Node) → is_some (nodes_of s at) ≡ true → NodeAdded s t at name node key → edges_of t key other ≡ None
added_bare s t at key name other node there new = new.others key other (λ same _. true≢false (sym there ∙ ap is_some (ap (nodes_of s) (sym same) ∙ new.vacant))) ∙ new.bare other

-- the content of the nodes is the one that is told
pub content_is : (s : Slab Place) (root : ℕ) (held : Held s root) (c : Content) → IsTold (edges_of s) (nodes_of s) root c → held.0 ≡ c
content_is s root held c told = finite.same_map path_total path_exact held.0 c (λ q. held.1.holds q ∙ sym (told.holds q))

-- an edge that is moved
pub told_moved : (s t : Slab Place) (root fat key tat : ℕ) (c : Content) (fa from ta to : List (List ℕ)) (fn tn : List ℕ) → IsTold (edges_of s) (nodes_of s) root c → from ≡ fa ++ fn ∷ [] → to ≡ ta ++ tn ∷ []
    → steps (edges_of s) (Some root) fa ≡ Some fat → edges_of s fat fn ≡ Some key → steps (edges_of s) (Some root) ta ≡ Some tat → finite.get c to ≡ None → within from to ≡ false
    → EdgeMoved s t fat fn key tat tn → IsTold (edges_of t) (nodes_of t) root (renamed from to c)
told_moved s t root fat key tat c fa from ta to fn tn told from_is to_is from_leads edge to_leads free outside moved =
    subst (λ x. IsTold (edges_of t) (nodes_of t) root (renamed x to c)) (sym from_is)
    (subst (λ x. IsTold (edges_of t) (nodes_of t) root (renamed (fa ++ fn ∷ []) x c)) (sym to_is)
    (subst (λ n. IsTold (edges_of t) n root (renamed (fa ++ fn ∷ []) (ta ++ tn ∷ []) c)) (λ i k. sym (moved.nodes k) i)
    (moved_told (edges_of s) (nodes_of s) root c told fa fn ta tn fat tat key (edges_of t) from_leads edge to_leads
    (ap (steps (edges_of s) (Some root)) (sym to_is) ∙ absent (edges_of s) (nodes_of s) root c told to free)
    out (moved.put apart) moved.gone moved.others)))
  where
    out : within (fa ++ fn ∷ []) (ta ++ tn ∷ []) ≡ false
    out = (λ i. within (sym from_is i) (sym to_is i)) ∙ outside

    -- else the path would be moved to itself
    apart : tat ≡ fat → tn ≡ fn → ⊥
    apart here same =
        let one : ta ≡ fa = told.one ta fa fat (to_leads ∙ ap Some here) from_leads in
        let whole : ta ++ tn ∷ [] ≡ (fa ++ fn ∷ []) ++ [] = (λ i. one i ++ same i ∷ []) ∙ sym (append-nil (fa ++ fn ∷ [])) in
        true≢false (ap is_some (sym (strip-append (fa ++ fn ∷ []) [])) ∙ ap (within (fa ++ fn ∷ [])) (sym whole) ∙ out)

-- a node that is changed
pub told_changed : (s t : Slab Place) (root key : ℕ) (c : Content) (path : List (List ℕ)) (f : Node → Node) (old : Node) → IsTold (edges_of s) (nodes_of s) root c → steps (edges_of s) (Some root) path ≡ Some key
    → nodes_of s key ≡ Some old → NodeChanged s t key f → IsTold (edges_of t) (nodes_of t) root (finite.insert c path (f old))
told_changed s t root key c path f old told leads was changed =
    subst (λ e. IsTold e (nodes_of t) root (finite.insert c path (f old))) (λ i from name. sym (changed.edges from name) i)
    (changed_told (edges_of s) (nodes_of s) root c told path key (nodes_of t) old (f old) leads was (changed.here ∙ ap (option_map f) was) changed.others)

-- whether a call was answered or not
pub either : {A E : Type 0} (r : Result A E) (P Q X : Type 0) → OnOk r P → OnErr r Q → (P → X) → (Q → X) → X
either (Ok a) P Q X p q f g = f p
either (Err e) P Q X p q f g = g q

pub either_of : {A E : Type 0} (r : Result A E) (P : A → Type 0) (Q X : Type 0) → IfOk r P → OnErr r Q → ((a : A) → P a → X) → (Q → X) → X
either_of (Ok a) P Q X p q f g = f a p
either_of (Err e) P Q X p q f g = g q

-- something is at a path: so something is above it, and an edge leads from there
pub none_above : (s : Slab Place) (root : ℕ) (c : Content) (above path : List (List ℕ)) (name : List ℕ) → IsTold (edges_of s) (nodes_of s) root c → path ≡ above ++ name ∷ [] → is_some (finite.get c path) ≡ true
    → steps (edges_of s) (Some root) above ≡ None → ⊥
none_above s root c above path name told is found none =
    true≢false (sym found ∙ ap is_some (told.holds path ∙ ap (standing (nodes_of s)) (ap (steps (edges_of s) (Some root)) is ∙ steps-append (edges_of s) (Some root) above (name ∷ []) ∙ ap (λ o. along (edges_of s) o name) none)))

pub no_edge : (s : Slab Place) (root at : ℕ) (c : Content) (above path : List (List ℕ)) (name : List ℕ) → IsTold (edges_of s) (nodes_of s) root c → path ≡ above ++ name ∷ [] → is_some (finite.get c path) ≡ true
    → steps (edges_of s) (Some root) above ≡ Some at → edges_of s at name ≡ None → ⊥
no_edge s root at c above path name told is found leads none =
    true≢false (sym found ∙ ap is_some (told.holds path ∙ ap (standing (nodes_of s)) (ap (steps (edges_of s) (Some root)) is ∙ steps-append (edges_of s) (Some root) above (name ∷ []) ∙ ap (λ o. along (edges_of s) o name) leads ∙ none)))

-- what is there is changed
pub some_changed : (s t : Slab Place) (root key : ℕ) (c : Content) (path : List (List ℕ)) (f : Node → Node) → IsTold (edges_of s) (nodes_of s) root c → steps (edges_of s) (Some root) path ≡ Some key → NodeChanged s t key f
    → IsTold (edges_of t) (nodes_of t) root (changed_at c path f)
some_changed s t root key c path f told leads changed = by (nodes_of s key) refl
  where
    by : (o : Option Node) → nodes_of s key ≡ o → IsTold (edges_of t) (nodes_of t) root (changed_at c path f)
    by None is = absurd (true≢false (sym (told.live path key leads) ∙ ap is_some is))
    by (Some old) is =
        let there : finite.get c path ≡ Some old = told.holds path ∙ ap (standing (nodes_of s)) leads ∙ is in
        subst (λ o. IsTold (edges_of t) (nodes_of t) root (changed_by c path f o)) (sym there) (told_changed s t root key c path f old told leads is changed)

-- a node with no edges is put into a slab with none
pub told_alone : (s t : Slab Place) (key : ℕ) (place : Place) → s.slots ≡ [] → Updates s t key (Some place) → place.children.entries ≡ [] → IsTold (edges_of t) (nodes_of t) key (finite.insert finite.empty [] place.node)
told_alone s t key place none up bare = root_told (edges_of t) (nodes_of t) key place.node edges (ap node_of up.changed) (λ k apart. ap node_of (up.others k apart ∙ vacant k))
  where
    vacant : (k : ℕ) → get s k ≡ None
    vacant k = ap (λ (slots : List (Option Place)). slice_index_or slots k None) none ∙ get_or_past [] k None (omega arith)

    edges : (k : ℕ) (n : List ℕ) → edges_of t k n ≡ None
    edges k n = elim (eqb_tells k key) [
      | inl same ↦ ap (λ x. edges_of t x n) same.1 ∙ ap (λ o. child_by o n) up.changed ∙ ap (lookup (is_at (name_cmp n))) bare
      | inr other ↦ ap (λ o. child_by o n) (up.others k other.1 ∙ vacant k)
    ]

-- a node that is taken out, once the edge to it is
pub node_cut : (s t u : Slab Place) (at key : ℕ) (name : List ℕ) → EdgeSet s t at name None → Updates t u key None → NodeCut s u at name key
node_cut s t u at key name set out = record {
  gone = by (eqb_tells at key);
  bare = λ other. ap (λ o. child_by o other) out.changed;
  others = λ from other apart aside. ap (λ o. child_by o other) (out.others from aside) ∙ set.others from other apart;
  out = ap node_of out.changed;
  nodes = λ other apart. ap node_of (out.others other apart) ∙ set.nodes other;
}
  where
    by : ((eqb at key ≡ true) × (at ≡ key)) ⊎ ((eqb at key ≡ false) × (at ≢ key)) → edges_of u at name ≡ None
    by (inl same) = ap (λ x. edges_of u x name) same.1 ∙ ap (λ o. child_by o name) out.changed
    by (inr other) = ap (λ o. child_by o name) (out.others at other.1) ∙ set.here

cut_rest : (s t : Slab Place) (at key : ℕ) (name : List ℕ) → ((n : List ℕ) → edges_of s key n ≡ None) → NodeCut s t at name key → (k : ℕ) (n : List ℕ) → (k ≡ at → n ≡ name → ⊥) → edges_of t k n ≡ edges_of s k n
cut_rest s t at key name bare cut k n apart = elim (eqb_tells k key) [
  | inl same ↦ ap (λ x. edges_of t x n) same.1 ∙ cut.bare n ∙ sym (bare n) ∙ ap (λ x. edges_of s x n) (sym same.1)
  | inr other ↦ cut.others k n apart other.1
]

-- a path with nothing beneath it is taken out
pub told_cut : (s t : Slab Place) (root at key : ℕ) (c : Content) (above path : List (List ℕ)) (name : List ℕ) → IsTold (edges_of s) (nodes_of s) root c → path ≡ above ++ name ∷ []
    → steps (edges_of s) (Some root) above ≡ Some at → edges_of s at name ≡ Some key → ((n : List ℕ) → edges_of s key n ≡ None) → NodeCut s t at name key → IsTold (edges_of t) (nodes_of t) root (without_one path c)
told_cut s t root at key c above path name told is leads edge bare cut =
    subst (λ p. IsTold (edges_of t) (nodes_of t) root (without_one p c)) (sym is)
    (leaf_told (edges_of s) (nodes_of s) root c told above name at key (edges_of t) (nodes_of t) leads edge bare cut.gone (cut_rest s t at key name bare cut) cut.out cut.nodes)

-- where another path led, it leads still
pub cut_stays : (s t : Slab Place) (root at key k : ℕ) (c : Content) (above q : List (List ℕ)) (name : List ℕ) → IsTold (edges_of s) (nodes_of s) root c
    → steps (edges_of s) (Some root) above ≡ Some at → edges_of s at name ≡ Some key → ((n : List ℕ) → edges_of s key n ≡ None) → NodeCut s t at name key → q ≢ above ++ name ∷ []
    → steps (edges_of s) (Some root) q ≡ Some k → steps (edges_of t) (Some root) q ≡ Some k
cut_stays s t root at key k c above q name told leads edge bare cut other led =
    leaf_stays (edges_of s) (nodes_of s) root c told above name at key (edges_of t) (nodes_of t) leads edge bare cut.gone (cut_rest s t at key name bare cut) cut.out cut.nodes q (different q (above ++ name ∷ []) other) ∙ led

some_is : (x y : List ℕ × ℕ) → Some x ≡ Some y → x ≡ y
some_is x y e = cc

-- the first edge is an edge, and where there is none, none is
pub first_is : (s : Slab Place) (at key : ℕ) (name : List ℕ) → first_edge s at ≡ Some (name, key) → edges_of s at name ≡ Some key
first_is s at key name = by (get s at)
  where
    by : (o : Option Place) → first_by o ≡ Some (name, key) → child_by o name ≡ Some key
    by None is = absurd (cc)
    by (Some place) is = on place.children.entries is
      where
        on : (es : List (List ℕ × ℕ)) → first_of es ≡ Some (name, key) → lookup (is_at (name_cmp name)) es ≡ Some key
        on [] is = absurd (cc)
        on (e ∷ es) is =
            let pairs : e ≡ (name, key) = some_is e (name, key) is in
            let here : e.0 ≡ name = ap (λ p. p.0) pairs in
            let there : e.1 ≡ key = ap (λ p. p.1) pairs in
            let same : is_eq (name_cmp name e.0) ≡ true = ap (λ x. is_eq (name_cmp name x)) here ∙ ap is_eq (tied_itself nat_list_cmp_total name) in
            rw same (ap Some there)

-- a node from which an edge leads stands
pub first_stands : (s : Slab Place) (at key : ℕ) (name : List ℕ) → first_edge s at ≡ Some (name, key) → is_some (nodes_of s at) ≡ true
first_stands s at key name = by (get s at)
  where
    by : (o : Option Place) → first_by o ≡ Some (name, key) → is_some (node_of o) ≡ true
    by None is = absurd (cc)
    by (Some place) is = refl

pub first_none : (s : Slab Place) (at : ℕ) → first_edge s at ≡ None → (n : List ℕ) → edges_of s at n ≡ None
first_none s at is n = by (get s at) is
  where
    by : (o : Option Place) → first_by o ≡ None → child_by o n ≡ None
    by None is = refl
    by (Some place) is = on place.children.entries is
      where
        on : (es : List (List ℕ × ℕ)) → first_of es ≡ None → lookup (is_at (name_cmp n)) es ≡ None
        on [] is = refl
        on (e ∷ es) is = absurd (cc)

-- the first edge is taken out, and the node to which it leads
pub cut_some : (s t u : Slab Place) (at key : ℕ) (name : List ℕ) → first_edge s at ≡ Some (name, key) → EdgeSet s t at name None → Updates t u key None → IfSome (first_edge s at) (λ e. NodeCut s u at e.0 e.1)
cut_some s t u at key name is set out = subst (λ o. IfSome o (λ e. NodeCut s u at e.0 e.1)) (sym is) (node_cut s t u at key name set out)
