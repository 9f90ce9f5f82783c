-- A walk over the nodes from the root, in the order of the paths.
use Rattle.std.proofs.Common.{◌≡◌, ℕ, ◌<◌, Bool, true, false, cond, ◌&&◌, ◌||◌, List, [], ◌∷◌, ◌++◌, append_assoc, append-nil, map, reverse, length, refl, sym, ap, ◌∙◌, subst, Option, Some, None, is_some, true≢false, Ordering, Less, Equal, Greater, arith}
use Rattle.std.specs.Prelude.{T}
use Rattle.std.specs.Ordering.{is_eq, is_lt, nat_cmp, ordering_then}
use Rattle.std.specs.Cmp.{tied_itself}
use Rattle.std.specs.Cmp.Lexicographic.{slice_cmp, nat_list_cmp_total}
use Rattle.std.specs.List.{AllByRecursion}
use Rattle.std.specs.List.Sorted.{IsStrictlySortedBy}
use Rattle.std.specs.Map.{lookup}
use Rattle.std.specs.BTreeMap.{is_at}
use Rattle.std.specs.FinMap as finite
use Rattle.std.specs.FinMap.Entries.{find, is_sorted, below_all, same_entries, where_key, is_sorted-where_key, find-where_key}
use Rattle.std.proofs.lemmas.List.{reverse-append}
use Rattle.slab.specs.Slab.{Slab, get}
use Rattle.mr_paths.specs.Path.{path_cmp, path_total, path_exact, strip}
use Rattle.mr_paths.proofs.Paths.{append-strip, strip-append}
use Rattle.mr_names_tree.specs.declared.node.Node.{Node}
use Rattle.mr_names_tree.specs.declared.place.Place.{Place}
use Rattle.mr_names_tree.specs.declared.place.Ahead.{Ahead}
use Rattle.mr_names_tree.specs.declared.walk.Found.{Found}
use Rattle.mr_names_tree.specs.Walk.{found_of, walk}
use Rattle.mr_names_tree.specs.Content.{Content, within}
use Rattle.mr_names_tree.specs.inner.Tree.{along, steps, standing, edges_of, nodes_of, IsTold, links_of, ahead_of}
use Rattle.mr_names_tree.proofs.ContentLaws.{same, same_path, same_itself}
use Rattle.mr_names_tree.proofs.LastNames.{Names}
use Rattle.mr_names_tree.proofs.Walks.{steps-append, steps-none}
use Rattle.mr_names_tree.proofs.Beneath.{within_up, within_itself}
use Rattle.mr_names_tree.proofs.NodeLines.{edges_by}

abbrev name_cmp : List ℕ → List ℕ → Ordering
name_cmp = slice_cmp nat_cmp

abbrev Links : Type 0
Links = List (List ℕ × ℕ)

abbrev Content_list : Type 0
Content_list = List (Names × Node)

abbrev heads : Links → List (List ℕ)
heads links = map (λ (e : List ℕ × ℕ). e.0) links

-- the entries at and beneath a path
abbrev pub under : Names → Content_list → Content_list
under p es = where_key path_cmp (within p) es

-- those beneath each edge's path, one edge after another
abbrev pub each : Names → Links → Content_list → Content_list
each p [] es = []
each p (l ∷ links) es = under (p ++ l.0 ∷ []) es ++ each p links es

-- ---- their order

first : (a b : Bool) → T (a && b) → T a
first true b p = tt
first false b p = p

second : (a b : Bool) → T (a && b) → T b
second true b p = p
second false b p = absurd p

both : (a b : Bool) → T a → T b → T (a && b)
both true b p q = q
both false b p q = p

less_then : (o : Ordering) (rest : Ordering) → o ≡ Less → ordering_then o rest ≡ Less
less_then o rest e = ap (λ x. ordering_then x rest) e

less_beneath : (p : Names) (n : List ℕ) (r : Names) → path_cmp p (p ++ n ∷ r) ≡ Less
less_beneath [] n r = refl
less_beneath (x ∷ p) n r = ap (λ o. ordering_then o (path_cmp p (p ++ n ∷ r))) (tied_itself nat_list_cmp_total x) ∙ less_beneath p n r

less_across : (p : Names) (n m : List ℕ) (r t : Names) → name_cmp n m ≡ Less → path_cmp (p ++ n ∷ r) (p ++ m ∷ t) ≡ Less
less_across [] n m r t e = less_then (name_cmp n m) (path_cmp r t) e
less_across (x ∷ p) n m r t e = ap (λ o. ordering_then o (path_cmp (p ++ n ∷ r) (p ++ m ∷ t))) (tied_itself nat_list_cmp_total x) ∙ less_across p n m r t e

-- a path beneath another
rest_of : (p : Names) (n : List ℕ) (q : Names) → within (p ++ n ∷ []) q ≡ true → (r : Names) × (q ≡ p ++ n ∷ r)
rest_of p n q inside = by (strip (p ++ n ∷ []) q) refl
  where
    by : (o : Option Names) → strip (p ++ n ∷ []) q ≡ o → (r : Names) × (q ≡ p ++ n ∷ r)
    by None is = absurd (true≢false (sym inside ∙ ap is_some is))
    by (Some r) is = (r, append-strip (p ++ n ∷ []) q r is ∙ append_assoc p (n ∷ []) r)

below_under : (a top : Names) (es : Content_list) → ((x : Names) → within top x ≡ true → path_cmp a x ≡ Less) → T (below_all path_cmp a (under top es))
below_under a top [] h = tt
below_under a top (e ∷ es) h = by (within top e.0) refl (below_under a top es h)
  where
    by : (b : Bool) → within top e.0 ≡ b → T (below_all path_cmp a (under top es)) → T (below_all path_cmp a (cond b (e ∷ under top es) (under top es)))
    by true is rest = both _ _ (subst (λ o. T (is_lt o)) (sym (h e.0 is)) tt) rest
    by false is rest = rest

below_both : (a : Names) (xs ys : Content_list) → T (below_all path_cmp a xs) → T (below_all path_cmp a ys) → T (below_all path_cmp a (xs ++ ys))
below_both a [] ys h g = g
below_both a (x ∷ xs) ys h g = both _ _ (first _ _ h) (below_both a xs ys (second _ _ h) g)

below_each : (a p : Names) (links : Links) (es : Content_list) → AllByRecursion (λ m. (x : Names) → within (p ++ m ∷ []) x ≡ true → path_cmp a x ≡ Less) (heads links) → T (below_all path_cmp a (each p links es))
below_each a p [] es h = tt
below_each a p (l ∷ links) es h = below_both a (under (p ++ l.0 ∷ []) es) (each p links es) (below_under a (p ++ l.0 ∷ []) es h.0) (below_each a p links es h.1)

all_under : (P : Names → Type 0) (top : Names) (es : Content_list) → ((x : Names) → within top x ≡ true → P x) → AllByRecursion (λ (e : Names × Node). P e.0) (under top es)
all_under P top [] h = tt
all_under P top (e ∷ es) h = by (within top e.0) refl (all_under P top es h)
  where
    by : (b : Bool) → within top e.0 ≡ b → AllByRecursion (λ (x : Names × Node). P x.0) (under top es) → AllByRecursion (λ (x : Names × Node). P x.0) (cond b (e ∷ under top es) (under top es))
    by true is rest = (h e.0 is, rest)
    by false is rest = rest

sorted_both : (xs ys : Content_list) → T (is_sorted path_cmp xs) → T (is_sorted path_cmp ys) → AllByRecursion (λ (x : Names × Node). T (below_all path_cmp x.0 ys)) xs → T (is_sorted path_cmp (xs ++ ys))
sorted_both [] ys h g a = g
sorted_both (x ∷ xs) ys h g a = both _ _ (below_both x.0 xs ys (first _ _ h) a.0) (sorted_both xs ys (second _ _ h) g a.1)

across : (p : Names) (n : List ℕ) (a : Names) → within (p ++ n ∷ []) a ≡ true → (links : Links) → AllByRecursion (λ m. name_cmp n m ≡ Less) (heads links)
    → AllByRecursion (λ m. (x : Names) → within (p ++ m ∷ []) x ≡ true → path_cmp a x ≡ Less) (heads links)
across p n a here [] h = tt
across p n a here (l ∷ links) h = (
  λ x there.
      let v = rest_of p n a here in
      let w = rest_of p l.0 x there in
      ap (path_cmp a) w.1 ∙ ap (λ y. path_cmp y (p ++ l.0 ∷ w.0)) v.1 ∙ less_across p n l.0 v.0 w.0 h.0,
  across p n a here links h.1,
)

sorted_each : (p : Names) (links : Links) (es : Content_list) → IsStrictlySortedBy name_cmp (heads links) → T (is_sorted path_cmp es) → T (is_sorted path_cmp (each p links es))
unfolding IsStrictlySortedBy
sorted_each p [] es h g = tt
sorted_each p (l ∷ links) es h g =
    sorted_both (under (p ++ l.0 ∷ []) es) (each p links es) (is_sorted-where_key path_cmp (within (p ++ l.0 ∷ [])) es g) (sorted_each p links es h.1 g)
    (all_under (λ a. T (below_all path_cmp a (each p links es))) (p ++ l.0 ∷ []) es (λ a here. below_each a p links es (across p l.0 a here links h.0)))

first_below : (p : Names) (links : Links) → AllByRecursion (λ m. (x : Names) → within (p ++ m ∷ []) x ≡ true → path_cmp p x ≡ Less) (heads links)
first_below p [] = tt
first_below p (l ∷ links) = (λ x there. let w = rest_of p l.0 x there in ap (path_cmp p) w.1 ∙ less_beneath p l.0 w.0, first_below p links)

-- ---- their look-ups

find_under : (top q : Names) (es : Content_list) → find path_cmp q (under top es) ≡ cond (within top q) (find path_cmp q es) None
find_under top q es = find-where_key path_cmp (within top) q (λ x tied. ap (within top) (sym (path_exact q x tied))) es

find_both : (q : Names) (xs ys : Content_list) (b c : Bool) (o : Option Node) → find path_cmp q xs ≡ cond b o None → find path_cmp q ys ≡ cond c o None → find path_cmp q (xs ++ ys) ≡ cond (b || c) o None
find_both q [] ys true c o e f = f ∙ same_none c (sym e)
  where
    same_none : (c : Bool) → o ≡ None → cond c o None ≡ o
    same_none true none = refl
    same_none false none = sym none
find_both q [] ys false c o e f = f
find_both q (x ∷ xs) ys b c o e f = by (same q x.0) e (find_both q xs ys b c o)
  where
    other : (b c : Bool) (o : Option Node) (v : Node) → Some v ≡ cond b o None → Some v ≡ cond (b || c) o None
    other true c o v e = e
    other false c o v e = absurd (cc)

    by : (d : Bool) → cond d (Some x.1) (find path_cmp q xs) ≡ cond b o None → (find path_cmp q xs ≡ cond b o None → find path_cmp q ys ≡ cond c o None → find path_cmp q (xs ++ ys) ≡ cond (b || c) o None)
        → cond d (Some x.1) (find path_cmp q (xs ++ ys)) ≡ cond (b || c) o None
    by true e later = other b c o x.1 e
    by false e later = later e f

-- whether a path is beneath an edge's
abbrev beneath_one : Names → Links → Names → Bool
beneath_one p [] q = false
beneath_one p (l ∷ links) q = within (p ++ l.0 ∷ []) q || beneath_one p links q

find_each : (p : Names) (links : Links) (es : Content_list) (q : Names) → find path_cmp q (each p links es) ≡ cond (beneath_one p links q) (find path_cmp q es) None
find_each p [] es q = refl
find_each p (l ∷ links) es q =
    find_both q (under (p ++ l.0 ∷ []) es) (each p links es) (within (p ++ l.0 ∷ []) q) (beneath_one p links q) (find path_cmp q es) (find_under (p ++ l.0 ∷ []) q es) (find_each p links es q)

one_within : (p : Names) (links : Links) (q : Names) → beneath_one p links q ≡ true → within p q ≡ true
one_within p [] q e = absurd (true≢false (sym e))
one_within p (l ∷ links) q e = by (within (p ++ l.0 ∷ []) q) refl e (one_within p links q)
  where
    by : (b : Bool) → within (p ++ l.0 ∷ []) q ≡ b → (b || beneath_one p links q) ≡ true → (beneath_one p links q ≡ true → within p q ≡ true) → within p q ≡ true
    by true is e later = within_up p q l.0 is
    by false is e later = later e

or_later : (a b : Bool) → b ≡ true → (a || b) ≡ true
or_later true b e = refl
or_later false b e = e

equal : (o : Ordering) → is_eq o ≡ true → o ≡ Equal
equal Less e = absurd (cc)
equal Equal e = refl
equal Greater e = absurd (cc)

-- what an edge leads to is beneath one
linked_beneath : (p : Names) (n : List ℕ) (r : Names) (links : Links) → is_some (lookup (is_at (name_cmp n)) links) ≡ true → beneath_one p links (p ++ n ∷ r) ≡ true
linked_beneath p n r [] e = absurd (true≢false (sym e))
linked_beneath p n r (l ∷ links) e = by (is_eq (name_cmp n l.0)) refl e (linked_beneath p n r links)
  where
    by : (b : Bool) → is_eq (name_cmp n l.0) ≡ b → is_some (cond b (Some l.1) (lookup (is_at (name_cmp n)) links)) ≡ true → (is_some (lookup (is_at (name_cmp n)) links) ≡ true → beneath_one p links (p ++ n ∷ r) ≡ true)
        → (within (p ++ l.0 ∷ []) (p ++ n ∷ r) || beneath_one p links (p ++ n ∷ r)) ≡ true
    by true is e later =
        let here : n ≡ l.0 = finite.slice_cmp-IsAntisymmetric finite.nat_cmp-IsAntisymmetric n l.0 (equal _ is) in
        let inside : within (p ++ l.0 ∷ []) (p ++ n ∷ r) ≡ true =
        ap (λ m. within (p ++ m ∷ []) (p ++ n ∷ r)) (sym here) ∙ ap (within (p ++ n ∷ [])) (sym (append_assoc p (n ∷ []) r)) ∙ ap is_some (strip-append (p ++ n ∷ []) r) in
        ap (λ b. b || beneath_one p links (p ++ n ∷ r)) inside
    by false is e later = or_later (within (p ++ l.0 ∷ []) (p ++ n ∷ r)) _ (later e)

-- each edge is found by its name
abbrev Linked : Slab Place → ℕ → Links → Type 0
Linked s key links = AllByRecursion (λ (l : List ℕ × ℕ). edges_of s key l.0 ≡ Some l.1) links

-- ---- a node, and then what is beneath each of its edges

module _ (s : Slab Place) (root : ℕ) (c : Content) (told : IsTold (edges_of s) (nodes_of s) root c) where
  abbrev E : Names → Option ℕ
  E p = steps (edges_of s) (Some root) p

  abbrev all : Content_list
  all = finite.entries c

  -- a path beneath a node and beneath none of its edges holds nothing
  nothing_else : (p : Names) (key : ℕ) → E p ≡ Some key → (n : List ℕ) (r : Names) → beneath_one p (links_of s key) (p ++ n ∷ r) ≡ false → find path_cmp (p ++ n ∷ r) all ≡ None
  nothing_else p key leads n r out =
      sym (finite.get-entries c (p ++ n ∷ r)) ∙ told.holds (p ++ n ∷ r) ∙ ap (standing (nodes_of s)) (steps-append (edges_of s) (Some root) p (n ∷ r) ∙ ap (λ o. steps (edges_of s) (along (edges_of s) o n) r) leads ∙ by (lookup (is_at (name_cmp n)) (links_of s key)) refl)
    where
      by : (o : Option ℕ) → lookup (is_at (name_cmp n)) (links_of s key) ≡ o → steps (edges_of s) (edges_of s key n) r ≡ None
      by None is = ap (λ o. steps (edges_of s) o r) (edges_by (get s key) n ∙ is) ∙ steps-none (edges_of s) r
      by (Some k) is = absurd (true≢false (sym (linked_beneath p n r (links_of s key) (ap is_some is)) ∙ out))

  node_there : (p : Names) (key : ℕ) (node : Node) → E p ≡ Some key → nodes_of s key ≡ Some node → find path_cmp p all ≡ Some node
  node_there p key node leads is = sym (finite.get-entries c p) ∙ told.holds p ∙ ap (standing (nodes_of s)) leads ∙ is

  pub under_is : (p : Names) (key : ℕ) (node : Node) → E p ≡ Some key → nodes_of s key ≡ Some node → IsStrictlySortedBy name_cmp (heads (links_of s key)) → under p all ≡ (p, node) ∷ each p (links_of s key) all
  under_is p key node leads is sorted =
      same_entries path_cmp path_total (λ x y e. path_exact x y e) (under p all) ((p, node) ∷ each p (links_of s key) all)
      (is_sorted-where_key path_cmp (within p) all (finite.entries_sorted c))
      (both _ _ (below_each p p (links_of s key) all (first_below p (links_of s key))) (sorted_each p (links_of s key) all sorted (finite.entries_sorted c)))
      (λ q. find_under p q all ∙ by q (same q p) refl (within p q) refl (beneath_one p (links_of s key) q) refl ∙ ap (cond (same q p) (Some node)) (sym (find_each p (links_of s key) all q)))
    where
      last : (q : Names) → (same q p ≡ false) → (o : Option Names) → strip p q ≡ o → is_some o ≡ true → beneath_one p (links_of s key) q ≡ false → find path_cmp q all ≡ None
      last q apart None is some out = absurd (true≢false (sym some))
      last q apart (Some []) is some out = absurd (true≢false (sym (same_itself p) ∙ ap (λ x. same x p) (sym (append-strip p q [] is ∙ append-nil p)) ∙ apart))
      last q apart (Some (n ∷ r)) is some out =
          let whole : q ≡ p ++ n ∷ r = append-strip p q (n ∷ r) is in
          ap (λ x. find path_cmp x all) whole ∙ nothing_else p key leads n r (ap (beneath_one p (links_of s key)) (sym whole) ∙ out)

      by : (q : Names) (a : Bool) → same q p ≡ a → (b : Bool) → within p q ≡ b → (d : Bool) → beneath_one p (links_of s key) q ≡ d → cond b (find path_cmp q all) None ≡ cond a (Some node) (cond d (find path_cmp q all) None)
      by q true here true inside d some = ap (λ x. find path_cmp x all) (same_path q p here) ∙ node_there p key node leads is
      by q true here false outside d some = absurd (true≢false (sym (within_itself p) ∙ ap (within p) (sym (same_path q p here)) ∙ outside))
      by q false apart true inside true one = refl
      by q false apart true inside false none = last q apart (strip p q) refl inside none
      by q false apart false outside true one = absurd (true≢false (sym (one_within p (links_of s key) q one) ∙ outside))
      by q false apart false outside false none = refl

  -- ---- what is ahead

  -- the entries at and beneath what is ahead, the top first
  abbrev pub flat : List Ahead → Content_list
  flat [] = []
  flat (x ∷ xs) = flat xs ++ under x.path all

  flat-append : (xs ys : List Ahead) → flat (xs ++ ys) ≡ flat ys ++ flat xs
  flat-append [] ys = sym (append-nil (flat ys))
  flat-append (x ∷ xs) ys = ap (λ es. es ++ under x.path all) (flat-append xs ys) ∙ append_assoc (flat ys) (flat xs) (under x.path all)

  flat_each : (p : Names) (links : Links) → flat (map (ahead_of p) (reverse links)) ≡ each p links all
  flat_each p [] = refl
  flat_each p (l ∷ links) =
      ap (λ ls. flat (map (ahead_of p) ls)) (reverse-append (l ∷ []) links)
      ∙ ap flat (map_both (reverse links) (l ∷ []))
      ∙ flat-append (map (ahead_of p) (reverse links)) (ahead_of p l ∷ [])
      ∙ ap (λ es. under (p ++ l.0 ∷ []) all ++ es) (flat_each p links)
    where
      map_both : (xs ys : Links) → map (ahead_of p) (xs ++ ys) ≡ map (ahead_of p) xs ++ map (ahead_of p) ys
      map_both [] ys = refl
      map_both (x ∷ xs) ys = ap (λ zs. ahead_of p x ∷ zs) (map_both xs ys)

  -- each path that is ahead leads to its node
  abbrev pub Lead : List Ahead → Type 0
  Lead xs = AllByRecursion (λ (x : Ahead). E x.path ≡ Some x.at) xs

  lead_both : (xs ys : List Ahead) → Lead xs → Lead ys → Lead (xs ++ ys)
  lead_both [] ys h g = g
  lead_both (x ∷ xs) ys h g = (h.0, lead_both xs ys h.1 g)

  pub lead_front : (xs ys : List Ahead) → Lead (xs ++ ys) → Lead xs
  lead_front [] ys h = tt
  lead_front (x ∷ xs) ys h = (h.0, lead_front xs ys h.1)

  pub lead_top : (xs : List Ahead) (x : Ahead) → Lead (xs ++ x ∷ []) → E x.path ≡ Some x.at
  lead_top [] x h = h.0
  lead_top (y ∷ xs) x h = lead_top xs x h.1

  lead_each : (p : Names) (key : ℕ) → E p ≡ Some key → (links : Links) → Linked s key links → Lead (map (ahead_of p) (reverse links))
  lead_each p key leads [] h = tt
  lead_each p key leads (l ∷ links) h =
      subst Lead (sym (ap (map (ahead_of p)) (reverse-append (l ∷ []) links) ∙ map_both (reverse links) (l ∷ [])))
      (lead_both (map (ahead_of p) (reverse links)) (ahead_of p l ∷ []) (lead_each p key leads links h.1)
      (steps-append (edges_of s) (Some root) p (l.0 ∷ []) ∙ ap (λ o. along (edges_of s) o l.0) leads ∙ h.0, tt))
    where
      map_both : (xs ys : Links) → map (ahead_of p) (xs ++ ys) ≡ map (ahead_of p) xs ++ map (ahead_of p) ys
      map_both [] ys = refl
      map_both (x ∷ xs) ys = ap (λ zs. ahead_of p x ∷ zs) (map_both xs ys)

-- a key that stands after another is not found at it
greater : (n m : List ℕ) → name_cmp n m ≡ Less → is_eq (name_cmp m n) ≡ false
greater n m e = by (is_eq (name_cmp m n)) refl
  where
    by : (b : Bool) → is_eq (name_cmp m n) ≡ b → b ≡ false
    by true is =
        let one : m ≡ n = finite.slice_cmp-IsAntisymmetric finite.nat_cmp-IsAntisymmetric m n (equal _ is) in
        let clash : Less ≡ Equal = sym e ∙ ap (name_cmp n) one ∙ tied_itself nat_list_cmp_total n in cc
    by false is = refl

abbrev Finds : Links → Links → Type 0
Finds links ls = AllByRecursion (λ (l : List ℕ × ℕ). lookup (is_at (name_cmp l.0)) links ≡ Some l.1) ls

finds_later : (h : List ℕ × ℕ) (links ls : Links) → AllByRecursion (λ m. name_cmp h.0 m ≡ Less) (heads ls) → Finds links ls → Finds (h ∷ links) ls
finds_later h links [] below f = tt
finds_later h links (l ∷ ls) below f = (ap (λ b. cond b (Some h.1) (lookup (is_at (name_cmp l.0)) links)) (greater h.0 l.0 below.0) ∙ f.0, finds_later h links ls below.1 f.1)

finds : (links : Links) → IsStrictlySortedBy name_cmp (heads links) → Finds links links
unfolding IsStrictlySortedBy
finds [] h = tt
finds (l ∷ links) h = (ap (λ o. cond (is_eq o) (Some l.1) (lookup (is_at (name_cmp l.0)) links)) (tied_itself nat_list_cmp_total l.0), finds_later l links links h.0 (finds links h.1))

linked : (s : Slab Place) (key : ℕ) (links : Links) → Finds (links_of s key) links → Linked s key links
linked s key [] f = tt
linked s key (l ∷ links) f = (edges_by (get s key) l.0 ∙ f.0, linked s key links f.1)

-- ---- the walk

all_under_root : (es : Content_list) → under [] es ≡ es
all_under_root [] = refl
all_under_root (e ∷ es) = ap (λ xs. e ∷ xs) (all_under_root es)

map_both : (xs ys : Content_list) → map found_of (xs ++ ys) ≡ map found_of xs ++ map found_of ys
map_both [] ys = refl
map_both (x ∷ xs) ys = ap (λ zs. found_of x ∷ zs) (map_both xs ys)

module _ (s : Slab Place) (root : ℕ) (c : Content) (told : IsTold (edges_of s) (nodes_of s) root c) where
  -- what was found, and then what is ahead, is all
  pub record Visits (found : List Found) (ahead : List Ahead) : Type 0 where
    pub whole : found ++ map found_of (flat s root c told ahead) ≡ map found_of (finite.entries c)
    pub lead : Lead s root c told ahead

  pub visits_first : (x : Ahead) → x.path ≡ [] → x.at ≡ root → Visits [] (x ∷ [])
  visits_first x path at = record {
    whole = ap (map found_of) (ap (λ p. under p (finite.entries c)) path ∙ all_under_root (finite.entries c));
    lead = (ap (λ p. steps (edges_of s) (Some root) p) path ∙ ap Some (sym at), tt);
  }

  pub visits_on : (found : List Found) (ahead rest new : List Ahead) (x : Ahead) (node : Node) (f : Found) → Visits found ahead → ahead ≡ rest ++ x ∷ [] → nodes_of s x.at ≡ Some node → IsStrictlySortedBy name_cmp (heads (links_of s x.at))
      → new ≡ rest ++ map (ahead_of x.path) (reverse (links_of s x.at)) → f ≡ found_of (x.path, node) → Visits (found ++ f ∷ []) new × (length (flat s root c told new) < length (flat s root c told ahead))
  visits_on found ahead rest new x node f visits split is sorted pushed shown =
      let lead = subst (Lead s root c told) split visits.lead in
      let leads = lead_top s root c told rest x lead in
      let below = each x.path (links_of s x.at) (finite.entries c) in
      let left = flat s root c told rest in
      let then_is : flat s root c told new ≡ below ++ left =
      ap (flat s root c told) pushed ∙ flat-append s root c told rest (map (ahead_of x.path) (reverse (links_of s x.at)))
      ∙ ap (λ es. es ++ left) (flat_each s root c told x.path (links_of s x.at)) in
      let now_is : flat s root c told ahead ≡ (x.path, node) ∷ (below ++ left) =
      ap (flat s root c told) split ∙ flat-append s root c told rest (x ∷ [])
      ∙ ap (λ es. es ++ left) (under_is s root c told x.path x.at node leads is sorted) in (
        record {
          whole =
              append_assoc found (f ∷ []) (map found_of (flat s root c told new))
              ∙ ap (λ y. found ++ y ∷ map found_of (flat s root c told new)) shown
              ∙ ap (λ es. found ++ found_of (x.path, node) ∷ map found_of es) then_is
              ∙ ap (λ es. found ++ map found_of es) (sym now_is)
              ∙ visits.whole;
          lead = subst (Lead s root c told) (sym pushed)
              (lead_both s root c told rest (map (ahead_of x.path) (reverse (links_of s x.at))) (lead_front s root c told rest (x ∷ []) lead)
              (lead_each s root c told x.path x.at leads (links_of s x.at) (linked s x.at (links_of s x.at) (finds (links_of s x.at) sorted))));
        },
        let shorter : length (flat s root c told new) ≡ length (below ++ left) = ap length then_is in
            let longer : length (flat s root c told ahead) ≡ length ((x.path, node) ∷ (below ++ left)) = ap length now_is in
            omega arith,
      )

  -- what is ahead stands
  pub visits_live : (found : List Found) (ahead rest : List Ahead) (x : Ahead) → Visits found ahead → ahead ≡ rest ++ x ∷ [] → is_some (nodes_of s x.at) ≡ true
  visits_live found ahead rest x visits split = told.live x.path x.at (lead_top s root c told rest x (subst (Lead s root c told) split visits.lead))

  pub visits_done : (found : List Found) (ahead : List Ahead) → length ahead ≡ 0 → Visits found ahead → found ≡ walk c
  unfolding walk
  visits_done found [] none visits = sym (append-nil found) ∙ visits.whole
  visits_done found (x ∷ ahead) none visits = absurd (omega arith)

-- ---- pushing

pub pushed_on : (f : List ℕ × ℕ → Ahead) (old new whole : List Ahead) (x : Ahead) (e : List ℕ × ℕ) (it next : Links) → it ≡ next ++ e ∷ [] → x ≡ f e → new ≡ old ++ x ∷ [] → old ++ map f (reverse it) ≡ whole → new ++ map f (reverse next) ≡ whole
pushed_on f old new whole x e it next split is pushed so_far =
    ap (λ xs. xs ++ map f (reverse next)) pushed
    ∙ append_assoc old (x ∷ []) (map f (reverse next))
    ∙ ap (λ y. old ++ y ∷ map f (reverse next)) is
    ∙ ap (λ ls. old ++ map f ls) (sym (ap reverse split ∙ reverse-append next (e ∷ [])))
    ∙ so_far

pub pushed_all : (f : List ℕ × ℕ → Ahead) (old whole : List Ahead) (it : Links) → it ≡ [] → old ++ map f (reverse it) ≡ whole → old ≡ whole
pushed_all f old whole it none so_far = sym (append-nil old) ∙ ap (λ ls. old ++ map f (reverse ls)) (sym none) ∙ so_far
