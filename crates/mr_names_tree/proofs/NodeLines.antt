-- What a node lists, by its edges.
use Rattle.std.proofs.Common.{◌≡◌, ℕ, Bool, true, false, cond, ◌&&◌, List, [], ◌∷◌, ◌++◌, map, refl, sym, ap, ◌∙◌, subst, Option, Some, None, Ordering, Less, Equal, Greater, nat_eq}
use Rattle.std.specs.Prelude.{T}
use Rattle.std.specs.Ordering.{is_eq, is_lt, nat_cmp}
use Rattle.std.specs.Cmp.{tied_itself}
use Rattle.std.specs.Cmp.Lexicographic.{pointwise, slice_cmp, nat_list_cmp_total, texts_ties}
use Rattle.std.specs.List.{AllByRecursion, filter_map, cons_option}
use Rattle.std.specs.List.Sorted.{IsStrictlySortedBy}
use Rattle.std.specs.Map.{lookup}
use Rattle.std.specs.BTreeMap.{is_at}
use Rattle.std.specs.Option.{option_map}
use Rattle.std.specs.FinMap.{slice_cmp-IsAntisymmetric, nat_cmp-IsAntisymmetric}
use Rattle.std.specs.FinMap.Entries.{find, is_sorted, below_all, same_entries}
use Rattle.slab.specs.Slab.{Slab, get}
use Rattle.mr_names_tree.specs.declared.node.Node.{Node}
use Rattle.mr_names_tree.specs.declared.node.Kind.{Kind}
use Rattle.mr_names_tree.specs.declared.node.Entry.{Entry}
use Rattle.mr_names_tree.specs.declared.place.Place.{Place}
use Rattle.mr_names_tree.specs.Node.{kind_of}
use Rattle.mr_names_tree.specs.Content.{Content}
use Rattle.mr_names_tree.specs.Listing.{entry_of, children, kind_listed}
use Rattle.mr_names_tree.specs.inner.Tree.{along, steps, standing, edges_of, nodes_of, IsTold, links_of, line_at, child_by, links_by}
use Rattle.mr_names_tree.proofs.ListingLaws.{lists_children, lists_in_order}
use Rattle.mr_names_tree.proofs.LastNames.{Names}
use Rattle.mr_names_tree.proofs.Walks.{steps-append}

abbrev name_cmp : List ℕ → List ℕ → Ordering
name_cmp = slice_cmp nat_cmp

abbrev names_of : List Entry → List (List ℕ)
names_of es = map (λ (e : Entry). e.name) es

abbrev heads : List (List ℕ × ℕ) → List (List ℕ)
heads links = map (λ (e : List ℕ × ℕ). e.0) links

not_less : (n : List ℕ) → name_cmp n n ≡ Less → ⊥
not_less n e = let clash : Less ≡ Equal = sym e ∙ tied_itself nat_list_cmp_total n in cc

equal : (o : Ordering) → is_eq o ≡ true → o ≡ Equal
equal Less e = absurd (cc)
equal Equal e = refl
equal Greater e = absurd (cc)

name_is : (q n : List ℕ) → is_eq (name_cmp q n) ≡ true → q ≡ n
name_is q n e = slice_cmp-IsAntisymmetric nat_cmp-IsAntisymmetric q n (equal _ e)

test_is : (q n : List ℕ) → pointwise nat_eq q n ≡ is_eq (name_cmp q n)
test_is q n = texts_ties q n

-- ---- two listings in order that answer alike are one

abbrev pairs : List Entry → List (List ℕ × Kind)
pairs es = map (λ (e : Entry). (e.name, e.kind)) es

abbrev entry_from : List ℕ × Kind → Entry
entry_from p = record { name = p.0; kind = p.1 }

entries_from-pairs : (es : List Entry) → map entry_from (pairs es) ≡ es
entries_from-pairs [] = refl
entries_from-pairs (e ∷ es) = ap (λ fs. e ∷ fs) (entries_from-pairs es)

find-pairs : (q : List ℕ) (es : List Entry) → find name_cmp q (pairs es) ≡ kind_listed es q
find-pairs q [] = refl
find-pairs q (e ∷ es) = let same = sym (test_is q e.name) in λ i. cond (same i) (Some e.kind) (find-pairs q es i)

both : (a b : Bool) → T a → T b → T (a && b)
both true b p q = q
both false b p q = p

below : (n : List ℕ) (es : List Entry) → AllByRecursion (λ m. name_cmp n m ≡ Less) (names_of es) → T (below_all name_cmp n (pairs es))
below n [] h = tt
below n (e ∷ es) h = both _ _ (subst (λ o. T (is_lt o)) (sym h.0) tt) (below n es h.1)

sorted-pairs : (es : List Entry) → IsStrictlySortedBy name_cmp (names_of es) → T (is_sorted name_cmp (pairs es))
unfolding IsStrictlySortedBy
sorted-pairs [] h = tt
sorted-pairs (e ∷ es) h = both _ _ (below e.name es h.0) (sorted-pairs es h.1)

pub same_listing : (es fs : List Entry) → IsStrictlySortedBy name_cmp (names_of es) → IsStrictlySortedBy name_cmp (names_of fs) → ((q : List ℕ) → kind_listed es q ≡ kind_listed fs q) → es ≡ fs
same_listing es fs left right alike =
    sym (entries_from-pairs es)
    ∙ ap (map entry_from) (same_entries name_cmp nat_list_cmp_total (λ x y e. slice_cmp-IsAntisymmetric nat_cmp-IsAntisymmetric x y e) (pairs es) (pairs fs) (sorted-pairs es left) (sorted-pairs fs right)
    (λ q. find-pairs q es ∙ alike q ∙ sym (find-pairs q fs)))
    ∙ entries_from-pairs fs

-- ---- the lines of a node's edges

module _ (s : Slab Place) where
  abbrev lines : List (List ℕ × ℕ) → List Entry
  lines links = filter_map (line_at s) links

  none_listed : (n : List ℕ) (links : List (List ℕ × ℕ)) → AllByRecursion (λ m. name_cmp n m ≡ Less) (heads links) → kind_listed (lines links) n ≡ None
  none_listed n [] h = refl
  none_listed n (e ∷ links) h = by (nodes_of s e.1) (none_listed n links h.1)
    where
      by : (o : Option Node) → kind_listed (lines links) n ≡ None → kind_listed (cons_option (option_map (entry_of e.0) o) (lines links)) n ≡ None
      by None later = later
      by (Some node) later =
          let out : pointwise nat_eq n e.0 ≡ false = test_is n e.0 ∙ ap is_eq h.0 in
          ap (λ b. cond b (Some (kind_of node)) (kind_listed (lines links) n)) out ∙ later

  listed_at : (q : List ℕ) (links : List (List ℕ × ℕ)) → IsStrictlySortedBy name_cmp (heads links) → kind_listed (lines links) q ≡ option_map kind_of (standing (nodes_of s) (lookup (is_at (name_cmp q)) links))
  unfolding IsStrictlySortedBy
  listed_at q [] h = refl
  listed_at q (e ∷ links) h = by (nodes_of s e.1) refl (is_eq (name_cmp q e.0)) refl (listed_at q links h.1)
    where
      by : (o : Option Node) → nodes_of s e.1 ≡ o → (b : Bool) → is_eq (name_cmp q e.0) ≡ b → kind_listed (lines links) q ≡ option_map kind_of (standing (nodes_of s) (lookup (is_at (name_cmp q)) links))
          → kind_listed (cons_option (option_map (entry_of e.0) o) (lines links)) q ≡ option_map kind_of (standing (nodes_of s) (cond b (Some e.1) (lookup (is_at (name_cmp q)) links)))
      by None is true here later =
          ap (λ x. kind_listed (lines links) x) (name_is q e.0 here) ∙ none_listed e.0 links h.0 ∙ sym (ap (option_map kind_of) is)
      by None is false other later = later
      by (Some node) is true here later =
          ap (λ t. cond t (Some (kind_of node)) (kind_listed (lines links) q)) (test_is q e.0 ∙ here) ∙ sym (ap (option_map kind_of) is)
      by (Some node) is false other later =
          ap (λ t. cond t (Some (kind_of node)) (kind_listed (lines links) q)) (test_is q e.0 ∙ other) ∙ later

  below_lines : (n : List ℕ) (links : List (List ℕ × ℕ)) → AllByRecursion (λ m. name_cmp n m ≡ Less) (heads links) → AllByRecursion (λ m. name_cmp n m ≡ Less) (names_of (lines links))
  below_lines n [] h = tt
  below_lines n (e ∷ links) h = by (nodes_of s e.1) (below_lines n links h.1)
    where
      by : (o : Option Node) → AllByRecursion (λ m. name_cmp n m ≡ Less) (names_of (lines links)) → AllByRecursion (λ m. name_cmp n m ≡ Less) (names_of (cons_option (option_map (entry_of e.0) o) (lines links)))
      by None later = later
      by (Some node) later = (h.0, later)

  rising_lines : (links : List (List ℕ × ℕ)) → IsStrictlySortedBy name_cmp (heads links) → IsStrictlySortedBy name_cmp (names_of (lines links))
  unfolding IsStrictlySortedBy
  rising_lines [] h = tt
  rising_lines (e ∷ links) h = by (nodes_of s e.1) (rising_lines links h.1)
    where
      by : (o : Option Node) → IsStrictlySortedBy name_cmp (names_of (lines links)) → IsStrictlySortedBy name_cmp (names_of (cons_option (option_map (entry_of e.0) o) (lines links)))
      by None later = later
      by (Some node) later = (below_lines e.0 links h.0, later)

pub edges_by : (o : Option Place) (name : List ℕ) → child_by o name ≡ lookup (is_at (name_cmp name)) (links_by o)
edges_by None name = refl
edges_by (Some place) name = refl

pub empty_sorted : IsStrictlySortedBy name_cmp []
unfolding IsStrictlySortedBy
empty_sorted = tt

-- a node lists what stands directly beneath its path
pub children_are : (s : Slab Place) (root key : ℕ) (c : Content) (top : Names) → IsTold (edges_of s) (nodes_of s) root c → steps (edges_of s) (Some root) top ≡ Some key → IsStrictlySortedBy name_cmp (heads (links_of s key))
    → filter_map (line_at s) (links_of s key) ≡ children c top
children_are s root key c top told leads sorted =
    same_listing (filter_map (line_at s) (links_of s key)) (children c top) (rising_lines s (links_of s key) sorted) (lists_in_order c top) (λ q.
    listed_at s q (links_of s key) sorted
    ∙ ap (λ o. option_map kind_of (standing (nodes_of s) o)) (sym (edges_by (get s key) q))
    ∙ ap (λ o. option_map kind_of (standing (nodes_of s) o)) (ap (λ o. along (edges_of s) o q) (sym leads) ∙ sym (steps-append (edges_of s) (Some root) top (q ∷ [])))
    ∙ ap (option_map kind_of) (sym (told.holds (top ++ q ∷ [])))
    ∙ sym (lists_children c top q))

-- where nothing is, nothing is listed
pub children_none : (s : Slab Place) (root : ℕ) (c : Content) (top : Names) → IsTold (edges_of s) (nodes_of s) root c → steps (edges_of s) (Some root) top ≡ None → [] ≡ children c top
children_none s root c top told none =
    same_listing [] (children c top) empty_sorted (lists_in_order c top) (λ q.
    sym (ap (option_map kind_of) (told.holds (top ++ q ∷ []) ∙ ap (standing (nodes_of s)) (steps-append (edges_of s) (Some root) top (q ∷ []) ∙ ap (λ o. along (edges_of s) o q) none)))
    ∙ sym (lists_children c top q))
