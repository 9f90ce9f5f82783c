-- A listing has the names directly beneath a path, each once, by their bytes.
use Rattle.std.proofs.Common.{◌≡◌, ℕ, Bool, true, false, cond, ◌&&◌, List, [], ◌∷◌, ◌++◌, map, refl, sym, ap, ◌∙◌, subst, Option, Some, None, Ordering, Less, Equal, Greater, nat_eq}
use Rattle.std.specs.Prelude.{T}
use Rattle.std.specs.Ordering.{is_lt, nat_cmp, ordering_then}
use Rattle.std.specs.Cmp.{tied_itself}
use Rattle.std.specs.Cmp.Lexicographic.{pointwise, slice_cmp, nat_list_cmp_total, nat_list_eq_equiv}
use Rattle.std.specs.List.{AllByRecursion, filter_map, cons_option}
use Rattle.std.specs.List.Sorted.{IsStrictlySortedBy}
use Rattle.std.specs.Option.{option_map}
use Rattle.std.specs.FinMap as finite
use Rattle.std.specs.FinMap.Entries.{find, is_sorted, below_all}
use Rattle.mr_paths.specs.Path.{path_cmp, path_ties, strip, child_of, only_name}
use Rattle.mr_paths.proofs.Paths.{strip-append, append-strip}
use Rattle.mr_names_tree.specs.declared.node.Node.{Node}
use Rattle.mr_names_tree.specs.declared.node.Kind.{Kind}
use Rattle.mr_names_tree.specs.declared.node.Entry.{Entry}
use Rattle.mr_names_tree.specs.Node.{kind_of}
use Rattle.mr_names_tree.specs.Listing.{entry_of, line_of, kind_listed, ListsChildren, ListsInOrder}
use Rattle.mr_names_tree.proofs.ContentLaws.{same, same_path}

child-push : (path : List (List ℕ)) (name : List ℕ) → child_of path (path ++ name ∷ []) ≡ Some name
child-push path name = ap only_name (strip-append path (name ∷ []))

child_is : (path q : List (List ℕ)) (name : List ℕ) → child_of path q ≡ Some name → q ≡ path ++ name ∷ []
child_is path q name e = by (strip path q) refl e
  where
    by : (o : Option (List (List ℕ))) → strip path q ≡ o → only_name o ≡ Some name → q ≡ path ++ name ∷ []
    by None is e = cc
    by (Some []) is e = cc
    by (Some (m ∷ k ∷ rest)) is e = cc
    by (Some (m ∷ [])) is e = let one : m ≡ name = cc in append-strip path q (m ∷ []) is ∙ ap (λ n. path ++ n ∷ []) one

same-last : (path : List (List ℕ)) (name m : List ℕ) → same (path ++ name ∷ []) (path ++ m ∷ []) ≡ pointwise nat_eq name m
same-last path name m = sym (path_ties (path ++ name ∷ []) (path ++ m ∷ [])) ∙ by path
  where
    one : (b : Bool) → (b && true) ≡ b
    one true = refl
    one false = refl

    by : (p : List (List ℕ)) → pointwise (pointwise nat_eq) (p ++ name ∷ []) (p ++ m ∷ []) ≡ pointwise nat_eq name m
    by [] = one (pointwise nat_eq name m)
    by (n ∷ p) = rw (nat_list_eq_equiv.refl n) (by p)

kinds : (path : List (List ℕ)) (name : List ℕ) (es : List (List (List ℕ) × Node)) → kind_listed (filter_map (line_of path) es) name ≡ option_map kind_of (find path_cmp (path ++ name ∷ []) es)
kinds path name [] = refl
kinds path name (e ∷ es) = by (child_of path e.0) refl (kinds path name es)
  where
    chosen : (b : Bool) (o : Option Kind) (p : Option Node) → o ≡ option_map kind_of p → cond b (Some (kind_of e.1)) o ≡ option_map kind_of (cond b (Some e.1) p)
    chosen true o p is = refl
    chosen false o p is = is

    other : (b : Bool) → same (path ++ name ∷ []) e.0 ≡ b → child_of path e.0 ≡ None → b ≡ false
    other false is none = refl
    other true is none =
        let clash : Some name ≡ None = sym (child-push path name) ∙ ap (child_of path) (same_path (path ++ name ∷ []) e.0 is) ∙ none in
        cc

    by : (o : Option (List ℕ)) → child_of path e.0 ≡ o → kind_listed (filter_map (line_of path) es) name ≡ option_map kind_of (find path_cmp (path ++ name ∷ []) es)
        → kind_listed (cons_option (option_map (λ n. entry_of n e.1) o) (filter_map (line_of path) es)) name ≡ option_map kind_of (cond (same (path ++ name ∷ []) e.0) (Some e.1) (find path_cmp (path ++ name ∷ []) es))
    by None none rest =
        let out : same (path ++ name ∷ []) e.0 ≡ false = other (same (path ++ name ∷ []) e.0) refl none in
        rw out rest
    by (Some m) some rest =
        let test : same (path ++ name ∷ []) e.0 ≡ pointwise nat_eq name m = ap (same (path ++ name ∷ [])) (child_is path e.0 m some) ∙ same-last path name m in
        rw test (chosen (pointwise nat_eq name m) _ _ rest)

pub lists_children : ListsChildren
lists_children c path name = kinds path name (finite.entries c) ∙ ap (option_map kind_of) (sym (finite.get-entries c (path ++ name ∷ [])))

abbrev name_cmp : List ℕ → List ℕ → Ordering
name_cmp = slice_cmp nat_cmp

cmp-last : (path : List (List ℕ)) (n m : List ℕ) → path_cmp (path ++ n ∷ []) (path ++ m ∷ []) ≡ name_cmp n m
cmp-last [] n m = by (name_cmp n m)
  where
    by : (o : Ordering) → ordering_then o Equal ≡ o
    by Less = refl
    by Equal = refl
    by Greater = refl
cmp-last (k ∷ path) n m = ap (λ o. ordering_then o (path_cmp (path ++ n ∷ []) (path ++ m ∷ []))) (tied_itself nat_list_cmp_total k) ∙ cmp-last path n m

first : (a b : Bool) → T (a && b) → T a
first true b p = tt
first false b p = p

second : (a b : Bool) → T (a && b) → T b
second true b p = p
second false b p = absurd p

less : (o : Ordering) → T (is_lt o) → o ≡ Less
less Less p = refl
less Equal p = absurd p
less Greater p = absurd p

abbrev names_of : List Entry → List (List ℕ)
names_of es = map (λ (e : Entry). e.name) es

below_names : (path : List (List ℕ)) (n : List ℕ) (es : List (List (List ℕ) × Node)) → T (below_all path_cmp (path ++ n ∷ []) es) → AllByRecursion (λ m. name_cmp n m ≡ Less) (names_of (filter_map (line_of path) es))
below_names path n [] h = tt
below_names path n (e ∷ es) h = by (child_of path e.0) refl (below_names path n es (second _ _ h))
  where
    by : (o : Option (List ℕ)) → child_of path e.0 ≡ o → AllByRecursion (λ m. name_cmp n m ≡ Less) (names_of (filter_map (line_of path) es))
        → AllByRecursion (λ m. name_cmp n m ≡ Less) (names_of (cons_option (option_map (λ k. entry_of k e.1) o) (filter_map (line_of path) es)))
    by None none rest = rest
    by (Some m) some rest =
        (sym (cmp-last path n m) ∙ ap (path_cmp (path ++ n ∷ [])) (sym (child_is path e.0 m some)) ∙ less _ (first _ _ h), rest)

rising : (path : List (List ℕ)) (es : List (List (List ℕ) × Node)) → T (is_sorted path_cmp es) → IsStrictlySortedBy name_cmp (names_of (filter_map (line_of path) es))
unfolding IsStrictlySortedBy
rising path [] h = tt
rising path (e ∷ es) h = by (child_of path e.0) refl (rising path es (second _ _ h))
  where
    by : (o : Option (List ℕ)) → child_of path e.0 ≡ o → IsStrictlySortedBy name_cmp (names_of (filter_map (line_of path) es))
        → IsStrictlySortedBy name_cmp (names_of (cons_option (option_map (λ k. entry_of k e.1) o) (filter_map (line_of path) es)))
    by None none rest = rest
    by (Some m) some rest =
        (below_names path m es (subst (λ q. T (below_all path_cmp q es)) (child_is path e.0 m some) (first _ _ h)), rest)

pub lists_in_order : ListsInOrder
lists_in_order c path = rising path (finite.entries c) (finite.entries_sorted c)
