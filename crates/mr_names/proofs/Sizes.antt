-- How many entries a content has, as calls change it.
use Rattle.std.proofs.Common.{◌≡◌, ◌≤◌, ℕ, ◌+◌, Bool, true, false, cond, List, [], ◌∷◌, length, map, refl, sym, ap, ◌∙◌, subst, Option, Some, None, is_some, arith, suc}
use Rattle.std.specs.FinMap as finite
use Rattle.std.specs.FinMap.Entries.{where_key, find-where_key}
use Rattle.std.specs.declared.cmp.Ordering.TheVariants.{Equal}
use Rattle.std.proofs.lemmas.List.{length-map}
use Rattle.mr_paths.specs.Path.{path_cmp, path_total, path_exact}
use Rattle.mr_names_tree.specs.declared.node.Node.{Node}
use Rattle.mr_names_tree.specs.declared.node.Node.TheVariants.{Dir}
use Rattle.mr_names_tree.specs.Content.{Content, with_all, with_dirs, moved, renamed, changed_at, changed_by}

pub len_insert : (c : Content) (path : List (List ℕ)) (node : Node) → finite.len (finite.insert c path node) ≤ finite.len c + 1
len_insert c path node = by (finite.contains_key c path) (finite.len-insert path_total c path node)
  where
    by : (b : Bool) → finite.len (finite.insert c path node) ≡ cond b (finite.len c) (finite.len c + 1) → finite.len (finite.insert c path node) ≤ finite.len c + 1
    by true e = omega arith
    by false e = omega arith

pub len_with_all : (c : Content) (es : List (List (List ℕ) × Node)) → finite.len (with_all c es) ≤ finite.len c + length es
len_with_all c [] = omega arith
len_with_all c (e ∷ es) = let one = len_insert c e.0 e.1 in let more = len_with_all (finite.insert c e.0 e.1) es in omega arith

pub len_with_dirs : (c : Content) (paths : List (List (List ℕ))) → finite.len (with_dirs c paths) ≤ finite.len c + length paths
len_with_dirs c paths =
    subst (λ n. finite.len (with_dirs c paths) ≤ finite.len c + n) (length-map paths (λ path. (path, Dir)))
    (len_with_all c (map (λ path. (path, Dir)) paths))

-- a change of a node that is there adds none
pub len_changed : (c : Content) (path : List (List ℕ)) (f : Node → Node) → finite.len (changed_at c path f) ≤ finite.len c
len_changed c path f = by (finite.get c path) refl
  where
    by : (o : Option Node) → finite.get c path ≡ o → finite.len (changed_by c path f o) ≤ finite.len c
    by None none = omega arith
    by (Some node) some =
        let as_many : finite.len (finite.insert c path (f node)) ≡ finite.len c = finite.len-insert path_total c path (f node) ∙ ap (λ o. cond (is_some o) (finite.len c) (finite.len c + 1)) some in
        omega arith

len_from_entries : (es : List (List (List ℕ) × Node)) → finite.len (finite.from_entries {R = path_cmp} es) ≤ length es
len_from_entries [] = let none = finite.len-empty path_cmp Node in omega arith
len_from_entries (e ∷ es) = let one = len_insert (finite.from_entries es) e.0 e.1 in let more = len_from_entries es in omega arith

length_where : (p : List (List ℕ) → Bool) (es : List (List (List ℕ) × Node)) → length (where_key path_cmp p es) ≤ length es
length_where p [] = omega arith
length_where p (e ∷ es) = by (p e.0) (length_where p es)
  where
    by : (b : Bool) → length (where_key path_cmp p es) ≤ length es → length (cond b (e ∷ where_key path_cmp p es) (where_key path_cmp p es)) ≤ suc (length es)
    by true h = omega arith
    by false h = omega arith

pub len_retained : (c : Content) (p : List (List ℕ) → Bool) → finite.len (finite.retain_keys c p) ≤ finite.len c
len_retained c p =
    let alike = λ (q x : List (List ℕ)) (e : path_cmp q x ≡ Equal). ap p (sym (path_exact q x e)) in
    let is : finite.retain_keys c p ≡ finite.from_entries (where_key path_cmp p (finite.entries c)) =
    finite.same_map path_total path_exact _ _ (λ q.
    finite.get-retain_keys c p q (alike q)
    ∙ ap (λ o. cond (p q) o None) (finite.get-entries c q)
    ∙ sym (finite.get-from_entries path_total (where_key path_cmp p (finite.entries c)) q ∙ find-where_key path_cmp p q (alike q) (finite.entries c))) in
    let few = len_from_entries (where_key path_cmp p (finite.entries c)) in
    let fewer = length_where p (finite.entries c) in
    let all = finite.len-entries c in
    rw is (omega arith)

pub len_renamed : (from to : List (List ℕ)) (c : Content) → finite.len (renamed from to c) ≤ finite.len c
len_renamed from to c =
    let h = len_with_all finite.empty (map (moved from to) (finite.entries c)) in
    let none = finite.len-empty path_cmp Node in
    let as_many = length-map (finite.entries c) (moved from to) in
    let all = finite.len-entries c in
    omega arith
