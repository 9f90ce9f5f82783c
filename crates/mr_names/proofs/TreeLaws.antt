-- A call that is not refused leaves a tree.
use Rattle.std.proofs.Common.{◌≡◌, ◌≢◌, ◌<◌, ℕ, ◌-◌, Bool, true, false, cond, ◌&&◌, ◌||◌, List, [], ◌∷◌, ◌++◌, map, filter, length, take, refl, sym, ap, ◌∙◌, subst, Option, Some, None, is_some, is_none, true≢false, append_assoc, append-nil, length-append, inl, inr, ◌⊎◌, ⊎_elim, arith, eqb}
use Rattle.std.specs.Option.{option_or}
use Rattle.std.specs.List.{list_any}
use Rattle.std.specs.Cmp.Lexicographic.{pointwise}
use Rattle.std.proofs.lemmas.Map.Views.{any-filter_same}
use Rattle.std.specs.FinMap as finite
use Rattle.mr_paths.specs.Path.{strip, parent, prefixes, path_ties, path_cmp}
use Rattle.mr_paths.proofs.Paths.{strip-append, append-strip}
use Rattle.mr_names_tree.specs.declared.node.Node.{Node}
use Rattle.mr_names_tree.specs.declared.node.Node.TheVariants.{Dir, File}
use Rattle.mr_names.specs.declared.fault.NameFault.{NameFault}
use Rattle.mr_names.specs.declared.op.Caller.{Caller}
use Rattle.mr_names.specs.declared.op.Op.{Op}
use Rattle.mr_names.specs.declared.op.Op.TheVariants as op
use Rattle.mr_names_tree.specs.Node.{appended, closed_of}
use Rattle.mr_names_tree.specs.Content.{Content, IsTree, without, with_all, renamed, renamed_at, renamed_at_by, within, changed_at, changed_by}
use Rattle.mr_names_tree.specs.Held.{node_at, is_absent, is_file}
use Rattle.mr_names.specs.Calls.{State, missing, refusal, passes_limit, unheard, refused, effect}
use Rattle.mr_names_tree.proofs.ContentLaws.{same, same_or_not, same_path, get_written, get_kept, get-without, get-with_all, last_at, get-renamed, nothing_within}

-- ---- a path and its last name

pub parent-push : (path : List (List ℕ)) (name : List ℕ) → parent (path ++ name ∷ []) ≡ path
parent-push path name =
    let n : length (path ++ name ∷ []) - 1 ≡ length path = omega (arith, length-append path (name ∷ [])) in
    rw n (take-front path (name ∷ []))
  where
    take-front : (a b : List (List ℕ)) → take (length a) (a ++ b) ≡ a
    take-front [] b = refl
    take-front (x ∷ a) b = ap (λ l. x ∷ l) (take-front a b)

same_front : (p q : List (List ℕ)) (n m : List ℕ) → p ++ n ∷ [] ≡ q ++ m ∷ [] → p ≡ q
same_front p q n m e = sym (parent-push p n) ∙ ap parent e ∙ parent-push q m

-- a path with its last name apart
pub record Pushed (path : List (List ℕ)) : Type 0 where
  pub front : List (List ℕ)
  pub last : List ℕ
  pub is : path ≡ front ++ last ∷ []

pub front_and_last : (path : List (List ℕ)) → (path ≡ []) ⊎ Pushed path
front_and_last [] = inl refl
front_and_last (x ∷ path) = inr (⊎_elim
    (λ (e : path ≡ []). record { front = []; last = x; is = ap (λ l. x ∷ l) e })
    (λ (f : Pushed path). record { front = x ∷ f.front; last = f.last; is = ap (λ l. x ∷ l) f.is })
    (front_and_last path))

-- what is within a path stays within it, further down
within-push : (top path : List (List ℕ)) (name : List ℕ) → within top path ≡ true → within top (path ++ name ∷ []) ≡ true
within-push top path name e = by (strip top path) refl
  where
    by : (o : Option (List (List ℕ))) → strip top path ≡ o → within top (path ++ name ∷ []) ≡ true
    by None none = absurd (true≢false (sym e ∙ ap is_some none))
    by (Some rest) some =
        let is : path ++ name ∷ [] ≡ top ++ (rest ++ name ∷ []) = ap (λ p. p ++ name ∷ []) (append-strip top path rest some) ∙ append_assoc top rest (name ∷ []) in
        ap (λ p. is_some (strip top p)) is ∙ ap is_some (strip-append top (rest ++ name ∷ []))

outside-front : (top path : List (List ℕ)) (name : List ℕ) → within top (path ++ name ∷ []) ≡ false → within top path ≡ false
outside-front top path name e = by (within top path) refl
  where
    by : (b : Bool) → within top path ≡ b → b ≡ false
    by true h = absurd (true≢false (sym (within-push top path name h) ∙ e))
    by false h = refl

-- ---- what the rows that passed say

pub row_passes : (b : Bool) (f : NameFault) (rest : Option NameFault) → cond b (Some f) rest ≡ None → (b ≡ false) × (rest ≡ None)
row_passes true f rest e = absurd (cc)
row_passes false f rest e = (refl, e)

pub present : (o : Option Node) → is_none o ≡ false → is_file o ≡ false → o ≡ Some Dir
present None a f = absurd (true≢false a)
present (Some Dir) a f = refl
present (Some (File bytes closed)) a f = absurd (true≢false f)

pub absent : (o : Option Node) → is_some o ≡ false → o ≡ None
absent None e = refl
absent (Some n) e = absurd (true≢false e)

pub is_there : (o : Option Node) → is_none o ≡ false → is_some o ≡ true
is_there None e = absurd (true≢false e)
is_there (Some n) e = refl

-- ---- one call after another

kept_dir : (c : Content) (path : List (List ℕ)) (node : Node) (q : List (List ℕ)) → finite.get c path ≡ None → finite.get c q ≡ Some Dir → finite.get (finite.insert c path node) q ≡ Some Dir
kept_dir c path node q none dir = get_kept c path node q (λ e. let clash : Some Dir ≡ None = sym dir ∙ ap (finite.get c) e ∙ none in cc) ∙ dir

pub tree-insert : (c : Content) (path : List (List ℕ)) (node : Node) → IsTree c → finite.get c path ≡ None → finite.get c (parent path) ≡ Some Dir → IsTree (finite.insert c path node)
tree-insert c path node tree none dir = record {
  root = kept_dir c path node [] none tree.root;
  parents = λ p n found. kept_dir c path node p none (⊎_elim
      (λ is. let front : p ≡ parent path = sym (parent-push p n) ∙ ap parent is in ap (finite.get c) front ∙ dir)
      (λ apart. tree.parents p n (ap is_some (sym (get_kept c path node (p ++ n ∷ []) apart)) ∙ found))
      (same_or_not (p ++ n ∷ []) path));
}

pub tree-changed : (c : Content) (path : List (List ℕ)) (f : Node → Node) → IsTree c → f Dir ≡ Dir → IsTree (changed_at c path f)
tree-changed c path f tree keeps = by (finite.get c path) refl
  where
    by : (o : Option Node) → finite.get c path ≡ o → IsTree (changed_by c path f o)
    by None none = tree
    by (Some node) some = record { root = dirs [] tree.root; parents = λ p n found. dirs p (tree.parents p n (there (p ++ n ∷ []) found)) }
      where
        dirs : (q : List (List ℕ)) → finite.get c q ≡ Some Dir → finite.get (finite.insert c path (f node)) q ≡ Some Dir
        dirs q dir = ⊎_elim
            (λ is. let d : node ≡ Dir = let e : Some node ≡ Some Dir = sym some ∙ ap (finite.get c) (sym is) ∙ dir in cc in
            ap (finite.get (finite.insert c path (f node))) is ∙ get_written c path (f node) ∙ ap Some (ap f d ∙ keeps))
            (λ apart. get_kept c path (f node) q apart ∙ dir)
            (same_or_not q path)

        there : (q : List (List ℕ)) → is_some (finite.get (finite.insert c path (f node)) q) ≡ true → is_some (finite.get c q) ≡ true
        there q found = ⊎_elim
            (λ is. ap is_some (ap (finite.get c) is ∙ some))
            (λ apart. ap is_some (sym (get_kept c path (f node) q apart)) ∙ found)
            (same_or_not q path)

passes : (b : Bool) (o : Option Node) → is_some (cond b None o) ≡ true → (b ≡ false) × (is_some o ≡ true)
passes true o e = absurd (true≢false (sym e))
passes false o e = (refl, e)

pub tree-without : (c : Content) (top : List (List ℕ)) → IsTree c → top ≢ [] → IsTree (without top c)
tree-without c top tree apart = record {
  root = get-without top c [] ∙ rw (root_outside top apart) tree.root;
  parents = λ p n found.
      let there = passes (within top (p ++ n ∷ [])) (finite.get c (p ++ n ∷ [])) (ap is_some (sym (get-without top c (p ++ n ∷ []))) ∙ found) in
      get-without top c p ∙ rw (outside-front top p n there.0) (tree.parents p n there.1);
}
  where
    root_outside : (top : List (List ℕ)) → top ≢ [] → within top [] ≡ false
    root_outside [] apart = absurd (apart refl)
    root_outside (n ∷ top) apart = refl

pub tree-renamed : (c : Content) (from to : List (List ℕ)) → IsTree c → within from to ≡ false → finite.get c to ≡ None → finite.get c (parent to) ≡ Some Dir → IsTree (renamed from to c)
tree-renamed c from to tree apart none dir = record {
  root = after [] ∙ stays [] tree.root (root_outside from apart);
  parents = λ p n found. after p ∙ by p n (strip to (p ++ n ∷ [])) refl (ap is_some (sym (after (p ++ n ∷ []))) ∙ found);
}
  where
    free : (q : List (List ℕ)) → is_some (finite.get c q) ≡ true → strip to q ≡ None
    free = nothing_within c tree to none

    after : (x : List (List ℕ)) → finite.get (renamed from to c) x ≡ renamed_at from to c x
    after x = get-renamed from to c x free

    root_outside : (top : List (List ℕ)) → within top to ≡ false → within top [] ≡ false
    root_outside [] h = absurd (true≢false h)
    root_outside (n ∷ top) h = refl

    -- a directory that is not moved
    stays : (p : List (List ℕ)) → finite.get c p ≡ Some Dir → within from p ≡ false → renamed_at from to c p ≡ Some Dir
    stays p d out = let o : strip to p ≡ None = free p (ap is_some d) in rw (o, out) d

    by : (p : List (List ℕ)) (n : List ℕ) (o : Option (List (List ℕ))) → strip to (p ++ n ∷ []) ≡ o → is_some (renamed_at_by from c (p ++ n ∷ []) o) ≡ true → renamed_at from to c p ≡ Some Dir
    by p n None e found = let there = passes (within from (p ++ n ∷ [])) (finite.get c (p ++ n ∷ [])) found in stays p (tree.parents p n there.1) (outside-front from p n there.0)
    by p n (Some rest) e found = ⊎_elim
        (λ (empty : rest ≡ []).
        let is : p ++ n ∷ [] ≡ to = append-strip to (p ++ n ∷ []) rest e ∙ ap (λ r. to ++ r) empty ∙ append-nil to in
        let front : p ≡ parent to = sym (parent-push p n) ∙ ap parent is in
        stays p (ap (finite.get c) front ∙ dir) (outside-front from p n (ap (within from) is ∙ apart)))
        (λ (f : Pushed rest).
        let is : p ++ n ∷ [] ≡ (to ++ f.front) ++ f.last ∷ [] = append-strip to (p ++ n ∷ []) rest e ∙ ap (λ r. to ++ r) f.is ∙ sym (append_assoc to f.front (f.last ∷ [])) in
        let front : p ≡ to ++ f.front = same_front p (to ++ f.front) n f.last is in
        let o : strip to p ≡ Some f.front = ap (strip to) front ∙ strip-append to f.front in
        let was : is_some (finite.get c ((from ++ f.front) ++ f.last ∷ [])) ≡ true = ap (λ q. is_some (finite.get c q)) (append_assoc from f.front (f.last ∷ []) ∙ ap (λ r. from ++ r) (sym f.is)) ∙ found in
        rw o (tree.parents (from ++ f.front) f.last was))
        (front_and_last rest)

-- ---- missing directories made

list_any-filter_by : (q : List (List ℕ)) (p : List (List ℕ) → Bool) (ks : List (List (List ℕ))) → list_any (same q) (filter p ks) ≡ (p q && list_any (same q) ks)
list_any-filter_by q p ks = any-filter_same (same q) p (p q) (λ k e. ap p (sym (same_path q k e))) ks

list_any-map_cons : (n m : List ℕ) (q : List (List ℕ)) (ps : List (List (List ℕ))) → list_any (same (n ∷ q)) (map (λ p. m ∷ p) ps) ≡ (pointwise eqb n m && list_any (same q) ps)
list_any-map_cons n m q [] = both (pointwise eqb n m)
  where
    both : (b : Bool) → false ≡ (b && false)
    both true = refl
    both false = refl
list_any-map_cons n m q (p ∷ ps) =
    (λ i. sym (path_ties (n ∷ q) (m ∷ p)) i || list_any-map_cons n m q ps i)
    ∙ (λ i. (pointwise eqb n m && path_ties q p i) || (pointwise eqb n m && list_any (same q) ps))
    ∙ factor (pointwise eqb n m) (same q p) (list_any (same q) ps)
  where
    factor : (a b c : Bool) → ((a && b) || (a && c)) ≡ (a && (b || c))
    factor true b c = refl
    factor false b c = refl

none_empty : (m : List ℕ) (ps : List (List (List ℕ))) → list_any (same []) (map (λ p. m ∷ p) ps) ≡ false
none_empty m [] = refl
none_empty m (p ∷ ps) = none_empty m ps

-- a path is on the way down to another exactly if the other is within it
pub list_any-prefixes : (q path : List (List ℕ)) → list_any (same q) (prefixes path) ≡ within q path
list_any-prefixes [] [] = refl
list_any-prefixes (n ∷ q) [] = refl
list_any-prefixes [] (m ∷ path) = refl
list_any-prefixes (n ∷ q) (m ∷ path) = list_any-map_cons n m q (prefixes path) ∙ ap (λ b. pointwise eqb n m && b) (list_any-prefixes q path) ∙ by (pointwise eqb n m) (strip q path)
  where
    by : (b : Bool) (o : Option (List (List ℕ))) → (b && is_some o) ≡ is_some (cond b o None)
    by true o = refl
    by false o = refl

last_dir : (q : List (List ℕ)) (ps : List (List (List ℕ))) → last_at q (map (λ p. (p, Dir)) ps) ≡ cond (list_any (same q) ps) (Some Dir) None
last_dir q [] = refl
last_dir q (p ∷ ps) = ap (λ o. option_or o (cond (same q p) (Some Dir) None)) (last_dir q ps) ∙ by (list_any (same q) ps) (same q p)
  where
    by : (b c : Bool) → option_or (cond b (Some Dir) None) (cond c (Some Dir) None) ≡ cond (c || b) (Some Dir) None
    by true true = refl
    by true false = refl
    by false true = refl
    by false false = refl

-- what a path holds once what is missing on the way down to another is made
pub get-made : (c : Content) (path q : List (List ℕ)) → finite.get (with_all c (map (λ p. (p, Dir)) (missing c path))) q ≡ cond (is_absent c q && within q path) (Some Dir) (finite.get c q)
get-made c path q =
    get-with_all c (map (λ p. (p, Dir)) (missing c path)) q
    ∙ ap (λ o. option_or o (finite.get c q)) (last_dir q (missing c path) ∙ ap (λ b. cond b (Some Dir) None) (list_any-filter_by q (is_absent c) (prefixes path) ∙ ap (λ b. is_absent c q && b) (list_any-prefixes q path)))
    ∙ by (is_absent c q && within q path)
  where
    by : (b : Bool) → option_or (cond b (Some Dir) None) (finite.get c q) ≡ cond b (Some Dir) (finite.get c q)
    by true = refl
    by false = refl

pub any_at : (p : List (List ℕ) → Bool) (q : List (List ℕ)) (ks : List (List (List ℕ))) → list_any p ks ≡ false → list_any (same q) ks ≡ true → p q ≡ false
any_at p q [] none found = absurd (true≢false (sym found))
any_at p q (k ∷ ks) none found = by (same q k) refl (p k) refl none found (any_at p q ks)
  where
    by : (b : Bool) → same q k ≡ b → (d : Bool) → p k ≡ d → (d || list_any p ks) ≡ false → (b || list_any (same q) ks) ≡ true → (list_any p ks ≡ false → list_any (same q) ks ≡ true → p q ≡ false) → p q ≡ false
    by b is true e none found rest = absurd (true≢false none)
    by true is false e none found rest = ap p (same_path q k is) ∙ e
    by false is false e none found rest = rest none found

pub tree-made : (c : Content) (path : List (List ℕ)) → IsTree c → list_any (λ p. is_file (node_at c p)) (prefixes path) ≡ false → IsTree (with_all c (map (λ p. (p, Dir)) (missing c path)))
tree-made c path tree clear = record {
  root = dirs [] tree.root;
  parents = λ p n found. above p n (within (p ++ n ∷ []) path) refl (finite.get c (p ++ n ∷ [])) refl (ap is_some (sym (get-made c path (p ++ n ∷ []))) ∙ found);
}
  where
    dirs : (q : List (List ℕ)) → finite.get c q ≡ Some Dir → finite.get (with_all c (map (λ p. (p, Dir)) (missing c path))) q ≡ Some Dir
    dirs q dir = get-made c path q ∙ rw dir refl

    made : (q : List (List ℕ)) → within q path ≡ true → finite.get (with_all c (map (λ p. (p, Dir)) (missing c path))) q ≡ Some Dir
    made q on = get-made c path q ∙ by (finite.get c q) (any_at (λ p. is_file (node_at c p)) q (prefixes path) clear (list_any-prefixes q path ∙ on))
      where
        by : (o : Option Node) → is_file o ≡ false → cond (is_none o && within q path) (Some Dir) o ≡ Some Dir
        by None f = rw on refl
        by (Some Dir) f = refl
        by (Some (File bytes closed)) f = absurd (true≢false f)

    above : (p : List (List ℕ)) (n : List ℕ) (b : Bool) → within (p ++ n ∷ []) path ≡ b → (o : Option Node) → finite.get c (p ++ n ∷ []) ≡ o → is_some (cond (is_none o && b) (Some Dir) o) ≡ true → finite.get (with_all c (map (λ p. (p, Dir)) (missing c path))) p ≡ Some Dir
    above p n b on (Some node) is found = dirs p (tree.parents p n (ap is_some is))
    above p n true on None is found = made p (front (strip (p ++ n ∷ []) path) refl)
      where
        front : (o : Option (List (List ℕ))) → strip (p ++ n ∷ []) path ≡ o → within p path ≡ true
        front None e = absurd (true≢false (sym on ∙ ap is_some e))
        front (Some rest) e = ap (λ q. is_some (strip p q)) (append-strip (p ++ n ∷ []) path rest e ∙ append_assoc p (n ∷ []) rest) ∙ ap is_some (strip-append p (n ∷ rest))
    above p n false on None is found = absurd (true≢false (sym found))

-- ---- any call

pub nonempty : (path : List (List ℕ)) (b : Bool) → (eqb (length path) 0 || b) ≡ false → path ≢ []
nonempty [] b e is = true≢false e
nonempty (n ∷ path) b e is = cc

either : (a b : Bool) → (a || b) ≡ false → (a ≡ false) × (b ≡ false)
either true b e = absurd (true≢false e)
either false b e = (refl, e)

pub tree_effect : (c : Content) (call : Op) → IsTree c → refusal c call ≡ None → IsTree (effect c call)
tree_effect c (op.Mkdirs path) tree none = tree-made c path tree (row_passes _ _ _ none).0
tree_effect c (op.Create path closed) tree none =
    let a = row_passes _ _ _ none in
    let b = row_passes _ _ _ a.1 in
    let d = row_passes _ _ _ b.1 in
    tree-insert c path (File [] closed) tree (absent _ a.0) (present _ b.0 d.0)
tree_effect c (op.Append path bytes) tree none = tree-changed c path (appended bytes) tree refl
tree_effect c (op.Close path) tree none = tree-changed c path closed_of tree refl
tree_effect c (op.Delete path) tree none = tree-without c path tree (nonempty path _ (row_passes _ _ _ none).0)
tree_effect c (op.Rename from to) tree none =
    let a = row_passes _ _ _ none in
    let b = row_passes _ _ _ a.1 in
    let d = row_passes _ _ _ b.1 in
    let e = row_passes _ _ _ d.1 in
    let f = row_passes _ _ _ e.1 in
    tree-renamed c from to tree b.0 (absent _ d.0) (present _ e.0 f.0)
tree_effect c (op.List path) tree none = tree
tree_effect c (op.Exists path) tree none = tree
tree_effect c (op.Read path) tree none = tree
tree_effect c (op.Bar a) tree none = tree

-- what is refused by neither passes both
pub neither : (o p : Option NameFault) → option_or o p ≡ None → (o ≡ None) × (p ≡ None)
neither None p e = (refl, e)
neither (Some f) p e = absurd (cc)

-- once its caller is heard, the call's own refusal is left
pub past_caller : (s : State) (caller : Caller) (call : Op) → refused s caller call ≡ None → refusal s.content call ≡ None
past_caller s caller call none = (row_passes (passes_limit s.barred call) _ _ (neither (unheard s caller) _ none).1).1

-- what a call that is not refused leaves, seen at the content alone
pub tree_after : (s : State) (caller : Caller) (call : Op) (new : Content) → refused s caller call ≡ None → IsTree s.content → new ≡ effect s.content call → IsTree new
tree_after s caller call new none tree is = subst IsTree (sym is) (tree_effect s.content call tree (past_caller s caller call none))

-- what is not the root has a name
pub not_empty : (path : List (List ℕ)) → path ≢ [] → 0 < length path
not_empty [] apart = absurd (apart refl)
not_empty (n ∷ path) apart = omega arith

-- the root alone
pub tree_root : IsTree (finite.insert finite.empty [] Dir)
tree_root = record {
  root = get_written finite.empty [] Dir;
  parents = λ p n found. absurd (true≢false (sym found ∙ ap is_some (get_kept finite.empty [] Dir (p ++ n ∷ []) (apart p n) ∙ finite.get-empty path_cmp (p ++ n ∷ []))));
}
  where
    apart : (p : List (List ℕ)) (n : List ℕ) → p ++ n ∷ [] ≢ []
    apart [] n e = cc
    apart (m ∷ p) n e = cc
