-- What a path holds after each change of a content.
use Rattle.std.proofs.Common.{◌≡◌, ◌≢◌, ℕ, Bool, true, false, cond, not, ◌&&◌, List, [], ◌∷◌, ◌++◌, map, length, refl, sym, ap, ◌∙◌, Option, Some, None, Ordering, Less, Equal, Greater, is_some, true≢false, append_assoc, append-nil, suc, zero, ◌≤◌, ◌<◌, take, drop, filter, is_none, ◌+◌, ◌||◌, add-one, arith, inl, inr, ◌⊎◌}
use Rattle.std.specs.Prelude.{T}
use Rattle.std.specs.Option.{option_or}
use Rattle.std.specs.Ordering.{is_eq, is_lt, eq_by_cmp}
use Rattle.std.specs.List.{AllByRecursion, list_any}
use Rattle.std.specs.Cmp.{tied_itself}
use Rattle.std.specs.FinMap as finite
use Rattle.std.specs.FinMap.Entries.{find, is_sorted, below_all}
use Rattle.mr_paths.specs.Path.{path_cmp, path_total, path_exact, strip, rebased, rebased_by, prefixes, path_ties}
use Rattle.mr_paths.proofs.Paths.{strip-append, append-strip}
use Rattle.mr_names_tree.specs.declared.node.Node.{Node}
use Rattle.mr_names_tree.specs.declared.node.Node.TheVariants.{Dir, File}
use Rattle.mr_names_tree.specs.Content.{Content, IsTree, without, with_all, moved, renamed, renamed_at, renamed_at_by, within, with_dirs, without_one, is_path}
use Rattle.mr_names_tree.specs.Held.{is_absent, is_file, missing_count}

-- ---- whether two paths are one

abbrev pub same : List (List ℕ) → List (List ℕ) → Bool
same x y = eq_by_cmp path_cmp x y

equal : (o : Ordering) → is_eq o ≡ true → o ≡ Equal
equal Less e = absurd (cc)
equal Equal e = refl
equal Greater e = absurd (cc)

pub same_path : (x y : List (List ℕ)) → same x y ≡ true → x ≡ y
same_path x y e = path_exact x y (equal _ e)

pub same_itself : (x : List (List ℕ)) → same x x ≡ true
same_itself x = ap is_eq (tied_itself path_total x)

pub same_from : (x y : List (List ℕ)) → x ≡ y → same x y ≡ true
same_from x y e = ap (same x) (sym e) ∙ same_itself x

pub different : (x y : List (List ℕ)) → x ≢ y → same x y ≡ false
different x y apart = by (same x y) refl
  where
    by : (b : Bool) → same x y ≡ b → same x y ≡ false
    by true e = absurd (apart (same_path x y e))
    by false e = e

pub same_or_not : (x y : List (List ℕ)) → (x ≡ y) ⊎ (x ≢ y)
same_or_not x y = by (same x y) refl
  where
    by : (b : Bool) → same x y ≡ b → (x ≡ y) ⊎ (x ≢ y)
    by true e = inl (same_path x y e)
    by false e = inr (λ is. true≢false (sym (same_from x y is) ∙ e))

alike : (a b : Bool) → (a ≡ true → b ≡ true) → (b ≡ true → a ≡ true) → a ≡ b
alike true b f g = sym (f refl)
alike false true f g = g refl
alike false false f g = refl

-- ---- one path written

pub get_written : (c : Content) (path : List (List ℕ)) (node : Node) → finite.get (finite.insert c path node) path ≡ Some node
get_written c path node = finite.get-insert path_total c path node path ∙ rw (same_itself path) refl

pub get_kept : (c : Content) (path : List (List ℕ)) (node : Node) (q : List (List ℕ)) → q ≢ path → finite.get (finite.insert c path node) q ≡ finite.get c q
get_kept c path node q apart = finite.get-insert path_total c path node q ∙ rw (different q path apart) refl

-- ---- all within a path taken out

pub get-without_one : (c : Content) (path q : List (List ℕ)) → finite.get (without_one path c) q ≡ cond (same q path) None (finite.get c q)
get-without_one c path q =
    finite.get-retain_keys c (λ p. not (is_path p path)) q (λ x tied. ap (λ p. not (is_path p path)) (sym (path_exact q x tied)))
    ∙ ap (λ b. cond (not b) (finite.get c q) None) (path_ties q path)
    ∙ elim (same q path) as (λ b. cond (not b) (finite.get c q) None ≡ cond b None (finite.get c q)) [ true ↦ refl | false ↦ refl ]

pub get-without : (top : List (List ℕ)) (c : Content) (q : List (List ℕ)) → finite.get (without top c) q ≡ cond (within top q) None (finite.get c q)
get-without top c q =
    finite.get-retain_keys c (λ path. not (within top path)) q (λ x tied. ap (λ p. not (within top p)) (sym (path_exact q x tied)))
    ∙ elim (within top q) as (λ b. cond (not b) (finite.get c q) None ≡ cond b None (finite.get c q)) [ true ↦ refl | false ↦ refl ]

-- ---- many written

-- the last that is written at a path
abbrev pub last_at : List (List ℕ) → List (List (List ℕ) × Node) → Option Node
last_at q [] = None
last_at q (e ∷ es) = option_or (last_at q es) (cond (same q e.0) (Some e.1) None)

chosen : (o : Option Node) (b : Bool) (v : Node) (d : Option Node) → option_or o (cond b (Some v) d) ≡ option_or (option_or o (cond b (Some v) None)) d
chosen None true v d = refl
chosen None false v d = refl
chosen (Some w) b v d = refl

pub get-with_all : (c : Content) (es : List (List (List ℕ) × Node)) (q : List (List ℕ)) → finite.get (with_all c es) q ≡ option_or (last_at q es) (finite.get c q)
get-with_all c [] q = refl
get-with_all c (e ∷ es) q =
    get-with_all (finite.insert c e.0 e.1) es q
    ∙ ap (option_or (last_at q es)) (finite.get-insert path_total c e.0 e.1 q)
    ∙ chosen (last_at q es) (same q e.0) e.1 (finite.get c q)

-- ---- renamed

-- where a path's node was before
abbrev pub back_by : List (List ℕ) → List (List ℕ) → Option (List (List ℕ)) → Option (List (List ℕ))
back_by from path (Some rest) = Some (from ++ rest)
back_by from path None = cond (within from path) None (Some path)

abbrev pub back : List (List ℕ) → List (List ℕ) → List (List ℕ) → Option (List (List ℕ))
back from to path = back_by from path (strip to path)

abbrev is_back : Option (List (List ℕ)) → List (List ℕ) → Bool
is_back None y = false
is_back (Some z) y = same z y

-- y goes to x exactly if it was there
back-rebased : (from to x y : List (List ℕ)) → strip to y ≡ None → same x (rebased from to y) ≡ is_back (back from to x) y
back-rebased from to x y free = alike _ _ there here
  where
    there : same x (rebased from to y) ≡ true → is_back (back from to x) y ≡ true
    there e = by (strip from y) refl (same_path x (rebased from to y) e)
      where
        by : (o : Option (List (List ℕ))) → strip from y ≡ o → x ≡ rebased_by to y o → is_back (back from to x) y ≡ true
        by None out is = let o : strip to x ≡ None = ap (strip to) is ∙ free in let p : strip from x ≡ None = ap (strip from) is ∙ out in rw (o, p) (same_from x y is)
        by (Some rest) at is = let o : strip to x ≡ Some rest = ap (strip to) is ∙ strip-append to rest in rw o (same_from (from ++ rest) y (sym (append-strip from y rest at)))

    here : is_back (back from to x) y ≡ true → same x (rebased from to y) ≡ true
    here = by (strip to x) refl
      where
        out : (o : Option (List (List ℕ))) → strip from x ≡ o → is_back (cond (is_some o) None (Some x)) y ≡ true → same x (rebased from to y) ≡ true
        out None none e = let is : x ≡ y = same_path x y e in let o : strip from y ≡ None = ap (strip from) (sym is) ∙ none in rw o (same_from x y is)
        out (Some rest) at e = absurd (true≢false (sym e))

        by : (o : Option (List (List ℕ))) → strip to x ≡ o → is_back (back_by from x o) y ≡ true → same x (rebased from to y) ≡ true
        by (Some rest) at e =
            let is : from ++ rest ≡ y = same_path (from ++ rest) y e in
            let o : strip from y ≡ Some rest = ap (strip from) (sym is) ∙ strip-append from rest in
            rw o (same_from x (to ++ rest) (append-strip to x rest at))
        by None none e = out (strip from x) refl e

abbrev found_at : List (List (List ℕ) × Node) → Option (List (List ℕ)) → Option Node
found_at es None = None
found_at es (Some y) = find path_cmp y es

below_find : (x : List (List ℕ)) (es : List (List (List ℕ) × Node)) → T (below_all path_cmp x es) → find path_cmp x es ≡ None
below_find x [] h = refl
below_find x (e ∷ es) h =
    elim (path_cmp x e.0) as (λ o. T (is_lt o && below_all path_cmp x es) → cond (is_eq o) (Some e.1) (find path_cmp x es) ≡ None) [
      | Less ↦ λ g. below_find x es g
      | Equal ↦ λ g. absurd g
      | Greater ↦ λ g. absurd g
    ] h

first : (a b : Bool) → T (a && b) → T a
first true b p = tt
first false b p = p

second : (a b : Bool) → T (a && b) → T b
second true b p = p
second false b p = absurd p

-- the last that a rename puts at a path is what was where the path's node was
last-moved : (from to x : List (List ℕ)) (es : List (List (List ℕ) × Node)) → T (is_sorted path_cmp es) → AllByRecursion (λ e. strip to e.0 ≡ None) es → last_at x (map (moved from to) es) ≡ found_at es (back from to x)
last-moved from to x [] sorted free = elim (back from to x) as (λ o. None ≡ found_at [] o) [ None ↦ refl | Some y ↦ refl ]
last-moved from to x (e ∷ es) sorted free =
    (λ i. option_or (last-moved from to x es (second _ _ sorted) free.1 i) (cond (back-rebased from to x e.0 free.0 i) (Some e.1) None))
    ∙ by (back from to x)
  where
    by : (o : Option (List (List ℕ))) → option_or (found_at es o) (cond (is_back o e.0) (Some e.1) None) ≡ found_at (e ∷ es) o
    by None = refl
    by (Some y) = go (same y e.0) refl
      where
        all : (o : Option Node) → option_or o None ≡ o
        all None = refl
        all (Some v) = refl

        go : (b : Bool) → same y e.0 ≡ b → option_or (find path_cmp y es) (cond b (Some e.1) None) ≡ cond b (Some e.1) (find path_cmp y es)
        go true is = let none : find path_cmp y es ≡ None = ap (λ z. find path_cmp z es) (same_path y e.0 is) ∙ below_find e.0 es (first _ _ sorted) in rw none refl
        go false is = all _

-- what holds wherever a node stands holds of each entry
each_entry : (P : List (List ℕ) → Type 0) (es : List (List (List ℕ) × Node)) → ((q : List (List ℕ)) → is_some (find path_cmp q es) ≡ true → P q) → AllByRecursion (λ e. P e.0) es
each_entry P [] h = tt
each_entry P (e ∷ es) h = (h e.0 (rw (same_itself e.0) refl), each_entry P es (λ q found. h q (by q (same q e.0) found)))
  where
    by : (q : List (List ℕ)) (b : Bool) → is_some (find path_cmp q es) ≡ true → is_some (cond b (Some e.1) (find path_cmp q es)) ≡ true
    by q true found = refl
    by q false found = found

pub get-renamed : (from to : List (List ℕ)) (c : Content) (x : List (List ℕ)) → ((q : List (List ℕ)) → is_some (finite.get c q) ≡ true → strip to q ≡ None) → finite.get (renamed from to c) x ≡ renamed_at from to c x
get-renamed from to c x free =
    get-with_all finite.empty (map (moved from to) (finite.entries c)) x
    ∙ (λ i. option_or (last-moved from to x (finite.entries c) (finite.entries_sorted c) (each_entry (λ q. strip to q ≡ None) (finite.entries c) (λ q found. free q (ap is_some (finite.get-entries c q) ∙ found))) i) (finite.get-empty path_cmp x i))
    ∙ by (strip to x)
  where
    all : (o : Option Node) → option_or o None ≡ o
    all None = refl
    all (Some v) = refl

    by : (o : Option (List (List ℕ))) → option_or (found_at (finite.entries c) (back_by from x o)) None ≡ renamed_at_by from c x o
    by (Some rest) = all _ ∙ sym (finite.get-entries c (from ++ rest))
    by None = elim (within from x) as (λ b. option_or (found_at (finite.entries c) (cond b None (Some x))) None ≡ cond b None (finite.get c x)) [ true ↦ refl | false ↦ all _ ∙ sym (finite.get-entries c x) ]

-- a path outside both is reached from itself alone
rebased-outside : (from to x y : List (List ℕ)) → within from x ≡ false → within to x ≡ false → same x (rebased from to y) ≡ same x y
rebased-outside from to x y out_from out_to = alike _ _ there here
  where
    there : same x (rebased from to y) ≡ true → same x y ≡ true
    there e = by (strip from y) (same_path x (rebased from to y) e)
      where
        by : (o : Option (List (List ℕ))) → x ≡ rebased_by to y o → same x y ≡ true
        by None is = same_from x y is
        by (Some rest) is = absurd (true≢false (sym (ap is_some (ap (strip to) is ∙ strip-append to rest)) ∙ out_to))

    here : same x y ≡ true → same x (rebased from to y) ≡ true
    here e = by (strip from y) refl
      where
        by : (o : Option (List (List ℕ))) → strip from y ≡ o → same x (rebased_by to y o) ≡ true
        by None none = e
        by (Some rest) some = absurd (true≢false (sym (ap is_some (ap (strip from) (same_path x y e) ∙ some)) ∙ out_from))

last-outside : (from to x : List (List ℕ)) (es : List (List (List ℕ) × Node)) → T (is_sorted path_cmp es) → within from x ≡ false → within to x ≡ false → last_at x (map (moved from to) es) ≡ find path_cmp x es
last-outside from to x [] sorted out_from out_to = refl
last-outside from to x (e ∷ es) sorted out_from out_to =
    (λ i. option_or (last-outside from to x es (second _ _ sorted) out_from out_to i) (cond (rebased-outside from to x e.0 out_from out_to i) (Some e.1) None))
    ∙ go (same x e.0) refl
  where
    all : (o : Option Node) → option_or o None ≡ o
    all None = refl
    all (Some v) = refl

    go : (b : Bool) → same x e.0 ≡ b → option_or (find path_cmp x es) (cond b (Some e.1) None) ≡ cond b (Some e.1) (find path_cmp x es)
    go true is = let none : find path_cmp x es ≡ None = ap (λ z. find path_cmp z es) (same_path x e.0 is) ∙ below_find e.0 es (first _ _ sorted) in rw none refl
    go false is = all _

-- what is neither moved nor moved onto stays, of any content
pub get-renamed-outside : (from to : List (List ℕ)) (c : Content) (x : List (List ℕ)) → within from x ≡ false → within to x ≡ false → finite.get (renamed from to c) x ≡ finite.get c x
get-renamed-outside from to c x out_from out_to =
    get-with_all finite.empty (map (moved from to) (finite.entries c)) x
    ∙ (λ i. option_or (last-outside from to x (finite.entries c) (finite.entries_sorted c) out_from out_to i) (finite.get-empty path_cmp x i))
    ∙ all (find path_cmp x (finite.entries c))
    ∙ sym (finite.get-entries c x)
  where
    all : (o : Option Node) → option_or o None ≡ o
    all None = refl
    all (Some v) = refl

-- ---- the tree

-- whatever is above a node is a directory
pub above_is_dir : (c : Content) → IsTree c → (path : List (List ℕ)) (name : List ℕ) (rest : List (List ℕ)) → is_some (finite.get c (path ++ name ∷ rest)) ≡ true → finite.get c path ≡ Some Dir
above_is_dir c tree path name [] found = tree.parents path name found
above_is_dir c tree path name (next ∷ rest) found =
    let here : finite.get c (path ++ name ∷ []) ≡ Some Dir = above_is_dir c tree (path ++ name ∷ []) next rest (ap (λ p. is_some (finite.get c p)) (append_assoc path (name ∷ []) (next ∷ rest)) ∙ found) in
    tree.parents path name (ap is_some here)

-- where nothing stands, nothing is beneath
pub nothing_within : (c : Content) → IsTree c → (top : List (List ℕ)) → finite.get c top ≡ None → (q : List (List ℕ)) → is_some (finite.get c q) ≡ true → strip top q ≡ None
nothing_within c tree top absent q found = by (strip top q) refl
  where
    by : (o : Option (List (List ℕ))) → strip top q ≡ o → o ≡ None
    by None e = refl
    by (Some []) e =
        let is : q ≡ top ++ [] = append-strip top q [] e in
        absurd (true≢false (sym found ∙ ap (λ p. is_some (finite.get c p)) (is ∙ append-nil top) ∙ ap is_some absent))
    by (Some (name ∷ rest)) e =
        let is : q ≡ top ++ name ∷ rest = append-strip top q (name ∷ rest) e in
        let dir : finite.get c top ≡ Some Dir = above_is_dir c tree top name rest (ap (λ p. is_some (finite.get c p)) (sym is) ∙ found) in
        absurd (true≢false (sym (ap is_some dir) ∙ ap is_some absent))

-- ---- one path after another on the way down

pub drop-prefixes : (n : ℕ) (path : List (List ℕ)) → n ≤ length path → drop n (prefixes path) ≡ take n path ∷ drop (suc n) (prefixes path)
drop-prefixes zero [] h = refl
drop-prefixes zero (m ∷ path) h = refl
drop-prefixes (suc n) [] h = absurd (omega arith)
drop-prefixes (suc n) (m ∷ path) h =
    let le : n ≤ length path = omega arith in
    drop-map n (prefixes path) ∙ ap (map (λ p. m ∷ p)) (drop-prefixes n path le) ∙ ap (λ ps. (m ∷ take n path) ∷ ps) (sym (drop-map (suc n) (prefixes path)))
  where
    drop-map : (k : ℕ) (ps : List (List (List ℕ))) → drop k (map (λ p. m ∷ p) ps) ≡ map (λ p. m ∷ p) (drop k ps)
    drop-map zero ps = refl
    drop-map (suc k) [] = refl
    drop-map (suc k) (p ∷ ps) = drop-map k ps

-- past the path itself nothing is left
pub none_left : (n : ℕ) (path : List (List ℕ)) → length path < n → drop n (prefixes path) ≡ []
none_left n path h = by n path h
  where
    drop-nil : (k : ℕ) → drop k (map (λ (p : List (List ℕ)). p) []) ≡ []
    drop-nil zero = refl
    drop-nil (suc k) = refl

    drop-map : (m : List ℕ) (k : ℕ) (ps : List (List (List ℕ))) → drop k (map (λ p. m ∷ p) ps) ≡ map (λ p. m ∷ p) (drop k ps)
    drop-map m zero ps = refl
    drop-map m (suc k) [] = refl
    drop-map m (suc k) (p ∷ ps) = drop-map m k ps

    by : (n : ℕ) (path : List (List ℕ)) → length path < n → drop n (prefixes path) ≡ []
    by zero path h = absurd (omega arith)
    by (suc n) [] h = drop-nil n
    by (suc n) (m ∷ path) h = let lt : length path < n = omega arith in drop-map m n (prefixes path) ∙ ap (map (λ p. m ∷ p)) (by n path lt)

-- one directory that is there, and then those that are missing beneath it
pub there_first : (c : Content) (n : ℕ) (path : List (List ℕ)) → n ≤ length path → is_some (finite.get c (take n path)) ≡ true → with_dirs c (filter (is_absent c) (drop (n + 1) (prefixes path))) ≡ with_dirs c (filter (is_absent c) (drop n (prefixes path)))
there_first c n path h some =
    let there : is_none (finite.get c (take n path)) ≡ false = by (finite.get c (take n path)) some in
    rw (add-one, drop-prefixes n path h, there) refl
  where
    by : (o : Option Node) → is_some o ≡ true → is_none o ≡ false
    by None e = cc
    by (Some v) e = refl

-- counting them, one and then those beneath it
abbrev pub counted : Option Node → Option ℕ → Option ℕ
counted o None = None
counted None (Some m) = Some (m + 1)
counted (Some Dir) (Some m) = Some m
counted (Some (File bytes closed)) (Some m) = None

pub count_first : (c : Content) (n : ℕ) (path : List (List ℕ)) → n ≤ length path → missing_count c (drop n (prefixes path)) ≡ counted (finite.get c (take n path)) (missing_count c (drop (n + 1) (prefixes path)))
count_first c n path h = rw (add-one, drop-prefixes n path h) (by (finite.get c (take n path)) (list_any (λ p. is_file (finite.get c p)) (drop (suc n) (prefixes path))))
  where
    by : (o : Option Node) (b : Bool) → cond (is_file o || b) None (Some (length (cond (is_none o) (take n path ∷ filter (is_absent c) (drop (suc n) (prefixes path))) (filter (is_absent c) (drop (suc n) (prefixes path)))))) ≡ counted o (cond b None (Some (length (filter (is_absent c) (drop (suc n) (prefixes path))))))
    by None true = refl
    by None false = ap Some (sym (add-one _))
    by (Some Dir) true = refl
    by (Some Dir) false = refl
    by (Some (File bytes closed)) true = refl
    by (Some (File bytes closed)) false = refl
