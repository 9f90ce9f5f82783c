-- How many entries a content has, and how long their paths are, as calls change it.
use Rattle.std.proofs.Common.{◌≡◌, ◌≢◌, ◌≤◌, ℕ, ◌+◌, max, Bool, true, false, not, cond, List, [], ◌∷◌, length, map, refl, sym, ap, ◌∙◌, Option, Some, None, is_some, ◌||◌, true≢false, arith, length-append, suc, ◌⊎◌, inl, inr}
use Rattle.std.specs.List.{list_any, filter_map, cons_option}
use Rattle.std.specs.FinMap as finite
use Rattle.std.specs.FinMap.Entries.{where_key, find-where_key}
use Rattle.std.specs.declared.cmp.Ordering.TheVariants.{Equal}
use Rattle.mr_paths.specs.Path.{path_cmp, path_total, path_exact, strip, rebased}
use Rattle.mr_paths.proofs.Paths.{append-strip}
use Rattle.mr_names_tree.specs.declared.node.Node.{Node}
use Rattle.mr_names.specs.declared.op.Op.{Op}
use Rattle.mr_names.specs.declared.op.Op.TheVariants as op
use Rattle.mr_names_tree.specs.Content.{Content, without, with_all, moved, renamed}
use Rattle.mr_names_tree.specs.Held.{node_at}
use Rattle.mr_names_tree.specs.Listing.{children, line_of}
use Rattle.mr_names.specs.Calls.{effect}
use Rattle.mr_names_tree.proofs.ContentLaws.{same, same_path, same_itself, same_or_not, get_kept, get-without}
use Rattle.mr_commit.specs.CommitterEffect.{longest, deepest}
use Rattle.mr_commit.specs.Settles.{RaisesBy}

-- ---- how many entries

len_insert : (c : Content) (path : List (List ℕ)) (node : Node) → finite.len (finite.insert c path node) ≤ finite.len c + 1
len_insert c path node = by (finite.contains_key c path) (finite.len-insert path_total c path node)
  where
    by : (b : Bool) → finite.len (finite.insert c path node) ≡ cond b (finite.len c) (finite.len c + 1) → finite.len (finite.insert c path node) ≤ finite.len c + 1
    by true e = omega arith
    by false e = omega arith

len_with_all : (c : Content) (es : List (List (List ℕ) × Node)) → finite.len (with_all c es) ≤ finite.len c + length es
len_with_all c [] = omega arith
len_with_all c (e ∷ es) = let one = len_insert c e.0 e.1 in let more = len_with_all (finite.insert c e.0 e.1) es in omega arith

len_from_entries : (es : List (List (List ℕ) × Node)) → finite.len (finite.from_entries {R = path_cmp} es) ≤ length es
len_from_entries [] = let none = finite.len-empty path_cmp Node in omega arith
len_from_entries (e ∷ es) = let one = len_insert (finite.from_entries es) e.0 e.1 in let more = len_from_entries es in omega arith

length_where : (p : List (List ℕ) → Bool) (es : List (List (List ℕ) × Node)) → length (where_key path_cmp p es) ≤ length es
length_where p [] = omega arith
length_where p (e ∷ es) = by (p e.0) (length_where p es)
  where
    by : (b : Bool) → length (where_key path_cmp p es) ≤ length es → length (cond b (e ∷ where_key path_cmp p es) (where_key path_cmp p es)) ≤ suc (length es)
    by true h = omega arith
    by false h = omega arith

len_retained : (c : Content) (p : List (List ℕ) → Bool) → finite.len (finite.retain_keys c p) ≤ finite.len c
len_retained c p =
    let alike = λ (q x : List (List ℕ)) (e : path_cmp q x ≡ Equal). ap p (sym (path_exact q x e)) in
    let is : finite.retain_keys c p ≡ finite.from_entries (where_key path_cmp p (finite.entries c)) =
    finite.same_map path_total path_exact _ _ (λ q.
    finite.get-retain_keys c p q (alike q)
    ∙ ap (λ o. cond (p q) o None) (finite.get-entries c q)
    ∙ sym (finite.get-from_entries path_total (where_key path_cmp p (finite.entries c)) q ∙ find-where_key path_cmp p q (alike q) (finite.entries c))) in
    let few = len_from_entries (where_key path_cmp p (finite.entries c)) in
    let fewer = length_where p (finite.entries c) in
    let all = finite.len-entries c in
    rw is (omega arith)

length_map : {A B : Type 0} (f : A → B) (xs : List A) → length (map f xs) ≡ length xs
length_map f [] = refl
length_map f (x ∷ xs) = ap suc (length_map f xs)

len_renamed : (from to : List (List ℕ)) (c : Content) → finite.len (renamed from to c) ≤ finite.len c
len_renamed from to c =
    let h = len_with_all finite.empty (map (moved from to) (finite.entries c)) in
    let none = finite.len-empty path_cmp Node in
    let same_length = length_map (moved from to) (finite.entries c) in
    let all = finite.len-entries c in
    omega arith

length_filter_map : {A B : Type 0} (f : A → Option B) (xs : List A) → length (filter_map f xs) ≤ length xs
length_filter_map f [] = omega arith
length_filter_map {B = B} f (x ∷ xs) = by (f x) (length_filter_map f xs)
  where
    by : (o : Option B) → length (filter_map f xs) ≤ length xs → length (cons_option o (filter_map f xs)) ≤ suc (length xs)
    by None h = omega arith
    by (Some y) h = omega arith

-- a directory lists no more than all entries
pub few_children : (c : Content) (path : List (List ℕ)) → length (children c path) ≤ finite.len c
few_children c path = let h = length_filter_map (line_of path) (finite.entries c) in let all = finite.len-entries c in omega arith

-- ---- how long their paths are

pub record Shallow (depth : ℕ) (c : Content) : Type 0 where
  pub within : (q : List (List ℕ)) → is_some (node_at c q) ≡ true → length q ≤ depth

listed_short : (ks : List (List (List ℕ))) (q : List (List ℕ)) → list_any (same q) ks ≡ true → length q ≤ longest ks
listed_short [] q e = absurd (true≢false (sym e))
listed_short (k ∷ ks) q e = by (same q k) refl e (listed_short ks q)
  where
    by : (b : Bool) → same q k ≡ b → (b || list_any (same q) ks) ≡ true → (list_any (same q) ks ≡ true → length q ≤ longest ks) → length q ≤ max (length k) (longest ks)
    by true is e more = let n = ap length (same_path q k is) in omega arith
    by false is e more = let n = more e in omega arith

pub shallow_first : (c : Content) → Shallow (deepest c) c
shallow_first c = record { within = λ q e. listed_short (finite.keys c) q (sym (finite.contains_key-keys c q) ∙ e) }

abbrev EachShort : ℕ → List (List (List ℕ) × Node) → Type 0
EachShort depth [] = Unit {0}
EachShort depth (e ∷ es) = (length e.0 ≤ depth) × EachShort depth es

or_true : (a : Bool) → (a || true) ≡ true
or_true true = refl
or_true false = refl

each_short : (depth : ℕ) (es : List (List (List ℕ) × Node)) → ((q : List (List ℕ)) → list_any (same q) (map (λ e. e.0) es) ≡ true → length q ≤ depth) → EachShort depth es
each_short depth [] h = tt
each_short depth (e ∷ es) h = (h e.0 (rw (same_itself e.0) refl), each_short depth es (λ q m. h q (rw m (or_true (same q e.0)))))

short_moved : (depth : ℕ) (from to path : List (List ℕ)) → length to ≤ length from → length path ≤ depth → length (rebased from to path) ≤ depth
short_moved depth from to path h short = by (strip from path) refl
  where
    by : (o : Option (List (List ℕ))) → strip from path ≡ o → length (rebased from to path) ≤ depth
    by None e = rw e short
    by (Some rest) e = let split = ap length (append-strip from path rest e) in rw e (omega (arith, length-append to rest, length-append from rest))

each_moved : (depth : ℕ) (from to : List (List ℕ)) (es : List (List (List ℕ) × Node)) → length to ≤ length from → EachShort depth es → EachShort depth (map (moved from to) es)
each_moved depth from to [] h all = tt
each_moved depth from to (e ∷ es) h all = (short_moved depth from to e.0 h all.0, each_moved depth from to es h all.1)

shallow_with_all : (depth : ℕ) (c : Content) (es : List (List (List ℕ) × Node)) → Shallow depth c → EachShort depth es → Shallow depth (with_all c es)
shallow_with_all depth c [] h all = h
shallow_with_all depth c (e ∷ es) h all = shallow_with_all depth (finite.insert c e.0 e.1) es (record { within = one }) all.1
  where
    one : (q : List (List ℕ)) → is_some (node_at (finite.insert c e.0 e.1) q) ≡ true → length q ≤ depth
    one q found = by (same_or_not q e.0)
      where
        by : (q ≡ e.0) ⊎ (q ≢ e.0) → length q ≤ depth
        by (inl is) = let n = ap length is in let k = all.0 in omega arith
        by (inr ne) = h.within q (sym (ap is_some (get_kept c e.0 e.1 q ne)) ∙ found)

-- no entry is made, and none brought further down
pub record Bounded (entries depth : ℕ) (c : Content) : Type 0 where
  pub few : finite.len c ≤ entries
  pub shallow : Shallow depth c

shallow_without : (depth : ℕ) (top : List (List ℕ)) (c : Content) → Shallow depth c → Shallow depth (without top c)
shallow_without depth top c h = record { within = λ q found. h.within q (by q (strip top q) (ap is_some (sym (get-without top c q)) ∙ found)) }
  where
    by : (q : List (List ℕ)) (o : Option (List (List ℕ))) → is_some (cond (is_some o) None (node_at c q)) ≡ true → is_some (node_at c q) ≡ true
    by q None e = e
    by q (Some rest) e = absurd (true≢false (sym e))

shallow_empty : (depth : ℕ) → Shallow depth finite.empty
shallow_empty depth = record { within = λ q found. absurd (true≢false (sym found ∙ ap is_some (finite.get-empty path_cmp q))) }

shallow_renamed : (depth : ℕ) (from to : List (List ℕ)) (c : Content) → length to ≤ length from → Shallow depth c → Shallow depth (renamed from to c)
shallow_renamed depth from to c h s =
    shallow_with_all depth finite.empty _ (shallow_empty depth)
    (each_moved depth from to (finite.entries c) h (each_short depth (finite.entries c) (λ q e. s.within q (finite.contains_key-keys c q ∙ e))))

pub stays_bounded : (entries depth : ℕ) (c : Content) (call : Op) → RaisesBy call → Bounded entries depth c → Bounded entries depth (effect c call)
stays_bounded entries depth c (op.Delete path) r b =
    record { few = let n = len_retained c (λ q. not (is_some (strip path q))) in let m = b.few in omega arith; shallow = shallow_without depth path c b.shallow }
stays_bounded entries depth c (op.Rename from to) r b =
    record { few = let n = len_renamed from to c in let m = b.few in omega arith; shallow = shallow_renamed depth from to c r b.shallow }
stays_bounded entries depth c (op.List path) r b = b
stays_bounded entries depth c (op.Exists path) r b = b
stays_bounded entries depth c (op.Read path) r b = b
stays_bounded entries depth c (op.Bar a) r b = b
stays_bounded entries depth c (op.Mkdirs path) r b = absurd r
stays_bounded entries depth c (op.Create path closed) r b = absurd r
stays_bounded entries depth c (op.Append path bytes) r b = absurd r
stays_bounded entries depth c (op.Close path) r b = absurd r
