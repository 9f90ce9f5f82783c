-- Directories made on the way down to a path, each from the node of the one before.
use Rattle.std.proofs.Common.{◌≡◌, ℕ, ◌+◌, ◌-◌, ◌<◌, ◌≤◌, Bool, true, false, cond, List, [], ◌∷◌, ◌++◌, append_assoc, append-nil, take, drop, filter, length, length-drop, get_or, refl, sym, ap, ◌∙◌, subst, Option, Some, None, is_some, is_none, true≢false, zero, suc, arith, add-one}
use Rattle.std.proofs.Math.Seq.{take-suc, take-length, drop-cons}
use Rattle.std.specs.FinMap as finite
use Rattle.slab.specs.Slab.{Slab}
use Rattle.mr_paths.specs.Path.{path_total, path_exact, prefixes}
use Rattle.mr_paths.proofs.Paths.{strip-append}
use Rattle.mr_names_tree.specs.declared.node.Node.{Node}
use Rattle.mr_names_tree.specs.declared.node.Node.TheVariants.{Dir, File}
use Rattle.mr_names_tree.specs.declared.place.Place.{Place}
use Rattle.mr_names_tree.specs.Content.{Content, IsTree, within, without, with_dirs}
use Rattle.mr_names_tree.specs.Held.{is_absent, missing_count}
use Rattle.mr_names_tree.specs.inner.Tree.{Edges, along, steps, standing, edges_of, nodes_of, IsTold, NodeAdded, SameGraph, HasRoom, DirsAdded, SomeAdded, paths_down}
use Rattle.mr_names_tree.proofs.ContentLaws.{get-without, get_kept, drop-prefixes, none_left, there_first, count_first, counted}
use Rattle.mr_names_tree.proofs.LastNames.{Names}
use Rattle.mr_names_tree.proofs.Walks.{steps-append}
use Rattle.mr_names_tree.proofs.Beneath.{all_gone}
use Rattle.mr_names_tree.proofs.Graph.{told_added, told_same, added_at, added_bare}

-- what is put beneath a path is taken out with it
pub without-insert : (top p : Names) (c : Content) (node : Node) → within top p ≡ true → without top (finite.insert c p node) ≡ without top c
without-insert top p c node inside = finite.same_map path_total path_exact _ _ (λ q. get-without top (finite.insert c p node) q ∙ by q (within top q) refl ∙ sym (get-without top c q))
  where
    by : (q : Names) (w : Bool) → within top q ≡ w → cond w None (finite.get (finite.insert c p node) q) ≡ cond w None (finite.get c q)
    by q true is = refl
    by q false is = get_kept c p node q (λ e. true≢false (sym inside ∙ ap (within top) (sym e) ∙ is))

first_within : (above names : Names) (i : ℕ) → i < length names → within (above ++ take 1 names) (above ++ take (suc i) names) ≡ true
first_within above [] i lt = absurd (omega arith)
first_within above (x ∷ names) i lt =
    ap (within (above ++ x ∷ [])) (sym (append_assoc above (x ∷ []) (take i names))) ∙ ap is_some (strip-append (above ++ x ∷ []) (take i names))

-- ---- one directory after another

pub record Gone (now : Slab Place) (root : ℕ) (c : Content) (above : Names) (at : ℕ) (names : Names) (i : ℕ) : Type 0 where
  pub d : Content
  pub told : IsTold (edges_of now) (nodes_of now) root d
  pub leads : steps (edges_of now) (Some root) (above ++ take i names) ≡ Some at
  pub free : i < length names → steps (edges_of now) (Some root) (above ++ take (suc i) names) ≡ None
  pub rest : with_dirs d (paths_down (above ++ take i names) (drop i names)) ≡ with_dirs c (paths_down above names)
  pub back : without (above ++ take 1 names) d ≡ c

-- the first i directories stand, and the last of them is at this node
pub record Going (old now : Slab Place) (start at : ℕ) (names : Names) (i : ℕ) : Type 0 where
  pub stands : is_some (nodes_of now at) ≡ true
  pub gone : (root : ℕ) (c : Content) (above : Names) → HasRoom old root c above start names → Gone now root c above at names i

pub going_first : (s : Slab Place) (start : ℕ) (names : Names) → is_some (nodes_of s start) ≡ true → Going s s start start names 0
going_first s start names stands = record { stands = stands; gone = gone }
  where
    gone : (root : ℕ) (c : Content) (above : Names) → HasRoom s root c above start names → Gone s root c above start names 0
    gone root c above room = record {
      d = c;
      told = room.told;
      leads = ap (steps (edges_of s) (Some root)) (append-nil above) ∙ room.leads;
      free = λ _. room.free;
      rest = ap (λ p. with_dirs c (paths_down p names)) (append-nil above);
      back = all_gone (edges_of s) (nodes_of s) root c room.told (above ++ take 1 names) (room.told.holds (above ++ take 1 names) ∙ ap (standing (nodes_of s)) room.free);
    }

pub going_on : (old now new : Slab Place) (start at key : ℕ) (names : Names) (i : ℕ) (name : List ℕ) → i < length names → name ≡ get_or names i [] → Going old now start at names i → NodeAdded now new at name Dir key → Going old new start key names (suc i)
going_on old now new start at key names i name lt is going added = record { stands = ap is_some added.stands; gone = gone }
  where
    gone : (root : ℕ) (c : Content) (above : Names) → HasRoom old root c above start names → Gone new root c above key names (suc i)
    gone root c above room =
        let g = going.gone root c above room in
        let path : Names = above ++ take (suc i) names in
        let path_is : path ≡ (above ++ take i names) ++ name ∷ [] =
        ap (λ x. above ++ x) (take-suc names i [] lt ∙ ap (λ n. take i names ++ n ∷ []) (sym is)) ∙ sym (append_assoc above (take i names) (name ∷ [])) in
        let none : finite.get g.d path ≡ None = g.told.holds path ∙ ap (standing (nodes_of now)) (g.free lt) in
        let leads : steps (edges_of new) (Some root) path ≡ Some key = added_at now new root at key g.d (above ++ take i names) path name Dir g.told path_is g.leads (g.free lt) added in
        record {
          d = finite.insert g.d path Dir;
          told = told_added now new root at key g.d (above ++ take i names) path name Dir g.told path_is g.leads none added;
          leads = leads;
          free = λ more.
              ap (λ x. steps (edges_of new) (Some root) (above ++ x)) (take-suc names (suc i) [] more)
              ∙ ap (steps (edges_of new) (Some root)) (sym (append_assoc above (take (suc i) names) (get_or names (suc i) [] ∷ [])))
              ∙ steps-append (edges_of new) (Some root) path (get_or names (suc i) [] ∷ [])
              ∙ ap (λ o. along (edges_of new) o (get_or names (suc i) [])) leads
              ∙ added_bare now new at key name (get_or names (suc i) []) Dir going.stands added;
          rest =
              ap (λ p. with_dirs (finite.insert g.d p Dir) (paths_down p (drop (suc i) names))) path_is
              ∙ ap (λ xs. with_dirs g.d (paths_down (above ++ take i names) xs)) (sym (drop-cons names i [] lt ∙ ap (λ n. n ∷ drop (suc i) names) (sym is)))
              ∙ g.rest;
          back = without-insert (above ++ take 1 names) path g.d Dir (first_within above names i lt) ∙ g.back;
        }

past_end : (names : Names) (i : ℕ) → length names ≤ i → drop i names ≡ []
past_end [] zero le = refl
past_end [] (suc i) le = refl
past_end (x ∷ names) zero le = absurd (omega arith)
past_end (x ∷ names) (suc i) le = past_end names i (omega arith)

pub going_done : (old now : Slab Place) (start at : ℕ) (names : Names) (i : ℕ) → length names ≤ i → Going old now start at names i → DirsAdded old now start names
going_done old now start at names i le going root c above room =
    let g = going.gone root c above room in
    let all : g.d ≡ with_dirs c (paths_down above names) = ap (λ xs. with_dirs g.d (paths_down (above ++ take i names) xs)) (sym (past_end names i le)) ∙ g.rest in
    subst (IsTold (edges_of now) (nodes_of now) root) all g.told

pub going_stopped : (old now new : Slab Place) (start at : ℕ) (names : Names) (i : ℕ) → Going old now start at names i → SameGraph now new → SomeAdded old new start names
going_stopped old now new start at names i going same root c above room =
    let g = going.gone root c above room in
    (g.d, told_same now new root g.d same g.told, g.back)

-- ---- the way to a path

module _ (e : Edges) (root : ℕ) (path : Names) where
  abbrev W : ℕ → Option ℕ
  W n = steps e (Some root) (take n path)

  pub W-suc : (n : ℕ) → n < length path → W (suc n) ≡ along e (W n) (get_or path n [])
  W-suc n lt = ap (steps e (Some root)) (take-suc path n [] lt) ∙ steps-append e (Some root) (take n path) (get_or path n [] ∷ [])

  -- where a path is reached, what is above it is
  pub reached : (d n there : ℕ) → n + d ≡ there → there ≤ length path → is_some (W there) ≡ true → is_some (W n) ≡ true
  reached zero n there is le found = let same : n ≡ there = omega arith in ap (λ k. is_some (W k)) same ∙ found
  reached (suc d) n there is le found = let lt : n < length path = omega arith in by (W n) refl (ap is_some (sym (W-suc n lt)) ∙ reached d (suc n) there (omega arith) le found)
    where
      by : (o : Option ℕ) → W n ≡ o → is_some (along e (W n) (get_or path n [])) ≡ true → is_some (W n) ≡ true
      by None none later = absurd (true≢false (sym later ∙ ap (λ o. is_some (along e o (get_or path n []))) none))
      by (Some k) some later = ap is_some some

  -- and where it is not, nothing beneath it is
  pub missed : (d n there : ℕ) → n ≡ there + d → n ≤ length path → W there ≡ None → W n ≡ None
  missed zero n there is le none = let same : n ≡ there = omega arith in ap W same ∙ none
  missed (suc d) n there is le none =
      let up : n ≡ suc (there + d) = omega arith in
      let lt : there + d < length path = omega arith in
      ap W up ∙ W-suc (there + d) lt ∙ ap (λ o. along e o (get_or path (there + d) [])) (missed d (there + d) there refl (omega arith) none)

-- the paths on the way down from the n-th
down_is : (d n : ℕ) (path : Names) → n + d ≡ length path → drop (suc n) (prefixes path) ≡ paths_down (take n path) (drop n path)
down_is zero n path is =
    none_left (suc n) path (omega arith) ∙ ap (paths_down (take n path)) (sym (past_end path n (omega arith)))
down_is (suc d) n path is =
    let lt : n < length path = omega arith in
    drop-prefixes (suc n) path (omega arith)
    ∙ ap (λ ps. take (suc n) path ∷ ps) (down_is d (suc n) path (omega arith))
    ∙ ap (λ p. p ∷ paths_down p (drop (suc n) path)) (take-suc path n [] lt)
    ∙ ap (paths_down (take n path)) (sym (drop-cons path n [] lt))

absent_is : (c : Content) (p : Names) → finite.get c p ≡ None → is_absent c p ≡ true
absent_is c p none = ap is_none none

module _ (s : Slab Place) (root : ℕ) (c : Content) (told : IsTold (edges_of s) (nodes_of s) root c) (path : Names) (at there : ℕ) (le : there ≤ length path)
    (leads : steps (edges_of s) (Some root) (take there path) ≡ Some at)
    (ends : there < length path → steps (edges_of s) (Some root) (take (there + 1) path) ≡ None) where
  ends_next : there < length path → steps (edges_of s) (Some root) (take (suc there) path) ≡ None
  ends_next lt = ap (λ k. steps (edges_of s) (Some root) (take k path)) (sym (add-one there)) ∙ ends lt

  holds_at : (n : ℕ) → finite.get c (take n path) ≡ standing (nodes_of s) (steps (edges_of s) (Some root) (take n path))
  holds_at n = told.holds (take n path)

  stands_to : (o : Option ℕ) (p : Names) → steps (edges_of s) (Some root) p ≡ o → is_some o ≡ true → is_some (standing (nodes_of s) o) ≡ true
  stands_to None p is some = absurd (true≢false (sym some))
  stands_to (Some k) p is some = told.live p k is

  there_up : (n : ℕ) → n ≤ there → is_some (finite.get c (take n path)) ≡ true
  there_up n h = ap is_some (holds_at n) ∙ stands_to (steps (edges_of s) (Some root) (take n path)) (take n path) refl (reached (edges_of s) root path (there - n) n there (omega arith) le (ap is_some leads))

  none_down : (n : ℕ) → there < n → n ≤ length path → finite.get c (take n path) ≡ None
  none_down n lt h = holds_at n ∙ ap (standing (nodes_of s)) (missed (edges_of s) root path (n - suc there) n (suc there) (omega arith) h (ends_next (omega arith)))

  -- where the way ends above a path, nothing is at the path
  pub none_there : there < length path → is_absent c path ≡ true
  none_there lt = absent_is c path (ap (finite.get c) (sym (take-length path)) ∙ none_down (length path) lt (omega arith))

  -- those that are absent are those further down
  skipped : (d n : ℕ) → n + d ≡ suc there → with_dirs c (filter (is_absent c) (drop n (prefixes path))) ≡ with_dirs c (filter (is_absent c) (drop (suc there) (prefixes path)))
  skipped zero n is = let same : n ≡ suc there = omega arith in ap (λ k. with_dirs c (filter (is_absent c) (drop k (prefixes path)))) same
  skipped (suc d) n is =
      sym (there_first c n path (omega arith) (there_up n (omega arith)))
      ∙ ap (λ k. with_dirs c (filter (is_absent c) (drop k (prefixes path)))) (add-one n)
      ∙ skipped d (suc n) (omega arith)

  all_absent : (d n : ℕ) → n + d ≡ suc (length path) → there < n → filter (is_absent c) (drop n (prefixes path)) ≡ drop n (prefixes path)
  all_absent zero n is lt = let none = none_left n path (omega arith) in ap (filter (is_absent c)) none ∙ sym none
  all_absent (suc d) n is lt =
      let first = drop-prefixes n path (omega arith) in
      ap (filter (is_absent c)) first
      ∙ ap (λ b. cond b (take n path ∷ filter (is_absent c) (drop (suc n) (prefixes path))) (filter (is_absent c) (drop (suc n) (prefixes path)))) (absent_is c (take n path) (none_down n lt (omega arith)))
      ∙ ap (λ ps. take n path ∷ ps) (all_absent d (suc n) (omega arith) (omega arith))
      ∙ sym first

  pub made_is : with_dirs c (paths_down (take there path) (drop there path)) ≡ with_dirs c (filter (is_absent c) (prefixes path))
  made_is =
      ap (with_dirs c) (sym (down_is (length path - there) there path (omega arith)))
      ∙ ap (with_dirs c) (sym (all_absent (length path - there) (suc there) (omega arith) (omega arith)))
      ∙ sym (skipped (suc there) 0 (omega arith))

  -- ---- how many are missing

  missing_all : (d n : ℕ) → n + d ≡ suc (length path) → there < n → missing_count c (drop n (prefixes path)) ≡ Some d
  missing_all zero n is lt = ap (missing_count c) (none_left n path (omega arith))
  missing_all (suc d) n is lt =
      count_first c n path (omega arith)
      ∙ ap (λ o. counted o (missing_count c (drop (n + 1) (prefixes path)))) (none_down n lt (omega arith))
      ∙ ap (λ k. counted None (missing_count c (drop k (prefixes path)))) (add-one n)
      ∙ ap (counted None) (missing_all d (suc n) (omega arith) (omega arith))
      ∙ ap Some (add-one d)

  counted_dir : (o : Option ℕ) → counted (Some Dir) o ≡ o
  counted_dir None = refl
  counted_dir (Some m) = refl

  dirs_skipped : IsTree c → (d n : ℕ) → n + d ≡ there → missing_count c (drop n (prefixes path)) ≡ missing_count c (drop there (prefixes path))
  dirs_skipped tree zero n is = let same : n ≡ there = omega arith in ap (λ k. missing_count c (drop k (prefixes path))) same
  dirs_skipped tree (suc d) n is =
      let lt : n < length path = omega arith in
      let dir : finite.get c (take n path) ≡ Some Dir = tree.parents (take n path) (get_or path n []) (ap (λ p. is_some (finite.get c p)) (sym (take-suc path n [] lt)) ∙ there_up (suc n) (omega arith)) in
      count_first c n path (omega arith)
      ∙ ap (λ o. counted o (missing_count c (drop (n + 1) (prefixes path)))) dir
      ∙ counted_dir (missing_count c (drop (n + 1) (prefixes path)))
      ∙ ap (λ k. missing_count c (drop k (prefixes path))) (add-one n)
      ∙ dirs_skipped tree d (suc n) (omega arith)

  missing_here : IsTree c → missing_count c (prefixes path) ≡ counted (nodes_of s at) (Some (length path - there))
  missing_here tree =
      dirs_skipped tree there 0 (omega arith)
      ∙ count_first c there path le
      ∙ ap (λ o. counted o (missing_count c (drop (there + 1) (prefixes path)))) (holds_at there ∙ ap (standing (nodes_of s)) leads)
      ∙ ap (λ k. counted (nodes_of s at) (missing_count c (drop k (prefixes path)))) (add-one there)
      ∙ ap (counted (nodes_of s at)) (missing_all (length path - there) (suc there) (omega arith) (omega arith))

  pub missing_dir : IsTree c → nodes_of s at ≡ Some Dir → Some (length path - there) ≡ missing_count c (prefixes path)
  missing_dir tree is = sym (missing_here tree ∙ ap (λ o. counted o (Some (length path - there))) is)

  pub missing_file : IsTree c → (bytes : List ℕ) (closed : Bool) → nodes_of s at ≡ Some (File bytes closed) → None ≡ missing_count c (prefixes path)
  missing_file tree bytes closed is = sym (missing_here tree ∙ ap (λ o. counted o (Some (length path - there))) is)

  pub has_room : there < length path → HasRoom s root c (take there path) at (drop there path)
  has_room lt = record {
    told = told;
    leads = leads;
    free =
        ap (λ xs. steps (edges_of s) (Some root) (take there path ++ take 1 xs)) (drop-cons path there [] lt)
        ∙ ap (steps (edges_of s) (Some root)) (sym (take-suc path there [] lt))
        ∙ ends_next lt;
  }

  -- the first of them
  pub first_made : there < length path → take (there + 1) path ≡ take there path ++ take 1 (drop there path)
  first_made lt = ap (λ k. take k path) (add-one there) ∙ take-suc path there [] lt ∙ ap (λ xs. take there path ++ take 1 xs) (sym (drop-cons path there [] lt))

  -- all of them are there
  pub made_none : length path ≤ there → c ≡ with_dirs c (filter (is_absent c) (prefixes path))
  made_none past = ap (λ xs. with_dirs c (paths_down (take there path) xs)) (sym (past_end path there past)) ∙ made_is

pub same_graph : (s : Slab Place) → SameGraph s s
same_graph s = record { edges = λ key name. refl; nodes = λ key. refl }

-- one name further
pub one_more : (e : Edges) (root : ℕ) (path : Names) (n at : ℕ) (name : List ℕ) (o : Option ℕ) → n < length path → name ≡ get_or path n name → steps e (Some root) (take n path) ≡ Some at → o ≡ e at name → steps e (Some root) (take (n + 1) path) ≡ o
one_more e root path n at name o lt is leads edge =
    ap (λ k. steps e (Some root) (take k path)) (add-one n)
    ∙ ap (steps e (Some root)) (take-suc path n name lt)
    ∙ steps-append e (Some root) (take n path) (get_or path n name ∷ [])
    ∙ ap (λ x. along e (steps e (Some root) (take n path)) x) (sym is)
    ∙ ap (λ x. along e x name) leads ∙ sym edge

take_whole : (xs : Names) (n : ℕ) → length xs ≤ n → take n xs ≡ xs
take_whole [] zero le = refl
take_whole [] (suc n) le = refl
take_whole (x ∷ xs) zero le = absurd (omega arith)
take_whole (x ∷ xs) (suc n) le = ap (λ ys. x ∷ ys) (take_whole xs n (omega arith))

-- what is left of a path
pub left_is : (path : Names) (n : ℕ) → take (length path - n) (drop n path) ≡ drop n path
left_is path n = take_whole (drop n path) (length path - n) (omega (arith, length-drop n path))
