-- What is beneath a path, as it is taken out entry by entry.
use Rattle.std.proofs.Common.{◌≡◌, ℕ, Bool, true, false, cond, List, [], ◌∷◌, ◌++◌, append_assoc, append-nil, subst, refl, sym, ap, ◌∙◌, Option, Some, None, is_some, true≢false, inl, inr, arith, ◌+◌, ◌-◌, ◌≢◌, ◌<◌, ◌≤◌}
use Rattle.std.proofs.lemmas.Bool.Decides.{eqb_tells}
use Rattle.std.proofs.Math.Dec.{eqb}
use Rattle.std.specs.FinMap as finite
use Rattle.std.specs.FinMap.Entries.{find}
use Rattle.mr_paths.specs.Path.{path_cmp, path_total, path_exact, strip}
use Rattle.mr_paths.proofs.Paths.{strip-append, append-strip}
use Rattle.mr_names_tree.specs.declared.node.Node.{Node}
use Rattle.mr_names_tree.specs.Content.{Content, within, without, without_one}
use Rattle.mr_names_tree.specs.inner.Tree.{Edges, along, steps, standing, IsTold}
use Rattle.mr_names_tree.proofs.ContentLaws.{get-without_one, same, same_path, get-without}
use Rattle.mr_names_tree.proofs.LastNames.{Names}
use Rattle.mr_names_tree.proofs.Walks.{steps-append, steps-none, absent}

some_of : (o : Option Names) → is_some o ≡ true → (r : Names) × (o ≡ Some r)
some_of None e = absurd (true≢false (sym e))
some_of (Some r) e = (r, refl)

no_self : (x : Names) (n : List ℕ) (r : Names) → x ≡ x ++ (n ∷ r) → ⊥
no_self [] n r e = cc
no_self (y ∷ x) n r e = let tails : x ≡ x ++ (n ∷ r) = cc in no_self x n r tails

-- what is beneath a path is beneath the one above it
pub within_up : (p q : Names) (n : List ℕ) → within (p ++ n ∷ []) q ≡ true → within p q ≡ true
within_up p q n e =
    let v = some_of (strip (p ++ n ∷ []) q) e in
    let whole : q ≡ p ++ (n ∷ v.0) = append-strip (p ++ n ∷ []) q v.0 v.1 ∙ append_assoc p (n ∷ []) v.0 in
    ap (within p) whole ∙ ap is_some (strip-append p (n ∷ v.0))

pub not_longer : (p : Names) (n : List ℕ) → within (p ++ n ∷ []) p ≡ false
not_longer p n = by (strip (p ++ n ∷ []) p) refl
  where
    by : (o : Option Names) → strip (p ++ n ∷ []) p ≡ o → within (p ++ n ∷ []) p ≡ false
    by None is = ap is_some is
    by (Some r) is = absurd (no_self p n r (append-strip (p ++ n ∷ []) p r is ∙ append_assoc p (n ∷ []) r))

pub within_itself : (p : Names) → within p p ≡ true
within_itself p = ap (within p) (sym (append-nil p)) ∙ ap is_some (strip-append p [])

-- how many entries are at and beneath a path
abbrev pub beneath : Names → List (Names × Node) → ℕ
beneath p [] = 0
beneath p (e ∷ es) = cond (within p e.0) 1 0 + beneath p es

fewer : (a b : Bool) → (a ≡ true → b ≡ true) → (x y : ℕ) → x ≤ y → cond a 1 0 + x ≤ cond b 1 0 + y
fewer true true h x y le = omega arith
fewer true false h x y le = absurd (true≢false (sym (h refl)))
fewer false true h x y le = omega arith
fewer false false h x y le = omega arith

fewer_still : (a b : Bool) → (a ≡ true → b ≡ true) → (x y : ℕ) → x < y → cond a 1 0 + x < cond b 1 0 + y
fewer_still true true h x y lt = omega arith
fewer_still true false h x y lt = absurd (true≢false (sym (h refl)))
fewer_still false true h x y lt = omega arith
fewer_still false false h x y lt = omega arith

beneath_up : (p : Names) (n : List ℕ) (es : List (Names × Node)) → beneath (p ++ n ∷ []) es ≤ beneath p es
beneath_up p n [] = omega arith
beneath_up p n (e ∷ es) = fewer (within (p ++ n ∷ []) e.0) (within p e.0) (within_up p e.0 n) (beneath (p ++ n ∷ []) es) (beneath p es) (beneath_up p n es)

-- one name further down fewer are
pub beneath_falls : (p : Names) (n : List ℕ) (es : List (Names × Node)) → is_some (find path_cmp p es) ≡ true → beneath (p ++ n ∷ []) es < beneath p es
beneath_falls p n [] found = absurd (true≢false (sym found))
beneath_falls p n (e ∷ es) found = by (beneath_falls p n es) (same p e.0) refl found
  where
    ends : (a b : Bool) → a ≡ false → b ≡ true → (x y : ℕ) → x ≤ y → cond a 1 0 + x < cond b 1 0 + y
    ends true b f t x y le = absurd (true≢false f)
    ends false true f t x y le = omega arith
    ends false false f t x y le = absurd (true≢false (sym t))

    by : (is_some (find path_cmp p es) ≡ true → beneath (p ++ n ∷ []) es < beneath p es) → (b : Bool) → same p e.0 ≡ b → is_some (cond b (Some e.1) (find path_cmp p es)) ≡ true → cond (within (p ++ n ∷ []) e.0) 1 0 + beneath (p ++ n ∷ []) es < cond (within p e.0) 1 0 + beneath p es
    by later true is found =
        let here : p ≡ e.0 = same_path p e.0 is in
        ends (within (p ++ n ∷ []) e.0) (within p e.0) (ap (within (p ++ n ∷ [])) (sym here) ∙ not_longer p n) (ap (within p) (sym here) ∙ within_itself p) (beneath (p ++ n ∷ []) es) (beneath p es) (beneath_up p n es)
    by later false is found = fewer_still (within (p ++ n ∷ []) e.0) (within p e.0) (within_up p e.0 n) (beneath (p ++ n ∷ []) es) (beneath p es) (later found)

-- ---- the path of a node

abbrev pub is_to : Option ℕ → ℕ → Bool
is_to None key = false
is_to (Some k) key = eqb k key

is_to-is : (o : Option ℕ) (key : ℕ) → is_to o key ≡ true → o ≡ Some key
is_to-is None key e = absurd (true≢false (sym e))
is_to-is (Some k) key e = elim (eqb_tells k key) [ inl here ↦ ap Some here.1 | inr other ↦ absurd (true≢false (sym e ∙ other.0)) ]

is_to-itself : (key : ℕ) → is_to (Some key) key ≡ true
is_to-itself key = elim (eqb_tells key key) [ inl here ↦ here.0 | inr other ↦ absurd (other.1 refl) ]

-- the first path among the entries' that leads to a node
abbrev pub path_to : (Names → Option ℕ) → List (Names × Node) → ℕ → Names
path_to F [] key = []
path_to F (e ∷ es) key = cond (is_to (F e.0) key) e.0 (path_to F es key)

pub path_to-is : (F : Names → Option ℕ) (es : List (Names × Node)) (key : ℕ) (p : Names) → F p ≡ Some key → ((q : Names) → F q ≡ Some key → q ≡ p) → is_some (find path_cmp p es) ≡ true → path_to F es key ≡ p
path_to-is F [] key p leads one found = absurd (true≢false (sym found))
path_to-is F (e ∷ es) key p leads one found = by (path_to-is F es key p leads one) (is_to (F e.0) key) refl
  where
    by : (is_some (find path_cmp p es) ≡ true → path_to F es key ≡ p) → (b : Bool) → is_to (F e.0) key ≡ b → cond b e.0 (path_to F es key) ≡ p
    by later true is = one e.0 (is_to-is (F e.0) key is)
    by later false is = later (on (same p e.0) refl found)
      where
        on : (d : Bool) → same p e.0 ≡ d → is_some (cond d (Some e.1) (find path_cmp p es)) ≡ true → is_some (find path_cmp p es) ≡ true
        on true here _ = absurd (true≢false (sym (ap (λ o. is_to o key) (ap F (sym (same_path p e.0 here)) ∙ leads) ∙ is_to-itself key) ∙ is))
        on false other found = found

-- ---- the way down, and entry after entry taken out

module _ (e : Edges) (nodes : ℕ → Option Node) (root : ℕ) (c : Content) (told : IsTold e nodes root c) where
  abbrev D : Names → Option ℕ
  D p = steps e (Some root) p

  -- what is left beneath a node
  abbrev pub depth : ℕ → ℕ
  depth key = beneath (path_to D (finite.entries c) key) (finite.entries c)

  listed : (p : Names) (key : ℕ) → D p ≡ Some key → is_some (find path_cmp p (finite.entries c)) ≡ true
  listed p key leads = ap is_some (sym (finite.get-entries c p)) ∙ ap is_some (told.holds p ∙ ap (standing nodes) leads) ∙ told.live p key leads

  path_is : (p : Names) (key : ℕ) → D p ≡ Some key → path_to D (finite.entries c) key ≡ p
  path_is p key leads = path_to-is D (finite.entries c) key p leads (λ q also. told.one q p key also leads) (listed p key leads)

  -- along an edge, less is left
  pub depth_falls : (p : Names) (n : List ℕ) (key next : ℕ) → D p ≡ Some key → e key n ≡ Some next → depth next < depth key
  depth_falls p n key next leads edge =
      let more : D (p ++ n ∷ []) ≡ Some next = steps-append e (Some root) p (n ∷ []) ∙ ap (λ o. along e o n) leads ∙ edge in
      subst (λ q. beneath q (finite.entries c) < depth key) (sym (path_is (p ++ n ∷ []) next more))
      (subst (λ q. beneath (p ++ n ∷ []) (finite.entries c) < beneath q (finite.entries c)) (sym (path_is p key leads)) (beneath_falls p n (finite.entries c) (listed p key leads)))

  -- where nothing is at a path, nothing is beneath it
  pub all_gone : (top : Names) → finite.get c top ≡ None → without top c ≡ c
  all_gone top none = finite.same_map path_total path_exact _ _ (λ q. get-without top c q ∙ by q (strip top q) refl)
    where
      by : (q : Names) (o : Option Names) → strip top q ≡ o → cond (is_some o) None (finite.get c q) ≡ finite.get c q
      by q None is = refl
      by q (Some r) is =
          sym (told.holds q ∙ ap (standing nodes) (ap D (append-strip top q r is) ∙ steps-append e (Some root) top r ∙ ap (λ o. steps e o r) (absent e nodes root c told top none) ∙ steps-none e r))

-- an entry beneath a path taken out first
pub one_first : (top leaf : Names) (c : Content) → within top leaf ≡ true → without top (without_one leaf c) ≡ without top c
one_first top leaf c inside = finite.same_map path_total path_exact _ _ (λ q.
    get-without top (without_one leaf c) q ∙ ap (cond (within top q) None) (get-without_one c leaf q) ∙ by q (within top q) refl (same q leaf) refl ∙ sym (get-without top c q))
  where
    by : (q : Names) (w : Bool) → within top q ≡ w → (b : Bool) → same q leaf ≡ b → cond w None (cond b None (finite.get c q)) ≡ cond w None (finite.get c q)
    by q true under b is = refl
    by q false out true is = absurd (true≢false (sym inside ∙ ap (within top) (sym (same_path q leaf is)) ∙ out))
    by q false out false is = refl

-- and then there are fewer
pub len_falls : (leaf : Names) (c : Content) → is_some (finite.get c leaf) ≡ true → finite.len (without_one leaf c) < finite.len c
len_falls leaf c found =
    let removed : without_one leaf c ≡ finite.remove c leaf = finite.same_map path_total path_exact _ _ (λ q. get-without_one c leaf q ∙ sym (finite.get-remove path_total c leaf q)) in
    let less : finite.len (without_one leaf c) ≡ finite.len c - 1 = ap finite.len removed ∙ finite.len-remove path_total c leaf ∙ ap (λ b. cond b (finite.len c - 1) (finite.len c)) found in
    elim (eqb_tells (finite.len c) 0) [
      | inl none ↦ absurd (true≢false (sym found ∙ ap (λ m. is_some (finite.get m leaf)) (finite.empty_of_len c none.1) ∙ ap is_some (finite.get-empty path_cmp leaf)))
      | inr some ↦ let apart : finite.len c ≢ 0 = some.1 in omega (arith, less)
    ]
