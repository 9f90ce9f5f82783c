-- There are as many nodes as entries.
use Rattle.std.proofs.Common.{◌≡◌, ◌≢◌, ℕ, ◌+◌, ◌<◌, Bool, true, false, cond, ◌||◌, ◌&&◌, List, [], ◌∷◌, map, length, get_or, refl, sym, ap, ◌∙◌, subst, Option, Some, None, is_some, unwrap_or, true≢false, inl, inr, arith, nat_eq, zero, suc}
use Rattle.std.specs.Prelude.{T}
use Rattle.std.specs.Ordering.{is_lt}
use Rattle.std.specs.Cmp.{tied_itself}
use Rattle.std.specs.List.{AllByRecursion, IsDistinct}
use Rattle.std.specs.Set.{is_member}
use Rattle.std.specs.FinMap as finite
use Rattle.std.specs.FinMap.Entries.{find, is_sorted, below_all}
use Rattle.std.proofs.lemmas.Bool.Decides.{eqb_tells}
use Rattle.std.proofs.lemmas.List.{length-map}
use Rattle.std.proofs.lemmas.Map.Made.{length-from_same_keys}
use Rattle.std.proofs.lemmas.Cmp.{nat_eq_equiv}
use Rattle.std.specs.Option.{option_map}
use Rattle.slab.specs.Slab.{Slab, get, slab_len, entries_from}
use Rattle.slab.proofs.SlabLemmas.{length-entries_from}
use Rattle.mr_paths.specs.Path.{path_cmp, path_total}
use Rattle.mr_names_tree.specs.declared.node.Node.{Node}
use Rattle.mr_names_tree.specs.declared.place.Place.{Place}
use Rattle.mr_names_tree.specs.Content.{Content}
use Rattle.mr_names_tree.specs.inner.Tree.{Edges, steps, standing, IsTold, edges_of, nodes_of}
use Rattle.mr_names_tree.proofs.ContentLaws.{same, same_path, same_itself}
use Rattle.mr_names_tree.proofs.LastNames.{Names}
use Rattle.mr_names_tree.proofs.Walks.{there}

-- ---- the keys of a slab

same_number : (a b : ℕ) → a ≡ b → nat_eq a b ≡ true
same_number a b e = elim (eqb_tells a b) [ inl here ↦ here.0 | inr other ↦ absurd (other.1 e) ]

other_number : (a b : ℕ) → a ≢ b → nat_eq a b ≡ false
other_number a b apart = elim (eqb_tells a b) [ inl here ↦ absurd (apart here.1) | inr other ↦ other.0 ]

numbers_are : (a b : ℕ) → nat_eq a b ≡ true → a ≡ b
numbers_are a b e = elim (eqb_tells a b) [ inl here ↦ here.1 | inr other ↦ absurd (true≢false (sym e ∙ other.0)) ]

abbrev keys_from : ℕ → List (Option Place) → List ℕ
keys_from b slots = map (λ (e : ℕ × Place). e.0) (entries_from b slots)

-- a key before the first is none of them
before : (b k : ℕ) (slots : List (Option Place)) → k < b → is_member nat_eq (keys_from b slots) k ≡ false
before b k [] lt = refl
before b k (None ∷ slots) lt = before (b + 1) k slots (omega arith)
before b k (Some v ∷ slots) lt = let apart : k ≢ b = omega arith in rw (other_number k b apart) (before (b + 1) k slots (omega arith))

member_at : (b k j : ℕ) (slots : List (Option Place)) → j ≡ b + k → is_member nat_eq (keys_from b slots) j ≡ is_some (get_or slots k None)
member_at b k j [] is = refl
member_at b zero j (None ∷ slots) is = before (b + 1) j slots (omega arith)
member_at b (suc k) j (None ∷ slots) is = member_at (b + 1) k j slots (omega arith)
member_at b zero j (Some v ∷ slots) is = let here : j ≡ b = omega arith in rw (same_number j b here) refl
member_at b (suc k) j (Some v ∷ slots) is = let apart : j ≢ b = omega arith in rw (other_number j b apart) (member_at (b + 1) k j slots (omega arith))

above : (b k : ℕ) (slots : List (Option Place)) → k < b → AllByRecursion (λ j. nat_eq k j ≡ false) (keys_from b slots)
above b k [] lt = tt
above b k (None ∷ slots) lt = above (b + 1) k slots (omega arith)
above b k (Some v ∷ slots) lt = (other_number k b (let apart : k ≢ b = omega arith in apart), above (b + 1) k slots (omega arith))

keys_distinct : (b : ℕ) (slots : List (Option Place)) → IsDistinct nat_eq (keys_from b slots)
unfolding IsDistinct
keys_distinct b [] = tt
keys_distinct b (None ∷ slots) = keys_distinct (b + 1) slots
keys_distinct b (Some v ∷ slots) = (above (b + 1) b slots (omega arith), keys_distinct (b + 1) slots)

-- ---- the nodes to which the entries' paths lead

first : (a b : Bool) → T (a && b) → T a
first true b p = tt
first false b p = p

second : (a b : Bool) → T (a && b) → T b
second true b p = p
second false b p = absurd p

found_later : (b : Bool) (v : Node) (o : Option Node) → is_some o ≡ true → is_some (cond b (Some v) o) ≡ true
found_later true v o e = refl
found_later false v o e = e

or_later : (a b : Bool) → b ≡ true → (a || b) ≡ true
or_later true b e = refl
or_later false b e = e

not_less : (p : Names) → T (is_lt (path_cmp p p)) → ⊥
not_less p h = subst (λ o. T (is_lt o)) (tied_itself path_total p) h

module _ (e : Edges) (nodes : ℕ → Option Node) (root : ℕ) (c : Content) (told : IsTold e nodes root c) where
  abbrev D : Names → Option ℕ
  D p = steps e (Some root) p

  abbrev key_of : Names → ℕ
  key_of p = unwrap_or (D p) 0

  abbrev keys_of : List (Names × Node) → List ℕ
  keys_of es = map (λ (x : Names × Node). key_of x.0) es

  -- each of these paths leads to a node
  abbrev Lead : List (Names × Node) → Type 0
  Lead es = (q : Names) → is_some (find path_cmp q es) ≡ true → D q ≡ Some (key_of q)

  leads_all : Lead (finite.entries c)
  leads_all q found =
      let v = there e nodes root c told q (ap is_some (finite.get-entries c q) ∙ found) in
      v.1 ∙ ap Some (sym (ap (λ o. unwrap_or o 0) v.1))

  leads_later : (x : Names × Node) (es : List (Names × Node)) → Lead (x ∷ es) → Lead es
  leads_later x es lead = λ q found. lead q (found_later (same q x.0) x.1 (find path_cmp q es) found)

  leads_first : (x : Names × Node) (es : List (Names × Node)) → Lead (x ∷ es) → D x.0 ≡ Some (key_of x.0)
  leads_first x es lead = lead x.0 (rw (same_itself x.0) refl)

  apart_from : (p : Names) → D p ≡ Some (key_of p) → (es : List (Names × Node)) → T (below_all path_cmp p es) → Lead es → AllByRecursion (λ k. nat_eq (key_of p) k ≡ false) (keys_of es)
  apart_from p leads [] h lead = tt
  apart_from p leads (x ∷ es) h lead = (
    other_number (key_of p) (key_of x.0) (λ is.
        let one : p ≡ x.0 = told.one p x.0 (key_of p) leads (leads_first x es lead ∙ ap Some (sym is)) in
        not_less p (subst (λ q. T (is_lt (path_cmp p q))) (sym one) (first _ _ h))),
    apart_from p leads es (second _ _ h) (leads_later x es lead),
  )

  distinct : (es : List (Names × Node)) → T (is_sorted path_cmp es) → Lead es → IsDistinct nat_eq (keys_of es)
  unfolding IsDistinct
  distinct [] h lead = tt
  distinct (x ∷ es) h lead = (apart_from x.0 (leads_first x es lead) es (first _ _ h) (leads_later x es lead), distinct es (second _ _ h) (leads_later x es lead))

  member_stands : (k : ℕ) (es : List (Names × Node)) → Lead es → is_member nat_eq (keys_of es) k ≡ true → is_some (nodes k) ≡ true
  member_stands k [] lead m = absurd (true≢false (sym m))
  member_stands k (x ∷ es) lead m = by (nat_eq k (key_of x.0)) refl m (member_stands k es (leads_later x es lead))
    where
      by : (b : Bool) → nat_eq k (key_of x.0) ≡ b → (b || is_member nat_eq (keys_of es) k) ≡ true → (is_member nat_eq (keys_of es) k ≡ true → is_some (nodes k) ≡ true) → is_some (nodes k) ≡ true
      by true is m later = ap (λ j. is_some (nodes j)) (numbers_are k (key_of x.0) is) ∙ told.live x.0 (key_of x.0) (leads_first x es lead)
      by false is m later = later m

  path_counts : (p : Names) (es : List (Names × Node)) → is_some (find path_cmp p es) ≡ true → is_member nat_eq (keys_of es) (key_of p) ≡ true
  path_counts p [] found = absurd (true≢false (sym found))
  path_counts p (x ∷ es) found = by (same p x.0) refl found (path_counts p es)
    where
      by : (b : Bool) → same p x.0 ≡ b → is_some (cond b (Some x.1) (find path_cmp p es)) ≡ true → (is_some (find path_cmp p es) ≡ true → is_member nat_eq (keys_of es) (key_of p) ≡ true)
          → (nat_eq (key_of p) (key_of x.0) || is_member nat_eq (keys_of es) (key_of p)) ≡ true
      by true is found later = rw (same_number (key_of p) (key_of x.0) (ap key_of (same_path p x.0 is))) refl
      by false is found later = or_later (nat_eq (key_of p) (key_of x.0)) _ (later found)

  listed : (p : Names) (k : ℕ) → D p ≡ Some k → is_some (find path_cmp p (finite.entries c)) ≡ true
  listed p k leads = ap is_some (sym (finite.get-entries c p)) ∙ ap is_some (told.holds p ∙ ap (standing nodes) leads) ∙ told.live p k leads

  members : (k : ℕ) → is_member nat_eq (keys_of (finite.entries c)) k ≡ is_some (nodes k)
  members k = by (is_member nat_eq (keys_of (finite.entries c)) k) (is_some (nodes k)) refl refl
    where
      by : (a b : Bool) → is_member nat_eq (keys_of (finite.entries c)) k ≡ a → is_some (nodes k) ≡ b → a ≡ b
      by true true m s = refl
      by false false m s = refl
      by true false m s = absurd (true≢false (sym (member_stands k (finite.entries c) leads_all m) ∙ s))
      by false true m s = absurd (told.kept k s (λ p leads.
          true≢false (sym (path_counts p (finite.entries c) (listed p k leads)) ∙ ap (is_member nat_eq (keys_of (finite.entries c))) (ap (λ o. unwrap_or o 0) leads) ∙ m)))

  pub as_many : (keys : List ℕ) → IsDistinct nat_eq keys → ((k : ℕ) → is_member nat_eq keys k ≡ is_some (nodes k)) → length keys ≡ finite.len c
  as_many keys once are =
      length-from_same_keys nat_eq_equiv keys (keys_of (finite.entries c)) once (distinct (finite.entries c) (finite.entries_sorted c) leads_all) (λ k. are k ∙ sym (members k))
      ∙ length-map (finite.entries c) (λ (x : Names × Node). key_of x.0) ∙ sym (finite.len-entries c)

some_node : (o : Option Place) → is_some o ≡ is_some (option_map (λ (p : Place). p.node) o)
some_node None = refl
some_node (Some p) = refl

-- a slab that holds a content has as many values as the content has entries
pub len_is : (s : Slab Place) (root : ℕ) (c : Content) → IsTold (edges_of s) (nodes_of s) root c → slab_len s ≡ finite.len c
len_is s root c told =
    sym (length-entries_from 0 s.slots) ∙ sym (length-map (entries_from 0 s.slots) (λ (e : ℕ × Place). e.0))
    ∙ as_many (edges_of s) (nodes_of s) root c told (keys_from 0 s.slots) (keys_distinct 0 s.slots) (λ k. member_at 0 k k s.slots (omega arith) ∙ some_node (get s k))
