-- A delete from below, entry after entry.
use Rattle.std.proofs.Common.{◌≡◌, ℕ, true, List, [], ◌∷◌, ◌++◌, append_assoc, append-nil, inl, inr, refl, sym, ap, ◌∙◌, subst, Option, Some, None, is_some, true≢false, ◌<◌, ◌≤◌, arith}
use Rattle.std.specs.Prelude.{IfSome}
use Rattle.std.proofs.lemmas.Bool.Decides.{eqb_tells}
use Rattle.std.specs.Option.{option_map}
use Rattle.std.specs.FinMap as finite
use Rattle.slab.specs.Slab.{Slab}
use Rattle.mr_paths.specs.Path.{strip}
use Rattle.mr_paths.proofs.Paths.{strip-append, append-strip}
use Rattle.mr_names_tree.specs.declared.place.Place.{Place}
use Rattle.mr_names_tree.specs.Content.{Content, within, without, without_one}
use Rattle.mr_names_tree.specs.inner.Tree.{along, steps, standing, edges_of, nodes_of, IsTold, Held, NodeCut, CutBeneath, first_edge}
use Rattle.mr_names_tree.proofs.LastNames.{Names, snoc_same}
use Rattle.mr_names_tree.proofs.Walks.{steps-append}
use Rattle.mr_names_tree.proofs.Graph.{content_is, told_cut, cut_stays, first_is, first_none, first_stands}
use Rattle.mr_names_tree.proofs.Beneath.{one_first, len_falls, all_gone}

-- where an edge leads, or that it does not
pub opt_none : (o : Option (List ℕ × ℕ)) → option_map (λ (e : List ℕ × ℕ). e.1) o ≡ None → o ≡ None
opt_none None e = refl
opt_none (Some x) e = absurd (cc)

pub opt_some : (o : Option (List ℕ × ℕ)) (key : ℕ) → option_map (λ (e : List ℕ × ℕ). e.1) o ≡ Some key → (name : List ℕ) × (o ≡ Some (name, key))
opt_some None key e = absurd (cc)
opt_some (Some x) key e = let same : x.1 ≡ key = cc in (x.0, λ i. Some (x.0, same i))

pub within_more : (top p : Names) (n : List ℕ) → within top p ≡ true → within top (p ++ n ∷ []) ≡ true
within_more top p n e = by (strip top p) refl
  where
    by : (o : Option Names) → strip top p ≡ o → within top (p ++ n ∷ []) ≡ true
    by None is = absurd (true≢false (sym e ∙ ap is_some is))
    by (Some r) is = ap (λ x. within top (x ++ n ∷ [])) (append-strip top p r is) ∙ ap (within top) (append_assoc top r (n ∷ [])) ∙ ap is_some (strip-append top (r ++ n ∷ []))

module _ (s : Slab Place) (root : ℕ) (c : Content) (told : IsTold (edges_of s) (nodes_of s) root c) where
  abbrev E : Names → Option ℕ
  E p = steps (edges_of s) (Some root) p

  pub leads_on : (p : Names) (n : List ℕ) (at key : ℕ) → E p ≡ Some at → edges_of s at n ≡ Some key → E (p ++ n ∷ []) ≡ Some key
  leads_on p n at key leads edge = steps-append (edges_of s) (Some root) p (n ∷ []) ∙ ap (λ o. along (edges_of s) o n) leads ∙ edge

  -- nothing is at a path to which no edge leads
  pub gone_already : (above top : Names) (name : List ℕ) → top ≡ above ++ name ∷ [] → along (edges_of s) (E above) name ≡ None → (old : Content) → c ≡ old → old ≡ without top old
  gone_already above top name is none old same =
      let nothing : finite.get c top ≡ None = told.holds top ∙ ap (standing (nodes_of s)) (ap E is ∙ steps-append (edges_of s) (Some root) above (name ∷ []) ∙ none) in
      subst (λ m. m ≡ without top m) same (sym (all_gone (edges_of s) (nodes_of s) root c told top nothing))

  pub reached : (p : Names) (key : ℕ) → E p ≡ Some key → is_some (finite.get c p) ≡ true
  reached p key leads = ap is_some (told.holds p ∙ ap (standing (nodes_of s)) leads) ∙ told.live p key leads

  -- what is left once a leaf is out
  pub one_less : (t : Slab Place) (held : Held t root) (old : Content) (top leaf : Names) (key : ℕ) → IsTold (edges_of t) (nodes_of t) root (without_one leaf c) → c ≡ old → within top leaf ≡ true → E leaf ≡ Some key
      → (without top held.0 ≡ without top old) × (finite.len held.0 < finite.len old)
  one_less t held old top leaf key after same inside leads =
      let is = content_is t root held (without_one leaf c) after in (
        ap (without top) is ∙ one_first top leaf c inside ∙ ap (without top) same,
        subst (λ m. finite.len m < finite.len old) (sym is) (subst (λ m. finite.len (without_one leaf c) < finite.len m) same (len_falls leaf c (reached leaf key leads))),
      )

  -- the lowest entry by first names is cut
  pub lowest_cut : (t : Slab Place) (p : Names) (n : List ℕ) (at first : ℕ) → E p ≡ Some at → first_edge s at ≡ Some (n, first) → first_edge s first ≡ None → IfSome (first_edge s at) (λ e. NodeCut s t at e.0 e.1)
      → IsTold (edges_of t) (nodes_of t) root (without_one (p ++ n ∷ []) c)
  lowest_cut t p n at first leads edge none cut =
      told_cut s t root at first c p (p ++ n ∷ []) n told refl leads (first_is s at first n edge) (first_none s first none) (subst (λ o. IfSome o (λ e. NodeCut s t at e.0 e.1)) edge cut)

-- ---- entry after entry, from below

-- the last name of a path beneath another
last_name : (n : List ℕ) (r : Names) → (s : Names) × (m : List ℕ) × (n ∷ r ≡ s ++ m ∷ [])
last_name n [] = ([], n, refl)
last_name n (m ∷ r) = let v = last_name m r in (n ∷ v.0, v.1, ap (λ x. n ∷ x) v.2)

further : (t p : Names) → within t p ≡ true → (p ≡ t → ⊥) → (q : Names) × (m : List ℕ) × (p ≡ q ++ m ∷ []) × (within t q ≡ true)
further t p inside apart = by (strip t p) refl
  where
    by : (o : Option Names) → strip t p ≡ o → (q : Names) × (m : List ℕ) × (p ≡ q ++ m ∷ []) × (within t q ≡ true)
    by None is = absurd (true≢false (sym inside ∙ ap is_some is))
    by (Some []) is = absurd (apart (append-strip t p [] is ∙ append-nil t))
    by (Some (n ∷ r)) is =
        let v = last_name n r in
        (t ++ v.0, v.1, append-strip t p (n ∷ r) is ∙ ap (λ x. t ++ x) v.2 ∙ sym (append_assoc t v.0 (v.1 ∷ [])), ap is_some (strip-append t v.0))

no_self : (x : Names) (n : List ℕ) (r : Names) → x ≡ x ++ (n ∷ r) → ⊥
no_self [] n r e = cc
no_self (y ∷ x) n r e = let tails : x ≡ x ++ (n ∷ r) = cc in no_self x n r tails

-- a path is not one further down
not_down : (t q : Names) (m : List ℕ) → within t q ≡ true → t ≡ q ++ m ∷ [] → ⊥
not_down t q m inside same = by (strip t q) refl
  where
    by : (o : Option Names) → strip t q ≡ o → ⊥
    by None is = true≢false (sym inside ∙ ap is_some is)
    by (Some []) is = no_self t m [] (same ∙ ap (λ x. x ++ m ∷ []) (append-strip t q [] is ∙ append-nil t))
    by (Some (n ∷ r)) is = no_self t n (r ++ m ∷ []) (same ∙ ap (λ x. x ++ m ∷ []) (append-strip t q (n ∷ r) is) ∙ append_assoc t (n ∷ r) (m ∷ []))

-- the node from which an edge leads to a path's node is the one above it
record Above (s : Slab Place) (root : ℕ) (t p : Names) (up at : ℕ) (name : List ℕ) : Type 0 where
  q : Names
  is : p ≡ q ++ name ∷ []
  leads : steps (edges_of s) (Some root) q ≡ Some up
  inside : within t q ≡ true

above_is : (s : Slab Place) (root top : ℕ) (c : Content) (t p : Names) (up at : ℕ) (name : List ℕ) → IsTold (edges_of s) (nodes_of s) root c → steps (edges_of s) (Some root) t ≡ Some top → steps (edges_of s) (Some root) p ≡ Some at
    → within t p ≡ true → (at ≡ top → ⊥) → first_edge s up ≡ Some (name, at) → Above s root t p up at name
above_is s root top c t p up at name told top_leads leads inside apart edge =
    let v = further t p inside (λ same. apart (some_one at top (sym leads ∙ ap F same ∙ top_leads))) in on v.0 v.1 v.2 v.3 (F v.0) refl
  where
    F : Names → Option ℕ
    F x = steps (edges_of s) (Some root) x

    some_one : (a b : ℕ) → Some a ≡ Some b → a ≡ b
    some_one a b e = cc

    on : (q : Names) (m : List ℕ) → p ≡ q ++ m ∷ [] → within t q ≡ true → (o : Option ℕ) → F q ≡ o → Above s root t p up at name
    on q m is within_q None none = absurd (no (sym leads ∙ ap F is ∙ steps-append (edges_of s) (Some root) q (m ∷ []) ∙ ap (λ o. along (edges_of s) o m) none))
      where
        no : Some at ≡ None → ⊥
        no e = cc
    on q m is within_q (Some k) some = elim (eqb_tells up k) [
      | inl here ↦
          let leads_q : F q ≡ Some up = some ∙ ap Some (sym here.1) in
          let twice : q ++ name ∷ [] ≡ p = told.one (q ++ name ∷ []) p at (leads_on s root c told q name up at leads_q (first_is s up at name edge)) leads in
          record { q = q; is = sym twice; leads = leads_q; inside = within_q }
      | inr other ↦ absurd (told.kept up (first_stands s up at name edge) (λ x leads_x.
          let twice : x ++ name ∷ [] ≡ q ++ m ∷ [] = told.one (x ++ name ∷ []) p at (leads_on s root c told x name up at leads_x (first_is s up at name edge)) leads ∙ is in
          other.1 (some_one up k (sym leads_x ∙ ap F (snoc_same x q name m twice).0 ∙ some))))
    ]

-- what is left of a content while entries are cut beneath a path
pub record CutSoFar (now : Slab Place) (root : ℕ) (c : Content) (t : Names) (top at : ℕ) : Type 0 where
  pub d : Content
  pub p : Names
  pub told : IsTold (edges_of now) (nodes_of now) root d
  pub top_leads : steps (edges_of now) (Some root) t ≡ Some top
  pub leads : steps (edges_of now) (Some root) p ≡ Some at
  pub inside : within t p ≡ true
  pub rest : without t d ≡ without t c
  pub fewer : finite.len d ≤ finite.len c

pub record Cutting (old now : Slab Place) (top start at : ℕ) : Type 0 where
  pub cut : (root : ℕ) (c : Content) (t p : Names) → IsTold (edges_of old) (nodes_of old) root c → steps (edges_of old) (Some root) t ≡ Some top → steps (edges_of old) (Some root) p ≡ Some start → within t p ≡ true → CutSoFar now root c t top at

pub cutting_down : (old now : Slab Place) (top start at next : ℕ) → Cutting old now top start at → option_map (λ (e : List ℕ × ℕ). e.1) (first_edge now at) ≡ Some next → Cutting old now top start next
cutting_down old now top start at next cutting edge = record { cut = on }
  where
    on : (root : ℕ) (c : Content) (t p : Names) → IsTold (edges_of old) (nodes_of old) root c → steps (edges_of old) (Some root) t ≡ Some top → steps (edges_of old) (Some root) p ≡ Some start → within t p ≡ true → CutSoFar now root c t top next
    on root c t p told top_leads leads inside =
        let g = cutting.cut root c t p told top_leads leads inside in
        let e = opt_some (first_edge now at) next edge in
        record {
          d = g.d;
          p = g.p ++ e.0 ∷ [];
          told = g.told;
          top_leads = g.top_leads;
          leads = leads_on now root g.d g.told g.p e.0 at next g.leads (first_is now at next e.0 e.1);
          inside = within_more t g.p e.0 g.inside;
          rest = g.rest;
          fewer = g.fewer;
        }

pub cutting_up : (old now new : Slab Place) (top start at up : ℕ) → Cutting old now top start at → (at ≡ top → ⊥) → option_map (λ (e : List ℕ × ℕ). e.1) (first_edge now up) ≡ Some at → first_edge now at ≡ None
    → IfSome (first_edge now up) (λ e. NodeCut now new up e.0 e.1) → Cutting old new top start up
cutting_up old now new top start at up cutting apart edge none cut = record { cut = on }
  where
    on : (root : ℕ) (c : Content) (t p : Names) → IsTold (edges_of old) (nodes_of old) root c → steps (edges_of old) (Some root) t ≡ Some top → steps (edges_of old) (Some root) p ≡ Some start → within t p ≡ true → CutSoFar new root c t top up
    on root c t p told top_leads leads inside =
        let g = cutting.cut root c t p told top_leads leads inside in
        let e = opt_some (first_edge now up) at edge in
        let a = above_is now root top g.d t g.p up at e.0 g.told g.top_leads g.leads g.inside apart e.1 in
        let leaf : Names = a.q ++ e.0 ∷ [] in
        let there : steps (edges_of now) (Some root) leaf ≡ Some at = ap (steps (edges_of now) (Some root)) (sym a.is) ∙ g.leads in
        let fell : finite.len (without_one leaf g.d) < finite.len g.d = len_falls leaf g.d (reached now root g.d g.told leaf at there) in
        let before : finite.len g.d ≤ finite.len c = g.fewer in
        let cut_here : NodeCut now new up e.0 at = subst (λ o. IfSome o (λ e. NodeCut now new up e.0 e.1)) e.1 cut in
        record {
          d = without_one leaf g.d;
          p = a.q;
          told = lowest_cut now root g.d g.told new a.q e.0 up at a.leads e.1 none cut;
          top_leads = cut_stays now new root up at top g.d a.q t e.0 g.told a.leads (first_is now up at e.0 e.1) (first_none now at none) cut_here (not_down t a.q e.0 a.inside) g.top_leads;
          leads = cut_stays now new root up at up g.d a.q a.q e.0 g.told a.leads (first_is now up at e.0 e.1) (first_none now at none) cut_here (no_self a.q e.0 []) a.leads;
          inside = a.inside;
          rest = one_first t leaf g.d (within_more t a.q e.0 a.inside) ∙ g.rest;
          fewer = omega arith;
        }

pub cutting_done : (old now : Slab Place) (top start at : ℕ) → Cutting old now top start at → CutBeneath old now top start
cutting_done old now top start at cutting root c t p told top_leads leads inside = let g = cutting.cut root c t p told top_leads leads inside in (g.d, g.told, g.rest, g.fewer)

-- the lowest entry by first names is cut, and then others on the way up
pub cut_and_more : (s t u : Slab Place) (root top : ℕ) (c : Content) (told : IsTold (edges_of s) (nodes_of s) root c) (w p : Names) (n : List ℕ) (at first : ℕ) → steps (edges_of s) (Some root) w ≡ Some top → steps (edges_of s) (Some root) p ≡ Some at → within w p ≡ true
    → first_edge s at ≡ Some (n, first) → first_edge s first ≡ None → IfSome (first_edge s at) (λ e. NodeCut s t at e.0 e.1) → CutBeneath t u top at
    → (d : Content) × IsTold (edges_of u) (nodes_of u) root d × (without w d ≡ without w (without_one (p ++ n ∷ []) c)) × (finite.len d ≤ finite.len (without_one (p ++ n ∷ []) c))
cut_and_more s t u root top c told w p n at first top_leads leads inside edge none cut more =
    let cut_here : NodeCut s t at n first = subst (λ o. IfSome o (λ e. NodeCut s t at e.0 e.1)) edge cut in
    more root (without_one (p ++ n ∷ []) c) w p (lowest_cut s root c told t p n at first leads edge none cut)
    (cut_stays s t root at first top c p w n told leads (first_is s at first n edge) (first_none s first none) cut_here (not_down w p n inside) top_leads)
    (cut_stays s t root at first at c p p n told leads (first_is s at first n edge) (first_none s first none) cut_here (no_self p n []) leads) inside

pub some_less : (s t u : Slab Place) (root top : ℕ) (c : Content) (told : IsTold (edges_of s) (nodes_of s) root c) (held : Held u root) (old : Content) (w p : Names) (n : List ℕ) (at first : ℕ) → c ≡ old → steps (edges_of s) (Some root) w ≡ Some top → steps (edges_of s) (Some root) p ≡ Some at
    → within w p ≡ true → first_edge s at ≡ Some (n, first) → first_edge s first ≡ None
    → IfSome (first_edge s at) (λ e. NodeCut s t at e.0 e.1) → CutBeneath t u top at → (without w held.0 ≡ without w old) × (finite.len held.0 < finite.len old)
some_less s t u root top c told held old w p n at first same top_leads leads inside edge none cut more =
    let v = cut_and_more s t u root top c told w p n at first top_leads leads inside edge none cut more in
    let is : held.0 ≡ v.0 = content_is u root held v.0 v.1 in
    let leaf : Names = p ++ n ∷ [] in
    let there : steps (edges_of s) (Some root) leaf ≡ Some first = leads_on s root c told p n at first leads (first_is s at first n edge) in
    let fell : finite.len (without_one leaf c) < finite.len c = len_falls leaf c (reached s root c told leaf first there) in
    let left : finite.len v.0 ≤ finite.len (without_one leaf c) = v.3 in
    let now : finite.len held.0 ≡ finite.len v.0 = ap finite.len is in
    let before : finite.len c ≡ finite.len old = ap finite.len same in (
      ap (without w) is ∙ v.2 ∙ one_first w leaf c (within_more w p n inside) ∙ ap (without w) same,
      omega arith,
    )
