-- Walks over edges by name, and what is told of the content once an edge is set, moved or taken out.
use Rattle.std.proofs.Common.{◌≡◌, ◌≢◌, ℕ, Bool, true, false, cond, List, [], ◌∷◌, ◌++◌, append-nil, append_assoc, refl, sym, ap, ◌∙◌, Option, Some, None, is_some, true≢false, ◌⊎◌, inl, inr}
use Rattle.std.proofs.lemmas.Bool.Decides.{eqb_tells}
use Rattle.std.specs.FinMap as finite
use Rattle.mr_paths.specs.Path.{path_cmp, path_total, strip}
use Rattle.mr_paths.proofs.Paths.{strip-append, append-strip}
use Rattle.mr_names_tree.specs.declared.node.Node.{Node}
use Rattle.mr_names_tree.specs.Content.{Content, within, without_one, renamed, renamed_at_by}
use Rattle.mr_names_tree.specs.inner.Tree.{Edges, along, steps, standing, IsTold}
use Rattle.mr_names_tree.proofs.LastNames.{Names, snoc_same, no_end, beneath_nothing, strip_more, strip_first}
use Rattle.mr_names_tree.proofs.ContentLaws.{get-without_one, same, same_path, same_itself, same_from, get-renamed}

-- ---- steps

pub steps-append : (e : Edges) (at : Option ℕ) (p q : Names) → steps e at (p ++ q) ≡ steps e (steps e at p) q
steps-append e at [] q = refl
steps-append e at (n ∷ p) q = steps-append e (along e at n) p q

pub steps-none : (e : Edges) (p : Names) → steps e None p ≡ None
steps-none e [] = refl
steps-none e (n ∷ p) = steps-none e p

steps_are : (e : Edges) (F : Names → Option ℕ) → ((p : Names) (n : List ℕ) → F (p ++ n ∷ []) ≡ along e (F p) n) → (q p : Names) → steps e (F p) q ≡ F (p ++ q)
steps_are e F turn [] p = ap F (sym (append-nil p))
steps_are e F turn (n ∷ q) p = ap (λ o. steps e o q) (sym (turn p n)) ∙ steps_are e F turn q (p ++ n ∷ []) ∙ ap F (append_assoc p (n ∷ []) q)

-- what goes on name by name as the edges do is where the steps lead
steps_is : (e : Edges) (root : ℕ) (F : Names → Option ℕ) → F [] ≡ Some root → ((p : Names) (n : List ℕ) → F (p ++ n ∷ []) ≡ along e (F p) n) → (q : Names) → steps e (Some root) q ≡ F q
steps_is e root F start turn q = ap (λ o. steps e o q) (sym start) ∙ steps_are e F turn q []

-- edges that agree at a node
agree : (e f : Edges) (n : List ℕ) (o : Option ℕ) → ((k : ℕ) → o ≡ Some k → f k n ≡ e k n) → along e o n ≡ along f o n
agree e f n None h = refl
agree e f n (Some k) h = sym (h k refl)

some_none : {A : Type 0} (o : Option A) (k : A) → o ≡ Some k → o ≡ None → ⊥
some_none o k e f = cc

-- ---- what is told

module _ (e : Edges) (nodes : ℕ → Option Node) (root : ℕ) (c : Content) (told : IsTold e nodes root c) where
  abbrev pub S : Names → Option ℕ
  S p = steps e (Some root) p

  -- nothing is at a path to which nothing leads
  pub absent : (q : Names) → finite.get c q ≡ None → S q ≡ None
  absent q none = by (S q) refl
    where
      by : (o : Option ℕ) → S q ≡ o → S q ≡ None
      by None is = is
      by (Some k) is = absurd (true≢false (sym (told.live q k is) ∙ ap is_some (ap (standing nodes) (sym is) ∙ sym (told.holds q) ∙ none)))

  pub there : (q : Names) → is_some (finite.get c q) ≡ true → (k : ℕ) × (S q ≡ Some k)
  there q found = by (S q) refl
    where
      by : (o : Option ℕ) → S q ≡ o → (k : ℕ) × (S q ≡ Some k)
      by None is = absurd (true≢false (sym found ∙ ap is_some (told.holds q ∙ ap (standing nodes) is)))
      by (Some k) is = (k, is)

  S-snoc : (p : Names) (n : List ℕ) → S (p ++ n ∷ []) ≡ along e (S p) n
  S-snoc p n = steps-append e (Some root) p (n ∷ [])

  not_vacant : (q : Names) (k key : ℕ) → nodes key ≡ None → S q ≡ Some k → k ≢ key
  not_vacant q k key vacant is same = true≢false (sym (told.live q k is) ∙ ap (λ x. is_some (nodes x)) same ∙ ap is_some vacant)

  standing-others : (nodes' : ℕ → Option Node) (o : Option ℕ) → ((k : ℕ) → o ≡ Some k → nodes' k ≡ nodes k) → standing nodes o ≡ standing nodes' o
  standing-others nodes' None h = refl
  standing-others nodes' (Some k) h = sym (h k refl)

  -- ---- a node is added

  module _ (above : Names) (name : List ℕ) (at key : ℕ) (e' : Edges) (nodes' : ℕ → Option Node) (value : Node)
      (here : S above ≡ Some at) (free : S (above ++ name ∷ []) ≡ None) (vacant : nodes key ≡ None)
      (put : e' at name ≡ Some key) (rest : (k : ℕ) (n : List ℕ) → (k ≡ at → n ≡ name → ⊥) → e' k n ≡ e k n) (leaf : (n : List ℕ) → e key n ≡ None)
      (stands : nodes' key ≡ Some value) (others : (k : ℕ) → k ≢ key → nodes' k ≡ nodes k) where
    abbrev path : Names
    path = above ++ name ∷ []

    abbrev added : Names → Option ℕ
    added q = cond (same q path) (Some key) (S q)

    added_turn : (p : Names) (n : List ℕ) → added (p ++ n ∷ []) ≡ along e' (added p) n
    added_turn p n = by (same p path) refl (same (p ++ n ∷ []) path) refl
      where
        by : (a : Bool) → same p path ≡ a → (b : Bool) → same (p ++ n ∷ []) path ≡ b → cond b (Some key) (S (p ++ n ∷ [])) ≡ along e' (cond a (Some key) (S p)) n
        by true is true more =
            let up : p ≡ above = (snoc_same p above n name (same_path _ _ more)).0 in
            absurd (some_none (S p) at (ap S up ∙ here) (ap S (same_path p path is) ∙ free))
        by true is false more =
            S-snoc p n ∙ ap (λ o. along e o n) (ap S (same_path p path is) ∙ free)
            ∙ sym (leaf n) ∙ sym (rest key n (λ one _. not_vacant above at key vacant here (sym one)))
        by false is true more =
            let ends = snoc_same p above n name (same_path _ _ more) in
            sym (ap (λ o. along e' o n) (ap S ends.0 ∙ here) ∙ ap (e' at) ends.1 ∙ put)
        by false is false more =
            S-snoc p n ∙ agree e e' n (S p) (λ k leads. rest k n (λ one last.
            true≢false (sym (same_from (p ++ n ∷ []) path (λ i. told.one p above k leads (here ∙ ap Some (sym one)) i ++ last i ∷ [])) ∙ more)))

    added_start : added [] ≡ Some root
    added_start = by (same [] path) refl
      where
        by : (b : Bool) → same [] path ≡ b → cond b (Some key) (Some root) ≡ Some root
        by true is = absurd (no_end above name (sym (same_path [] path is)))
        by false is = refl

    added_is : (q : Names) → steps e' (Some root) q ≡ added q
    added_is q = steps_is e' root added added_start added_turn q

    -- where the steps led before, they lead still
    added_old : (q : Names) (k : ℕ) → S q ≡ Some k → added q ≡ Some k
    added_old q k is = by (same q path) refl
      where
        by : (b : Bool) → same q path ≡ b → cond b (Some key) (S q) ≡ Some k
        by true one = absurd (some_none (S q) k is (ap S (same_path q path one) ∙ free))
        by false other = is

    added_new : added path ≡ Some key
    added_new = rw (same_itself path) refl

    pub added_leads : steps e' (Some root) path ≡ Some key
    added_leads = added_is path ∙ added_new

    -- a node reached is the new one, or reached as before
    added_from : (q : Names) (k : ℕ) → added q ≡ Some k → ((q ≡ path) × (k ≡ key)) ⊎ ((S q ≡ Some k) × (k ≢ key))
    added_from q k = by (same q path) refl
      where
        by : (b : Bool) → same q path ≡ b → cond b (Some key) (S q) ≡ Some k → ((q ≡ path) × (k ≡ key)) ⊎ ((S q ≡ Some k) × (k ≢ key))
        by true one is = inl (same_path q path one, cc)
        by false other is = inr (is, not_vacant q k key vacant is)

    pub added_told : IsTold e' nodes' root (finite.insert c path value)
    added_told = record { holds = holds; live = live; one = one; kept = kept }
      where
        holds : (q : Names) → finite.get (finite.insert c path value) q ≡ standing nodes' (steps e' (Some root) q)
        holds q = finite.get-insert path_total c path value q ∙ by (same q path) refl ∙ ap (standing nodes') (sym (added_is q))
          where
            by : (b : Bool) → same q path ≡ b → cond b (Some value) (finite.get c q) ≡ standing nodes' (cond b (Some key) (S q))
            by true one = sym stands
            by false other = told.holds q ∙ standing-others nodes' (S q) (λ k is. others k (not_vacant q k key vacant is))

        live : (q : Names) (k : ℕ) → steps e' (Some root) q ≡ Some k → is_some (nodes' k) ≡ true
        live q k is = elim (added_from q k (sym (added_is q) ∙ is)) [
          | inl new ↦ ap (λ x. is_some (nodes' x)) new.1 ∙ ap is_some stands
          | inr old ↦ ap is_some (others k old.1) ∙ told.live q k old.0
        ]

        one : (p q : Names) (k : ℕ) → steps e' (Some root) p ≡ Some k → steps e' (Some root) q ≡ Some k → p ≡ q
        one p q k a b = elim (added_from p k (sym (added_is p) ∙ a)) [
          | inl new ↦ elim (added_from q k (sym (added_is q) ∙ b)) [ inl also ↦ new.0 ∙ sym also.0 | inr old ↦ absurd (old.1 new.1) ]
          | inr old ↦ elim (added_from q k (sym (added_is q) ∙ b)) [ inl new ↦ absurd (old.1 new.1) | inr also ↦ told.one p q k old.0 also.0 ]
        ]

        kept : (k : ℕ) → is_some (nodes' k) ≡ true → ((q : Names) → steps e' (Some root) q ≡ Some k → ⊥) → ⊥
        kept k is none = elim (eqb_tells k key) [
          | inl new ↦ none path (added_is path ∙ added_new ∙ ap Some (sym new.1))
          | inr old ↦ told.kept k (ap is_some (sym (others k old.1)) ∙ is) (λ q leads. none q (added_is q ∙ added_old q k leads))
        ]

-- no edge goes on
pub stuck : (e : Edges) (at : ℕ) (name : List ℕ) (left more : Names) → left ≡ name ∷ more → e at name ≡ None → steps e (Some at) left ≡ None
stuck e at name left more is none = ap (steps e (Some at)) is ∙ ap (λ o. steps e o more) none ∙ steps-none e more

-- ---- an edge is moved

module _ (e : Edges) (nodes : ℕ → Option Node) (root : ℕ) (c : Content) (told : IsTold e nodes root c)
    (fa : Names) (fn : List ℕ) (ta : Names) (tn : List ℕ) (fat tat key : ℕ) (e' : Edges)
    (from_here : steps e (Some root) fa ≡ Some fat) (edge : e fat fn ≡ Some key)
    (to_here : steps e (Some root) ta ≡ Some tat) (free : steps e (Some root) (ta ++ tn ∷ []) ≡ None) (outside : within (fa ++ fn ∷ []) (ta ++ tn ∷ []) ≡ false)
    (put : e' tat tn ≡ Some key) (gone : e' fat fn ≡ None)
    (rest : (k : ℕ) (n : List ℕ) → (k ≡ tat → n ≡ tn → ⊥) → (k ≡ fat → n ≡ fn → ⊥) → e' k n ≡ e k n) where
  abbrev G : Names → Option ℕ
  G p = steps e (Some root) p

  abbrev from : Names
  from = fa ++ fn ∷ []

  abbrev to : Names
  to = ta ++ tn ∷ []

  abbrev moved_by : Names → Option Names → Option ℕ
  moved_by p (Some r) = G (from ++ r)
  moved_by p None = cond (within from p) None (G p)

  abbrev moved : Names → Option ℕ
  moved p = moved_by p (strip to p)

  G-snoc : (p : Names) (n : List ℕ) → G (p ++ n ∷ []) ≡ along e (G p) n
  G-snoc p n = steps-append e (Some root) p (n ∷ [])

  -- the path to which it goes is not beneath the one from which it goes
  not_in : (r : Names) → to ≡ from ++ r → ⊥
  not_in r is = true≢false (ap is_some (sym (strip-append from r)) ∙ ap (within from) (sym is) ∙ outside)

  -- nor is where it is put
  above_out : (r : Names) → ta ≡ from ++ r → ⊥
  above_out r is = not_in (r ++ tn ∷ []) (ap (λ x. x ++ tn ∷ []) is ∙ append_assoc from r (tn ∷ []))

  above_within : within from ta ≡ false
  above_within = by (strip from ta) refl
    where
      by : (o : Option Names) → strip from ta ≡ o → is_some o ≡ false
      by None is = refl
      by (Some r) is = absurd (above_out r (append-strip from ta r is))

  longer : (r : Names) → fa ≡ from ++ r → ⊥
  longer r is = no_self fa fn r (is ∙ append_assoc fa (fn ∷ []) r)
    where
      no_self : (x : Names) (n : List ℕ) (r : Names) → x ≡ x ++ (n ∷ r) → ⊥
      no_self [] n r e = cc
      no_self (y ∷ x) n r e = let tails : x ≡ x ++ (n ∷ r) = cc in no_self x n r tails

  from_is : G from ≡ Some key
  from_is = G-snoc fa fn ∙ ap (λ o. along e o fn) from_here ∙ edge

  moved_to : moved to ≡ Some key
  moved_to = ap (moved_by to) (ap (strip to) (sym (append-nil to)) ∙ strip-append to []) ∙ ap G (append-nil from) ∙ from_is

  moved_above : strip to ta ≡ None → moved ta ≡ Some tat
  moved_above none = ap (moved_by ta) none ∙ ap (λ b. cond b None (G ta)) above_within ∙ to_here

  moved_turn : (p : Names) (n : List ℕ) → moved (p ++ n ∷ []) ≡ along e' (moved p) n
  moved_turn p n = by (strip to p) refl
    where
      outer : strip to p ≡ None → strip to (p ++ n ∷ []) ≡ None → (o : Option Names) → strip from p ≡ o → (o' : Option Names) → strip from (p ++ n ∷ []) ≡ o'
          → cond (is_some o') None (G (p ++ n ∷ [])) ≡ along e' (cond (is_some o) None (G p)) n
      outer none still (Some r) is (Some r') is' = refl
      outer none still (Some r) is None is' = absurd (true≢false (ap is_some (sym (strip_more from p r n is)) ∙ ap is_some is'))
      outer none still None is (Some r') is' =
          let ends = snoc_same p fa n fn (strip_first from p r' n is is') in
          sym (ap (λ o. along e' o n) (ap G ends.0 ∙ from_here) ∙ ap (e' fat) ends.1 ∙ gone)
      outer none still None is None is' =
          G-snoc p n ∙ agree e e' n (G p) (λ k leads. rest k n
          (λ one last. let whole : p ++ n ∷ [] ≡ to = λ i. told.one p ta k leads (to_here ∙ ap Some (sym one)) i ++ last i ∷ [] in
          some_none (strip to to) [] (ap (strip to) (sym (append-nil to)) ∙ strip-append to []) (ap (strip to) (sym whole) ∙ still))
          (λ one last. let whole : p ++ n ∷ [] ≡ from = λ i. told.one p fa k leads (from_here ∙ ap Some (sym one)) i ++ last i ∷ [] in
          some_none (strip from from) [] (ap (strip from) (sym (append-nil from)) ∙ strip-append from []) (ap (strip from) (sym whole) ∙ is')))

      next : strip to p ≡ None → (o : Option Names) → strip to (p ++ n ∷ []) ≡ o → moved_by (p ++ n ∷ []) o ≡ along e' (moved_by p None) n
      next none (Some r) is =
          let whole = strip_first to p r n none is in
          let ends = snoc_same p ta n tn whole in
          ap (moved_by (p ++ n ∷ [])) (sym is) ∙ ap moved whole ∙ moved_to
          ∙ sym (ap (λ o. along e' o n) (ap (moved_by p) (sym none) ∙ ap moved ends.0 ∙ moved_above (ap (strip to) (sym ends.0) ∙ none)) ∙ ap (e' tat) ends.1 ∙ put)
      next none None is = outer none is (strip from p) refl (strip from (p ++ n ∷ [])) refl

      by : (o : Option Names) → strip to p ≡ o → moved_by (p ++ n ∷ []) (strip to (p ++ n ∷ [])) ≡ along e' (moved_by p o) n
      by (Some r) is =
          ap (moved_by (p ++ n ∷ [])) (strip_more to p r n is)
          ∙ ap G (sym (append_assoc from r (n ∷ [])))
          ∙ G-snoc (from ++ r) n
          ∙ agree e e' n (G (from ++ r)) (λ k leads. rest k n
          (λ one _. above_out r (sym (told.one (from ++ r) ta k leads (to_here ∙ ap Some (sym one)))))
          (λ one _. longer r (sym (told.one (from ++ r) fa k leads (from_here ∙ ap Some (sym one))))))
      by None is = next is (strip to (p ++ n ∷ [])) refl

  not_root : within from [] ≡ false
  not_root = ap is_some (beneath_nothing fa fn)

  moved_start : moved [] ≡ Some root
  moved_start = ap (moved_by []) (beneath_nothing ta tn) ∙ ap (λ b. cond b None (Some root)) not_root

  moved_is : (q : Names) → steps e' (Some root) q ≡ moved q
  moved_is q = steps_is e' root moved moved_start moved_turn q

  -- nothing was beneath where it is put
  nothing : (q r : Names) → strip to q ≡ Some r → G q ≡ None
  nothing q r is = ap G (append-strip to q r is) ∙ steps-append e (Some root) to r ∙ ap (λ o. steps e o r) free ∙ steps-none e r

  nothing_there : (q : Names) → is_some (finite.get c q) ≡ true → strip to q ≡ None
  nothing_there q found = by (strip to q) refl
    where
      by : (o : Option Names) → strip to q ≡ o → strip to q ≡ None
      by None is = is
      by (Some r) is = absurd (true≢false (sym found ∙ ap is_some (told.holds q ∙ ap (standing nodes) (nothing q r is))))

  -- where the path to a node came from
  data Came (p : Names) (k : ℕ) : Type 0 where
    carried : (r : Names) → p ≡ to ++ r → G (from ++ r) ≡ Some k → Came p k
    stayed : strip from p ≡ None → G p ≡ Some k → Came p k

  came : (p : Names) (k : ℕ) → moved p ≡ Some k → Came p k
  came p k = by (strip to p) refl
    where
      other : (o : Option Names) → strip from p ≡ o → cond (is_some o) None (G p) ≡ Some k → Came p k
      other None is leads = stayed is leads
      other (Some r) is leads = absurd (cc)

      by : (o : Option Names) → strip to p ≡ o → moved_by p o ≡ Some k → Came p k
      by (Some r) is leads = carried r (append-strip to p r is) leads
      by None is leads = other (strip from p) refl leads

  clash : (q r : Names) → strip from q ≡ None → from ++ r ≡ q → ⊥
  clash q r none is = some_none (strip from q) r (ap (strip from) (sym is) ∙ strip-append from r) none

  same_rest : (r s : Names) → from ++ r ≡ from ++ s → r ≡ s
  same_rest r s is = let both : Some r ≡ Some s = sym (strip-append from r) ∙ ap (strip from) is ∙ strip-append from s in cc

  pub moved_told : IsTold e' nodes root (renamed from to c)
  moved_told = record { holds = holds; live = live; one = one; kept = kept }
    where
      holds : (q : Names) → finite.get (renamed from to c) q ≡ standing nodes (steps e' (Some root) q)
      holds q = get-renamed from to c q nothing_there ∙ by (strip to q) ∙ ap (standing nodes) (sym (moved_is q))
        where
          by : (o : Option Names) → renamed_at_by from c q o ≡ standing nodes (moved_by q o)
          by (Some r) = told.holds (from ++ r)
          by None = elim (within from q) as (λ b. cond b None (finite.get c q) ≡ standing nodes (cond b None (G q))) [ true ↦ refl | false ↦ told.holds q ]

      live : (q : Names) (k : ℕ) → steps e' (Some root) q ≡ Some k → is_some (nodes k) ≡ true
      live q k is = elim (came q k (sym (moved_is q) ∙ is)) [
        | carried r p leads ↦ told.live (from ++ r) k leads
        | stayed p leads ↦ told.live q k leads
      ]

      one : (p q : Names) (k : ℕ) → steps e' (Some root) p ≡ Some k → steps e' (Some root) q ≡ Some k → p ≡ q
      one p q k a b = both (came p k (sym (moved_is p) ∙ a)) (came q k (sym (moved_is q) ∙ b))
        where
          both : Came p k → Came q k → p ≡ q
          both (carried r x leads) (carried s y also) = x ∙ ap (λ z. to ++ z) (same_rest r s (told.one (from ++ r) (from ++ s) k leads also)) ∙ sym y
          both (carried r x leads) (stayed y also) = absurd (clash q r y (told.one (from ++ r) q k leads also))
          both (stayed x leads) (carried s y also) = absurd (clash p s x (told.one (from ++ s) p k also leads))
          both (stayed x leads) (stayed y also) = told.one p q k leads also

      kept : (k : ℕ) → is_some (nodes k) ≡ true → ((q : Names) → steps e' (Some root) q ≡ Some k → ⊥) → ⊥
      kept k is none = told.kept k is (λ q leads. by q leads (strip from q) refl)
        where
          here : (q : Names) → G q ≡ Some k → strip from q ≡ None → (o : Option Names) → strip to q ≡ o → moved_by q o ≡ Some k
          here q leads out (Some r) under = absurd (some_none (G q) k leads (nothing q r under))
          here q leads out None under = ap (λ o. cond (is_some o) None (G q)) out ∙ leads

          by : (q : Names) → G q ≡ Some k → (o : Option Names) → strip from q ≡ o → ⊥
          by q leads (Some r) is = none (to ++ r) (moved_is (to ++ r) ∙ ap (moved_by (to ++ r)) (strip-append to r) ∙ ap G (sym (append-strip from q r is)) ∙ leads)
          by q leads None is = none q (moved_is q ∙ here q leads is (strip to q) refl)

-- ---- what stands at a path is changed, and a path with nothing beneath it is taken out

module _ (e : Edges) (nodes : ℕ → Option Node) (root : ℕ) (c : Content) (told : IsTold e nodes root c) where
  abbrev L : Names → Option ℕ
  L p = steps e (Some root) p

  module _ (path : Names) (key : ℕ) (nodes' : ℕ → Option Node) (old value : Node)
      (leads : L path ≡ Some key) (was : nodes key ≡ Some old) (stands : nodes' key ≡ Some value) (others : (k : ℕ) → (k ≡ key → ⊥) → nodes' k ≡ nodes k) where
    pub changed_told : IsTold e nodes' root (finite.insert c path value)
    changed_told = record { holds = holds; live = live; one = told.one; kept = kept }
      where
        holds : (q : Names) → finite.get (finite.insert c path value) q ≡ standing nodes' (L q)
        holds q = finite.get-insert path_total c path value q ∙ by (same q path) refl
          where
            by : (b : Bool) → same q path ≡ b → cond b (Some value) (finite.get c q) ≡ standing nodes' (L q)
            by true one = sym (ap (standing nodes') (ap L (same_path q path one) ∙ leads) ∙ stands)
            by false other = told.holds q ∙ standing-others e nodes root c told nodes' (L q) (λ k is. others k (λ here.
                true≢false (sym (same_from q path (told.one q path k is (leads ∙ ap Some (sym here)))) ∙ other)))

        live : (q : Names) (k : ℕ) → L q ≡ Some k → is_some (nodes' k) ≡ true
        live q k is = elim (eqb_tells k key) [
          | inl here ↦ ap (λ x. is_some (nodes' x)) here.1 ∙ ap is_some stands
          | inr other ↦ ap is_some (others k other.1) ∙ told.live q k is
        ]

        kept : (k : ℕ) → is_some (nodes' k) ≡ true → ((q : Names) → L q ≡ Some k → ⊥) → ⊥
        kept k is none = elim (eqb_tells k key) [
          | inl here ↦ none path (leads ∙ ap Some (sym here.1))
          | inr other ↦ told.kept k (ap is_some (sym (others k other.1)) ∙ is) none
        ]

  module _ (above : Names) (name : List ℕ) (at key : ℕ) (e' : Edges) (nodes' : ℕ → Option Node)
      (here : L above ≡ Some at) (edge : e at name ≡ Some key) (bare : (n : List ℕ) → e key n ≡ None)
      (gone : e' at name ≡ None) (rest : (k : ℕ) (n : List ℕ) → (k ≡ at → n ≡ name → ⊥) → e' k n ≡ e k n)
      (out : nodes' key ≡ None) (others : (k : ℕ) → (k ≡ key → ⊥) → nodes' k ≡ nodes k) where
    abbrev leaf : Names
    leaf = above ++ name ∷ []

    leaf_leads : L leaf ≡ Some key
    leaf_leads = steps-append e (Some root) above (name ∷ []) ∙ ap (λ o. along e o name) here ∙ edge

    abbrev left : Names → Option ℕ
    left q = cond (same q leaf) None (L q)

    left_turn : (p : Names) (n : List ℕ) → left (p ++ n ∷ []) ≡ along e' (left p) n
    left_turn p n = by (same p leaf) refl (same (p ++ n ∷ []) leaf) refl
      where
        by : (a : Bool) → same p leaf ≡ a → (b : Bool) → same (p ++ n ∷ []) leaf ≡ b → cond b None (L (p ++ n ∷ [])) ≡ along e' (cond a None (L p)) n
        by true is true more = refl
        by true is false more = steps-append e (Some root) p (n ∷ []) ∙ ap (λ o. along e o n) (ap L (same_path p leaf is) ∙ leaf_leads) ∙ bare n
        by false is true more =
            let ends = snoc_same p above n name (same_path _ _ more) in
            sym (ap (λ o. along e' o n) (ap L ends.0 ∙ here) ∙ ap (e' at) ends.1 ∙ gone)
        by false is false more =
            steps-append e (Some root) p (n ∷ []) ∙ agree e e' n (L p) (λ k leads. rest k n (λ one last.
            true≢false (sym (same_from (p ++ n ∷ []) leaf (λ i. told.one p above k leads (here ∙ ap Some (sym one)) i ++ last i ∷ [])) ∙ more)))

    left_start : left [] ≡ Some root
    left_start = by (same [] leaf) refl
      where
        by : (b : Bool) → same [] leaf ≡ b → cond b None (Some root) ≡ Some root
        by true is = absurd (no_end above name (sym (same_path [] leaf is)))
        by false is = refl

    left_is : (q : Names) → steps e' (Some root) q ≡ left q
    left_is q = steps_is e' root left left_start left_turn q

    pub leaf_stays : (q : Names) → same q leaf ≡ false → steps e' (Some root) q ≡ L q
    leaf_stays q other = left_is q ∙ ap (λ b. cond b None (L q)) other

    apart : (q : Names) (k : ℕ) → same q leaf ≡ false → L q ≡ Some k → k ≡ key → ⊥
    apart q k other leads is = true≢false (sym (same_from q leaf (told.one q leaf k leads (leaf_leads ∙ ap Some (sym is)))) ∙ other)

    left_from : (q : Names) (k : ℕ) → left q ≡ Some k → (L q ≡ Some k) × (k ≡ key → ⊥)
    left_from q k = by (same q leaf) refl
      where
        by : (b : Bool) → same q leaf ≡ b → cond b None (L q) ≡ Some k → (L q ≡ Some k) × (k ≡ key → ⊥)
        by true one is = absurd (cc)
        by false other is = (is, apart q k other is)

    pub leaf_told : IsTold e' nodes' root (without_one leaf c)
    leaf_told = record { holds = holds; live = live; one = one; kept = kept }
      where
        holds : (q : Names) → finite.get (without_one leaf c) q ≡ standing nodes' (steps e' (Some root) q)
        holds q = get-without_one c leaf q ∙ by (same q leaf) refl ∙ ap (standing nodes') (sym (left_is q))
          where
            by : (b : Bool) → same q leaf ≡ b → cond b None (finite.get c q) ≡ standing nodes' (cond b None (L q))
            by true one = refl
            by false other = told.holds q ∙ standing-others e nodes root c told nodes' (L q) (λ k is. others k (apart q k other is))

        live : (q : Names) (k : ℕ) → steps e' (Some root) q ≡ Some k → is_some (nodes' k) ≡ true
        live q k is = let old = left_from q k (sym (left_is q) ∙ is) in ap is_some (others k old.1) ∙ told.live q k old.0

        one : (p q : Names) (k : ℕ) → steps e' (Some root) p ≡ Some k → steps e' (Some root) q ≡ Some k → p ≡ q
        one p q k a b = told.one p q k (left_from p k (sym (left_is p) ∙ a)).0 (left_from q k (sym (left_is q) ∙ b)).0

        kept : (k : ℕ) → is_some (nodes' k) ≡ true → ((q : Names) → steps e' (Some root) q ≡ Some k → ⊥) → ⊥
        kept k is none = elim (eqb_tells k key) [
          | inl gone ↦ true≢false (sym is ∙ ap (λ x. is_some (nodes' x)) gone.1 ∙ ap is_some out)
          | inr other ↦ told.kept k (ap is_some (sym (others k other.1)) ∙ is) (λ q leads. none q (left_is q ∙ by q leads other.1 (same q leaf) refl))
        ]
          where
            by : (q : Names) → L q ≡ Some k → (k ≡ key → ⊥) → (b : Bool) → same q leaf ≡ b → cond b None (L q) ≡ Some k
            by q leads not true one = absurd (not (let both : Some k ≡ Some key = sym leads ∙ ap L (same_path q leaf one) ∙ leaf_leads in cc))
            by q leads not false other = leads

-- ---- one node alone

abbrev pub alone : Node → Content
alone value = finite.insert finite.empty [] value

pub root_told : (e : Edges) (nodes : ℕ → Option Node) (root : ℕ) (value : Node) → ((k : ℕ) (n : List ℕ) → e k n ≡ None) → nodes root ≡ Some value → ((k : ℕ) → (k ≡ root → ⊥) → nodes k ≡ None) → IsTold e nodes root (alone value)
root_told e nodes root value bare stands others = record { holds = holds; live = live; one = one; kept = kept }
  where
    beyond : (n : List ℕ) (q : Names) → steps e (Some root) (n ∷ q) ≡ None
    beyond n q = ap (λ o. steps e o q) (bare root n) ∙ steps-none e q

    holds : (q : Names) → finite.get (alone value) q ≡ standing nodes (steps e (Some root) q)
    holds [] = finite.get-insert path_total finite.empty [] value [] ∙ sym stands
    holds (n ∷ q) = finite.get-insert path_total finite.empty [] value (n ∷ q) ∙ finite.get-empty path_cmp (n ∷ q) ∙ ap (standing nodes) (sym (beyond n q))

    live : (q : Names) (k : ℕ) → steps e (Some root) q ≡ Some k → is_some (nodes k) ≡ true
    live [] k is = let here : root ≡ k = cc in ap (λ x. is_some (nodes x)) (sym here) ∙ ap is_some stands
    live (n ∷ q) k is = absurd (some_none (steps e (Some root) (n ∷ q)) k is (beyond n q))

    one : (p q : Names) (k : ℕ) → steps e (Some root) p ≡ Some k → steps e (Some root) q ≡ Some k → p ≡ q
    one [] [] k a b = refl
    one [] (n ∷ q) k a b = absurd (some_none (steps e (Some root) (n ∷ q)) k b (beyond n q))
    one (n ∷ p) q k a b = absurd (some_none (steps e (Some root) (n ∷ p)) k a (beyond n p))

    kept : (k : ℕ) → is_some (nodes k) ≡ true → ((q : Names) → steps e (Some root) q ≡ Some k → ⊥) → ⊥
    kept k is none = elim (eqb_tells k root) [
      | inl here ↦ none [] (ap Some (sym here.1))
      | inr other ↦ true≢false (sym is ∙ ap is_some (others k other.1))
    ]
