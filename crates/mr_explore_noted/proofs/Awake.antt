-- Of what a search made and found, what is not void is enough: void runs have no end, and nothing comes of them.
use Rattle.std.proofs.Common.{◌≡◌, inl, inr, ◌<◌, ℕ, suc, Bool, true, false, List, [], ◌∷◌, ◌++◌, length, remove, refl, sym, subst, option_to_list}
use Rattle.std.specs.Prelude.{if◌then◌else◌}
use Rattle.mr_explore_search.specs.Steps.{Goes, Ends, Steps}
use Rattle.mr_explore_search.specs.Runs.{Found, Run, PassesLimit}
use Rattle.mr_explore_search.specs.Laws.{In, IsOneBy}
use Rattle.mr_explore_alike.specs.Likens.{Likens}
use Rattle.mr_explore_alike.specs.Leaving.{Here, IsEnough, IsFound, IsTaken}
use Rattle.mr_explore_alike.proofs.Leaving.{no_end}
use Rattle.mr_explore_alike.proofs.Void.{either, itself}
use Rattle.mr_explore_places.specs.Places.{beginning}
use Rattle.mr_explore_places.specs.State.{IsDone, whole}
use Rattle.mr_explore_places.specs.declared.bounds.Bounds.{Bounds}
use Rattle.mr_explore_places.proofs.Joining.{whole_alone}
use Rattle.mr_explore_places.proofs.Doing.{enough, parts_taken}
use Rattle.mr_explore_noted.proofs.Lists.{same_run, true_and_false}

-- where the flag is not set the second is chosen
unset : {A : Type 0} (b : Bool) (x y : A) → b ≡ false → (if b then x else y) ≡ y
unset {A} b x y e = subst (λ (z : Bool). (if z then x else y) ≡ y) (sym e) refl

-- ---- those that are not void

module _ {S : Type 0} (void : S → Bool) where
  abbrev pub alive : List (Found S) → List (Found S)
  alive [] = []
  alive (Run k s ∷ rs) = if void s then alive rs else Run k s ∷ alive rs
  alive (PassesLimit ∷ rs) = alive rs

  in_alive : (k : ℕ) (s : S) (rs : List (Found S)) → void s ≡ false → In (Run k s) rs → In (Run k s) (alive rs)
  in_alive k s [] v i = absurd i
  in_alive k s (Run n t ∷ rs) v (inl q) =
      subst (λ (z : List (Found S)). In (Run k s) z) (sym (unset (void t) (alive rs) (Run n t ∷ alive rs) (subst (λ (z : S). void z ≡ false) (sym (same_run n k t s q)) v))) (inl q)
  in_alive k s (Run n t ∷ rs) v (inr i) = by (void t) (in_alive k s rs v i) where
    by : (b : Bool) → In (Run k s) (alive rs) → In (Run k s) (if b then alive rs else Run n t ∷ alive rs)
    by true j = j
    by false j = inr j
  in_alive k s (PassesLimit ∷ rs) v (inl q) = cc
  in_alive k s (PassesLimit ∷ rs) v (inr i) = in_alive k s rs v i

  -- one that is alive was found, and is not void
  pub alive_in : (k : ℕ) (s : S) (rs : List (Found S)) → In (Run k s) (alive rs) → In (Run k s) rs × (void s ≡ false)
  alive_in k s [] i = absurd i
  alive_in k s (Run n t ∷ rs) i = by (void t) refl (alive_in k s rs) i where
    by : (b : Bool) → void t ≡ b → (In (Run k s) (alive rs) → In (Run k s) rs × (void s ≡ false)) → In (Run k s) (if b then alive rs else Run n t ∷ alive rs) → In (Run k s) (Run n t ∷ rs) × (void s ≡ false)
    by true e more j = let z = more j in (inr z.0, z.1)
    by false e more (inl q) = (inl q, subst (λ (z : S). void z ≡ false) (same_run n k t s q) e)
    by false e more (inr j) = let z = more j in (inr z.0, z.1)
  alive_in k s (PassesLimit ∷ rs) i = let z = alive_in k s rs i in (inr z.0, z.1)

module _ {S F : Type 0} (void : S → Bool) where
  abbrev pub awake : List (Here S F) → List (Here S F)
  awake [] = []
  awake (h ∷ hs) = if void h.run then awake hs else h ∷ awake hs

  in_awake : (h : Here S F) (hs : List (Here S F)) → void h.run ≡ false → In h hs → In h (awake hs)
  in_awake h [] v i = absurd i
  in_awake h (g ∷ hs) v (inl e) =
      subst (λ (z : List (Here S F)). In h z) (sym (unset (void g.run) (awake hs) (g ∷ awake hs) (subst (λ (z : Here S F). void z.run ≡ false) (sym e) v))) (inl e)
  in_awake h (g ∷ hs) v (inr i) = by (void g.run) (in_awake h hs v i) where
    by : (b : Bool) → In h (awake hs) → In h (if b then awake hs else g ∷ awake hs)
    by true j = j
    by false j = inr j

  awake_in : (h : Here S F) (hs : List (Here S F)) → In h (awake hs) → In h hs × (void h.run ≡ false)
  awake_in h [] i = absurd i
  awake_in h (g ∷ hs) i = by (void g.run) refl (awake_in h hs) i where
    by : (b : Bool) → void g.run ≡ b → (In h (awake hs) → In h hs × (void h.run ≡ false)) → In h (if b then awake hs else g ∷ awake hs) → In h (g ∷ hs) × (void h.run ≡ false)
    by true e more j = let z = more j in (inr z.0, z.1)
    by false e more (inl q) = (inl q, subst (λ (z : Here S F). void z.run ≡ false) q e)
    by false e more (inr j) = let z = more j in (inr z.0, z.1)

-- ---- they are enough

module _ {S F : Type 0} (steps : Steps S F) (rest : S → ℕ) (before : S → S → Bool) (void : S → Bool) (like : S → List F → S → List F → Type 0) (ends : S → S → Type 0) where
  -- what is like a run that is not void is not void
  abbrev AlikeLive : Type 0
  AlikeLive = (s t : S) (o p : List F) → like s o t p → void s ≡ false → void t ≡ false

  -- a run is not void by going on
  abbrev GoLive : Type 0
  GoLive = (s t : S) → void s ≡ false → steps.onward s ≡ Goes t → void t ≡ false

  abbrev EndLive : Type 0
  EndLive = (s t : S) → void s ≡ false → steps.onward s ≡ Ends t → void t ≡ false

  taken_awake : AlikeLive → (made : List (Here S F)) (k ripe : ℕ) (o : List F) (s : S) → void s ≡ false → IsTaken steps rest before void like ends made k ripe o s → IsTaken steps rest before void like ends (awake void made) k ripe o s
  taken_awake live made k ripe o s v (inl i) = inl (in_awake void (record { faults = k; ripe = ripe; owed = o; run = s }) made v i)
  taken_awake live made k ripe o s v (inr c) =
      inr (record { by = c.by; made_by = in_awake void c.by made (live s c.by.run o c.by.owed c.alike v) c.made_by; alike = c.alike; ripe_there = c.ripe_there; earlier = c.earlier })

  enough_awake : AlikeLive → GoLive → EndLive → (budget : ℕ) (made : List (Here S F)) (found : List (Found S)) → IsEnough steps rest before void like ends budget made found
      → IsEnough steps rest before void like ends budget (awake void made) (alive void found)
  enough_awake live go stop budget made found e = record {
    goes = λ h t i q. let z = awake_in void h made i in taken_awake live made h.faults (length h.owed) h.owed t (go h.run t z.1 q) (e.goes h t z.0 q);
    ended = λ h t i q. let z = awake_in void h made i in in_alive void h.faults t found (stop h.run t z.1 q) (e.ended h t z.0 q);
    befalls = λ h f t i l j q n. let z = awake_in void h made i in taken_awake live made (suc h.faults) (length h.owed) (h.owed ++ option_to_list (steps.later f)) t n (e.befalls h f t z.0 l j q n);
    comes = λ h place f t i l g q n. let z = awake_in void h made i in taken_awake live made h.faults (length (remove h.owed place)) (remove h.owed place) t n (e.comes h place f t z.0 l g q n);
  }

  -- each of all runs that is not void was found, or an earlier one that is not void and came to the same end
  pub each_alive : GoLive → EndLive → (bounds : Bounds) (first : S) (found : List (Found S)) → Likens steps rest before void like ends bounds.steps → like first [] first [] → rest first < bounds.steps
      → IsDone steps rest before void like ends bounds first (whole first) [] found → (k : ℕ) (s : S) → IsOneBy steps bounds.steps bounds.faults first (Run k s) → void s ≡ false → IsFound steps rest before void like ends (alive void found) k s
  each_alive go stop bounds first found l alike few h k s one real =
      either (void first)
      (λ nothing.
      let same = same_run k one.0 s first (itself steps bounds.steps one.0 one.0 0 bounds.steps [] first (Run k s) (l.nothing first nothing) one.2) in
      absurd (true_and_false (subst (λ (z : S). void z ≡ true) (sym same) nothing) real))
      (λ begins.
      no_end steps rest before void like ends bounds.steps bounds.faults (awake void h.0) (alive void found) first l alike few
      (enough_awake l.not_void go stop bounds.faults h.0 found (enough steps rest before void like ends bounds.faults bounds.steps first (whole first) h.1 h.0 found (whole_alone steps rest before void like ends bounds.faults bounds.steps first h.0 h.1 h.3) h.2))
      (taken_awake l.not_void h.0 0 0 [] first begins (parts_taken steps rest before void like ends bounds.faults bounds.steps first (whole first) h.1 h.0 found (whole_alone steps rest before void like ends bounds.faults bounds.steps first h.0 h.1 h.3) h.2 (beginning first) (inl refl) begins)) k s one real)
