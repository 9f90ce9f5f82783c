-- Of what a search made and found, what is not void is enough: void runs have no end, and nothing comes of them.
use Rattle.std.proofs.Common.{◌≡◌, ◌⊎◌, inl, inr, ℕ, suc, Bool, true, false, List, [], ◌∷◌, ◌++◌, length, remove, option_to_list, refl, sym, subst}
use Rattle.std.specs.Prelude.{if◌then◌else◌}
use Rattle.mr_explore_search.specs.Steps.{Goes, Ends, Steps}
use Rattle.mr_explore_search.specs.Runs.{Found, Run, PassesLimit}
use Rattle.mr_explore_search.specs.Laws.{In}
use Rattle.mr_explore_alike.specs.Leaving.{Here, IsEnough, IsTaken}
use Rattle.mr_explore_least.proofs.Earlier.{true_and_false}

same_run : {S : Type 0} (k n : ℕ) (s t : S) → Run k s ≡ Run n t → s ≡ t
same_run k n s t e = cc

-- ---- runs that were found

module _ {S : Type 0} (void : S → Bool) where
  -- those that have an end
  abbrev pub alive : List (Found S) → List (Found S)
  alive [] = []
  alive (Run k s ∷ rs) = if void s then alive rs else Run k s ∷ alive rs
  alive (PassesLimit ∷ rs) = alive rs

  in_alive : (k : ℕ) (s : S) (rs : List (Found S)) → void s ≡ false → In (Run k s) rs → In (Run k s) (alive rs)
  in_alive k s [] v i = absurd i
  in_alive k s (PassesLimit ∷ rs) v (inl q) = absurd (cc)
  in_alive k s (PassesLimit ∷ rs) v (inr i) = in_alive k s rs v i
  in_alive k s (Run n t ∷ rs) v i = by (void t) refl i (λ j. in_alive k s rs v j) where
    by : (b : Bool) → void t ≡ b → (Run n t ≡ Run k s) ⊎ In (Run k s) rs → (In (Run k s) rs → In (Run k s) (alive rs)) → In (Run k s) (if b then alive rs else Run n t ∷ alive rs)
    by true e (inl q) more = absurd (true_and_false e (subst (λ (z : S). void z ≡ false) (sym (same_run n k t s q)) v))
    by true e (inr j) more = more j
    by false e (inl q) more = inl q
    by false e (inr j) more = inr (more j)

  pub alive_in : (k : ℕ) (s : S) (rs : List (Found S)) → In (Run k s) (alive rs) → In (Run k s) rs × (void s ≡ false)
  alive_in k s [] i = absurd i
  alive_in k s (PassesLimit ∷ rs) i = let z = alive_in k s rs i in (inr z.0, z.1)
  alive_in k s (Run n t ∷ rs) i = by (void t) refl i (λ j. alive_in k s rs j) where
    by : (b : Bool) → void t ≡ b → In (Run k s) (if b then alive rs else Run n t ∷ alive rs) → (In (Run k s) (alive rs) → In (Run k s) rs × (void s ≡ false)) → ((Run n t ≡ Run k s) ⊎ In (Run k s) rs) × (void s ≡ false)
    by true e j more = let z = more j in (inr z.0, z.1)
    by false e (inl q) more = (inl q, subst (λ (z : S). void z ≡ false) (same_run n k t s q) e)
    by false e (inr j) more = let z = more j in (inr z.0, z.1)

-- ---- places that were made

module _ {S F : Type 0} (void : S → Bool) where
  abbrev pub awake : List (Here S F) → List (Here S F)
  awake [] = []
  awake (h ∷ hs) = if void h.run then awake hs else h ∷ awake hs

  in_awake : (h : Here S F) (hs : List (Here S F)) → void h.run ≡ false → In h hs → In h (awake hs)
  in_awake h [] v i = absurd i
  in_awake h (g ∷ hs) v i = by (void g.run) refl i (λ j. in_awake h hs v j) where
    by : (b : Bool) → void g.run ≡ b → (g ≡ h) ⊎ In h hs → (In h hs → In h (awake hs)) → In h (if b then awake hs else g ∷ awake hs)
    by true e (inl q) more = absurd (true_and_false e (subst (λ (z : Here S F). void z.run ≡ false) (sym q) v))
    by true e (inr j) more = more j
    by false e (inl q) more = inl q
    by false e (inr j) more = inr (more j)

  -- one that is awake was made, and is not void
  awake_in : (h : Here S F) (hs : List (Here S F)) → In h (awake hs) → In h hs × (void h.run ≡ false)
  awake_in h [] i = absurd i
  awake_in h (g ∷ hs) i = by (void g.run) refl i (λ j. awake_in h hs j) where
    by : (b : Bool) → void g.run ≡ b → In h (if b then awake hs else g ∷ awake hs) → (In h (awake hs) → In h hs × (void h.run ≡ false)) → ((g ≡ h) ⊎ In h hs) × (void h.run ≡ false)
    by true e j more = let z = more j in (inr z.0, z.1)
    by false e (inl q) more = (inl q, subst (λ (z : Here S F). void z.run ≡ false) q e)
    by false e (inr j) more = let z = more j in (inr z.0, z.1)

-- ---- what is enough

-- A run that is like one which is not void is not void either, nor is what comes of it by itself.
pub record StaysAlive {S F : Type 0} (steps : Steps S F) (void : S → Bool) (like : S → List F → S → List F → Type 0) : Type 0 where
  pub alike : (s t : S) (o p : List F) → like s o t p → void s ≡ false → void t ≡ false
  pub goes : (s t : S) → void s ≡ false → steps.onward s ≡ Goes t → void t ≡ false
  pub ends : (s t : S) → void s ≡ false → steps.onward s ≡ Ends t → void t ≡ false

module _ {S F : Type 0} (steps : Steps S F) (rest : S → ℕ) (before : S → S → Bool) (void : S → Bool) (like : S → List F → S → List F → Type 0) (ends : S → S → Type 0) (stays : StaysAlive steps void like) (made : List (Here S F)) where
  pub taken_awake : (k ripe : ℕ) (o : List F) (s : S) → void s ≡ false → IsTaken steps rest before void like ends made k ripe o s → IsTaken steps rest before void like ends (awake void made) k ripe o s
  taken_awake k ripe o s v (inl i) = inl (in_awake void (record { faults = k; ripe = ripe; owed = o; run = s }) made v i)
  taken_awake k ripe o s v (inr c) = inr (record {
    by = c.by;
    made_by = in_awake void c.by made (stays.alike s c.by.run o c.by.owed c.alike v) c.made_by;
    alike = c.alike;
    ripe_there = c.ripe_there;
    earlier = c.earlier;
  })

  pub enough_awake : (budget : ℕ) (found : List (Found S)) → IsEnough steps rest before void like ends budget made found → IsEnough steps rest before void like ends budget (awake void made) (alive void found)
  enough_awake budget found e = record {
    goes = λ h t i q. let z = awake_in void h made i in taken_awake h.faults (length h.owed) h.owed t (stays.goes h.run t z.1 q) (e.goes h t z.0 q);
    ended = λ h t i q. let z = awake_in void h made i in in_alive void h.faults t found (stays.ends h.run t z.1 q) (e.ended h t z.0 q);
    befalls = λ h f t i l j q n. let z = awake_in void h made i in taken_awake (suc h.faults) (length h.owed) (h.owed ++ option_to_list (steps.later f)) t n (e.befalls h f t z.0 l j q n);
    comes = λ h place f t i l g q n. let z = awake_in void h made i in taken_awake h.faults (length (remove h.owed place)) (remove h.owed place) t n (e.comes h place f t z.0 l g q n);
  }
