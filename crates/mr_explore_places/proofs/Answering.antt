-- What a search answers.
use Rattle.std.proofs.Common.{◌≡◌, ◌⊎◌, inl, inr, ℕ, Bool, false, List, [], ◌∷◌, ◌++◌, Option, Some, None, Result, Ok, Err, refl, sym, ◌∙◌, ap, subst}
use Rattle.mr_explore_search.specs.Steps.{Steps}
use Rattle.mr_explore_search.specs.Runs.{Found, Run}
use Rattle.mr_explore_search.specs.declared.ended.Ended.{Ended}
use Rattle.mr_explore_search.specs.declared.fault.WalkFault.{WalkFault}
use Rattle.mr_explore_alike.specs.Leaving.{Here}
use Rattle.mr_explore_places.specs.Places.{IsOnItsWay, beginning}
use Rattle.mr_explore_places.specs.Keeping.{AreMade, IsHeld, KeepsTrail}
use Rattle.mr_explore_places.specs.Fronts.{Underway}
use Rattle.mr_explore_places.specs.Levels.{IsLeft, IsOnTrail, IsOnTrails, trail_of}
use Rattle.mr_explore_places.specs.Searching.{AreKnownOf, HasDone, HasSearched, Seeks, SeeksApart, WillBeTaken}
use Rattle.mr_explore_places.specs.State.{Answers, AnswersApart, HasFound, IsPart, State, fault_of, whole}
use Rattle.mr_explore_places.specs.declared.bounds.Bounds.{Bounds}
use Rattle.mr_explore_places.specs.declared.level.Level.{Level}
use Rattle.mr_explore_places.specs.declared.level.Level.TheVariants as level
use Rattle.mr_explore_places.specs.declared.part.Next.{Next}
use Rattle.mr_explore_places.specs.declared.part.Next.TheVariants as next
use Rattle.mr_explore_places.specs.declared.stores.Stores.{Stores}
use Rattle.mr_explore_search.specs.Laws.{In}
use Rattle.mr_explore_places.proofs.Lists.{in_either, in_left, in_right}
use Rattle.mr_explore_places.proofs.Ways.{begins}
use Rattle.mr_explore_places.proofs.Leading.{is_in_trail, is_on_trail, left_behind}
use Rattle.mr_explore_places.proofs.Doing.{knows_more, nothing_done}

module _ {S F : Type 0} (steps : Steps S F) (rest : S → ℕ) (before : S → S → Bool) (void : S → Bool) (like : S → List F → S → List F → Type 0) (ends : S → S → Type 0) where
  pub starts : (bounds : Bounds) (run : S) (kept : Stores S F) (going : List (Underway S F)) (h : Here S F) (ls left : List (Level S F)) → going ≡ [] → left ≡ level.Begin h ∷ ls → h ≡ beginning run → ls ≡ [] → ((x : Here S F) → IsHeld kept x → ⊥)
      → HasFound steps rest before void like ends bounds run (whole run) [] [] (record { bounds = bounds; kept = kept; going = going; left = left; fault = None })
  starts bounds run kept going h ls left alone e first none empty =
      (refl, refl, ([], [], subst (λ (z : List (Underway S F)). HasDone steps rest before void like ends bounds.faults bounds.steps run (whole run) [] [] z (left ++ []) [] []) (sym alone) (subst (λ (z : List (Level S F)). HasDone steps rest before void like ends bounds.faults bounds.steps run (whole run) [] [] [] (z ++ []) [] []) (sym is) nothing), λ x i. absurd (empty x i), λ x i. absurd i)) where
        is : left ≡ whole run
        is = e ∙ (ap (λ (z : Here S F). level.Begin z ∷ ls) first ∙ ap (λ (z : List (Level S F)). level.Begin (beginning run) ∷ z) none)

        way : (x : Here S F) → IsLeft steps bounds.faults (whole run) x → IsOnItsWay steps bounds.faults bounds.steps run bounds.steps x
        way x (inl q) = subst (λ (z : Here S F). IsOnItsWay steps bounds.faults bounds.steps run bounds.steps z) q (begins steps bounds.faults bounds.steps run)
        way x (inr i) = absurd i

        no-trail : (x : Here S F) → IsOnTrails steps bounds.faults (whole run) x → In x []
        no-trail x (inl i) = absurd i
        no-trail x (inr i) = absurd i

        nothing : HasDone steps rest before void like ends bounds.faults bounds.steps run (whole run) [] [] [] (whole run) [] []
        nothing = nothing_done steps rest before void like ends bounds.faults bounds.steps run (whole run) [] way no-trail

  pub answered : (s now t : State S F) (r : Result (Option (Ended S)) WalkFault) → s ≡ now → Seeks steps rest before void like ends s.bounds.faults s.bounds.steps s.kept s.going s.left r t.kept t.going t.left → t.bounds ≡ s.bounds → t.fault ≡ fault_of r
      → (bounds : Bounds) (first : S) (parts given : List (Level S F)) (found : List (Found S)) → HasFound steps rest before void like ends bounds first parts given found now → Answers steps rest before void like ends bounds first parts given found r t
  answered s now t r q seek same fault bounds first parts given found h = by r seek fault where
    old : HasFound steps rest before void like ends bounds first parts given found s
    old = subst (λ (z : State S F). HasFound steps rest before void like ends bounds first parts given found z) (sym q) h

    sought : (r : Result (Option (Ended S)) WalkFault) → Seeks steps rest before void like ends s.bounds.faults s.bounds.steps s.kept s.going s.left r t.kept t.going t.left → Seeks steps rest before void like ends bounds.faults bounds.steps s.kept s.going s.left r t.kept t.going t.left
    sought r k = subst (λ (b : Bounds). Seeks steps rest before void like ends b.faults b.steps s.kept s.going s.left r t.kept t.going t.left) old.0 k

    by : (r : Result (Option (Ended S)) WalkFault) → Seeks steps rest before void like ends s.bounds.faults s.bounds.steps s.kept s.going s.left r t.kept t.going t.left → t.fault ≡ fault_of r → Answers steps rest before void like ends bounds first parts given found r t
    by (Ok (Some e)) k f = let d = sought (Ok (Some e)) k first parts given found old.2 in ((same ∙ old.0, f, d), d.2.runs (Run e.faults e.run) (inl refl))
    by (Ok None) k f =
        let d = sought (Ok None) k first parts given found old.2 in (
          (
            same ∙ old.0,
            f,
            subst (λ (z : List (Level S F)). HasSearched steps rest before void like ends bounds.faults bounds.steps first parts t.kept t.going (z ++ given) found) (sym d.2)
                (subst (λ (z : List (Underway S F)). HasSearched steps rest before void like ends bounds.faults bounds.steps first parts t.kept z given found) (sym d.1) d.0),
          ),
          (d.0.0, d.0.1, d.0.2, d.0.4),
        )
    by (Err x) k f = (f, sought (Err x) k first parts given found old.2)

  pub starts_part : (bounds : Bounds) (kept : Stores S F) (going : List (Underway S F)) (l part : Level S F) (ls left : List (Level S F)) → going ≡ [] → left ≡ l ∷ ls → l ≡ part → ls ≡ [] → ((x : Here S F) → IsHeld kept x → ⊥)
      → (first : S) → IsPart steps bounds first part → HasFound steps rest before void like ends bounds first (part ∷ []) [] [] (record { bounds = bounds; kept = kept; going = going; left = left; fault = None })
  starts_part bounds kept going l part ls left alone e same none empty first ways =
      (refl, refl, ([], trail_of steps bounds.faults part, subst (λ (z : List (Underway S F)). HasDone steps rest before void like ends bounds.faults bounds.steps first (part ∷ []) (trail_of steps bounds.faults part) [] z (left ++ []) [] []) (sym alone) (subst (λ (z : List (Level S F)). HasDone steps rest before void like ends bounds.faults bounds.steps first (part ∷ []) (trail_of steps bounds.faults part) [] [] (z ++ []) [] []) (sym is) nothing), λ x i. absurd (empty x i), known)) where
        is : left ≡ part ∷ []
        is = e ∙ (ap (λ (z : Level S F). z ∷ ls) same ∙ ap (λ (z : List (Level S F)). part ∷ z) none)

        way : (x : Here S F) → IsLeft steps bounds.faults (part ∷ []) x → IsOnItsWay steps bounds.faults bounds.steps first bounds.steps x
        way x (inl i) = ways x i
        way x (inr i) = absurd i

        known : (x : Here S F) → In x (trail_of steps bounds.faults part) → IsOnTrails steps bounds.faults (part ∷ []) x
        known x i = inl (is_on_trail steps bounds.faults part x i)

        trodden : (x : Here S F) → IsOnTrails steps bounds.faults (part ∷ []) x → In x (trail_of steps bounds.faults part)
        trodden x (inl i) = is_in_trail steps bounds.faults part x i
        trodden x (inr i) = absurd i

        nothing : HasDone steps rest before void like ends bounds.faults bounds.steps first (part ∷ []) (trail_of steps bounds.faults part) [] [] (part ∷ []) [] []
        nothing = nothing_done steps rest before void like ends bounds.faults bounds.steps first (part ∷ []) (trail_of steps bounds.faults part) way trodden

  -- a search that has nothing before it
  pub starts_idle : (bounds : Bounds) (kept : Stores S F) (going : List (Underway S F)) (left : List (Level S F)) → going ≡ [] → left ≡ [] → ((x : Here S F) → IsHeld kept x → ⊥)
      → (first : S) → HasFound steps rest before void like ends bounds first [] [] [] (record { bounds = bounds; kept = kept; going = going; left = left; fault = None })
  starts_idle bounds kept going left alone is empty first =
      (refl, refl, ([], [], subst (λ (z : List (Underway S F)). HasDone steps rest before void like ends bounds.faults bounds.steps first [] [] [] z (left ++ []) [] []) (sym alone) (subst (λ (z : List (Level S F)). HasDone steps rest before void like ends bounds.faults bounds.steps first [] [] [] [] (z ++ []) [] []) (sym is) nothing), λ x i. absurd (empty x i), λ x i. absurd i)) where
        way : (x : Here S F) → IsLeft steps bounds.faults [] x → IsOnItsWay steps bounds.faults bounds.steps first bounds.steps x
        way x i = absurd i

        nothing : HasDone steps rest before void like ends bounds.faults bounds.steps first [] [] [] [] [] [] []
        nothing = nothing_done steps rest before void like ends bounds.faults bounds.steps first [] [] way (λ x i. absurd i)

  -- a part more comes before it
  module _ (bounds : Bounds) (first : S) (parts given : List (Level S F)) (part : Level S F) (going : List (Underway S F)) (left : List (Level S F)) (known made : List (Here S F)) (found : List (Found S)) (ways : IsPart steps bounds first part) where
    abbrev DoneOf : List (Level S F) → List (Here S F) → List (Level S F) → Type 0
    DoneOf ps ks ls = HasDone steps rest before void like ends bounds.faults bounds.steps first ps ks [] going ls made found

    abbrev Knows : List (Here S F)
    Knows = trail_of steps bounds.faults part ++ known

    abbrev Will : Here S F → Type 0
    Will x = WillBeTaken steps rest before void like ends bounds.faults bounds.steps [] (made ++ Knows) x

    taken_part : DoneOf parts known (left ++ given) → DoneOf (part ∷ parts) Knows (part ∷ left ++ given)
    taken_part old = record {
      on_way = way;
      go_on = d.go_on;
      runs = d.runs;
      trodden = trodden;
      began = begins-too;
      goes = d.goes;
      ended = d.ended;
      befalls = λ h x i j v. more x (d.befalls h x i j v);
      comes = λ h x i j v. more x (d.comes h x i j v);
    } where
      d : DoneOf parts Knows (left ++ given)
      d = knows_more steps rest before void like ends bounds.faults bounds.steps first parts (trail_of steps bounds.faults part) known [] going (left ++ given) made found old

      way : (x : Here S F) → IsLeft steps bounds.faults (part ∷ left ++ given) x → IsOnItsWay steps bounds.faults bounds.steps first bounds.steps x
      way x (inl i) = ways x i
      way x (inr i) = d.on_way x i

      trodden : (x : Here S F) → IsOnTrails steps bounds.faults (part ∷ left ++ given) x → In x (made ++ Knows)
      trodden x (inl i) = in_right x made Knows (in_left x (trail_of steps bounds.faults part) known (is_in_trail steps bounds.faults part x i))
      trodden x (inr i) = d.trodden x i

      more : (x : Here S F) → Will x ⊎ IsLeft steps bounds.faults (left ++ given) x → Will x ⊎ IsLeft steps bounds.faults (part ∷ left ++ given) x
      more x (inl w) = inl w
      more x (inr i) = inr (inr i)

      begins-too : (x : Here S F) → IsLeft steps bounds.faults (part ∷ parts) x → void x.run ≡ false → Will x ⊎ IsLeft steps bounds.faults (part ∷ left ++ given) x
      begins-too x (inl i) v = inr (inl i)
      begins-too x (inr i) v = more x (d.began x i v)

    -- the places along which its faults are tried are known of it
    known_too : AreKnownOf steps rest before void like ends bounds.faults bounds.steps parts known → AreKnownOf steps rest before void like ends bounds.faults bounds.steps (part ∷ parts) Knows
    known_too k x i = by (in_either x (trail_of steps bounds.faults part) known i) where
      by : In x (trail_of steps bounds.faults part) ⊎ In x known → IsOnTrails steps bounds.faults (part ∷ parts) x
      by (inl j) = inl (is_on_trail steps bounds.faults part x j)
      by (inr j) = inr (k x j)

    -- as many are made or known
    kept_too : (kept : Stores S F) → AreMade kept (made ++ known) → AreMade kept (made ++ Knows)
    kept_too kept k h i = still h (k h i) where
      still : (h : Here S F) → In h (made ++ known) → In h (made ++ Knows)
      still h j = by (in_either h made known j) where
        by : In h made ⊎ In h known → In h (made ++ Knows)
        by (inl m) = in_left h made Knows m
        by (inr m) = in_right h made Knows (in_right h (trail_of steps bounds.faults part) known m)

  pub takes_part : (bounds : Bounds) (first : S) (parts given : List (Level S F)) (part l : Level S F) (found : List (Found S)) (s t : State S F) → t.bounds ≡ s.bounds → t.fault ≡ s.fault → t.kept ≡ s.kept → t.going ≡ s.going → t.left ≡ l ∷ s.left → l ≡ part
      → HasFound steps rest before void like ends bounds first parts given found s → IsPart steps bounds first part → HasFound steps rest before void like ends bounds first (part ∷ parts) given found t
  takes_part bounds first parts given part l found s t b f k a e same h ways =
      let knows = trail_of steps bounds.faults part ++ h.2.1 in
      let done = taken_part bounds first parts given part s.going s.left h.2.1 h.2.0 found ways h.2.2 in
      let is : t.left ≡ part ∷ s.left = e ∙ ap (λ (z : Level S F). z ∷ s.left) same in (
        b ∙ h.0,
        f ∙ h.1,
        (
          h.2.0,
          knows,
          subst (λ (z : List (Underway S F)). HasDone steps rest before void like ends bounds.faults bounds.steps first (part ∷ parts) knows [] z (t.left ++ given) h.2.0 found) (sym a) (subst (λ (z : List (Level S F)). HasDone steps rest before void like ends bounds.faults bounds.steps first (part ∷ parts) knows [] s.going (z ++ given) h.2.0 found) (sym is) done),
          subst (λ (z : Stores S F). AreMade z (h.2.0 ++ knows)) (sym k) (kept_too bounds first parts given part s.going s.left h.2.1 h.2.0 found ways s.kept h.2.3),
          known_too bounds first parts given part s.going s.left h.2.1 h.2.0 found ways h.2.4,
        ),
      )

  -- places along which faults of a part are tried are kept
  pub keeps_trail : (bounds : Bounds) (first : S) (parts given : List (Level S F)) (part : Level S F) (found : List (Found S)) (s t : State S F) → t.bounds ≡ s.bounds → t.fault ≡ s.fault → t.going ≡ s.going → t.left ≡ s.left
      → KeepsTrail steps bounds.faults part s.kept t.kept → HasFound steps rest before void like ends bounds first (part ∷ parts) given found s → HasFound steps rest before void like ends bounds first (part ∷ parts) given found t
  keeps_trail bounds first parts given part found s t b f a e k h = (b ∙ h.0, f ∙ h.1, (h.2.0, knows, subst (λ (z : List (Underway S F)). Done z (t.left ++ given)) (sym a) (subst (λ (z : List (Level S F)). Done s.going (z ++ given)) (sym e) more), λ x i. kept x (k x i), known)) where
    own : List (Here S F)
    own = trail_of steps bounds.faults part

    knows : List (Here S F)
    knows = own ++ h.2.1

    Done : List (Underway S F) → List (Level S F) → Type 0
    Done going ls = HasDone steps rest before void like ends bounds.faults bounds.steps first (part ∷ parts) knows [] going ls h.2.0 found

    more : Done s.going (s.left ++ given)
    more = knows_more steps rest before void like ends bounds.faults bounds.steps first (part ∷ parts) own h.2.1 [] s.going (s.left ++ given) h.2.0 found h.2.2

    still : (x : Here S F) → In x h.2.0 ⊎ In x h.2.1 → In x (h.2.0 ++ knows)
    still x (inl i) = in_left x h.2.0 knows i
    still x (inr i) = in_right x h.2.0 knows (in_right x own h.2.1 i)

    kept : (x : Here S F) → IsOnTrail steps bounds.faults part x ⊎ IsHeld s.kept x → In x (h.2.0 ++ knows)
    kept x (inl i) = in_right x h.2.0 knows (in_left x own h.2.1 (is_in_trail steps bounds.faults part x i))
    kept x (inr i) = still x (in_either x h.2.0 h.2.1 (h.2.3 x i))

    known : (x : Here S F) → In x knows → IsOnTrails steps bounds.faults (part ∷ parts) x
    known x i = by (in_either x own h.2.1 i) where
      by : In x own ⊎ In x h.2.1 → IsOnTrails steps bounds.faults (part ∷ parts) x
      by (inl j) = inl (is_on_trail steps bounds.faults part x j)
      by (inr j) = h.2.4 x j

  pub answered_apart : (s now t : State S F) (r : Result (Option (Next S F)) WalkFault) → s ≡ now → SeeksApart steps rest before void like ends s.bounds.faults s.bounds.steps s.kept s.going s.left r t.kept t.going t.left → t.bounds ≡ s.bounds
      → t.fault ≡ fault_of r → (bounds : Bounds) (first : S) (parts given : List (Level S F)) (found : List (Found S)) → HasFound steps rest before void like ends bounds first parts given found now
      → AnswersApart steps rest before void like ends bounds first parts given found r t
  answered_apart s now t r q seek same fault bounds first parts given found h = by r seek fault where
    old : HasFound steps rest before void like ends bounds first parts given found s
    old = subst (λ (z : State S F). HasFound steps rest before void like ends bounds first parts given found z) (sym q) h

    sought : (r : Result (Option (Next S F)) WalkFault) → SeeksApart steps rest before void like ends s.bounds.faults s.bounds.steps s.kept s.going s.left r t.kept t.going t.left
        → SeeksApart steps rest before void like ends bounds.faults bounds.steps s.kept s.going s.left r t.kept t.going t.left
    sought r k = subst (λ (b : Bounds). SeeksApart steps rest before void like ends b.faults b.steps s.kept s.going s.left r t.kept t.going t.left) old.0 k

    by : (r : Result (Option (Next S F)) WalkFault) → SeeksApart steps rest before void like ends s.bounds.faults s.bounds.steps s.kept s.going s.left r t.kept t.going t.left → t.fault ≡ fault_of r
        → AnswersApart steps rest before void like ends bounds first parts given found r t
    by (Ok (Some (next.Run e))) k f = let d = sought (Ok (Some (next.Run e))) k first parts given found old.2 in ((same ∙ old.0, f, d), d.2.runs (Run e.faults e.run) (inl refl))
    by (Ok (Some (next.Part l))) k f =
        let d = sought (Ok (Some (next.Part l))) k first parts given found old.2 in
        ((same ∙ old.0, f, d), λ x i. d.2.on_way x (left_behind steps bounds.faults t.left (l ∷ given) x (inl i)))
    by (Ok None) k f =
        let d = sought (Ok None) k first parts given found old.2 in (
          (
            same ∙ old.0,
            f,
            subst (λ (z : List (Level S F)). HasSearched steps rest before void like ends bounds.faults bounds.steps first parts t.kept t.going (z ++ given) found) (sym d.2)
                (subst (λ (z : List (Underway S F)). HasSearched steps rest before void like ends bounds.faults bounds.steps first parts t.kept z given found) (sym d.1) d.0),
          ),
          (d.0.0, d.0.1, d.0.2, d.0.4),
        )
    by (Err x) k f = (f, sought (Err x) k first parts given found old.2)
