-- The outcome that was told first, and the files that are seen, stay.
use Rattle.std.proofs.Common.{ℕ, ◌≡◌, refl, sym, ◌∙◌, ap, subst, Bool, true, false, not, List, [], ◌∷◌, ◌++◌, Option, Some, None, if◌then◌else◌, inl, inr}
use Rattle.std.specs.List.{flat_map, filter_map, cons_option}
use Rattle.std.specs.Option.{option_or, option_map}
use Rattle.std.specs.FinMap as finite
use Rattle.std.specs.FinMap.Entries.{where_key}
use Rattle.mr_paths.specs.Path.{path_cmp, path_total, path_exact, child_of, only_name, strip}
use Rattle.mr_paths.proofs.Paths.{append-strip}
use Rattle.mr_names_tree.specs.declared.node.Node.{Node}
use Rattle.mr_names_tree.specs.Listing.{line_of, entry_of}
use Rattle.mr_world_model.specs.Ids.{Name, Path, dest, is_hidden}
use Rattle.mr_world_model.specs.Content.{Content, Listed, children, entry_at}
use Rattle.mr_world_model.specs.Packets.{Config, Packet, Envelope, Outcome}
use Rattle.mr_world_model.specs.World.{Event, opening_world}
use Rattle.mr_world_model.specs.Effect.{run}
use Rattle.mr_world_model.specs.Sending.{sent}
use Rattle.mr_world_model.specs.Claims.{In, Limits, IsToldOutcome, IsVisible, world_of}
use Rattle.mr_world_model.specs.Results.{told_by, first_told, outcome, file_as, visible_at, visible_in, ResultsStay}
use Rattle.mr_world_model.proofs.Basic.{along, run-append}
use Rattle.mr_world_model.proofs.Entries.{entries-without}
use Rattle.mr_world_model.proofs.Outcomes.{no_later_event, outcomes_agree}

-- ---- the outcome

told-is : (p : Packet) (b : Bool) → told_by p ≡ Some b → p ≡ Outcome b
told-is (Outcome c) b q = let d : c ≡ b = cc in ap Outcome d
told-is p b q = cc

first-in : (xs : List Envelope) (b : Bool) → first_told xs ≡ Some b → (e : Envelope) × In e xs × (e.body ≡ Outcome b)
first-in [] b q = cc
first-in (x ∷ xs) b q = by (told_by x.body) refl q (first-in xs b)
  where
    by : (o : Option Bool) → told_by x.body ≡ o → option_or o (first_told xs) ≡ Some b → (first_told xs ≡ Some b → (e : Envelope) × In e xs × (e.body ≡ Outcome b)) → (e : Envelope) × In e (x ∷ xs) × (e.body ≡ Outcome b)
    by (Some c) p q go = (x, inl refl, told-is x.body b (p ∙ q))
    by None p q go = let r = go q in (r.0, inr r.1, r.2)

some-first : (xs : List Envelope) (e : Envelope) (b : Bool) → In e xs → e.body ≡ Outcome b → first_told xs ≡ None → ⊥
some-first [] e b i t n = i
some-first (x ∷ xs) e b (inl q) t n =
    let told : told_by x.body ≡ Some b = ap (λ (z : Envelope). told_by z.body) q ∙ ap told_by t in
    let none : option_or (Some b) (first_told xs) ≡ None = subst (λ o. option_or o (first_told xs) ≡ None) told n in cc
some-first (x ∷ xs) e b (inr i) t n = by (told_by x.body) n (some-first xs e b i t)
  where
    by : (o : Option Bool) → option_or o (first_told xs) ≡ None → (first_told xs ≡ None → ⊥) → ⊥
    by None n go = go n
    by (Some c) n go = cc

first-stays : (xs ys : List Envelope) (b : Bool) → first_told xs ≡ Some b → first_told (xs ++ ys) ≡ Some b
first-stays [] ys b q = cc
first-stays (x ∷ xs) ys b q = by (told_by x.body) q (first-stays xs ys b)
  where
    by : (o : Option Bool) → option_or o (first_told xs) ≡ Some b → (first_told xs ≡ Some b → first_told (xs ++ ys) ≡ Some b) → option_or o (first_told (xs ++ ys)) ≡ Some b
    by (Some c) q go = q
    by None q go = go q

-- ---- what is visible

-- a path directly beneath the destination whose name is not hidden
abbrev seen_name : Option Name → Bool
seen_name None = false
seen_name (Some n) = not (is_hidden n)

abbrev is_seen : Path → Bool
is_seen p = seen_name (child_of dest p)

child-is : (p : Path) (n : Name) (o : Option Path) → strip dest p ≡ o → only_name o ≡ Some n → p ≡ dest ++ n ∷ []
child-is p n None e q = cc
child-is p n (Some []) e q = cc
child-is p n (Some (m ∷ [])) e q = let d : m ≡ n = cc in append-strip dest p (m ∷ []) e ∙ ap (λ z. dest ++ z ∷ []) d
child-is p n (Some (m ∷ x ∷ rest)) e q = cc

seen-visible : (p : Path) → is_seen p ≡ true → IsVisible p
seen-visible p t = by (child_of dest p) refl t
  where
    by : (o : Option Name) → child_of dest p ≡ o → seen_name o ≡ true → IsVisible p
    by None q t = cc
    by (Some n) q t = (n, [], child-is p n (strip dest p) refl q, hidden (is_hidden n) t)
      where
        hidden : (b : Bool) → not b ≡ true → b ≡ false
        hidden false e = refl
        hidden true e = cc

abbrev Looks : Content → Content → Type 0
Looks c d = (p : Path) → IsVisible p → entry_at d p ≡ entry_at c p

-- the entries that are seen are those of one content
seen-same : (c d : Content) → Looks c d → finite.retain_keys d is_seen ≡ finite.retain_keys c is_seen
seen-same c d l = finite.same_map path_total path_exact (finite.retain_keys d is_seen) (finite.retain_keys c is_seen)
    (λ q. finite.get-retain_keys d is_seen q (alike q) ∙ (here q (is_seen q) refl ∙ sym (finite.get-retain_keys c is_seen q (alike q))))
  where
    alike : (q x : Path) → path_cmp q x ≡ Rattle.std.specs.declared.cmp.Ordering.TheVariants.Equal → is_seen x ≡ is_seen q
    alike q x e = ap is_seen (sym (path_exact q x e))

    here : (q : Path) (b : Bool) → is_seen q ≡ b → (if b then finite.get d q else None) ≡ (if b then finite.get c q else None)
    here q true e = l q (seen-visible q e)
    here q false e = refl

-- only what is seen makes a line that counts
abbrev Part : Content → Listed → List (Name × List ℕ)
Part c line = visible_at c line.name

kept-lines : (b : Bool) (e : Path × Node) (es : List (Path × Node)) →
    filter_map (line_of dest) (if b then e ∷ es else es) ≡ (if b then cons_option (line_of dest e) (filter_map (line_of dest) es) else filter_map (line_of dest) es)
kept-lines true e es = refl
kept-lines false e es = refl

seen-lines : (c : Content) (es : List (Path × Node)) → flat_map (Part c) (filter_map (line_of dest) es) ≡ flat_map (Part c) (filter_map (line_of dest) (where_key path_cmp is_seen es))
seen-lines c [] = refl
seen-lines c (e ∷ es) = by (child_of dest e.0) (seen-lines c es) ∙ ap (flat_map (Part c)) (sym (kept-lines (is_seen e.0) e (where_key path_cmp is_seen es)))
  where
    by : (o : Option Name) → flat_map (Part c) (filter_map (line_of dest) es) ≡ flat_map (Part c) (filter_map (line_of dest) (where_key path_cmp is_seen es)) →
        flat_map (Part c) (cons_option (option_map (λ name. entry_of name e.1) o) (filter_map (line_of dest) es))
        ≡ flat_map (Part c) (if seen_name o then cons_option (option_map (λ name. entry_of name e.1) o) (filter_map (line_of dest) (where_key path_cmp is_seen es)) else filter_map (line_of dest) (where_key path_cmp is_seen es))
    by None go = go
    by (Some n) go = at (is_hidden n) refl
      where
        at : (b : Bool) → is_hidden n ≡ b → (Part c (entry_of n e.1) ++ flat_map (Part c) (filter_map (line_of dest) es))
            ≡ flat_map (Part c) (if not b then entry_of n e.1 ∷ filter_map (line_of dest) (where_key path_cmp is_seen es) else filter_map (line_of dest) (where_key path_cmp is_seen es))
        at false h = ap (λ z. Part c (entry_of n e.1) ++ z) go
        at true h = ap (λ (b : Bool). (if b then [] else file_as n (entry_at c (dest ++ n ∷ []))) ++ flat_map (Part c) (filter_map (line_of dest) es)) h ∙ go

same-at : (c d : Content) → Looks c d → (n : Name) → visible_at d n ≡ visible_at c n
same-at c d l n = by (is_hidden n) refl
  where
    by : (b : Bool) → is_hidden n ≡ b → (if b then [] else file_as n (entry_at d (dest ++ n ∷ []))) ≡ (if b then [] else file_as n (entry_at c (dest ++ n ∷ [])))
    by true e = refl
    by false e = ap (file_as n) (l (dest ++ n ∷ []) (n, [], refl, e))

visible-lines : (c : Content) → visible_in c ≡ flat_map (Part c) (filter_map (line_of dest) (finite.entries (finite.retain_keys c is_seen)))
unfolding visible_in children
visible-lines c = seen-lines c (finite.entries c) ∙ ap (λ es. flat_map (Part c) (filter_map (line_of dest) es)) (sym (entries-without c is_seen))

visible-same : (c d : Content) → Looks c d → visible_in d ≡ visible_in c
visible-same c d l =
    let x = seen-same c d l in let y = same-at c d l in
    visible-lines d ∙ ((λ i. flat_map (λ line. y line.name i) (filter_map (line_of dest) (finite.entries (x i)))) ∙ sym (visible-lines c))

pub results_stay : (cfg : Config) (within : Limits) → ResultsStay cfg within
unfolding run
results_stay cfg within = record {
  outcome_told = told;
  told_outcome = first;
  outcome_stays = λ es fs b q. subst (λ w. outcome w ≡ Some b) (sym (run-append cfg within opening_world es fs))
      (along (λ w. outcome w ≡ Some b) cfg within (λ w e o n. first-stays w.bag (sent cfg w e) b o) (world_of cfg within es) fs q);
  marked_stays = λ es fs m. visible-same (world_of cfg within es).content (world_of cfg within (es ++ fs)).content (no_later_event cfg within es fs m).1;
  told_stays = λ es fs b q. visible-same (world_of cfg within es).content (world_of cfg within (es ++ fs)).content ((outcomes_agree cfg within).settled es fs b (told es b q)).0;
}
  where
    told : (es : List Event) (b : Bool) → outcome (world_of cfg within es) ≡ Some b → IsToldOutcome (world_of cfg within es) b
    told es b q = first-in (world_of cfg within es).bag b q

    first : (es : List Event) (b : Bool) → IsToldOutcome (world_of cfg within es) b → outcome (world_of cfg within es) ≡ Some b
    first es b t = by (outcome (world_of cfg within es)) refl
      where
        by : (o : Option Bool) → outcome (world_of cfg within es) ≡ o → o ≡ Some b
        by None n = absurd (some-first (world_of cfg within es).bag t.0 b t.1 t.2 n)
        by (Some c) q = ap Some ((outcomes_agree cfg within).agree es c b (told es c q) t)
