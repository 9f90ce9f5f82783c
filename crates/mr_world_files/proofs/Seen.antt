-- A marked world shows the sequential execution's files, by rising name.
use Rattle.std.proofs.Common.{◌≡◌, ℕ, zero, suc, ◌+◌, ◌<◌, ◌≤◌, refl, sym, ◌∙◌, ap, subst, Bool, true, false, ◌||◌, List, [], ◌∷◌, ◌++◌, length, slice_get, nat_lt, ltb-true, ltb-false, Option, Some, None, if◌then◌else◌, is_some, ◌⊎◌, inl, inr, arith}
use Rattle.std.specs.List.{flat_map}
use Rattle.std.proofs.lemmas.Bool.{true≢false}
use Rattle.mr_paths.specs.Layout as layout
use Rattle.mr_world_model.specs.Ids.{Name, Path, TaskId, dest, is_hidden, name_eq, part, part_name, reduce_of}
use Rattle.mr_world_model.specs.Content.{Content, Listed, Entry, File, Dir, children, entry_at}
use Rattle.mr_world_model.specs.Packets.{Config}
use Rattle.mr_world_model.specs.World.{World, Event}
use Rattle.mr_world_model.specs.Claims.{Limits, IsMarked, IsComplete, IsReduce, IsVisible, world_of}
use Rattle.mr_world_model.specs.Results.{visible, visible_at, visible_in, file_as}
use Rattle.mr_world_model.specs.Sequential.{Job, JobLaws, BoundsOutputs, IsFaithful, SeesSequential}
use Rattle.mr_world_model.proofs.Lists.{Each}
use Rattle.mr_world_model.proofs.Names.{name_eq-refl, part_name-visible}
use Rattle.mr_world_model.proofs.Listing.{has_name, children-names}
use Rattle.mr_world_model.proofs.Sorted.{children-rise}
use Rattle.mr_world_model.proofs.Outcomes.{marker_means_complete}
use Rattle.mr_world_model.proofs.Faithful.{marked_files_are_sequential}
use Rattle.mr_world_files.specs.Shown.{named, ShowsSequential, MarkedWorldsShowSequential}
use Rattle.mr_world_files.proofs.Part_order.{names_from, is_one, names-rise, shown}

text_of : Option (List ℕ) → List ℕ
text_of None = []
text_of (Some t) = t

-- the texts of n reduces, from a on
texts_from : (ℕ → Option (List ℕ)) → ℕ → ℕ → List (List ℕ)
texts_from f a zero = []
texts_from f a (suc n) = text_of (f a) ∷ texts_from f (a + 1) n

count : (f : ℕ → Option (List ℕ)) (a n : ℕ) → length (texts_from f a n) ≡ n
unfolding texts_from
count f a zero = refl
count f a (suc n) = ap suc (count f (a + 1) n)

text-at : (f : ℕ → Option (List ℕ)) (a n i : ℕ) → i < n → slice_get (texts_from f a n) i ≡ Some (text_of (f (a + i)))
unfolding texts_from
text-at f a zero i h = absurd (omega (arith, h))
text-at f a (suc n) zero h = let e : a ≡ a + 0 = omega arith in ap (λ x. Some (text_of (f x))) e
text-at f a (suc n) (suc i) h = let e : (a + 1) + i ≡ a + suc i = omega arith in text-at f (a + 1) n i (omega (arith, h)) ∙ ap (λ x. Some (text_of (f x))) e

one-of : (a n r : ℕ) → a ≤ r → r < a + n → is_one (names_from a n) (layout.part r) ≡ true
one-of a zero r h z = absurd (omega (arith, h, z))
one-of a (suc n) r h z = by (λ l. one-of (a + 1) n r l (omega (arith, z))) (order a r h)
  where
    order : (a r : ℕ) → a ≤ r → (a ≡ r) ⊎ (a + 1 ≤ r)
    order a r h = by (nat_lt a r) refl
      where
        by : (t : Bool) → nat_lt a r ≡ t → (a ≡ r) ⊎ (a + 1 ≤ r)
        by true t = let l = ltb-true a r t in inr (omega (arith, l))
        by false f = let l = ltb-false a r f in inl (omega (arith, h, l))

    or-true : (b : Bool) → (b || true) ≡ true
    or-true true = refl
    or-true false = refl

    by : (a + 1 ≤ r → is_one (names_from (a + 1) n) (layout.part r) ≡ true) → (a ≡ r) ⊎ (a + 1 ≤ r) → is_one (names_from a (suc n)) (layout.part r) ≡ true
    by go (inl e) = rw (subst (λ x. name_eq (layout.part a) (layout.part x) ≡ true) e (name_eq-refl (layout.part a))) refl
    by go (inr l) = rw (go l) (or-true (name_eq (layout.part a) (layout.part r)))

module _ (job : Job) (cfg : Config) (w : World) (sees : SeesSequential job cfg w) (few : cfg.reduces ≤ 1000) where
  abbrev text : ℕ → Option (List ℕ)
  text r = job.sequential cfg.reduces r cfg.splits

  there : (r : ℕ) → r < cfg.reduces → (text r ≡ Some (text_of (text r))) × (entry_at w.content (dest ++ layout.part r ∷ []) ≡ Some (File (text_of (text r)) true))
  unfolding text_of part_name
  there r l =
      let s = sees (reduce_of cfg.job r) (record { is = refl; small = l }) in
      (s.1 ∙ ap (λ o. Some (text_of o)) (sym s.1), s.2 ∙ ap (λ o. Some (File (text_of o) true)) (sym s.1))

  at-part : (r : ℕ) → r < cfg.reduces → visible_at w.content (layout.part r) ≡ (layout.part r, text_of (text r)) ∷ []
  unfolding part_name
  at-part r l = rw (part_name-visible (reduce_of cfg.job r)) (ap (file_as (layout.part r)) (there r l).1)

  pairs : (a n : ℕ) → a + n ≤ cfg.reduces → flat_map (visible_at w.content) (names_from a n) ≡ named a (texts_from text a n)
  unfolding texts_from
  pairs a zero h = refl
  pairs a (suc n) h = (λ i. at-part a (omega (arith, h)) i ++ pairs (a + 1) n (omega (arith, h)) i)

  are-listed : (a n : ℕ) → a + n ≤ cfg.reduces → Each (λ m. has_name (children w.content dest) m ≡ true) (names_from a n)
  are-listed a zero h = tt
  are-listed a (suc n) h = (children-names w.content dest (layout.part a) ∙ ap is_some (there a (omega (arith, h))).1, are-listed (a + 1) n (omega (arith, h)))

  module _ (only : (p : Path) → IsVisible p → ((t : TaskId) → IsReduce cfg t → p ≡ part t → ⊥) → entry_at w.content p ≡ None) where
    silent-name : (m : Name) → (is_one (names_from 0 cfg.reduces) m ≡ true) ⊎ (visible_at w.content m ≡ [])
    unfolding part_name
    silent-name m = by (is_one (names_from 0 cfg.reduces) m) refl (is_hidden m) refl
      where
        apart : is_one (names_from 0 cfg.reduces) m ≡ false → (t : TaskId) → IsReduce cfg t → dest ++ m ∷ [] ≡ part t → ⊥
        apart f t l e =
            let q : m ≡ layout.part t.number = cc in
            let small = l.small in
            let below : t.number < 0 + cfg.reduces = omega (arith, small) in
            true≢false (sym (one-of 0 cfg.reduces t.number (omega arith) below) ∙ (ap (is_one (names_from 0 cfg.reduces)) (sym q) ∙ f))

        by : (b : Bool) → is_one (names_from 0 cfg.reduces) m ≡ b → (h : Bool) → is_hidden m ≡ h → (is_one (names_from 0 cfg.reduces) m ≡ true) ⊎ (visible_at w.content m ≡ [])
        by true t h q = inl t
        by false f true q = inr (rw q refl)
        by false f false q = inr (rw q (ap (file_as m) (only (dest ++ m ∷ []) (m, [], refl, q) (apart f))))

    are-silent : (ls : List Listed) → Each (λ (l : Listed). (is_one (names_from 0 cfg.reduces) l.name ≡ true) ⊎ (visible_at w.content l.name ≡ [])) ls
    are-silent [] = tt
    are-silent (l ∷ ls) = (silent-name l.name, are-silent ls)

    pub shows : ShowsSequential job cfg w
    unfolding visible_in
    shows = record {
      files = texts_from text 0 cfg.reduces;
      count = count text 0 cfg.reduces;
      texts = λ r l. let e : 0 + r ≡ r = omega arith in text-at text 0 cfg.reduces r l ∙ (ap (λ x. Some (text_of (text x))) e ∙ sym (there r l).0);
      seen = shown (visible_at w.content) (children w.content dest) (names_from 0 cfg.reduces) (children-rise w.content dest) (names-rise 0 cfg.reduces (omega (arith, few)))
          (are-listed 0 cfg.reduces (omega arith)) (are-silent (children w.content dest)) ∙ pairs 0 cfg.reduces (omega arith);
    }

pub marked_worlds_show : MarkedWorldsShowSequential
marked_worlds_show job cfg within laws bound few es faithful marked =
    shows job cfg (world_of cfg within es) (marked_files_are_sequential job cfg within laws bound es faithful marked) few (marker_means_complete cfg within es marked).only
