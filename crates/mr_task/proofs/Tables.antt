-- What is kept of attempts, as the map of the code keeps it.
use Rattle.std.proofs.Common.{◌≡◌, ℕ, Bool, true, false, cond, nat_lt, slice_get, List, [], ◌∷◌, length, Some, None, is_some, refl, sym, ap, ◌∙◌, true≢false, arith}
use Rattle.std.proofs.lemmas.Bool.Decides.{nat_tests}
use Rattle.std.proofs.lemmas.List.Folds.{find_at}
use Rattle.std.proofs.lemmas.Option.{slice_get_past}
use Rattle.std.specs.List.{position, position_or_len, find}
use Rattle.std.specs.Map.{keys_of}
use Rattle.indexmap.specs.Layout.{set_value_at}
use Rattle.indexmap.specs.IndexMap.{insert_entry}
use Rattle.indexmap.proofs.MapLemmas.{Found, Found-position, insert_entry-first, some_index}
use Rattle.mr_ids.specs.Attempt.{Attempt}
use Rattle.mr_grant.specs.Attempts.{same_attempt}
use Rattle.mr_task.specs.declared.attempts.Entry.{Entry}
use Rattle.mr_task.specs.Steps.{entry_in, with_entry}

-- an insertion at an attempt that is there
there : (a : Attempt) (es : List (Attempt × Entry)) (w : Entry) → is_some (entry_in es a) ≡ true → insert_entry same_attempt es a w ≡ with_entry es a w
there a [] w h = absurd (true≢false (sym h))
there a (e ∷ es) w h = by (same_attempt a e.0) h (there a es w)
  where
    by : (b : Bool) → is_some (cond b (Some e.1) (entry_in es a)) ≡ true → (is_some (entry_in es a) ≡ true → insert_entry same_attempt es a w ≡ with_entry es a w)
        → cond b ((e.0, w) ∷ es) (e ∷ insert_entry same_attempt es a w) ≡ cond b ((e.0, w) ∷ es) (e ∷ with_entry es a w)
    by true h go = refl
    by false h go = ap (λ l. e ∷ l) (go h)

pub place-set : (a : Attempt) (es : List (Attempt × Entry)) (i : ℕ) (w : Entry) → position (same_attempt a) (keys_of es) ≡ Some i → set_value_at es i w ≡ with_entry es a w
place-set a es i w p =
    let f : Found (same_attempt a) es i = Found-position (same_attempt a) es i p in
    sym (insert_entry-first same_attempt a w es i f.first) ∙ there a es w (sym (some_index (same_attempt a) es) ∙ ap is_some p)

-- an attempt of which nothing is kept
pub absent-set : (a : Attempt) (es : List (Attempt × Entry)) (w : Entry) → is_some (entry_in es a) ≡ false → with_entry es a w ≡ es
absent-set a [] w h = refl
absent-set a (e ∷ es) w h = by (same_attempt a e.0) h (absent-set a es w)
  where
    by : (b : Bool) → is_some (cond b (Some e.1) (entry_in es a)) ≡ false → (is_some (entry_in es a) ≡ false → with_entry es a w ≡ es) → cond b ((e.0, w) ∷ es) (e ∷ with_entry es a w) ≡ e ∷ es
    by true h go = absurd (true≢false h)
    by false h go = ap (λ l. e ∷ l) (go h)

-- ---- the first that passes, by its place

pub found : {X : Type 0} (p : X → Bool) (xs : List X) (i : ℕ) → position p xs ≡ Some i → find p xs ≡ slice_get xs i
found p xs i e = find_at p xs ∙ by (nat_lt (position_or_len p xs) (length xs)) e
  where
    by : (b : Bool) → cond b (Some (position_or_len p xs)) None ≡ Some i → slice_get xs (position_or_len p xs) ≡ slice_get xs i
    by true h = let q : position_or_len p xs ≡ i = cc in ap (slice_get xs) q
    by false h = absurd (cc)

pub missed : {X : Type 0} (p : X → Bool) (xs : List X) → position p xs ≡ None → find p xs ≡ None
missed p xs e = find_at p xs ∙ by (nat_lt (position_or_len p xs) (length xs)) refl e
  where
    by : (b : Bool) → nat_lt (position_or_len p xs) (length xs) ≡ b → cond b (Some (position_or_len p xs)) None ≡ None → slice_get xs (position_or_len p xs) ≡ None
    by true h e = absurd (cc)
    by false h e = slice_get_past xs (position_or_len p xs) (grind (arith, nat_tests))
