-- The records that a history tells, and who wins by them.
use Rattle.std.proofs.Common.{◌≡◌, ◌≤◌, ◌<◌, ℕ, zero, suc, ◌+◌, refl, sym, ◌∙◌, ap, List, [], ◌∷◌, map, drop, length, get_or, Option, Some, None, if◌then◌else◌, Bool, true, false, arith}
use Rattle.std.proofs.lemmas.List.{at_drop_more}
use Rattle.std.proofs.Math.ListN.{drop_of_length-le}
use Rattle.std.specs.List.{range_with_len}
use Rattle.std.specs.Option.{option_or}
use Rattle.mr_ids.specs.Attempt.{Attempt}
use Rattle.mr_ids.specs.Same.{same_task}
use Rattle.mr_ids.specs.declared.id.TaskId.{TaskId}
use Rattle.mr_history.specs.declared.record.Record.{Record}
use Rattle.mr_history.specs.declared.record.Record.TheVariants.{ReduceSucceeded}
use Rattle.mr_history.specs.Calls as history
use Rattle.mr_history.specs.Reading as reading
use Rattle.mr_history.specs.Reading.{records_of}
use Rattle.mr_world_model.specs.Ids.{task_eq, reduce_of}
use Rattle.mr_world_model.specs.Records.{records_below, winner_in}
use Rattle.mr_world_model.specs.Claims.{records, winner}
use Rattle.mr_world_model.specs.World.{World}
use Rattle.mr_world_model.proofs.Bytes.{tells-below}
use Rattle.mr_world_state.specs.declared.parts.Parts.{Parts}
use Rattle.mr_world_state.specs.Standing.{Standing}
use Rattle.mr_world.specs.inner.Winning.{success_of}
use Rattle.mr_world_state.proofs.Bounds.{small}

-- ---- the first success

next-winner : (r : Record) (rs : List Record) (t : TaskId) → winner_in (r ∷ rs) t ≡ option_or (success_of r t) (winner_in rs t)
unfolding winner_in task_eq
next-winner (ReduceSucceeded a bytes) rs t = by (same_task a.task t)
  where
    by : (b : Bool) → (if b then Some a else winner_in rs t) ≡ option_or (if b then Some a else None) (winner_in rs t)
    by true = refl
    by false = refl
next-winner _ rs t = refl

pub none-told : (t : TaskId) → winner_in [] t ≡ None
unfolding winner_in
none-told t = refl

-- at place i of the records
pub at-place : (rs : List Record) (t : TaskId) (i : ℕ) (r : Record) → i < length rs → r ≡ get_or rs i r → winner_in (drop i rs) t ≡ option_or (success_of r t) (winner_in (drop (i + 1) rs) t)
at-place rs t i r l is = at_drop_more (λ (xs : List Record). winner_in xs t) rs i r l ∙ (ap (λ x. winner_in (x ∷ drop (i + 1) rs) t) (sym is) ∙ next-winner r (drop (i + 1) rs) t)

pub found-there : (rs : List Record) (t : TaskId) (i : ℕ) (r : Record) (a : Attempt) → i < length rs → r ≡ get_or rs i r → Some a ≡ success_of r t → winner_in (drop i rs) t ≡ winner_in rs t → Some a ≡ winner_in rs t
found-there rs t i r a l is found kept = ap (λ o. option_or o (winner_in (drop (i + 1) rs) t)) found ∙ (sym (at-place rs t i r l is) ∙ kept)

pub not-there : (rs : List Record) (t : TaskId) (i : ℕ) (r : Record) → i < length rs → r ≡ get_or rs i r → None ≡ success_of r t → winner_in (drop i rs) t ≡ winner_in rs t → winner_in (drop (i + 1) rs) t ≡ winner_in rs t
not-there rs t i r l is none kept = ap (λ o. option_or o (winner_in (drop (i + 1) rs) t)) none ∙ (sym (at-place rs t i r l is) ∙ kept)

pub none-left : (rs : List Record) (t : TaskId) (i : ℕ) → length rs ≤ i → winner_in (drop i rs) t ≡ winner_in rs t → None ≡ winner_in rs t
none-left rs t i l kept = sym (none-told t) ∙ (ap (λ (xs : List Record). winner_in xs t) (sym (drop_of_length-le rs l)) ∙ kept)

-- ---- of a world

pub records-are : (p : Parts) (w : World) (told : List Record) → Standing p w → told ≡ history.records p.history → told ≡ records w
records-are p w told s is =
    let most = s.stores.sound.bound in
    is ∙ (sym (tells-below p.history w.history p.history.fence s.stores.tells (omega (arith, most, s.stores.sound.count))) ∙ ap (λ n. records_below w.history (suc n)) s.stores.fence)

pub winner-is : (p : Parts) (w : World) (told : List Record) (t : TaskId) (o : Option Attempt) → told ≡ records w → o ≡ winner_in told t → o ≡ winner w t
winner-is p w told t o are is = is ∙ ap (λ rs. winner_in rs t) are

pub winners-are : (p : Parts) (w : World) (told : List Record) (n : ℕ) (all : List (Option Attempt)) → told ≡ records w → all ≡ map (λ r. winner_in told (reduce_of p.config.job r)) (range_with_len 0 n) → all ≡ map (λ r. winner w (reduce_of p.config.job r)) (range_with_len 0 n)
winners-are p w told n all are is = is ∙ ap (λ rs. map (λ r. winner_in rs (reduce_of p.config.job r)) (range_with_len 0 n)) are

-- a generation that was not started has no bytes
no-bytes : records_of [] ≡ []
unfolding reading.records_as reading.whole_lines
no-bytes = refl

pub none-stable : (p : Parts) (w : World) (k : ℕ) → Standing p w → ((1 ≤ k) × (k ≤ p.history.fence) × (k ≤ 1000) → ⊥) → k ≤ w.fence → records_of [] ≡ (w.history k).stable
none-stable p w zero s n l = no-bytes ∙ sym s.stores.tells.none.0
none-stable p w (suc k) s n l = absurd (n (omega arith, (let f = s.stores.fence in omega (arith, f, l)), (let f = (small s.reached).fence in omega (arith, f, l))))
