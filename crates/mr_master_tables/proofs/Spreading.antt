-- The spots of tasks: their order, and what their launches and the records tell of a node.
use Rattle.std.proofs.Common.{ℕ, ◌<◌, ◌≤◌, ◌⊎◌, inl, inr, ◌≡◌, refl, sym, ◌∙◌, ap, Bool, true, false, cond, nat_eq, List, [], Option, Some, None, Result, Ok, Err, IfSome, IfNone, OnOk, true≢false, if◌then◌else◌, arith}
use Rattle.std.proofs.lemmas.Bool.Decides.{nat_tests}
use Rattle.std.specs.BTreeMap.Range.{IsLeBy}
use Rattle.std.specs.Map.{lookup}
use Rattle.std.specs.Ordering.{is_gt, nat_cmp, ordering_then}
use Rattle.std.specs.declared.cmp.Ordering.{Ordering}
use Rattle.std.specs.declared.cmp.Ordering.TheVariants.{Less, Equal, Greater}
use Rattle.mr_ids.specs.Attempt.{Attempt}
use Rattle.mr_ids.specs.declared.id.TaskKind.{TaskKind}
use Rattle.mr_ids.specs.declared.id.TaskKind.TheVariants.{Map}
use Rattle.mr_grant.specs.Attempts.{same_attempt}
use Rattle.mr_grant.proofs.Same.{same-is}
use Rattle.mr_history.specs.declared.record.Record.{Record}
use Rattle.mr_master_model.specs.declared.launch.Launch.{Launch}
use Rattle.mr_master_tables.specs.declared.spots.Spot.{Spot}
use Rattle.mr_master_tables.specs.Earlier.{TellsSpots, IsUntold}
use Rattle.mr_master_tables.specs.Spots.{Spread, spot_cmp, has_spot, IsSpread, IsFree}

-- ---- the order of spots

pub not-true : (b : Bool) → (b ≡ true → ⊥) → b ≡ false
not-true true h = absurd (h refl)
not-true false h = refl

pub kept-true : (b c : Bool) → c ≡ true → cond b true c ≡ true
kept-true true c e = refl
kept-true false c e = e

-- a spot that is not behind another lies on a lower node, or on the same with no greater number
pub le-is : (a b : Spot) → IsLeBy spot_cmp a b → (a.node < b.node) ⊎ ((a.node ≡ b.node) × (a.number ≤ b.number))
le-is a b le = by (nat_cmp a.node b.node) refl le
  where
    by : (o : Ordering) → nat_cmp a.node b.node ≡ o → is_gt (ordering_then o (nat_cmp a.number b.number)) ≡ false → (a.node < b.node) ⊎ ((a.node ≡ b.node) × (a.number ≤ b.number))
    by Less q e = inl (grind (arith, nat_tests, q))
    by Equal q e = inr (grind (arith, nat_tests, q), grind (arith, nat_tests, e))
    by Greater q e = absurd (true≢false e)

pub le-here : (n k j : ℕ) → k ≤ j → is_gt (ordering_then (nat_cmp n n) (nat_cmp k j)) ≡ false
le-here n k j le = ap (λ o. is_gt (ordering_then o (nat_cmp k j))) same ∙ less
  where
    same : nat_cmp n n ≡ Equal
    same = grind (arith, nat_tests)

    less : is_gt (nat_cmp k j) ≡ false
    less = grind (arith, nat_tests, le)

-- ---- launches

pub free-is : (s : Spread) (launched : List (Attempt × Launch)) (kind : TaskKind) (node number : ℕ) → IsSpread s launched → has_spot s kind node number ≡ false → IsFree launched kind node number
free-is s launched kind node number spread none a l at k n = not-true (nat_eq l.node node) (λ e.
    let same : l.node ≡ node = grind (arith, nat_tests, e) in
    true≢false (sym (spread a l at) ∙ (λ i. has_spot s (k i) (same i) (n i)) ∙ none))

-- the same of what the records tell
pub untold-is : (s : Spread) (rs : List Record) (node number : ℕ) → TellsSpots s rs → has_spot s Map node number ≡ false → IsUntold rs node number
untold-is s rs node number tells none a p at k n = not-true (nat_eq p.node node) (λ e.
    let same : p.node ≡ node = grind (arith, nat_tests, e) in
    true≢false (sym (tells a p at) ∙ (λ i. has_spot s (k i) (same i) (n i)) ∙ none))

pub spread-more : (old new : Spread) (launched : List (Attempt × Launch)) → ((kind : TaskKind) (node number : ℕ) → has_spot old kind node number ≡ true → has_spot new kind node number ≡ true) → IsSpread old launched → IsSpread new launched
spread-more old new launched grows spread a l at = grows a.task.kind l.node a.task.number (spread a l at)

pub spread-none : (s : Spread) → IsSpread s []
spread-none s a l at = cc

some-is : {A : Type 0} {x y : A} → Some x ≡ Some y → x ≡ y
some-is e = cc

-- one launch more, whose spot is there
pub spread-one : (s : Spread) (old new : List (Attempt × Launch)) (attempt : Attempt) (launch : Launch) → IsSpread s old → has_spot s attempt.task.kind launch.node attempt.task.number ≡ true
    → ((a : Attempt) → lookup (same_attempt a) new ≡ (if same_attempt attempt a then Some launch else lookup (same_attempt a) old)) → IsSpread s new
spread-one s old new attempt launch spread there looked a l at = by (same_attempt attempt a) refl (sym (looked a) ∙ at)
  where
    by : (b : Bool) → same_attempt attempt a ≡ b → (if b then Some launch else lookup (same_attempt a) old) ≡ Some l → has_spot s a.task.kind l.node a.task.number ≡ true
    by true q e =
        let who : attempt ≡ a = same-is attempt a q in
        let what : launch ≡ l = some-is e in
        (λ i. has_spot s (sym who i).task.kind (sym what i).node (sym who i).task.number) ∙ there
    by false q e = spread a l e

-- ---- answers

pub if-some : {A : Type 0} (o : Option A) (P Q : A → Type 0) → ((x : A) → P x → Q x) → IfSome o P → IfSome o Q
if-some None P Q f h = h
if-some (Some x) P Q f h = f x h

pub if-none : {A : Type 0} (o : Option A) (P Q : Type 0) → (P → Q) → IfNone o P → IfNone o Q
if-none None P Q f h = f h
if-none (Some x) P Q f h = h

pub on-ok : {A E : Type 0} (r : Result A E) (P Q : Type 0) → (P → Q) → OnOk r P → OnOk r Q
on-ok (Ok x) P Q f h = f h
on-ok (Err e) P Q f h = h
