-- What holds of all who are listed holds of each who lives.
use Rattle.std.proofs.Common.{◌≡◌, ◌≤◌, ◌<◌, ◌+◌, ℕ, zero, suc, Bool, true, false, List, [], ◌∷◌, ◌++◌, map, filter, length, cond, nat_eq, nat_le, Some, None, refl, sym, ap₂, subst, arith}
use Rattle.std.specs.Prelude.{◌&&◌, if◌then◌else◌}
use Rattle.std.specs.List.{flat_map, list_all, range_with_len}
use Rattle.std.proofs.lemmas.Bool.{and_parts, eqb-true, leb-true, leb-false}
use Rattle.std.proofs.lemmas.Bool.Decides.{nat_tests}
use Rattle.mr_packet.specs.declared.packet.ContainerId.{ContainerId}
use Rattle.mr_world_model.specs.Packets.{Config}
use Rattle.mr_world_model.specs.Hearing.{Launched}
use Rattle.mr_world_model.specs.Duties.{seen}
use Rattle.mr_world_model.specs.World.{World, Event, seen_by}
use Rattle.mr_world_model.specs.Claims.{In, Limits, world_of}
use Rattle.mr_world_model.proofs.Beside.{numbers-always}
use Rattle.mr_world_model.proofs.Cluster.{open_place, launched_as}
use Rattle.mr_world_model.proofs.Ranges.{always-placed}
use Rattle.mr_play.specs.mr_world.specs.Readings.{launched_by, living, wish_by}
use Rattle.mr_explore.specs.Vain.{waits, waits_by}
use Rattle.mr_explore.proofs.Waiting.{AllWait}

-- ---- lists

module _ (test keep : ContainerId → Bool) where
  head_passes : (x : ContainerId) (xs : List ContainerId) → keep x ≡ true → list_all test (filter keep (x ∷ xs)) ≡ true → test x ≡ true
  head_passes x xs kept all = (and_parts (test x) (list_all test (filter keep xs)) (subst (λ b. list_all test (cond b (x ∷ filter keep xs) (filter keep xs)) ≡ true) kept all)).0

  tail_passes : (x : ContainerId) (xs : List ContainerId) → list_all test (filter keep (x ∷ xs)) ≡ true → list_all test (filter keep xs) ≡ true
  tail_passes x xs all = by (keep x) all where
    by : (b : Bool) → list_all test (cond b (x ∷ filter keep xs) (filter keep xs)) ≡ true → list_all test (filter keep xs) ≡ true
    by true h = (and_parts (test x) (list_all test (filter keep xs)) h).1
    by false h = h

  both_pass : (xs ys : List ContainerId) → list_all test (filter keep (xs ++ ys)) ≡ true → (list_all test (filter keep xs) ≡ true) × (list_all test (filter keep ys) ≡ true)
  both_pass [] ys all = (refl, all)
  both_pass (x ∷ xs) ys all = let rest = both_pass xs ys (tail_passes x (xs ++ ys) all) in (by (keep x) refl rest.0, rest.1) where
    by : (b : Bool) → keep x ≡ b → list_all test (filter keep xs) ≡ true → list_all test (cond b (x ∷ filter keep xs) (filter keep xs)) ≡ true
    by true kept r = ap₂ (λ (a b : Bool). a && b) (head_passes x (xs ++ ys) kept all) r
    by false kept r = r

  -- the containers of a master from a number on
  abbrev numbered : ℕ → ℕ → ℕ → List ContainerId
  numbered k a n = map (λ i. record { app = k; number = i }) (range_with_len a n)

  one_passes : (q : ContainerId) (a n : ℕ) → a ≤ q.number → q.number < a + n → list_all test (filter keep (numbered q.app a n)) ≡ true → keep q ≡ true → test q ≡ true
  one_passes q a zero from to all kept = absurd (omega (arith, from, to))
  one_passes q a (suc n) from to all kept = by (nat_eq a q.number) refl (λ behind. one_passes q (a + 1) n behind (omega (arith, to)) (tail_passes (record { app = q.app; number = a }) (numbered q.app (a + 1) n) all) kept) where
    past : nat_eq a q.number ≡ false → a + 1 ≤ q.number
    past e = grind (arith, nat_tests)

    by : (b : Bool) → nat_eq a q.number ≡ b → (a + 1 ≤ q.number → test q ≡ true) → test q ≡ true
    by true e more = let same = eqb-true a q.number e in
        subst (λ (i : ℕ). test (record { app = q.app; number = i }) ≡ true) same
        (head_passes (record { app = q.app; number = a }) (numbered q.app (a + 1) n) (subst (λ (i : ℕ). keep (record { app = q.app; number = i }) ≡ true) (sym same) kept) all)
    by false e more = more (past e)

  block_passes : (f : ℕ → List ContainerId) (k a n : ℕ) → a ≤ k → k < a + n → list_all test (filter keep (flat_map f (range_with_len a n))) ≡ true → list_all test (filter keep (f k)) ≡ true
  block_passes f k a zero from to all = absurd (omega (arith, from, to))
  block_passes f k a (suc n) from to all =
      let parts = both_pass (f a) (flat_map f (range_with_len (a + 1) n)) all in
      by (nat_eq a k) refl parts.0 (λ behind. block_passes f k (a + 1) n behind (omega (arith, to)) parts.1) where
        past : nat_eq a k ≡ false → a + 1 ≤ k
        past e = grind (arith, nat_tests)

        by : (b : Bool) → nat_eq a k ≡ b → list_all test (filter keep (f a)) ≡ true → (a + 1 ≤ k → list_all test (filter keep (f k)) ≡ true) → list_all test (filter keep (f k)) ≡ true
        by true e here more = subst (λ (i : ℕ). list_all test (filter keep (f i)) ≡ true) (eqb-true a k e) here
        by false e here more = more (past e)

-- ---- who lives was launched

record WasLaunched (cfg : Config) (w : World) (c : ContainerId) : Type 0 where
  first : 1 ≤ c.app
  last : c.app ≤ w.fence
  number : c.number < length (seen_by cfg w c.app).launched

not_above : (cfg : Config) (w : World) (k : ℕ) (l : Launched) → ((j : ℕ) → w.fence < j → w.master_past j ≡ []) → In l (seen_by cfg w k).launched → k ≤ w.fence
unfolding seen
not_above cfg w k l unborn i = by (nat_le k w.fence) refl where
  by : (b : Bool) → nat_le k w.fence ≡ b → k ≤ w.fence
  by true e = leb-true k w.fence e
  by false e = absurd (subst (λ h. In l (seen cfg k h).launched) (unborn k (leb-false k w.fence e)) i)

was_launched : (cfg : Config) (within : Limits) (es : List Event) (c : ContainerId) → (world_of cfg within es).is_alive c ≡ true → WasLaunched cfg (world_of cfg within es) c
was_launched cfg within es c alive =
    let w = world_of cfg within es in
    let known = (always-placed cfg within es).sures.known in
    let at = open_place cfg w known.cluster c alive in
    let l = launched_as c at.0.attempt at.0.node at.0.incarnation in
    record {
      first = ((numbers-always cfg within es).ranged c.app l at.2).0;
      last = not_above cfg w c.app l known.honest.unborn at.2;
      number = (known.cluster.distinct c.app).numbers l at.2;
    }

-- ---- all who live

listed_passes : (cfg : Config) (w : World) (test : ContainerId → Bool) (c : ContainerId) → WasLaunched cfg w c → list_all test (living cfg w) ≡ true → w.is_alive c ≡ true → test c ≡ true
unfolding living
listed_passes cfg w test c l all alive =
    let first = l.first in
    let last = l.last in
    let number = l.number in
    one_passes test w.is_alive c 0 (length (seen_by cfg w c.app).launched) (omega arith) (omega (arith, number))
    (block_passes test w.is_alive (launched_by cfg w) c.app 1 w.fence first (omega (arith, last)) all) alive

pub all_who_live : (cfg : Config) (within : Limits) (es : List Event) → list_all (waits cfg (world_of cfg within es)) (living cfg (world_of cfg within es)) ≡ true → AllWait cfg (world_of cfg within es)
all_who_live cfg within es all c alive =
    let w = world_of cfg within es in
    subst (λ (b : Bool). waits_by (if b then Some (wish_by cfg (w.place c) (w.container_past c)) else None) ≡ true) alive
    (listed_passes cfg w (waits cfg w) c (was_launched cfg within es c alive) all alive)
