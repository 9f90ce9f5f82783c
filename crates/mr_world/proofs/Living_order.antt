-- Who is kept, in order, is who lives, as the definition lists them.
use Rattle.std.proofs.Common.{◌≡◌, ℕ, zero, suc, ◌+◌, ◌≤◌, ◌<◌, refl, sym, ◌∙◌, ap, subst, Bool, true, false, ◌&&◌, ◌||◌, List, [], ◌∷◌, ◌++◌, map, filter, length, cond, nat_eq, nat_le, arith}
use Rattle.std.proofs.lemmas.Bool.{eqb-true, leb-true, leb-false}
use Rattle.std.proofs.lemmas.Bool.Decides.{nat_tests}
use Rattle.std.proofs.lemmas.List.Kept.{IsStrictlySortedBy-filter}
use Rattle.std.proofs.lemmas.Cmp.{then_total, on_total, nat_cmp_total}
use Rattle.std.proofs.lemmas.Map.Lookups.{btree_set_from_contains, CmpEqualImpliesEq}
use Rattle.std.specs.Cmp.{IsTotalOrder}
use Rattle.std.specs.List.{AllByRecursion, flat_map, list_any, range_with_len}
use Rattle.std.specs.List.Sorted.{IsStrictlySortedBy}
use Rattle.std.specs.Ordering.{is_eq, nat_cmp, ordering_then}
use Rattle.std.specs.declared.cmp.Ordering.TheVariants.{Less, Equal}
use Rattle.mr_world_model.specs.Ids.{ContainerId}
use Rattle.mr_world_model.specs.Packets.{Config}
use Rattle.mr_world_model.specs.Hearing.{Launched}
use Rattle.mr_world_model.specs.Duties.{seen}
use Rattle.mr_world_model.specs.World.{World, Event, seen_by}
use Rattle.mr_world_model.specs.Claims.{In, world_of}
use Rattle.mr_world_model.proofs.Beside.{numbers-always}
use Rattle.mr_world_model.proofs.Cluster.{open_place, launched_as}
use Rattle.mr_world_model.proofs.Ranges.{always-placed}
use Rattle.mr_world_state.specs.mr_world_actors.specs.Living.{container_cmp}
use Rattle.mr_world_state.specs.mr_world_actors.specs.Order.{in_order}
use Rattle.mr_world_state.specs.mr_world_actors.proofs.Keys.{found_is, is_it, it-is, kept-listed}
use Rattle.mr_world_state.specs.declared.parts.Parts.{Parts}
use Rattle.mr_world_state.specs.Limits.{within}
use Rattle.mr_world.specs.Readings.{living, launched_by}
use Rattle.mr_world_state.specs.Standing.{Standing}

-- ---- who is in a list

filter-has : (f : ContainerId → Bool) (q : ContainerId) (xs : List ContainerId) → list_any (is_it q) (filter f xs) ≡ (f q && list_any (is_it q) xs)
filter-has f q [] = none (f q)
  where
    none : (b : Bool) → false ≡ (b && false)
    none true = refl
    none false = refl
filter-has f q (x ∷ xs) = by (f x) (is_it q x) refl refl (filter-has f q xs)
  where
    there : (b r : Bool) → b ≡ true → true ≡ (b && (true || r))
    there b r e = rw e refl

    not-there : (b r : Bool) → b ≡ false → (b && r) ≡ (b && (true || r))
    not-there b r e = rw e refl

    by : (t u : Bool) → f x ≡ t → is_it q x ≡ u → list_any (is_it q) (filter f xs) ≡ (f q && list_any (is_it q) xs) → list_any (is_it q) (cond t (x ∷ filter f xs) (filter f xs)) ≡ (f q && (u || list_any (is_it q) xs))
    by true true e g ih = ap (λ b. b || list_any (is_it q) (filter f xs)) g ∙ there (f q) (list_any (is_it q) xs) (ap f (sym (it-is q x g)) ∙ e)
    by true false e g ih = ap (λ b. b || list_any (is_it q) (filter f xs)) g ∙ ih
    by false true e g ih = ih ∙ not-there (f q) (list_any (is_it q) xs) (ap f (sym (it-is q x g)) ∙ e)
    by false false e g ih = ih

any-append : {X : Type 0} (t : X → Bool) (xs ys : List X) → list_any t (xs ++ ys) ≡ (list_any t xs || list_any t ys)
any-append t [] ys = refl
any-append t (x ∷ xs) ys = by (t x) (any-append t xs ys)
  where
    by : (b : Bool) → list_any t (xs ++ ys) ≡ (list_any t xs || list_any t ys) → (b || list_any t (xs ++ ys)) ≡ ((b || list_any t xs) || list_any t ys)
    by true ih = refl
    by false ih = ih

or-right : (b : Bool) → (b || true) ≡ true
or-right true = refl
or-right false = refl

-- the containers of a master from a number on
abbrev numbered : ℕ → ℕ → ℕ → List ContainerId
numbered k a n = map (λ i. record { app = k; number = i }) (range_with_len a n)

numbered-has : (c : ContainerId) (a n : ℕ) → a ≤ c.number → c.number < a + n → list_any (is_it c) (numbered c.app a n) ≡ true
numbered-has c a zero l m = absurd (omega arith)
numbered-has c a (suc n) l m = ap (λ b. b || list_any (is_it c) (numbered c.app (a + 1) n)) (found_is c (record { app = c.app; number = a })) ∙ by (nat_eq a c.number) refl (λ g. numbered-has c (a + 1) n g (omega arith))
  where
    same : (n : ℕ) → nat_eq n n ≡ true
    same n = grind (arith, nat_tests)

    past : nat_eq a c.number ≡ false → a + 1 ≤ c.number
    past e = grind (arith, nat_tests)

    by : (b : Bool) → nat_eq a c.number ≡ b → (a + 1 ≤ c.number → list_any (is_it c) (numbered c.app (a + 1) n) ≡ true) → ((nat_eq c.app c.app && nat_eq a c.number) || list_any (is_it c) (numbered c.app (a + 1) n)) ≡ true
    by true e more = rw (same c.app, e) refl
    by false e more = ap (λ b. (nat_eq c.app c.app && nat_eq a c.number) || b) (more (past e)) ∙ or-right (nat_eq c.app c.app && nat_eq a c.number)

blocks-have : (f : ℕ → List ContainerId) (q : ContainerId) (k a n : ℕ) → a ≤ k → k < a + n → list_any (is_it q) (f k) ≡ true → list_any (is_it q) (flat_map f (range_with_len a n)) ≡ true
blocks-have f q k a zero l m h = absurd (omega arith)
blocks-have f q k a (suc n) l m h = any-append (is_it q) (f a) (flat_map f (range_with_len (a + 1) n)) ∙ by (nat_eq a k) refl (λ g. blocks-have f q k (a + 1) n g (omega arith) h)
  where
    past : nat_eq a k ≡ false → a + 1 ≤ k
    past e = grind (arith, nat_tests)

    by : (b : Bool) → nat_eq a k ≡ b → (a + 1 ≤ k → list_any (is_it q) (flat_map f (range_with_len (a + 1) n)) ≡ true) → (list_any (is_it q) (f a) || list_any (is_it q) (flat_map f (range_with_len (a + 1) n))) ≡ true
    by true e more = ap (λ b. b || list_any (is_it q) (flat_map f (range_with_len (a + 1) n))) (ap (λ i. list_any (is_it q) (f i)) (eqb-true a k e) ∙ h)
    by false e more = ap (λ b. list_any (is_it q) (f a) || b) (more (past e)) ∙ or-right (list_any (is_it q) (f a))

-- ---- the order

numbers-rise : (a b : ℕ) → a < b → nat_cmp a b ≡ Less
numbers-rise a b l = grind (arith, nat_tests)

cmp-same : (n : ℕ) → nat_cmp n n ≡ Equal
cmp-same n = grind (arith, nat_tests)

after-all : (k a b n : ℕ) → a < b → AllByRecursion (λ c. container_cmp (record { app = k; number = a }) c ≡ Less) (numbered k b n)
after-all k a b zero l = tt
after-all k a b (suc n) l = (ap (λ o. ordering_then o (nat_cmp a b)) (cmp-same k) ∙ numbers-rise a b l, after-all k a (b + 1) n (omega arith))

numbered-sorted : (k a n : ℕ) → IsStrictlySortedBy container_cmp (numbered k a n)
unfolding IsStrictlySortedBy
numbered-sorted k a zero = tt
numbered-sorted k a (suc n) = (after-all k a (a + 1) n (omega arith), numbered-sorted k (a + 1) n)

all-append : {X : Type 0} (P : X → Type 0) (xs ys : List X) → AllByRecursion P xs → AllByRecursion P ys → AllByRecursion P (xs ++ ys)
all-append P [] ys g h = h
all-append P (x ∷ xs) ys g h = (g.0, all-append P xs ys g.1 h)

all-weaker : {X : Type 0} (P Q : X → Type 0) → ((x : X) → P x → Q x) → (xs : List X) → AllByRecursion P xs → AllByRecursion Q xs
all-weaker P Q f [] h = tt
all-weaker P Q f (x ∷ xs) h = (f x h.0, all-weaker P Q f xs h.1)

sorted-append : (xs ys : List ContainerId) → IsStrictlySortedBy container_cmp xs → IsStrictlySortedBy container_cmp ys → AllByRecursion (λ x. AllByRecursion (λ y. container_cmp x y ≡ Less) ys) xs → IsStrictlySortedBy container_cmp (xs ++ ys)
unfolding IsStrictlySortedBy
sorted-append [] ys g h l = h
sorted-append (x ∷ xs) ys g h l = (all-append _ xs ys g.0 l.0, sorted-append xs ys g.1 h l.1)

of-master : (k a n : ℕ) → AllByRecursion (λ (c : ContainerId). c.app ≡ k) (numbered k a n)
of-master k a zero = tt
of-master k a (suc n) = (refl, of-master k (a + 1) n)

module _ (g : ℕ → ℕ) where
  abbrev block : ℕ → List ContainerId
  block k = numbered k 0 (g k)

  later : (k a n : ℕ) → k < a → AllByRecursion (λ (c : ContainerId). k < c.app) (flat_map block (range_with_len a n))
  later k a zero l = tt
  later k a (suc n) l = all-append _ (block a) (flat_map block (range_with_len (a + 1) n)) (all-weaker _ _ (λ (c : ContainerId) e. subst (λ i. k < i) (sym e) l) (block a) (of-master a 0 (g a))) (later k (a + 1) n (omega arith))

  before-later : (a : ℕ) (x : ContainerId) (ys : List ContainerId) → x.app ≡ a → AllByRecursion (λ (c : ContainerId). a < c.app) ys → AllByRecursion (λ y. container_cmp x y ≡ Less) ys
  before-later a x ys e h = all-weaker _ _ (λ (y : ContainerId) l. ap (λ o. ordering_then o (nat_cmp x.number y.number)) (numbers-rise x.app y.app (subst (λ i. i < y.app) (sym e) l))) ys h

  blocks-sorted : (a n : ℕ) → IsStrictlySortedBy container_cmp (flat_map block (range_with_len a n))
  unfolding IsStrictlySortedBy
  blocks-sorted a zero = tt
  blocks-sorted a (suc n) = sorted-append (block a) (flat_map block (range_with_len (a + 1) n)) (numbered-sorted a 0 (g a)) (blocks-sorted (a + 1) n)
      (all-weaker _ _ (λ (x : ContainerId) e. before-later a x (flat_map block (range_with_len (a + 1) n)) e (later a (a + 1) n (omega arith))) (block a) (of-master a 0 (g a)))

-- ---- who lives was launched

record WasLaunched (cfg : Config) (w : World) (c : ContainerId) : Type 0 where
  first : 1 ≤ c.app
  last : c.app ≤ w.fence
  number : c.number < length (seen_by cfg w c.app).launched

not-above : (cfg : Config) (w : World) (k : ℕ) (l : Launched) → ((j : ℕ) → w.fence < j → w.master_past j ≡ []) → In l (seen_by cfg w k).launched → k ≤ w.fence
unfolding seen
not-above cfg w k l unborn i = by (nat_le k w.fence) refl
  where
    above : nat_le k w.fence ≡ false → w.fence < k
    above e = leb-false k w.fence e

    by : (b : Bool) → nat_le k w.fence ≡ b → k ≤ w.fence
    by true e = leb-true k w.fence e
    by false e = absurd (subst (λ h. In l (seen cfg k h).launched) (unborn k (above e)) i)

alive-launched : (cfg : Config) (es : List Event) (c : ContainerId) → (world_of cfg (within cfg) es).is_alive c ≡ true → WasLaunched cfg (world_of cfg (within cfg) es) c
alive-launched cfg es c alive =
    let w = world_of cfg (within cfg) es in
    let known = (always-placed cfg (within cfg) es).sures.known in
    let at = open_place cfg w known.cluster c alive in
    let l = launched_as c at.0.attempt at.0.node at.0.incarnation in
    record {
      first = ((numbers-always cfg (within cfg) es).ranged c.app l at.2).0;
      last = not-above cfg w c.app l known.honest.unborn at.2;
      number = (known.cluster.distinct c.app).numbers l at.2;
    }

-- ---- both lists

listed : (cfg : Config) (w : World) → ((c : ContainerId) → w.is_alive c ≡ true → WasLaunched cfg w c) → (q : ContainerId) → list_any (is_it q) (living cfg w) ≡ w.is_alive q
unfolding living
listed cfg w h q = filter-has w.is_alive q (flat_map (launched_by cfg w) (range_with_len 1 w.fence)) ∙ by (w.is_alive q) refl
  where
    all : w.is_alive q ≡ true → list_any (is_it q) (flat_map (launched_by cfg w) (range_with_len 1 w.fence)) ≡ true
    all e = let l = h q e in blocks-have (launched_by cfg w) q q.app 1 w.fence l.first (let m = l.last in omega (arith, m)) (numbered-has q 0 (length (seen_by cfg w q.app).launched) (omega arith) (let m = l.number in omega (arith, m)))

    by : (b : Bool) → w.is_alive q ≡ b → (b && list_any (is_it q) (flat_map (launched_by cfg w) (range_with_len 1 w.fence))) ≡ b
    by true e = all e
    by false e = refl

listed-sorted : (cfg : Config) (w : World) → IsStrictlySortedBy container_cmp (living cfg w)
unfolding living
listed-sorted cfg w = IsStrictlySortedBy-filter container_cmp w.is_alive (flat_map (launched_by cfg w) (range_with_len 1 w.fence)) (blocks-sorted (λ k. length (seen_by cfg w k).launched) 1 w.fence)

total : IsTotalOrder container_cmp
total = then_total (on_total (λ (c : ContainerId). c.app) nat_cmp_total) (on_total (λ (c : ContainerId). c.number) nat_cmp_total)

exact : CmpEqualImpliesEq container_cmp
exact x y e = sym (it-is x y (ap is_eq e))

pub living-is : (p : Parts) (w : World) → Standing p w → IsStrictlySortedBy container_cmp (in_order p.living) → in_order p.living ≡ living p.config w
living-is p w s sorted = btree_set_from_contains total (record { keys = in_order p.living }) (record { keys = living p.config w }) sorted (listed-sorted p.config w)
    (λ q. kept-listed p.living q ∙ s.living.alive q ∙ sym (listed p.config w (subst (λ (u : World). (c : ContainerId) → u.is_alive c ≡ true → WasLaunched p.config u c) s.reached.is (alive-launched p.config s.reached.events)) q)) exact
