-- The order of runs.
use Rattle.std.proofs.Common.{◌≡◌, ◌⊎◌, inl, inr, ◌<◌, ◌&&◌, ◌||◌, ◌==◌, ℕ, Bool, true, false, nat_lt, refl, sym, ◌∙◌, arith}
use Rattle.std.specs.Bool.{Decides}
use Rattle.std.proofs.lemmas.Bool.Decides.{Decides-and, Decides-or, Decides-eqb, Decides-ltb}
use Rattle.std.specs.Cmp.{ranks}
use Rattle.std.specs.Ordering.{MatchOrdering, nat_cmp}
use Rattle.std.specs.declared.cmp.Ordering.{Ordering}
use Rattle.std.specs.declared.cmp.Ordering.TheVariants.{Less, Equal, Greater}
use Rattle.mr_script_order.specs.Order.{sooner}
use Rattle.mr_script_order.proofs.Ordered.{in_order}
use Rattle.mr_explore_least.specs.Table.{Arrival, earlier}

-- as many faults, and the same events
abbrev pub SameRun : Arrival → Arrival → Type 0
SameRun a b = (a.faults ≡ b.faults) × (a.events ≡ b.events)

abbrev Before : Arrival → Arrival → Type 0
Before a b = (a.faults < b.faults) ⊎ ((a.faults ≡ b.faults) × (sooner a.events b.events ≡ true))

earlier_Decides : (a b : Arrival) → Decides (earlier a b) (Before a b)
earlier_Decides a b =
    Decides-or (nat_lt a.faults b.faults) ((a.faults == b.faults) && sooner a.events b.events) (Decides-ltb a.faults b.faults)
    (Decides-and (a.faults == b.faults) (sooner a.events b.events) (Decides-eqb a.faults b.faults) (λ e. e, λ e. e))

before : (a b : Arrival) → earlier a b ≡ true → Before a b
before a b e = (earlier_Decides a b).0 e

is_earlier : (a b : Arrival) → Before a b → earlier a b ≡ true
is_earlier a b h = (earlier_Decides a b).1 h

pub true_and_false : {b : Bool} → b ≡ true → b ≡ false → ⊥
true_and_false e f = absurd (cc)

-- what is not so is not so
pub not_so : (b : Bool) → (b ≡ true → ⊥) → b ≡ false
not_so true n = absurd (n refl)
not_so false n = refl

pub never_itself : (a : Arrival) → earlier a a ≡ false
never_itself a = not_so (earlier a a) (λ e. by (before a a e)) where
  by : Before a a → ⊥
  by (inl h) = omega (arith, h)
  by (inr h) = true_and_false h.1 (in_order.never_itself a.events)

pub onward : (a b c : Arrival) → earlier a b ≡ true → earlier b c ≡ true → earlier a c ≡ true
onward a b c h g = is_earlier a c (by (before a b h) (before b c g)) where
  by : Before a b → Before b c → Before a c
  by (inl x) (inl y) = inl (omega (arith, x, y))
  by (inl x) (inr y) = let e = y.0 in inl (omega (arith, x, e))
  by (inr x) (inl y) = let e = x.0 in inl (omega (arith, e, y))
  by (inr x) (inr y) = inr (x.0 ∙ y.0, in_order.onward a.events b.events c.events x.1 y.1)

pub never_back : (a b : Arrival) → earlier a b ≡ true → earlier b a ≡ false
never_back a b h = not_so (earlier b a) (λ g. true_and_false (onward a b a h g) (never_itself a))

of_three : (m n : ℕ) → (m < n) ⊎ ((m ≡ n) ⊎ (n < m))
of_three m n = by (nat_cmp m n) (ranks m n) where
  by : (o : Ordering) → MatchOrdering o (m < n) (m ≡ n) (n < m) → (m < n) ⊎ ((m ≡ n) ⊎ (n < m))
  by Less h = inl h
  by Equal h = inr (inl h)
  by Greater h = inr (inr h)

-- one of them is earlier, or they are the same run
pub one_of : (a b : Arrival) → (earlier a b ≡ true) ⊎ (SameRun a b ⊎ (earlier b a ≡ true))
one_of a b = by (of_three a.faults b.faults) (in_order.total a.events b.events) where
  by : (a.faults < b.faults) ⊎ ((a.faults ≡ b.faults) ⊎ (b.faults < a.faults)) → (sooner a.events b.events ≡ true) ⊎ ((a.events ≡ b.events) ⊎ (sooner b.events a.events ≡ true)) → (earlier a b ≡ true) ⊎ (SameRun a b ⊎ (earlier b a ≡ true))
  by (inl h) t = inl (is_earlier a b (inl h))
  by (inr (inr h)) t = inr (inr (is_earlier b a (inl h)))
  by (inr (inl e)) (inl s) = inl (is_earlier a b (inr (e, s)))
  by (inr (inl e)) (inr (inl s)) = inr (inl (e, s))
  by (inr (inl e)) (inr (inr s)) = inr (inr (is_earlier b a (inr (sym e, s))))

-- a run that is the same is as early
pub same_before : (a b c : Arrival) → SameRun b c → earlier a b ≡ earlier a c
same_before a b c h = λ i. nat_lt a.faults (h.0 i) || ((a.faults == h.0 i) && sooner a.events (h.1 i))

-- what does not come before a run that does not come before another does not come before that one
pub not_onward : (a b c : Arrival) → earlier a b ≡ false → earlier b c ≡ false → earlier a c ≡ false
not_onward a b c h g = not_so (earlier a c) (λ e. by e (one_of b c)) where
  by : earlier a c ≡ true → (earlier b c ≡ true) ⊎ (SameRun b c ⊎ (earlier c b ≡ true)) → ⊥
  by e (inl x) = true_and_false x g
  by e (inr (inl s)) = true_and_false e (sym (same_before a b c s) ∙ h)
  by e (inr (inr x)) = true_and_false (onward a c b e x) h

-- of two runs to one end, neither of which comes before the other, there is one
pub one_run : (a b : Arrival) → a.end ≡ b.end → earlier a b ≡ false → earlier b a ≡ false → a ≡ b
one_run a b e h g = by (one_of a b) where
  by : (earlier a b ≡ true) ⊎ (SameRun a b ⊎ (earlier b a ≡ true)) → a ≡ b
  by (inl x) = absurd (true_and_false x h)
  by (inr (inl s)) = λ i. record { end = e i; faults = s.0 i; events = s.1 i }
  by (inr (inr x)) = absurd (true_and_false x g)
