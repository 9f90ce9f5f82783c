-- The first row that meets a goal is the least of the runs that meet it.
use Rattle.std.proofs.Common.{◌≡◌, ◌⊎◌, inl, inr, Bool, true, false, List, [], ◌∷◌, Option, Some, None, IfSome, IfNone, refl, sym, ap, subst, ◌∙◌}
use Rattle.std.specs.Prelude.{if◌then◌else◌}
use Rattle.mr_script.specs.declared.expectation.Expectation.{Expectation}
use Rattle.mr_explore_ends.specs.Goals.{meets}
use Rattle.mr_explore_least.specs.Laws.{AreLeastOf, GoalHasLeast, Has, IsLeastThatMeets, Rises}
use Rattle.mr_explore_least.specs.Table.{Arrival, earlier, least_of}
use Rattle.mr_explore_least.proofs.Earlier.{never_back, never_itself, not_onward, true_and_false}

-- the first row that meets it: no row that does comes before it
record IsFirst (goal : List Expectation) (rows : List Arrival) (r : Arrival) : Type 0 where
  pub has : Has rows r
  pub met : meets goal r.end ≡ true
  pub first : (s : Arrival) → Has rows s → meets goal s.end ≡ true → earlier s r ≡ false

some_weaker : {X : Type 0} (o : Option X) (P Q : X → Type 0) → ((x : X) → P x → Q x) → IfSome o P → IfSome o Q
some_weaker None P Q f h = h
some_weaker (Some x) P Q f h = f x h

none_weaker : {X : Type 0} (o : Option X) (P Q : Type 0) → (P → Q) → IfNone o P → IfNone o Q
none_weaker None P Q f h = f h
none_weaker (Some x) P Q f h = h

first_met : (goal : List Expectation) (rows : List Arrival) → Rises rows → IfSome (least_of goal rows) (IsFirst goal rows)
first_met goal [] rise = tt
first_met goal (r ∷ rs) rise = by (meets goal r.end) refl (first_met goal rs rise.1) where
  here : (s : Arrival) → (r ≡ s) ⊎ Has rs s → earlier s r ≡ false
  here s (inl e) = subst (λ x. earlier x r ≡ false) e (never_itself r)
  here s (inr h) = never_back r s (rise.0 s h)

  behind : meets goal r.end ≡ false → (x s : Arrival) → ((y : Arrival) → Has rs y → meets goal y.end ≡ true → earlier y x ≡ false) → (r ≡ s) ⊎ Has rs s → meets goal s.end ≡ true → earlier s x ≡ false
  behind not x s more (inl e) m = absurd (true_and_false m (subst (λ (y : Arrival). meets goal y.end ≡ false) e not))
  behind not x s more (inr h) m = more s h m

  by : (b : Bool) → meets goal r.end ≡ b → IfSome (least_of goal rs) (IsFirst goal rs) → IfSome (if b then Some r else least_of goal rs) (IsFirst goal (r ∷ rs))
  by true e more = record { has = inl refl; met = e; first = λ s h m. here s h }
  by false e more = some_weaker (least_of goal rs) (IsFirst goal rs) (IsFirst goal (r ∷ rs)) (λ x f. record { has = inr f.has; met = f.met; first = λ s h m. behind e x s f.first h m }) more

none_met : (goal : List Expectation) (rows : List Arrival) → IfNone (least_of goal rows) ((s : Arrival) → Has rows s → meets goal s.end ≡ false)
none_met goal [] = λ s h. absurd h
none_met goal (r ∷ rs) = by (meets goal r.end) refl (none_met goal rs) where
  behind : meets goal r.end ≡ false → ((s : Arrival) → Has rs s → meets goal s.end ≡ false) → (s : Arrival) → (r ≡ s) ⊎ Has rs s → meets goal s.end ≡ false
  behind e more s (inl q) = subst (λ (y : Arrival). meets goal y.end ≡ false) q e
  behind e more s (inr h) = more s h

  by : (b : Bool) → meets goal r.end ≡ b → IfNone (least_of goal rs) ((s : Arrival) → Has rs s → meets goal s.end ≡ false) → IfNone (if b then Some r else least_of goal rs) ((s : Arrival) → Has (r ∷ rs) s → meets goal s.end ≡ false)
  by true e more = tt
  by false e more = none_weaker (least_of goal rs) _ _ (behind e) more

is_least : (goal : List Expectation) (Came : Arrival → Type 0) (rows : List Arrival) → AreLeastOf Came rows → (r : Arrival) → IsFirst goal rows r → IsLeastThatMeets goal Came r
is_least goal Came rows l r f = record { is = l.are r f.has; met = f.met; least = least } where
  least : (a : Arrival) → Came a → meets goal a.end ≡ true → earlier a r ≡ false
  least a c m =
      let there = l.every a c in
      let row = there.0 in
      let met : meets goal row.end ≡ true = ap (meets goal) there.1.1 ∙ m in
      not_onward a row r (l.least row a there.1.0 c (sym there.1.1)) (f.first row there.1.0 met)

none_meets : (goal : List Expectation) (Came : Arrival → Type 0) (rows : List Arrival) → AreLeastOf Came rows → ((s : Arrival) → Has rows s → meets goal s.end ≡ false) → (a : Arrival) → Came a → meets goal a.end ≡ false
none_meets goal Came rows l none a c = let there = l.every a c in ap (meets goal) (sym there.1.1) ∙ none there.0 there.1.0

pub goal_has_least : GoalHasLeast
goal_has_least =
    record {
      some = λ goal came rows l. some_weaker (least_of goal rows) _ _ (is_least goal (Has came) rows l) (first_met goal rows l.rise);
      none = λ goal came rows l. none_weaker (least_of goal rows) _ _ (none_meets goal (Has came) rows l) (none_met goal rows);
    }
