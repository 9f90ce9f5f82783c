-- Numbers of faults that are tried, one after the other.
use Rattle.std.proofs.Common.{◌≡◌, ◌≤◌, inl, inr, ℕ, ◌+◌, Bool, true, false, nat_lt, nltb→le, ltb→lt, List, Option, Some, None, is_some, refl, sym, ap, subst, ◌∙◌, arith}
use Rattle.std.specs.Bool.{fails, passes}
use Rattle.mr_script.specs.declared.expectation.Expectation.{Expectation}
use Rattle.mr_explore_ends.specs.Goals.{meets}
use Rattle.mr_explore.proofs.Refused.{one_run_law}
use Rattle.mr_explore.specs.Runs.{Exploring, IsRunOf}
use Rattle.mr_explore_least.specs.Table.{Arrival, Table, least_of}
use Rattle.mr_explore_merged.specs.Came.{CameCarefully}
use Rattle.mr_explore_merged.specs.Merged.{FindsOf, IsFoundOf}
use Rattle.mr_explore_merged.specs.inner.Tried.{NoneMeets}
use Rattle.mr_explore_merged.proofs.GoalRows.{none_meets, told_meets}

some_row : (o : Option Arrival) → is_some o ≡ true → (r : Arrival) × (o ≡ Some r)
some_row None e = absurd (cc)
some_row (Some r) e = (r, refl)

no_row : (o : Option Arrival) → is_some o ≡ false → o ≡ None
no_row None e = refl
no_row (Some r) e = absurd (cc)

module _ (goal : List Expectation) (input : List ℕ) where
  pub none_tried : NoneMeets goal input 0
  none_tried first n a is less c = absurd (omega (arith, less))

  -- with as many faults none meets it
  none_by : (faults : ℕ) (t : Table) → FindsOf input faults t → least_of goal t.rows ≡ None → (first : Exploring) (a : Arrival) → IsRunOf input first → CameCarefully faults first a → meets goal a.end ≡ false
  none_by faults t f none first a is c =
      let there = f.finds.rows.every a (subst (λ (e : Exploring). CameCarefully faults e a) (one_run_law input first f.run is f.is_run) c) in
      ap (meets goal) (sym there.1.1) ∙ none_meets goal t.rows none there.0 there.1.0

  pub one_tried : (faults : ℕ) (t : Table) (met : Bool) → met ≡ is_some (least_of goal t.rows) → met ≡ false → NoneMeets goal input faults → FindsOf input faults t → NoneMeets goal input (faults + 1)
  one_tried faults t met tells not before f first n a is less c = by (nat_lt n faults) refl where
    none : least_of goal t.rows ≡ None
    none = no_row (least_of goal t.rows) (sym tells ∙ not)

    by : (b : Bool) → nat_lt n faults ≡ b → meets goal a.end ≡ false
    by true e = before first n a is (ltb→lt n faults (passes (nat_lt n faults) e)) c
    by false e =
        let le = nltb→le n faults (fails (nat_lt n faults) e) in
        let same : n ≡ faults = omega (arith, le, less) in
        none_by faults t f none first a is (subst (λ (k : ℕ). CameCarefully k first a) same c)

  -- so many are enough: a row meets it
  pub row_meets : (most faults : ℕ) (t : Table) (met : Bool) → met ≡ is_some (least_of goal t.rows) → met ≡ true → faults ≤ most → NoneMeets goal input faults → FindsOf input faults t → IsFoundOf most (Some goal) input faults t
  row_meets most faults t met tells does le before f =
      let some = some_row (least_of goal t.rows) (sym tells ∙ does) in
      record {
        run = f.run;
        is_run = f.is_run;
        enough = record { at_most = le; finds = f.finds; last = inr (some.0, told_meets goal t.rows some.0 some.1); fewer = λ n a less c. before f.run n a f.is_run less c };
      }

  -- all were tried
  pub all_tried : (faults most : ℕ) (t : Table) → most ≤ faults → NoneMeets goal input faults → FindsOf input most t → IsFoundOf most (Some goal) input most t
  all_tried faults most t all before f = record {
    run = f.run;
    is_run = f.is_run;
    enough = record { at_most = omega arith; finds = f.finds; last = inl refl; fewer = λ n a less c. before f.run n a f.is_run (omega (arith, all, less)) c };
  }

-- where no end is sought
pub none_sought : (input : List ℕ) (most : ℕ) (t : Table) → FindsOf input most t → IsFoundOf most None input most t
none_sought input most t f = record {
  run = f.run;
  is_run = f.is_run;
  enough = record { at_most = omega arith; finds = f.finds; last = inl refl; fewer = λ n a less c. refl };
}
