-- The latest generation behind records, and their order.
use Rattle.std.proofs.Common.{◌≡◌, ◌≤◌, ◌++◌, ℕ, Bool, true, false, cond, nat_lt, List, [], ◌∷◌, Option, Some, None, option_and_then, refl, sym, ap, subst, ◌∙◌, arith, ltb-false}
use Rattle.std.proofs.lemmas.Option.{none-some}
use Rattle.std.proofs.lemmas.Bool.Decides.{nat_tests}
use Rattle.mr_history.specs.declared.record.Record.{Record}
use Rattle.mr_history.specs.Reading.{bad_line, records_of}
use Rattle.mr_recover_plan.specs.Order.{AreFrom, AreInOrder, generation_told, is_earlier}
use Rattle.mr_recover_plan.specs.Plans.{IsRefused}
use Rattle.mr_recover_plan.specs.declared.fault.PlanFault.TheVariants as fault
use Rattle.mr_recover_plan.specs.inner.Segments.{latest_behind, latest_of}

-- ---- one list behind another

behind_both : (k : ℕ) (xs ys : List Record) → latest_behind k (xs ++ ys) ≡ option_and_then (λ j. latest_behind j ys) (latest_behind k xs)
behind_both k [] ys = refl
behind_both k (x ∷ xs) ys = by (λ j. behind_both j xs ys) (latest_of k (generation_told x))
  where
    by : ((j : ℕ) → latest_behind j (xs ++ ys) ≡ option_and_then (λ i. latest_behind i ys) (latest_behind j xs)) → (o : Option ℕ) →
        option_and_then (λ j. latest_behind j (xs ++ ys)) o ≡ option_and_then (λ j. latest_behind j ys) (option_and_then (λ j. latest_behind j xs) o)
    by rest None = refl
    by rest (Some j) = rest j

behind : (before more : List Record) (k : ℕ) → latest_behind 0 before ≡ Some k → latest_behind 0 (before ++ more) ≡ latest_behind k more
behind before more k is = behind_both 0 before more ∙ ap (λ o. option_and_then (λ j. latest_behind j more) o) is

pub goes_on : (before more read records : List Record) (k j : ℕ) → latest_behind 0 before ≡ Some k → latest_behind k more ≡ Some j → read ≡ more → records ≡ before ++ read → latest_behind 0 records ≡ Some j
goes_on before more read records k j was is same put = ap (latest_behind 0) (put ∙ ap (λ x. before ++ x) same) ∙ behind before more k was ∙ is

-- ---- where there is a latest one, the records are in order

none_told : (rs : List Record) → AreFrom None rs
none_told [] = tt
none_told (r ∷ rs) = (by (generation_told r), none_told rs)
  where
    by : (o : Option ℕ) → is_earlier o None ≡ false
    by None = refl
    by (Some g) = refl

not_earlier : (o : Option ℕ) (g k : ℕ) → k ≤ g → is_earlier o (Some g) ≡ false → is_earlier o (Some k) ≡ false
not_earlier None g k le is = refl
not_earlier (Some h) g k le is = let some : g ≤ h = ltb-false h g is in grind (arith, nat_tests)

from_earlier : (rs : List Record) (g k : ℕ) → k ≤ g → AreFrom (Some g) rs → AreFrom (Some k) rs
from_earlier [] g k le all = tt
from_earlier (r ∷ rs) g k le all = (not_earlier (generation_told r) g k le all.0, from_earlier rs g k le all.1)

record Stands (k : ℕ) (rs : List Record) : Type 0 where
  pub from : AreFrom (Some k) rs
  pub order : AreInOrder rs

-- the record whose generation is o stands before these
with_told : (r : Record) (rs : List Record) (k j : ℕ) (o : Option ℕ) → ((i : ℕ) → latest_behind i rs ≡ Some j → Stands i rs) → generation_told r ≡ o →
    option_and_then (λ i. latest_behind i rs) (latest_of k o) ≡ Some j → Stands k (r ∷ rs)
with_told r rs k j None rest told is =
    let all = rest k is in
    record { from = (subst (λ o. is_earlier o (Some k) ≡ false) (sym told) refl, all.from); order = (subst (λ o. AreFrom o rs) (sym told) (none_told rs), all.order) }
with_told r rs k j (Some g) rest told is = by (nat_lt g k) refl is
  where
    by : (b : Bool) → nat_lt g k ≡ b → option_and_then (λ i. latest_behind i rs) (cond b None (Some g)) ≡ Some j → Stands k (r ∷ rs)
    by true early gives = absurd (none-some j gives)
    by false early gives =
        let all = rest g gives in
        record {
          from = (subst (λ o. is_earlier o (Some k) ≡ false) (sym told) early, from_earlier rs g k (ltb-false g k early) all.from);
          order = (subst (λ o. AreFrom o rs) (sym told) all.from, all.order);
        }

stands : (rs : List Record) (k j : ℕ) → latest_behind k rs ≡ Some j → Stands k rs
stands [] k j is = record { from = tt; order = tt }
stands (r ∷ rs) k j is = with_told r rs k j (generation_told r) (λ i gives. stands rs i j gives) refl is

pub ordered : (rs : List Record) (j : ℕ) → latest_behind 0 rs ≡ Some j → AreInOrder rs
ordered rs j is = (stands rs 0 j is).order

-- ---- where there is none, they are not

gives : (r : Record) (rs : List Record) (k : ℕ) (o : Option ℕ) → ((i : ℕ) → AreFrom (Some i) rs → latest_behind i rs ≡ None → ⊥) → is_earlier o (Some k) ≡ false → AreFrom (Some k) rs → AreFrom o rs →
    option_and_then (λ i. latest_behind i rs) (latest_of k o) ≡ None → ⊥
gives r rs k None rest not all from is = rest k all is
gives r rs k (Some g) rest not all from is = rest g from (ap (λ b. option_and_then (λ i. latest_behind i rs) (cond b None (Some g))) (sym not) ∙ is)

some_latest : (rs : List Record) (k : ℕ) → AreFrom (Some k) rs → AreInOrder rs → latest_behind k rs ≡ None → ⊥
some_latest [] k all order is = none-some k (sym is)
some_latest (r ∷ rs) k all order is = gives r rs k (generation_told r) (λ i from. some_latest rs i from order.1) all.0 all.1 order.0 is

from_0 : (rs : List Record) → AreFrom (Some 0) rs
from_0 [] = tt
from_0 (r ∷ rs) = (by (generation_told r), from_0 rs)
  where
    by : (o : Option ℕ) → is_earlier o (Some 0) ≡ false
    by None = refl
    by (Some g) = grind (arith, nat_tests)

pub falls_back : (before more read : List Record) (bytes : List ℕ) (segment k : ℕ) → latest_behind 0 before ≡ Some k → latest_behind k more ≡ None → read ≡ more → read ≡ records_of bytes → bad_line bytes ≡ None →
    IsRefused segment before bytes (fault.EarlierGeneration segment)
falls_back before more read bytes segment k was is same told whole = (
  refl,
  whole,
  λ order.
      let all : before ++ records_of bytes ≡ before ++ more = ap (λ x. before ++ x) (sym told ∙ same) in
      some_latest (before ++ records_of bytes) 0 (from_0 (before ++ records_of bytes)) order (ap (latest_behind 0) all ∙ behind before more k was ∙ is),
)
