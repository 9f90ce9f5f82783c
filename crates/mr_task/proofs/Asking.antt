-- Who is first, once an attempt asked.
use Rattle.std.proofs.Common.{◌≡◌, refl, sym, ◌∙◌, ap, Bool, true, false, ◌||◌, List, [], ◌∷◌, ◌++◌, Option, Some, None, is_none, is_some, not, if◌then◌else◌}
use Rattle.mr_ids.specs.Attempt.{Attempt}
use Rattle.mr_grant.specs.Attempts.{same_attempt, has, first_of, is_first, with_last}
use Rattle.mr_grant.specs.Grant.{after_pending}
use Rattle.mr_grant.proofs.Same.{same-itself}
use Rattle.mr_task.specs.Steps.{Task, entry_in, asked, with_asker, is_over}
use Rattle.mr_task.specs.declared.attempts.Entry.{Entry}

-- one that asks is first if it was, or nobody waited
pub first-of-last : (xs : List Attempt) (a : Attempt) → is_first (with_last xs a) a ≡ (is_first xs a || is_none (first_of xs))
first-of-last [] a = same-itself a
first-of-last (x ∷ xs) a = by (has (x ∷ xs) a) (same_attempt x a)
  where
    or-false : (c : Bool) → c ≡ (c || false)
    or-false true = refl
    or-false false = refl

    by : (b c : Bool) → is_first (if b then x ∷ xs else x ∷ (xs ++ a ∷ [])) a ≡ (same_attempt x a || false)
    by true c = or-false (same_attempt x a)
    by false c = or-false (same_attempt x a)

pub asked-first : (m : Task) (a : Attempt) (e : Entry) (b : Bool) → Some e ≡ entry_in m.attempts a → is_over e ≡ false → is_first m.grant.attempts a ≡ false → b ≡ is_none (first_of m.grant.attempts)
    → b ≡ is_first (asked m a).grant.attempts a
asked-first m a e b there over first none =
    none
    ∙ ap (λ c. c || is_none (first_of m.grant.attempts)) (sym first)
    ∙ sym (first-of-last m.grant.attempts a)
    ∙ ap (λ c. is_first (if c then m.grant else after_pending m.grant a).attempts a) (sym over)
    ∙ ap (λ (o : Option Entry). is_first (with_asker m a o).grant.attempts a) there

pub none-is : (b : Bool) (o : Option Attempt) → not b ≡ is_some o → b ≡ is_none o
none-is true None e = refl
none-is false None e = cc
none-is true (Some x) e = cc
none-is false (Some x) e = refl
