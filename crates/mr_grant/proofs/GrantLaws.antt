-- The laws of the grant: what one call does, and so what a list of calls does.
use Rattle.std.proofs.Common.{◌≡◌, Bool, true, false, not, ◌||◌, cond, List, [], ◌∷◌, ◌++◌, Some, refl, ap, ◌∙◌, append_assoc}
use Rattle.std.specs.List.{list_any}
use Rattle.mr_ids.specs.Attempt.{Attempt}
use Rattle.mr_grant.specs.Attempts.{same_attempt, has, first_of, is_first, with_last, without}
use Rattle.mr_grant.specs.Grant.{Askers, nobody, Call, Pending, Release, Fix, after_call, after_calls}
use Rattle.mr_grant.specs.Laws.{SameAttempts, OneIsFirst, FirstStays, FixedStays, releases}
use Rattle.mr_grant.proofs.Same.{same-is, same-itself}

pub same_attempts : SameAttempts
same_attempts = record { itself = same-itself; alone = same-is }

first : (xs : List Attempt) (a : Attempt) → first_of xs ≡ Some a → is_first xs a ≡ true
first [] a h = absurd (cc)
first (x ∷ xs) a h = let e : x ≡ a = cc in ap (λ y. same_attempt y a) e ∙ same-itself a

alone : (xs : List Attempt) (a : Attempt) → is_first xs a ≡ true → first_of xs ≡ Some a
alone [] a h = absurd (cc)
alone (x ∷ xs) a h = ap (λ y. Some y) (same-is x a h)

pub one_is_first : OneIsFirst
one_is_first = record { first = first; alone = alone }

-- what comes behind changes no first
pub first-append : (xs more : List Attempt) (a : Attempt) → first_of xs ≡ Some a → first_of (xs ++ more) ≡ Some a
first-append [] more a h = absurd (cc)
first-append (x ∷ xs) more a h = h

-- a list with a last is the list and some behind
pub with_last-behind : (xs : List Attempt) (a : Attempt) → (more : List Attempt) × (with_last xs a ≡ xs ++ more)
with_last-behind xs a = by (has xs a)
  where
    nil : (ys : List Attempt) → ys ≡ ys ++ []
    nil [] = refl
    nil (y ∷ ys) = ap (λ zs. y ∷ zs) (nil ys)

    by : (m : Bool) → (more : List Attempt) × (cond m xs (xs ++ a ∷ []) ≡ xs ++ more)
    by true = ([], nil xs)
    by false = (a ∷ [], refl)

first-with_last : (xs : List Attempt) (a b : Attempt) → first_of xs ≡ Some a → first_of (with_last xs b) ≡ Some a
first-with_last xs a b h =
    let p = with_last-behind xs b in
    ap first_of p.1 ∙ first-append xs p.0 a h

first-without : (xs : List Attempt) (a b : Attempt) → first_of xs ≡ Some a → same_attempt b a ≡ false → first_of (without xs b) ≡ Some a
first-without [] a b h other = absurd (cc)
first-without (x ∷ xs) a b h other = let e : x ≡ a = cc in by (same_attempt b x) (ap (same_attempt b) e ∙ other)
  where
    by : (m : Bool) → m ≡ false → first_of (cond (not m) (x ∷ without xs b) (without xs b)) ≡ Some a
    by false n = h
    by true n = absurd (cc)

first-step : (g : Askers) (call : Call) (a : Attempt) → first_of g.attempts ≡ Some a → releases a call ≡ false → first_of (after_call g call).attempts ≡ Some a
first-step g (Pending b) a h other = first-with_last g.attempts a b h
first-step g (Release b) a h other = by g.is_fixed
  where
    by : (m : Bool) → first_of (cond m g (record { attempts = without g.attempts b; is_fixed = false })).attempts ≡ Some a
    by true = h
    by false = first-without g.attempts a b h other
first-step g (Fix b) a h other = by (is_first g.attempts b)
  where
    by : (m : Bool) → first_of (cond m (record { attempts = g.attempts; is_fixed = true }) g).attempts ≡ Some a
    by true = h
    by false = h

neither : (x y : Bool) → (x || y) ≡ false → (x ≡ false) × (y ≡ false)
neither false false h = (refl, refl)
neither true y h = absurd (cc)
neither false true h = absurd (cc)

pub first_stays : FirstStays
first_stays g [] a h none = h
first_stays g (call ∷ calls) a h none =
    let p = neither (releases a call) (list_any (releases a) calls) none in
    first-step (after_calls g calls) call a (first_stays g calls a h p.1) p.0

fixed-step : (g : Askers) (call : Call) → g.is_fixed ≡ true → (after_call g call).is_fixed ≡ true
fixed-step g (Pending b) h = h
fixed-step g (Release b) h = by g.is_fixed h
  where
    by : (m : Bool) → m ≡ true → (cond m g (record { attempts = without g.attempts b; is_fixed = false })).is_fixed ≡ true
    by true e = h
    by false e = absurd (cc)
fixed-step g (Fix b) h = by (is_first g.attempts b)
  where
    by : (m : Bool) → (cond m (record { attempts = g.attempts; is_fixed = true }) g).is_fixed ≡ true
    by true = refl
    by false = h

fixed : (g : Askers) (calls : List Call) → g.is_fixed ≡ true → (after_calls g calls).is_fixed ≡ true
fixed g [] h = h
fixed g (call ∷ calls) h = fixed-step (after_calls g calls) call (fixed g calls h)

none-behind : (xs : List Attempt) → xs ≡ xs ++ []
none-behind [] = refl
none-behind (x ∷ xs) = ap (λ ys. x ∷ ys) (none-behind xs)

behind-step : (g : Askers) (call : Call) → g.is_fixed ≡ true → (more : List Attempt) × ((after_call g call).attempts ≡ g.attempts ++ more)
behind-step g (Pending b) h = with_last-behind g.attempts b
behind-step g (Release b) h = by g.is_fixed h
  where
    by : (m : Bool) → m ≡ true → (more : List Attempt) × ((cond m g (record { attempts = without g.attempts b; is_fixed = false })).attempts ≡ g.attempts ++ more)
    by true e = ([], none-behind g.attempts)
    by false e = absurd (cc)
behind-step g (Fix b) h = by (is_first g.attempts b)
  where
    by : (m : Bool) → (more : List Attempt) × ((cond m (record { attempts = g.attempts; is_fixed = true }) g).attempts ≡ g.attempts ++ more)
    by true = ([], none-behind g.attempts)
    by false = ([], none-behind g.attempts)

behind : (g : Askers) (calls : List Call) → g.is_fixed ≡ true → (more : List Attempt) × ((after_calls g calls).attempts ≡ g.attempts ++ more)
behind g [] h = ([], none-behind g.attempts)
behind g (call ∷ calls) h =
    let before = behind g calls h in
    let now = behind-step (after_calls g calls) call (fixed g calls h) in
    (before.0 ++ now.0, now.1 ∙ ap (λ xs. xs ++ now.0) before.1 ∙ append_assoc g.attempts before.0 now.0)

-- a grant that has a first, if it is fixed
HasFirst : Askers → Type 0
HasFirst g = g.is_fixed ≡ true → (a : Attempt) × (first_of g.attempts ≡ Some a)

has-first-step : (g : Askers) (call : Call) → HasFirst g → HasFirst (after_call g call)
unfolding HasFirst
has-first-step g (Pending b) before h = let p = before h in (p.0, first-with_last g.attempts p.0 b p.1)
has-first-step g (Release b) before h = by g.is_fixed refl h
  where
    by : (m : Bool) → g.is_fixed ≡ m → (cond m g (record { attempts = without g.attempts b; is_fixed = false })).is_fixed ≡ true
        → (a : Attempt) × (first_of (cond m g (record { attempts = without g.attempts b; is_fixed = false })).attempts ≡ Some a)
    by true e k = before k
    by false e k = absurd (cc)
has-first-step g (Fix b) before h = by (is_first g.attempts b) refl h
  where
    by : (m : Bool) → is_first g.attempts b ≡ m → (cond m (record { attempts = g.attempts; is_fixed = true }) g).is_fixed ≡ true
        → (a : Attempt) × (first_of (cond m (record { attempts = g.attempts; is_fixed = true }) g).attempts ≡ Some a)
    by true e k = (b, alone g.attempts b e)
    by false e k = before k

has-first : (calls : List Call) → HasFirst (after_calls nobody calls)
unfolding HasFirst
has-first [] h = absurd (cc)
has-first (call ∷ calls) h = has-first-step (after_calls nobody calls) call (has-first calls) h

for_good : (calls more : List Call) (a : Attempt) → (after_calls nobody calls).is_fixed ≡ true → first_of (after_calls nobody calls).attempts ≡ Some a
    → first_of (after_calls (after_calls nobody calls) more).attempts ≡ Some a
for_good calls more a h e =
    let p = behind (after_calls nobody calls) more h in
    ap first_of p.1 ∙ first-append (after_calls nobody calls).attempts p.0 a e

pub fixed_stays : FixedStays
unfolding HasFirst
fixed_stays = record { fixed = fixed; behind = behind; first = has-first; for_good = for_good }
