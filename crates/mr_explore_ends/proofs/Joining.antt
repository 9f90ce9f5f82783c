-- The runs of one table are noted behind those of another: that is the table of all of them.
use Rattle.std.proofs.Common.{◌≡◌, ◌<◌, ◌≤◌, ◌⊎◌, inl, inr, ◌+◌, ◌-◌, ◌^◌, ◌==◌, ◌&&◌, ◌||◌, ℕ, zero, suc, Bool, true, false, min, nat_lt, List, [], ◌∷◌, ◌++◌, length, get_or, map, set, Option, Some, None, refl, sym, ap, subst, ◌∙◌, arith}
use Rattle.std.proofs.lemmas.List.{get_or_at, set_at}
use Rattle.std.specs.Prelude.{if◌then◌else◌}
use Rattle.std.specs.Bool.{Decides}
use Rattle.std.specs.Option.{option_eq}
use Rattle.std.specs.Cmp.{booleans_Decides}
use Rattle.std.specs.Cmp.Lexicographic.{pointwise}
use Rattle.std.specs.Str.{bytes_eq}
use Rattle.std.proofs.Math.Bool.{beq}
use Rattle.std.proofs.lemmas.Bool.Decides.{Decides-and, Decides-or, Decides-eqb, Decides-ltb, leb_tells, not_from_Decides}
use Rattle.std.proofs.lemmas.Slice.Eq.{bytes_eq-Decides, slice_eq-Decides}
use Rattle.mr_ids.specs.Attempt.{Attempt}
use Rattle.mr_ids.specs.Same.{same_attempt}
use Rattle.mr_ids.proofs.Same.{same_attempt-is, same_attempt-itself}
use Rattle.mr_world_events.specs.declared.event.Event.{Event}
use Rattle.mr_script_writer.specs.Repeating.{repeating}
use Rattle.mr_explore_ends.specs.Outcomes.{Outcome, same_outcome}
use Rattle.mr_explore_ends.specs.Table.{Came, ToEnd, ToLimit, End, Reached, Table, all_noted, empty, is_shorter, met, noted, noted_in, one_more, one_more_if, opened, table_of}
use Rattle.mr_explore_ends.specs.Rows.{as_end}
use Rattle.mr_explore_ends.specs.declared.row.Row.{Row}
use Rattle.mr_explore_ends.specs.inner.Rows.{place_from}
use Rattle.mr_explore_ends.proofs.Noting.{mapped, some_is}
use Rattle.mr_explore_ends.specs.inner.Joined.{all_joined, joined, joined_if, joined_in, more}

-- ---- two outcomes that are the same are one

option_Decides : {A : Type 0} {E : A → A → Bool} → ((a b : A) → Decides (E a b) (a ≡ b)) → (x y : Option A) → Decides (option_eq E x y) (x ≡ y)
option_Decides d None None = (λ e. refl, λ e. refl)
option_Decides d None (Some b) = (λ e. absurd (cc), λ e. absurd (cc))
option_Decides d (Some a) None = (λ e. absurd (cc), λ e. absurd (cc))
option_Decides {A} d (Some a) (Some b) = (λ e. ap (λ (x : A). Some x) ((d a b).0 e), λ e. (d a b).1 (cc))

attempts_Decides : (a b : Attempt) → Decides (same_attempt a b) (a ≡ b)
attempts_Decides a b = (same_attempt-is a b, λ e. subst (λ x. same_attempt a x ≡ true) e (same_attempt-itself a))

abbrev same_parts : Outcome → Outcome → Type 0
same_parts a b = (a.marker ≡ b.marker) × ((a.outcome ≡ b.outcome) × ((a.winners ≡ b.winners) × (a.files ≡ b.files)))

parts_Decide : (a b : Outcome) → Decides (same_outcome a b) (same_parts a b)
parts_Decide a b =
    Decides-and (beq a.marker b.marker) _ (booleans_Decides a.marker b.marker)
    (Decides-and (option_eq beq a.outcome b.outcome) _ (option_Decides booleans_Decides a.outcome b.outcome)
    (Decides-and (pointwise (option_eq same_attempt) a.winners b.winners) (bytes_eq a.files b.files) (slice_eq-Decides (option_Decides attempts_Decides) a.winners b.winners _ refl) (bytes_eq-Decides a.files b.files)))

pub same-is : (a b : Outcome) → same_outcome a b ≡ true → a ≡ b
same-is a b e =
    let p = (parts_Decide a b).0 e in
    λ i. record { winners = p.1.1.0 i; marker = p.0 i; outcome = p.1.0 i; files = p.1.1.1 i }

pub same-itself : (a : Outcome) → same_outcome a a ≡ true
same-itself a = (parts_Decide a a).1 (refl, (refl, (refl, refl)))

-- ---- the shorter of three

shorter_Decides : (faults events : ℕ) (e : End) → Decides (is_shorter faults events e) ((faults < e.faults) ⊎ ((faults ≡ e.faults) × (events < e.events)))
shorter_Decides faults events e =
    Decides-or (nat_lt faults e.faults) ((faults == e.faults) && nat_lt events e.events) (Decides-ltb faults e.faults)
    (Decides-and (faults == e.faults) (nat_lt events e.events) (Decides-eqb faults e.faults) (Decides-ltb events e.events))

shorter_still : (faults events : ℕ) (e f : End) → is_shorter faults events e ≡ true → is_shorter e.faults e.events f ≡ true → is_shorter faults events f ≡ true
shorter_still faults events e f a b = (shorter_Decides faults events f).1 (by ((shorter_Decides faults events e).0 a) ((shorter_Decides e.faults e.events f).0 b)) where
  by : (faults < e.faults) ⊎ ((faults ≡ e.faults) × (events < e.events)) → (e.faults < f.faults) ⊎ ((e.faults ≡ f.faults) × (e.events < f.events)) → (faults < f.faults) ⊎ ((faults ≡ f.faults) × (events < f.events))
  by (inl x) (inl y) = inl (omega arith)
  by (inl x) (inr y) = let z = y.0 in inl (omega arith)
  by (inr x) (inl y) = let z = x.0 in inl (omega arith)
  by (inr x) (inr y) = let z = x.1 in let w = y.1 in inr (x.0 ∙ y.0, omega arith)

either : {A B C : Type 0} → (A → C) → (B → C) → A ⊎ B → C
either f g (inl a) = f a
either f g (inr b) = g b

lower : (a b : ℕ) → (a < b → ⊥) → b ≤ a
lower a b n = either (λ h. h.1) (λ h. absurd (n h.1)) (leb_tells b a)

-- by way of the middle one: where the first is shorter than the last, it is shorter than the middle one, or the middle one is than the last
some_shorter : (faults events : ℕ) (e f : End) → is_shorter faults events f ≡ true → is_shorter faults events e ≡ false → is_shorter e.faults e.events f ≡ true
some_shorter faults events e f a b = (shorter_Decides e.faults e.events f).1 (by ((shorter_Decides faults events f).0 a) (not_from_Decides _ (shorter_Decides faults events e) b)) where
  by : (faults < f.faults) ⊎ ((faults ≡ f.faults) × (events < f.events)) → ((faults < e.faults) ⊎ ((faults ≡ e.faults) × (events < e.events)) → ⊥) → (e.faults < f.faults) ⊎ ((e.faults ≡ f.faults) × (e.events < f.events))
  by (inl x) n = let low = lower faults e.faults (λ h. n (inl h)) in inl (omega (arith, low, x))
  by (inr x) n =
      let low = lower faults e.faults (λ h. n (inl h)) in
      let same = x.0 in
      let less = x.1 in
      either
      (λ h.
      let far = h.1 in
      let is : faults ≡ e.faults = omega (arith, low, same, far) in
      let short = lower events e.events (λ k. n (inr (is, k))) in
      inr (sym is ∙ same, omega (arith, short, less)))
      (λ h. inl h.1)
      (leb_tells f.faults e.faults)

-- ---- how many

more_is : (a b : ℕ) → 0 < b → more a b ≡ min (a + b) (2 ^ 64 - 1)
more_is a zero some = absurd (omega (arith, some))
more_is a (suc b) some = refl

once : (a b m : ℕ) → 0 < m → min (min (a + suc b) m + 1) m ≡ min (a + min (suc b + 1) m) m
once a b m some = omega (arith, some)

some_more : (b m : ℕ) → 0 < m → 0 < min (b + 1) m
some_more b m some = omega (arith, some)

some_most : 0 < 2 ^ 64 - 1
some_most = omega arith

-- one more behind both
one_more_of : (a b : ℕ) → one_more (more a b) ≡ more a (one_more b)
one_more_of a zero = refl
one_more_of a (suc b) = once a b (2 ^ 64 - 1) some_most ∙ sym (more_is a (one_more (suc b)) (some_more (suc b) (2 ^ 64 - 1) some_most))

one_more_of_if : (s : Bool) (a b : ℕ) → one_more_if s (more a b) ≡ more a (one_more_if s b)
one_more_of_if true a b = one_more_of a b
one_more_of_if false a b = refl

pub sum_is : (a b : ℕ) → a < 2 ^ 64 → min (a + b) (2 ^ 64 - 1) ≡ more a b
sum_is a zero few = none a (2 ^ 64 - 1) (omega (arith, few)) where
  none : (a m : ℕ) → a ≤ m → min (a + 0) m ≡ a
  none a m few = omega (arith, few)
sum_is a (suc b) few = refl

-- ---- a run is noted, and then the end is joined to another; or the other way round

abbrev met_if : Bool → ℕ → Bool → List Event → End → End
met_if b faults stalled events e =
    if b then record e { runs = one_more e.runs; stalled = one_more_if stalled e.stalled; faults = faults; events = length events; script = repeating events }
    else record e { runs = one_more e.runs; stalled = one_more_if stalled e.stalled }

counted : (x : End) (m n j k : ℕ) → m ≡ n → j ≡ k → record x { runs = m; stalled = j } ≡ record x { runs = n; stalled = k }
counted x m n j k e d = λ i. record x { runs = e i; stalled = d i }

impossible : {A : Type 0} → true ≡ false → A
impossible e = absurd (cc)

pub met_joined : (f e : End) (faults : ℕ) (stalled : Bool) (events : List Event) → met faults stalled events (joined f e) ≡ joined f (met faults stalled events e)
met_joined f e faults stalled events = by (is_shorter faults (length events) e) refl (is_shorter e.faults e.events f) refl (is_shorter faults (length events) f) refl where
  same : (x : End) → record x { runs = one_more (more f.runs e.runs); stalled = one_more_if stalled (more f.stalled e.stalled) } ≡ record x { runs = more f.runs (one_more e.runs); stalled = more f.stalled (one_more_if stalled e.stalled) }
  same x = counted x _ _ _ _ (one_more_of f.runs e.runs) (one_more_of_if stalled f.stalled e.stalled)

  right_first : (c : Bool) → is_shorter faults (length events) e ≡ true → is_shorter faults (length events) f ≡ c → joined f (met faults stalled events e) ≡ joined_if c f (met_if true faults stalled events e)
  right_first c e1 e3 = ap (λ x. joined f (met_if x faults stalled events e)) e1 ∙ ap (λ x. joined_if x f (met_if true faults stalled events e)) e3

  right_second : (c : Bool) → is_shorter faults (length events) e ≡ false → is_shorter e.faults e.events f ≡ c → joined f (met faults stalled events e) ≡ joined_if c f (met_if false faults stalled events e)
  right_second c e1 e2 = ap (λ x. joined f (met_if x faults stalled events e)) e1 ∙ ap (λ x. joined_if x f (met_if false faults stalled events e)) e2

  left_first : (c : Bool) → is_shorter e.faults e.events f ≡ true → is_shorter faults (length events) e ≡ c → met faults stalled events (joined f e) ≡ met_if c faults stalled events (joined_if true f e)
  left_first c e2 e1 = ap (λ x. met faults stalled events (joined_if x f e)) e2 ∙ ap (λ x. met_if x faults stalled events (joined_if true f e)) e1

  left_second : (c : Bool) → is_shorter e.faults e.events f ≡ false → is_shorter faults (length events) f ≡ c → met faults stalled events (joined f e) ≡ met_if c faults stalled events (joined_if false f e)
  left_second c e2 e3 = ap (λ x. met faults stalled events (joined_if x f e)) e2 ∙ ap (λ x. met_if x faults stalled events (joined_if false f e)) e3

  by : (a : Bool) → is_shorter faults (length events) e ≡ a → (b : Bool) → is_shorter e.faults e.events f ≡ b → (c : Bool) → is_shorter faults (length events) f ≡ c → met faults stalled events (joined f e) ≡ joined f (met faults stalled events e)
  by true e1 true e2 true e3 = left_first true e2 e1 ∙ (same (met_if true faults stalled events (joined_if true f e)) ∙ sym (right_first true e1 e3))
  by true e1 true e2 false e3 = impossible (sym (shorter_still faults (length events) e f e1 e2) ∙ e3)
  by true e1 false e2 true e3 = left_second true e2 e3 ∙ (same (met_if true faults stalled events (joined_if false f e)) ∙ sym (right_first true e1 e3))
  by true e1 false e2 false e3 = left_second false e2 e3 ∙ (same (met_if false faults stalled events (joined_if false f e)) ∙ sym (right_first false e1 e3))
  by false e1 true e2 c e3 = left_first false e2 e1 ∙ (same (met_if false faults stalled events (joined_if true f e)) ∙ sym (right_second true e1 e2))
  by false e1 false e2 true e3 = impossible (sym (some_shorter faults (length events) e f e3 e1) ∙ e2)
  by false e1 false e2 false e3 = left_second false e2 e3 ∙ (same (met_if false faults stalled events (joined_if false f e)) ∙ sym (right_second false e1 e2))

-- ---- rows that were noted

abbrev in_row : Bool → Reached → End → List End → List End
in_row b c e es = if b then met c.faults c.stalled c.events e ∷ es else e ∷ noted_in c es

abbrev joins_row : Bool → End → End → List End → List End
joins_row b x e es = if b then joined e x ∷ es else e ∷ joined_in x es

-- an end of one run is joined as the run is noted
opened_joined : (c : Reached) (es : List End) → joined_in (opened c) es ≡ noted_in c es
opened_joined c [] = refl
opened_joined c (e ∷ es) = by (same_outcome e.end c.end) (opened_joined c es) where
  by : (b : Bool) → joined_in (opened c) es ≡ noted_in c es → joins_row b (opened c) e es ≡ in_row b c e es
  by true h = shorter (is_shorter c.faults (length c.events) e) where
    one : (s : Bool) → more e.stalled (one_more_if s 0) ≡ one_more_if s e.stalled
    one true = refl
    one false = refl

    shorter : (s : Bool) → joined_if s e (opened c) ∷ es ≡ met_if s c.faults c.stalled c.events e ∷ es
    shorter true = ap (λ n. record (met_if true c.faults c.stalled c.events e) { stalled = n } ∷ es) (one c.stalled)
    shorter false = ap (λ n. record (met_if false c.faults c.stalled c.events e) { stalled = n } ∷ es) (one c.stalled)
  by false h = ap (λ xs. e ∷ xs) h

-- there is a row of this end
abbrev has : Outcome → List End → Type 0
has o [] = ⊥
has o (e ∷ es) = (e.end ≡ o) ⊎ has o es

kept_end : (e x : End) → (joined e x).end ≡ e.end
kept_end e x = by (is_shorter x.faults x.events e) where
  by : (b : Bool) → (joined_if b e x).end ≡ e.end
  by true = refl
  by false = refl

kept_met : (faults : ℕ) (stalled : Bool) (events : List Event) (e : End) → (met faults stalled events e).end ≡ e.end
kept_met faults stalled events e = by (is_shorter faults (length events) e) where
  by : (b : Bool) → (met_if b faults stalled events e).end ≡ e.end
  by true = refl
  by false = refl

joined_has : (x : End) (es : List End) → has x.end (joined_in x es)
joined_has x [] = inl refl
joined_has x (e ∷ es) = by (same_outcome e.end x.end) refl (joined_has x es) where
  by : (b : Bool) → same_outcome e.end x.end ≡ b → has x.end (joined_in x es) → has x.end (joins_row b x e es)
  by true s h = inl (kept_end e x ∙ same-is e.end x.end s)
  by false s h = inr h

still_has : (o : Outcome) (x : End) (es : List End) → has o es → has o (joined_in x es)
still_has o x [] h = elim h [ ]
still_has o x (e ∷ es) h = by (same_outcome e.end x.end) h (still_has o x es) where
  by : (b : Bool) → has o (e ∷ es) → (has o es → has o (joined_in x es)) → has o (joins_row b x e es)
  by true (inl k) more = inl (kept_end e x ∙ k)
  by true (inr k) more = inr k
  by false (inl k) more = inl k
  by false (inr k) more = inr (more k)

-- where the end has a row, it is noted there, whatever other end is joined
noted_joined : (c : Reached) (x : End) (es : List End) → has c.end es → same_outcome x.end c.end ≡ false → joined_in x (noted_in c es) ≡ noted_in c (joined_in x es)
noted_joined c x [] h other = elim h [ ]
noted_joined c x (e ∷ es) h other = by (same_outcome e.end c.end) refl (same_outcome e.end x.end) refl h (λ k. noted_joined c x es k other) where
  -- one row can't be of both
  apart : same_outcome e.end c.end ≡ true → same_outcome e.end x.end ≡ true → ⊥
  apart a b = impossible (sym (subst (λ o. same_outcome o c.end ≡ true) (same-is e.end x.end b) a) ∙ other)

  first : same_outcome e.end c.end ≡ true → same_outcome e.end x.end ≡ false → joined_in x (noted_in c (e ∷ es)) ≡ noted_in c (joined_in x (e ∷ es))
  first a b =
      ap (λ s. joined_in x (in_row s c e es)) a
      ∙ (ap (λ s. joins_row s x (met c.faults c.stalled c.events e) es) (ap (λ o. same_outcome o x.end) (kept_met c.faults c.stalled c.events e) ∙ b)
      ∙ sym (ap (λ s. noted_in c (joins_row s x e es)) b ∙ ap (λ s. in_row s c e (joined_in x es)) a))

  second : same_outcome e.end c.end ≡ false → same_outcome e.end x.end ≡ true → joined_in x (noted_in c (e ∷ es)) ≡ noted_in c (joined_in x (e ∷ es))
  second a b =
      ap (λ s. joined_in x (in_row s c e es)) a
      ∙ (ap (λ s. joins_row s x e (noted_in c es)) b
      ∙ sym (ap (λ s. noted_in c (joins_row s x e es)) b ∙ ap (λ s. in_row s c (joined e x) es) (ap (λ o. same_outcome o c.end) (kept_end e x) ∙ a)))

  neither : same_outcome e.end c.end ≡ false → same_outcome e.end x.end ≡ false → joined_in x (noted_in c es) ≡ noted_in c (joined_in x es) → joined_in x (noted_in c (e ∷ es)) ≡ noted_in c (joined_in x (e ∷ es))
  neither a b k =
      ap (λ s. joined_in x (in_row s c e es)) a
      ∙ (ap (λ s. joins_row s x e (noted_in c es)) b
      ∙ (ap (λ xs. e ∷ xs) k
      ∙ sym (ap (λ s. noted_in c (joins_row s x e es)) b ∙ ap (λ s. in_row s c e (joined_in x es)) a)))

  -- the end's row is behind this one
  behind : same_outcome e.end c.end ≡ false → has c.end (e ∷ es) → has c.end es
  behind a (inl k) = impossible (sym (subst (λ o. same_outcome e.end o ≡ true) k (same-itself e.end)) ∙ a)
  behind a (inr k) = k

  by : (s : Bool) → same_outcome e.end c.end ≡ s → (t : Bool) → same_outcome e.end x.end ≡ t → has c.end (e ∷ es) → (has c.end es → joined_in x (noted_in c es) ≡ noted_in c (joined_in x es)) → joined_in x (noted_in c (e ∷ es)) ≡ noted_in c (joined_in x (e ∷ es))
  by true a true b k more = absurd (apart a b)
  by true a false b k more = first a b
  by false a true b k more = second a b
  by false a false b k more = neither a b (more (behind a k))

-- a row that was noted is joined as its end is, and then the run is noted
noted_row : (c : Reached) (x : End) (es : List End) → same_outcome x.end c.end ≡ true → joined_in (met c.faults c.stalled c.events x) es ≡ noted_in c (joined_in x es)
noted_row c x [] same = sym (ap (λ s. in_row s c x []) same)
noted_row c x (e ∷ es) same = by (same_outcome e.end x.end) refl (noted_row c x es same) where
  is : x.end ≡ c.end
  is = same-is x.end c.end same

  by : (s : Bool) → same_outcome e.end x.end ≡ s → joined_in (met c.faults c.stalled c.events x) es ≡ noted_in c (joined_in x es) → joined_in (met c.faults c.stalled c.events x) (e ∷ es) ≡ noted_in c (joined_in x (e ∷ es))
  by true a h =
      ap (λ s. joins_row s (met c.faults c.stalled c.events x) e es) (ap (same_outcome e.end) (kept_met c.faults c.stalled c.events x) ∙ a)
      ∙ (ap (λ y. y ∷ es) (sym (met_joined e x c.faults c.stalled c.events))
      ∙ sym (ap (λ s. noted_in c (joins_row s x e es)) a ∙ ap (λ s. in_row s c (joined e x) es) (ap (λ o. same_outcome o c.end) (kept_end e x) ∙ (ap (same_outcome e.end) (sym is) ∙ a))))
  by false a h =
      ap (λ s. joins_row s (met c.faults c.stalled c.events x) e es) (ap (same_outcome e.end) (kept_met c.faults c.stalled c.events x) ∙ a)
      ∙ (ap (λ xs. e ∷ xs) h
      ∙ sym (ap (λ s. noted_in c (joins_row s x e es)) a ∙ ap (λ s. in_row s c e (joined_in x es)) (ap (same_outcome e.end) (sym is) ∙ a)))

-- ---- rows of ends that are all different

-- none of these is the same
abbrev AreOther : Outcome → List End → Type 0
AreOther o [] = Unit {0}
AreOther o (e ∷ es) = (same_outcome e.end o ≡ false) × AreOther o es

abbrev AreApart : List End → Type 0
AreApart [] = Unit {0}
AreApart (e ∷ es) = AreOther e.end es × AreApart es

others_noted : (o : Outcome) (c : Reached) (es : List End) → AreOther o es → same_outcome c.end o ≡ false → AreOther o (noted_in c es)
others_noted o c [] h other = (other, tt)
others_noted o c (e ∷ es) h other = by (same_outcome e.end c.end) (others_noted o c es h.1 other) where
  by : (b : Bool) → AreOther o (noted_in c es) → AreOther o (in_row b c e es)
  by true k = (ap (λ x. same_outcome x o) (kept_met c.faults c.stalled c.events e) ∙ h.0, h.1)
  by false k = (h.0, k)

-- the same, the other way round
turned : (a b : Outcome) → same_outcome a b ≡ false → same_outcome b a ≡ false
turned a b e = by (same_outcome b a) refl where
  by : (s : Bool) → same_outcome b a ≡ s → s ≡ false
  by false k = refl
  by true k = impossible (sym (subst (λ x. same_outcome x b ≡ true) (same-is b a k) (same-itself b)) ∙ e)

apart_noted : (c : Reached) (es : List End) → AreApart es → AreApart (noted_in c es)
apart_noted c [] h = (tt, tt)
apart_noted c (e ∷ es) h = by (same_outcome e.end c.end) refl (apart_noted c es h.1) where
  by : (b : Bool) → same_outcome e.end c.end ≡ b → AreApart (noted_in c es) → AreApart (in_row b c e es)
  by true s k = (subst (λ o. AreOther o es) (sym (kept_met c.faults c.stalled c.events e)) h.0, h.1)
  by false s k = (others_noted e.end c es h.0 (turned e.end c.end s), k)

-- a run of an end that has a row is noted behind the others
noted_behind : (c : Reached) (xs es : List End) → AreOther c.end xs → has c.end es → all_joined xs (noted_in c es) ≡ noted_in c (all_joined xs es)
noted_behind c [] es h there = refl
noted_behind c (x ∷ xs) es h there = ap (all_joined xs) (noted_joined c x es there h.0) ∙ noted_behind c xs (joined_in x es) h.1 (still_has c.end x es there)

-- a run is noted among rows, and they are joined; or they are joined, and it is noted
noted_all : (c : Reached) (xs es : List End) → AreApart xs → all_joined (noted_in c xs) es ≡ noted_in c (all_joined xs es)
noted_all c [] es h = opened_joined c es
noted_all c (x ∷ xs) es h = by (same_outcome x.end c.end) refl (noted_all c xs (joined_in x es) h.1) where
  by : (b : Bool) → same_outcome x.end c.end ≡ b → all_joined (noted_in c xs) (joined_in x es) ≡ noted_in c (all_joined xs (joined_in x es)) → all_joined (in_row b c x xs) es ≡ noted_in c (all_joined (x ∷ xs) es)
  by true s k =
      ap (all_joined xs) (noted_row c x es s)
      ∙ noted_behind c xs (joined_in x es) (subst (λ o. AreOther o xs) (same-is x.end c.end s) h.0) (subst (λ o. has o (joined_in x es)) (same-is x.end c.end s) (joined_has x es))
  by false s k = k

-- ---- tables

-- this table is one that was joined to another
record IsJoined (t u v : Table) : Type 0 where
  pub runs : v.runs ≡ more t.runs u.runs
  pub past_limit : v.past_limit ≡ more t.past_limit u.past_limit
  pub cut : v.cut ≡ more t.cut u.cut
  pub ends : v.ends ≡ all_joined u.ends t.ends

-- so it stays, whatever runs are noted in both
noted_both : (cs : List Came) (t u v : Table) → AreApart u.ends → IsJoined t u v → IsJoined t (all_noted cs u) (all_noted cs v)
noted_both [] t u v h j = j
noted_both (ToEnd cut c ∷ cs) t u v h j =
    noted_both cs t (noted (ToEnd cut c) u) (noted (ToEnd cut c) v) (apart_noted c u.ends h) (record {
      runs = ap one_more j.runs ∙ one_more_of t.runs u.runs;
      past_limit = j.past_limit;
      cut = ap (one_more_if cut) j.cut ∙ one_more_of_if cut t.cut u.cut;
      ends = ap (noted_in c) j.ends ∙ sym (noted_all c u.ends t.ends h);
    })
noted_both (ToLimit ∷ cs) t u v h j =
    noted_both cs t (noted ToLimit u) (noted ToLimit v) h
    (record { runs = ap one_more j.runs ∙ one_more_of t.runs u.runs; past_limit = ap one_more j.past_limit ∙ one_more_of t.past_limit u.past_limit; cut = j.cut; ends = j.ends })

-- the runs of one table are noted behind those of another
pub tables_joined : (cs : List Came) (t u new : Table) → u ≡ table_of cs → new.runs ≡ more t.runs u.runs → new.past_limit ≡ more t.past_limit u.past_limit → new.cut ≡ more t.cut u.cut → new.ends ≡ all_joined u.ends t.ends → new ≡ all_noted cs t
tables_joined cs t u new is runs past_limit cut ends =
    let all = noted_both cs t empty t tt (record { runs = refl; past_limit = refl; cut = refl; ends = refl }) in
    let one : new.runs ≡ (all_noted cs t).runs = runs ∙ (ap (λ (x : Table). more t.runs x.runs) is ∙ sym all.runs) in
    let two : new.past_limit ≡ (all_noted cs t).past_limit = past_limit ∙ (ap (λ (x : Table). more t.past_limit x.past_limit) is ∙ sym all.past_limit) in
    let three : new.cut ≡ (all_noted cs t).cut = cut ∙ (ap (λ (x : Table). more t.cut x.cut) is ∙ sym all.cut) in
    let four : new.ends ≡ (all_noted cs t).ends = ends ∙ (ap (λ (x : Table). all_joined x.ends t.ends) is ∙ sym all.ends) in
    λ i. record { runs = one i; past_limit = two i; cut = three i; ends = four i }

-- ---- the rows of the code

-- the row of the end is this one, or it is new
abbrev from_row : Bool → End → Row → List Row → List End
from_row b x r rs = if b then joined (as_end r) x ∷ map as_end rs else as_end r ∷ joined_in x (map as_end rs)

record IsAt (x : End) (k : ℕ) (rows : List Row) (i : ℕ) : Type 0 where
  pub front : List Row
  pub row : Row
  pub back : List Row
  pub are : rows ≡ front ++ row ∷ back
  pub place : i ≡ k + length front
  pub joins : joined_in x (map as_end rows) ≡ map as_end front ++ joined (as_end row) x ∷ map as_end back

found_at : (x : End) (k : ℕ) (rows : List Row) (i : ℕ) → place_from x.end k rows ≡ Some i → IsAt x k rows i
found_at x k [] i e = absurd (cc)
found_at x k (r ∷ rs) i e = by (same_outcome r.end x.end) refl e (found_at x (k + 1) rs i) where
  goes : IsAt x (k + 1) rs i → same_outcome r.end x.end ≡ false → IsAt x k (r ∷ rs) i
  goes at other =
      let place = at.place in
      record { front = r ∷ at.front; row = at.row; back = at.back; are = ap (λ xs. r ∷ xs) at.are; place = omega (arith, place); joins = ap (λ b. from_row b x r rs) other ∙ ap (λ xs. as_end r ∷ xs) at.joins }

  by : (b : Bool) → same_outcome r.end x.end ≡ b → (if b then Some k else place_from x.end (k + 1) rs) ≡ Some i → (place_from x.end (k + 1) rs ≡ Some i → IsAt x (k + 1) rs i) → IsAt x k (r ∷ rs) i
  by true same here more = let place = some_is k i here in record { front = []; row = r; back = rs; are = refl; place = omega (arith, place); joins = ap (λ b. from_row b x r rs) same }
  by false other here more = goes (more here) other

pub joins_at : (x : End) (rows new : List Row) (i : ℕ) (row d : Row) → place_from x.end 0 rows ≡ Some i → new ≡ set rows i row → as_end row ≡ joined (as_end (get_or rows i d)) x → map as_end new ≡ joined_in x (map as_end rows)
joins_at x rows new i row d e is says =
    let at = found_at x 0 rows i e in
    let place : length at.front ≡ i = let p = at.place in omega (arith, p) in
    let was : get_or rows i d ≡ at.row = ap (λ xs. get_or xs i d) at.are ∙ get_or_at at.front at.row at.back d i place in
    let now : new ≡ at.front ++ row ∷ at.back = is ∙ (ap (λ xs. set xs i row) at.are ∙ set_at at.front at.row at.back row i place) in
    ap (map as_end) now ∙ (mapped at.front (row ∷ at.back) ∙ (ap (λ y. map as_end at.front ++ y ∷ map as_end at.back) (says ∙ ap (λ y. joined (as_end y) x) was) ∙ sym at.joins))

none_from : (x : End) (k : ℕ) (rows : List Row) → place_from x.end k rows ≡ None → joined_in x (map as_end rows) ≡ map as_end rows ++ x ∷ []
none_from x k [] e = refl
none_from x k (r ∷ rs) e = by (same_outcome r.end x.end) refl e (none_from x (k + 1) rs) where
  by : (b : Bool) → same_outcome r.end x.end ≡ b → (if b then Some k else place_from x.end (k + 1) rs) ≡ None → (place_from x.end (k + 1) rs ≡ None → joined_in x (map as_end rs) ≡ map as_end rs ++ x ∷ []) →
      joined_in x (map as_end (r ∷ rs)) ≡ map as_end (r ∷ rs) ++ x ∷ []
  by true same here more = absurd (cc)
  by false other here more = ap (λ b. from_row b x r rs) other ∙ ap (λ xs. as_end r ∷ xs) (more here)

pub joins_behind : (rows new : List Row) (row : Row) → place_from row.end 0 rows ≡ None → new ≡ rows ++ row ∷ [] → map as_end new ≡ joined_in (as_end row) (map as_end rows)
joins_behind rows new row e is = ap (map as_end) is ∙ (mapped rows (row ∷ []) ∙ sym (none_from (as_end row) 0 rows e))

joined_snoc : (bs : List End) (b : End) (es : List End) → all_joined (bs ++ b ∷ []) es ≡ joined_in b (all_joined bs es)
joined_snoc [] b es = refl
joined_snoc (x ∷ xs) b es = joined_snoc xs b (joined_in x es)

-- a row more was joined
pub one_joined : (xs : List Row) (r : Row) (start mid new : List End) → mid ≡ all_joined (map as_end xs) start → new ≡ joined_in (as_end r) mid → new ≡ all_joined (map as_end (xs ++ r ∷ [])) start
one_joined xs r start mid new a b = b ∙ (ap (joined_in (as_end r)) a ∙ (sym (joined_snoc (map as_end xs) (as_end r) start) ∙ ap (λ ys. all_joined ys start) (sym (mapped xs (r ∷ [])))))
