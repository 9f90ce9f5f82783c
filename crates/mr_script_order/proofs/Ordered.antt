-- The laws of the order of scripts.
use Rattle.std.proofs.Common.{◌≡◌, ◌⊎◌, inl, inr, ◌+◌, ℕ, true, List, [], ◌∷◌, ◌++◌, length, refl, sym, ap, ◌∙◌, arith}
use Rattle.std.proofs.lemmas.Bool.Decides.{nat_tests}
use Rattle.std.proofs.lemmas.List.{length-append}
use Rattle.std.proofs.lemmas.Cmp.{lists_total, nat_cmp_total, on_total, then_total, tied_itself}
use Rattle.std.specs.Cmp.{IsTotalOrder}
use Rattle.std.specs.Cmp.Lexicographic.{on_texts, slice_cmp}
use Rattle.std.specs.FinMap.{IsAntisymmetric, nat_cmp-IsAntisymmetric, slice_cmp-IsAntisymmetric}
use Rattle.std.specs.Ordering.{is_lt, nat_cmp, ordering_reverse, ordering_then}
use Rattle.std.specs.declared.cmp.Ordering.{Ordering}
use Rattle.std.specs.declared.cmp.Ordering.TheVariants.{Less, Equal, Greater}
use Rattle.mr_world_events.specs.declared.event.Event.{Event}
use Rattle.mr_script_order.specs.Laws.{IsOrderOfScripts, StaysBehind}
use Rattle.mr_script_order.specs.Order.{event_cmp, numbers, script_cmp, sooner}
use Rattle.mr_script_order.proofs.Numbers.{numbers_tell}

-- ---- comparisons

pub events_total : IsTotalOrder event_cmp
events_total = on_texts numbers

pub scripts_total : IsTotalOrder script_cmp
scripts_total = then_total (on_total length nat_cmp_total) (lists_total events_total)

exact_events : IsAntisymmetric event_cmp
exact_events a b h = numbers_tell a b (slice_cmp-IsAntisymmetric nat_cmp-IsAntisymmetric (numbers a) (numbers b) h)

second_equal : (o p : Ordering) → ordering_then o p ≡ Equal → p ≡ Equal
second_equal Less p h = absurd (cc)
second_equal Equal p h = h
second_equal Greater p h = absurd (cc)

exact_scripts : IsAntisymmetric script_cmp
exact_scripts a b h = slice_cmp-IsAntisymmetric exact_events a b (second_equal (nat_cmp (length a) (length b)) (slice_cmp event_cmp a b) h)

-- ---- sooner

is_less : (o : Ordering) → is_lt o ≡ true → o ≡ Less
is_less Less h = refl
is_less Equal h = absurd (cc)
is_less Greater h = absurd (cc)

-- a script comes before another just where their comparison says so
less_of : (a b : List Event) → sooner a b ≡ true → script_cmp a b ≡ Less
unfolding sooner
less_of a b h = is_less _ h

by_cmp : (a b : List Event) → sooner a b ≡ is_lt (script_cmp a b)
unfolding sooner
by_cmp a b = refl

of_three : (a b : List Event) (o : Ordering) → o ≡ script_cmp a b → (sooner a b ≡ true) ⊎ ((a ≡ b) ⊎ (sooner b a ≡ true))
of_three a b Less h = inl (by_cmp a b ∙ ap is_lt (sym h))
of_three a b Equal h = inr (inl (exact_scripts a b (sym h)))
of_three a b Greater h = inr (inr (by_cmp b a ∙ ap is_lt (scripts_total.antisymm b a ∙ ap ordering_reverse (sym h))))

pub in_order : IsOrderOfScripts
in_order =
    record {
      never_itself = λ a. by_cmp a a ∙ ap is_lt (tied_itself scripts_total a);
      onward = λ a b c h g. by_cmp a c ∙ ap is_lt (scripts_total.trans a b c (less_of a b h) (less_of b c g));
      total = λ a b. of_three a b (script_cmp a b) refl;
    }

-- ---- what follows, and what stands in front

first_less : (o p q : Ordering) → (p ≡ Less → q ≡ Less) → ordering_then o p ≡ Less → ordering_then o q ≡ Less
first_less Less p q f h = refl
first_less Equal p q f h = f h
first_less Greater p q f h = h

-- of lists that are as long, what decides stands in front of what follows
less_in_front : {K : Type 0} (R : K → K → Ordering) (a b xs ys : List K) → length a ≡ length b → slice_cmp R a b ≡ Less → slice_cmp R (a ++ xs) (b ++ ys) ≡ Less
less_in_front R [] [] xs ys e h = absurd (cc)
less_in_front R [] (y ∷ b) xs ys e h = absurd (omega arith)
less_in_front R (x ∷ a) [] xs ys e h = absurd (omega arith)
less_in_front R (x ∷ a) (y ∷ b) xs ys e h = first_less (R x y) _ _ (less_in_front R a b xs ys (omega arith)) h

behind_front : {K : Type 0} (R : K → K → Ordering) → IsTotalOrder R → (front a b : List K) → slice_cmp R (front ++ a) (front ++ b) ≡ slice_cmp R a b
behind_front R total [] a b = refl
behind_front R total (x ∷ front) a b = ap (λ o. ordering_then o (slice_cmp R (front ++ a) (front ++ b))) (tied_itself total x) ∙ behind_front R total front a b

level_behind : (k m n : ℕ) → nat_cmp (m + k) (n + k) ≡ nat_cmp m n
level_behind k m n = grind (arith, nat_tests)

lengths_behind : (a b xs ys : List Event) → length xs ≡ length ys → nat_cmp (length (a ++ xs)) (length (b ++ ys)) ≡ nat_cmp (length a) (length b)
lengths_behind a b xs ys e =
    ap (λ n. nat_cmp n (length (b ++ ys))) (length-append a xs) ∙ (ap (nat_cmp (length a + length xs)) (length-append b ys ∙ ap (λ n. length b + n) (sym e)) ∙ level_behind (length xs) (length a) (length b))

lengths_in_front : (front a b : List Event) → nat_cmp (length (front ++ a)) (length (front ++ b)) ≡ nat_cmp (length a) (length b)
lengths_in_front front a b =
    let at : nat_cmp (length front + length a) (length front + length b) ≡ nat_cmp (length a) (length b) = grind (arith, nat_tests) in
    ap (λ n. nat_cmp n (length (front ++ b))) (length-append front a) ∙ (ap (nat_cmp (length front + length a)) (length-append front b) ∙ at)

-- fewer events decide; of as many the first that differs
less_behind : (a b xs ys : List Event) (o : Ordering) → o ≡ nat_cmp (length a) (length b) → length xs ≡ length ys → ordering_then o (slice_cmp event_cmp a b) ≡ Less → ordering_then o (slice_cmp event_cmp (a ++ xs) (b ++ ys)) ≡ Less
less_behind a b xs ys Less h e l = refl
less_behind a b xs ys Equal h e l = less_in_front event_cmp a b xs ys (nat_cmp-IsAntisymmetric (length a) (length b) (sym h)) l
less_behind a b xs ys Greater h e l = l

stays_behind : (a b xs ys : List Event) → length xs ≡ length ys → sooner a b ≡ true → sooner (a ++ xs) (b ++ ys) ≡ true
stays_behind a b xs ys e h =
    let less = less_behind a b xs ys _ refl e (less_of a b h) in
    by_cmp (a ++ xs) (b ++ ys) ∙ (ap (λ o. is_lt (ordering_then o (slice_cmp event_cmp (a ++ xs) (b ++ ys)))) (lengths_behind a b xs ys e) ∙ ap is_lt less)

stays_in_front : (front a b : List Event) → sooner (front ++ a) (front ++ b) ≡ sooner a b
stays_in_front front a b =
    let lengths = ap (λ o. ordering_then o (slice_cmp event_cmp (front ++ a) (front ++ b))) (lengths_in_front front a b) in
    let events = ap (ordering_then (nat_cmp (length a) (length b))) (behind_front event_cmp events_total front a b) in
    by_cmp (front ++ a) (front ++ b) ∙ (ap is_lt (lengths ∙ events) ∙ sym (by_cmp a b))

pub stays : StaysBehind
stays = record { behind = stays_behind; front = stays_in_front }
