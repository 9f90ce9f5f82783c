-- The laws of the readings.
use Rattle.std.proofs.Common.{◌≡◌, ◌≤◌, ◌<◌, ◌+◌, ◌-◌, ◌*◌, ℕ, Bool, true, false, ◌&&◌, ◌||◌, not, cond, nat_le, List, [], ◌∷◌, ◌++◌, count_by, Some, None, is_none, ◌⊎◌, inl, inr, refl, sym, ap, subst, ◌∙◌, true≢false, arith}
use Rattle.std.specs.List.{list_any}
use Rattle.std.proofs.lemmas.Bool.Decides.{nat_tests}
use Rattle.mr_ids.specs.Attempt.{Attempt}
use Rattle.mr_ids.specs.declared.id.TaskId.{TaskId}
use Rattle.mr_ids.specs.declared.id.TaskKind.{TaskKind}
use Rattle.mr_ids.specs.declared.id.TaskKind.TheVariants.{Reduce}
use Rattle.mr_ids.specs.Same.{same_task}
use Rattle.mr_grant.specs.Attempts.{same_attempt, has, first_of}
use Rattle.mr_grant.proofs.Same.{same-is, same-itself}
use Rattle.mr_grant.proofs.GrantLaws.{one_is_first}
use Rattle.mr_task.specs.Calls.{TaskCall, Launches, Hears, Asks, Reports, Fails, Ends, Dies, Records, Recovers, Loses}
use Rattle.mr_task.specs.Readings.{Seen, Ending, seen, next_seen, is_over, has_failed, is_reduce, is_live, is_won, stands, failures, may_accept, may_accept_of, waiting_in, named, launch_refusal, numbered_up_to, may_recover, after_launch, after_done, after_end}
use Rattle.mr_task.specs.Laws.{NameStays, AcceptedStays, DoneIsForGood, OneIsAccepted, WonIsForGood, NoFailures, NumbersAreFresh}
use Rattle.mr_task.proofs.Arrivals.{left, right, is_false, arrivals, fresh, may-launch, nothing-arrived}
use Rattle.mr_task.proofs.Growth.{accepted-arrived, recorded-arrived, accepted-not-over, grows, name-stays}

pub name_stays : NameStays
name_stays = name-stays

pub accepted_stays : AcceptedStays
accepted_stays t k h more a e =
    let there = (grows t k h more).accepted a e in
    record { accepted = there; is_not_over = accepted-not-over t k (more ++ h) a there }

-- ---- Done of a reduce

-- who may be accepted has arrived, and is not accepted yet
may-arrived : (s : Seen) (a : Attempt) → may_accept s a ≡ true → has s.arrived a ≡ true
may-arrived s a e = left (has s.arrived a) (not (has s.accepted a) && may_accept_of a.task.kind s a) e

may-new : (s : Seen) (a : Attempt) → may_accept s a ≡ true → has s.accepted a ≡ false
may-new s a e = is_false (has s.accepted a) (left (not (has s.accepted a)) (may_accept_of a.task.kind s a) (right (has s.arrived a) (not (has s.accepted a) && may_accept_of a.task.kind s a) e))

kind-is : (t : TaskId) (k : ℕ) (h : List TaskCall) (a : Attempt) → t.kind ≡ Reduce → has (seen t k h).arrived a ≡ true → a.task.kind ≡ Reduce
kind-is t k h a r there = ap (λ (u : TaskId). u.kind) ((arrivals t k h).of_task a there) ∙ r

-- a reduce that may be accepted is named
may-named : (t : TaskId) (k : ℕ) (h : List TaskCall) (a : Attempt) → t.kind ≡ Reduce → may_accept (seen t k h) a ≡ true → named (seen t k h) ≡ Some a
may-named t k h a r e =
    let s = seen t k h in
    let kind = kind-is t k h a r (may-arrived s a e) in
    let may = right (not (has s.accepted a)) (may_accept_of a.task.kind s a) (right (has s.arrived a) (not (has s.accepted a) && may_accept_of a.task.kind s a) e) in
    let P : TaskKind → Type 0 = λ x. may_accept_of x s a ≡ true in
    one_is_first.alone (waiting_in s.asked s.ended) a (subst P kind may)

-- what Done leaves where it is accepted
done-is : (s : Seen) (a : Attempt) → may_accept s a ≡ true → after_done s a ≡ record s { accepted = a ∷ s.accepted; is_fixed = is_reduce a.task.kind || s.is_fixed }
done-is s a e = ap (λ b. cond b (record s { accepted = a ∷ s.accepted; is_fixed = is_reduce a.task.kind || s.is_fixed }) s) e

pub done_is_for_good : DoneIsForGood
unfolding seen next_seen
done_is_for_good t k h more a r e =
    let s = seen t k h in
    let is = done-is s a e in
    let there : has (seen t k (Reports a ∷ h)).accepted a ≡ true = ap (λ (x : Seen). has x.accepted a) is ∙ ap (λ b. b || has s.accepted a) (same-itself a) in
    let name : named (seen t k (Reports a ∷ h)) ≡ Some a = ap (λ (x : Seen). named x) is ∙ may-named t k h a r e in
    name-stays t k (Reports a ∷ h) more a name (accepted_stays t k (Reports a ∷ h) more a there).is_not_over

-- ---- a reduce is won for good

-- a choice between a record that leaves a part, and what was
lost_choice : (c : Bool) (r s : Seen) → r.lost ≡ s.lost → (cond c r s).lost ≡ s.lost
lost_choice true r s e = e
lost_choice false r s e = refl

arrived_choice : (c : Bool) (r s : Seen) → r.arrived ≡ s.arrived → (cond c r s).arrived ≡ s.arrived
arrived_choice true r s e = e
arrived_choice false r s e = refl

-- a reduce's attempt is not lost
not-lost : (t : TaskId) (k : ℕ) (h : List TaskCall) (a : Attempt) → t.kind ≡ Reduce → (not (is_reduce a.task.kind) && has (seen t k h).recorded a) ≡ false
not-lost t k h a r = by (has (seen t k h).recorded a) refl
  where
    none : (b : Bool) → (b && false) ≡ false
    none true = refl
    none false = refl

    by : (b : Bool) → has (seen t k h).recorded a ≡ b → (not (is_reduce a.task.kind) && b) ≡ false
    by true e = ap (λ (x : TaskKind). not (is_reduce x) && true) (kind-is t k h a r (recorded-arrived t k h a e))
    by false e = none (not (is_reduce a.task.kind))

-- of a reduce nothing is lost
pub lost-none : (t : TaskId) (k : ℕ) (h : List TaskCall) → t.kind ≡ Reduce → (seen t k h).lost ≡ []
unfolding seen next_seen
lost-none t k [] r = refl
lost-none t k (Launches ∷ h) r = let s = seen t k h in lost_choice (is_none (launch_refusal s)) (after_launch t k s) s refl ∙ lost-none t k h r
lost-none t k (Hears a ∷ h) r = lost-none t k h r
lost-none t k (Asks a ∷ h) r = let s = seen t k h in lost_choice (has s.arrived a && not (has s.asked a)) (record s { asked = s.asked ++ a ∷ [] }) s refl ∙ lost-none t k h r
lost-none t k (Reports a ∷ h) r = let s = seen t k h in lost_choice (may_accept s a) (record s { accepted = a ∷ s.accepted; is_fixed = is_reduce a.task.kind || s.is_fixed }) s refl ∙ lost-none t k h r
lost-none t k (Fails a ∷ h) r = let s = seen t k h in lost_choice (is_live s a) (record s { ended = record { attempt = a; is_failure = true } ∷ s.ended }) s refl ∙ lost-none t k h r
lost-none t k (Ends a was_asked ∷ h) r = let s = seen t k h in lost_choice (is_live s a) (record s { ended = record { attempt = a; is_failure = not was_asked } ∷ s.ended }) s refl ∙ lost-none t k h r
lost-none t k (Dies a ∷ h) r = let s = seen t k h in lost_choice (is_live s a) (record s { ended = record { attempt = a; is_failure = false } ∷ s.ended }) s refl ∙ lost-none t k h r
lost-none t k (Records a ∷ h) r = let s = seen t k h in lost_choice (has s.accepted a) (record s { recorded = a ∷ s.recorded }) s refl ∙ lost-none t k h r
lost-none t k (Recovers a ∷ h) r = let s = seen t k h in
    lost_choice (may_recover t s a) (record s { arrived = a ∷ []; accepted = a ∷ []; recorded = a ∷ []; numbered = numbered_up_to k a }) s refl ∙ lost-none t k h r
lost-none t k (Loses a ∷ h) r = let s = seen t k h in ap (λ b. (cond b (record s { lost = a ∷ s.lost }) s).lost) (not-lost t k h a r) ∙ lost-none t k h r

any-at : (p : Attempt → Bool) (xs : List Attempt) (a : Attempt) → has xs a ≡ true → p a ≡ true → list_any p xs ≡ true
any-at p [] a there e = absurd (true≢false (sym there))
any-at p (x ∷ xs) a there e = by (same_attempt a x) refl there (λ rest. any-at p xs a rest e)
  where
    by : (b : Bool) → same_attempt a x ≡ b → (b || has xs a) ≡ true → (has xs a ≡ true → list_any p xs ≡ true) → (p x || list_any p xs) ≡ true
    by true q h rest = ap (λ b. b || list_any p xs) (ap p (sym (same-is a x q)) ∙ e)
    by false q h rest = ap (λ b. p x || b) (rest h) ∙ or-true (p x)
      where
        or-true : (b : Bool) → (b || true) ≡ true
        or-true true = refl
        or-true false = refl

-- a reduce with an accepted attempt is won
pub accepted-won : (t : TaskId) (k : ℕ) (h : List TaskCall) (a : Attempt) → t.kind ≡ Reduce → has (seen t k h).accepted a ≡ true → is_won (seen t k h) ≡ true
accepted-won t k h a r e =
    let s = seen t k h in
    any-at (stands s) s.arrived a (accepted-arrived t k h a e) (λ i. e i && not (has (lost-none t k h r i) a))

-- a won task launches none
won-refuses : (s : Seen) → is_won s ≡ true → is_none (launch_refusal s) ≡ false
won-refuses s e = by (is_none (launch_refusal s)) refl
  where
    by : (b : Bool) → is_none (launch_refusal s) ≡ b → b ≡ false
    by false q = refl
    by true q = absurd (true≢false (sym e ∙ (may-launch s q).not_won))

-- a won task has arrivals, so it recovers none
won-recovers-none : (t : TaskId) (s : Seen) (a : Attempt) → is_won s ≡ true → may_recover t s a ≡ false
won-recovers-none t s a e = by (may_recover t s a) refl
  where
    by : (b : Bool) → may_recover t s a ≡ b → b ≡ false
    by false q = refl
    by true q = absurd (true≢false (sym e ∙ ap (list_any (stands s)) (nothing-arrived s.arrived (left (is_none (first_of s.arrived)) (same_task a.task t) q))))

-- an attempt that stands
stands-one : (s : Seen) (xs : List Attempt) → list_any (stands s) xs ≡ true → (a : Attempt) × (has s.accepted a ≡ true)
stands-one s [] e = absurd (true≢false (sym e))
stands-one s (x ∷ xs) e = by (stands s x) refl e (stands-one s xs)
  where
    by : (b : Bool) → stands s x ≡ b → (b || list_any (stands s) xs) ≡ true → (list_any (stands s) xs ≡ true → (a : Attempt) × (has s.accepted a ≡ true))
        → (a : Attempt) × (has s.accepted a ≡ true)
    by true q h rest = (x, left (has s.accepted x) (not (has s.lost x)) q)
    by false q h rest = rest h

-- what each call leaves of a won task's arrivals
arrived-step : (t : TaskId) (k : ℕ) (s : Seen) (c : TaskCall) → is_won s ≡ true → (next_seen t k s c).arrived ≡ s.arrived
unfolding next_seen
arrived-step t k s Launches e = ap (λ b. (cond b (after_launch t k s) s).arrived) (won-refuses s e)
arrived-step t k s (Hears a) e = refl
arrived-step t k s (Asks a) e = arrived_choice (has s.arrived a && not (has s.asked a)) (record s { asked = s.asked ++ a ∷ [] }) s refl
arrived-step t k s (Reports a) e = arrived_choice (may_accept s a) (record s { accepted = a ∷ s.accepted; is_fixed = is_reduce a.task.kind || s.is_fixed }) s refl
arrived-step t k s (Fails a) e = arrived_choice (is_live s a) (record s { ended = record { attempt = a; is_failure = true } ∷ s.ended }) s refl
arrived-step t k s (Ends a was_asked) e = arrived_choice (is_live s a) (record s { ended = record { attempt = a; is_failure = not was_asked } ∷ s.ended }) s refl
arrived-step t k s (Dies a) e = arrived_choice (is_live s a) (record s { ended = record { attempt = a; is_failure = false } ∷ s.ended }) s refl
arrived-step t k s (Records a) e = arrived_choice (has s.accepted a) (record s { recorded = a ∷ s.recorded }) s refl
arrived-step t k s (Recovers a) e =
    ap (λ b. (cond b (record s { arrived = a ∷ []; accepted = a ∷ []; recorded = a ∷ []; numbered = numbered_up_to k a }) s).arrived) (won-recovers-none t s a e)
arrived-step t k s (Loses a) e = arrived_choice (not (is_reduce a.task.kind) && has s.recorded a) (record s { lost = a ∷ s.lost }) s refl

-- it stays won, since the accepted attempt stays accepted
won-stays : (t : TaskId) (k : ℕ) (h more : List TaskCall) → t.kind ≡ Reduce → is_won (seen t k h) ≡ true → is_won (seen t k (more ++ h)) ≡ true
won-stays t k h more r e =
    let one = stands-one (seen t k h) (seen t k h).arrived e in
    accepted-won t k (more ++ h) one.0 r ((grows t k h more).accepted one.0 one.1)

arrived-stays : (t : TaskId) (k : ℕ) (h more : List TaskCall) → t.kind ≡ Reduce → is_won (seen t k h) ≡ true → (seen t k (more ++ h)).arrived ≡ (seen t k h).arrived
unfolding seen
arrived-stays t k h [] r e = refl
arrived-stays t k h (c ∷ more) r e = arrived-step t k (seen t k (more ++ h)) c (won-stays t k h more r e) ∙ arrived-stays t k h more r e

pub won_is_for_good : WonIsForGood
won_is_for_good t k h more r e = (won-stays t k h more r e, arrived-stays t k h more r e)

-- ---- of a reduce one is accepted

-- whoever is accepted is named, or arrived alone (a recovered one)
Owns : Seen → Attempt → Type 0
Owns s a = (named s ≡ Some a) ⊎ (s.arrived ≡ a ∷ [])

record Sole (s : Seen) : Type 0 where
  pub owns : (a : Attempt) → has s.accepted a ≡ true → Owns s a
  pub one : (a b : Attempt) → has s.accepted a ≡ true → has s.accepted b ≡ true → a ≡ b

one-of : (x a : Attempt) (xs : List Attempt) → (has xs x ≡ true → ⊥) → (same_attempt x a || has xs x) ≡ true → x ≡ a
one-of x a xs none e = by (same_attempt x a) refl e
  where
    by : (b : Bool) → same_attempt x a ≡ b → (b || has xs x) ≡ true → x ≡ a
    by true q h = same-is x a q
    by false q h = absurd (none h)

-- where one may be accepted, none is
none-accepted : (t : TaskId) (k : ℕ) (h : List TaskCall) (a x : Attempt) → t.kind ≡ Reduce → may_accept (seen t k h) a ≡ true → Sole (seen t k h) → has (seen t k h).accepted x ≡ true → ⊥
unfolding Owns
none-accepted t k h a x r may sole e =
    let s = seen t k h in
    let not_x : x ≡ a → ⊥ = λ q. true≢false (sym e ∙ ap (has s.accepted) q ∙ may-new s a may) in
    elim (sole.owns x e) [
      | inl n ↦ let both : Some x ≡ Some a = sym n ∙ may-named t k h a r may in let q : x ≡ a = cc in not_x q
      | inr alone ↦ not_x (sym (only (same_attempt a x) refl (sym (ap (λ xs. has xs a) alone) ∙ may-arrived s a may)))
    ]
  where
    only : (b : Bool) → same_attempt a x ≡ b → (b || false) ≡ true → a ≡ x
    only true q i = same-is a x q
    only false q i = absurd (true≢false (sym i))

-- the accepted stay, and so do the arrivals and the name
sole-same : (t : TaskId) (k : ℕ) (h : List TaskCall) (c : TaskCall) → (seen t k (c ∷ h)).accepted ≡ (seen t k h).accepted → (seen t k (c ∷ h)).arrived ≡ (seen t k h).arrived
    → Sole (seen t k h) → Sole (seen t k (c ∷ h))
unfolding Owns
sole-same t k h c acc arr sole = record {
  owns = λ a e.
      let before : has (seen t k h).accepted a ≡ true = sym (ap (λ xs. has xs a) acc) ∙ e in
      elim (sole.owns a before) [
        | inl n ↦ inl (name-stays t k h (c ∷ []) a n (accepted-not-over t k (c ∷ h) a e))
        | inr alone ↦ inr (arr ∙ alone)
      ];
  one = λ a b e f. sole.one a b (sym (ap (λ xs. has xs a) acc) ∙ e) (sym (ap (λ xs. has xs b) acc) ∙ f);
}

accepted_choice : (c : Bool) (r s : Seen) → r.accepted ≡ s.accepted → (cond c r s).accepted ≡ s.accepted
accepted_choice true r s e = e
accepted_choice false r s e = refl

-- a reduce with an accepted attempt launches none
sole-launched : (t : TaskId) (k : ℕ) (h : List TaskCall) → t.kind ≡ Reduce → Sole (seen t k h) → (b : Bool) → is_none (launch_refusal (seen t k h)) ≡ b
    → Sole (cond b (after_launch t k (seen t k h)) (seen t k h))
sole-launched t k h r sole true e = record { owns = λ a acc. absurd (none a acc); one = λ a b acc other. absurd (none a acc) }
  where
    none : (a : Attempt) → has (seen t k h).accepted a ≡ true → ⊥
    none a acc = true≢false (sym e ∙ won-refuses (seen t k h) (accepted-won t k h a r acc))
sole-launched t k h r sole false e = sole

sole-done : (t : TaskId) (k : ℕ) (h : List TaskCall) (a : Attempt) → t.kind ≡ Reduce → Sole (seen t k h) → (b : Bool) → may_accept (seen t k h) a ≡ b
    → Sole (cond b (record (seen t k h) { accepted = a ∷ (seen t k h).accepted; is_fixed = is_reduce a.task.kind || (seen t k h).is_fixed }) (seen t k h))
unfolding Owns
sole-done t k h a r sole true may = record {
  owns = λ x e. inl (may-named t k h a r may ∙ ap (λ y. Some y) (sym (one-of x a (seen t k h).accepted (none-accepted t k h a x r may sole) e)));
  one = λ x y e f. one-of x a (seen t k h).accepted (none-accepted t k h a x r may sole) e
      ∙ sym (one-of y a (seen t k h).accepted (none-accepted t k h a y r may sole) f);
}
sole-done t k h a r sole false may = sole

sole-recovered : (t : TaskId) (k : ℕ) (s : Seen) (a : Attempt) → Sole s → (b : Bool)
    → Sole (cond b (record s { arrived = a ∷ []; accepted = a ∷ []; recorded = a ∷ []; numbered = numbered_up_to k a }) s)
unfolding Owns
sole-recovered t k s a sole true = record {
  owns = λ x e. inr (ap (λ (y : Attempt). y ∷ []) (sym (one-of x a [] (λ none. true≢false (sym none)) e)));
  one = λ x y e f. one-of x a [] (λ none. true≢false (sym none)) e ∙ sym (one-of y a [] (λ none. true≢false (sym none)) f);
}
sole-recovered t k s a sole false = sole

sole-of : (t : TaskId) (k : ℕ) (h : List TaskCall) → t.kind ≡ Reduce → Sole (seen t k h)
unfolding seen next_seen
sole-of t k [] r = record { owns = λ a e. absurd (true≢false (sym e)); one = λ a b e f. absurd (true≢false (sym e)) }
sole-of t k (Launches ∷ h) r = sole-launched t k h r (sole-of t k h r) (is_none (launch_refusal (seen t k h))) refl
sole-of t k (Hears a ∷ h) r = sole-of t k h r
sole-of t k (Asks a ∷ h) r = let s = seen t k h in let c = has s.arrived a && not (has s.asked a) in let q : Seen = record s { asked = s.asked ++ a ∷ [] } in
    sole-same t k h (Asks a) (accepted_choice c q s refl) (arrived_choice c q s refl) (sole-of t k h r)
sole-of t k (Reports a ∷ h) r = sole-done t k h a r (sole-of t k h r) (may_accept (seen t k h) a) refl
sole-of t k (Fails a ∷ h) r = let s = seen t k h in let q : Seen = record s { ended = record { attempt = a; is_failure = true } ∷ s.ended } in
    sole-same t k h (Fails a) (accepted_choice (is_live s a) q s refl) (arrived_choice (is_live s a) q s refl) (sole-of t k h r)
sole-of t k (Ends a was_asked ∷ h) r = let s = seen t k h in let q : Seen = record s { ended = record { attempt = a; is_failure = not was_asked } ∷ s.ended } in
    sole-same t k h (Ends a was_asked) (accepted_choice (is_live s a) q s refl) (arrived_choice (is_live s a) q s refl) (sole-of t k h r)
sole-of t k (Dies a ∷ h) r = let s = seen t k h in let q : Seen = record s { ended = record { attempt = a; is_failure = false } ∷ s.ended } in
    sole-same t k h (Dies a) (accepted_choice (is_live s a) q s refl) (arrived_choice (is_live s a) q s refl) (sole-of t k h r)
sole-of t k (Records a ∷ h) r = let s = seen t k h in let q : Seen = record s { recorded = a ∷ s.recorded } in
    sole-same t k h (Records a) (accepted_choice (has s.accepted a) q s refl) (arrived_choice (has s.accepted a) q s refl) (sole-of t k h r)
sole-of t k (Recovers a ∷ h) r = sole-recovered t k (seen t k h) a (sole-of t k h r) (may_recover t (seen t k h) a)
sole-of t k (Loses a ∷ h) r = let s = seen t k h in let c = not (is_reduce a.task.kind) && has s.recorded a in let q : Seen = record s { lost = a ∷ s.lost } in
    sole-same t k h (Loses a) (accepted_choice c q s refl) (arrived_choice c q s refl) (sole-of t k h r)

pub one_is_accepted : OneIsAccepted
one_is_accepted t k h a b r e f = (sole-of t k h r).one a b e f

-- ---- failures

not-failed : (es : List Ending) (a : Attempt) → is_over es a ≡ false → has_failed es a ≡ false
not-failed [] a e = refl
not-failed (x ∷ es) a e = by (same_attempt a x.attempt) e (not-failed es a)
  where
    by : (b : Bool) → (b || is_over es a) ≡ false → (is_over es a ≡ false → has_failed es a ≡ false) → cond b x.is_failure (has_failed es a) ≡ false
    by true h rest = absurd (true≢false h)
    by false h rest = rest h

count-same : (p q : Attempt → Bool) (xs : List Attempt) → ((x : Attempt) → p x ≡ q x) → count_by p xs ≡ count_by q xs
count-same p q xs h = λ i. count_by (λ x. h x i) xs

live-not-over : (s : Seen) (a : Attempt) → is_live s a ≡ true → is_over s.ended a ≡ false
live-not-over s a e = is_false (is_over s.ended a) (right (not (has s.accepted a)) (not (is_over s.ended a)) (right (has s.arrived a) (not (has s.accepted a) && not (is_over s.ended a)) e))

-- an end that is no failure
no-failure : (s : Seen) (a : Attempt) → failures (after_end s a false) ≡ failures s
no-failure s a = by (is_live s a) refl
  where
    each : is_live s a ≡ true → (x : Attempt) → (m : Bool) → same_attempt x a ≡ m → cond m false (has_failed s.ended x) ≡ has_failed s.ended x
    each live x true e = sym (ap (has_failed s.ended) (same-is x a e) ∙ not-failed s.ended a (live-not-over s a live))
    each live x false e = refl

    by : (b : Bool) → is_live s a ≡ b → failures (cond b (record s { ended = record { attempt = a; is_failure = false } ∷ s.ended }) s) ≡ failures s
    by true live = count-same (has_failed (record { attempt = a; is_failure = false } ∷ s.ended)) (has_failed s.ended) s.arrived (λ x. each live x (same_attempt x a) refl)
    by false live = refl

-- an accepted attempt does not end
accepted-end : (s : Seen) (a : Attempt) (f : Bool) → has s.accepted a ≡ true → after_end s a f ≡ s
accepted-end s a f e = ap (λ b. cond b (record s { ended = record { attempt = a; is_failure = f } ∷ s.ended }) s) (ap (λ b. has s.arrived a && (not b && not (is_over s.ended a))) e ∙ none (has s.arrived a))
  where
    none : (b : Bool) → (b && false) ≡ false
    none true = refl
    none false = refl

pub no_failures : NoFailures
unfolding seen next_seen
no_failures = record {
  killed = λ t k h a. no-failure (seen t k h) a;
  asked = λ t k h a. no-failure (seen t k h) a;
  accepted_fails = λ t k h a e. accepted-end (seen t k h) a true e;
  accepted_ends = λ t k h a was_asked e. accepted-end (seen t k h) a (not was_asked) e;
}

-- ---- numbers

not-refused : (s : Seen) → launch_refusal s ≡ None → is_none (launch_refusal s) ≡ true
not-refused s e = ap is_none e

pub numbers_are_fresh : NumbersAreFresh
numbers_are_fresh = record {
  distinct = λ t k h. (arrivals t k h).distinct;
  fresh = λ t k h e. fresh t k (seen t k h) (arrivals t k h) (not-refused (seen t k h) e);
  from = λ t k h. omega arith;
  below = λ t k h first e. by k (seen t k h).numbered first (may-launch (seen t k h) (not-refused (seen t k h) e)).numbers;
}
  where
    by : (k n : ℕ) → 1 ≤ k → nat_le 1000 n ≡ false → 1000 * (k - 1) + n < 1000 * k
    by k n first e = let low : n < 1000 = grind (arith, nat_tests) in omega arith
