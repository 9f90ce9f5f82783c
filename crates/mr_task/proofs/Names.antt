-- Who waits for the name, and who has it.
use Rattle.std.proofs.Common.{◌≡◌, ℕ, Bool, true, false, ◌&&◌, ◌||◌, not, cond, List, [], ◌∷◌, ◌++◌, Some, is_none, refl, sym, ap, ◌∙◌, true≢false}
use Rattle.mr_ids.specs.Attempt.{Attempt}
use Rattle.mr_ids.specs.declared.id.TaskId.{TaskId}
use Rattle.mr_ids.specs.declared.id.TaskKind.{TaskKind}
use Rattle.mr_ids.specs.declared.id.TaskKind.TheVariants.{Map, Reduce}
use Rattle.mr_ids.specs.Same.{same_task}
use Rattle.mr_grant.specs.Attempts.{same_attempt, has, first_of, is_first, without, with_last}
use Rattle.mr_grant.proofs.Same.{same-is, same-itself}
use Rattle.mr_task.specs.Calls.{TaskCall, Launches, Hears, Asks, Reports, Fails, Ends, Dies, Records, Recovers, Loses}
use Rattle.mr_task.specs.Readings.{Seen, Ending, seen, next_seen, is_over, is_reduce, is_live, may_accept, may_accept_of, launch_refusal, numbered_up_to, may_recover, after_launch, waiting_in, named, named_in}
use Rattle.mr_task.proofs.Same.{same-sym}
use Rattle.mr_task.proofs.Bits.{Bits, unknown-is}
use Rattle.mr_task.proofs.Arrivals.{left, right, is_false, nothing-arrived}
use Rattle.mr_task.proofs.States.{fits}

abbrev waits : List Ending → Attempt → Bool
waits es a = not (is_over es a)

abbrev ending : Attempt → Bool → Ending
ending a f = record { attempt = a; is_failure = f }

-- ---- one asks more

pub asks-over : (xs : List Attempt) (es : List Ending) (a : Attempt) → is_over es a ≡ true → waiting_in (xs ++ a ∷ []) es ≡ waiting_in xs es
asks-over [] es a e = ap (λ b. cond (not b) (a ∷ []) []) e
asks-over (x ∷ xs) es a e = by (waits es x) (asks-over xs es a e)
  where
    by : (b : Bool) → waiting_in (xs ++ a ∷ []) es ≡ waiting_in xs es → cond b (x ∷ waiting_in (xs ++ a ∷ []) es) (waiting_in (xs ++ a ∷ []) es) ≡ cond b (x ∷ waiting_in xs es) (waiting_in xs es)
    by true h = ap (λ l. x ∷ l) h
    by false h = h

pub asks-last : (xs : List Attempt) (es : List Ending) (a : Attempt) → is_over es a ≡ false → waiting_in (xs ++ a ∷ []) es ≡ waiting_in xs es ++ a ∷ []
asks-last [] es a e = ap (λ b. cond (not b) (a ∷ []) []) e
asks-last (x ∷ xs) es a e = by (waits es x) (asks-last xs es a e)
  where
    by : (b : Bool) → waiting_in (xs ++ a ∷ []) es ≡ waiting_in xs es ++ a ∷ [] → cond b (x ∷ waiting_in (xs ++ a ∷ []) es) (waiting_in (xs ++ a ∷ []) es) ≡ cond b (x ∷ waiting_in xs es) (waiting_in xs es) ++ a ∷ []
    by true h = ap (λ l. x ∷ l) h
    by false h = h

-- whoever is not over waits if it asked
pub has-waiting : (xs : List Attempt) (es : List Ending) (a : Attempt) → is_over es a ≡ false → has (waiting_in xs es) a ≡ has xs a
has-waiting [] es a e = refl
has-waiting (x ∷ xs) es a e = by (is_over es x) refl (has-waiting xs es a e)
  where
    apart : is_over es x ≡ true → (b : Bool) → same_attempt a x ≡ b → b ≡ false
    apart h false q = refl
    apart h true q = absurd (true≢false (sym h ∙ ap (λ y. is_over es y) (sym (same-is a x q)) ∙ e))

    by : (b : Bool) → is_over es x ≡ b → has (waiting_in xs es) a ≡ has xs a → has (cond (not b) (x ∷ waiting_in xs es) (waiting_in xs es)) a ≡ (same_attempt a x || has xs a)
    by true h rest = rest ∙ ap (λ b. b || has xs a) (sym (apart h (same_attempt a x) refl))
    by false h rest = ap (λ b. same_attempt a x || b) rest

pub first-append : (xs : List Attempt) (a b : Attempt) → first_of xs ≡ Some b → first_of (xs ++ a ∷ []) ≡ Some b
first-append [] a b e = absurd (cc)
first-append (x ∷ xs) a b e = e

pub first-with-last : (xs : List Attempt) (a b : Attempt) → first_of xs ≡ Some b → first_of (with_last xs a) ≡ Some b
first-with-last xs a b e = by (has xs a)
  where
    by : (c : Bool) → first_of (cond c xs (xs ++ a ∷ [])) ≡ Some b
    by true = e
    by false = first-append xs a b e

-- ---- one ends

pub ends-without : (xs : List Attempt) (es : List Ending) (a : Attempt) (f : Bool) → waiting_in xs (ending a f ∷ es) ≡ without (waiting_in xs es) a
ends-without [] es a f = refl
ends-without (x ∷ xs) es a f = by (same_attempt x a) (is_over es x) refl (ends-without xs es a f)
  where
    by : (s o : Bool) → same_attempt x a ≡ s → waiting_in xs (ending a f ∷ es) ≡ without (waiting_in xs es) a
        → cond (not (s || o)) (x ∷ waiting_in xs (ending a f ∷ es)) (waiting_in xs (ending a f ∷ es)) ≡ without (cond (not o) (x ∷ waiting_in xs es) (waiting_in xs es)) a
    by true true e rest = rest
    by true false e rest = rest ∙ ap (λ b. cond (not b) (x ∷ without (waiting_in xs es) a) (without (waiting_in xs es) a)) (sym (same-sym a x ∙ e))
    by false true e rest = rest
    by false false e rest = ap (λ l. x ∷ l) rest ∙ ap (λ b. cond (not b) (x ∷ without (waiting_in xs es) a) (without (waiting_in xs es) a)) (sym (same-sym a x ∙ e))

first-without : (xs : List Attempt) (a b : Attempt) → first_of xs ≡ Some b → same_attempt a b ≡ false → first_of (without xs a) ≡ Some b
first-without [] a b e d = absurd (cc)
first-without (x ∷ xs) a b e d =
    let q : x ≡ b = cc in
    let here : same_attempt a x ≡ false = ap (λ y. same_attempt a y) q ∙ d in
    ap (λ c. first_of (cond (not c) (x ∷ without xs a) (without xs a))) here ∙ ap (λ y. Some y) q

-- the name stays where another one ends
pub ends-first : (xs : List Attempt) (es : List Ending) (a b : Attempt) (f : Bool) → named_in xs es ≡ Some b → same_attempt a b ≡ false → named_in xs (ending a f ∷ es) ≡ Some b
ends-first xs es a b f e d = ap (λ l. first_of l) (ends-without xs es a f) ∙ first-without (waiting_in xs es) a b e d

pub first-named : (xs : List Attempt) (a : Attempt) → is_first xs a ≡ true → first_of xs ≡ Some a
first-named [] a e = absurd (true≢false (sym e))
first-named (x ∷ xs) a e = ap (λ y. Some y) (same-is x a e)

-- ---- the name is for good

pub record Held (s : Seen) : Type 0 where
  pub holder : Attempt
  pub named : named s ≡ Some holder
  pub accepted : has s.accepted holder ≡ true

abbrev pub Good : Seen → Type 0
Good s = s.is_fixed ≡ true → Held s

choose : (c : Bool) (x y : Seen) → (c ≡ true → Good x) → Good y → Good (cond c x y)
choose true x y f g = f refl
choose false x y f g = g

asked_good : (s : Seen) (a : Attempt) → Good s → Good (record s { asked = s.asked ++ a ∷ [] })
asked_good s a g = λ fixed. let h = g fixed in record { holder = h.holder; named = by (is_over s.ended a) refl h.holder h.named; accepted = h.accepted }
  where
    by : (b : Bool) → is_over s.ended a ≡ b → (x : Attempt) → named s ≡ Some x → named_in (s.asked ++ a ∷ []) s.ended ≡ Some x
    by true e x h = ap (λ l. first_of l) (asks-over s.asked s.ended a e) ∙ h
    by false e x h = ap (λ l. first_of l) (asks-last s.asked s.ended a e) ∙ first-append (waiting_in s.asked s.ended) a x h

done_good : (s : Seen) (a : Attempt) (kind : TaskKind) → may_accept_of kind s a ≡ true → Good s → Good (record s { accepted = a ∷ s.accepted; is_fixed = is_reduce kind || s.is_fixed })
done_good s a Reduce may g = λ fixed. record { holder = a; named = first-named (waiting_in s.asked s.ended) a may; accepted = ap (λ b. b || has s.accepted a) (same-itself a) }
done_good s a Map may g = λ fixed. let h = g fixed in record { holder = h.holder; named = h.named; accepted = by (same_attempt h.holder a) h.holder h.accepted }
  where
    by : (b : Bool) → (x : Attempt) → has s.accepted x ≡ true → (b || has s.accepted x) ≡ true
    by true x e = refl
    by false x e = e

-- a live attempt is not accepted, so it is not the holder
pub live-apart : (s : Seen) (a b : Attempt) → is_live s a ≡ true → has s.accepted b ≡ true → same_attempt a b ≡ false
live-apart s a b live accepted = by (same_attempt a b) refl
  where
    free : has s.accepted a ≡ false
    free = is_false (has s.accepted a) (left (not (has s.accepted a)) (not (is_over s.ended a)) (right (has s.arrived a) (not (has s.accepted a) && not (is_over s.ended a)) live))

    by : (c : Bool) → same_attempt a b ≡ c → c ≡ false
    by false e = refl
    by true e = absurd (true≢false (sym accepted ∙ ap (λ y. has s.accepted y) (sym (same-is a b e)) ∙ free))

end_good : (s : Seen) (a : Attempt) (f : Bool) → is_live s a ≡ true → Good s → Good (record s { ended = ending a f ∷ s.ended })
end_good s a f live g = λ fixed. let h = g fixed in record {
  holder = h.holder;
  named = ends-first s.asked s.ended a h.holder f h.named (live-apart s a h.holder live h.accepted);
  accepted = h.accepted;
}

pub good : (t : TaskId) (k : ℕ) (h : List TaskCall) → Good (seen t k h)
unfolding seen next_seen
good t k [] = λ fixed. absurd (true≢false (sym fixed))
good t k (Launches ∷ h) = let s = seen t k h in choose (is_none (launch_refusal s)) (after_launch t k s) s (λ _. λ fixed. let g = good t k h fixed in record { holder = g.holder; named = g.named; accepted = g.accepted }) (good t k h)
good t k (Hears a ∷ h) = good t k h
good t k (Asks a ∷ h) = let s = seen t k h in choose (has s.arrived a && not (has s.asked a)) (record s { asked = s.asked ++ a ∷ [] }) s (λ _. asked_good s a (good t k h)) (good t k h)
good t k (Reports a ∷ h) =
    let s = seen t k h in
    choose (may_accept s a) (record s { accepted = a ∷ s.accepted; is_fixed = is_reduce a.task.kind || s.is_fixed }) s
    (λ e. done_good s a a.task.kind (right (not (has s.accepted a)) (may_accept_of a.task.kind s a) (right (has s.arrived a) (not (has s.accepted a) && may_accept_of a.task.kind s a) e)) (good t k h)) (good t k h)
good t k (Fails a ∷ h) = let s = seen t k h in choose (is_live s a) (record s { ended = ending a true ∷ s.ended }) s (λ e. end_good s a true e (good t k h)) (good t k h)
good t k (Ends a was_asked ∷ h) = let s = seen t k h in choose (is_live s a) (record s { ended = ending a (not was_asked) ∷ s.ended }) s (λ e. end_good s a (not was_asked) e (good t k h)) (good t k h)
good t k (Dies a ∷ h) = let s = seen t k h in choose (is_live s a) (record s { ended = ending a false ∷ s.ended }) s (λ e. end_good s a false e (good t k h)) (good t k h)
good t k (Records a ∷ h) = let s = seen t k h in choose (has s.accepted a) (record s { recorded = a ∷ s.recorded }) s (λ _. λ fixed. let g = good t k h fixed in record { holder = g.holder; named = g.named; accepted = g.accepted }) (good t k h)
good t k (Recovers a ∷ h) =
    let s = seen t k h in
    choose (may_recover t s a) (record s { arrived = a ∷ []; accepted = a ∷ []; recorded = a ∷ []; numbered = numbered_up_to k a }) s
    (λ e. λ fixed. absurd (nobody t k h (left (is_none (first_of s.arrived)) (same_task a.task t) e) (good t k h fixed))) (good t k h)
  where
    nobody : (t : TaskId) (k : ℕ) (h : List TaskCall) → is_none (first_of (seen t k h).arrived) ≡ true → Held (seen t k h) → ⊥
    nobody t k h none g =
        let unknown : has (seen t k h).arrived g.holder ≡ false = ap (λ xs. has xs g.holder) (nothing-arrived (seen t k h).arrived none) in
        true≢false (sym g.accepted ∙ ap (λ (b : Bits). b.accepted) (unknown-is _ _ (fits t k h g.holder) unknown))
good t k (Loses a ∷ h) = let s = seen t k h in choose (not (is_reduce a.task.kind) && has s.recorded a) (record s { lost = a ∷ s.lost }) s (λ _. λ fixed. let g = good t k h fixed in record { holder = g.holder; named = g.named; accepted = g.accepted }) (good t k h)
