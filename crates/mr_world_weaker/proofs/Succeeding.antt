-- How a master comes to make COMMIT_SUCCESS, and to tell success.
use Rattle.std.proofs.Common.{ℕ, ◌≡◌, refl, sym, ◌∙◌, ap, Bool, true, false, List, [], ◌∷◌, Some, None, if◌then◌else◌, is_some, nat_le}
use Rattle.std.proofs.lemmas.Bool.{false≢true, true≢false, eqb-true}
use Rattle.mr_world_model.specs.Content.{Kind, Superseded, bar_of}
use Rattle.mr_world_model.specs.Records.{Record}
use Rattle.mr_world_model.specs.Packets.{Store, Reply, Names, Append_record, Flush, Read_history, Found, Entries, Bytes, Records, Refused}
use Rattle.mr_world_model.specs.Hearing.{Seen, Phase, Opening, Setting_up, Recovering, Running, Committing, Failing, Finished, Stopped, List_job, Merging, Cleaning, Marking, Succeeding, Failing_mark, Aborting, Merge_step, Look_at, List_into, Delete_then, Move_to, Todo_winner, Recover_step, Look_below, Measure, Clear_own, Move_from}
use Rattle.mr_world_model.specs.Duties.{phase_told, is_read, looked, was_read, is_unsuccessful, is_fine, is_cleared, is_superseded, recover_rest, recovering, right_length, running, failing, at_work, after_flush, committing, merging, merge_next, refused}
use Rattle.mr_world_model.proofs.Basic.{if_cases}
use Rattle.mr_world_model.proofs.Said.{is_finished}
use Rattle.mr_world_weaker.proofs.Publishing.{is_publishing}

abbrev pub is_succeeding : Phase → Bool
is_succeeding (Committing Succeeding) = true
is_succeeding _ = false

abbrev pub is_success : Phase → Bool
is_success (Finished b) = b
is_success _ = false

pub succeeding-publishes : (p : Phase) → is_succeeding p ≡ true → is_publishing p ≡ true
succeeding-publishes (Committing Succeeding) e = refl
succeeding-publishes (Committing List_job) e = refl
succeeding-publishes (Committing (Merging ms)) e = refl
succeeding-publishes (Committing Cleaning) e = refl
succeeding-publishes (Committing Marking) e = refl
succeeding-publishes (Committing Failing_mark) e = e
succeeding-publishes (Committing Aborting) e = e
succeeding-publishes (Opening n) e = e
succeeding-publishes Setting_up e = e
succeeding-publishes (Recovering ws at) e = e
succeeding-publishes Running e = e
succeeding-publishes (Failing f) e = e
succeeding-publishes (Finished b) e = e
succeeding-publishes Stopped e = e

-- neither, but where it says otherwise
abbrev IsNeither : Phase → Type 0
IsNeither p = (is_succeeding p ≡ false) × (is_success p ≡ false)

open-neither : (n : ℕ) (r : Reply) → is_succeeding (looked n r) ≡ false
open-neither n (Found (Some k)) = refl
open-neither n (Found None) = refl
open-neither n _ = refl

read-neither : (r : Reply) → IsNeither (was_read r)
read-neither (Records rs) = if_cases IsNeither (is_unsuccessful rs) _ _ (λ t. (refl, refl)) (λ t. (refl, refl))
read-neither _ = (refl, refl)

rest-neither : (k : ℕ) (ws : List Todo_winner) → IsNeither (recover_rest k ws)
rest-neither k [] = (refl, refl)
rest-neither k (w ∷ ws) = if_cases IsNeither (nat_le k 1) _ _ (λ t. (refl, refl)) (λ t. (refl, refl))

recovering-neither : (k : ℕ) (ws : List Todo_winner) (at : Recover_step) (r : Reply) → IsNeither (recovering k ws at r)
recovering-neither k ws (Look_below j) (Found (Some kind)) = (refl, refl)
recovering-neither k ws (Look_below j) (Found None) = if_cases IsNeither (nat_le j 1) _ _ (λ t. (refl, refl)) (λ t. (refl, refl))
recovering-neither k ws (Look_below j) _ = (refl, refl)
recovering-neither k ws (Measure j) (Bytes bytes) = if_cases IsNeither (right_length ws bytes) _ _ (λ t. (refl, refl)) (λ t. (refl, refl))
recovering-neither k ws (Measure j) _ = (refl, refl)
recovering-neither k ws (Clear_own j) r = if_cases IsNeither (is_cleared r) _ _ (λ t. (refl, refl)) (λ t. (refl, refl))
recovering-neither k [] (Move_from j) r = (refl, refl)
recovering-neither k (w ∷ ws) (Move_from j) r = if_cases IsNeither (is_fine r) _ _ (λ t. rest-neither k ws) (λ t. (refl, refl))

at_work-neither : (p : Phase) (tail : List Record) (call : Store) (r : Reply) → IsNeither p → IsNeither (after_flush p tail) → IsNeither (at_work p tail call r)
at_work-neither p tail (Append_record x) r e f = if_cases IsNeither (is_fine r) _ _ (λ t. e) (λ t. (refl, refl))
at_work-neither p tail Flush r e f = if_cases IsNeither (is_fine r) _ _ (λ t. f) (λ t. (refl, refl))
at_work-neither p tail (Names op) r e f = (refl, refl)
at_work-neither p tail Read_history r e f = (refl, refl)

running-neither : (tail : List Record) (call : Store) (r : Reply) → IsNeither (running tail call r)
running-neither tail (Names op) r = if_cases IsNeither (is_fine r) _ _ (λ t. if_cases IsNeither (is_some (bar_of op)) _ _ (λ b. (refl, refl)) (λ b. (refl, refl))) (λ t. (refl, refl))
running-neither tail (Append_record x) r = at_work-neither Running tail (Append_record x) r (refl, refl) (refl, refl)
running-neither tail Flush r = at_work-neither Running tail Flush r (refl, refl) (refl, refl)
running-neither tail Read_history r = (refl, refl)

failing-neither : (f : Bool) (tail : List Record) (call : Store) (r : Reply) → IsNeither (failing f tail call r)
failing-neither f tail (Names op) r = if_cases IsNeither (is_cleared r) _ _ (λ t. (refl, refl)) (λ t. (refl, refl))
failing-neither f tail (Append_record x) r = at_work-neither (Failing f) tail (Append_record x) r (refl, refl) (refl, refl)
failing-neither f tail Flush r = at_work-neither (Failing f) tail Flush r (refl, refl) (refl, refl)
failing-neither f tail Read_history r = (refl, refl)

refused-neither : (r : Reply) → IsNeither (refused r)
refused-neither (Refused (Superseded f)) = (refl, refl)
refused-neither _ = (refl, refl)

next-neither : (ms : List Merge_step) → IsNeither (Committing (merge_next ms))
next-neither [] = (refl, refl)
next-neither (m ∷ ms) = (refl, refl)

merging-neither : (ms : List Merge_step) (r : Reply) → IsNeither (merging ms r Cleaning)
merging-neither [] r = refused-neither r
merging-neither (Look_at f t d ∷ ms) (Found None) = (refl, refl)
merging-neither (Look_at f t d ∷ ms) (Found (Some k)) = (refl, refl)
merging-neither (Look_at f t d ∷ ms) (Refused (Superseded g)) = (refl, refl)
merging-neither (Look_at f t d ∷ ms) _ = (refl, refl)
merging-neither (List_into f t ∷ ms) (Entries es) = next-neither _
merging-neither (List_into f t ∷ ms) (Refused (Superseded g)) = (refl, refl)
merging-neither (List_into f t ∷ ms) _ = (refl, refl)
merging-neither (Delete_then f t ∷ ms) r = if_cases IsNeither (is_fine r) _ _ (λ q. (refl, refl)) (λ q. refused-neither r)
merging-neither (Move_to f t ∷ ms) r = if_cases IsNeither (is_fine r) _ _ (λ q. next-neither ms) (λ q. refused-neither r)

listing-neither : (k : ℕ) (r : Reply) → IsNeither (committing k List_job r)
listing-neither k (Entries es) = next-neither _
listing-neither k (Refused (Superseded g)) = (refl, refl)
listing-neither k _ = (refl, refl)

cleaning-neither : (k : ℕ) (r : Reply) → IsNeither (committing k Cleaning r)
cleaning-neither k r = if_cases IsNeither (is_cleared r) _ _ (λ t. (refl, refl)) (λ t. refused-neither r)

fail_mark-neither : (k : ℕ) (r : Reply) → IsNeither (committing k Failing_mark r)
fail_mark-neither k r = if_cases IsNeither (is_fine r) _ _ (λ t. (refl, refl)) (λ t. (refl, refl))

abort-neither : (k : ℕ) (r : Reply) → IsNeither (committing k Aborting r)
abort-neither k r = if_cases IsNeither (is_superseded r) _ _ (λ t. (refl, refl)) (λ t. (refl, refl))

-- ---- behind the call that made the marker it makes COMMIT_SUCCESS

not_succeeding : {P : Type 0} (p : Phase) → IsNeither p → is_succeeding p ≡ true → P
not_succeeding p n e = absurd (false≢true (sym n.0 ∙ e))

marks : (r : Reply) → is_succeeding (if is_fine r then Committing Succeeding else refused r) ≡ true → is_fine r ≡ true
marks r e = by (is_fine r) refl e
  where
    by : (b : Bool) → is_fine r ≡ b → is_succeeding (if b then Committing Succeeding else refused r) ≡ true → is_fine r ≡ true
    by true q e = q
    by false q e = not_succeeding _ (refused-neither r) e

pub told-succeeding : (k : ℕ) (s : Seen) (p : Phase) (call : Store) (r : Reply) → is_succeeding (phase_told k s p call r) ≡ true → (p ≡ Committing Marking) × (is_fine r ≡ true)
unfolding phase_told
told-succeeding k s (Opening n) call r e = absurd (false≢true (sym (if_cases (λ p. is_succeeding p ≡ false) (is_read call) _ _ (λ t. (read-neither r).0) (λ t. open-neither n r)) ∙ e))
told-succeeding k s Setting_up call r e = not_succeeding _ (if_cases IsNeither (is_fine r) _ _ (λ t. rest-neither k s.winners) (λ t. (refl, refl))) e
told-succeeding k s (Recovering ws at) call r e = not_succeeding _ (recovering-neither k ws at r) e
told-succeeding k s Running call r e = not_succeeding _ (running-neither s.tail call r) e
told-succeeding k s (Failing f) call r e = not_succeeding _ (failing-neither f s.tail call r) e
told-succeeding k s (Committing List_job) call r e = not_succeeding _ (listing-neither k r) e
told-succeeding k s (Committing (Merging ms)) call r e = not_succeeding _ (merging-neither ms r) e
told-succeeding k s (Committing Cleaning) call r e = not_succeeding _ (cleaning-neither k r) e
told-succeeding k s (Committing Marking) call r e = (refl, marks r e)
told-succeeding k s (Committing Succeeding) call r e = absurd (false≢true (sym (if_cases (λ p. is_succeeding p ≡ false) (is_fine r) _ _ (λ t. refl) (λ t. refl)) ∙ e))
told-succeeding k s (Committing Failing_mark) call r e = not_succeeding _ (fail_mark-neither k r) e
told-succeeding k s (Committing Aborting) call r e = not_succeeding _ (abort-neither k r) e
told-succeeding k s (Finished b) call r e = absurd (false≢true e)
told-succeeding k s Stopped call r e = absurd (false≢true e)

-- ---- success is told where COMMIT_SUCCESS was found, or made

pub data Ends (p : Phase) (call : Store) (r : Reply) : Type 0 where
  finds : p ≡ Opening 0 → (kind : Kind) → r ≡ Found (Some kind) → Ends p call r
  makes : p ≡ Committing Succeeding → is_fine r ≡ true → Ends p call r

not_success : {P : Type 0} (p : Phase) → IsNeither p → is_success p ≡ true → P
not_success p n e = absurd (false≢true (sym n.1 ∙ e))

looks : (n : ℕ) (call : Store) (r : Reply) → is_success (looked n r) ≡ true → Ends (Opening n) call r
looks n call (Found (Some kind)) e = finds (ap Opening (eqb-true n 0 e)) kind refl
looks n call (Found None) e = absurd (false≢true e)
looks n call _ e = absurd (false≢true e)

opens : (n : ℕ) (call : Store) (r : Reply) → is_success (if is_read call then was_read r else looked n r) ≡ true → Ends (Opening n) call r
opens n call r e = by (is_read call) e
  where
    by : (b : Bool) → is_success (if b then was_read r else looked n r) ≡ true → Ends (Opening n) call r
    by true e = not_success _ (read-neither r) e
    by false e = looks n call r e

succeeds : (k : ℕ) (call : Store) (r : Reply) → is_success (committing k Succeeding r) ≡ true → Ends (Committing Succeeding) call r
succeeds k call r e = by (is_fine r) refl e
  where
    by : (b : Bool) → is_fine r ≡ b → is_success (if b then Finished true else Stopped) ≡ true → Ends (Committing Succeeding) call r
    by true q e = makes refl q
    by false q e = absurd (false≢true e)

marking-neither : (k : ℕ) (r : Reply) → is_success (committing k Marking r) ≡ false
marking-neither k r = if_cases (λ p. is_success p ≡ false) (is_fine r) _ _ (λ t. refl) (λ t. (refused-neither r).1)

pub told-success : (k : ℕ) (s : Seen) (p : Phase) (call : Store) (r : Reply) → is_success (phase_told k s p call r) ≡ true → is_finished p ≡ false → Ends p call r
unfolding phase_told
told-success k s (Opening n) call r e f = opens n call r e
told-success k s Setting_up call r e f = not_success _ (if_cases IsNeither (is_fine r) _ _ (λ t. rest-neither k s.winners) (λ t. (refl, refl))) e
told-success k s (Recovering ws at) call r e f = not_success _ (recovering-neither k ws at r) e
told-success k s Running call r e f = not_success _ (running-neither s.tail call r) e
told-success k s (Failing g) call r e f = not_success _ (failing-neither g s.tail call r) e
told-success k s (Committing List_job) call r e f = not_success _ (listing-neither k r) e
told-success k s (Committing (Merging ms)) call r e f = not_success _ (merging-neither ms r) e
told-success k s (Committing Cleaning) call r e f = not_success _ (cleaning-neither k r) e
told-success k s (Committing Marking) call r e f = absurd (false≢true (sym (marking-neither k r) ∙ e))
told-success k s (Committing Succeeding) call r e f = succeeds k call r e
told-success k s (Committing Failing_mark) call r e f = not_success _ (fail_mark-neither k r) e
told-success k s (Committing Aborting) call r e f = not_success _ (abort-neither k r) e
told-success k s (Finished b) call r e f = absurd (true≢false f)
told-success k s Stopped call r e f = absurd (false≢true e)
