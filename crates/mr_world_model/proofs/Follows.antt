-- Which phase of a master follows which, once a store call of its was answered.
use Rattle.std.proofs.Common.{ℕ, suc, ◌≡◌, refl, ap, Bool, true, false, ◌&&◌, List, [], ◌∷◌, ◌++◌, Some, None, if◌then◌else◌, is_some, nat_le}
use Rattle.mr_world_model.specs.Ids.{Path, job_attempt}
use Rattle.mr_world_model.specs.Content.{Listed, Superseded, bar_of}
use Rattle.mr_world_model.specs.Packets.{Store, Reply, Names, Append_record, Flush, Read_history, Found, Entries, Bytes, Records, Refused}
use Rattle.mr_world_model.specs.Hearing.{Seen, Phase, Opening, Setting_up, Recovering, Running, Committing, Failing, Finished, Stopped, Commit_step, List_job, Merging, Cleaning, Marking, Succeeding, Failing_mark, Aborting, Merge_step, Look_at, List_into, Delete_then, Move_to, Recover_step, Look_below, Measure, Clear_own, Move_from, Todo_winner}
use Rattle.mr_world_model.specs.Duties.{phase_told, recovering, recover_rest, running, failing, committing, merging, merge_next, refused, looked, was_read, tops, inners, is_dir_kind, is_read, is_fine, is_cleared, is_superseded, is_unsuccessful, right_length}
use Rattle.mr_world_model.specs.Records.{Record}
use Rattle.mr_world_model.proofs.Basic.{if_cases}

-- the work of a merge
pub data NextMerge : List Merge_step → Commit_step → Type 0 where
  goes : (f t : Path) → (d : Bool) → (ms : List Merge_step) → NextMerge (Look_at f t d ∷ ms) (Merging (Move_to f t ∷ ms))
  enters : (f t : Path) → (d : Bool) → (ms : List Merge_step) → NextMerge (Look_at f t d ∷ ms) (Merging (List_into f t ∷ ms))
  replaces : (f t : Path) → (d : Bool) → (ms : List Merge_step) → NextMerge (Look_at f t d ∷ ms) (Merging (Delete_then f t ∷ ms))
  lists : (f t : Path) → (ms : List Merge_step) → (es : List Listed) → NextMerge (List_into f t ∷ ms) (merge_next (inners f t es ++ ms))
  deletes : (f t : Path) → (ms : List Merge_step) → NextMerge (Delete_then f t ∷ ms) (Merging (Move_to f t ∷ ms))
  moved : (f t : Path) → (ms : List Merge_step) → NextMerge (Move_to f t ∷ ms) (merge_next ms)

pub data NextCommit (k : ℕ) : Commit_step → Commit_step → Type 0 where
  begins : (es : List Listed) → NextCommit k List_job (merge_next (tops (job_attempt k) es))
  merges : (ms : List Merge_step) → (at : Commit_step) → NextMerge ms at → NextCommit k (Merging ms) at
  cleans : NextCommit k Cleaning Marking
  marks : NextCommit k Marking Succeeding
  aborts : NextCommit k Failing_mark Aborting
  fails : (at : Commit_step) → NextCommit k at Failing_mark

-- ws: the winners that were read
pub data Follows (k : ℕ) (ws : List Todo_winner) (call : Store) (r : Reply) : Phase → Phase → Type 0 where
  stops : (p : Phase) → Follows k ws call r p Stopped
  looks_on : (n : ℕ) → Follows k ws call r (Opening n) (Opening (suc n))
  finds : (n : ℕ) → (b : Bool) → Follows k ws call r (Opening n) (Finished b)
  reads_failed : (n : ℕ) → Follows k ws call r (Opening n) (Failing true)
  reads : (n : ℕ) → is_read call ≡ true → was_read r ≡ Setting_up → Follows k ws call r (Opening n) Setting_up
  runs_now : Follows k ws call r Setting_up Running
  recovers_first : (at : Recover_step) → Follows k ws call r Setting_up (Recovering ws at)
  recovers : (todo : List Todo_winner) → (at next : Recover_step) → Follows k ws call r (Recovering todo at) (Recovering todo next)
  recovered : (x : Todo_winner) → (todo : List Todo_winner) → (at next : Recover_step) → Follows k ws call r (Recovering (x ∷ todo) at) (Recovering todo next)
  runs : (todo : List Todo_winner) → (at : Recover_step) → Follows k ws call r (Recovering todo at) Running
  works : Follows k ws call r Running Running
  commits : Follows k ws call r Running (Committing List_job)
  works_failing : (f g : Bool) → Follows k ws call r (Failing f) (Failing g)
  failed : (f : Bool) → Follows k ws call r (Failing f) (Finished false)
  goes_on : (at next : Commit_step) → NextCommit k at next → Follows k ws call r (Committing at) (Committing next)
  finished : (at : Commit_step) → (b : Bool) → Follows k ws call r (Committing at) (Finished b)
  rests : (b : Bool) → Follows k ws call r (Finished b) (Finished b)

module _ (k : ℕ) (ws : List Todo_winner) (call : Store) (r : Reply) where
  abbrev F : Phase → Phase → Type 0
  F p q = Follows k ws call r p q

  follows-looked : (n : ℕ) (x : Reply) → F (Opening n) (looked n x)
  follows-looked n (Found (Some kind)) = finds n _
  follows-looked n (Found None) = looks_on n
  follows-looked n _ = stops _

  follows-read : (n : ℕ) (x : Reply) → r ≡ x → is_read call ≡ true → F (Opening n) (was_read x)
  follows-read n (Records rs) q t = by (is_unsuccessful rs) (ap was_read q)
    where
      by : (b : Bool) → was_read r ≡ (if b then Failing true else Setting_up) → F (Opening n) (if b then Failing true else Setting_up)
      by true e = reads_failed n
      by false e = reads n t e
  follows-read n _ q t = stops _

  follows-rest : (todo : List Todo_winner) (p : Phase) → F p Running → ((next : Recover_step) → F p (Recovering todo next)) → F p (recover_rest k todo)
  follows-rest [] p o f = o
  follows-rest (x ∷ todo) p o f = if_cases (F p) (nat_le k 1) _ _ (λ t. stops p) (λ t. f _)

  follows-recovering : (todo : List Todo_winner) (at : Recover_step) (x : Reply) → F (Recovering todo at) (recovering k todo at x)
  follows-recovering todo (Look_below j) (Found (Some kind)) = recovers todo _ _
  follows-recovering todo (Look_below j) (Found None) = if_cases (F (Recovering todo (Look_below j))) (nat_le j 1) _ _ (λ t. stops _) (λ t. recovers todo _ _)
  follows-recovering todo (Look_below j) _ = stops _
  follows-recovering todo (Measure j) (Bytes bs) = if_cases (F (Recovering todo (Measure j))) (right_length todo bs) _ _ (λ t. recovers todo _ _) (λ t. stops _)
  follows-recovering todo (Measure j) _ = stops _
  follows-recovering todo (Clear_own j) x = if_cases (F (Recovering todo (Clear_own j))) (is_cleared x) _ _ (λ t. recovers todo _ _) (λ t. stops _)
  follows-recovering [] (Move_from j) x = stops _
  follows-recovering (w ∷ todo) (Move_from j) x = if_cases (F (Recovering (w ∷ todo) (Move_from j))) (is_fine x) _ _ (λ t. follows-rest todo (Recovering (w ∷ todo) (Move_from j)) (runs _ _) (λ next. recovered w todo _ next)) (λ t. stops _)

  follows-running : (tail : List Record) (c : Store) (x : Reply) → F Running (running tail c x)
  follows-running tail (Names op) x = if_cases (F Running) (is_fine x) _ _ (λ t. if_cases (F Running) (is_some (bar_of op)) _ _ (λ b. works) (λ b. commits)) (λ t. stops _)
  follows-running tail (Append_record y) x = if_cases (F Running) (is_fine x) _ _ (λ t. works) (λ t. stops _)
  follows-running tail Flush x = if_cases (F Running) (is_fine x) _ _ (λ t. works) (λ t. stops _)
  follows-running tail Read_history x = stops _

  follows-failing : (f : Bool) (tail : List Record) (c : Store) (x : Reply) → F (Failing f) (failing f tail c x)
  follows-failing f tail (Names op) x = if_cases (F (Failing f)) (is_cleared x) _ _ (λ t. failed f) (λ t. stops _)
  follows-failing f tail (Append_record y) x = if_cases (F (Failing f)) (is_fine x) _ _ (λ t. works_failing f f) (λ t. stops _)
  follows-failing f tail Flush x = if_cases (F (Failing f)) (is_fine x) _ _ (λ t. works_failing f _) (λ t. stops _)
  follows-failing f tail Read_history x = stops _

  follows-refused : (at : Commit_step) (x : Reply) → F (Committing at) (refused x)
  follows-refused at (Refused (Superseded f)) = stops _
  follows-refused at _ = goes_on at _ (fails at)

  follows-merging : (ms : List Merge_step) (x : Reply) (ok : Commit_step) → F (Committing (Merging ms)) (merging ms x ok)
  follows-merging [] x ok = follows-refused _ x
  follows-merging (Look_at f t d ∷ ms) (Found None) ok = goes_on _ _ (merges _ _ (goes f t d ms))
  follows-merging (Look_at f t d ∷ ms) (Found (Some kind)) ok = by (d && is_dir_kind kind)
    where
      by : (b : Bool) → F (Committing (Merging (Look_at f t d ∷ ms))) (Committing (Merging ((if b then List_into f t else Delete_then f t) ∷ ms)))
      by true = goes_on _ _ (merges _ _ (enters f t d ms))
      by false = goes_on _ _ (merges _ _ (replaces f t d ms))
  follows-merging (Look_at f t d ∷ ms) (Refused (Superseded g)) ok = stops _
  follows-merging (Look_at f t d ∷ ms) _ ok = goes_on _ _ (fails _)
  follows-merging (List_into f t ∷ ms) (Entries es) ok = goes_on _ _ (merges _ _ (lists f t ms es))
  follows-merging (List_into f t ∷ ms) (Refused (Superseded g)) ok = stops _
  follows-merging (List_into f t ∷ ms) _ ok = goes_on _ _ (fails _)
  follows-merging (Delete_then f t ∷ ms) x ok = if_cases (F (Committing (Merging (Delete_then f t ∷ ms)))) (is_fine x) _ _ (λ q. goes_on _ _ (merges _ _ (deletes f t ms))) (λ q. follows-refused _ x)
  follows-merging (Move_to f t ∷ ms) x ok = if_cases (F (Committing (Merging (Move_to f t ∷ ms)))) (is_fine x) _ _ (λ q. goes_on _ _ (merges _ _ (moved f t ms))) (λ q. follows-refused _ x)

  follows-committing : (at : Commit_step) (x : Reply) → F (Committing at) (committing k at x)
  follows-committing List_job (Entries es) = goes_on _ _ (begins es)
  follows-committing List_job (Refused (Superseded g)) = stops _
  follows-committing List_job _ = goes_on _ _ (fails _)
  follows-committing (Merging ms) x = follows-merging ms x _
  follows-committing Cleaning x = if_cases (F (Committing Cleaning)) (is_cleared x) _ _ (λ t. goes_on _ _ cleans) (λ t. follows-refused _ x)
  follows-committing Marking x = if_cases (F (Committing Marking)) (is_fine x) _ _ (λ t. goes_on _ _ marks) (λ t. follows-refused _ x)
  follows-committing Succeeding x = if_cases (F (Committing Succeeding)) (is_fine x) _ _ (λ t. finished _ true) (λ t. stops _)
  follows-committing Failing_mark x = if_cases (F (Committing Failing_mark)) (is_fine x) _ _ (λ t. goes_on _ _ aborts) (λ t. stops _)
  follows-committing Aborting x = if_cases (F (Committing Aborting)) (is_superseded x) _ _ (λ t. stops _) (λ t. finished _ false)

pub follows : (k : ℕ) (s : Seen) (p : Phase) (call : Store) (r : Reply) → Follows k s.winners call r p (phase_told k s p call r)
unfolding phase_told
follows k s (Opening n) call r = by (is_read call) refl
  where
    by : (b : Bool) → is_read call ≡ b → Follows k s.winners call r (Opening n) (if b then was_read r else looked n r)
    by true t = follows-read k s.winners call r n r refl t
    by false t = follows-looked k s.winners call r n r
follows k s Setting_up call r = if_cases (Follows k s.winners call r Setting_up) (is_fine r) _ _ (λ t. follows-rest k s.winners call r s.winners Setting_up runs_now (λ next. recovers_first next)) (λ t. stops _)
follows k s (Recovering todo at) call r = follows-recovering k s.winners call r todo at r
follows k s Running call r = follows-running k s.winners call r s.tail call r
follows k s (Failing f) call r = follows-failing k s.winners call r f s.tail call r
follows k s (Committing at) call r = follows-committing k s.winners call r at r
follows k s (Finished b) call r = rests b
follows k s Stopped call r = stops _
