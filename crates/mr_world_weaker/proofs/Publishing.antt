-- A master from COMMIT_STARTED to COMMIT_SUCCESS: how it comes there, and what its calls reach.
use Rattle.std.proofs.Common.{ℕ, ◌≡◌, refl, sym, ◌∙◌, subst, Bool, true, false, ◌&&◌, List, [], ◌∷◌, ◌++◌, Option, Some, None, if◌then◌else◌, is_some, nat_le, ◌⊎◌, inl, inr}
use Rattle.std.proofs.lemmas.Bool.{false≢true, true≢false}
use Rattle.mr_world_model.specs.Ids.{Attempt, Path, job_attempt, commit_started, commit_success, commit_fail, marker, temporary, staged, generation_name, task_name}
use Rattle.mr_world_model.specs.Content.{Op, Create, Delete, Rename, ListDir, Exist, Superseded, Listed, bar_of}
use Rattle.mr_world_model.specs.Records.{Record}
use Rattle.mr_world_model.specs.Packets.{Config, Store, Reply, Names, Append_record, Flush, Read_history, Found, Entries, Bytes, Records, Refused}
use Rattle.mr_world_model.specs.Hearing.{Seen, Phase, Opening, Setting_up, Recovering, Running, Committing, Failing, Finished, Stopped, Commit_step, List_job, Merging, Cleaning, Marking, Succeeding, Failing_mark, Aborting, Merge_step, Look_at, List_into, Delete_then, Move_to, Todo_winner, Recover_step, Look_below, Measure, Clear_own, Move_from}
use Rattle.mr_world_model.specs.Duties.{phase_told, is_read, looked, was_read, is_unsuccessful, is_fine, is_cleared, is_superseded, recover_rest, recovering, right_length, running, failing, at_work, after_flush, committing, merging, merge_next, merge_call, tops, inners, is_temporary, is_dir_kind, refused, duty_of, record_call, wants_flush, bar_call, first_bar, all_won}
use Rattle.mr_world_model.proofs.Basic.{if_cases}
use Rattle.mr_world_model.proofs.Apart.{Diverge, Diverge-longer, Elsewhere}
use Rattle.mr_world_model.proofs.Regions.{Quiet_op, quiet-op, looks, measures, sets_up, clears, moves, commits_now, bars_now, is_loud}
use Rattle.mr_world_model.proofs.Outside.{Outside}
use Rattle.mr_world_model.proofs.Merge.{fail-op}

-- from COMMIT_STARTED to COMMIT_SUCCESS
abbrev pub is_publishing : Phase → Bool
is_publishing (Committing List_job) = true
is_publishing (Committing (Merging ms)) = true
is_publishing (Committing Cleaning) = true
is_publishing (Committing Marking) = true
is_publishing (Committing Succeeding) = true
is_publishing _ = false

-- ---- what it merges is apart from the staging folder

abbrev pub IsApart : Merge_step → Type 0
IsApart (Look_at f t d) = Diverge f staged × Diverge t staged
IsApart (List_into f t) = Diverge f staged × Diverge t staged
IsApart (Delete_then f t) = Diverge f staged × Diverge t staged
IsApart (Move_to f t) = Diverge f staged × Diverge t staged

abbrev pub AreApart : List Merge_step → Type 0
AreApart [] = Unit {0}
AreApart (m ∷ ms) = IsApart m × AreApart ms

abbrev pub PhaseApart : Phase → Type 0
PhaseApart (Committing (Merging ms)) = AreApart ms
PhaseApart _ = Unit {0}

plain-apart : (p : Phase) → is_publishing p ≡ false → PhaseApart p
plain-apart (Committing (Merging ms)) e = absurd (true≢false e)
plain-apart (Committing List_job) e = tt
plain-apart (Committing Cleaning) e = tt
plain-apart (Committing Marking) e = tt
plain-apart (Committing Succeeding) e = tt
plain-apart (Committing Failing_mark) e = tt
plain-apart (Committing Aborting) e = tt
plain-apart (Opening n) e = tt
plain-apart Setting_up e = tt
plain-apart (Recovering ws at) e = tt
plain-apart Running e = tt
plain-apart (Failing f) e = tt
plain-apart (Finished b) e = tt
plain-apart Stopped e = tt

-- ---- which phases do not lead there

abbrev IsPlain : Phase → Type 0
IsPlain p = is_publishing p ≡ false

open-plain : (n : ℕ) (call : Store) (r : Reply) → IsPlain (if is_read call then was_read r else looked n r)
open-plain n call r = if_cases IsPlain (is_read call) _ _ (λ t. read r) (λ t. look r)
  where
    read : (r : Reply) → IsPlain (was_read r)
    read (Records rs) = if_cases IsPlain (is_unsuccessful rs) _ _ (λ t. refl) (λ t. refl)
    read _ = refl

    look : (r : Reply) → IsPlain (looked n r)
    look (Found (Some k)) = refl
    look (Found None) = refl
    look _ = refl

rest-plain : (k : ℕ) (ws : List Todo_winner) → IsPlain (recover_rest k ws)
rest-plain k [] = refl
rest-plain k (w ∷ ws) = if_cases IsPlain (nat_le k 1) _ _ (λ t. refl) (λ t. refl)

setup-plain : (k : ℕ) (ws : List Todo_winner) (r : Reply) → IsPlain (if is_fine r then recover_rest k ws else Stopped)
setup-plain k ws r = if_cases IsPlain (is_fine r) _ _ (λ t. rest-plain k ws) (λ t. refl)

recovering-plain : (k : ℕ) (ws : List Todo_winner) (at : Recover_step) (r : Reply) → IsPlain (recovering k ws at r)
recovering-plain k ws (Look_below j) (Found (Some kind)) = refl
recovering-plain k ws (Look_below j) (Found None) = if_cases IsPlain (nat_le j 1) _ _ (λ t. refl) (λ t. refl)
recovering-plain k ws (Look_below j) _ = refl
recovering-plain k ws (Measure j) (Bytes bytes) = if_cases IsPlain (right_length ws bytes) _ _ (λ t. refl) (λ t. refl)
recovering-plain k ws (Measure j) _ = refl
recovering-plain k ws (Clear_own j) r = if_cases IsPlain (is_cleared r) _ _ (λ t. refl) (λ t. refl)
recovering-plain k [] (Move_from j) r = refl
recovering-plain k (w ∷ ws) (Move_from j) r = if_cases IsPlain (is_fine r) _ _ (λ t. rest-plain k ws) (λ t. refl)

at_work-plain : (p : Phase) (tail : List Record) (call : Store) (r : Reply) → IsPlain p → IsPlain (after_flush p tail) → IsPlain (at_work p tail call r)
at_work-plain p tail (Append_record x) r e f = if_cases IsPlain (is_fine r) _ _ (λ t. e) (λ t. refl)
at_work-plain p tail Flush r e f = if_cases IsPlain (is_fine r) _ _ (λ t. f) (λ t. refl)
at_work-plain p tail (Names op) r e f = refl
at_work-plain p tail Read_history r e f = refl

failing-plain : (f : Bool) (tail : List Record) (call : Store) (r : Reply) → IsPlain (failing f tail call r)
failing-plain f tail (Names op) r = if_cases IsPlain (is_cleared r) _ _ (λ t. refl) (λ t. refl)
failing-plain f tail (Append_record x) r = at_work-plain (Failing f) tail (Append_record x) r refl refl
failing-plain f tail Flush r = at_work-plain (Failing f) tail Flush r refl refl
failing-plain f tail Read_history r = refl

fail_mark-plain : (r : Reply) → IsPlain (if is_fine r then Committing Aborting else Stopped)
fail_mark-plain r = if_cases IsPlain (is_fine r) _ _ (λ t. refl) (λ t. refl)

abort-plain : (r : Reply) → IsPlain (if is_superseded r then Stopped else Finished false)
abort-plain r = if_cases IsPlain (is_superseded r) _ _ (λ t. refl) (λ t. refl)

-- ---- it comes there from Running, by a call that was done and bars nobody

pub record Begins (p : Phase) (call : Store) (r : Reply) : Type 0 where
  pub running : p ≡ Running
  pub op : Op
  pub is : call ≡ Names op
  pub fine : is_fine r ≡ true
  pub no_bar : is_some (bar_of op) ≡ false

not_plain : {P : Type 0} (p : Phase) → IsPlain p → is_publishing p ≡ true → P
not_plain p e f = absurd (false≢true (sym e ∙ f))

run-begins : (tail : List Record) (call : Store) (r : Reply) → is_publishing (running tail call r) ≡ true → Begins Running call r
run-begins tail (Names op) r e = by (is_fine r) (is_some (bar_of op)) refl refl e
  where
    by : (f b : Bool) → is_fine r ≡ f → is_some (bar_of op) ≡ b → is_publishing (if f then (if b then Running else Committing List_job) else Stopped) ≡ true → Begins Running (Names op) r
    by true false q z e = record { running = refl; op = op; is = refl; fine = q; no_bar = z }
    by true true q z e = absurd (false≢true e)
    by false b q z e = absurd (false≢true e)
run-begins tail (Append_record x) r e = not_plain _ (at_work-plain Running tail (Append_record x) r refl refl) e
run-begins tail Flush r e = not_plain _ (at_work-plain Running tail Flush r refl refl) e
run-begins tail Read_history r e = absurd (false≢true e)

pub told-publishes : (k : ℕ) (s : Seen) (p : Phase) (call : Store) (r : Reply) → is_publishing (phase_told k s p call r) ≡ true → (is_publishing p ≡ true) ⊎ Begins p call r
unfolding phase_told
told-publishes k s (Opening n) call r e = not_plain _ (open-plain n call r) e
told-publishes k s Setting_up call r e = not_plain _ (setup-plain k s.winners r) e
told-publishes k s (Recovering ws at) call r e = not_plain _ (recovering-plain k ws at r) e
told-publishes k s Running call r e = inr (run-begins s.tail call r e)
told-publishes k s (Failing f) call r e = not_plain _ (failing-plain f s.tail call r) e
told-publishes k s (Committing List_job) call r e = inl refl
told-publishes k s (Committing (Merging ms)) call r e = inl refl
told-publishes k s (Committing Cleaning) call r e = inl refl
told-publishes k s (Committing Marking) call r e = inl refl
told-publishes k s (Committing Succeeding) call r e = inl refl
told-publishes k s (Committing Failing_mark) call r e = not_plain _ (fail_mark-plain r) e
told-publishes k s (Committing Aborting) call r e = not_plain _ (abort-plain r) e
told-publishes k s (Finished b) call r e = absurd (false≢true e)
told-publishes k s Stopped call r e = absurd (false≢true e)

-- behind the call that makes COMMIT_SUCCESS it publishes no more
pub succeeded-plain : (k : ℕ) (s : Seen) (call : Store) (r : Reply) → is_publishing (phase_told k s (Committing Succeeding) call r) ≡ false
unfolding phase_told
succeeded-plain k s call r = if_cases IsPlain (is_fine r) _ _ (λ t. refl) (λ t. refl)

-- ---- and what it merges stays apart

refused-apart : (r : Reply) → PhaseApart (refused r)
refused-apart (Refused (Superseded f)) = tt
refused-apart _ = tt

next-apart : (ms : List Merge_step) → AreApart ms → PhaseApart (Committing (merge_next ms))
next-apart [] a = tt
next-apart (m ∷ ms) a = a

append-apart : (as' bs : List Merge_step) → AreApart as' → AreApart bs → AreApart (as' ++ bs)
append-apart [] bs a b = b
append-apart (m ∷ ms) bs a b = (a.0, append-apart ms bs a.1 b)

tops-apart : (k : ℕ) (es : List Listed) → AreApart (tops (job_attempt k) es)
tops-apart k [] = tt
tops-apart k (e ∷ es) = if_cases AreApart (is_temporary e.name) _ _ (λ t. tops-apart k es) (λ t. ((Diverge-longer (job_attempt k) staged (e.name ∷ []) (inl refl), inl refl), tops-apart k es))

inners-apart : (from to : Path) (es : List Listed) → Diverge from staged → Diverge to staged → AreApart (inners from to es)
inners-apart from to [] f t = tt
inners-apart from to (e ∷ es) f t = ((Diverge-longer from staged (e.name ∷ []) f, Diverge-longer to staged (e.name ∷ []) t), inners-apart from to es f t)

merging-apart : (ms : List Merge_step) (r : Reply) → AreApart ms → PhaseApart (merging ms r Cleaning)
merging-apart [] r a = refused-apart r
merging-apart (Look_at f t d ∷ ms) (Found None) a = a
merging-apart (Look_at f t d ∷ ms) (Found (Some k)) a = (if_cases IsApart (d && is_dir_kind k) _ _ (λ q. a.0) (λ q. a.0), a.1)
merging-apart (Look_at f t d ∷ ms) (Refused (Superseded g)) a = tt
merging-apart (Look_at f t d ∷ ms) _ a = tt
merging-apart (List_into f t ∷ ms) (Entries es) a = next-apart (inners f t es ++ ms) (append-apart (inners f t es) ms (inners-apart f t es a.0.0 a.0.1) a.1)
merging-apart (List_into f t ∷ ms) (Refused (Superseded g)) a = tt
merging-apart (List_into f t ∷ ms) _ a = tt
merging-apart (Delete_then f t ∷ ms) r a = if_cases PhaseApart (is_fine r) _ _ (λ q. a) (λ q. refused-apart r)
merging-apart (Move_to f t ∷ ms) r a = if_cases PhaseApart (is_fine r) _ _ (λ q. next-apart ms a.1) (λ q. refused-apart r)

committing-apart : (k : ℕ) (at : Commit_step) (r : Reply) → PhaseApart (Committing at) → PhaseApart (committing k at r)
committing-apart k List_job (Entries es) a = next-apart (tops (job_attempt k) es) (tops-apart k es)
committing-apart k List_job (Refused (Superseded g)) a = tt
committing-apart k List_job _ a = tt
committing-apart k (Merging ms) r a = merging-apart ms r a
committing-apart k Cleaning r a = if_cases PhaseApart (is_cleared r) _ _ (λ t. tt) (λ t. refused-apart r)
committing-apart k Marking r a = if_cases PhaseApart (is_fine r) _ _ (λ t. tt) (λ t. refused-apart r)
committing-apart k Succeeding r a = if_cases PhaseApart (is_fine r) _ _ (λ t. tt) (λ t. tt)
committing-apart k Failing_mark r a = if_cases PhaseApart (is_fine r) _ _ (λ t. tt) (λ t. tt)
committing-apart k Aborting r a = if_cases PhaseApart (is_superseded r) _ _ (λ t. tt) (λ t. tt)

running-apart : (tail : List Record) (call : Store) (r : Reply) → PhaseApart (running tail call r)
running-apart tail (Names op) r = if_cases PhaseApart (is_fine r) _ _ (λ t. if_cases PhaseApart (is_some (bar_of op)) _ _ (λ b. tt) (λ b. tt)) (λ t. tt)
running-apart tail (Append_record x) r = plain-apart _ (at_work-plain Running tail (Append_record x) r refl refl)
running-apart tail Flush r = plain-apart _ (at_work-plain Running tail Flush r refl refl)
running-apart tail Read_history r = tt

pub told-apart : (k : ℕ) (s : Seen) (p : Phase) (call : Store) (r : Reply) → PhaseApart p → PhaseApart (phase_told k s p call r)
unfolding phase_told
told-apart k s (Opening n) call r a = plain-apart _ (open-plain n call r)
told-apart k s Setting_up call r a = plain-apart _ (setup-plain k s.winners r)
told-apart k s (Recovering ws at) call r a = plain-apart _ (recovering-plain k ws at r)
told-apart k s Running call r a = running-apart s.tail call r
told-apart k s (Failing f) call r a = plain-apart _ (failing-plain f s.tail call r)
told-apart k s (Committing at) call r a = committing-apart k at r a
told-apart k s (Finished b) call r a = tt
told-apart k s Stopped call r a = tt

-- ---- what its calls reach

-- A call is away from the staging folder, and, of a master that does not publish, from all outside of what is temporary; or it makes one of the marks.
pub data Reaches (p : Phase) (op : Op) : Type 0 where
  away : Elsewhere op staged → (is_publishing p ≡ false → (d : Path) → Outside d → Elsewhere op d) → (p ≡ Running → is_some (bar_of op) ≡ true) → Reaches p op
  starts : p ≡ Running → op ≡ Create commit_started true → Reaches p op
  succeeds : p ≡ Committing Succeeding → op ≡ Create commit_success true → Reaches p op
  fails : p ≡ Committing Failing_mark → op ≡ Create commit_fail true → Reaches p op

abbrev RunCall : Option Store → Type 0
RunCall None = Unit {0}
RunCall (Some (Names op)) = Reaches Running op
RunCall (Some (Append_record r)) = Unit {0}
RunCall (Some Flush) = Unit {0}
RunCall (Some Read_history) = Unit {0}

run-record : (due tail : List Record) (o : Option Store) → RunCall o → RunCall (record_call due tail o)
run-record (r ∷ due) tail o q = tt
run-record [] tail o q = if_cases RunCall (wants_flush tail) _ _ (λ t. tt) (λ t. q)

run-bar : (m : Option Attempt) (o : Option Store) → RunCall o → RunCall (bar_call m o)
run-bar None o q = q
run-bar (Some a) o q = away tt (λ n d o. tt) (λ e. refl)

run-duty : (cfg : Config) (k : ℕ) (s : Seen) → RunCall (duty_of cfg k s Running)
unfolding duty_of
run-duty cfg k s = run-bar (first_bar s s.bars) _ (run-record s.due s.tail _ (if_cases RunCall (all_won s.recorded s.winners cfg.job cfg.reduces) _ _ (λ t. starts refl refl) (λ t. tt)))

quiet-reaches : (k : ℕ) (p : Phase) (op : Op) → (p ≡ Running → ⊥) → Quiet_op k p op → Reaches p op
quiet-reaches k p _ n (looks q) = away tt (λ u d o. tt) (λ e. absurd (n e))
quiet-reaches k p _ n (measures q) = away tt (λ u d o. tt) (λ e. absurd (n e))
quiet-reaches k p _ n (bars_now a q) = away tt (λ u d o. tt) (λ e. absurd (n e))
quiet-reaches k p _ n (sets_up q) = away (inl refl) (λ u d o. Diverge-longer temporary d (generation_name k ∷ []) o) (λ e. absurd (n e))
quiet-reaches k p _ n (clears x ws j q) = away (inl refl) (λ u d o. Diverge-longer temporary d (generation_name k ∷ task_name x.task ∷ []) o) (λ e. absurd (n e))
quiet-reaches k p _ n (moves x ws j q) = away (inl refl, inl refl)
    (λ u d o. (Diverge-longer temporary d (generation_name j ∷ task_name x.task ∷ []) o, Diverge-longer temporary d (generation_name k ∷ task_name x.task ∷ []) o)) (λ e. absurd (n e))
quiet-reaches k p _ n (commits_now q) = absurd (n q)

merge-reaches : (ms : List Merge_step) (op : Op) → merge_call ms ≡ Some (Names op) → AreApart ms → Reaches (Committing (Merging ms)) op
merge-reaches [] op d a = cc
merge-reaches (Look_at f t b ∷ ms) op d a = let q : Exist t ≡ op = cc in subst (Reaches (Committing (Merging (Look_at f t b ∷ ms)))) q (away tt (λ u x o. absurd (true≢false u)) (λ e. cc))
merge-reaches (List_into f t ∷ ms) op d a = let q : ListDir f ≡ op = cc in subst (Reaches (Committing (Merging (List_into f t ∷ ms)))) q (away tt (λ u x o. absurd (true≢false u)) (λ e. cc))
merge-reaches (Delete_then f t ∷ ms) op d a = let q : Delete t ≡ op = cc in subst (Reaches (Committing (Merging (Delete_then f t ∷ ms)))) q (away a.0.1 (λ u x o. absurd (true≢false u)) (λ e. cc))
merge-reaches (Move_to f t ∷ ms) op d a = let q : Rename f t ≡ op = cc in subst (Reaches (Committing (Merging (Move_to f t ∷ ms)))) q (away a.0 (λ u x o. absurd (true≢false u)) (λ e. cc))

pub duty-reaches : (cfg : Config) (k : ℕ) (s : Seen) (op : Op) → duty_of cfg k s s.phase ≡ Some (Names op) → PhaseApart s.phase → Reaches s.phase op
unfolding duty_of
duty-reaches cfg k s op d a = by s.phase refl d a
  where
    quiet : (p : Phase) → s.phase ≡ p → duty_of cfg k s p ≡ Some (Names op) → is_loud p ≡ false → (p ≡ Running → ⊥) → Reaches p op
    quiet p z d l n = quiet-reaches k p op n (subst (λ q. Quiet_op k q op) z (quiet-op cfg k s op (subst (λ q. is_loud q ≡ false) (sym z) l) (subst (λ q. duty_of cfg k s q ≡ Some (Names op)) (sym z) d)))

    by : (p : Phase) → s.phase ≡ p → duty_of cfg k s p ≡ Some (Names op) → PhaseApart p → Reaches p op
    by (Opening i) z d a = quiet (Opening i) z d refl (λ e. cc)
    by Setting_up z d a = quiet Setting_up z d refl (λ e. cc)
    by (Recovering ws at) z d a = quiet (Recovering ws at) z d refl (λ e. cc)
    by Running z d a = subst RunCall d (run-duty cfg k s)
    by (Failing f) z d a = subst (Reaches (Failing f)) (sym (fail-op cfg k s f op d).0) (away (inl refl) (λ u x o. o) (λ e. cc))
    by (Committing List_job) z d a = let q : ListDir (job_attempt k) ≡ op = cc in subst (Reaches (Committing List_job)) q (away tt (λ u x o. absurd (true≢false u)) (λ e. cc))
    by (Committing (Merging ms)) z d a = merge-reaches ms op d a
    by (Committing Cleaning) z d a = let q : Delete temporary ≡ op = cc in subst (Reaches (Committing Cleaning)) q (away (inl refl) (λ u x o. o) (λ e. cc))
    by (Committing Marking) z d a = let q : Create marker true ≡ op = cc in subst (Reaches (Committing Marking)) q (away (inl refl) (λ u x o. absurd (true≢false u)) (λ e. cc))
    by (Committing Succeeding) z d a = let q : Create commit_success true ≡ op = cc in succeeds refl (sym q)
    by (Committing Failing_mark) z d a = let q : Create commit_fail true ≡ op = cc in fails refl (sym q)
    by (Committing Aborting) z d a = let q : Delete temporary ≡ op = cc in subst (Reaches (Committing Aborting)) q (away (inl refl) (λ u x o. o) (λ e. cc))
    by (Finished b) z d a = cc
    by Stopped z d a = cc
