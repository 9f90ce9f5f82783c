-- A turn: where an answer leads from each phase, what else it changes, and what is sent.
use Rattle.std.proofs.Common.{ℕ, ◌≡◌, refl, ap, subst, Bool, true, false, List, [], ◌∷◌, ◌++◌, Option, Some, None, if◌then◌else◌, is_some, nat_le}
use Rattle.std.proofs.lemmas.Bool.{false≢true}
use Rattle.mr_names.specs.declared.fault.NameFault.{NameFault}
use Rattle.mr_names.specs.declared.fault.NameFault.TheVariants as names
use Rattle.mr_history.specs.declared.record.Record.{Record}
use Rattle.mr_master_model.specs.declared.setting.Setting.{Setting}
use Rattle.mr_master_model.specs.Readings as read
use Rattle.mr_master_model.specs.Readings.{or_else, all_succeeded, is_live}
use Rattle.mr_master_model.specs.Duty.{duty}
use Rattle.mr_master_model.specs.Answered.{work_after, name_of}
use Rattle.mr_world_model.specs.Ids.{Attempt, committed, job_attempt, temporary, part_name, commit_started}
use Rattle.mr_world_model.specs.Content.{bar_of, Create, Bar, Delete, Read}
use Rattle.mr_world_model.specs.Packets.{Config, Store, Names, Append_record, Flush, Read_history, Reply, Fine, Found, Entries, Bytes, Records, Refused}
use Rattle.mr_world_model.specs.Hearing.{Seen, Phase, Opening, Setting_up, Recovering, Running, Committing, Failing, Finished, Stopped, Todo_winner, Recover_step, Look_below, Measure, Clear_own, Move_from, Commit_step, List_job, Merging, Cleaning, Marking, Succeeding, Failing_mark, Aborting, Merge_step, Look_at, List_into, Delete_then, Move_to}
use Rattle.mr_world_model.specs.Duties.{merging, refused, is_superseded, is_cleared, duty_of, bar_call, record_call, first_bar, all_won, mark_at, wants_flush, phase_told, is_unsuccessful, is_read, is_fine, looked, was_read, recover_rest, recovering, right_length, merge_next, tops, inners, committing}
use Rattle.mr_master_refinement.specs.Steps.{setting, answer_of}
use Rattle.mr_master_refinement.specs.Works.{work_at, duty_name, named}
use Rattle.mr_master_refinement.specs.Works.{CanBe}
use Rattle.mr_master_refinement.specs.Agreement.{SetUp}
use Rattle.mr_master_refinement.proofs.Turns.{opening-turn, setup-turn, look-turn, measure-turn, clear-turn, move-turn, list-turn, look-at-turn, list-into-turn, delete-turn, move-to-turn, cleaning-turn, marking-turn, succeeding-turn, mark-fail-turn, aborting-turn, bar-turn, start-turn, append-turn, flush-turn, failing-append, failing-flush, failing-abort, some-is}
use Rattle.mr_master_model.specs.Readings.{tell}

pub if_cases : {A : Type 0} (P : A → Type 0) (b : Bool) (x y : A) → (b ≡ true → P x) → (b ≡ false → P y) → P (if b then x else y)
if_cases P true x y p q = p refl
if_cases P false x y p q = q refl

-- ---- what may be due while Running or Failing

abbrev pub OnSome : (Store → Type 0) → Option Store → Type 0
OnSome P None = Unit {0}
OnSome P (Some call) = P call

module _ (P : Store → Type 0) (append : (r : Record) → P (Append_record r)) (flush : P Flush) where
  on-records : (due tail : List Record) (o : Option Store) → OnSome P o → OnSome P (record_call due tail o)
  on-records (r ∷ due) tail o e = append r
  on-records [] tail o e = if_cases (OnSome P) (wants_flush tail) _ _ (λ t. flush) (λ t. e)

  on-running : ((a : Attempt) → P (Names (Bar a))) → P (Names (Create commit_started true)) → (b : Option Attempt) (due tail : List Record) (won : Bool) →
      OnSome P (bar_call b (record_call due tail (if won then Some (Names (Create commit_started true)) else None)))
  on-running bar start (Some a) due tail won = bar a
  on-running bar start None due tail won = on-records due tail _ (if_cases (OnSome P) won _ _ (λ t. start) (λ t. tt))

  on-failing : P (Names (Delete temporary)) → (due tail : List Record) (f : Bool) → OnSome P (record_call due tail (if f then Some (Names (Delete temporary)) else None))
  on-failing abort due tail f = on-records due tail _ (if_cases (OnSome P) f _ _ (λ t. abort) (λ t. tt))

  pub at-running : ((a : Attempt) → P (Names (Bar a))) → P (Names (Create commit_started true)) → (cfg : Config) (k : ℕ) (s : Seen) (call : Store) → duty_of cfg k s Running ≡ Some call → P call
  unfolding duty_of
  at-running bar start cfg k s call e = subst (OnSome P) e (on-running bar start (first_bar s s.bars) s.due s.tail (all_won s.recorded s.winners cfg.job cfg.reduces))

  pub at-failing : P (Names (Delete temporary)) → (cfg : Config) (k : ℕ) (s : Seen) (f : Bool) (call : Store) → duty_of cfg k s (Failing f) ≡ Some call → P call
  unfolding duty_of
  at-failing abort cfg k s f call e = subst (OnSome P) e (on-failing abort s.due s.tail f)

-- ---- where an answer leads

module _ (cfg : Config) (k : ℕ) (s : Seen) (m : read.Seen) where
  abbrev W : Setting
  W = setting cfg k

  abbrev Leads : Phase → Store → Reply → Type 0
  Leads p call r = work_after W m (answer_of call r) (work_at k p) ≡ work_at k (phase_told k s p call r)

  by-call : (p : Phase) (c call : Store) (r : Reply) → Some c ≡ Some call → Leads p c r → Leads p call r
  by-call p c call r e g = subst (λ x. Leads p x r) (some-is c call e) g

  name-is : (p : Phase) (call : Store) → duty W m ≡ named p (Some call) → name_of (duty W m) ≡ Some (duty_name p call)
  name-is p call e = ap name_of e

  running-turn : (call : Store) (r : Reply) → duty_of cfg k s Running ≡ Some call → duty W m ≡ named Running (Some call) → Leads Running call r
  unfolding work_at phase_told duty_name
  running-turn call r d e = at-running (λ c. duty W m ≡ named Running (Some c) → Leads Running c r)
      (λ x e. append-turn cfg k m s.tail x r (name-is Running (Append_record x) e)) (λ e. flush-turn cfg k m s.tail r (name-is Running Flush e))
      (λ a e. bar-turn cfg k m s.tail a r (name-is Running (Names (Bar a)) e)) (λ e. start-turn cfg k m s.tail r (name-is Running (Names (Create commit_started true)) e)) cfg k s call d e

  failing-turn : (f : Bool) (call : Store) (r : Reply) → m.tail ≡ s.tail → duty_of cfg k s (Failing f) ≡ Some call → duty W m ≡ named (Failing f) (Some call) → Leads (Failing f) call r
  unfolding work_at phase_told duty_name
  failing-turn f call r t d e = at-failing (λ c. duty W m ≡ named (Failing f) (Some c) → Leads (Failing f) c r)
      (λ x e. failing-append cfg k m s.tail f x r (name-is (Failing f) (Append_record x) e)) (λ e. failing-flush cfg k m s.tail f r t (name-is (Failing f) Flush e))
      (λ e. failing-abort cfg k m s.tail f r (name-is (Failing f) (Names (Delete temporary)) e)) cfg k s f call d e

  measured-turn : (x : Todo_winner) (todo : List Todo_winner) (j : ℕ) (r : Reply) (z : Option ℕ) → z ≡ x.bytes → is_some z ≡ true → Leads (Recovering (x ∷ todo) (Measure j)) (Names (Read (committed j x.task ++ part_name x.task ∷ []))) r
  unfolding phase_told
  measured-turn x todo j r None e o = absurd (false≢true o)
  measured-turn x todo j r (Some n) e o = subst (λ z. work_after W m (answer_of (Names (Read (committed j x.task ++ part_name x.task ∷ []))) r) (work_at k (Recovering (record { task = x.task; attempt = x.attempt; bytes = z } ∷ todo) (Measure j)))
      ≡ work_at k (recovering k (record { task = x.task; attempt = x.attempt; bytes = z } ∷ todo) (Measure j) r)) e (measure-turn cfg k m x.task x.attempt todo n j r)

  pub turn : (p : Phase) (call : Store) (r : Reply) → CanBe p → SetUp cfg k s m p → m.tail ≡ s.tail → duty_of cfg k s p ≡ Some call → duty W m ≡ named p (Some call) → Leads p call r
  unfolding duty_of phase_told work_at
  turn (Opening n) call r o u t d e = by-call (Opening n) (mark_at n) call r d (opening-turn cfg k m n r)
  turn Setting_up call r o u t d e = by-call Setting_up _ call r d (setup-turn cfg k m s.winners r u)
  turn (Recovering [] at) call r o u t d e = absurd o
  turn (Recovering (x ∷ todo) (Look_below j)) call r o u t d e = by-call (Recovering (x ∷ todo) (Look_below j)) _ call r d (look-turn cfg k m x.task x.attempt todo x.bytes j r)
  turn (Recovering (x ∷ todo) (Measure j)) call r o u t d e = by-call (Recovering (x ∷ todo) (Measure j)) _ call r d (measured-turn x todo j r x.bytes refl o)
  turn (Recovering (x ∷ todo) (Clear_own j)) call r o u t d e = by-call (Recovering (x ∷ todo) (Clear_own j)) _ call r d (clear-turn cfg k m x.task x.attempt todo x.bytes j r)
  turn (Recovering (x ∷ todo) (Move_from j)) call r o u t d e = by-call (Recovering (x ∷ todo) (Move_from j)) _ call r d (move-turn cfg k m x.task x.attempt todo x.bytes j r)
  turn Running call r o u t d e = running-turn call r d e
  turn (Committing List_job) call r o u t d e = by-call (Committing List_job) _ call r d (list-turn cfg k m r)
  turn (Committing (Merging [])) call r o u t d e = absurd o
  turn (Committing (Merging (Look_at f v b ∷ todo))) call r o u t d e = by-call (Committing (Merging (Look_at f v b ∷ todo))) _ call r d (look-at-turn cfg k m f v b todo r)
  turn (Committing (Merging (List_into f v ∷ todo))) call r o u t d e = by-call (Committing (Merging (List_into f v ∷ todo))) _ call r d (list-into-turn cfg k m f v todo r)
  turn (Committing (Merging (Delete_then f v ∷ todo))) call r o u t d e = by-call (Committing (Merging (Delete_then f v ∷ todo))) _ call r d (delete-turn cfg k m f v todo r)
  turn (Committing (Merging (Move_to f v ∷ todo))) call r o u t d e = by-call (Committing (Merging (Move_to f v ∷ todo))) _ call r d (move-to-turn cfg k m f v todo r)
  turn (Committing Cleaning) call r o u t d e = by-call (Committing Cleaning) _ call r d (cleaning-turn cfg k m r)
  turn (Committing Marking) call r o u t d e = by-call (Committing Marking) _ call r d (marking-turn cfg k m r)
  turn (Committing Succeeding) call r o u t d e = by-call (Committing Succeeding) _ call r d (succeeding-turn cfg k m r)
  turn (Committing Failing_mark) call r o u t d e = by-call (Committing Failing_mark) _ call r d (mark-fail-turn cfg k m r)
  turn (Committing Aborting) call r o u t d e = by-call (Committing Aborting) _ call r d (aborting-turn cfg k m r)
  turn (Failing f) call r o u t d e = failing-turn f call r t d e
  turn (Finished b) call r o u t d e = cc
  turn Stopped call r o u t d e = cc

-- ---- it leads to a phase that can be

can-next : (todo : List Merge_step) → CanBe (Committing (merge_next todo))
can-next [] = tt
can-next (x ∷ todo) = tt

can-refused : (r : Reply) → CanBe (refused r)
can-refused (Refused (names.Superseded n)) = tt
can-refused (Refused f) = by f
  where
    by : (f : NameFault) → CanBe (refused (Refused f))
    by (names.Superseded n) = tt
    by _ = tt
can-refused Fine = tt
can-refused _ = tt

can-rest : (k : ℕ) (ws : List Todo_winner) → CanBe (recover_rest k ws)
can-rest k [] = tt
can-rest k (x ∷ ws) = if_cases CanBe (nat_le k 1) _ _ (λ t. tt) (λ t. tt)

can-looked : (n : ℕ) (r : Reply) → CanBe (looked n r)
can-looked n (Found (Some x)) = tt
can-looked n (Found None) = tt
can-looked n _ = tt

can-read : (r : Reply) → CanBe (was_read r)
can-read (Records rs) = if_cases CanBe (is_unsuccessful rs) _ _ (λ t. tt) (λ t. tt)
can-read _ = tt

can-recover : (k : ℕ) (x : Todo_winner) (todo : List Todo_winner) (at : Recover_step) (r : Reply) → CanBe (recovering k (x ∷ todo) at r)
can-recover k x todo (Look_below j) (Found (Some y)) = by (is_some x.bytes) refl
  where
    by : (b : Bool) → is_some x.bytes ≡ b → CanBe (Recovering (x ∷ todo) (if b then Measure j else Clear_own j))
    by true e = e
    by false e = tt
can-recover k x todo (Look_below j) (Found None) = if_cases CanBe (nat_le j 1) _ _ (λ t. tt) (λ t. tt)
can-recover k x todo (Look_below j) _ = tt
can-recover k x todo (Measure j) (Bytes bytes) = if_cases CanBe (right_length (x ∷ todo) bytes) _ _ (λ t. tt) (λ t. tt)
can-recover k x todo (Measure j) _ = tt
can-recover k x todo (Clear_own j) r = if_cases CanBe (is_cleared r) _ _ (λ t. tt) (λ t. tt)
can-recover k x todo (Move_from j) r = if_cases CanBe (is_fine r) _ _ (λ t. can-rest k todo) (λ t. tt)

can-merge : (todo : List Merge_step) (r : Reply) → CanBe (merging todo r Cleaning)
can-merge [] r = can-refused r
can-merge (Look_at f u d ∷ todo) (Found None) = tt
can-merge (Look_at f u d ∷ todo) (Found (Some x)) = tt
can-merge (Look_at f u d ∷ todo) r = can-refused r
can-merge (List_into f u ∷ todo) (Entries es) = can-next (inners f u es ++ todo)
can-merge (List_into f u ∷ todo) r = can-refused r
can-merge (Delete_then f u ∷ todo) r = if_cases CanBe (is_fine r) _ _ (λ t. tt) (λ t. can-refused r)
can-merge (Move_to f u ∷ todo) r = if_cases CanBe (is_fine r) _ _ (λ t. can-next todo) (λ t. can-refused r)

can-commit : (k : ℕ) (at : Commit_step) (r : Reply) → CanBe (committing k at r)
can-commit k List_job (Entries es) = can-next (tops (job_attempt k) es)
can-commit k List_job r = can-refused r
can-commit k (Merging todo) r = can-merge todo r
can-commit k Cleaning r = if_cases CanBe (is_cleared r) _ _ (λ t. tt) (λ t. can-refused r)
can-commit k Marking r = if_cases CanBe (is_fine r) _ _ (λ t. tt) (λ t. can-refused r)
can-commit k Succeeding r = if_cases CanBe (is_fine r) _ _ (λ t. tt) (λ t. tt)
can-commit k Failing_mark r = if_cases CanBe (is_fine r) _ _ (λ t. tt) (λ t. tt)
can-commit k Aborting r = if_cases CanBe (is_superseded r) _ _ (λ t. tt) (λ t. tt)

pub can-after : (k : ℕ) (s : Seen) (p : Phase) (call : Store) (r : Reply) → CanBe p → CanBe (phase_told k s p call r)
unfolding phase_told
can-after k s (Opening n) call r o = if_cases CanBe (is_read call) _ _ (λ t. can-read r) (λ t. can-looked n r)
can-after k s Setting_up call r o = if_cases CanBe (is_fine r) _ _ (λ t. can-rest k s.winners) (λ t. tt)
can-after k s (Recovering [] at) call r o = absurd o
can-after k s (Recovering (x ∷ todo) at) call r o = can-recover k x todo at r
can-after k s Running (Names op) r o = if_cases CanBe (is_fine r) _ _ (λ t. if_cases CanBe (is_some (bar_of op)) _ _ (λ t. tt) (λ t. tt)) (λ t. tt)
can-after k s Running (Append_record x) r o = if_cases CanBe (is_fine r) _ _ (λ t. tt) (λ t. tt)
can-after k s Running Flush r o = if_cases CanBe (is_fine r) _ _ (λ t. tt) (λ t. tt)
can-after k s Running Read_history r o = tt
can-after k s (Committing at) call r o = can-commit k at r
can-after k s (Failing f) (Names op) r o = if_cases CanBe (is_cleared r) _ _ (λ t. tt) (λ t. tt)
can-after k s (Failing f) (Append_record x) r o = if_cases CanBe (is_fine r) _ _ (λ t. tt) (λ t. tt)
can-after k s (Failing f) Flush r o = if_cases CanBe (is_fine r) _ _ (λ t. tt) (λ t. tt)
can-after k s (Failing f) Read_history r o = tt
can-after k s (Finished b) call r o = tt
can-after k s Stopped call r o = tt
