-- The phase of a master and the winners that it has read.
use Rattle.std.proofs.Common.{ℕ, zero, suc, ◌≡◌, refl, sym, ◌∙◌, ap, subst, Bool, true, false, ◌&&◌, ◌||◌, not, List, [], ◌∷◌, ◌++◌, Option, Some, None, if◌then◌else◌, is_some, nat_eq, nat_lt, nat_le, ◌⊎◌, inl, inr, arith}
use Rattle.std.proofs.lemmas.Bool.{true≢false, eqb-true, eqb-false}
use Rattle.mr_world_model.specs.Claims.{IsOf}
use Rattle.mr_world_model.specs.Ids.{Attempt, ContainerId, TaskId, JobId, is_reduce, task_eq, reduce_of}
use Rattle.mr_world_model.proofs.Names.{task_eq-refl}
use Rattle.mr_world_model.specs.Records.{Record, winner_in, length_in}
use Rattle.mr_world_model.specs.Content.{Superseded, bar_of}
use Rattle.mr_world_model.proofs.Closed.{expired-by, bar-by}
use Rattle.mr_world_model.specs.Packets.{Config, Packet, Pending, Poll, Done, Failed, Ended, NodeUp, Where, FetchLost, Store, Reply, Names, Append_record, Flush, Read_history, Found, Entries, Bytes, Records, Refused}
use Rattle.mr_world_model.specs.Hearing.{Seen, Phase, Opening, Setting_up, Recovering, Running, Committing, Failing, Finished, Stopped, Todo_winner, Launched, has, find_launched, may_accept, is_live, has_winner, heard, after_end, after_ended, end_there, only_known, Recover_step, Measure, Look_below, Clear_own, Move_from, Commit_step, is_running, ended_by, over_with, failures, is_won, Merge_step, Look_at, List_into, Delete_then, Move_to, expired, List_job, Merging, Cleaning, Marking, Succeeding, Failing_mark, Aborting, find_container, can_hear}
use Rattle.mr_world_model.specs.Duties.{told, worked, with_phase, with_read, is_fine, is_cleared, is_read, winners_of, one_winner, recover_rest, recovering, looked, was_read, phase_told, right_length, committing, running, failing, is_unsuccessful, records_of, duty_of, record_call, recover_call, merging, refused, bar_call, first_bar, wants_flush, all_won, is_superseded}
use Rattle.mr_world_model.proofs.Basic.{if_cases}
use Rattle.mr_world_model.proofs.Lists.{Each, Each-append}

-- w is the winner of its task among these records, with the length that it was recorded with
abbrev pub Wins : List Record → Todo_winner → Type 0
Wins R w = (winner_in R w.task ≡ Some w.attempt) × (w.bytes ≡ length_in R w.task)

-- what a phase says of the winners read, R being the records of the earlier generations
abbrev pub PhaseFits : List Record → JobId → ℕ → List Todo_winner → Phase → Type 0
PhaseFits R j n ws (Opening k) = Unit {0}
PhaseFits R j n ws Setting_up = ws ≡ winners_of R j n
PhaseFits R j n ws (Recovering todo at) = (ws ≡ winners_of R j n) × Each (Wins R) todo
PhaseFits R j n ws Running = ws ≡ winners_of R j n
PhaseFits R j n ws (Committing at) = Unit {0}
PhaseFits R j n ws (Failing f) = Unit {0}
PhaseFits R j n ws (Finished b) = Unit {0}
PhaseFits R j n ws Stopped = Unit {0}

abbrev pub Fits : List Record → JobId → ℕ → Seen → Type 0
Fits R j n s = PhaseFits R j n s.winners s.phase

one-wins : (R : List Record) (t : TaskId) (o : Option Attempt) → winner_in R t ≡ o → Each (Wins R) (one_winner t (length_in R t) o)
one-wins R t None e = tt
one-wins R t (Some a) e = ((e, refl), tt)

pub winners-win : (R : List Record) (j : JobId) (n : ℕ) → Each (Wins R) (winners_of R j n)
unfolding winners_of
winners-win R j zero = tt
winners-win R j (suc n) = Each-append (Wins R) (winners_of R j n) _ (winners-win R j n) (one-wins R (reduce_of j n) (winner_in R (reduce_of j n)) refl)

has_winner-append : (xs ys : List Todo_winner) (t : TaskId) → has_winner (xs ++ ys) t ≡ false → (has_winner xs t ≡ false) × (has_winner ys t ≡ false)
has_winner-append [] ys t e = (refl, e)
has_winner-append (w ∷ xs) ys t e = by (task_eq w.task t) e (has_winner-append xs ys t)
  where
    by : (b : Bool) → (b || has_winner (xs ++ ys) t) ≡ false → (has_winner (xs ++ ys) t ≡ false → (has_winner xs t ≡ false) × (has_winner ys t ≡ false)) →
        ((b || has_winner xs t) ≡ false) × (has_winner ys t ≡ false)
    by true e f = cc
    by false e f = f e

one-none : (R : List Record) (t : TaskId) (z : Option ℕ) (o : Option Attempt) → winner_in R t ≡ o → has_winner (one_winner t z o) t ≡ false → winner_in R t ≡ None
one-none R t z None e f = e
one-none R t z (Some a) e f = absurd (true≢false (sym (rw (task_eq-refl t) refl) ∙ f))

-- a reduce that has no winner read has none
pub winners-all : (R : List Record) (j : JobId) (n : ℕ) (t : TaskId) → IsOf j n t → has_winner (winners_of R j n) t ≡ false → winner_in R t ≡ None
unfolding winners_of
winners-all R j zero t l e = absurd (let q = l.small in omega arith)
winners-all R j (suc n) t l e = by (nat_eq t.number n) refl (has_winner-append (winners_of R j n) _ t e) (λ m. winners-all R j n t m)
  where
    by : (b : Bool) → nat_eq t.number n ≡ b → (has_winner (winners_of R j n) t ≡ false) × (has_winner (one_winner (reduce_of j n) (length_in R (reduce_of j n)) (winner_in R (reduce_of j n))) t ≡ false) →
        (IsOf j n t → has_winner (winners_of R j n) t ≡ false → winner_in R t ≡ None) → winner_in R t ≡ None
    by true q p f = let e : t ≡ reduce_of j n = l.is ∙ ap (λ x. reduce_of j x) (eqb-true t.number n q) in
        subst (λ x. winner_in R x ≡ None) (sym e) (one-none R (reduce_of j n) (length_in R (reduce_of j n)) (winner_in R (reduce_of j n)) refl (subst (λ x. has_winner (one_winner (reduce_of j n) (length_in R (reduce_of j n)) (winner_in R (reduce_of j n))) x ≡ false) e p.1))
    by false q p f = let d = eqb-false t.number n q in let m = l.small in f (record { is = l.is; small = omega (arith, d) }) p.0

-- Packets

ended_by-fits : (cfg : Config) (R : List Record) (j : JobId) (n : ℕ) (s : Seen) (a : Attempt) (f : Bool) → Fits R j n s → Fits R j n (ended_by cfg s a f)
ended_by-fits cfg R j n s a false o = o
ended_by-fits cfg R j n s a true o = if_cases (Fits R j n) (nat_le cfg.limit (failures (over_with s a true) a) && not (is_won s (is_reduce a) a.task)) _ _ (λ t. tt) (λ t. o)

after_end-fits : (cfg : Config) (R : List Record) (j : JobId) (n : ℕ) (s : Seen) (a : Attempt) (f : Bool) → Fits R j n s → Fits R j n (after_end cfg s a f)
after_end-fits cfg R j n s a f o = if_cases (Fits R j n) (is_live s a) _ _ (λ e. ended_by-fits cfg R j n s a f o) (λ e. o)

after_ended-fits : (cfg : Config) (R : List Record) (j : JobId) (n : ℕ) (s : Seen) (c : ContainerId) (l : Option Launched) → Fits R j n s → Fits R j n (after_ended cfg s c l)
after_ended-fits cfg R j n s c None o = o
after_ended-fits cfg R j n s c (Some l) o = after_end-fits cfg R j n s _ _ o

end_there-fits : (R : List Record) (j : JobId) (m n i : ℕ) (ls : List Launched) (s : Seen) → Fits R j m s → Fits R j m (end_there n i ls s)
end_there-fits R j m n i [] s o = o
end_there-fits R j m n i (l ∷ ls) s o =
    if_cases (Fits R j m) (nat_eq l.node n && (nat_lt l.incarnation i && is_live s l.attempt)) _ _
    (λ t. end_there-fits R j m n i ls _ o) (λ t. end_there-fits R j m n i ls s o)

pub heard-fits : (cfg : Config) (R : List Record) (j : JobId) (n : ℕ) (s : Seen) (p : Packet) → Fits R j n s → Fits R j n (heard cfg s p)
unfolding heard
heard-fits cfg R j n s (Pending a) o = if_cases (Fits R j n) (is_some (find_launched s.launched a) && not (has s.asked a)) _ _ (λ t. o) (λ t. o)
heard-fits cfg R j n s (Poll a) o = if_cases (Fits R j n) (is_some (find_launched s.launched a) && not (has s.asked a)) _ _ (λ t. o) (λ t. o)
heard-fits cfg R j n s (Done a z) o = if_cases (Fits R j n) (may_accept s a) _ _ (λ t. o) (λ t. o)
heard-fits cfg R j n s (Failed a) o = after_end-fits cfg R j n s a true o
heard-fits cfg R j n s (Ended c) o = after_ended-fits cfg R j n s c _ o
heard-fits cfg R j n s (NodeUp m i) o = if_cases (Fits R j n) (nat_lt (s.known m) i) _ _ (λ t. end_there-fits R j n m i s.launched _ o) (λ t. o)
heard-fits cfg R j n s (FetchLost c a) o = if_cases (Fits R j n) (is_some (find_container s.launched c) && has s.recorded a) _ _ (λ t. o) (λ t. o)
heard-fits cfg R j n s (Where c m) o = o
heard-fits cfg R j n s _ o = o

pub only_known-fits : (R : List Record) (j : JobId) (n : ℕ) (s : Seen) (p : Packet) → Fits R j n s → Fits R j n (only_known s p)
only_known-fits R j n s (NodeUp m i) o = if_cases (Fits R j n) (can_hear s.phase && nat_lt (s.known m) i) _ _ (λ t. o) (λ t. o)
only_known-fits R j n s _ o = o

pub expired-fits : (R : List Record) (j : JobId) (m n : ℕ) (s : Seen) → Fits R j m s → Fits R j m (expired n s)
expired-fits R j m n s o = expired-by (Fits R j m) (λ u a t v. v) n s (λ st ks bs. o)

-- Store calls

recover_rest-fits : (R : List Record) (j : JobId) (n k : ℕ) (ws : List Todo_winner) (todo : List Todo_winner) → ws ≡ winners_of R j n → Each (Wins R) todo → PhaseFits R j n ws (recover_rest k todo)
recover_rest-fits R j n k ws [] e o = e
recover_rest-fits R j n k ws (w ∷ todo) e o = if_cases (PhaseFits R j n ws) (nat_le k 1) _ _ (λ t. tt) (λ t. (e, o))

recovering-fits : (R : List Record) (j : JobId) (n k : ℕ) (ws todo : List Todo_winner) (at : Recover_step) (r : Reply) → ws ≡ winners_of R j n → Each (Wins R) todo →
    PhaseFits R j n ws (recovering k todo at r)
recovering-fits R j n k ws todo (Look_below i) (Found (Some kind)) e o = (e, o)
recovering-fits R j n k ws todo (Look_below i) (Found None) e o = if_cases (PhaseFits R j n ws) (nat_le i 1) _ _ (λ t. tt) (λ t. (e, o))
recovering-fits R j n k ws todo (Look_below i) _ e o = tt
recovering-fits R j n k ws todo (Measure i) (Bytes bs) e o = if_cases (PhaseFits R j n ws) (right_length todo bs) _ _ (λ t. (e, o)) (λ t. tt)
recovering-fits R j n k ws todo (Measure i) _ e o = tt
recovering-fits R j n k ws todo (Clear_own i) r e o = if_cases (PhaseFits R j n ws) (is_cleared r) _ _ (λ t. (e, o)) (λ t. tt)
recovering-fits R j n k ws [] (Move_from i) r e o = tt
recovering-fits R j n k ws (w ∷ todo) (Move_from i) r e o = if_cases (PhaseFits R j n ws) (is_fine r) _ _ (λ t. recover_rest-fits R j n k ws todo e o.1) (λ t. tt)

running-fits : (R : List Record) (j : JobId) (n : ℕ) (ws : List Todo_winner) (tail : List Record) (call : Store) (r : Reply) → ws ≡ winners_of R j n → PhaseFits R j n ws (running tail call r)
running-fits R j n ws tail (Names op) r e = if_cases (PhaseFits R j n ws) (is_fine r) _ _ (λ t. if_cases (PhaseFits R j n ws) (is_some (bar_of op)) _ _ (λ b. e) (λ b. tt)) (λ t. tt)
running-fits R j n ws tail (Append_record x) r e = if_cases (PhaseFits R j n ws) (is_fine r) _ _ (λ t. e) (λ t. tt)
running-fits R j n ws tail Flush r e = if_cases (PhaseFits R j n ws) (is_fine r) _ _ (λ t. e) (λ t. tt)
running-fits R j n ws tail Read_history r e = tt

failing-fits : (R : List Record) (j : JobId) (n : ℕ) (f : Bool) (ws : List Todo_winner) (tail : List Record) (call : Store) (r : Reply) → PhaseFits R j n ws (failing f tail call r)
failing-fits R j n f ws tail (Names op) r = if_cases (PhaseFits R j n ws) (is_cleared r) _ _ (λ t. tt) (λ t. tt)
failing-fits R j n f ws tail (Append_record x) r = if_cases (PhaseFits R j n ws) (is_fine r) _ _ (λ t. tt) (λ t. tt)
failing-fits R j n f ws tail Flush r = if_cases (PhaseFits R j n ws) (is_fine r) _ _ (λ t. tt) (λ t. tt)
failing-fits R j n f ws tail Read_history r = tt

refused-fits : (R : List Record) (j : JobId) (n : ℕ) (ws : List Todo_winner) (r : Reply) → PhaseFits R j n ws (refused r)
refused-fits R j n ws (Refused (Superseded f)) = tt
refused-fits R j n ws _ = tt

merging-fits : (R : List Record) (j : JobId) (n : ℕ) (ws : List Todo_winner) (ms : List Merge_step) (r : Reply) (ok : Commit_step) → PhaseFits R j n ws (merging ms r ok)
merging-fits R j n ws [] r ok = refused-fits R j n ws r
merging-fits R j n ws (Look_at f t d ∷ ms) (Found None) ok = tt
merging-fits R j n ws (Look_at f t d ∷ ms) (Found (Some k)) ok = tt
merging-fits R j n ws (Look_at f t d ∷ ms) (Refused (Superseded g)) ok = tt
merging-fits R j n ws (Look_at f t d ∷ ms) _ ok = tt
merging-fits R j n ws (List_into f t ∷ ms) (Entries es) ok = tt
merging-fits R j n ws (List_into f t ∷ ms) (Refused (Superseded g)) ok = tt
merging-fits R j n ws (List_into f t ∷ ms) _ ok = tt
merging-fits R j n ws (Delete_then f t ∷ ms) r ok = if_cases (PhaseFits R j n ws) (is_fine r) _ _ (λ t. tt) (λ t. refused-fits R j n ws r)
merging-fits R j n ws (Move_to f t ∷ ms) r ok = if_cases (PhaseFits R j n ws) (is_fine r) _ _ (λ t. tt) (λ t. refused-fits R j n ws r)

committing-fits : (R : List Record) (j : JobId) (n k : ℕ) (ws : List Todo_winner) (at : Commit_step) (r : Reply) → PhaseFits R j n ws (committing k at r)
committing-fits R j n k ws List_job (Entries es) = tt
committing-fits R j n k ws List_job (Refused (Superseded g)) = tt
committing-fits R j n k ws List_job _ = tt
committing-fits R j n k ws (Merging ms) r = merging-fits R j n ws ms r _
committing-fits R j n k ws Cleaning r = if_cases (PhaseFits R j n ws) (is_cleared r) _ _ (λ t. tt) (λ t. refused-fits R j n ws r)
committing-fits R j n k ws Marking r = if_cases (PhaseFits R j n ws) (is_fine r) _ _ (λ t. tt) (λ t. refused-fits R j n ws r)
committing-fits R j n k ws Succeeding r = if_cases (PhaseFits R j n ws) (is_fine r) _ _ (λ t. tt) (λ t. tt)
committing-fits R j n k ws Failing_mark r = if_cases (PhaseFits R j n ws) (is_fine r) _ _ (λ t. tt) (λ t. tt)
committing-fits R j n k ws Aborting r = if_cases (PhaseFits R j n ws) (is_superseded r) _ _ (λ t. tt) (λ t. tt)

-- only a master in Opening reads
abbrev is_read_option : Option Store → Bool
is_read_option None = false
is_read_option (Some call) = is_read call

record-no_read : (due tail : List Record) (o : Option Store) → is_read_option o ≡ false → is_read_option (record_call due tail o) ≡ false
record-no_read (r ∷ due) tail o e = refl
record-no_read [] tail o e = if_cases (λ x. is_read_option x ≡ false) (wants_flush tail) _ _ (λ t. refl) (λ t. e)

bar-no_read : (m : Option Attempt) (o : Option Store) → is_read_option o ≡ false → is_read_option (bar_call m o) ≡ false
bar-no_read None o e = e
bar-no_read (Some a) o e = refl

recover-no_read : (k : ℕ) (ws : List Todo_winner) (at : Recover_step) → is_read_option (recover_call k ws at) ≡ false
recover-no_read k [] at = refl
recover-no_read k (w ∷ ws) (Look_below j) = refl
recover-no_read k (w ∷ ws) (Measure j) = refl
recover-no_read k (w ∷ ws) (Clear_own j) = refl
recover-no_read k (w ∷ ws) (Move_from j) = refl

-- what a reading master is answered
abbrev pub ReadFits : List Record → Store → Reply → Type 0
ReadFits R call r = is_read call ≡ true → (records_of r ≡ R) ⊎ (was_read r ≡ Stopped)

was_read-fits : (R : List Record) (j : JobId) (n : ℕ) (ws : List Todo_winner) (r : Reply) → ws ≡ winners_of R j n → PhaseFits R j n ws (was_read r)
was_read-fits R j n ws (Records rs) e = if_cases (PhaseFits R j n ws) (is_unsuccessful rs) _ _ (λ t. tt) (λ t. e)
was_read-fits R j n ws _ e = tt

looked-fits : (R : List Record) (j : JobId) (n i : ℕ) (ws : List Todo_winner) (r : Reply) → PhaseFits R j n ws (looked i r)
looked-fits R j n i ws (Found (Some k)) = tt
looked-fits R j n i ws (Found None) = tt
looked-fits R j n i ws _ = tt

phase-fits : (cfg : Config) (k : ℕ) (R : List Record) (s : Seen) (p : Phase) (call : Store) (r : Reply) →
    duty_of cfg k s p ≡ Some call → ReadFits R call r → PhaseFits R cfg.job cfg.reduces s.winners p →
    PhaseFits R cfg.job cfg.reduces (if is_read call then winners_of (records_of r) cfg.job cfg.reduces else s.winners) (phase_told k s p call r)
unfolding phase_told duty_of
phase-fits cfg k R s (Opening i) call r d f o = by (is_read call) refl
  where
    by : (b : Bool) → is_read call ≡ b → PhaseFits R cfg.job cfg.reduces (if b then winners_of (records_of r) cfg.job cfg.reduces else s.winners) (if b then was_read r else looked i r)
    by false e = looked-fits R cfg.job cfg.reduces i s.winners r
    by true e = read (f e)
      where
        read : (records_of r ≡ R) ⊎ (was_read r ≡ Stopped) → PhaseFits R cfg.job cfg.reduces (winners_of (records_of r) cfg.job cfg.reduces) (was_read r)
        read (inl q) = was_read-fits R cfg.job cfg.reduces _ r (ap (λ x. winners_of x cfg.job cfg.reduces) q)
        read (inr q) = rw q tt
phase-fits cfg k R s Setting_up call r d f o = rw (ap is_read_option (sym d)) (if_cases (PhaseFits R cfg.job cfg.reduces s.winners) (is_fine r) _ _ (λ t. recover_rest-fits R cfg.job cfg.reduces k s.winners s.winners o (subst (Each (Wins R)) (sym o) (winners-win R cfg.job cfg.reduces))) (λ t. tt))
phase-fits cfg k R s (Recovering todo at) call r d f o = rw (ap is_read_option (sym d) ∙ recover-no_read k todo at) (recovering-fits R cfg.job cfg.reduces k s.winners todo at r o.0 o.1)
phase-fits cfg k R s Running call r d f o = rw (ap is_read_option (sym d) ∙ bar-no_read (first_bar s s.bars) _ (record-no_read s.due s.tail _ (if_cases (λ x. is_read_option x ≡ false) (all_won s.recorded s.winners cfg.job cfg.reduces) _ _ (λ t. refl) (λ t. refl)))) (running-fits R cfg.job cfg.reduces s.winners s.tail call r o)
phase-fits cfg k R s (Failing b) call r d f o = failing-fits R cfg.job cfg.reduces b _ s.tail call r
phase-fits cfg k R s (Committing at) call r d f o = committing-fits R cfg.job cfg.reduces k _ at r
phase-fits cfg k R s (Finished b) call r d f o = tt
phase-fits cfg k R s Stopped call r d f o = tt

phased-fits : (R : List Record) (j : JobId) (n : ℕ) (s : Seen) (p : Phase) → PhaseFits R j n s.winners p → Fits R j n (with_phase p s)
phased-fits R j n s p o = if_cases (Fits R j n) (is_running p && not (is_running s.phase)) _ _ (λ t. o) (λ t. o)

worked-winners : (s : Seen) (call : Store) → (worked s call).winners ≡ s.winners
worked-winners s (Append_record x) = refl
worked-winners s Flush = refl
worked-winners s (Names op) = bar-by (λ (x : Seen). x.winners ≡ s.winners) s (bar_of op) (λ a t ks. refl) refl
worked-winners s Read_history = refl

read-winners : (cfg : Config) (s : Seen) (call : Store) (r : Reply) → (with_read cfg s call r).winners ≡ (if is_read call then winners_of (records_of r) cfg.job cfg.reduces else s.winners)
read-winners cfg s call r = by (is_read call)
  where
    by : (b : Bool) → (if b then record s { history = records_of r; winners = winners_of (records_of r) cfg.job cfg.reduces } else s).winners ≡ (if b then winners_of (records_of r) cfg.job cfg.reduces else s.winners)
    by true = refl
    by false = refl

pub told-fits : (cfg : Config) (k : ℕ) (R : List Record) (s : Seen) (call : Store) (r : Reply) →
    duty_of cfg k s s.phase ≡ Some call → ReadFits R call r → Fits R cfg.job cfg.reduces s → Fits R cfg.job cfg.reduces (told cfg k s call r)
unfolding told
told-fits cfg k R s call r d f o =
    phased-fits R cfg.job cfg.reduces (with_read cfg (if is_fine r then worked s call else s) call r) (phase_told k s s.phase call r) (rw (read-winners cfg (if is_fine r then worked s call else s) call r, same) (phase-fits cfg k R s s.phase call r d f o))
  where
    same : (if is_fine r then worked s call else s).winners ≡ s.winners
    same = if_cases (λ (x : Seen). x.winners ≡ s.winners) (is_fine r) _ _ (λ t. worked-winners s call) (λ t. refl)
