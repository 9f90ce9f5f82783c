-- Of each success that a master accepted: its record is due, unflushed, or it is recorded. And the winners that it works with stay those that it read.
use Rattle.std.proofs.Common.{ℕ, zero, suc, ◌≡◌, refl, sym, ◌∙◌, ap, subst, Bool, true, false, ◌&&◌, not, List, [], ◌∷◌, ◌++◌, Option, Some, None, if◌then◌else◌, is_some, nat_eq, nat_lt, nat_le, ◌⊎◌, inl, inr}
use Rattle.std.proofs.lemmas.Bool.{and_parts, false≢true, true≢false, not-true}
use Rattle.mr_world_model.specs.Ids.{Attempt, ContainerId, JobId, is_reduce}
use Rattle.mr_world_model.specs.Content.{bar_of}
use Rattle.mr_world_model.specs.Records.{Record, ReduceSucceeded, records_below}
use Rattle.mr_world_model.specs.Packets.{Config, Packet, Store, Reply, Names, Append_record, Flush, Read_history, Found}
use Rattle.mr_world_model.specs.Hearing.{Seen, Phase, Opening, Setting_up, Recovering, Running, Committing, Failing, Finished, Stopped, Commit_step, List_job, Merging, Cleaning, Marking, Succeeding, Failing_mark, Aborting, Merge_step, Look_at, List_into, Delete_then, Move_to, Recover_step, Look_below, Measure, Clear_own, Move_from, Todo_winner, Launched, is_running, heard, only_known, after_end, after_ended, end_there, ended_by, over_with, has, find_launched, may_accept, is_live, is_won, failures, success_record, find_container, can_hear}
use Rattle.mr_world_model.specs.Duties.{Master_step, Came, Launches, Expires, Asks, next_seen, told, worked, with_read, is_fine, is_read, phase_told, records_of, was_read, looked, rest_of, newest_maps, attempts_of, success_of, successes, winners_of, all_won, duty_of, record_call, bar_call, first_bar, recover_call, merge_call, commit_call, mark_at, wants_flush, opening}
use Rattle.mr_world_model.specs.World.{World, seen_by}
use Rattle.mr_world_model.specs.Claims.{In}
use Rattle.mr_world_model.proofs.Basic.{if_cases}
use Rattle.mr_world_model.proofs.Lists.{In-left, In-right}
use Rattle.mr_world_model.proofs.Closed.{expired-by, bar-by}
use Rattle.mr_world_model.proofs.Allowed.{Allowed, read-replies}
use Rattle.mr_world_model.proofs.Phases.{ReadFits}
use Rattle.mr_world_model.proofs.Told
use Rattle.mr_world_model.proofs.Masters.{known-phase, heard-phase, SameOrFails, told-phase, is_early, told-early}
use Rattle.mr_world_model.proofs.Follows.{Follows, follows}

-- What a duty is, by the phase and what is due

abbrev pub is_opening : Phase → Bool
is_opening (Opening n) = true
is_opening _ = false

abbrev pub Shape : Seen → Phase → Option Store → Type 0
Shape s p None = Unit {0}
Shape s p (Some (Append_record r)) = s.due ≡ r ∷ rest_of s.due
Shape s p (Some Read_history) = is_opening p ≡ true
Shape s p (Some Flush) = Unit {0}
Shape s p (Some (Names op)) = Unit {0}

shape-record : (s : Seen) (p : Phase) (due tail : List Record) (o : Option Store) → s.due ≡ due → Shape s p o → Shape s p (record_call due tail o)
shape-record s p (r ∷ due) tail o e d = rw e refl
shape-record s p [] tail o e d = if_cases (Shape s p) (wants_flush tail) _ _ (λ t. tt) (λ t. d)

shape-bar : (s : Seen) (p : Phase) (m : Option Attempt) (o : Option Store) → Shape s p o → Shape s p (bar_call m o)
shape-bar s p None o d = d
shape-bar s p (Some a) o d = tt

shape-recover : (s : Seen) (p : Phase) (k : ℕ) (ws : List Todo_winner) (at : Recover_step) → Shape s p (recover_call k ws at)
shape-recover s p k [] at = tt
shape-recover s p k (w ∷ ws) (Look_below j) = tt
shape-recover s p k (w ∷ ws) (Measure j) = tt
shape-recover s p k (w ∷ ws) (Clear_own j) = tt
shape-recover s p k (w ∷ ws) (Move_from j) = tt

shape-merge : (s : Seen) (p : Phase) (ms : List Merge_step) → Shape s p (merge_call ms)
shape-merge s p [] = tt
shape-merge s p (Look_at f t d ∷ ms) = tt
shape-merge s p (List_into f t ∷ ms) = tt
shape-merge s p (Delete_then f t ∷ ms) = tt
shape-merge s p (Move_to f t ∷ ms) = tt

shape-commit : (s : Seen) (p : Phase) (k : ℕ) (at : Commit_step) → Shape s p (commit_call k at)
shape-commit s p k List_job = tt
shape-commit s p k (Merging ms) = shape-merge s p ms
shape-commit s p k Cleaning = tt
shape-commit s p k Marking = tt
shape-commit s p k Succeeding = tt
shape-commit s p k Failing_mark = tt
shape-commit s p k Aborting = tt

shape-mark : (s : Seen) (m n : ℕ) → Shape s (Opening m) (Some (mark_at n))
shape-mark s m zero = tt
shape-mark s m (suc zero) = tt
shape-mark s m (suc (suc zero)) = tt
shape-mark s m (suc (suc (suc n))) = refl

shape-duty : (cfg : Config) (k : ℕ) (s : Seen) (p : Phase) → Shape s p (duty_of cfg k s p)
unfolding duty_of
shape-duty cfg k s (Opening n) = shape-mark s n n
shape-duty cfg k s Setting_up = tt
shape-duty cfg k s (Recovering ws at) = shape-recover s (Recovering ws at) k ws at
shape-duty cfg k s Running = shape-bar s Running (first_bar s s.bars) _ (shape-record s Running s.due s.tail _ refl (if_cases (Shape s Running) (all_won s.recorded s.winners cfg.job cfg.reduces) _ _ (λ t. tt) (λ t. tt)))
shape-duty cfg k s (Failing b) = shape-record s (Failing b) s.due s.tail _ refl (if_cases (Shape s (Failing b)) b _ _ (λ t. tt) (λ t. tt))
shape-duty cfg k s (Committing at) = shape-commit s (Committing at) k at
shape-duty cfg k s (Finished b) = tt
shape-duty cfg k s Stopped = tt

pub duty-shape : (cfg : Config) (k : ℕ) (s : Seen) (call : Store) → duty_of cfg k s s.phase ≡ Some call → Shape s s.phase (Some call)
duty-shape cfg k s call d = subst (Shape s s.phase) d (shape-duty cfg k s s.phase)

not-read : (s : Seen) (p : Phase) (call : Store) → Shape s p (Some call) → is_opening p ≡ false → is_read call ≡ false
not-read s p Read_history d e = absurd (true≢false (sym d ∙ e))
not-read s p (Names op) d e = refl
not-read s p (Append_record r) d e = refl
not-read s p Flush d e = refl

-- Accepted successes are accounted for

abbrev pub Where : List Record → List Record → List Attempt → Attempt → Type 0
Where due tail recorded a = ((z : Option ℕ) × In (ReduceSucceeded a z) due) ⊎ (((z : Option ℕ) × In (ReduceSucceeded a z) tail) ⊎ In a recorded)

abbrev pub Accounts : Seen → Type 0
Accounts s = (a : Attempt) → In a s.accepted → is_reduce a ≡ true → Where s.due s.tail s.recorded a

more-due : (due rs tail : List Record) (as' : List Attempt) (a : Attempt) → Where due tail as' a → Where (due ++ rs) tail as' a
more-due due rs tail as' a (inl i) = inl (i.0, In-left (ReduceSucceeded a i.0) due rs i.1)
more-due due rs tail as' a (inr i) = inr i

ended_by-accounts : (cfg : Config) (s : Seen) (b : Attempt) (f : Bool) → Accounts s → Accounts (ended_by cfg s b f)
ended_by-accounts cfg s b false o = o
ended_by-accounts cfg s b true o = if_cases Accounts (nat_le cfg.limit (failures (over_with s b true) b) && not (is_won s (is_reduce b) b.task)) _ _
    (λ t a i d. more-due s.due _ s.tail s.recorded a (o a i d)) (λ t a i d. more-due s.due _ s.tail s.recorded a (o a i d))

after_end-accounts : (cfg : Config) (s : Seen) (b : Attempt) (f : Bool) → Accounts s → Accounts (after_end cfg s b f)
after_end-accounts cfg s b f o = if_cases Accounts (is_live s b) _ _ (λ e. ended_by-accounts cfg s b f o) (λ e. o)

after_ended-accounts : (cfg : Config) (s : Seen) (d : ContainerId) (l : Option Launched) → Accounts s → Accounts (after_ended cfg s d l)
after_ended-accounts cfg s d None o = o
after_ended-accounts cfg s d (Some l) o = after_end-accounts cfg s _ _ o

end_there-accounts : (n i : ℕ) (ls : List Launched) (s : Seen) → Accounts s → Accounts (end_there n i ls s)
end_there-accounts n i [] s o = o
end_there-accounts n i (l ∷ ls) s o = if_cases Accounts (nat_eq l.node n && (nat_lt l.incarnation i && is_live s l.attempt)) _ _ (λ t. end_there-accounts n i ls _ o) (λ t. end_there-accounts n i ls s o)

-- the success of a launched reduce becomes due
success-due : (b : Attempt) (z : Option ℕ) (o : Option Launched) → is_some o ≡ true → is_reduce b ≡ true → success_record b z o ≡ ReduceSucceeded b z
success-due b z None e d = absurd (false≢true e)
success-due b z (Some l) e d = rw d refl

done-accounts : (s : Seen) (b : Attempt) (z : Option ℕ) → may_accept s b ≡ true → Accounts s → (a : Attempt) → In a (b ∷ s.accepted) → is_reduce a ≡ true →
    Where (s.due ++ success_record b z (find_launched s.launched b) ∷ []) s.tail s.recorded a
done-accounts s b z m o a (inl e) d = inl (
  z,
  subst (λ x. In (ReduceSucceeded x z) (s.due ++ success_record b z (find_launched s.launched b) ∷ [])) e
      (In-right (ReduceSucceeded b z) s.due _ (inl (success-due b z (find_launched s.launched b) (and_parts _ _ m).0 (subst (λ x. is_reduce x ≡ true) (sym e) d)))),
)
done-accounts s b z m o a (inr i) d = more-due s.due _ s.tail s.recorded a (o a i d)

heard-accounts : (cfg : Config) (s : Seen) (p : Packet) → Accounts s → Accounts (heard cfg s p)
unfolding heard
heard-accounts cfg s (Packet.Pending b) o = if_cases Accounts (is_some (find_launched s.launched b) && not (has s.asked b)) _ _ (λ t. o) (λ t. o)
heard-accounts cfg s (Packet.Poll b) o = if_cases Accounts (is_some (find_launched s.launched b) && not (has s.asked b)) _ _ (λ t. o) (λ t. o)
heard-accounts cfg s (Packet.Done b z) o = if_cases Accounts (may_accept s b) _ _ (λ t. done-accounts s b z t o) (λ t. o)
heard-accounts cfg s (Packet.Failed b) o = after_end-accounts cfg s b true o
heard-accounts cfg s (Packet.Ended d) o = after_ended-accounts cfg s d _ o
heard-accounts cfg s (Packet.NodeUp m i) o = if_cases Accounts (nat_lt (s.known m) i) _ _ (λ t. end_there-accounts m i s.launched _ o) (λ t. o)
heard-accounts cfg s (Packet.FetchLost d b) o = if_cases Accounts (is_some (find_container s.launched d) && has s.recorded b) _ _ (λ t. o) (λ t. o)
heard-accounts cfg s (Packet.Where d m) o = o
heard-accounts cfg s _ o = o

known-accounts : (s : Seen) (p : Packet) → Accounts s → Accounts (only_known s p)
known-accounts s (Packet.NodeUp m i) o = if_cases Accounts (can_hear s.phase && nat_lt (s.known m) i) _ _ (λ t. o) (λ t. o)
known-accounts s _ o = o

successes-of : (rs : List Record) (a : Attempt) (z : Option ℕ) → In (ReduceSucceeded a z) rs → In a (successes rs)
successes-of [] a z i = absurd i
successes-of (r ∷ rs) a z (inl e) = In-left a (success_of r) (successes rs) (subst (λ x. In a (success_of x)) (sym e) (inl refl))
successes-of (r ∷ rs) a z (inr i) = In-right a (success_of r) (successes rs) (successes-of rs a z i)

worked-accounts : (s : Seen) (call : Store) → Shape s s.phase (Some call) → Accounts s → Accounts (worked s call)
worked-accounts s (Append_record r) h o = λ a i d. by a (o a i d)
  where
    moved : (a : Attempt) (z : Option ℕ) → In (ReduceSucceeded a z) (r ∷ rest_of s.due) → Where (rest_of s.due) (s.tail ++ r ∷ []) s.recorded a
    moved a z (inl e) = inr (inl (z, In-right (ReduceSucceeded a z) s.tail (r ∷ []) (inl e)))
    moved a z (inr i) = inl (z, i)

    by : (a : Attempt) → Where s.due s.tail s.recorded a → Where (rest_of s.due) (s.tail ++ r ∷ []) s.recorded a
    by a (inl i) = moved a i.0 (subst (λ x. In (ReduceSucceeded a i.0) x) h i.1)
    by a (inr (inl i)) = inr (inl (i.0, In-left (ReduceSucceeded a i.0) s.tail (r ∷ []) i.1))
    by a (inr (inr i)) = inr (inr i)
worked-accounts s Flush h o = λ a i d. by a (o a i d)
  where
    by : (a : Attempt) → Where s.due s.tail s.recorded a → Where s.due [] (successes s.tail ++ s.recorded) a
    by a (inl i) = inl i
    by a (inr (inl i)) = inr (inr (In-left a (successes s.tail) s.recorded (successes-of s.tail a i.0 i.1)))
    by a (inr (inr i)) = inr (inr (In-right a (successes s.tail) s.recorded i))
worked-accounts s (Names op) h o = bar-by Accounts s (bar_of op) (λ a t ks. o) o
worked-accounts s Read_history h o = o

-- neither call changes the phase or what was accepted
abbrev Same : Seen → Seen → Type 0
Same s u = (u.phase ≡ s.phase) × (u.accepted ≡ s.accepted)

worked-same : (s : Seen) (call : Store) → Same s (worked s call)
worked-same s (Append_record r) = (refl, refl)
worked-same s Flush = (refl, refl)
worked-same s (Names op) = bar-by (Same s) s (bar_of op) (λ a t ks. (refl, refl)) (refl, refl)
worked-same s Read_history = (refl, refl)

-- of what is seen after a call, before its phase is
abbrev half : Config → Seen → Store → Reply → Seen
half cfg s call r = with_read cfg (if is_fine r then worked s call else s) call r

half-same : (cfg : Config) (s : Seen) (call : Store) (r : Reply) → Same s (half cfg s call r)
half-same cfg s call r = if_cases (Same s) (is_read call) _ _ (λ t. fine) (λ t. fine)
  where
    fine : Same s (if is_fine r then worked s call else s)
    fine = if_cases (Same s) (is_fine r) _ _ (λ t. worked-same s call) (λ t. (refl, refl))

half-accounts : (cfg : Config) (s : Seen) (call : Store) (r : Reply) → Shape s s.phase (Some call) → Accounts s → Accounts (half cfg s call r)
half-accounts cfg s call r h o = if_cases Accounts (is_read call) _ _ (λ t. fine) (λ t. fine)
  where
    fine : Accounts (if is_fine r then worked s call else s)
    fine = if_cases Accounts (is_fine r) _ _ (λ t. worked-accounts s call h o) (λ t. o)

told-accounts : (cfg : Config) (k : ℕ) (s : Seen) (call : Store) (r : Reply) → Shape s s.phase (Some call) → Accounts s →
    (is_running (phase_told k s s.phase call r) ≡ true → is_running s.phase ≡ false → s.accepted ≡ []) → Accounts (told cfg k s call r)
unfolding told
told-accounts cfg k s call r h o f = if_cases Accounts (is_running (phase_told k s s.phase call r) && not (is_running (half cfg s call r).phase)) _ _
    (λ t a i d. absurd (subst (λ x. In a x) ((half-same cfg s call r).1 ∙ none t) i)) (λ t. half-accounts cfg s call r h o)
  where
    none : (is_running (phase_told k s s.phase call r) && not (is_running (half cfg s call r).phase)) ≡ true → s.accepted ≡ []
    none t = let p = and_parts _ _ t in f p.0 (sym (ap is_running (half-same cfg s call r).0) ∙ not-true _ p.1)

pub told-accepted : (cfg : Config) (k : ℕ) (s : Seen) (call : Store) (r : Reply) → (told cfg k s call r).accepted ≡ s.accepted
unfolding told
told-accepted cfg k s call r = if_cases (λ (x : Seen). x.accepted ≡ s.accepted) (is_running (phase_told k s s.phase call r) && not (is_running (half cfg s call r).phase)) _ _ (λ t. (half-same cfg s call r).1) (λ t. (half-same cfg s call r).1)

-- as it begins to run, what is recorded is what was read of the maps
pub told-fresh : (cfg : Config) (k : ℕ) (s : Seen) (call : Store) (r : Reply) → is_running (phase_told k s s.phase call r) ≡ true → is_running s.phase ≡ false →
    (told cfg k s call r).recorded ≡ attempts_of (newest_maps (told cfg k s call r).known (told cfg k s call r).history [])
unfolding told
told-fresh cfg k s call r p q = if_cases (λ (x : Seen). x.recorded ≡ attempts_of (newest_maps x.known x.history [])) (is_running (phase_told k s s.phase call r) && not (is_running (half cfg s call r).phase)) _ _
    (λ t. refl) (λ t. absurd (true≢false (sym both ∙ t)))
  where
    both : (is_running (phase_told k s s.phase call r) && not (is_running (half cfg s call r).phase)) ≡ true
    both = rw (p, ap is_running (half-same cfg s call r).0 ∙ q) refl

-- Running comes after what is before it
pub to-running : (k : ℕ) (ws : List Todo_winner) (call : Store) (r : Reply) (p q : Phase) → Follows k ws call r p q → is_running q ≡ true → is_running p ≡ false → is_early p ≡ true
to-running k ws call r p q Follows.runs_now e f = refl
to-running k ws call r p q (Follows.runs todo at) e f = refl
to-running k ws call r p q Follows.works e f = absurd (true≢false f)
to-running k ws call r p q (Follows.stops x) e f = absurd (false≢true e)
to-running k ws call r p q (Follows.looks_on n) e f = absurd (false≢true e)
to-running k ws call r p q (Follows.finds n b) e f = absurd (false≢true e)
to-running k ws call r p q (Follows.reads_failed n) e f = absurd (false≢true e)
to-running k ws call r p q (Follows.reads n a b) e f = absurd (false≢true e)
to-running k ws call r p q (Follows.recovers_first at) e f = absurd (false≢true e)
to-running k ws call r p q (Follows.recovers todo at next) e f = absurd (false≢true e)
to-running k ws call r p q (Follows.recovered x todo at next) e f = absurd (false≢true e)
to-running k ws call r p q Follows.commits e f = absurd (false≢true e)
to-running k ws call r p q (Follows.works_failing a b) e f = absurd (false≢true e)
to-running k ws call r p q (Follows.failed a) e f = absurd (false≢true e)
to-running k ws call r p q (Follows.goes_on at next o) e f = absurd (false≢true e)
to-running k ws call r p q (Follows.finished at b) e f = absurd (false≢true e)
to-running k ws call r p q (Follows.rests b) e f = absurd (false≢true e)

-- The winners that it works with

abbrev pub takes : Phase → Bool
takes Setting_up = true
takes (Recovering ws at) = true
takes Running = true
takes (Committing at) = true
takes (Failing f) = true
takes (Opening n) = false
takes (Finished b) = false
takes Stopped = false

worked-winners : (s : Seen) (call : Store) → (worked s call).winners ≡ s.winners
worked-winners s (Append_record x) = refl
worked-winners s Flush = refl
worked-winners s (Names op) = bar-by (λ (x : Seen). x.winners ≡ s.winners) s (bar_of op) (λ a t ks. refl) refl
worked-winners s Read_history = refl

told-winners : (cfg : Config) (k : ℕ) (s : Seen) (call : Store) (r : Reply) → (told cfg k s call r).winners ≡ (if is_read call then winners_of (records_of r) cfg.job cfg.reduces else s.winners)
unfolding told
told-winners cfg k s call r = if_cases (λ (x : Seen). x.winners ≡ (if is_read call then winners_of (records_of r) cfg.job cfg.reduces else s.winners)) (is_running (phase_told k s s.phase call r) && not (is_running (half cfg s call r).phase)) _ _ (λ t. at (is_read call)) (λ t. at (is_read call))
  where
    fine : (if is_fine r then worked s call else s).winners ≡ s.winners
    fine = if_cases (λ (x : Seen). x.winners ≡ s.winners) (is_fine r) _ _ (λ t. worked-winners s call) (λ t. refl)

    at : (b : Bool) → (if b then record (if is_fine r then worked s call else s) { history = records_of r; winners = winners_of (records_of r) cfg.job cfg.reduces } else (if is_fine r then worked s call else s)).winners ≡ (if b then winners_of (records_of r) cfg.job cfg.reduces else s.winners)
    at true = refl
    at false = fine

Wins : List Record → JobId → ℕ → Seen → Type 0
Wins R j n s = takes s.phase ≡ true → s.winners ≡ winners_of R j n

looked-takes : (n : ℕ) (r : Reply) → takes (looked n r) ≡ false
looked-takes n (Found (Some kind)) = refl
looked-takes n (Found None) = refl
looked-takes n _ = refl

-- after a call: what is taken was taken before, or was read just now
told-takes : (cfg : Config) (k : ℕ) (R : List Record) (s : Seen) (p : Phase) (call : Store) (r : Reply) → Shape s p (Some call) → ReadFits R call r → takes (phase_told k s p call r) ≡ true →
    (takes p ≡ true → s.winners ≡ winners_of R cfg.job cfg.reduces) → (if is_read call then winners_of (records_of r) cfg.job cfg.reduces else s.winners) ≡ winners_of R cfg.job cfg.reduces
unfolding phase_told
told-takes cfg k R s (Opening n) call r h f t o = by (is_read call) refl t
  where
    by : (b : Bool) → is_read call ≡ b → takes (if b then was_read r else looked n r) ≡ true → (if b then winners_of (records_of r) cfg.job cfg.reduces else s.winners) ≡ winners_of R cfg.job cfg.reduces
    by false e t = absurd (false≢true (sym (looked-takes n r) ∙ t))
    by true e t = read (f e)
      where
        read : (records_of r ≡ R) ⊎ (was_read r ≡ Stopped) → winners_of (records_of r) cfg.job cfg.reduces ≡ winners_of R cfg.job cfg.reduces
        read (inl q) = ap (λ x. winners_of x cfg.job cfg.reduces) q
        read (inr q) = absurd (false≢true (subst (λ x. takes x ≡ true) q t))
told-takes cfg k R s Setting_up call r h f t o = rw (not-read s Setting_up call h refl) (o refl)
told-takes cfg k R s (Recovering ws at) call r h f t o = rw (not-read s (Recovering ws at) call h refl) (o refl)
told-takes cfg k R s Running call r h f t o = rw (not-read s Running call h refl) (o refl)
told-takes cfg k R s (Committing at) call r h f t o = rw (not-read s (Committing at) call h refl) (o refl)
told-takes cfg k R s (Failing b) call r h f t o = rw (not-read s (Failing b) call h refl) (o refl)
told-takes cfg k R s (Finished b) call r h f t o = absurd (false≢true t)
told-takes cfg k R s Stopped call r h f t o = absurd (false≢true t)

-- What is kept

pub record Accounted (R : List Record) (j : JobId) (n : ℕ) (s : Seen) : Type 0 where
  pub early : is_early s.phase ≡ true → s.accepted ≡ []
  pub counts : Accounts s
  pub wins : takes s.phase ≡ true → s.winners ≡ winners_of R j n

pub opening-accounted : (R : List Record) (j : JobId) (n : ℕ) → Accounted R j n opening
opening-accounted R j n = record { early = λ e. refl; counts = λ a i. absurd i; wins = λ t. absurd (false≢true t) }

same-winners : (cfg : Config) (ws : List Todo_winner) → Told.Closed cfg (λ s. s.winners ≡ ws)
same-winners cfg ws = record { asks = λ s a o. o; ends = λ s a f o. o; fails = λ s a d p o. o; accepts = λ s a st d o. o; knows = λ s f ps o. o }

pub known-accepted : (s : Seen) (p : Packet) → (only_known s p).accepted ≡ s.accepted
known-accepted s (Packet.NodeUp m i) = if_cases (λ (x : Seen). x.accepted ≡ s.accepted) (can_hear s.phase && nat_lt (s.known m) i) _ _ (λ t. refl) (λ t. refl)
known-accepted s _ = refl

came-accounted : (cfg : Config) (k : ℕ) (R : List Record) (s : Seen) (p : Packet) → Accounted R cfg.job cfg.reduces s → Accounted R cfg.job cfg.reduces (next_seen cfg k s (Came p))
unfolding next_seen
came-accounted cfg k R s p o = if_cases (Accounted R cfg.job cfg.reduces) (is_running s.phase) _ _ hears knows
  where
    hears : is_running s.phase ≡ true → Accounted R cfg.job cfg.reduces (heard cfg s p)
    hears t = record {
      early = λ e. absurd (false≢true (sym (late (heard-phase cfg s p)) ∙ e));
      counts = heard-accounts cfg s p o.counts;
      wins = λ e. Told.heard-closed cfg (λ x. x.winners ≡ s.winners) (same-winners cfg s.winners) s p refl ∙ o.wins (running-takes s.phase t);
    }
      where
        running-takes : (q : Phase) → is_running q ≡ true → takes q ≡ true
        running-takes Running e = refl
        running-takes q e = absurd (false≢true e)

        running-not-early : (q : Phase) → is_running q ≡ true → is_early q ≡ false
        running-not-early Running e = refl
        running-not-early q e = absurd (false≢true e)

        late : SameOrFails s.phase (heard cfg s p).phase → is_early (heard cfg s p).phase ≡ false
        late (inl q) = subst (λ x. is_early x ≡ false) (sym q) (running-not-early s.phase t)
        late (inr q) = subst (λ x. is_early x ≡ false) (sym q) refl

    knows : is_running s.phase ≡ false → Accounted R cfg.job cfg.reduces (only_known s p)
    knows t = record {
      early = λ e. known-accepted s p ∙ o.early (subst (λ x. is_early x ≡ true) (known-phase s p) e);
      counts = known-accounts s p o.counts;
      wins = λ e. Told.known-closed cfg (λ x. x.winners ≡ s.winners) (same-winners cfg s.winners) s p refl ∙ o.wins (subst (λ x. takes x ≡ true) (known-phase s p) e);
    }

launches-accounted : (cfg : Config) (k : ℕ) (R : List Record) (s : Seen) (l : Launched) → Accounted R cfg.job cfg.reduces s → Accounted R cfg.job cfg.reduces (next_seen cfg k s (Launches l))
unfolding next_seen
launches-accounted cfg k R s l o = record { early = o.early; counts = λ a i d. more-due s.due _ s.tail s.recorded a (o.counts a i d); wins = o.wins }

expires-accounted : (cfg : Config) (k : ℕ) (R : List Record) (s : Seen) (n : ℕ) → Accounted R cfg.job cfg.reduces s → Accounted R cfg.job cfg.reduces (next_seen cfg k s (Expires n))
unfolding next_seen
expires-accounted cfg k R s n o = expired-by (Accounted R cfg.job cfg.reduces) (λ u a t v. record { early = v.early; counts = v.counts; wins = v.wins }) n s (λ st ks bs. record { early = o.early; counts = o.counts; wins = o.wins })

asks-accounted : (cfg : Config) (k : ℕ) (R : List Record) (s : Seen) (call : Store) (r : Reply) → duty_of cfg k s s.phase ≡ Some call → ReadFits R call r → Accounted R cfg.job cfg.reduces s → Accounted R cfg.job cfg.reduces (next_seen cfg k s (Asks call r))
unfolding next_seen
asks-accounted cfg k R s call r d f o = record {
  early = λ e. told-accepted cfg k s call r ∙ o.early (told-early k s s.phase call r (subst (λ x. is_early x ≡ true) (told-phase cfg k s call r) e));
  counts = told-accounts cfg k s call r (duty-shape cfg k s call d) o.counts (λ e g. o.early (to-running k s.winners call r s.phase (phase_told k s s.phase call r) (follows k s s.phase call r) e g));
  wins = λ e. told-winners cfg k s call r ∙ told-takes cfg k R s s.phase call r (duty-shape cfg k s call d) f (subst (λ x. takes x ≡ true) (told-phase cfg k s call r) e) o.wins;
}

pub next-accounted : (cfg : Config) (w : World) (k : ℕ) (x : Master_step) → Allowed cfg w k x → Accounted (records_below w.history k) cfg.job cfg.reduces (seen_by cfg w k) →
    Accounted (records_below w.history k) cfg.job cfg.reduces (next_seen cfg k (seen_by cfg w k) x)
next-accounted cfg w k (Came p) a o = came-accounted cfg k _ (seen_by cfg w k) p o
next-accounted cfg w k (Launches l) a o = launches-accounted cfg k _ (seen_by cfg w k) l o
next-accounted cfg w k (Expires n) a o = expires-accounted cfg k _ (seen_by cfg w k) n o
next-accounted cfg w k (Asks call r) a o = asks-accounted cfg k _ (seen_by cfg w k) call r a.0 (read-replies w k a.1 call r a.2) o
