-- Masters: a record of failure makes a phase that runs nothing, what was read has none, and a merge stays in the destination.
use Rattle.std.proofs.Common.{ℕ, ◌≤◌, ◌<◌, ◌≡◌, refl, sym, ◌∙◌, ap, subst, Bool, true, false, ◌&&◌, not, List, [], ◌∷◌, ◌++◌, Option, Some, None, if◌then◌else◌, is_some, nat_eq, nat_lt, nat_le, ◌⊎◌, inl, inr}
use Rattle.std.proofs.lemmas.Bool.{false≢true}
use Rattle.mr_world_model.specs.Ids.{Attempt, ContainerId, Path, job_attempt, is_reduce, dest_name}
use Rattle.mr_world_model.specs.Records.{Record, JobUnsuccessful, AttemptFailed, AttemptStarted, ReduceSucceeded, MapSucceeded, records_below}
use Rattle.mr_world_model.specs.Packets.{Config, Packet, Store, Reply, Names, Append_record, Flush, Read_history, Found, Bytes, Records, Entries, Refused}
use Rattle.mr_world_model.specs.Content.{Superseded, Listed, bar_of}
use Rattle.mr_world_model.proofs.Closed.{expired-by, bar-by}
use Rattle.mr_world_model.proofs.Masters.{expires-phase}
use Rattle.mr_world_model.specs.Hearing.{Seen, Phase, Opening, Setting_up, Recovering, Running, Committing, Failing, Finished, Stopped, Commit_step, List_job, Merging, Cleaning, Marking, Succeeding, Failing_mark, Aborting, Merge_step, Look_at, List_into, Delete_then, Move_to, Recover_step, Measure, Look_below, Clear_own, Move_from, Launched, Todo_winner, is_running, heard, only_known, after_end, after_ended, end_there, ended_by, over_with, has, find_launched, may_accept, is_live, is_won, failures, success_record, find_container, can_hear}
use Rattle.mr_world_model.specs.Duties.{right_length, Master_step, Came, Launches, Expires, Asks, seen, next_seen, told, worked, with_read, is_fine, is_cleared, is_superseded, is_read, phase_told, was_read, looked, is_unsuccessful, recover_rest, recovering, failing, at_work, after_flush, committing, merging, merge_next, tops, inners, refused, rest_of, records_of, is_temporary, is_dir_kind}
use Rattle.mr_world_model.specs.World.{World, Event, Master_act, master_act, seen_by, opening_world}
use Rattle.mr_world_model.specs.Effect.{effect, not_now}
use Rattle.mr_world_model.specs.Claims.{In}
use Rattle.mr_world_model.proofs.Basic.{if_cases}
use Rattle.mr_world_model.proofs.Lists.{In-parts, Each, Each-append}
use Rattle.mr_world_model.proofs.Allowed.{Allowed, permits, seen_after, first-due}
use Rattle.mr_world_model.proofs.Told.{is_allowed, Honest, StoredOrDue, written-unsuccessful, Stores, stores_after, below_same, new_seen, old_or_new}
use Rattle.mr_world_model.proofs.Masters.{came-phase, told-phase, launches-phase}
use Rattle.mr_world_model.proofs.Sound.{IsFirstDue}
use Rattle.mr_world_model.proofs.Phases.{ReadFits}
use Rattle.mr_world_model.proofs.Allowed.{read-replies}

abbrev pub is_bad : Phase → Bool
is_bad (Failing f) = true
is_bad (Finished b) = true
is_bad Stopped = true
is_bad _ = false

-- a record of failure is due or in the tail only where the phase says so
abbrev pub BadIf : Seen → Type 0
BadIf s = In JobUnsuccessful s.due ⊎ In JobUnsuccessful s.tail → is_bad s.phase ≡ true

due-more : (s : Seen) (due rs : List Record) → In JobUnsuccessful (due ++ rs) → (In JobUnsuccessful rs → ⊥) → In JobUnsuccessful due
due-more s due rs i n = by (In-parts _ due rs i)
  where
    by : In JobUnsuccessful due ⊎ In JobUnsuccessful rs → In JobUnsuccessful due
    by (inl j) = j
    by (inr j) = absurd (n j)

more-bad : (s : Seen) (rs : List Record) → (In JobUnsuccessful rs → ⊥) → BadIf s → In JobUnsuccessful (s.due ++ rs) ⊎ In JobUnsuccessful s.tail → is_bad s.phase ≡ true
more-bad s rs n o (inl i) = o (inl (due-more s s.due rs i n))
more-bad s rs n o (inr i) = o (inr i)

ended_by-bad : (cfg : Config) (s : Seen) (b : Attempt) (f : Bool) → BadIf s → BadIf (ended_by cfg s b f)
ended_by-bad cfg s b false o = o
ended_by-bad cfg s b true o = if_cases BadIf (nat_le cfg.limit (failures (over_with s b true) b) && not (is_won s (is_reduce b) b.task)) _ _ (λ t i. refl) (λ t. more-bad s _ no o)
  where
    no : In JobUnsuccessful (AttemptFailed b ∷ []) → ⊥
    no (inl e) = cc
    no (inr i) = i

after_end-bad : (cfg : Config) (s : Seen) (b : Attempt) (f : Bool) → BadIf s → BadIf (after_end cfg s b f)
after_end-bad cfg s b f o = if_cases BadIf (is_live s b) _ _ (λ e. ended_by-bad cfg s b f o) (λ e. o)

after_ended-bad : (cfg : Config) (s : Seen) (d : ContainerId) (l : Option Launched) → BadIf s → BadIf (after_ended cfg s d l)
after_ended-bad cfg s d None o = o
after_ended-bad cfg s d (Some l) o = after_end-bad cfg s _ _ o

end_there-bad : (n i : ℕ) (ls : List Launched) (s : Seen) → BadIf s → BadIf (end_there n i ls s)
end_there-bad n i [] s o = o
end_there-bad n i (l ∷ ls) s o = if_cases BadIf (nat_eq l.node n && (nat_lt l.incarnation i && is_live s l.attempt)) _ _ (λ t. end_there-bad n i ls _ o) (λ t. end_there-bad n i ls s o)

success-not : (a : Attempt) (y : Option ℕ) (l : Option Launched) → In JobUnsuccessful (success_record a y l ∷ []) → ⊥
success-not a y None (inl e) = cc
success-not a y (Some l) (inl e) = by (is_reduce a) e
  where
    by : (b : Bool) → (if b then ReduceSucceeded a y else MapSucceeded a l.node l.incarnation) ≡ JobUnsuccessful → ⊥
    by true e = cc
    by false e = cc
success-not a y l (inr i) = i

heard-bad : (cfg : Config) (s : Seen) (p : Packet) → BadIf s → BadIf (heard cfg s p)
unfolding heard
heard-bad cfg s (Packet.Pending b) o = if_cases BadIf (is_some (find_launched s.launched b) && not (has s.asked b)) _ _ (λ t. o) (λ t. o)
heard-bad cfg s (Packet.Poll b) o = if_cases BadIf (is_some (find_launched s.launched b) && not (has s.asked b)) _ _ (λ t. o) (λ t. o)
heard-bad cfg s (Packet.Done b z) o = if_cases BadIf (may_accept s b) _ _ (λ t. more-bad s _ (success-not b z (find_launched s.launched b)) o) (λ t. o)
heard-bad cfg s (Packet.Failed b) o = after_end-bad cfg s b true o
heard-bad cfg s (Packet.Ended d) o = after_ended-bad cfg s d _ o
heard-bad cfg s (Packet.NodeUp m i) o = if_cases BadIf (nat_lt (s.known m) i) _ _ (λ t. end_there-bad m i s.launched _ o) (λ t. o)
heard-bad cfg s (Packet.FetchLost d b) o = if_cases BadIf (is_some (find_container s.launched d) && has s.recorded b) _ _ (λ t. o) (λ t. o)
heard-bad cfg s (Packet.Where d m) o = o
heard-bad cfg s _ o = o

known-bad : (s : Seen) (p : Packet) → BadIf s → BadIf (only_known s p)
known-bad s (Packet.NodeUp m i) o = if_cases BadIf (can_hear s.phase && nat_lt (s.known m) i) _ _ (λ t. o) (λ t. o)
known-bad s _ o = o

at_work-bad : (p : Phase) (tail : List Record) (call : Store) (r : Reply) → is_bad p ≡ true → is_bad (after_flush p tail) ≡ true → is_bad (at_work p tail call r) ≡ true
at_work-bad p tail (Append_record x) r e f = if_cases (λ q. is_bad q ≡ true) (is_fine r) _ _ (λ t. e) (λ t. refl)
at_work-bad p tail Flush r e f = if_cases (λ q. is_bad q ≡ true) (is_fine r) _ _ (λ t. f) (λ t. refl)
at_work-bad p tail (Names op) r e f = refl
at_work-bad p tail Read_history r e f = refl

pub failing-bad : (f : Bool) (tail : List Record) (call : Store) (r : Reply) → is_bad (failing f tail call r) ≡ true
failing-bad f tail (Names op) r = if_cases (λ q. is_bad q ≡ true) (is_cleared r) _ _ (λ t. refl) (λ t. refl)
failing-bad f tail (Append_record x) r = at_work-bad (Failing f) tail (Append_record x) r refl refl
failing-bad f tail Flush r = at_work-bad (Failing f) tail Flush r refl refl
failing-bad f tail Read_history r = refl

phase-bad : (k : ℕ) (s : Seen) (p : Phase) (call : Store) (r : Reply) → is_bad p ≡ true → is_bad (phase_told k s p call r) ≡ true
unfolding phase_told
phase-bad k s (Failing f) call r e = failing-bad f s.tail call r
phase-bad k s (Finished b) call r e = refl
phase-bad k s Stopped call r e = refl
phase-bad k s p call r e = absurd (false≢true e)

rest-In : (rs : List Record) (x : Record) → In x (rest_of rs) → In x rs
rest-In [] x i = i
rest-In (r ∷ rs) x i = inr i

worked-bad : (s : Seen) (call : Store) → IsFirstDue s call → BadIf s → BadIf (worked s call)
worked-bad s (Append_record x) d o (inl i) = o (inl (rest-In s.due _ i))
worked-bad s (Append_record x) d o (inr i) = by (In-parts _ s.tail _ i)
  where
    by : In JobUnsuccessful s.tail ⊎ In JobUnsuccessful (x ∷ []) → is_bad s.phase ≡ true
    by (inl j) = o (inr j)
    by (inr (inl e)) = o (inl (subst (λ z. In z s.due) e d))
    by (inr (inr j)) = absurd j
worked-bad s Flush d o (inl i) = o (inl i)
worked-bad s Flush d o (inr i) = absurd i
worked-bad s (Names op) d o i = bar-by BadIf s (bar_of op) (λ a t ks. o) o i
worked-bad s Read_history d o i = o i

told-bad : (cfg : Config) (k : ℕ) (s : Seen) (call : Store) (r : Reply) → IsFirstDue s call → BadIf s → BadIf (told cfg k s call r)
unfolding told
told-bad cfg k s call r d o = if_cases BadIf (is_running (phase_told k s s.phase call r) && not (is_running (with_read cfg (if is_fine r then worked s call else s) call r).phase)) _ _ (λ t i. phase-bad k s s.phase call r (read i)) (λ t i. phase-bad k s s.phase call r (read i))
  where
    Due : Seen → Type 0
    Due x = In JobUnsuccessful x.due ⊎ In JobUnsuccessful x.tail → is_bad s.phase ≡ true

    works : (call : Store) → IsFirstDue s call → Due (worked s call)
    works (Append_record x) d = worked-bad s (Append_record x) d o
    works Flush d = worked-bad s Flush d o
    works (Names op) d = bar-by Due s (bar_of op) (λ a t ks. o) o
    works Read_history d = o

    fine : Due (if is_fine r then worked s call else s)
    fine = if_cases Due (is_fine r) _ _ (λ t. works call d) (λ t. o)

    read : Due (with_read cfg (if is_fine r then worked s call else s) call r)
    read = if_cases Due (is_read call) _ _ (λ t. fine) (λ t. fine)

next-bad : (cfg : Config) (w : World) (k : ℕ) (x : Master_step) → Allowed cfg w k x → BadIf (seen_by cfg w k) → BadIf (next_seen cfg k (seen_by cfg w k) x)
unfolding next_seen
next-bad cfg w k (Came p) a o = if_cases BadIf (is_running (seen_by cfg w k).phase) _ _ (λ t. heard-bad cfg (seen_by cfg w k) p o) (λ t. known-bad (seen_by cfg w k) p o)
next-bad cfg w k (Launches l) a o = more-bad (seen_by cfg w k) _ no o
  where
    no : In JobUnsuccessful (AttemptStarted l.attempt l.node ∷ []) → ⊥
    no (inl e) = cc
    no (inr i) = i
next-bad cfg w k (Expires n) a o = expired-by BadIf (λ u b t v. v) n (seen_by cfg w k) (λ st ks bs. o)
next-bad cfg w k (Asks call r) a o = told-bad cfg k (seen_by cfg w k) call r (first-due cfg k (seen_by cfg w k) call a.0) o

pub running-not-bad : {P : Type 0} (p : Phase) → is_running p ≡ true → is_bad p ≡ true → P
running-not-bad Running e f = absurd (false≢true f)
running-not-bad p e f = absurd (false≢true e)

-- a bad phase stays bad
bad-stays : (cfg : Config) (k : ℕ) (s : Seen) (x : Master_step) → is_bad s.phase ≡ true → is_bad (next_seen cfg k s x).phase ≡ true
bad-stays cfg k s (Came p) b = by (came-phase cfg k s p)
  where
    by : ((next_seen cfg k s (Came p)).phase ≡ s.phase) ⊎ ((is_running s.phase ≡ true) × ((next_seen cfg k s (Came p)).phase ≡ Failing false)) → is_bad (next_seen cfg k s (Came p)).phase ≡ true
    by (inl q) = subst (λ z. is_bad z ≡ true) (sym q) b
    by (inr q) = subst (λ z. is_bad z ≡ true) (sym q.1) refl
bad-stays cfg k s (Launches l) b = subst (λ z. is_bad z ≡ true) (sym (launches-phase cfg k s l)) b
bad-stays cfg k s (Expires n) b = subst (λ z. is_bad z ≡ true) (sym (expires-phase cfg k s n)) b
bad-stays cfg k s (Asks call r) b = subst (λ z. is_bad z ≡ true) (sym (told-phase cfg k s call r)) (phase-bad k s s.phase call r b)

-- What was read has no record of failure

abbrev pub Clean : Bool → Phase → Type 0
Clean b Setting_up = b ≡ false
Clean b (Recovering ws at) = b ≡ false
Clean b Running = b ≡ false
Clean b (Committing at) = b ≡ false
Clean b (Opening n) = Unit {0}
Clean b (Failing f) = Unit {0}
Clean b (Finished f) = Unit {0}
Clean b Stopped = Unit {0}

clean-any : (b : Bool) (p : Phase) → b ≡ false → Clean b p
clean-any b (Opening n) e = tt
clean-any b (Failing f) e = tt
clean-any b (Finished f) e = tt
clean-any b Stopped e = tt
clean-any b Setting_up e = e
clean-any b (Recovering ws at) e = e
clean-any b Running e = e
clean-any b (Committing at) e = e

bad-clean : (b : Bool) (p : Phase) → is_bad p ≡ true → Clean b p
bad-clean b (Failing f) e = tt
bad-clean b (Finished f) e = tt
bad-clean b Stopped e = tt
bad-clean b p e = absurd (false≢true e)

opening-clean : (R : List Record) (n : ℕ) (call : Store) (r : Reply) → ReadFits R call r → Clean (is_unsuccessful R) (if is_read call then was_read r else looked n r)
opening-clean R n call r f = by (is_read call) refl
  where
    look : (r : Reply) → Clean (is_unsuccessful R) (looked n r)
    look (Found (Some k)) = tt
    look (Found None) = tt
    look _ = tt

    read : (r : Reply) → records_of r ≡ R → Clean (is_unsuccessful R) (was_read r)
    read (Records rs) q = if_by (is_unsuccessful rs) refl
      where
        if_by : (b : Bool) → is_unsuccessful rs ≡ b → Clean (is_unsuccessful R) (if b then Failing true else Setting_up)
        if_by true u = tt
        if_by false u = sym (ap is_unsuccessful q) ∙ u
    read _ q = tt

    by : (b : Bool) → is_read call ≡ b → Clean (is_unsuccessful R) (if b then was_read r else looked n r)
    by false e = look r
    by true e = two (f e)
      where
        two : (records_of r ≡ R) ⊎ (was_read r ≡ Stopped) → Clean (is_unsuccessful R) (was_read r)
        two (inl q) = read r q
        two (inr q) = subst (Clean (is_unsuccessful R)) (sym q) tt

told-clean : (R : List Record) (k : ℕ) (s : Seen) (p : Phase) (call : Store) (r : Reply) → ReadFits R call r → Clean (is_unsuccessful R) p → Clean (is_unsuccessful R) (phase_told k s p call r)
unfolding phase_told
told-clean R k s (Opening n) call r f o = opening-clean R n call r f
told-clean R k s Setting_up call r f o = clean-any _ _ o
told-clean R k s (Recovering ws at) call r f o = clean-any _ _ o
told-clean R k s Running call r f o = clean-any _ _ o
told-clean R k s (Committing at) call r f o = clean-any _ _ o
told-clean R k s (Failing g) call r f o = bad-clean _ _ (failing-bad g s.tail call r)
told-clean R k s (Finished b) call r f o = tt
told-clean R k s Stopped call r f o = tt

next-clean : (cfg : Config) (w : World) (k : ℕ) (x : Master_step) → Allowed cfg w k x → Clean (is_unsuccessful (records_below w.history k)) (seen_by cfg w k).phase → Clean (is_unsuccessful (records_below w.history k)) (next_seen cfg k (seen_by cfg w k) x).phase
next-clean cfg w k (Came p) a o = by (came-phase cfg k (seen_by cfg w k) p)
  where
    by : ((next_seen cfg k (seen_by cfg w k) (Came p)).phase ≡ (seen_by cfg w k).phase) ⊎ ((is_running (seen_by cfg w k).phase ≡ true) × ((next_seen cfg k (seen_by cfg w k) (Came p)).phase ≡ Failing false)) → Clean (is_unsuccessful (records_below w.history k)) (next_seen cfg k (seen_by cfg w k) (Came p)).phase
    by (inl q) = subst (Clean (is_unsuccessful (records_below w.history k))) (sym q) o
    by (inr q) = subst (Clean (is_unsuccessful (records_below w.history k))) (sym q.1) tt
next-clean cfg w k (Launches l) a o = subst (Clean (is_unsuccessful (records_below w.history k))) (sym (launches-phase cfg k (seen_by cfg w k) l)) o
next-clean cfg w k (Expires n) a o = subst (Clean (is_unsuccessful (records_below w.history k))) (sym (expires-phase cfg k (seen_by cfg w k) n)) o
next-clean cfg w k (Asks call r) a o = subst (Clean (is_unsuccessful (records_below w.history k))) (sym (told-phase cfg k (seen_by cfg w k) call r)) (told-clean _ k (seen_by cfg w k) (seen_by cfg w k).phase call r (read-replies w k a.1 call r a.2) o)

-- A merge stays in the destination

abbrev pub Ours : Path → Type 0
Ours p = (r : Path) × (p ≡ dest_name ∷ r)

abbrev pub OurStep : Merge_step → Type 0
OurStep (Look_at f t d) = Ours f × Ours t
OurStep (List_into f t) = Ours f × Ours t
OurStep (Delete_then f t) = Ours f × Ours t
OurStep (Move_to f t) = Ours f × Ours t

abbrev pub OurCommit : Commit_step → Type 0
OurCommit (Merging ms) = Each OurStep ms
OurCommit _ = Unit {0}

abbrev pub OurMerge : Phase → Type 0
OurMerge (Committing at) = OurCommit at
OurMerge _ = Unit {0}

ours-more : (p q : Path) → Ours p → Ours (p ++ q)
ours-more p q o = (o.0 ++ q, ap (λ z. z ++ q) o.1)

tops-ours : (k : ℕ) (es : List Listed) → Each OurStep (tops (job_attempt k) es)
tops-ours k [] = tt
tops-ours k (e ∷ es) = if_cases (Each OurStep) (is_temporary e.name) _ _ (λ t. tops-ours k es) (λ t. (((_, refl), ([], refl)), tops-ours k es))

inners-ours : (f t : Path) (es : List Listed) → Ours f → Ours t → Each OurStep (inners f t es)
inners-ours f t [] a b = tt
inners-ours f t (e ∷ es) a b = ((ours-more f (e.name ∷ []) a, ours-more t (e.name ∷ []) b), inners-ours f t es a b)

next-ours : (ms : List Merge_step) → Each OurStep ms → OurMerge (Committing (merge_next ms))
next-ours [] o = tt
next-ours (m ∷ ms) o = o

refused-ours : (r : Reply) → OurMerge (refused r)
refused-ours (Refused (Superseded f)) = tt
refused-ours _ = tt

merging-ours : (ms : List Merge_step) (r : Reply) (ok : Commit_step) → Each OurStep ms → OurMerge (merging ms r ok)
merging-ours [] r ok o = refused-ours r
merging-ours (Look_at f t d ∷ ms) (Found None) ok o = (o.0, o.1)
merging-ours (Look_at f t d ∷ ms) (Found (Some k)) ok o = by (d && is_dir_kind k)
  where
    by : (b : Bool) → Each OurStep ((if b then List_into f t else Delete_then f t) ∷ ms)
    by true = (o.0, o.1)
    by false = (o.0, o.1)
merging-ours (Look_at f t d ∷ ms) (Refused (Superseded g)) ok o = tt
merging-ours (Look_at f t d ∷ ms) _ ok o = tt
merging-ours (List_into f t ∷ ms) (Entries es) ok o = next-ours _ (Each-append OurStep (inners f t es) ms (inners-ours f t es o.0.0 o.0.1) o.1)
merging-ours (List_into f t ∷ ms) (Refused (Superseded g)) ok o = tt
merging-ours (List_into f t ∷ ms) _ ok o = tt
merging-ours (Delete_then f t ∷ ms) r ok o = if_cases OurMerge (is_fine r) _ _ (λ u. (o.0, o.1)) (λ u. refused-ours r)
merging-ours (Move_to f t ∷ ms) r ok o = if_cases OurMerge (is_fine r) _ _ (λ u. next-ours ms o.1) (λ u. refused-ours r)

committing-ours : (k : ℕ) (at : Commit_step) (r : Reply) → OurCommit at → OurMerge (committing k at r)
committing-ours k List_job (Entries es) o = next-ours _ (tops-ours k es)
committing-ours k List_job (Refused (Superseded g)) o = tt
committing-ours k List_job _ o = tt
committing-ours k (Merging ms) r o = merging-ours ms r _ o
committing-ours k Cleaning r o = if_cases OurMerge (is_cleared r) _ _ (λ t. tt) (λ t. refused-ours r)
committing-ours k Marking r o = if_cases OurMerge (is_fine r) _ _ (λ t. tt) (λ t. refused-ours r)
committing-ours k Succeeding r o = if_cases OurMerge (is_fine r) _ _ (λ t. tt) (λ t. tt)
committing-ours k Failing_mark r o = if_cases OurMerge (is_fine r) _ _ (λ t. tt) (λ t. tt)
committing-ours k Aborting r o = if_cases OurMerge (is_superseded r) _ _ (λ t. tt) (λ t. tt)

bad-ours : (p : Phase) → is_bad p ≡ true → OurMerge p
bad-ours (Failing f) e = tt
bad-ours (Finished f) e = tt
bad-ours Stopped e = tt
bad-ours p e = absurd (false≢true e)

rest-ours : (k : ℕ) (ws : List Todo_winner) → OurMerge (recover_rest k ws)
rest-ours k [] = tt
rest-ours k (w ∷ ws) = if_cases OurMerge (nat_le k 1) _ _ (λ t. tt) (λ t. tt)

recovering-ours : (k : ℕ) (ws : List Todo_winner) (at : Recover_step) (r : Reply) → OurMerge (recovering k ws at r)
recovering-ours k ws (Look_below j) (Found (Some kind)) = tt
recovering-ours k ws (Look_below j) (Found None) = if_cases OurMerge (nat_le j 1) _ _ (λ t. tt) (λ t. tt)
recovering-ours k ws (Look_below j) _ = tt
recovering-ours k ws (Measure j) (Bytes bs) = if_cases OurMerge (right_length ws bs) _ _ (λ t. tt) (λ t. tt)
recovering-ours k ws (Measure j) _ = tt
recovering-ours k ws (Clear_own j) r = if_cases OurMerge (is_cleared r) _ _ (λ t. tt) (λ t. tt)
recovering-ours k [] (Move_from j) r = tt
recovering-ours k (w ∷ ws) (Move_from j) r = if_cases OurMerge (is_fine r) _ _ (λ t. rest-ours k ws) (λ t. tt)

told-ours : (k : ℕ) (s : Seen) (p : Phase) (call : Store) (r : Reply) → OurMerge p → OurMerge (phase_told k s p call r)
unfolding phase_told
told-ours k s (Opening n) call r o = if_cases OurMerge (is_read call) _ _ (λ t. read r) (λ t. look r)
  where
    look : (r : Reply) → OurMerge (looked n r)
    look (Found (Some k)) = tt
    look (Found None) = tt
    look _ = tt

    read : (r : Reply) → OurMerge (was_read r)
    read (Records rs) = if_cases OurMerge (is_unsuccessful rs) _ _ (λ t. tt) (λ t. tt)
    read _ = tt
told-ours k s Setting_up call r o = if_cases OurMerge (is_fine r) _ _ (λ t. rest-ours k s.winners) (λ t. tt)
told-ours k s (Recovering ws at) call r o = recovering-ours k ws at r
told-ours k s Running (Names op) r o = if_cases OurMerge (is_fine r) _ _ (λ t. if_cases OurMerge (is_some (bar_of op)) _ _ (λ b. tt) (λ b. tt)) (λ t. tt)
told-ours k s Running (Append_record x) r o = if_cases OurMerge (is_fine r) _ _ (λ t. tt) (λ t. tt)
told-ours k s Running Flush r o = if_cases OurMerge (is_fine r) _ _ (λ t. tt) (λ t. tt)
told-ours k s Running Read_history r o = tt
told-ours k s (Failing f) call r o = bad-ours _ (failing-bad f s.tail call r)
told-ours k s (Committing at) call r o = committing-ours k at r o
told-ours k s (Finished b) call r o = tt
told-ours k s Stopped call r o = tt

next-our : (cfg : Config) (k : ℕ) (s : Seen) (x : Master_step) → OurMerge s.phase → OurMerge (next_seen cfg k s x).phase
next-our cfg k s (Came p) o = by (came-phase cfg k s p)
  where
    by : ((next_seen cfg k s (Came p)).phase ≡ s.phase) ⊎ ((is_running s.phase ≡ true) × ((next_seen cfg k s (Came p)).phase ≡ Failing false)) → OurMerge (next_seen cfg k s (Came p)).phase
    by (inl q) = subst OurMerge (sym q) o
    by (inr q) = subst OurMerge (sym q.1) tt
next-our cfg k s (Launches l) o = subst OurMerge (sym (launches-phase cfg k s l)) o
next-our cfg k s (Expires n) o = subst OurMerge (sym (expires-phase cfg k s n)) o
next-our cfg k s (Asks call r) o = subst OurMerge (sym (told-phase cfg k s call r)) (told-ours k s s.phase call r o)

pub record Mild (cfg : Config) (w : World) : Type 0 where
  pub bad : (k : ℕ) → BadIf (seen_by cfg w k)
  pub stored : (k : ℕ) → Stores (w.history k) JobUnsuccessful → is_bad (seen_by cfg w k).phase ≡ true
  pub clean : (k : ℕ) → k ≤ w.fence → Clean (is_unsuccessful (records_below w.history k)) (seen_by cfg w k).phase
  pub ours : (k : ℕ) → OurMerge (seen_by cfg w k).phase

abbrev Allows : Config → World → Event → ℕ → Type 0
Allows cfg w e k = (a : Master_act) → master_act cfg w e ≡ Some a → a.who ≡ k → Allowed cfg w k a.step

pub mild : (cfg : Config) (w : World) (e : Event) → Honest cfg w → Mild cfg w → not_now cfg w e ≡ None → Mild cfg (effect cfg w e)
mild cfg w e h m n = record {
  bad = λ k. seen_after BadIf cfg w (master_act cfg w e) k (m.bad k) (λ a q u. next-bad cfg w k a.step (allowed a q k u) (m.bad k));
  stored = λ k i. kept k (from k (stores_after cfg w e n k JobUnsuccessful i));
  clean = λ k l. clean k (old_or_new cfg w e n k l);
  ours = λ k. seen_after (λ s. OurMerge s.phase) cfg w (master_act cfg w e) k (m.ours k) (λ a q u. next-our cfg k (seen_by cfg w k) a.step (m.ours k));
}
  where
    allowed : (a : Master_act) → master_act cfg w e ≡ Some a → (k : ℕ) → a.who ≡ k → Allowed cfg w k a.step
    allowed a q k u = subst (λ x. Allowed cfg w x a.step) u (is_allowed cfg w _ (permits cfg w e n) a q).1

    from : (k : ℕ) → StoredOrDue cfg w k JobUnsuccessful → is_bad (seen_by cfg w k).phase ≡ true
    from k (inl i) = m.stored k i
    from k (inr q) = m.bad k (inl (subst (λ x. In x (seen_by cfg w k).due) (written-unsuccessful q.3 q.1 q.4) (first-due cfg k (seen_by cfg w k) (Append_record q.1) q.2)))

    kept : (k : ℕ) → is_bad (seen_by cfg w k).phase ≡ true → is_bad (seen_by cfg (effect cfg w e) k).phase ≡ true
    kept k b = seen_after (λ s. is_bad s.phase ≡ true) cfg w (master_act cfg w e) k b (λ a q u. bad-stays cfg k (seen_by cfg w k) a.step b)

    clean : (k : ℕ) → (k ≤ w.fence) ⊎ (w.fence < k) → Clean (is_unsuccessful (records_below (effect cfg w e).history k)) (seen_by cfg (effect cfg w e) k).phase
    clean k (inl l) = subst (λ rs. Clean (is_unsuccessful rs) (seen_by cfg (effect cfg w e) k).phase) (sym (below_same cfg w e h.is_aged n k l))
        (seen_after (λ s. Clean (is_unsuccessful (records_below w.history k)) s.phase) cfg w (master_act cfg w e) k (m.clean k l) (λ a q u. next-clean cfg w k a.step (allowed a q k u) (m.clean k l)))
    clean k (inr l) = subst (λ (s : Seen). Clean (is_unsuccessful (records_below (effect cfg w e).history k)) s.phase) (sym (new_seen cfg w e h n k l)) tt

pub opening-mild : (cfg : Config) → Mild cfg opening_world
unfolding seen
opening-mild cfg = record { bad = bad; stored = λ k i. absurd i; clean = λ k l. tt; ours = λ k. tt }
  where
    bad : (k : ℕ) → ⊥ ⊎ ⊥ → false ≡ true
    bad k (inl i) = absurd i
    bad k (inr i) = absurd i
