-- What the newest master has recorded is stable, so that where it may start its commit every reduce has a winner whose whole file is there.
use Rattle.std.proofs.Common.{ℕ, zero, suc, ◌≡◌, refl, sym, ◌∙◌, ap, subst, Bool, true, false, ◌&&◌, ◌||◌, not, List, [], ◌∷◌, ◌++◌, Option, Some, None, if◌then◌else◌, is_some, nat_eq, nat_lt, nat_le, ◌⊎◌, inl, inr, arith}
use Rattle.std.proofs.lemmas.Bool.{and_parts, false≢true, true≢false, eqb-true, eqb-false}
use Rattle.mr_world_model.specs.Claims.{IsOf, IsReduce}
use Rattle.mr_world_model.specs.Ids.{Attempt, ContainerId, commit_started, TaskId, JobId, is_reduce, task_eq, reduce_of}
use Rattle.mr_world_model.proofs.Names.{task_eq-true}
use Rattle.mr_world_model.specs.Content.{Op, Create, bar_of}
use Rattle.mr_world_model.specs.Records.{Record, AttemptStarted, MapSucceeded, ReduceSucceeded, AttemptFailed, JobUnsuccessful, Segment, flushed, records_below, winner_in, as_written, bytes_kept}
use Rattle.mr_world_model.specs.Packets.{Config, Packet, Store, Reply, Names, Append_record, Flush, Read_history, Records}
use Rattle.mr_world_model.specs.Hearing.{Seen, Failing, Running, Launched, Placed, Todo_winner, is_running, heard, only_known, after_end, after_ended, end_there, ended_by, over_with, has, find_launched, may_accept, is_live, is_won, failures, Setting_up, Stopped, success_record, accepts_task, has_winner, find_container, can_hear}
use Rattle.mr_world_model.specs.Duties.{Master_step, Came, Launches, Expires, Asks, bar_call, first_bar, seen, next_seen, told, worked, with_read, is_fine, is_read, phase_told, records_of, was_read, is_unsuccessful, rest_of, newest_maps, without_task, attempts_of, successes, winners_of, all_won, duty_of, record_call, wants_flush}
use Rattle.mr_world_model.specs.World.{World, Event, Master_act, Weather, Calm, master_act, seen_by, duty, reply_of, reply_under, own_reply, is_applied, opening_world, call_of}
use Rattle.mr_world_model.specs.Effect.{effect, not_now}
use Rattle.mr_world_model.specs.Claims.{In, winner}
use Rattle.mr_world_model.proofs.Basic.{if_cases, or_parts, winner-append}
use Rattle.mr_world_model.proofs.Lists.{In-left, In-parts, Each, Each-append, Each-In, Each-by, winner_in-only, winner-none-append}
use Rattle.mr_world_model.proofs.Closed.{expired-by, bar-by}
use Rattle.mr_world_model.proofs.Grows.{grown}
use Rattle.mr_world_model.proofs.Sound.{IsFirstDue, one_accepted}
use Rattle.mr_world_model.proofs.Phases.{ReadFits, Wins, winners-win, PhaseFits}
use Rattle.mr_world_model.proofs.Allowed.{Allowed, permits, seen_after, first-due, read-replies}
use Rattle.mr_world_model.proofs.Told
use Rattle.mr_world_model.proofs.Told.{is_allowed, Honest, Stores, StoredOrDue, stores_after, fine-applied, called_at}
use Rattle.mr_world_model.proofs.Steps.{Case, still, hears, asks, calls, starts, case_of, newest, IsHeard}
use Rattle.mr_world_model.proofs.Dirs.{Known, R, HoldsAt, Dirs, AllHold, PhaseDirs}
use Rattle.mr_world_model.proofs.Fates.{accepted-holds}

-- A map's record names a map's attempt

abbrev pub OnlyMaps : Record → Type 0
OnlyMaps (MapSucceeded a n i) = (is_reduce a) ≡ false
OnlyMaps (AttemptStarted a n) = Unit {0}
OnlyMaps (ReduceSucceeded a z) = Unit {0}
OnlyMaps (AttemptFailed a) = Unit {0}
OnlyMaps JobUnsuccessful = Unit {0}

-- as it is written it names the same
written-maps : (v : ℕ) (x : Record) → OnlyMaps x → OnlyMaps (as_written v x)
written-maps v (MapSucceeded a n i) o = o
written-maps v (AttemptStarted a n) o = tt
written-maps v (ReduceSucceeded a z) o = tt
written-maps v (AttemptFailed a) o = tt
written-maps v JobUnsuccessful o = tt

pub record Noted (due tail history : List Record) : Type 0 where
  pub dues : Each OnlyMaps due
  pub tails : Each OnlyMaps tail
  pub reads : Each OnlyMaps history

abbrev pub NotedBy : Seen → Type 0
NotedBy s = Noted s.due s.tail s.history

more-noted : (s : Seen) (rs : List Record) → Each OnlyMaps rs → NotedBy s → Noted (s.due ++ rs) s.tail s.history
more-noted s rs e o = record { dues = Each-append OnlyMaps s.due rs o.dues e; tails = o.tails; reads = o.reads }

ended_by-noted : (cfg : Config) (s : Seen) (b : Attempt) (f : Bool) → NotedBy s → NotedBy (ended_by cfg s b f)
ended_by-noted cfg s b false o = o
ended_by-noted cfg s b true o = if_cases NotedBy (nat_le cfg.limit (failures (over_with s b true) b) && not (is_won s (is_reduce b) b.task)) _ _ (λ t. more-noted s _ (tt, (tt, tt)) o) (λ t. more-noted s _ (tt, tt) o)

after_end-noted : (cfg : Config) (s : Seen) (b : Attempt) (f : Bool) → NotedBy s → NotedBy (after_end cfg s b f)
after_end-noted cfg s b f o = if_cases NotedBy (is_live s b) _ _ (λ e. ended_by-noted cfg s b f o) (λ e. o)

after_ended-noted : (cfg : Config) (s : Seen) (d : ContainerId) (l : Option Launched) → NotedBy s → NotedBy (after_ended cfg s d l)
after_ended-noted cfg s d None o = o
after_ended-noted cfg s d (Some l) o = after_end-noted cfg s _ _ o

end_there-noted : (n i : ℕ) (ls : List Launched) (s : Seen) → NotedBy s → NotedBy (end_there n i ls s)
end_there-noted n i [] s o = o
end_there-noted n i (l ∷ ls) s o = if_cases NotedBy (nat_eq l.node n && (nat_lt l.incarnation i && is_live s l.attempt)) _ _ (λ t. end_there-noted n i ls _ o) (λ t. end_there-noted n i ls s o)

success-noted : (a : Attempt) (z : Option ℕ) (l : Option Launched) → OnlyMaps (success_record a z l)
success-noted a z None = tt
success-noted a z (Some l) = by (is_reduce a) refl
  where
    by : (b : Bool) → is_reduce a ≡ b → OnlyMaps (if b then ReduceSucceeded a z else MapSucceeded a l.node l.incarnation)
    by true q = tt
    by false q = q

heard-noted : (cfg : Config) (s : Seen) (p : Packet) → NotedBy s → NotedBy (heard cfg s p)
unfolding heard
heard-noted cfg s (Packet.Pending b) o = if_cases NotedBy (is_some (find_launched s.launched b) && not (has s.asked b)) _ _ (λ t. o) (λ t. o)
heard-noted cfg s (Packet.Poll b) o = if_cases NotedBy (is_some (find_launched s.launched b) && not (has s.asked b)) _ _ (λ t. o) (λ t. o)
heard-noted cfg s (Packet.Done b z) o = if_cases NotedBy (may_accept s b) _ _ (λ t. more-noted s _ (success-noted b z (find_launched s.launched b), tt) o) (λ t. o)
heard-noted cfg s (Packet.Failed b) o = after_end-noted cfg s b true o
heard-noted cfg s (Packet.Ended d) o = after_ended-noted cfg s d _ o
heard-noted cfg s (Packet.NodeUp m i) o = if_cases NotedBy (nat_lt (s.known m) i) _ _ (λ t. end_there-noted m i s.launched _ o) (λ t. o)
heard-noted cfg s (Packet.FetchLost d b) o = if_cases NotedBy (is_some (find_container s.launched d) && has s.recorded b) _ _ (λ t. o) (λ t. o)
heard-noted cfg s (Packet.Where d m) o = o
heard-noted cfg s _ o = o

known-noted : (s : Seen) (p : Packet) → NotedBy s → NotedBy (only_known s p)
known-noted s (Packet.NodeUp m i) o = if_cases NotedBy (can_hear s.phase && nat_lt (s.known m) i) _ _ (λ t. o) (λ t. o)
known-noted s _ o = o

rest-noted : (rs : List Record) → Each OnlyMaps rs → Each OnlyMaps (rest_of rs)
rest-noted [] o = tt
rest-noted (r ∷ rs) o = o.1

worked-noted : (s : Seen) (call : Store) → IsFirstDue s call → NotedBy s → NotedBy (worked s call)
worked-noted s (Append_record x) d o = record { dues = rest-noted s.due o.dues; tails = Each-append OnlyMaps s.tail (x ∷ []) o.tails (Each-In OnlyMaps s.due o.dues x d, tt); reads = o.reads }
worked-noted s Flush d o = record { dues = o.dues; tails = tt; reads = o.reads }
worked-noted s (Names op) d o = bar-by NotedBy s (bar_of op) (λ a t ks. o) o
worked-noted s Read_history d o = o

told-noted : (cfg : Config) (k : ℕ) (s : Seen) (call : Store) (r : Reply) → IsFirstDue s call → (is_read call ≡ true → Each OnlyMaps (records_of r)) → NotedBy s → NotedBy (told cfg k s call r)
unfolding told
told-noted cfg k s call r d f o = if_cases NotedBy (is_running (phase_told k s s.phase call r) && not (is_running (with_read cfg (if is_fine r then worked s call else s) call r).phase)) _ _ (λ t. read) (λ t. read)
  where
    fine : NotedBy (if is_fine r then worked s call else s)
    fine = if_cases NotedBy (is_fine r) _ _ (λ t. worked-noted s call d o) (λ t. o)

    read : NotedBy (with_read cfg (if is_fine r then worked s call else s) call r)
    read = if_cases NotedBy (is_read call) _ _ (λ t. let x = fine in record { dues = x.dues; tails = x.tails; reads = f t }) (λ t. fine)

next-noted : (cfg : Config) (k : ℕ) (s : Seen) (x : Master_step) → ((call : Store) (r : Reply) → x ≡ Asks call r → IsFirstDue s call × (is_read call ≡ true → Each OnlyMaps (records_of r))) → NotedBy s → NotedBy (next_seen cfg k s x)
unfolding next_seen
next-noted cfg k s (Came p) f o = if_cases NotedBy (is_running s.phase) _ _ (λ t. heard-noted cfg s p o) (λ t. known-noted s p o)
next-noted cfg k s (Launches l) f o = more-noted s _ (tt, tt) o
next-noted cfg k s (Expires n) f o = expired-by NotedBy (λ u a t v. v) n s (λ st ks bs. o)
next-noted cfg k s (Asks call r) f o = let g = f call r refl in told-noted cfg k s call r g.0 g.1 o

-- What was read and found no record of failure is all that was there, else nothing
stopped-none : (r : Reply) → was_read r ≡ Stopped → records_of r ≡ []
stopped-none (Records rs) e = by (is_unsuccessful rs) e
  where
    by : (b : Bool) → (if b then Failing true else Setting_up) ≡ Stopped → rs ≡ []
    by true e = cc
    by false e = cc
stopped-none _ e = refl

-- What is recorded

-- a success of a is there, with any length
abbrev pub SuccessIn : Attempt → List Record → Type 0
SuccessIn a rs = (z : Option ℕ) × In (ReduceSucceeded a z) rs

abbrev pub RecordedIn : World → ℕ → List Attempt → Type 0
RecordedIn w k rs = (a : Attempt) → In a rs → is_reduce a ≡ true → SuccessIn a (w.history k).stable

pub record Recorded (cfg : Config) (w : World) : Type 0 where
  pub noted : (k : ℕ) → NotedBy (seen_by cfg w k)
  pub stored : (k : ℕ) (x : Record) → Stores (w.history k) x → OnlyMaps x
  pub recorded : RecordedIn w w.fence (newest cfg w).recorded

below-noted : (cfg : Config) (w : World) → Recorded cfg w → (k : ℕ) → Each OnlyMaps (records_below w.history k)
unfolding records_below
below-noted cfg w h zero = tt
below-noted cfg w h (suc k) = Each-append OnlyMaps (records_below w.history k) (w.history k).stable (below-noted cfg w h k) (Each-by OnlyMaps (w.history k).stable (λ x i. h.stored k x (In-left x (w.history k).stable (w.history k).tail i)))

step-noted : (cfg : Config) (w : World) → Recorded cfg w → (k : ℕ) (x : Master_step) → Allowed cfg w k x → NotedBy (next_seen cfg k (seen_by cfg w k) x)
step-noted cfg w h k x a = next-noted cfg k (seen_by cfg w k) x (asked x a) (h.noted k)
  where
    read : (call : Store) (r : Reply) → ReadFits (records_below w.history k) call r → is_read call ≡ true → Each OnlyMaps (records_of r)
    read call r f t = two (f t)
      where
        two : (records_of r ≡ records_below w.history k) ⊎ (was_read r ≡ Stopped) → Each OnlyMaps (records_of r)
        two (inl q) = subst (λ z. Each OnlyMaps z) (sym q) (below-noted cfg w h k)
        two (inr q) = subst (λ z. Each OnlyMaps z) (sym (stopped-none r q)) tt

    asked : (x : Master_step) → Allowed cfg w k x → (call : Store) (r : Reply) → x ≡ Asks call r → IsFirstDue (seen_by cfg w k) call × (is_read call ≡ true → Each OnlyMaps (records_of r))
    asked (Came p) a call r q = cc
    asked (Launches l) a call r q = cc
    asked (Expires n) a call r q = cc
    asked (Asks c s) a call r q = let cq : c ≡ call = cc in let rq : s ≡ r = cc in (
      subst (λ z. IsFirstDue (seen_by cfg w k) z) cq (first-due cfg k (seen_by cfg w k) c a.0),
      subst (λ z. is_read call ≡ true → Each OnlyMaps (records_of z)) rq (subst (λ z. is_read z ≡ true → Each OnlyMaps (records_of s)) cq (read c s (read-replies w k a.1 c s a.2))),
    )

same-recorded : (cfg : Config) (rs : List Attempt) → Told.Closed cfg (λ s. s.recorded ≡ rs)
same-recorded cfg rs = record { asks = λ s a o. o; ends = λ s a f o. o; fails = λ s a d p o. o; accepts = λ s a st d o. o; knows = λ s f ps o. o }

hears-recorded : (cfg : Config) (k : ℕ) (s : Seen) (x : Master_step) → IsHeard x → (next_seen cfg k s x).recorded ≡ s.recorded
unfolding next_seen
hears-recorded cfg k s (Came p) i = if_cases (λ (x : Seen). x.recorded ≡ s.recorded) (is_running s.phase) _ _
    (λ t. Told.heard-closed cfg (λ x. x.recorded ≡ s.recorded) (same-recorded cfg s.recorded) s p refl) (λ t. Told.known-closed cfg (λ x. x.recorded ≡ s.recorded) (same-recorded cfg s.recorded) s p refl)
hears-recorded cfg k s (Launches l) i = refl
hears-recorded cfg k s (Expires n) i = expired-by (λ (x : Seen). x.recorded ≡ s.recorded) (λ u a t v. v) n s (λ st ks bs. refl)
hears-recorded cfg k s (Asks call r) i = absurd i

abbrev pub IsMap : Placed → Type 0
IsMap p = (is_reduce p.attempt) ≡ false

without-maps : (m : TaskId) (ps : List Placed) → Each IsMap ps → Each IsMap (without_task m ps)
without-maps m [] o = tt
without-maps m (p ∷ ps) o = if_cases (λ z. Each IsMap z) (task_eq p.attempt.task m) _ _ (λ t. without-maps m ps o.1) (λ t. (o.0, without-maps m ps o.1))

pub newest-maps : (known : ℕ → ℕ) (rs : List Record) (ps : List Placed) → Each OnlyMaps rs → Each IsMap ps → Each IsMap (newest_maps known rs ps)
unfolding newest_maps
newest-maps known [] ps f o = o
newest-maps known (MapSucceeded a n i ∷ rs) ps f o = newest-maps known rs _ f.1 (if_cases (λ z. Each IsMap z) (nat_lt i (known n)) _ _ (λ t. without-maps a.task ps o) (λ t. (f.0, without-maps a.task ps o)))
newest-maps known (AttemptStarted a n ∷ rs) ps f o = newest-maps known rs ps f.1 o
newest-maps known (ReduceSucceeded a z ∷ rs) ps f o = newest-maps known rs ps f.1 o
newest-maps known (AttemptFailed a ∷ rs) ps f o = newest-maps known rs ps f.1 o
newest-maps known (JobUnsuccessful ∷ rs) ps f o = newest-maps known rs ps f.1 o

pub attempts-maps : (ps : List Placed) → Each IsMap ps → (a : Attempt) → In a (attempts_of ps) → is_reduce a ≡ false
attempts-maps [] o a i = absurd i
attempts-maps (p ∷ ps) o a (inl e) = subst (λ (z : Attempt). (is_reduce z) ≡ false) e o.0
attempts-maps (p ∷ ps) o a (inr i) = attempts-maps ps o.1 a i

successes-In : (rs : List Record) → Each OnlyMaps rs → (a : Attempt) → In a (successes rs) → is_reduce a ≡ true → SuccessIn a rs
successes-In [] o a i d = absurd i
successes-In (MapSucceeded b n j ∷ rs) o a (inl e) d = absurd (true≢false (sym d ∙ subst (λ (z : Attempt). (is_reduce z) ≡ false) e o.0))
successes-In (MapSucceeded b n j ∷ rs) o a (inr i) d = let q = successes-In rs o.1 a i d in (q.0, inr q.1)
successes-In (ReduceSucceeded b z ∷ rs) o a (inl e) d = (z, inl (ap (λ x. ReduceSucceeded x z) e))
successes-In (ReduceSucceeded b z ∷ rs) o a (inr i) d = let q = successes-In rs o.1 a i d in (q.0, inr q.1)
successes-In (AttemptStarted b n ∷ rs) o a i d = let q = successes-In rs o.1 a i d in (q.0, inr q.1)
successes-In (AttemptFailed b ∷ rs) o a i d = let q = successes-In rs o.1 a i d in (q.0, inr q.1)
successes-In (JobUnsuccessful ∷ rs) o a i d = let q = successes-In rs o.1 a i d in (q.0, inr q.1)

-- after a call: what a flush that was answered made stable, what was there, or the maps' that were read
told-recorded : (cfg : Config) (u : World) (k : ℕ) (s : Seen) (call : Store) (r : Reply) → Each OnlyMaps s.history → (is_read call ≡ true → Each OnlyMaps (records_of r)) → Each OnlyMaps s.tail →
    (call ≡ Flush → is_fine r ≡ true → (a : Attempt) → SuccessIn a s.tail → SuccessIn a (u.history k).stable) → RecordedIn u k s.recorded → RecordedIn u k (told cfg k s call r).recorded
unfolding told
told-recorded cfg u k s call r hs f tl g o = if_cases P (is_running (phase_told k s s.phase call r) && not (is_running (with_read cfg (if is_fine r then worked s call else s) call r).phase)) _ _
    (λ t a i d. absurd (true≢false (sym d ∙ attempts-maps _ (newest-maps _ _ [] reads tt) a i))) (λ t. read)
  where
    P : Seen → Type 0
    P x = RecordedIn u k x.recorded

    works : (call2 : Store) → call ≡ call2 → is_fine r ≡ true → P (worked s call2)
    works (Append_record x) q t = o
    works Flush q t = λ a i d. by a d (In-parts a (successes s.tail) s.recorded i)
      where
        by : (a : Attempt) → is_reduce a ≡ true → In a (successes s.tail) ⊎ In a s.recorded → SuccessIn a (u.history k).stable
        by a d (inl j) = g q t a (successes-In s.tail tl a j d)
        by a d (inr j) = o a j d
    works (Names op) q t = bar-by P s (bar_of op) (λ a t ks. o) o
    works Read_history q t = o

    fine : P (if is_fine r then worked s call else s)
    fine = if_cases P (is_fine r) _ _ (λ t. works call refl t) (λ t. o)

    read : P (with_read cfg (if is_fine r then worked s call else s) call r)
    read = if_cases P (is_read call) _ _ (λ t. fine) (λ t. fine)

    H : Seen → Type 0
    H x = Each OnlyMaps x.history

    old : (call2 : Store) → Each OnlyMaps (worked s call2).history
    old (Append_record x) = hs
    old Flush = hs
    old (Names op) = bar-by H s (bar_of op) (λ a t ks. hs) hs
    old Read_history = hs

    reads : Each OnlyMaps (with_read cfg (if is_fine r then worked s call else s) call r).history
    reads = if_cases H (is_read call) _ _ (λ t. f t) (λ t. if_cases H (is_fine r) _ _ (λ q. old call) (λ q. hs))

asks-recorded : (cfg : Config) (u : World) (k : ℕ) (s : Seen) (call : Store) (r : Reply) → Each OnlyMaps s.history → (is_read call ≡ true → Each OnlyMaps (records_of r)) → Each OnlyMaps s.tail →
    (call ≡ Flush → is_fine r ≡ true → (a : Attempt) → SuccessIn a s.tail → SuccessIn a (u.history k).stable) → RecordedIn u k s.recorded → RecordedIn u k (next_seen cfg k s (Asks call r)).recorded
unfolding next_seen
asks-recorded cfg u k s call r hs f tl g o = told-recorded cfg u k s call r hs f tl g o

-- a flush that was answered has made the tail stable
flush-stable : (cfg : Config) (w : World) (e : Event) → Honest cfg w → (g : Weather) → e ≡ Event.Duty w.fence g → duty cfg w w.fence ≡ Some Flush → is_fine (reply_under g (reply_of w w.fence Flush)) ≡ true →
    (x : Record) → In x (newest cfg w).tail → (v : ℕ) × In (as_written v x) ((effect cfg w e).history w.fence).stable
unfolding call_of
flush-stable cfg w e h g ev du fine x i = let t = h.tailed w.fence unsealed x i in (t.0, subst (λ (z : Segment). In (as_written t.0 x) z.stable) (sym segment) t.1)
  where
    ok : (is_applied w w.fence g ≡ true) × (is_fine (own_reply w w.fence Flush) ≡ true) × (g ≡ Calm)
    ok = fine-applied w w.fence g Flush fine

    unsealed : (w.history w.fence).is_sealed ≡ false
    unsealed = open_if (w.history w.fence).is_sealed ok.1
      where
        open_if : (b : Bool) → is_fine (if b then Reply.Sealed else Reply.Fine) ≡ true → b ≡ false
        open_if true e = absurd (false≢true e)
        open_if false e = refl

    segment : (effect cfg w e).history w.fence ≡ flushed (w.history w.fence)
    segment = subst (λ z. (effect cfg w z).history w.fence ≡ flushed (w.history w.fence)) (sym ev) (rw (du, called_at w w.fence g Flush ok.0, unsealed) refl)

pub recorded : (cfg : Config) (w : World) (e : Event) → Known cfg w → Recorded cfg w → not_now cfg w e ≡ None → Recorded cfg (effect cfg w e)
recorded cfg w e kn h n = record {
  noted = λ k. seen_after NotedBy cfg w (master_act cfg w e) k (h.noted k) (λ a q m. step-noted cfg w h k a.step (allowed a q k m));
  stored = λ k x i. from k x (stores_after cfg w e n k x i);
  recorded = by (case_of cfg w e kn.honest kn.cluster n);
}
  where
    allowed : (a : Master_act) → master_act cfg w e ≡ Some a → (k : ℕ) → a.who ≡ k → Allowed cfg w k a.step
    allowed a q k m = subst (λ x. Allowed cfg w x a.step) m (is_allowed cfg w _ (permits cfg w e n) a q).1

    from : (k : ℕ) (x : Record) → StoredOrDue cfg w k x → OnlyMaps x
    from k x (inl i) = h.stored k x i
    from k x (inr q) = subst (λ z. OnlyMaps z) q.4 (written-maps q.3 q.1 (Each-In OnlyMaps (seen_by cfg w k).due (h.noted k).dues q.1 (first-due cfg k (seen_by cfg w k) _ q.2)))

    more : RecordedIn (effect cfg w e) w.fence (newest cfg w).recorded
    more a i d = let g = (grown cfg w e kn.honest.is_aged n).newest in let r = h.recorded a i d in (r.0, subst (λ z. In (ReduceSucceeded a r.0) z) g.is (In-left _ (w.history w.fence).stable g.rest r.1))

    there : (k : ℕ) → (effect cfg w e).fence ≡ k → RecordedIn (effect cfg w e) k (seen_by cfg (effect cfg w e) k).recorded → RecordedIn (effect cfg w e) (effect cfg w e).fence (newest cfg (effect cfg w e)).recorded
    there k fe o = subst (λ z. RecordedIn (effect cfg w e) z (seen_by cfg (effect cfg w e) z).recorded) (sym fe) o

    made : (g : Weather) → e ≡ Event.Duty w.fence g → duty cfg w w.fence ≡ Some Flush → is_fine (reply_under g (reply_of w w.fence Flush)) ≡ true → (a : Attempt) → SuccessIn a (newest cfg w).tail → SuccessIn a ((effect cfg w e).history w.fence).stable
    made g ev du fine a i = let t = flush-stable cfg w e kn.honest g ev du fine (ReduceSucceeded a i.0) i.1 in (bytes_kept t.0 i.0, t.1)

    by : Case cfg w e → RecordedIn (effect cfg w e) (effect cfg w e).fence (newest cfg (effect cfg w e)).recorded
    by (still fe c s) = there w.fence fe (subst (λ (z : Seen). RecordedIn (effect cfg w e) w.fence z.recorded) (sym s) more)
    by (hears x i al sf fe c s) = there w.fence fe (subst (λ (z : Seen). RecordedIn (effect cfg w e) w.fence z.recorded) (sym s) (subst (λ z. RecordedIn (effect cfg w e) w.fence z) (sym (hears-recorded cfg w.fence (newest cfg w) x i)) more))
    by (calls k) = there w.fence k.fence (subst (λ (z : Seen). RecordedIn (effect cfg w e) w.fence z.recorded) (sym k.seen) more)
    by (asks call g ev du fe c s) = there w.fence fe (subst (λ (z : Seen). RecordedIn (effect cfg w e) w.fence z.recorded) (sym s)
        (asked-recorded call g ev du))
      where
        asked-recorded : (call : Store) (g : Weather) → e ≡ Event.Duty w.fence g → duty cfg w w.fence ≡ Some call → RecordedIn (effect cfg w e) w.fence (next_seen cfg w.fence (newest cfg w) (Asks call (reply_under g (reply_of w w.fence call)))).recorded
        asked-recorded call g ev du = asks-recorded cfg (effect cfg w e) w.fence (newest cfg w) call (reply_under g (reply_of w w.fence call)) (h.noted w.fence).reads
            (λ t. two call (read-replies w w.fence g call (reply_under g (reply_of w w.fence call)) refl t)) (h.noted w.fence).tails
            (λ q t a i. made g ev (du ∙ ap Some q) (subst (λ z. is_fine (reply_under g (reply_of w w.fence z)) ≡ true) q t) a i) more
          where
            two : (call : Store) → (records_of (reply_under g (reply_of w w.fence call)) ≡ R w) ⊎ (was_read (reply_under g (reply_of w w.fence call)) ≡ Stopped) → Each OnlyMaps (records_of (reply_under g (reply_of w w.fence call)))
            two call (inl q) = subst (λ z. Each OnlyMaps z) (sym q) (below-noted cfg w h w.fence)
            two call (inr q) = subst (λ z. Each OnlyMaps z) (sym (stopped-none (reply_under g (reply_of w w.fence call)) q)) tt
    by (starts fe c s) = there (suc w.fence) fe (subst (λ (z : Seen). RecordedIn (effect cfg w e) (suc w.fence) z.recorded) (sym s) (λ a i. absurd i))

pub opening-recorded : (cfg : Config) → Recorded cfg opening_world
unfolding seen
opening-recorded cfg = record { noted = λ k. record { dues = tt; tails = tt; reads = tt }; stored = λ k x i. absurd i; recorded = λ a i. absurd i }

-- Where all is won

-- reduce t has a winner whose whole file is in generation k
pub record Ready (w : World) (k : ℕ) (t : TaskId) : Type 0 where
  pub attempt : Attempt
  pub wins : winner w t ≡ Some attempt
  pub holds : HoldsAt w k t attempt

all_won-at : (rs : List Attempt) (ws : List Todo_winner) (j : JobId) (n : ℕ) (t : TaskId) → all_won rs ws j n ≡ true → IsOf j n t → (accepts_task rs t || has_winner ws t) ≡ true
all_won-at rs ws j zero t e l = absurd (let q = l.small in omega arith)
all_won-at rs ws j (suc n) t e l = by (nat_eq t.number n) refl (all_won-at rs ws j n t (and_parts _ _ e).1)
  where
    by : (b : Bool) → nat_eq t.number n ≡ b → (IsOf j n t → (accepts_task rs t || has_winner ws t) ≡ true) → (accepts_task rs t || has_winner ws t) ≡ true
    by true q f = subst (λ z. (accepts_task rs z || has_winner ws z) ≡ true) (sym (l.is ∙ ap (λ x. reduce_of j x) (eqb-true t.number n q))) (and_parts _ _ e).0
    by false q f = let d = eqb-false t.number n q in let s = l.small in f (record { is = l.is; small = omega (arith, d) })

accepts-In : (rs : List Attempt) (t : TaskId) → accepts_task rs t ≡ true → (a : Attempt) × In a rs × (is_reduce a ≡ true) × (a.task ≡ t)
accepts-In [] t e = absurd (false≢true e)
accepts-In (a ∷ rs) t e = by (or_parts (is_reduce a && task_eq a.task t) _ e) (accepts-In rs t)
  where
    by : ((is_reduce a && task_eq a.task t) ≡ true) ⊎ (accepts_task rs t ≡ true) → (accepts_task rs t ≡ true → (b : Attempt) × In b rs × (is_reduce b ≡ true) × (b.task ≡ t)) → (b : Attempt) × In b (a ∷ rs) × (is_reduce b ≡ true) × (b.task ≡ t)
    by (inl q) f = let p = and_parts _ _ q in (a, inl refl, p.0, task_eq-true a.task t p.1)
    by (inr q) f = let r = f q in (r.0, inr r.1, r.2, r.3)

has-wins : (rs : List Record) (ws : List Todo_winner) (t : TaskId) → Each (Wins rs) ws → has_winner ws t ≡ true → (a : Attempt) × (winner_in rs t ≡ Some a)
has-wins rs [] t o e = absurd (false≢true e)
has-wins rs (x ∷ ws) t o e = by (task_eq x.task t) refl e (has-wins rs ws t o.1)
  where
    by : (b : Bool) → task_eq x.task t ≡ b → (b || has_winner ws t) ≡ true → (has_winner ws t ≡ true → (a : Attempt) × (winner_in rs t ≡ Some a)) → (a : Attempt) × (winner_in rs t ≡ Some a)
    by true q e f = (x.attempt, subst (λ z. winner_in rs z ≡ Some x.attempt) (task_eq-true x.task t q) o.0.0)
    by false q e f = f e

pub all-ready : (cfg : Config) (w : World) → Known cfg w → Dirs cfg w → Recorded cfg w → (newest cfg w).phase ≡ Running → all_won (newest cfg w).recorded (newest cfg w).winners cfg.job cfg.reduces ≡ true → (t : TaskId) → IsReduce cfg t → Ready w w.fence t
unfolding records_below
all-ready cfg w kn dirs rec ph won t l = by (or_parts _ _ (all_won-at (newest cfg w).recorded (newest cfg w).winners cfg.job cfg.reduces t won l))
  where
    hold : AllHold cfg w w.fence (R w)
    hold = subst (PhaseDirs cfg w w.fence (R w)) ph dirs.phase

    read : (newest cfg w).winners ≡ winners_of (R w) cfg.job cfg.reduces
    read = subst (PhaseFits (R w) cfg.job cfg.reduces (newest cfg w).winners) ph (kn.honest.fits w.fence (omega arith))

    held : (b : Attempt) (z : Option ℕ) → In (ReduceSucceeded b z) (w.history w.fence).stable → In b (newest cfg w).accepted × (is_reduce b ≡ true)
    held b z i = kn.honest.held w.fence b z (In-left (ReduceSucceeded b z) (w.history w.fence).stable (w.history w.fence).tail i)

    of-own : (a : Attempt) → In a (newest cfg w).recorded → is_reduce a ≡ true → Ready w w.fence a.task
    of-own a i d = let st = rec.recorded a i d in let acc = held a st.0 st.1 in let sd = kn.honest.steady w.fence (omega arith) in record {
      attempt = a;
      wins = winner-none-append (R w) (w.history w.fence).stable a.task (sd.accepts a acc.0 d) ∙ winner_in-only (w.history w.fence).stable a st.0 st.1
          (λ b y j q. let bh = held b y j in one_accepted (R w) (newest cfg w) sd a b acc.0 bh.0 d bh.1 q);
      holds = accepted-holds cfg w kn dirs a acc.0 d;
    }

    by : (accepts_task (newest cfg w).recorded t ≡ true) ⊎ (has_winner (newest cfg w).winners t ≡ true) → Ready w w.fence t
    by (inl q) = let r = accepts-In (newest cfg w).recorded t q in subst (Ready w w.fence) r.3 (of-own r.0 r.1 r.2)
    by (inr q) = let r = has-wins (R w) (newest cfg w).winners t (subst (λ z. Each (Wins (R w)) z) (sym read) (winners-win (R w) cfg.job cfg.reduces)) q in
        record { attempt = r.0; wins = winner-append (R w) (w.history w.fence).stable t r.0 r.1; holds = hold t r.0 l r.1 }

abbrev StartCall : Bool → Option Store → Type 0
StartCall b None = Unit {0}
StartCall b (Some (Names op)) = (is_some (bar_of op) ≡ true) ⊎ ((op ≡ Create commit_started true) × (b ≡ true))
StartCall b (Some (Append_record r)) = Unit {0}
StartCall b (Some Flush) = Unit {0}
StartCall b (Some Read_history) = Unit {0}

start-record : (b : Bool) (due tail : List Record) (o : Option Store) → StartCall b o → StartCall b (record_call due tail o)
start-record b (r ∷ due) tail o q = tt
start-record b [] tail o q = if_cases (StartCall b) (wants_flush tail) _ _ (λ t. tt) (λ t. q)

start-bar : (b : Bool) (m : Option Attempt) (o : Option Store) → StartCall b o → StartCall b (bar_call m o)
start-bar b None o q = q
start-bar b (Some a) o q = inl refl

start-call : (cfg : Config) (k : ℕ) (s : Seen) → StartCall (all_won s.recorded s.winners cfg.job cfg.reduces) (duty_of cfg k s Running)
unfolding duty_of
start-call cfg k s = start-bar (all_won s.recorded s.winners cfg.job cfg.reduces) (first_bar s s.bars) _
    (start-record (all_won s.recorded s.winners cfg.job cfg.reduces) s.due s.tail _ (if_cases (StartCall (all_won s.recorded s.winners cfg.job cfg.reduces)) (all_won s.recorded s.winners cfg.job cfg.reduces) _ _ (λ t. inr (refl, t)) (λ t. tt)))

-- a running master calls the store of names only to bar, or to start its commit, and this only where all is won
pub starts-won : (cfg : Config) (k : ℕ) (s : Seen) (op : Op) → duty_of cfg k s Running ≡ Some (Names op) → (is_some (bar_of op) ≡ true) ⊎ ((op ≡ Create commit_started true) × (all_won s.recorded s.winners cfg.job cfg.reduces ≡ true))
starts-won cfg k s op d = subst (StartCall (all_won s.recorded s.winners cfg.job cfg.reduces)) d (start-call cfg k s)
