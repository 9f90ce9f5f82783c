-- A node that is given up wrongly does no harm by itself: what an answered bar and an expiry do.
use Rattle.std.proofs.Common.{ℕ, zero, suc, ◌≡◌, refl, sym, ◌∙◌, ap, subst, Bool, true, false, ◌&&◌, not, List, [], ◌∷◌, Option, Some, None, if◌then◌else◌, nat_lt, inl, inr}
use Rattle.std.proofs.lemmas.Bool.{and_parts, false≢true, true≢false}
use Rattle.mr_world_model.specs.Ids.{Attempt, is_reduce}
use Rattle.mr_world_model.specs.Content.{Op, Bar, bar_of, Superseded, Barred}
use Rattle.mr_world_model.specs.Records.{Record}
use Rattle.mr_world_model.specs.Packets.{Config, Caller, Store, Names, Append_record, Flush, Read_history, Fine, Refused}
use Rattle.mr_world_model.specs.Hearing.{has, Seen, Phase, Opening, Setting_up, Recovering, Running, Committing, Failing, Finished, Stopped, Recover_step, Measure, Look_below, Clear_own, Move_from, Todo_winner, Commit_step, List_job, Merging, Cleaning, Marking, Succeeding, Failing_mark, Aborting, Merge_step, Look_at, List_into, Delete_then, Move_to, is_running, is_live, is_over}
use Rattle.mr_world_model.specs.Duties.{Expires, Asks, seen, next_seen, told, worked, phase_told, duty_of, mark_at, record_call, recover_call, merge_call, commit_call, bar_call, first_bar, wants_flush, all_won}
use Rattle.mr_world_model.specs.World.{World, Event, Expire, Master_act, opening_world, master_act, seen_by, duty, reply_of, reply_to, is_stopped, has_option}
use Rattle.mr_world_model.specs.Effect.{effect, not_now, run, with_master_step}
use Rattle.mr_world_model.specs.Claims.{In, Limits, world_of, WasBarred, WrongSuspicionDoesNoHarm}
use Rattle.mr_world_model.proofs.Basic.{if_cases, along, taken_or_not, run-append}
use Rattle.mr_world_model.proofs.Lists.{attempt_eq-refl}
use Rattle.mr_world_model.proofs.Closed.{next-explains, StepEnds}
use Rattle.mr_world_model.proofs.Allowed.{Allowed, permits, seen_after}
use Rattle.mr_world_model.proofs.Told.{is_allowed}
use Rattle.mr_world_model.proofs.Bars.{barred_kept, barred-now, first-lives}
use Rattle.mr_world_model.proofs.Masters.{over-stays}

-- A duty that bars is for an attempt that lives

abbrev BarLives : Seen → Option Store → Type 0
BarLives s None = Unit {0}
BarLives s (Some (Names op)) = (a : Attempt) → bar_of op ≡ Some a → is_live s a ≡ true
BarLives s (Some (Append_record r)) = Unit {0}
BarLives s (Some Flush) = Unit {0}
BarLives s (Some Read_history) = Unit {0}

mark-lives : (s : Seen) (n : ℕ) → BarLives s (Some (mark_at n))
mark-lives s zero = λ a q. cc
mark-lives s (suc zero) = λ a q. cc
mark-lives s (suc (suc zero)) = λ a q. cc
mark-lives s (suc (suc (suc n))) = tt

record-lives : (s : Seen) (due tail : List Record) (o : Option Store) → BarLives s o → BarLives s (record_call due tail o)
record-lives s (r ∷ due) tail o l = tt
record-lives s [] tail o l = if_cases (BarLives s) (wants_flush tail) _ _ (λ t. tt) (λ t. l)

bar-lives : (s : Seen) (m : Option Attempt) (o : Option Store) → first_bar s s.bars ≡ m → BarLives s o → BarLives s (bar_call m o)
bar-lives s None o q l = l
bar-lives s (Some b) o q l = λ a e. let f : b ≡ a = cc in subst (λ z. is_live s z ≡ true) f (first-lives s s.bars b q)

recover-lives : (s : Seen) (k : ℕ) (ws : List Todo_winner) (at : Recover_step) → BarLives s (recover_call k ws at)
recover-lives s k [] at = tt
recover-lives s k (x ∷ ws) (Look_below j) = λ a q. cc
recover-lives s k (x ∷ ws) (Measure j) = λ a q. cc
recover-lives s k (x ∷ ws) (Clear_own j) = λ a q. cc
recover-lives s k (x ∷ ws) (Move_from j) = λ a q. cc

merge-lives : (s : Seen) (ms : List Merge_step) → BarLives s (merge_call ms)
merge-lives s [] = tt
merge-lives s (Look_at f t d ∷ ms) = λ a q. cc
merge-lives s (List_into f t ∷ ms) = λ a q. cc
merge-lives s (Delete_then f t ∷ ms) = λ a q. cc
merge-lives s (Move_to f t ∷ ms) = λ a q. cc

commit-lives : (s : Seen) (k : ℕ) (at : Commit_step) → BarLives s (commit_call k at)
commit-lives s k List_job = λ a q. cc
commit-lives s k (Merging ms) = merge-lives s ms
commit-lives s k Cleaning = λ a q. cc
commit-lives s k Marking = λ a q. cc
commit-lives s k Succeeding = λ a q. cc
commit-lives s k Failing_mark = λ a q. cc
commit-lives s k Aborting = λ a q. cc

duty-lives : (cfg : Config) (k : ℕ) (s : Seen) (p : Phase) → BarLives s (duty_of cfg k s p)
unfolding duty_of
duty-lives cfg k s (Opening n) = mark-lives s n
duty-lives cfg k s Setting_up = λ a q. cc
duty-lives cfg k s (Recovering ws at) = recover-lives s k ws at
duty-lives cfg k s Running = bar-lives s (first_bar s s.bars) _ refl (record-lives s s.due s.tail _ (if_cases (BarLives s) (all_won s.recorded s.winners cfg.job cfg.reduces) _ _ (λ t. (λ a q. cc)) (λ t. tt)))
duty-lives cfg k s (Failing f) = record-lives s s.due s.tail _ (if_cases (BarLives s) f _ _ (λ t. (λ a q. cc)) (λ t. tt))
duty-lives cfg k s (Committing at) = commit-lives s k at
duty-lives cfg k s (Finished b) = tt
duty-lives cfg k s Stopped = tt

-- an attempt that lives is over once its bar was answered
barred-over : (cfg : Config) (k : ℕ) (s : Seen) (a : Attempt) → is_live s a ≡ true → is_over (next_seen cfg k s (Asks (Names (Bar a)) Fine)).ended a ≡ true
unfolding next_seen told
barred-over cfg k s a t =
    if_cases (λ (x : Seen). is_over x.ended a ≡ true) (is_running (phase_told k s s.phase (Names (Bar a)) Fine) && not (is_running (worked s (Names (Bar a))).phase)) _ _ (λ u. over) (λ u. over)
  where
    over : is_over (worked s (Names (Bar a))).ended a ≡ true
    over = rw (t, attempt_eq-refl a) refl

pub Answered : Config → World → Type 0
Answered cfg w = (k : ℕ) (a : Attempt) → WasBarred w k a → (has w.barred a ≡ true) × (is_over (seen_by cfg w k).ended a ≡ true)

answered : (cfg : Config) (w : World) (e : Event) → Answered cfg w → not_now cfg w e ≡ None → Answered cfg (effect cfg w e)
unfolding Answered seen
answered cfg w e o n k a = by (master_act cfg w e) refl
  where
    old : WasBarred w k a → (has (effect cfg w e).barred a ≡ true) × (is_over (seen_by cfg (effect cfg w e) k).ended a ≡ true)
    old i = let p = o k a i in (barred_kept cfg w e a p.0, over-stays cfg w e k a p.1)

    by : (m : Option Master_act) → master_act cfg w e ≡ m → In (Asks (Names (Bar a)) Fine) (with_master_step w.master_past m k) → (has (effect cfg w e).barred a ≡ true) × (is_over (seen_by cfg (effect cfg w e) k).ended a ≡ true)
    by None q i = old i
    by (Some x) q i = at (Rattle.std.specs.Prelude.nat_eq k x.who) refl i
      where
        at : (t : Bool) → Rattle.std.specs.Prelude.nat_eq k x.who ≡ t → In (Asks (Names (Bar a)) Fine) (if t then x.step ∷ w.master_past k else w.master_past k) → (has (effect cfg w e).barred a ≡ true) × (is_over (seen_by cfg (effect cfg w e) k).ended a ≡ true)
        at false t i = old i
        at true t (inr i) = old i
        at true t (inl s) =
            let who = Rattle.std.proofs.lemmas.Bool.eqb-true k x.who t in
            let al : Allowed cfg w k (Asks (Names (Bar a)) Fine) = subst (Allowed cfg w k) s (subst (λ z. Allowed cfg w z x.step) (sym who) (is_allowed cfg w _ (permits cfg w e n) x q).1) in
            let live : BarLives (seen_by cfg w k) (Some (Names (Bar a))) = subst (BarLives (seen_by cfg w k)) al.0 (duty-lives cfg k (seen_by cfg w k) (seen_by cfg w k).phase) in (
              barred-now cfg w e x q (Names (Bar a)) Fine s refl (Bar a) refl a refl,
              rw (q, t, s) (barred-over cfg k (seen_by cfg w k) a (live a refl)),
            )

answered-always : (cfg : Config) (within : Limits) (es : List Event) → Answered cfg (world_of cfg within es)
unfolding Answered
answered-always cfg within es = along (Answered cfg) cfg within (answered cfg) opening_world es (λ k a i. absurd i)

-- a bar in force stays so over every list of events
stays-barred : (cfg : Config) (within : Limits) (w : World) (es : List Event) (a : Attempt) → has w.barred a ≡ true → has (run cfg within w es).barred a ≡ true
stays-barred cfg within w es a h = along (λ u. has u.barred a ≡ true) cfg within (λ u e o n. barred_kept cfg u e a o) w es h

turned-away : (w : World) (c : Caller) (a : Attempt) (op : Op) → has w.barred a ≡ true → c.attempt ≡ Some a →
    reply_to w c (Names op) ≡ Refused (if nat_lt c.app w.fence then Superseded w.fence else Barred)
unfolding reply_to reply_of
turned-away w c a op h q = rw (q, h) (by (nat_lt c.app w.fence))
  where
    by : (b : Bool) → (if not b then Refused Barred else (if b then Refused (Superseded w.fence) else Rattle.mr_world_model.specs.World.own_reply w c.app (Names op))) ≡ Refused (if b then Superseded w.fence else Barred)
    by true = refl
    by false = refl

-- an expiry leaves the reduces
expiry-leaves : (cfg : Config) (w : World) (k n j : ℕ) (a : Attempt) → is_reduce a ≡ true → is_over (seen_by cfg (effect cfg w (Expire k n)) j).ended a ≡ is_over (seen_by cfg w j).ended a
unfolding master_act
expiry-leaves cfg w k n j a r = same _ _ after (over-stays cfg w (Expire k n) j a)
  where
    same : (b c : Bool) → (b ≡ true → c ≡ true) → (c ≡ true → b ≡ true) → b ≡ c
    same true c f g = sym (f refl)
    same false true f g = g refl
    same false false f g = refl

    Q : Attempt → Type 0
    Q b = (is_reduce b) ≡ true → is_over (seen_by cfg w j).ended b ≡ true

    by : (x : Master_act) → Some (record { who = k; step = Expires n }) ≡ Some x → (b : Attempt) → StepEnds (seen_by cfg w j) b x.step → Q b
    by x q b t = let f : record { who = k; step = Expires n } ≡ x = cc in
        let u : is_reduce b ≡ false = subst (StepEnds (seen_by cfg w j) b) (sym (ap (λ (z : Master_act). z.step) f)) t in λ r. absurd (false≢true (sym u ∙ r))

    after : is_over (seen_by cfg (effect cfg w (Expire k n)) j).ended a ≡ true → is_over (seen_by cfg w j).ended a ≡ true
    after o = seen_after (λ s. (b : Attempt) → is_over s.ended b ≡ true → Q b) cfg w (master_act cfg w (Expire k n)) j (λ b v r. v)
        (λ x q m. next-explains cfg Q j (seen_by cfg w j) x.step (by x q) (λ b v r. v)) a o r

pub bars_hold : (cfg : Config) (within : Limits) → WrongSuspicionDoesNoHarm cfg within
unfolding Answered run
bars_hold cfg within = record {
  refused = λ es fs k a i c q op. rw (run-append cfg within opening_world es fs)
      (turned-away (run cfg within (world_of cfg within es) fs) c a op (stays-barred cfg within (world_of cfg within es) fs a (answered-always cfg within es k a i).0) q);
  over = λ es k a i. (answered-always cfg within es k a i).1;
  expiry = λ es k n j a r. rw (run-append cfg within opening_world es (Expire k n ∷ []))
      (taken_or_not (λ u. is_over (seen_by cfg u j).ended a ≡ is_over (seen_by cfg (world_of cfg within es) j).ended a) cfg within (world_of cfg within es) (Expire k n) refl
      (λ t. expiry-leaves cfg (world_of cfg within es) k n j a r));
}
