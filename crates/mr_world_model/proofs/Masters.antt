-- Masters: what they launched before they ran, which tasks, and that an accepted attempt's Done was sent.
use Rattle.std.proofs.Common.{ℕ, ◌≡◌, refl, sym, ◌∙◌, subst, Bool, true, false, ◌&&◌, not, List, [], ◌∷◌, Option, Some, None, if◌then◌else◌, is_some, nat_eq, nat_lt, nat_le, ◌⊎◌, inl, inr}
use Rattle.std.proofs.lemmas.Bool.{false≢true}
use Rattle.mr_world_model.specs.Claims.{IsReduce}
use Rattle.mr_world_model.specs.Ids.{Attempt, ContainerId, is_reduce}
use Rattle.mr_world_model.specs.Records.{Record}
use Rattle.mr_world_model.specs.Packets.{Config, Packet, Store, Reply, Names, Append_record, Flush, Read_history, Found, Entries, Refused, Done}
use Rattle.mr_world_model.specs.Content.{Superseded, bar_of}
use Rattle.mr_world_model.specs.Hearing.{Seen, Phase, Opening, Setting_up, Recovering, Running, Committing, Failing, Finished, Stopped, Commit_step, List_job, Merging, Cleaning, Marking, Succeeding, Failing_mark, Aborting, Merge_step, Look_at, List_into, Delete_then, Move_to, Launched, is_running, heard, only_known, after_end, after_ended, end_there, ended_by, over_with, has, find_launched, may_accept, is_live, is_won, failures, is_over, find_container, can_hear}
use Rattle.mr_world_model.specs.Duties.{Master_step, Came, Launches, Expires, Asks, seen, next_seen, told, worked, with_read, is_fine, is_cleared, is_superseded, is_read, phase_told, running, failing, at_work, after_flush, committing, merging, refused}
use Rattle.mr_world_model.specs.World.{World, Event, Master_act, master_act, seen_by, opening_world}
use Rattle.mr_world_model.specs.Sending.{sent, to_app}
use Rattle.mr_world_model.specs.Effect.{effect, not_now}
use Rattle.mr_world_model.specs.Claims.{In}
use Rattle.mr_world_model.proofs.Basic.{if_cases}
use Rattle.mr_world_model.proofs.Lists.{In-left}
use Rattle.mr_world_model.proofs.Closed.{Closed, next-closed, LaunchFits, over-more, expired-by, bar-by}
use Rattle.mr_world_model.proofs.Allowed.{Allowed, permits, seen_after}
use Rattle.mr_world_model.proofs.Told.{is_allowed}
use Rattle.mr_world_model.proofs.Cluster.{StepFits, step-fits}

-- The phase after a step

abbrev pub SameOrFails : Phase → Phase → Type 0
SameOrFails p q = (q ≡ p) ⊎ (q ≡ Failing false)

ended_by-phase : (cfg : Config) (s : Seen) (b : Attempt) (f : Bool) → SameOrFails s.phase (ended_by cfg s b f).phase
ended_by-phase cfg s b false = inl refl
ended_by-phase cfg s b true = if_cases (λ (x : Seen). SameOrFails s.phase x.phase) (nat_le cfg.limit (failures (over_with s b true) b) && not (is_won s (is_reduce b) b.task)) _ _ (λ t. inr refl) (λ t. inl refl)

after_end-phase : (cfg : Config) (s : Seen) (b : Attempt) (f : Bool) → SameOrFails s.phase (after_end cfg s b f).phase
after_end-phase cfg s b f = if_cases (λ (x : Seen). SameOrFails s.phase x.phase) (is_live s b) _ _ (λ e. ended_by-phase cfg s b f) (λ e. inl refl)

after_ended-phase : (cfg : Config) (s : Seen) (d : ContainerId) (l : Option Launched) → SameOrFails s.phase (after_ended cfg s d l).phase
after_ended-phase cfg s d None = inl refl
after_ended-phase cfg s d (Some l) = after_end-phase cfg s _ _

pub end_there-phase : (n i : ℕ) (ls : List Launched) (s : Seen) → (end_there n i ls s).phase ≡ s.phase
end_there-phase n i [] s = refl
end_there-phase n i (l ∷ ls) s = if_cases (λ (x : Seen). x.phase ≡ s.phase) (nat_eq l.node n && (nat_lt l.incarnation i && is_live s l.attempt)) _ _ (λ t. end_there-phase n i ls _) (λ t. end_there-phase n i ls s)

pub heard-phase : (cfg : Config) (s : Seen) (p : Packet) → SameOrFails s.phase (heard cfg s p).phase
unfolding heard
heard-phase cfg s (Packet.Pending b) = if_cases (λ (x : Seen). SameOrFails s.phase x.phase) (is_some (find_launched s.launched b) && not (has s.asked b)) _ _ (λ t. inl refl) (λ t. inl refl)
heard-phase cfg s (Packet.Poll b) = if_cases (λ (x : Seen). SameOrFails s.phase x.phase) (is_some (find_launched s.launched b) && not (has s.asked b)) _ _ (λ t. inl refl) (λ t. inl refl)
heard-phase cfg s (Packet.Done b z) = if_cases (λ (x : Seen). SameOrFails s.phase x.phase) (may_accept s b) _ _ (λ t. inl refl) (λ t. inl refl)
heard-phase cfg s (Packet.Failed b) = after_end-phase cfg s b true
heard-phase cfg s (Packet.Ended d) = after_ended-phase cfg s d _
heard-phase cfg s (Packet.NodeUp m i) = if_cases (λ (x : Seen). SameOrFails s.phase x.phase) (nat_lt (s.known m) i) _ _ (λ t. inl (end_there-phase m i s.launched _)) (λ t. inl refl)
heard-phase cfg s (Packet.FetchLost d b) = if_cases (λ (x : Seen). SameOrFails s.phase x.phase) (is_some (find_container s.launched d) && has s.recorded b) _ _ (λ t. inl refl) (λ t. inl refl)
heard-phase cfg s (Packet.Where d m) = inl refl
heard-phase cfg s _ = inl refl

pub known-phase : (s : Seen) (p : Packet) → (only_known s p).phase ≡ s.phase
known-phase s (Packet.NodeUp m i) = if_cases (λ (x : Seen). x.phase ≡ s.phase) (can_hear s.phase && nat_lt (s.known m) i) _ _ (λ t. refl) (λ t. refl)
known-phase s _ = refl

-- a packet that comes leaves the phase, or makes a Running one Failing
pub came-phase : (cfg : Config) (k : ℕ) (s : Seen) (p : Packet) → ((next_seen cfg k s (Came p)).phase ≡ s.phase) ⊎ ((is_running s.phase ≡ true) × ((next_seen cfg k s (Came p)).phase ≡ Failing false))
unfolding next_seen
came-phase cfg k s p = if_cases (λ (x : Seen). (x.phase ≡ s.phase) ⊎ ((is_running s.phase ≡ true) × (x.phase ≡ Failing false))) (is_running s.phase) _ _ (λ t. by t (heard-phase cfg s p)) (λ t. inl (known-phase s p))
  where
    by : is_running s.phase ≡ true → SameOrFails s.phase (heard cfg s p).phase → ((heard cfg s p).phase ≡ s.phase) ⊎ ((is_running s.phase ≡ true) × ((heard cfg s p).phase ≡ Failing false))
    by t (inl e) = inl e
    by t (inr e) = inr (t, e)

pub told-phase : (cfg : Config) (k : ℕ) (s : Seen) (call : Store) (r : Reply) → (next_seen cfg k s (Asks call r)).phase ≡ phase_told k s s.phase call r
unfolding next_seen told
told-phase cfg k s call r = if_cases (λ (x : Seen). x.phase ≡ phase_told k s s.phase call r) (is_running (phase_told k s s.phase call r) && not (is_running (with_read cfg (if is_fine r then worked s call else s) call r).phase)) _ _ (λ t. refl) (λ t. refl)

pub expires-phase : (cfg : Config) (k : ℕ) (s : Seen) (n : ℕ) → (next_seen cfg k s (Expires n)).phase ≡ s.phase
unfolding next_seen
expires-phase cfg k s n = expired-by (λ (x : Seen). x.phase ≡ s.phase) (λ u a t v. v) n s (λ st ks bs. refl)

pub launches-phase : (cfg : Config) (k : ℕ) (s : Seen) (l : Launched) → (next_seen cfg k s (Launches l)).phase ≡ s.phase
unfolding next_seen
launches-phase cfg k s l = refl

-- Nothing is launched before a master runs

abbrev pub is_early : Phase → Bool
is_early (Opening n) = true
is_early Setting_up = true
is_early (Recovering ws at) = true
is_early _ = false

at_work-early : (p : Phase) (tail : List Record) (call : Store) (r : Reply) → is_early p ≡ false → is_early (after_flush p tail) ≡ false → is_early (at_work p tail call r) ≡ false
at_work-early p tail (Append_record x) r e f = if_cases (λ q. is_early q ≡ false) (is_fine r) _ _ (λ t. e) (λ t. refl)
at_work-early p tail Flush r e f = if_cases (λ q. is_early q ≡ false) (is_fine r) _ _ (λ t. f) (λ t. refl)
at_work-early p tail (Names op) r e f = refl
at_work-early p tail Read_history r e f = refl

refused-early : (r : Reply) → is_early (refused r) ≡ false
refused-early (Refused (Superseded f)) = refl
refused-early _ = refl

merging-early : (ms : List Merge_step) (r : Reply) (ok : Commit_step) → is_early (merging ms r ok) ≡ false
merging-early [] r ok = refused-early r
merging-early (Look_at f t d ∷ ms) (Found None) ok = refl
merging-early (Look_at f t d ∷ ms) (Found (Some k)) ok = refl
merging-early (Look_at f t d ∷ ms) (Refused (Superseded g)) ok = refl
merging-early (Look_at f t d ∷ ms) _ ok = refl
merging-early (List_into f t ∷ ms) (Entries es) ok = refl
merging-early (List_into f t ∷ ms) (Refused (Superseded g)) ok = refl
merging-early (List_into f t ∷ ms) _ ok = refl
merging-early (Delete_then f t ∷ ms) r ok = if_cases (λ q. is_early q ≡ false) (is_fine r) _ _ (λ t. refl) (λ t. refused-early r)
merging-early (Move_to f t ∷ ms) r ok = if_cases (λ q. is_early q ≡ false) (is_fine r) _ _ (λ t. refl) (λ t. refused-early r)

committing-early : (k : ℕ) (at : Commit_step) (r : Reply) → is_early (committing k at r) ≡ false
committing-early k List_job (Entries es) = refl
committing-early k List_job (Refused (Superseded g)) = refl
committing-early k List_job _ = refl
committing-early k (Merging ms) r = merging-early ms r _
committing-early k Cleaning r = if_cases (λ q. is_early q ≡ false) (is_cleared r) _ _ (λ t. refl) (λ t. refused-early r)
committing-early k Marking r = if_cases (λ q. is_early q ≡ false) (is_fine r) _ _ (λ t. refl) (λ t. refused-early r)
committing-early k Succeeding r = if_cases (λ q. is_early q ≡ false) (is_fine r) _ _ (λ t. refl) (λ t. refl)
committing-early k Failing_mark r = if_cases (λ q. is_early q ≡ false) (is_fine r) _ _ (λ t. refl) (λ t. refl)
committing-early k Aborting r = if_cases (λ q. is_early q ≡ false) (is_superseded r) _ _ (λ t. refl) (λ t. refl)

running-early : (tail : List Record) (call : Store) (r : Reply) → is_early (running tail call r) ≡ false
running-early tail (Names op) r = if_cases (λ q. is_early q ≡ false) (is_fine r) _ _ (λ t. if_cases (λ q. is_early q ≡ false) (is_some (bar_of op)) _ _ (λ b. refl) (λ b. refl)) (λ t. refl)
running-early tail (Append_record x) r = at_work-early Running tail (Append_record x) r refl refl
running-early tail Flush r = at_work-early Running tail Flush r refl refl
running-early tail Read_history r = refl

failing-early : (f : Bool) (tail : List Record) (call : Store) (r : Reply) → is_early (failing f tail call r) ≡ false
failing-early f tail (Names op) r = if_cases (λ q. is_early q ≡ false) (is_cleared r) _ _ (λ t. refl) (λ t. refl)
failing-early f tail (Append_record x) r = at_work-early (Failing f) tail (Append_record x) r refl refl
failing-early f tail Flush r = at_work-early (Failing f) tail Flush r refl refl
failing-early f tail Read_history r = refl

pub told-early : (k : ℕ) (s : Seen) (p : Phase) (call : Store) (r : Reply) → is_early (phase_told k s p call r) ≡ true → is_early p ≡ true
unfolding phase_told
told-early k s (Opening n) call r e = refl
told-early k s Setting_up call r e = refl
told-early k s (Recovering ws at) call r e = refl
told-early k s Running call r e = absurd (false≢true (sym (running-early s.tail call r) ∙ e))
told-early k s (Failing f) call r e = absurd (false≢true (sym (failing-early f s.tail call r) ∙ e))
told-early k s (Committing at) call r e = absurd (false≢true (sym (committing-early k at r) ∙ e))
told-early k s (Finished b) call r e = absurd (false≢true e)
told-early k s Stopped call r e = absurd (false≢true e)

running-not-early : (p : Phase) → is_running p ≡ true → is_early p ≡ false
running-not-early Running e = refl
running-not-early p e = absurd (false≢true e)

launched-same : (cfg : Config) (ls : List Launched) → Closed cfg (λ s l. ⊥) (λ s. s.launched ≡ ls)
launched-same cfg ls = record { asks = λ s a o. o; ends = λ s a f due p o. o; accepts = λ s a st due o. o; knows = λ s f ps o. o; calls = λ s p ws st rs ks h due tail o. o; launches = λ s l due u o. absurd u; expires = λ s ks bs o. o }

abbrev EarlyEmpty : Seen → Type 0
EarlyEmpty s = is_early s.phase ≡ true → s.launched ≡ []

next-early : (cfg : Config) (w : World) (k : ℕ) (x : Master_step) → Allowed cfg w k x → EarlyEmpty (seen_by cfg w k) → EarlyEmpty (next_seen cfg k (seen_by cfg w k) x)
next-early cfg w k (Came p) a o e = next-closed cfg (λ s l. ⊥) (λ s. s.launched ≡ []) (launched-same cfg []) k (seen_by cfg w k) (Came p) tt (o (by (came-phase cfg k (seen_by cfg w k) p)))
  where
    by : ((next_seen cfg k (seen_by cfg w k) (Came p)).phase ≡ (seen_by cfg w k).phase) ⊎ ((is_running (seen_by cfg w k).phase ≡ true) × ((next_seen cfg k (seen_by cfg w k) (Came p)).phase ≡ Failing false)) → is_early (seen_by cfg w k).phase ≡ true
    by (inl q) = subst (λ z. is_early z ≡ true) q e
    by (inr q) = absurd (false≢true (subst (λ z. is_early z ≡ true) q.1 e))
next-early cfg w k (Launches l) a o e = absurd (false≢true (sym (running-not-early (seen_by cfg w k).phase a.0) ∙ subst (λ z. is_early z ≡ true) (launches-phase cfg k (seen_by cfg w k) l) e))
next-early cfg w k (Expires n) a o e = absurd (false≢true (sym (running-not-early (seen_by cfg w k).phase a) ∙ subst (λ z. is_early z ≡ true) (expires-phase cfg k (seen_by cfg w k) n) e))
next-early cfg w k (Asks call r) a o e = next-closed cfg (λ s l. ⊥) (λ s. s.launched ≡ []) (launched-same cfg []) k (seen_by cfg w k) (Asks call r) tt
    (o (told-early k (seen_by cfg w k) (seen_by cfg w k).phase call r (subst (λ z. is_early z ≡ true) (told-phase cfg k (seen_by cfg w k) call r) e)))

-- The tasks launched

abbrev pub Small : Config → Launched → Type 0
Small cfg l = (is_reduce l.attempt) ≡ true → IsReduce cfg l.attempt.task

small-closed : (cfg : Config) → Closed cfg (λ s l. Small cfg l) (λ s. (l : Launched) → In l s.launched → Small cfg l)
small-closed cfg = record { asks = λ s a o. o; ends = λ s a f due p o. o; accepts = λ s a st due o. o; knows = λ s f ps o. o; calls = λ s p ws st rs ks h due tail o. o; launches = launches; expires = λ s ks bs o. o }
  where
    launches : (s : Seen) (l : Launched) (due : List Record) → Small cfg l → ((l : Launched) → In l s.launched → Small cfg l) → (m : Launched) → In m (l ∷ s.launched) → Small cfg m
    launches s l due u o m (inl e) = subst (Small cfg) e u
    launches s l due u o m (inr i) = o m i

-- An attempt is accepted as its Done comes

abbrev SaidFor : World → ℕ → Seen → Type 0
SaidFor u k s = (a : Attempt) → In a s.accepted → (z : Option ℕ) × In (to_app k (Done a z)) u.bag

same-accepted : (cfg : Config) (bs : List Attempt) (s : Seen) (p : Packet) → s.accepted ≡ bs → ((a : Attempt) (z : Option ℕ) → p ≡ Done a z → ⊥) → (heard cfg s p).accepted ≡ bs
unfolding heard
same-accepted cfg bs s p e n = by p n
  where
    P : Seen → Type 0
    P x = x.accepted ≡ bs

    ended : (b : Attempt) (f : Bool) → P (ended_by cfg s b f)
    ended b false = e
    ended b true = if_cases P (nat_le cfg.limit (failures (over_with s b true) b) && not (is_won s (is_reduce b) b.task)) _ _ (λ t. e) (λ t. e)

    end : (b : Attempt) (f : Bool) → P (after_end cfg s b f)
    end b f = if_cases P (is_live s b) _ _ (λ t. ended b f) (λ t. e)

    of_container : (d : ContainerId) (l : Option Launched) → P (after_ended cfg s d l)
    of_container d None = e
    of_container d (Some l) = end _ _

    there : (n i : ℕ) (ls : List Launched) (x : Seen) → P x → P (end_there n i ls x)
    there n i [] x o = o
    there n i (l ∷ ls) x o = if_cases P (nat_eq l.node n && (nat_lt l.incarnation i && is_live x l.attempt)) _ _ (λ t. there n i ls _ o) (λ t. there n i ls x o)

    by : (p : Packet) → ((a : Attempt) (z : Option ℕ) → p ≡ Done a z → ⊥) → P (heard cfg s p)
    by (Packet.Done b z) n = absurd (n b z refl)
    by (Packet.Pending b) n = if_cases P (is_some (find_launched s.launched b) && not (has s.asked b)) _ _ (λ t. e) (λ t. e)
    by (Packet.Poll b) n = if_cases P (is_some (find_launched s.launched b) && not (has s.asked b)) _ _ (λ t. e) (λ t. e)
    by (Packet.Failed b) n = end b true
    by (Packet.Ended d) n = of_container d _
    by (Packet.NodeUp m i) n = if_cases P (nat_lt (s.known m) i) _ _ (λ t. there m i s.launched _ e) (λ t. e)
    by (Packet.FetchLost d b) n = if_cases P (is_some (find_container s.launched d) && has s.recorded b) _ _ (λ t. e) (λ t. e)
    by (Packet.Where d m) n = e
    by _ n = e

known-accepted : (s : Seen) (p : Packet) → (only_known s p).accepted ≡ s.accepted
known-accepted s (Packet.NodeUp m i) = if_cases (λ (x : Seen). x.accepted ≡ s.accepted) (can_hear s.phase && nat_lt (s.known m) i) _ _ (λ t. refl) (λ t. refl)
known-accepted s _ = refl

came-said : (cfg : Config) (u : World) (k : ℕ) (s : Seen) (p : Packet) → In (to_app k p) u.bag → SaidFor u k s → SaidFor u k (next_seen cfg k s (Came p))
unfolding next_seen heard
came-said cfg u k s p i o = if_cases (SaidFor u k) (is_running s.phase) _ _ (λ t. hear p i) (λ t. subst (λ (x : List Attempt). (a : Attempt) → In a x → (z : Option ℕ) × In (to_app k (Done a z)) u.bag) (sym (known-accepted s p)) o)
  where
    other : (p : Packet) → ((a : Attempt) (z : Option ℕ) → p ≡ Done a z → ⊥) → SaidFor u k (heard cfg s p)
    other p n = subst (λ (x : List Attempt). (a : Attempt) → In a x → (z : Option ℕ) × In (to_app k (Done a z)) u.bag) (sym (same-accepted cfg s.accepted s p refl n)) o

    hear : (p : Packet) → In (to_app k p) u.bag → SaidFor u k (heard cfg s p)
    hear (Packet.Done b z) i = if_cases (SaidFor u k) (may_accept s b) _ _ (λ t. by) (λ t. o)
      where
        by : (a : Attempt) → In a (b ∷ s.accepted) → (z : Option ℕ) × In (to_app k (Done a z)) u.bag
        by a (inl e) = (z, subst (λ x. In (to_app k (Done x z)) u.bag) e i)
        by a (inr j) = o a j
    hear (Packet.Pending b) i = other (Packet.Pending b) (λ b' z' (q : Packet.Pending b ≡ Packet.Done b' z'). cc)
    hear (Packet.Poll b) i = other (Packet.Poll b) (λ b' z' (q : Packet.Poll b ≡ Packet.Done b' z'). cc)
    hear (Packet.Failed b) i = other (Packet.Failed b) (λ b' z' (q : Packet.Failed b ≡ Packet.Done b' z'). cc)
    hear (Packet.Ended d) i = other (Packet.Ended d) (λ b' z' (q : Packet.Ended d ≡ Packet.Done b' z'). cc)
    hear (Packet.NodeUp m j) i = other (Packet.NodeUp m j) (λ b' z' (q : Packet.NodeUp m j ≡ Packet.Done b' z'). cc)
    hear (Packet.FetchLost d b) i = other (Packet.FetchLost d b) (λ b' z' (q : Packet.FetchLost d b ≡ Packet.Done b' z'). cc)
    hear (Packet.Where d m) i = other (Packet.Where d m) (λ b' z' (q : Packet.Where d m ≡ Packet.Done b' z'). cc)
    hear (Packet.Launch c a j) i = other (Packet.Launch c a j) (λ b' z' (q : Packet.Launch c a j ≡ Packet.Done b' z'). cc)
    hear (Packet.Kill c) i = other (Packet.Kill c) (λ b' z' (q : Packet.Kill c ≡ Packet.Done b' z'). cc)
    hear (Packet.Fetch c a r j o) i = other (Packet.Fetch c a r j o) (λ b' z' (q : Packet.Fetch c a r j o ≡ Packet.Done b' z'). cc)
    hear (Packet.Won t a) i = other (Packet.Won t a) (λ b' z' (q : Packet.Won t a ≡ Packet.Done b' z'). cc)
    hear (Packet.Outcome b) i = other (Packet.Outcome b) (λ b' z' (q : Packet.Outcome b ≡ Packet.Done b' z'). cc)
    hear (Packet.Answer a b) i = other (Packet.Answer a b) (λ b' z' (q : Packet.Answer a b ≡ Packet.Done b' z'). cc)
    hear (Packet.DoneAck a) i = other (Packet.DoneAck a) (λ b' z' (q : Packet.DoneAck a ≡ Packet.Done b' z'). cc)
    hear (Packet.MapReady m a n j) i = other (Packet.MapReady m a n j) (λ b' z' (q : Packet.MapReady m a n j ≡ Packet.Done b' z'). cc)
    hear (Packet.Piece a r o t b) i = other (Packet.Piece a r o t b) (λ b' z' (q : Packet.Piece a r o t b ≡ Packet.Done b' z'). cc)

asks-accepted : (cfg : Config) (k : ℕ) (s : Seen) (call : Store) (r : Reply) → (next_seen cfg k s (Asks call r)).accepted ≡ s.accepted
unfolding next_seen told
asks-accepted cfg k s call r = if_cases P (is_running (phase_told k s s.phase call r) && not (is_running (with_read cfg (if is_fine r then worked s call else s) call r).phase)) _ _ (λ t. read) (λ t. read)
  where
    P : Seen → Type 0
    P x = x.accepted ≡ s.accepted

    works : (call : Store) → P (worked s call)
    works (Append_record x) = refl
    works Flush = refl
    works (Names op) = bar-by P s (bar_of op) (λ a t ks. refl) refl
    works Read_history = refl

    fine : P (if is_fine r then worked s call else s)
    fine = if_cases P (is_fine r) _ _ (λ t. works call) (λ t. refl)

    read : P (with_read cfg (if is_fine r then worked s call else s) call r)
    read = if_cases P (is_read call) _ _ (λ t. fine) (λ t. fine)

expires-accepted : (cfg : Config) (k : ℕ) (s : Seen) (n : ℕ) → (next_seen cfg k s (Expires n)).accepted ≡ s.accepted
unfolding next_seen
expires-accepted cfg k s n = expired-by (λ (x : Seen). x.accepted ≡ s.accepted) (λ u a t v. v) n s (λ st ks bs. refl)

launches-accepted : (cfg : Config) (k : ℕ) (s : Seen) (l : Launched) → (next_seen cfg k s (Launches l)).accepted ≡ s.accepted
unfolding next_seen
launches-accepted cfg k s l = refl

next-said : (cfg : Config) (w u : World) (k : ℕ) (s : Seen) (x : Master_step) → StepFits cfg w k x → ((p : Packet) → In (to_app k p) w.bag → In (to_app k p) u.bag) → SaidFor u k s → SaidFor u k (next_seen cfg k s x)
next-said cfg w u k s (Came p) i g o = came-said cfg u k s p (g p i) o
next-said cfg w u k s (Launches l) i g o = subst (λ (x : List Attempt). (a : Attempt) → In a x → (z : Option ℕ) × In (to_app k (Done a z)) u.bag) (sym (launches-accepted cfg k s l)) o
next-said cfg w u k s (Expires n) i g o = subst (λ (x : List Attempt). (a : Attempt) → In a x → (z : Option ℕ) × In (to_app k (Done a z)) u.bag) (sym (expires-accepted cfg k s n)) o
next-said cfg w u k s (Asks call r) i g o = subst (λ (x : List Attempt). (a : Attempt) → In a x → (z : Option ℕ) × In (to_app k (Done a z)) u.bag) (sym (asks-accepted cfg k s call r)) o

-- what is over stays over

over-closed : (cfg : Config) (a : Attempt) → Closed cfg (λ s l. Unit {0}) (λ s. is_over s.ended a ≡ true)
over-closed cfg a = record { asks = λ s b o. o; ends = λ s b f due p o. over-more (record { attempt = b; is_failure = f }) s.ended a o; accepts = λ s b st due o. o; knows = λ s f ps o. o; calls = λ s p ws st rs ks h due tail o. o; launches = λ s l due u o. o; expires = λ s ks bs o. o }

any-launch : (s : Seen) (x : Master_step) → LaunchFits (λ s l. Unit {0}) s x
any-launch s (Came p) = tt
any-launch s (Launches l) = tt
any-launch s (Expires n) = tt
any-launch s (Asks call r) = tt

pub over-stays : (cfg : Config) (w : World) (e : Event) (k : ℕ) (a : Attempt) → is_over (seen_by cfg w k).ended a ≡ true → is_over (seen_by cfg (effect cfg w e) k).ended a ≡ true
over-stays cfg w e k a o = seen_after (λ s. is_over s.ended a ≡ true) cfg w (master_act cfg w e) k o
    (λ x q m. next-closed cfg (λ s l. Unit {0}) (λ s. is_over s.ended a ≡ true) (over-closed cfg a) k (seen_by cfg w k) x.step (any-launch (seen_by cfg w k) x.step) o)

pub record Masters (cfg : Config) (w : World) : Type 0 where
  pub early : (k : ℕ) → is_early (seen_by cfg w k).phase ≡ true → (seen_by cfg w k).launched ≡ []
  pub small : (k : ℕ) (l : Launched) → In l (seen_by cfg w k).launched → Small cfg l
  pub said : (k : ℕ) (a : Attempt) → In a (seen_by cfg w k).accepted → (z : Option ℕ) × In (to_app k (Done a z)) w.bag

pub masters : (cfg : Config) (w : World) (e : Event) → Masters cfg w → not_now cfg w e ≡ None → Masters cfg (effect cfg w e)
masters cfg w e h n = record {
  early = λ k. seen_after EarlyEmpty cfg w (master_act cfg w e) k (h.early k) (λ a q m. next-early cfg w k a.step (allowed a q k m) (h.early k));
  small = λ k. seen_after (λ s. (l : Launched) → In l s.launched → Small cfg l) cfg w (master_act cfg w e) k (h.small k)
      (λ a q m. next-closed cfg (λ s l. Small cfg l) (λ s. (l : Launched) → In l s.launched → Small cfg l) (small-closed cfg) k (seen_by cfg w k) a.step (fits k a.step (allowed a q k m)) (h.small k));
  said = λ k. let o : SaidFor (effect cfg w e) k (seen_by cfg w k) = λ a i. let m = h.said k a i in (m.0, In-left _ w.bag (sent cfg w e) m.1) in
      seen_after (SaidFor (effect cfg w e) k) cfg w (master_act cfg w e) k o
      (λ a q m. next-said cfg w (effect cfg w e) k (seen_by cfg w k) a.step (subst (λ z. StepFits cfg w z a.step) m (step-fits cfg w e a q)) (λ p i. In-left _ w.bag (sent cfg w e) i) o);
}
  where
    allowed : (a : Master_act) → master_act cfg w e ≡ Some a → (k : ℕ) → a.who ≡ k → Allowed cfg w k a.step
    allowed a q k m = subst (λ x. Allowed cfg w x a.step) m (is_allowed cfg w _ (permits cfg w e n) a q).1

    fits : (k : ℕ) (x : Master_step) → Allowed cfg w k x → LaunchFits (λ s l. Small cfg l) (seen_by cfg w k) x
    fits k (Came p) a = tt
    fits k (Launches l) a = λ r. (a.1 r).0
    fits k (Expires n) a = tt
    fits k (Asks call r) a = tt

pub opening-masters : (cfg : Config) → Masters cfg opening_world
unfolding seen
opening-masters cfg = record { early = λ k e. refl; small = λ k l i. absurd i; said = λ k a i. absurd i }
