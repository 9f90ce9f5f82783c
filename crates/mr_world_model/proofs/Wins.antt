-- Whether a reduce is won is read off its calls as off the master's past, while the master is Running.
use Rattle.std.proofs.Common.{ℕ, ◌≡◌, refl, sym, ◌∙◌, ap, subst, Bool, true, false, ◌&&◌, ◌||◌, not, List, [], ◌∷◌, ◌++◌, Option, Some, None, if◌then◌else◌, is_some, is_none, nat_eq, nat_lt, nat_le, inl, inr, true≢false}
use Rattle.std.proofs.lemmas.Bool.{and_parts, false≢true, not-true}
use Rattle.mr_ids.specs.Same.{same_task}
use Rattle.mr_ids.proofs.Same.{task-itself}
use Rattle.mr_grant.specs.Attempts as grant
use Rattle.mr_grant.specs.Attempts.{same_attempt, first_of}
use Rattle.mr_task.specs.Calls as task_call
use Rattle.mr_task.specs.Calls.{TaskCall}
use Rattle.mr_task.specs.Readings as task
use Rattle.mr_world_model.specs.Ids.{Attempt, ContainerId, TaskId, task_eq, is_reduce, of_reduces}
use Rattle.mr_world_model.specs.Content.{bar_of, Superseded}
use Rattle.mr_world_model.specs.Packets.{Config, Packet, Pending, Poll, Done, Failed, Ended, NodeUp, FetchLost, Store, Names, Append_record, Flush, Read_history, Reply, Refused, Found, Entries}
use Rattle.mr_world_model.specs.Hearing.{Seen, lose_there, containers_of, live_on, more_bars, in_task_order, is_named, is_over, stands, know, still_there, Phase, Opening, Setting_up, Recovering, Running, Committing, Failing, Finished, Stopped, Commit_step, List_job, Merging, Cleaning, Marking, Succeeding, Failing_mark, Aborting, Merge_step, Look_at, List_into, Delete_then, Move_to, Todo_winner, Launched, find_launched, find_container, has, has_container, has_winner, accepts_task, is_live, is_won, may_accept, failures, is_running, heard, only_known, after_ask, after_end, ended_by, over_with, after_ended, after_bar, end_there, end_maps, expired, placed, success_record, can_hear}
use Rattle.mr_world_model.specs.Duties.{Master_step, Came, Launches, Expires, Asks, seen, next_seen, is_fine, is_read, is_cleared, is_superseded, told, worked, with_phase, with_read, phase_told, failing, committing, merging, refused, after_flush, successes, newest_maps, attempts_of}
use Rattle.mr_world_model.specs.Records.{Record, AttemptStarted}
use Rattle.mr_world_model.specs.Calls.{TakenEarlier, Fits, AllFit, CallsAgree, Calls, tell, tell_each, tell_launched, tell_ended, tell_barred, is_launched, below, maps_on, lost_below, lost_on, calls_heard, calls_worked, calls_phased, calls_told, next_calls, calls, of_task, winning}
use Rattle.mr_world_model.proofs.Masters.{SameOrFails, is_early, heard-phase, expires-phase, known-phase, told-early}
use Rattle.mr_world_model.proofs.Basic.{if_cases}
use Rattle.mr_world_model.specs.Claims.{In}
use Rattle.mr_world_model.proofs.Agree.{AgreesOf, accepts-agrees, refusal-agrees, next-agrees, nothing-agrees, reduce-agrees, if_both}
use Rattle.mr_world_model.specs.Effect.{task_fault}
use Rattle.mr_world_model.proofs.Names.{task_eq-true}
pub use Rattle.mr_world_model.proofs.Reduce_won.{unlost, none-any, in-any, reduce-won}

pub record Wins (t : TaskId) (phase : Phase) (taken : List Attempt) (winners : List Todo_winner) (r_arrived r_accepted : List Attempt) : Type 0 where
  pub early : is_early phase ≡ true → (r_arrived ≡ []) × ((r_accepted ≡ []) × (accepts_task taken t ≡ false))
  pub during : is_running phase ≡ true → is_some (first_of r_accepted) ≡ (accepts_task taken t || has_winner winners t)

abbrev pub WinsOf : TaskId → Seen → task.Seen → Type 0
WinsOf t s r = Wins t s.phase s.accepted s.winners r.arrived r.accepted

-- the task keeps what has arrived and what was accepted
abbrev Keeps : task.Seen → task.Seen → Type 0
Keeps r x = (x.arrived ≡ r.arrived) × (x.accepted ≡ r.accepted)

-- so does the master
abbrev Quiet : Seen → Seen → Type 0
Quiet s x = (x.accepted ≡ s.accepted) × (x.winners ≡ s.winners)

running-late : (p : Phase) → is_running p ≡ true → is_early p ≡ true → ⊥
running-late Running e f = false≢true f
running-late p e f = false≢true e

calm : (t : TaskId) (s x : Seen) (r y : task.Seen) → SameOrFails s.phase x.phase → Quiet s x → Keeps r y → WinsOf t s r → WinsOf t x y
calm t s x r y p q e o = record { early = early p; during = during p }
  where
    early : SameOrFails s.phase x.phase → is_early x.phase ≡ true → (y.arrived ≡ []) × ((y.accepted ≡ []) × (accepts_task x.accepted t ≡ false))
    early (inl u) h = let w = o.early (ap (λ z. is_early z) (sym u) ∙ h) in (e.0 ∙ w.0, (e.1 ∙ w.1.0, ap (λ z. accepts_task z t) q.0 ∙ w.1.1))
    early (inr u) h = absurd (false≢true (ap (λ z. is_early z) (sym u) ∙ h))

    during : SameOrFails s.phase x.phase → is_running x.phase ≡ true → is_some (first_of y.accepted) ≡ (accepts_task x.accepted t || has_winner x.winners t)
    during (inl u) h = ap (λ z. is_some (first_of z)) e.1 ∙ (o.during (ap (λ z. is_running z) (sym u) ∙ h) ∙ (λ i. accepts_task (sym q.0 i) t || has_winner (sym q.1 i) t))
    during (inr u) h = absurd (false≢true (ap (λ z. is_running z) (sym u) ∙ h))

quiet-end : (cfg : Config) (s : Seen) (a : Attempt) (f : Bool) → Quiet s (after_end cfg s a f)
quiet-end cfg s a f = if_cases (λ x. Quiet s x) (is_live s a) _ _ (λ e. by f) (λ e. (refl, refl))
  where
    by : (f : Bool) → Quiet s (ended_by cfg s a f)
    by false = (refl, refl)
    by true = if_cases (λ x. Quiet s x) (nat_le cfg.limit (failures (over_with s a true) a) && not (is_won s (is_reduce a) a.task)) _ _ (λ e. (refl, refl)) (λ e. (refl, refl))

quiet-ended : (cfg : Config) (s : Seen) (d : ContainerId) (l : Option Launched) → Quiet s (after_ended cfg s d l)
quiet-ended cfg s d None = (refl, refl)
quiet-ended cfg s d (Some l) = quiet-end cfg s l.attempt (not (has_container s.killed d))

quiet-there : (n i : ℕ) (ls : List Launched) (s : Seen) → Quiet s (end_there n i ls s)
quiet-there n i [] s = (refl, refl)
quiet-there n i (l ∷ ls) s = if_cases (λ x. Quiet s x) (nat_eq l.node n && (nat_lt l.incarnation i && is_live s l.attempt)) _ _
    (λ e. quiet-there n i ls (record s { ended = record { attempt = l.attempt; is_failure = false } ∷ s.ended })) (λ e. quiet-there n i ls s)

quiet-maps : (n : ℕ) (ls : List Launched) (s : Seen) → Quiet s (end_maps n ls s)
quiet-maps n [] s = (refl, refl)
quiet-maps n (l ∷ ls) s = if_cases (λ x. Quiet s x) (nat_eq l.node n && (not (is_reduce l.attempt) && is_live s l.attempt)) _ _
    (λ e. quiet-maps n ls (record s { ended = over_with s l.attempt false })) (λ e. quiet-maps n ls s)

quiet-ask : (s : Seen) (a : Attempt) → Quiet s (after_ask s a)
quiet-ask s a = if_cases (λ x. Quiet s x) (is_some (find_launched s.launched a) && not (has s.asked a)) _ _ (λ e. (refl, refl)) (λ e. (refl, refl))

quiet-known : (s : Seen) (p : Packet) → Quiet s (only_known s p)
quiet-known s (NodeUp n i) = if_cases (λ x. Quiet s x) (can_hear s.phase && nat_lt (s.known n) i) _ _ (λ e. (refl, refl)) (λ e. (refl, refl))
quiet-known s _ = (refl, refl)

record Same (s x : Seen) : Type 0 where
  pub phase : x.phase ≡ s.phase
  pub quiet : Quiet s x

same-bar : (s : Seen) (a : Option Attempt) → Same s (after_bar s a)
same-bar s None = record { phase = refl; quiet = (refl, refl) }
same-bar s (Some a) = if_cases (λ x. Same s x) (is_live s a) _ _ (λ e. record { phase = refl; quiet = (refl, refl) }) (λ e. record { phase = refl; quiet = (refl, refl) })

same-worked : (s : Seen) (call : Store) → Same s (worked s call)
same-worked s (Append_record r) = record { phase = refl; quiet = (refl, refl) }
same-worked s Flush = record { phase = refl; quiet = (refl, refl) }
same-worked s (Names op) = same-bar s (bar_of op)
same-worked s Read_history = record { phase = refl; quiet = (refl, refl) }

-- ---- calls that keep

module _ (t : TaskId) (k : ℕ) where
  keep-end : (r : task.Seen) (a : Attempt) (f : Bool) → Keeps r (task.after_end r a f)
  keep-end r a f = if_cases (λ x. Keeps r x) (task.is_live r a) _ _ (λ e. (refl, refl)) (λ e. (refl, refl))

  keep-asks : (r : task.Seen) (a : Attempt) → Keeps r (task.next_seen t k r (task_call.Asks a))
  unfolding task.next_seen
  keep-asks r a = if_cases (λ x. Keeps r x) (grant.has r.arrived a && not (grant.has r.asked a)) _ _ (λ e. (refl, refl)) (λ e. (refl, refl))

  keep-fails : (r : task.Seen) (a : Attempt) → Keeps r (task.next_seen t k r (task_call.Fails a))
  unfolding task.next_seen
  keep-fails r a = keep-end r a true

  keep-ends : (r : task.Seen) (a : Attempt) (b : Bool) → Keeps r (task.next_seen t k r (task_call.Ends a b))
  unfolding task.next_seen
  keep-ends r a b = keep-end r a (not b)

  keep-dies : (r : task.Seen) (a : Attempt) → Keeps r (task.next_seen t k r (task_call.Dies a))
  unfolding task.next_seen
  keep-dies r a = keep-end r a false

  keep-records : (r : task.Seen) (a : Attempt) → Keeps r (task.next_seen t k r (task_call.Records a))
  unfolding task.next_seen
  keep-records r a = if_cases (λ x. Keeps r x) (grant.has r.accepted a) _ _ (λ e. (refl, refl)) (λ e. (refl, refl))

  keep-loses : (r : task.Seen) (a : Attempt) → Keeps r (task.next_seen t k r (task_call.Loses a))
  unfolding task.next_seen
  keep-loses r a = if_cases (λ x. Keeps r x) (not (task.is_reduce a.task.kind) && grant.has r.recorded a) _ _ (λ e. (refl, refl)) (λ e. (refl, refl))

  keep-tell : (c : Calls) (u : TaskId) (call : TaskCall) → Keeps (task.seen t k (c t)) (task.next_seen t k (task.seen t k (c t)) call) → Keeps (task.seen t k (c t)) (task.seen t k (tell u call c t))
  unfolding task.seen
  keep-tell c u call p = by (task_eq u t)
    where
      by : (b : Bool) → Keeps (task.seen t k (c t)) (task.seen t k (if b then call ∷ c t else c t))
      by true = p
      by false = (refl, refl)

  keep-each : (f : Attempt → TaskCall) → ((r : task.Seen) (a : Attempt) → Keeps r (task.next_seen t k r (f a))) → (xs : List Attempt) (c : Calls) →
      Keeps (task.seen t k (c t)) (task.seen t k (tell_each f xs c t))
  keep-each f q [] c = (refl, refl)
  keep-each f q (a ∷ xs) c = let u = keep-tell c a.task (f a) (q _ a) in let v = keep-each f q xs (tell a.task (f a) c) in (v.0 ∙ u.0, v.1 ∙ u.1)

-- ---- phases that lead to Running

late-flush : (b : Bool) (rs : List Record) → is_running (after_flush (Failing b) rs) ≡ false
late-flush b rs = refl

refused-late : (r : Reply) → is_running (refused r) ≡ false
refused-late (Refused (Superseded f)) = refl
refused-late _ = refl

merging-late : (ms : List Merge_step) (r : Reply) (ok : Commit_step) → is_running (merging ms r ok) ≡ false
merging-late [] r ok = refused-late r
merging-late (Look_at f t d ∷ ms) (Found None) ok = refl
merging-late (Look_at f t d ∷ ms) (Found (Some k)) ok = refl
merging-late (Look_at f t d ∷ ms) (Refused (Superseded g)) ok = refl
merging-late (Look_at f t d ∷ ms) _ ok = refl
merging-late (List_into f t ∷ ms) (Entries es) ok = refl
merging-late (List_into f t ∷ ms) (Refused (Superseded g)) ok = refl
merging-late (List_into f t ∷ ms) _ ok = refl
merging-late (Delete_then f t ∷ ms) r ok = if_cases (λ q. is_running q ≡ false) (is_fine r) _ _ (λ t. refl) (λ t. refused-late r)
merging-late (Move_to f t ∷ ms) r ok = if_cases (λ q. is_running q ≡ false) (is_fine r) _ _ (λ t. refl) (λ t. refused-late r)

committing-late : (k : ℕ) (at : Commit_step) (r : Reply) → is_running (committing k at r) ≡ false
committing-late k List_job (Entries es) = refl
committing-late k List_job (Refused (Superseded g)) = refl
committing-late k List_job _ = refl
committing-late k (Merging ms) r = merging-late ms r _
committing-late k Cleaning r = if_cases (λ q. is_running q ≡ false) (is_cleared r) _ _ (λ t. refl) (λ t. refused-late r)
committing-late k Marking r = if_cases (λ q. is_running q ≡ false) (is_fine r) _ _ (λ t. refl) (λ t. refused-late r)
committing-late k Succeeding r = if_cases (λ q. is_running q ≡ false) (is_fine r) _ _ (λ t. refl) (λ t. refl)
committing-late k Failing_mark r = if_cases (λ q. is_running q ≡ false) (is_fine r) _ _ (λ t. refl) (λ t. refl)
committing-late k Aborting r = if_cases (λ q. is_running q ≡ false) (is_superseded r) _ _ (λ t. refl) (λ t. refl)

failing-late : (f : Bool) (tail : List Record) (call : Store) (r : Reply) → is_running (failing f tail call r) ≡ false
failing-late f tail (Names op) r = if_cases (λ q. is_running q ≡ false) (is_cleared r) _ _ (λ t. refl) (λ t. refl)
failing-late f tail (Append_record x) r = if_cases (λ q. is_running q ≡ false) (is_fine r) _ _ (λ t. refl) (λ t. refl)
failing-late f tail Flush r = if_cases (λ q. is_running q ≡ false) (is_fine r) _ _ (λ t. refl) (λ t. refl)
failing-late f tail Read_history r = refl

pub starts-early : (k : ℕ) (s : Seen) (p : Phase) (call : Store) (r : Reply) → is_running (phase_told k s p call r) ≡ true → is_running p ≡ false → is_early p ≡ true
unfolding phase_told
starts-early k s (Opening n) call r e n' = refl
starts-early k s Setting_up call r e n' = refl
starts-early k s (Recovering ws at) call r e n' = refl
starts-early k s Running call r e n' = absurd (false≢true (sym n'))
starts-early k s (Failing f) call r e n' = absurd (false≢true (sym (failing-late f s.tail call r) ∙ e))
starts-early k s (Committing at) call r e n' = absurd (false≢true (sym (committing-late k at r) ∙ e))
starts-early k s (Finished b) call r e n' = absurd (false≢true e)
starts-early k s Stopped call r e n' = absurd (false≢true e)

-- a Running master that runs on read nothing
pub runs-on : (k : ℕ) (s : Seen) (p : Phase) (call : Store) (r : Reply) → is_running p ≡ true → is_running (phase_told k s p call r) ≡ true → is_read call ≡ false
unfolding phase_told
runs-on k s Running Read_history r e f = absurd (false≢true f)
runs-on k s Running (Names op) r e f = refl
runs-on k s Running (Append_record x) r e f = refl
runs-on k s Running Flush r e f = refl
runs-on k s p call r e f = absurd (false≢true e)

-- ---- what is taken over

abbrev any-of : TaskId → List Attempt → Bool
any-of t [] = false
any-of t (a ∷ as') = task_eq a.task t || any-of t as'

module _ (t : TaskId) (k : ℕ) where
  abbrev T : Calls → task.Seen
  T c = task.seen t k (c t)

  -- an attempt has arrived exactly where one is accepted
  abbrev Level : task.Seen → Type 0
  Level r = is_some (first_of r.arrived) ≡ is_some (first_of r.accepted)

  record Taken (r x : task.Seen) (b : Bool) : Type 0 where
    pub level : Level x
    pub won : is_some (first_of x.accepted) ≡ (is_some (first_of r.accepted) || b)

  or-none : (x : Bool) → x ≡ (x || false)
  or-none true = refl
  or-none false = refl

  or-assoc : (x y z : Bool) → ((x || y) || z) ≡ (x || (y || z))
  or-assoc true y z = refl
  or-assoc false y z = refl

  recovered : (r : task.Seen) (a : Attempt) → a.task ≡ t → Level r → Taken r (task.after_recovery t k r a) true
  recovered r a q level = by r.arrived r.accepted refl refl level
    where
      may : task.may_recover t r a ≡ is_none (first_of r.arrived)
      may = ap (λ b. is_none (first_of r.arrived) && b) (subst (λ u. same_task a.task u ≡ true) q (task-itself a.task)) ∙ and-true (is_none (first_of r.arrived))
        where
          and-true : (b : Bool) → (b && true) ≡ b
          and-true true = refl
          and-true false = refl

      by : (xs ys : List Attempt) → r.arrived ≡ xs → r.accepted ≡ ys → is_some (first_of r.arrived) ≡ is_some (first_of r.accepted) → Taken r (task.after_recovery t k r a) true
      by [] [] p u l = if_cases (λ y. Taken r y true) (task.may_recover t r a) _ _
          (λ e. record { level = refl; won = ap (λ z. is_some (first_of z) || true) (sym u) })
          (λ e. absurd (false≢true (sym e ∙ (may ∙ ap (λ z. is_none (first_of z)) p))))
      by (x ∷ xs) (y ∷ ys) p u l = if_cases (λ y. Taken r y true) (task.may_recover t r a) _ _
          (λ e. absurd (false≢true (sym (may ∙ ap (λ z. is_none (first_of z)) p) ∙ e)))
          (λ e. record { level = l; won = ap (λ z. is_some (first_of z)) u ∙ ap (λ z. is_some (first_of z) || true) (sym u) })
      by [] (y ∷ ys) p u l = absurd (false≢true (ap (λ z. is_some (first_of z)) (sym p) ∙ (l ∙ ap (λ z. is_some (first_of z)) u)))
      by (x ∷ xs) [] p u l = absurd (true≢false (ap (λ z. is_some (first_of z)) (sym p) ∙ (l ∙ ap (λ z. is_some (first_of z)) u)))

  taken-tell : (c : Calls) (a : Attempt) → Level (T c) → Taken (T c) (T (tell a.task (task_call.Recovers a) c)) (task_eq a.task t)
  unfolding task.seen task.next_seen
  taken-tell c a level = by (task_eq a.task t) refl
    where
      by : (b : Bool) → task_eq a.task t ≡ b → Taken (T c) (task.seen t k (if b then task_call.Recovers a ∷ c t else c t)) b
      by true e = recovered (T c) a (task_eq-true a.task t e) level
      by false e = record { level = level; won = or-none (is_some (first_of (T c).accepted)) }

  taken-each : (xs : List Attempt) (c : Calls) → Level (T c) → Taken (T c) (T (tell_each (λ a. task_call.Recovers a) xs c)) (any-of t xs)
  taken-each [] c level = record { level = level; won = or-none (is_some (first_of (T c).accepted)) }
  taken-each (a ∷ xs) c level =
      let u = taken-tell c a level in
      let v = taken-each xs (tell a.task (task_call.Recovers a) c) u.level in
      record { level = v.level; won = v.won ∙ (ap (λ z. z || any-of t xs) u.won ∙ or-assoc (is_some (first_of (T c).accepted)) (task_eq a.task t) (any-of t xs)) }

abbrev done_seen : Seen → Attempt → Option ℕ → Seen
done_seen s a bytes = record s { accepted = a ∷ s.accepted; standing = placed a (find_launched s.launched a) ++ s.standing; due = s.due ++ success_record a bytes (find_launched s.launched a) ∷ [] }

and-none : (b : Bool) → (b && false) ≡ false
and-none true = refl
and-none false = refl

no-maps : (t : TaskId) → of_reduces t.kind ≡ true → (xs : List Attempt) → ((a : Attempt) → In a xs → is_reduce a ≡ false) → any-of t xs ≡ false
no-maps t reduces [] h = refl
no-maps t reduces (x ∷ xs) h = by (task_eq x.task t) refl (no-maps t reduces xs (λ a i. h a (inr i)))
  where
    by : (b : Bool) → task_eq x.task t ≡ b → any-of t xs ≡ false → (b || any-of t xs) ≡ false
    by false e rest = rest
    by true e rest = absurd (false≢true (sym (h x (inl refl)) ∙ (ap (λ (u : TaskId). of_reduces u.kind) (task_eq-true x.task t e) ∙ reduces)))

own-winners : (t : TaskId) (ws : List Todo_winner) → ((w : Todo_winner) → In w ws → w.attempt.task ≡ w.task) → any-of t (winning ws) ≡ has_winner ws t
own-winners t [] h = refl
own-winners t (w ∷ ws) h = let here = h w (inl refl) in let rest = own-winners t ws (λ x i. h x (inr i)) in λ i. task_eq (here i) t || rest i

left-running : (x y : Bool) → (x && not y) ≡ false → x ≡ true → y ≡ true
left-running true true e f = refl
left-running true false e f = absurd (false≢true (sym e))
left-running false y e f = absurd (false≢true f)

module _ (t : TaskId) (k : ℕ) (cfg : Config) (reduces : of_reduces t.kind ≡ true) (s : Seen) (c : Calls) (g : AgreesOf t s (task.seen t k (c t))) (o : WinsOf t s (task.seen t k (c t))) where
  keep-launched : (a : Attempt) (call : TaskCall) → Keeps (task.seen t k (c t)) (task.next_seen t k (task.seen t k (c t)) call) → Keeps (task.seen t k (c t)) (task.seen t k (tell_launched s a call c t))
  keep-launched a call p = if_cases (λ (x : Calls). Keeps (task.seen t k (c t)) (task.seen t k (x t))) (is_launched s a) _ _ (λ l. keep-tell t k c a.task call p) (λ l. (refl, refl))

  wins-done : is_running s.phase ≡ true → (a : Attempt) (bytes : Option ℕ) → WinsOf t (heard cfg s (Done a bytes)) (task.seen t k (tell_launched s a (task_call.Reports a) c t))
  unfolding heard task.seen task.next_seen
  wins-done run a bytes = if_cases (λ (x : Calls). WinsOf t (heard cfg s (Done a bytes)) (task.seen t k (x t))) (is_launched s a) _ _ (λ l. told (task_eq a.task t) refl) (λ n. off n)
    where
      told : (b : Bool) → task_eq a.task t ≡ b → WinsOf t (heard cfg s (Done a bytes)) (task.seen t k (if b then task_call.Reports a ∷ c t else c t))
      told true e =
          let q = task_eq-true a.task t e in
          let red : is_reduce a ≡ true = ap (λ (u : TaskId). of_reduces u.kind) q ∙ reduces in
          if_both (WinsOf t) (may_accept s a) (task.may_accept (task.seen t k (c t)) a) (done_seen s a bytes) s
          (record (task.seen t k (c t)) { accepted = a ∷ (task.seen t k (c t)).accepted; is_fixed = task.is_reduce a.task.kind || (task.seen t k (c t)).is_fixed }) (task.seen t k (c t))
          (sym (accepts-agrees t s (task.seen t k (c t)) g reduces a q))
          (λ h. record { early = λ u. absurd (running-late s.phase run u); during = λ u. λ i. ((sym red i && sym e i) || accepts_task s.accepted t) || has_winner s.winners t }) o
      told false e =
          let nope : false ≡ (is_reduce a && task_eq a.task t) = sym (ap (λ b. is_reduce a && b) e ∙ and-none (is_reduce a)) in
          if_cases (λ x. WinsOf t x (task.seen t k (c t))) (may_accept s a) (done_seen s a bytes) s
          (λ h. record { early = λ u. absurd (running-late s.phase run u); during = λ u. o.during u ∙ (λ i. (nope i || accepts_task s.accepted t) || has_winner s.winners t) }) (λ h. o)

      off : is_launched s a ≡ false → WinsOf t (heard cfg s (Done a bytes)) (task.seen t k (c t))
      off n = if_cases (λ x. WinsOf t x (task.seen t k (c t))) (may_accept s a) (done_seen s a bytes) s
          (λ h. absurd (false≢true (sym n ∙ (and_parts (is_launched s a) (not (has s.accepted a) && (if is_reduce a then is_named s a else (not (is_over s.ended a) && is_none (stands s.standing a.task.number)))) h).0))) (λ h. o)

  keep-ended : (l : Option Launched) (b : Bool) → Keeps (task.seen t k (c t)) (task.seen t k (tell_ended l b c t))
  keep-ended None b = (refl, refl)
  keep-ended (Some l) b = keep-tell t k c l.attempt.task (task_call.Ends l.attempt b) (keep-ends t k (task.seen t k (c t)) l.attempt b)

  keep-two : (xs ys : List Attempt) → Keeps (task.seen t k (c t)) (task.seen t k (tell_each (λ a. task_call.Dies a) ys (tell_each (λ a. task_call.Loses a) xs c) t))
  keep-two xs ys =
      let u = keep-each t k (λ a. task_call.Loses a) (keep-loses t k) xs c in
      let v = keep-each t k (λ a. task_call.Dies a) (keep-dies t k) ys (tell_each (λ a. task_call.Loses a) xs c) in (v.0 ∙ u.0, v.1 ∙ u.1)

  wins-heard : is_running s.phase ≡ true → (p : Packet) → WinsOf t (heard cfg s p) (task.seen t k (calls_heard s p c t))
  unfolding heard calls_heard
  wins-heard run (Pending a) = calm t s (after_ask s a) (task.seen t k (c t)) (task.seen t k (calls_heard s (Pending a) c t)) (heard-phase cfg s (Pending a)) (quiet-ask s a) (keep-launched a (task_call.Asks a) (keep-asks t k (task.seen t k (c t)) a)) o
  wins-heard run (Poll a) = calm t s (after_ask s a) (task.seen t k (c t)) (task.seen t k (calls_heard s (Poll a) c t)) (heard-phase cfg s (Pending a)) (quiet-ask s a) (keep-launched a (task_call.Asks a) (keep-asks t k (task.seen t k (c t)) a)) o
  wins-heard run (Done a bytes) = wins-done run a bytes
  wins-heard run (Failed a) = calm t s (after_end cfg s a true) (task.seen t k (c t)) (task.seen t k (calls_heard s (Failed a) c t)) (heard-phase cfg s (Failed a)) (quiet-end cfg s a true) (keep-tell t k c a.task (task_call.Fails a) (keep-fails t k (task.seen t k (c t)) a)) o
  wins-heard run (Ended d) = calm t s (after_ended cfg s d (find_container s.launched d)) (task.seen t k (c t)) (task.seen t k (calls_heard s (Ended d) c t)) (heard-phase cfg s (Ended d)) (quiet-ended cfg s d (find_container s.launched d)) (keep-ended (find_container s.launched d) (has_container s.killed d)) o
  wins-heard run (NodeUp n i) = calm t s (heard cfg s (NodeUp n i)) (task.seen t k (c t)) (task.seen t k (calls_heard s (NodeUp n i) c t)) (heard-phase cfg s (NodeUp n i))
      (if_cases (λ x. Quiet s x) (nat_lt (s.known n) i) _ _ (λ e. quiet-there n i s.launched (record s { known = know s.known n i; standing = still_there s.recorded n i s.standing })) (λ e. (refl, refl)))
      (if_cases (λ (x : Calls). Keeps (task.seen t k (c t)) (task.seen t k (x t))) (nat_lt (s.known n) i) _ _ (λ e. keep-two (lost_below s.recorded n i s.standing) (below n i s.launched)) (λ e. (refl, refl))) o
  wins-heard run (FetchLost d a) = calm t s (heard cfg s (FetchLost d a)) (task.seen t k (c t)) (task.seen t k (calls_heard s (FetchLost d a) c t)) (heard-phase cfg s (FetchLost d a))
      (if_cases (λ x. Quiet s x) (is_some (find_container s.launched d) && has s.recorded a) _ _ (λ e. (refl, refl)) (λ e. (refl, refl)))
      (if_cases (λ (x : Calls). Keeps (task.seen t k (c t)) (task.seen t k (x t))) (is_some (find_container s.launched d)) _ _ (λ e. keep-tell t k c a.task (task_call.Loses a) (keep-loses t k (task.seen t k (c t)) a)) (λ e. (refl, refl))) o
  wins-heard run _ = o

  wins-launch : (l : Launched) → is_running s.phase ≡ true → WinsOf t (record s { launched = l ∷ s.launched; due = s.due ++ AttemptStarted l.attempt l.node ∷ [] }) (task.seen t k (tell l.attempt.task task_call.Launches c t))
  unfolding task.seen task.next_seen
  wins-launch l run = record { early = λ u. absurd (running-late s.phase run u); during = λ u. ap (λ z. is_some (first_of z)) (same (task_eq l.attempt.task t)) ∙ o.during u }
    where
      same : (b : Bool) → (task.seen t k (if b then task_call.Launches ∷ c t else c t)).accepted ≡ (task.seen t k (c t)).accepted
      same true = if_cases (λ (y : task.Seen). y.accepted ≡ (task.seen t k (c t)).accepted) (is_none (task.launch_refusal (task.seen t k (c t)))) _ _ (λ e. refl) (λ e. refl)
      same false = refl

  wins-phased : (p : Phase) (x : Seen) (d : Calls) → x.phase ≡ s.phase → x.accepted ≡ s.accepted → (is_running p ≡ true → is_running s.phase ≡ true → x.winners ≡ s.winners) →
      (is_early p ≡ true → is_early s.phase ≡ true) → (is_running p ≡ true → is_running s.phase ≡ false → is_early s.phase ≡ true) → Keeps (task.seen t k (c t)) (task.seen t k (d t)) → TakenEarlier k x →
      WinsOf t (with_phase p x) (task.seen t k (calls_phased p x d t))
  wins-phased p x d ph acc win earlier starts keep fits = by (is_running p && not (is_running x.phase)) refl
    where
      by : (b : Bool) → (is_running p && not (is_running x.phase)) ≡ b → WinsOf t
          (if b then record x { phase = p; standing = newest_maps x.known x.history []; recorded = attempts_of (newest_maps x.known x.history []) } else record x { phase = p })
          (task.seen t k ((if b then tell_each (λ a. task_call.Recovers a) (attempts_of (newest_maps x.known x.history [])) (tell_each (λ a. task_call.Recovers a) (winning x.winners) d) else d) t))
      by true e =
          let both = and_parts (is_running p) (not (is_running x.phase)) e in
          let w = o.early (starts both.0 (ap (λ z. is_running z) (sym ph) ∙ not-true (is_running x.phase) both.1)) in
          let arrived = keep.0 ∙ w.0 in
          let accepted = keep.1 ∙ w.1.0 in
          let u = taken-each t k (winning x.winners) d ((λ i. is_some (first_of (arrived i))) ∙ sym (λ i. is_some (first_of (accepted i)))) in
          let v = taken-each t k (attempts_of (newest_maps x.known x.history [])) (tell_each (λ a. task_call.Recovers a) (winning x.winners) d) u.level in
          let maps = no-maps t reduces (attempts_of (newest_maps x.known x.history [])) fits.are_maps in
          let own = own-winners t x.winners fits.own in
          let none = ap (λ z. accepts_task z t) acc ∙ w.1.1 in
          record {
            early = λ h. absurd (running-late p both.0 h);
            during = λ h. v.won ∙ ((λ i. u.won i || maps i) ∙ (or-false _ ∙ ((λ i. is_some (first_of (accepted i)) || own i) ∙ (λ i. sym none i || has_winner x.winners t))));
          }
        where
          or-false : (z : Bool) → (z || false) ≡ z
          or-false true = refl
          or-false false = refl
      by false e = record {
        early = λ h. let w = o.early (earlier h) in (keep.0 ∙ w.0, (keep.1 ∙ w.1.0, ap (λ z. accepts_task z t) acc ∙ w.1.1));
        during = λ h. let run = ap (λ z. is_running z) (sym ph) ∙ left-running (is_running p) (is_running x.phase) e h in
            ap (λ z. is_some (first_of z)) keep.1 ∙ (o.during run ∙ (λ i. accepts_task (sym acc i) t || has_winner (sym (win h run) i) t));
      }

  keep-worked : (call : Store) → Keeps (task.seen t k (c t)) (task.seen t k (calls_worked s call c t))
  keep-worked (Append_record r) = (refl, refl)
  keep-worked Flush = keep-each t k (λ a. task_call.Records a) (keep-records t k) (successes s.tail) c
  keep-worked (Names op) = barred (bar_of op)
    where
      barred : (a : Option Attempt) → Keeps (task.seen t k (c t)) (task.seen t k (tell_barred a c t))
      barred None = (refl, refl)
      barred (Some a) = keep-tell t k c a.task (task_call.Dies a) (keep-dies t k (task.seen t k (c t)) a)
  keep-worked Read_history = (refl, refl)

  wins-told : (call : Store) (r : Reply) → TakenEarlier k (with_read cfg (if is_fine r then worked s call else s) call r) → WinsOf t (told cfg k s call r) (task.seen t k (calls_told cfg k s call r c t))
  unfolding told
  wins-told call r fits =
      let w = fine (is_fine r) in
      wins-phased (phase_told k s s.phase call r) (with_read cfg (if is_fine r then worked s call else s) call r) (if is_fine r then calls_worked s call c else c)
      (read-phase (if is_fine r then worked s call else s) ∙ w.phase) (read-accepted (if is_fine r then worked s call else s) ∙ w.quiet.0)
      (λ h run. read-winners (if is_fine r then worked s call else s) (runs-on k s s.phase call r run h) ∙ w.quiet.1)
      (told-early k s s.phase call r) (starts-early k s s.phase call r) (kept (is_fine r)) fits
    where
      fine : (b : Bool) → Same s (if b then worked s call else s)
      fine true = same-worked s call
      fine false = record { phase = refl; quiet = (refl, refl) }

      kept : (b : Bool) → Keeps (task.seen t k (c t)) (task.seen t k ((if b then calls_worked s call c else c) t))
      kept true = keep-worked call
      kept false = (refl, refl)

      read-phase : (x : Seen) → (with_read cfg x call r).phase ≡ x.phase
      read-phase x = if_cases (λ (z : Seen). z.phase ≡ x.phase) (is_read call) _ _ (λ e. refl) (λ e. refl)

      read-accepted : (x : Seen) → (with_read cfg x call r).accepted ≡ x.accepted
      read-accepted x = if_cases (λ (z : Seen). z.accepted ≡ x.accepted) (is_read call) _ _ (λ e. refl) (λ e. refl)

      read-winners : (x : Seen) → is_read call ≡ false → (with_read cfg x call r).winners ≡ x.winners
      read-winners x n = if_cases (λ (z : Seen). z.winners ≡ x.winners) (is_read call) _ _ (λ e. absurd (false≢true (sym n ∙ e))) (λ e. refl)

  wins-next : (x : Master_step) → Fits cfg k s c x → WinsOf t (next_seen cfg k s x) (task.seen t k (next_calls cfg k s x c t))
  unfolding next_seen next_calls expired
  wins-next (Came p) fits = by (is_running s.phase) refl
    where
      by : (b : Bool) → is_running s.phase ≡ b → WinsOf t (if b then heard cfg s p else only_known s p) (task.seen t k ((if b then calls_heard s p c else c) t))
      by true e = wins-heard e p
      by false e = calm t s (only_known s p) (task.seen t k (c t)) (task.seen t k (c t)) (inl (known-phase s p)) (quiet-known s p) (refl, refl) o
  wins-next (Launches l) fits = wins-launch l fits.1.0
  wins-next (Expires n) fits = calm t s (next_seen cfg k s (Expires n)) (task.seen t k (c t)) (task.seen t k (next_calls cfg k s (Expires n) c t)) (inl (expires-phase cfg k s n))
      (quiet-maps n s.launched (record s { standing = lose_there s.recorded n s.standing; killed = containers_of (live_on s false n s.launched) ++ s.killed; bars = more_bars s.bars (in_task_order (live_on s true n s.launched)) }))
      (keep-two (lost_on s.recorded n s.standing) (maps_on n s.launched)) o
  wins-next (Asks call r) fits = wins-told call r fits

  won-agrees : is_running s.phase ≡ true → task.is_won (task.seen t k (c t)) ≡ is_won s (of_reduces t.kind) t
  won-agrees run = reduce-won t k (c t) reduces ∙ (o.during run ∙ ap (λ b. is_won s b t) (sym reduces))

-- ---- both, over every past

pub record Both (t : TaskId) (s : Seen) (r : task.Seen) : Type 0 where
  pub agrees : AgreesOf t s r
  pub wins : WinsOf t s r

pub both : (cfg : Config) (k : ℕ) (h : List Master_step) (t : TaskId) → of_reduces t.kind ≡ true → AllFit cfg k h → Both t (seen cfg k h) (of_task cfg k h t)
unfolding seen calls task.seen
both cfg k [] t reduces fit = record { agrees = nothing-agrees t k cfg; wins = record { early = λ e. (refl, (refl, refl)); during = λ e. absurd (false≢true e) } }
both cfg k (x ∷ h) t reduces fit =
    let o = both cfg k h t reduces fit.1 in
    let s = seen cfg k h in let c = calls cfg k h in
    record {
      agrees = next-agrees t k cfg s c x fit.0 o.agrees (accepts-agrees t s (of_task cfg k h t) o.agrees reduces)
          (λ l run fault q. refusal-agrees t s (of_task cfg k h t) o.agrees (won-agrees t k cfg reduces s c o.agrees o.wins run) (subst (λ u. task_fault s u ≡ None) q fault));
      wins = wins-next t k cfg reduces s c o.agrees o.wins x fit.0;
    }

pub calls_agree : CallsAgree
calls_agree cfg k h t reduces fit = let b = both cfg k h t reduces fit in let s = seen cfg k h in reduce-agrees cfg k h t reduces b.agrees (λ run. won-agrees t k cfg reduces s (calls cfg k h) b.agrees b.wins run)
