-- What is recorded of a task changes by records and recoveries alone; the successes in the tail were accepted, and are of their kinds.
use Rattle.std.proofs.Common.{ℕ, ◌≡◌, refl, sym, ◌∙◌, ap, subst, Bool, true, false, ◌&&◌, ◌||◌, not, List, [], ◌∷◌, ◌++◌, Option, Some, None, if◌then◌else◌, is_some, is_none, nat_lt, ◌⊎◌, inl, inr}
use Rattle.std.specs.List.{find}
use Rattle.std.proofs.lemmas.Bool.{false≢true}
use Rattle.mr_ids.specs.declared.id.TaskKind.{TaskKind}
use Rattle.mr_ids.specs.declared.id.TaskKind.TheVariants.{Map, Reduce}
use Rattle.mr_grant.specs.Attempts as grant
use Rattle.mr_grant.specs.Attempts.{same_attempt, first_of}
use Rattle.mr_grant.proofs.Same.{same-itself, same-is}
use Rattle.mr_task.specs.Calls as task_call
use Rattle.mr_task.specs.Calls.{TaskCall}
use Rattle.mr_task.specs.Readings as task
use Rattle.mr_task.proofs.Growth.{recorded-arrived}
use Rattle.mr_task.proofs.TaskLaws.{lost-none}
use Rattle.mr_world_model.specs.Ids.{Attempt, TaskId, task_eq, is_reduce, of_reduces}
use Rattle.mr_world_model.specs.Content.{bar_of}
use Rattle.mr_world_model.specs.Records.{winner_in, AttemptStarted, ReduceSucceeded}
use Rattle.mr_world_model.specs.Packets.{Config, Packet, Pending, Poll, Done, Failed, Ended, NodeUp, FetchLost, Store, Names, Append_record, Flush, Read_history, Reply}
use Rattle.mr_world_model.specs.Hearing.{Seen, Phase, Launched, find_container, has_container, is_running, accepts_task, heard, only_known}
use Rattle.mr_world_model.specs.Duties.{Master_step, Came, Launches, Expires, Asks, seen, next_seen, told, worked, with_phase, with_read, phase_told, is_fine, is_read}
use Rattle.mr_world_model.specs.Claims.{In}
use Rattle.mr_world_model.specs.Calls.{Calls, tell, tell_each, tell_launched, tell_ended, tell_barred, is_launched, below, lost_below, calls_heard, AppendsDue}
use Rattle.mr_world_model.specs.Made.{IsMade, AllMade, TellsOf}
use Rattle.mr_world_model.proofs.Basic.{if_cases}
use Rattle.mr_world_model.proofs.Lists.{In-parts, Each, Each-append}
use Rattle.mr_world_model.proofs.Names.{task_eq-true}
use Rattle.mr_world_model.proofs.Closed.{expired-by, bar-by}
use Rattle.mr_world_model.proofs.Sound.{SteadyOf, Steady, heard-steady, only_known-steady, expired-steady, told-steady}
use Rattle.mr_world_model.proofs.Told.{opening-steady}
use Rattle.mr_world_model.proofs.Told as closing
use Rattle.mr_world_model.proofs.Allowed.{first-due}
use Rattle.mr_world_model.proofs.Made.{fitted, appends-due}

-- ---- the successes that are due or in the tail were accepted

launch-steady : (s : Seen) (l : Launched) → SteadyOf [] s → Steady [] (l ∷ s.launched) s.accepted s.asked s.ended (s.due ++ AttemptStarted l.attempt l.node ∷ []) s.tail
unfolding winner_in
launch-steady s l o = record {
  launches = λ m i p. refl;
  accepts = o.accepts;
  named = o.named;
  dues = λ a z i. dues a z (In-parts _ s.due _ i);
  tails = o.tails;
}
  where
    dues : (a : Attempt) (z : Option ℕ) → In (ReduceSucceeded a z) s.due ⊎ In (ReduceSucceeded a z) (AttemptStarted l.attempt l.node ∷ []) → In a s.accepted × (is_reduce a ≡ true)
    dues a z (inl i) = o.dues a z i
    dues a z (inr (inl e)) = cc
    dues a z (inr (inr i)) = absurd i

step-steady : (cfg : Config) (k : ℕ) (s : Seen) (x : Master_step) → IsMade cfg k s x → SteadyOf [] s → SteadyOf [] (next_seen cfg k s x)
unfolding next_seen
step-steady cfg k s (Came p) m o = if_cases (SteadyOf []) (is_running s.phase) _ _ (λ t. heard-steady cfg [] s p o) (λ t. only_known-steady [] s p o)
step-steady cfg k s (Launches l) m o = launch-steady s l o
step-steady cfg k s (Expires n) m o = expired-steady [] n s o
step-steady cfg k s (Asks call r) m o = told-steady cfg k [] s call r (first-due cfg k s call m.0) o

pub steady : (cfg : Config) (k : ℕ) (h : List Master_step) → AllMade cfg k h → SteadyOf [] (seen cfg k h)
unfolding seen
steady cfg k [] m = opening-steady []
steady cfg k (x ∷ h) m = step-steady cfg k (seen cfg k h) x m.0 (steady cfg k h m.1)

-- ---- what is recorded of a task changes by records and recoveries alone

abbrev pub is_still : TaskCall → Bool
is_still (task_call.Records a) = false
is_still (task_call.Recovers a) = false
is_still _ = true

-- nor is more accepted by any other call than Done and a recovery
abbrev pub is_silent : TaskCall → Bool
is_silent (task_call.Reports a) = false
is_silent (task_call.Recovers a) = false
is_silent _ = true

module _ (t : TaskId) (k : ℕ) where
  still : (r : task.Seen) (call : TaskCall) → is_still call ≡ true → (task.next_seen t k r call).recorded ≡ r.recorded
  unfolding task.next_seen
  still r task_call.Launches e = if_cases (λ (y : task.Seen). y.recorded ≡ r.recorded) (is_none (task.launch_refusal r)) _ _ (λ e. refl) (λ e. refl)
  still r (task_call.Hears a) e = refl
  still r (task_call.Asks a) e = if_cases (λ (y : task.Seen). y.recorded ≡ r.recorded) (grant.has r.arrived a && not (grant.has r.asked a)) _ _ (λ e. refl) (λ e. refl)
  still r (task_call.Reports a) e = if_cases (λ (y : task.Seen). y.recorded ≡ r.recorded) (task.may_accept r a) _ _ (λ e. refl) (λ e. refl)
  still r (task_call.Fails a) e = if_cases (λ (y : task.Seen). y.recorded ≡ r.recorded) (task.is_live r a) _ _ (λ e. refl) (λ e. refl)
  still r (task_call.Ends a b) e = if_cases (λ (y : task.Seen). y.recorded ≡ r.recorded) (task.is_live r a) _ _ (λ e. refl) (λ e. refl)
  still r (task_call.Dies a) e = if_cases (λ (y : task.Seen). y.recorded ≡ r.recorded) (task.is_live r a) _ _ (λ e. refl) (λ e. refl)
  still r (task_call.Loses a) e = if_cases (λ (y : task.Seen). y.recorded ≡ r.recorded) (not (task.is_reduce a.task.kind) && grant.has r.recorded a) _ _ (λ e. refl) (λ e. refl)
  still r (task_call.Records a) e = absurd (false≢true e)
  still r (task_call.Recovers a) e = absurd (false≢true e)

  silent : (r : task.Seen) (call : TaskCall) → is_silent call ≡ true → (task.next_seen t k r call).accepted ≡ r.accepted
  unfolding task.next_seen
  silent r task_call.Launches e = if_cases (λ (y : task.Seen). y.accepted ≡ r.accepted) (is_none (task.launch_refusal r)) _ _ (λ e. refl) (λ e. refl)
  silent r (task_call.Hears a) e = refl
  silent r (task_call.Asks a) e = if_cases (λ (y : task.Seen). y.accepted ≡ r.accepted) (grant.has r.arrived a && not (grant.has r.asked a)) _ _ (λ e. refl) (λ e. refl)
  silent r (task_call.Records a) e = if_cases (λ (y : task.Seen). y.accepted ≡ r.accepted) (grant.has r.accepted a) _ _ (λ e. refl) (λ e. refl)
  silent r (task_call.Fails a) e = if_cases (λ (y : task.Seen). y.accepted ≡ r.accepted) (task.is_live r a) _ _ (λ e. refl) (λ e. refl)
  silent r (task_call.Ends a b) e = if_cases (λ (y : task.Seen). y.accepted ≡ r.accepted) (task.is_live r a) _ _ (λ e. refl) (λ e. refl)
  silent r (task_call.Dies a) e = if_cases (λ (y : task.Seen). y.accepted ≡ r.accepted) (task.is_live r a) _ _ (λ e. refl) (λ e. refl)
  silent r (task_call.Loses a) e = if_cases (λ (y : task.Seen). y.accepted ≡ r.accepted) (not (task.is_reduce a.task.kind) && grant.has r.recorded a) _ _ (λ e. refl) (λ e. refl)
  silent r (task_call.Reports a) e = absurd (false≢true e)
  silent r (task_call.Recovers a) e = absurd (false≢true e)

  abbrev pub T : Calls → task.Seen
  T c = task.seen t k (c t)

  abbrev pub Still : Calls → Calls → Type 0
  Still c d = (T d).recorded ≡ (T c).recorded

  pub still-tell : (u : TaskId) (call : TaskCall) (c : Calls) → is_still call ≡ true → Still c (tell u call c)
  unfolding task.seen
  still-tell u call c e = by (task_eq u t)
    where
      by : (b : Bool) → (task.seen t k (if b then call ∷ c t else c t)).recorded ≡ (T c).recorded
      by true = still (T c) call e
      by false = refl

  pub still-each : (f : Attempt → TaskCall) → ((a : Attempt) → is_still (f a) ≡ true) → (xs : List Attempt) (c : Calls) → Still c (tell_each f xs c)
  still-each f e [] c = refl
  still-each f e (a ∷ xs) c = still-each f e xs (tell a.task (f a) c) ∙ still-tell a.task (f a) c (e a)

  pub still-launched : (s : Seen) (a : Attempt) (call : TaskCall) (c : Calls) → is_still call ≡ true → Still c (tell_launched s a call c)
  still-launched s a call c e = if_cases (λ (d : Calls). Still c d) (is_launched s a) _ _ (λ l. still-tell a.task call c e) (λ l. refl)

  pub still-ended : (l : Option Launched) (b : Bool) (c : Calls) → Still c (tell_ended l b c)
  still-ended None b c = refl
  still-ended (Some l) b c = still-tell l.attempt.task (task_call.Ends l.attempt b) c refl

  pub still-barred : (a : Option Attempt) (c : Calls) → Still c (tell_barred a c)
  still-barred None c = refl
  still-barred (Some a) c = still-tell a.task (task_call.Dies a) c refl

  pub still-heard : (s : Seen) (p : Packet) (c : Calls) → Still c (calls_heard s p c)
  unfolding calls_heard
  still-heard s (Pending a) c = still-launched s a (task_call.Asks a) c refl
  still-heard s (Poll a) c = still-launched s a (task_call.Asks a) c refl
  still-heard s (Done a z) c = still-launched s a (task_call.Reports a) c refl
  still-heard s (Failed a) c = still-tell a.task (task_call.Fails a) c refl
  still-heard s (Ended d) c = still-ended (find_container s.launched d) (has_container s.killed d) c
  still-heard s (NodeUp n i) c = if_cases (λ (d : Calls). Still c d) (nat_lt (s.known n) i) _ _
      (λ e. still-each (λ a. task_call.Dies a) (λ a. refl) (below n i s.launched) (tell_each (λ a. task_call.Loses a) (lost_below s.recorded n i s.standing) c)
      ∙ still-each (λ a. task_call.Loses a) (λ a. refl) (lost_below s.recorded n i s.standing) c) (λ e. refl)
  still-heard s (FetchLost d a) c = if_cases (λ (x : Calls). Still c x) (is_some (find_container s.launched d)) _ _ (λ e. still-tell a.task (task_call.Loses a) c refl) (λ e. refl)
  still-heard s _ c = refl

  -- ---- records of what was accepted

  pub silent-tell : (u : TaskId) (call : TaskCall) (c : Calls) → is_silent call ≡ true → (T (tell u call c)).accepted ≡ (T c).accepted
  unfolding task.seen
  silent-tell u call c e = by (task_eq u t)
    where
      by : (b : Bool) → (task.seen t k (if b then call ∷ c t else c t)).accepted ≡ (T c).accepted
      by true = silent (T c) call e
      by false = refl

  abbrev pub Some_one : Calls → Bool
  Some_one c = is_some (first_of (T c).recorded)

  records-tell : (a : Attempt) (c : Calls) → of_reduces t.kind ≡ true → (a.task ≡ t → grant.has (T c).accepted a ≡ true) → Some_one (tell a.task (task_call.Records a) c) ≡ ((is_reduce a && task_eq a.task t) || Some_one c)
  unfolding task.seen task.next_seen
  records-tell a c reduces o = by (task_eq a.task t) refl
    where
      none : (x : Bool) (y : Bool) → y ≡ ((x && false) || y)
      none true y = refl
      none false y = refl

      by : (b : Bool) → task_eq a.task t ≡ b → is_some (first_of (task.seen t k (if b then task_call.Records a ∷ c t else c t)).recorded) ≡ ((is_reduce a && b) || Some_one c)
      by true e = let q = task_eq-true a.task t e in
          ap (λ (b : Bool). is_some (first_of (if b then record (T c) { recorded = a ∷ (T c).recorded } else T c).recorded)) (o q)
          ∙ ap (λ b. (b && true) || Some_one c) (sym (ap (λ (u : TaskId). of_reduces u.kind) q ∙ reduces))
      by false e = none (is_reduce a) (Some_one c)

  or-swap : (x y z : Bool) → (x || (y || z)) ≡ ((y || x) || z)
  or-swap true true z = refl
  or-swap true false z = refl
  or-swap false true z = refl
  or-swap false false z = refl

  pub records-each : (xs : List Attempt) (c : Calls) → of_reduces t.kind ≡ true → ((a : Attempt) → In a xs → a.task ≡ t → grant.has (T c).accepted a ≡ true) →
      Some_one (tell_each (λ a. task_call.Records a) xs c) ≡ (accepts_task xs t || Some_one c)
  records-each [] c reduces o = refl
  records-each (a ∷ xs) c reduces o =
      let here = records-tell a c reduces (o a (inl refl)) in
      let kept = silent-tell a.task (task_call.Records a) c refl in
      records-each xs (tell a.task (task_call.Records a) c) reduces (λ b i q. ap (λ l. grant.has l b) kept ∙ o b (inr i) q)
      ∙ (ap (λ z. accepts_task xs t || z) here ∙ or-swap (accepts_task xs t) (is_reduce a && task_eq a.task t) (Some_one c))

  -- ---- a recovery records what it accepts

  abbrev pub Level : task.Seen → Type 0
  Level r = r.recorded ≡ r.accepted

  level-tell : (a : Attempt) (c : Calls) → Level (T c) → Level (T (tell a.task (task_call.Recovers a) c))
  unfolding task.seen task.next_seen
  level-tell a c l = by (task_eq a.task t)
    where
      by : (b : Bool) → Level (task.seen t k (if b then task_call.Recovers a ∷ c t else c t))
      by true = if_cases Level (task.may_recover t (T c) a) _ _ (λ e. refl) (λ e. l)
      by false = l

  pub level-each : (xs : List Attempt) (c : Calls) → Level (T c) → Level (T (tell_each (λ a. task_call.Recovers a) xs c))
  level-each [] c l = l
  level-each (a ∷ xs) c l = level-each xs (tell a.task (task_call.Recovers a) c) (level-tell a c l)

  -- ---- a reduce's Succeeded attempt

  none-found : (p : Attempt → Bool) (xs : List Attempt) → ((a : Attempt) → p a ≡ false) → is_some (find p xs) ≡ false
  none-found p [] e = refl
  none-found p (x ∷ xs) e = ap (λ (b : Bool). is_some (if b then Some x else find p xs)) (e x) ∙ none-found p xs e

  one-found : (p : Attempt → Bool) (xs : List Attempt) (a : Attempt) → grant.has xs a ≡ true → p a ≡ true → is_some (find p xs) ≡ true
  one-found p [] a h e = absurd (false≢true h)
  one-found p (x ∷ xs) a h e = by (same_attempt a x) refl h (λ g. one-found p xs a g e)
    where
      some : (b : Bool) (o : Option Attempt) → is_some o ≡ true → is_some (if b then Some x else o) ≡ true
      some true o e = refl
      some false o e = e

      by : (b : Bool) → same_attempt a x ≡ b → (b || grant.has xs a) ≡ true → (grant.has xs a ≡ true → is_some (find p xs) ≡ true) → is_some (if p x then Some x else find p xs) ≡ true
      by true q h go = ap (λ (b : Bool). is_some (if b then Some x else find p xs)) (ap p (sym (same-is a x q)) ∙ e)
      by false q h go = some (p x) (find p xs) (go h)

  pub succeeded-is : (h : List TaskCall) → of_reduces t.kind ≡ true → is_some (task.succeeded (task.seen t k h)) ≡ is_some (first_of (task.seen t k h).recorded)
  succeeded-is h reduces = by (task.seen t k h).recorded refl
    where
      kind : (x : TaskKind) → of_reduces x ≡ true → x ≡ Reduce
      kind Reduce e = refl
      kind Map e = absurd (false≢true e)

      lost : (task.seen t k h).lost ≡ []
      lost = lost-none t k h (kind t.kind reduces)

      by : (xs : List Attempt) → (task.seen t k h).recorded ≡ xs → is_some (task.succeeded (task.seen t k h)) ≡ is_some (first_of xs)
      by [] q = none-found (task.has_succeeded (task.seen t k h)) (task.seen t k h).arrived (λ a. ap (λ l. grant.has l a && not (grant.has (task.seen t k h).lost a)) q)
      by (x ∷ xs) q =
          let there : grant.has (task.seen t k h).recorded x ≡ true = ap (λ l. grant.has l x) q ∙ ap (λ b. b || grant.has xs x) (same-itself x) in
          one-found (task.has_succeeded (task.seen t k h)) (task.seen t k h).arrived x (recorded-arrived t k h x there) (λ i. there i && not (grant.has (lost i) x))

-- ---- what is in the tail is of its kind

tail-of-heard : (cfg : Config) (s : Seen) (p : Packet) → (heard cfg s p).tail ≡ s.tail
tail-of-heard cfg s p = closing.heard-closed cfg (λ (x : Seen). x.tail ≡ s.tail) (record { asks = λ s a o. o; ends = λ s a f o. o; fails = λ s a due p o. o; accepts = λ s a st due o. o; knows = λ s f ps o. o }) s p refl

tail-of-known : (cfg : Config) (s : Seen) (p : Packet) → (only_known s p).tail ≡ s.tail
tail-of-known cfg s p = closing.known-closed cfg (λ (x : Seen). x.tail ≡ s.tail) (record { asks = λ s a o. o; ends = λ s a f o. o; fails = λ s a due p o. o; accepts = λ s a st due o. o; knows = λ s f ps o. o }) s p refl

abbrev pub TailTells : Config → ℕ → Seen → Type 0
TailTells cfg k s = Each (TellsOf cfg k) s.tail

tail-worked : (cfg : Config) (k : ℕ) (s : Seen) (call : Store) → AppendsDue s.due call → Each (TellsOf cfg k) s.due → TailTells cfg k s → TailTells cfg k (worked s call)
tail-worked cfg k s (Append_record r) d e o = Each-append (TellsOf cfg k) s.tail (r ∷ []) o ((subst (Each (TellsOf cfg k)) d e).0, tt)
tail-worked cfg k s Flush d e o = tt
tail-worked cfg k s (Names op) d e o = bar-by (TailTells cfg k) s (bar_of op) (λ a t ks. o) o
tail-worked cfg k s Read_history d e o = o

tail-told : (cfg : Config) (k : ℕ) (s : Seen) (call : Store) (r : Reply) → AppendsDue s.due call → Each (TellsOf cfg k) s.due → TailTells cfg k s → TailTells cfg k (told cfg k s call r)
unfolding told
tail-told cfg k s call r d e o = phased (phase_told k s s.phase call r) (with_read cfg (if is_fine r then worked s call else s) call r)
    (read (if is_fine r then worked s call else s) (if_cases (TailTells cfg k) (is_fine r) _ _ (λ t. tail-worked cfg k s call d e o) (λ t. o)))
  where
    phased : (p : Phase) (u : Seen) → TailTells cfg k u → TailTells cfg k (with_phase p u)
    phased p u v = if_cases (TailTells cfg k) (is_running p && not (is_running u.phase)) _ _ (λ t. v) (λ t. v)

    read : (u : Seen) → TailTells cfg k u → TailTells cfg k (with_read cfg u call r)
    read u v = if_cases (TailTells cfg k) (is_read call) _ _ (λ t. v) (λ t. v)

tail-step : (cfg : Config) (k : ℕ) (s : Seen) (x : Master_step) → IsMade cfg k s x → Each (TellsOf cfg k) s.due → TailTells cfg k s → TailTells cfg k (next_seen cfg k s x)
unfolding next_seen
tail-step cfg k s (Came p) m e o = if_cases (TailTells cfg k) (is_running s.phase) _ _ (λ t. subst (Each (TellsOf cfg k)) (sym (tail-of-heard cfg s p)) o) (λ t. subst (Each (TellsOf cfg k)) (sym (tail-of-known cfg s p)) o)
tail-step cfg k s (Launches l) m e o = o
tail-step cfg k s (Expires n) m e o = expired-by (TailTells cfg k) (λ u a t v. v) n s (λ st ks bs. o)
tail-step cfg k s (Asks call r) m e o = tail-told cfg k s call r (appends-due cfg k s call m.0) e o

pub tails : (cfg : Config) (k : ℕ) (h : List Master_step) → AllMade cfg k h → TailTells cfg k (seen cfg k h)
unfolding seen
tails cfg k [] m = tt
tails cfg k (x ∷ h) m = tail-step cfg k (seen cfg k h) x m.0 (fitted cfg k h m.1).dues (tails cfg k h m.1)
