-- Where a master begins to run, the tasks of its machine have heard alike.
use Rattle.std.proofs.Common.{ℕ, ◌≡◌, refl, sym, ◌∙◌, ap, subst, Bool, true, false, ◌&&◌, not, List, [], ◌∷◌, Option, Some, None, if◌then◌else◌, nat_lt, inl, inr}
use Rattle.std.proofs.lemmas.Bool.{false≢true}
use Rattle.mr_ids.specs.Attempt.{Attempt}
use Rattle.mr_ids.specs.Same.{same_task}
use Rattle.mr_ids.specs.declared.id.TaskId.{TaskId}
use Rattle.mr_history.specs.declared.record.Record.{Record}
use Rattle.mr_history.specs.declared.record.Record.TheVariants.{AttemptStarted, MapSucceeded, ReduceSucceeded, AttemptFailed, JobUnsuccessful}
use Rattle.mr_task.specs.Calls as task_call
use Rattle.mr_task.specs.Calls.{TaskCall}
use Rattle.mr_master_model.specs.Readings as read
use Rattle.mr_master_model.specs.Readings.{Place, newest_in, or_else, told_each}
use Rattle.mr_master_model.specs.Answered.{taken}
use Rattle.mr_world_model.specs.Ids.{task_eq, of_reduces, is_reduce}
use Rattle.mr_world_model.specs.Hearing.{Placed}
use Rattle.mr_world_model.specs.Duties.{newest_maps, attempts_of, without_task}
use Rattle.mr_world_model.specs.Claims.{In}
use Rattle.mr_world_model.specs.Calls.{Calls, tell, tell_each}
use Rattle.mr_world_model.proofs.Names.{task_eq-true}
use Rattle.mr_world_model.specs.Packets.{Config, Store, Names, Append_record, Flush, Read_history}
use Rattle.mr_world_model.specs.Hearing.{Seen, Phase, is_running}
use Rattle.mr_world_model.specs.Duties.{Master_step, Came, Launches, Expires, Asks, seen, next_seen, phase_told, duty_of, is_fine, worked, with_read}
use Rattle.mr_world_model.specs.Calls.{calls_heard, calls, next_calls, calls_phased, calls_worked, tell_barred, winning}
use Rattle.mr_world_model.specs.Claims.{has_not_run}
use Rattle.mr_world_model.specs.Made.{IsMade, AllMade}
use Rattle.mr_world_model.proofs.Masters.{told-phase}
use Rattle.mr_master_refinement.proofs.Early.{early_seen, Mute, mute, young-runs}
use Rattle.mr_master_refinement.proofs.Until.{until, before}
use Rattle.mr_master_refinement.specs.Begins.{attempts_in, BeginningsAgree}

same-tests : (t u : TaskId) → task_eq t u ≡ same_task t u
unfolding task_eq
same-tests t u = refl

-- ---- of one task

pub told-is : (g : Attempt → TaskCall) (t : TaskId) (xs : List Attempt) (c : Calls) → tell_each g xs c t ≡ told_each g (attempts_in t xs) (c t)
told-is g t [] c = refl
told-is g t (a ∷ xs) c = told-is g t xs (tell a.task (g a) c) ∙ by (task_eq a.task t)
  where
    by : (b : Bool) → told_each g (attempts_in t xs) (if b then g a ∷ c t else c t) ≡ told_each g (if b then a ∷ attempts_in t xs else attempts_in t xs) (c t)
    by true = refl
    by false = refl

pub none-in : (t : TaskId) (xs : List Attempt) → ((a : Attempt) → In a xs → is_reduce a ≡ false) → of_reduces t.kind ≡ true → attempts_in t xs ≡ []
none-in t [] o r = refl
none-in t (a ∷ xs) o r = by (task_eq a.task t) refl (none-in t xs (λ b i. o b (inr i)) r)
  where
    by : (b : Bool) → task_eq a.task t ≡ b → attempts_in t xs ≡ [] → (if b then a ∷ attempts_in t xs else attempts_in t xs) ≡ []
    by true e rest = absurd (false≢true (sym (o a (inl refl)) ∙ (ap (λ (u : TaskId). of_reduces u.kind) (task_eq-true a.task t e) ∙ r)))
    by false e rest = rest

-- ---- the newest success of a map

without-own : (t : TaskId) (ps : List Placed) → attempts_in t (attempts_of (without_task t ps)) ≡ []
without-own t [] = refl
without-own t (p ∷ ps) = by (task_eq p.attempt.task t) refl (without-own t ps)
  where
    by : (b : Bool) → task_eq p.attempt.task t ≡ b → attempts_in t (attempts_of (without_task t ps)) ≡ [] → attempts_in t (attempts_of (if b then without_task t ps else p ∷ without_task t ps)) ≡ []
    by true e rest = rest
    by false e rest = ap (λ (c : Bool). if c then p.attempt ∷ attempts_in t (attempts_of (without_task t ps)) else attempts_in t (attempts_of (without_task t ps))) e ∙ rest

without-other : (t u : TaskId) (ps : List Placed) → task_eq u t ≡ false → attempts_in t (attempts_of (without_task u ps)) ≡ attempts_in t (attempts_of ps)
without-other t u [] n = refl
without-other t u (p ∷ ps) n = by (task_eq p.attempt.task u) refl (without-other t u ps n)
  where
    other : task_eq p.attempt.task u ≡ true → task_eq p.attempt.task t ≡ false
    other e = subst (λ z. task_eq z t ≡ false) (sym (task_eq-true p.attempt.task u e)) n

    by : (b : Bool) → task_eq p.attempt.task u ≡ b → attempts_in t (attempts_of (without_task u ps)) ≡ attempts_in t (attempts_of ps) →
        attempts_in t (attempts_of (if b then without_task u ps else p ∷ without_task u ps)) ≡ (if task_eq p.attempt.task t then p.attempt ∷ attempts_in t (attempts_of ps) else attempts_in t (attempts_of ps))
    by true e rest = rest ∙ ap (λ (c : Bool). if c then p.attempt ∷ attempts_in t (attempts_of ps) else attempts_in t (attempts_of ps)) (sym (other e))
    by false e rest = ap (λ l. if task_eq p.attempt.task t then p.attempt ∷ l else l) rest

-- what is taken over of a map: of its newest success, or else of those that were there before
abbrev taken_or : (ℕ → ℕ) → List Attempt → Option (Attempt × Place) → List Attempt
taken_or f before None = before
taken_or f before (Some p) = if nat_lt p.1.incarnation (f p.1.node) then [] else p.0 ∷ []

newest-is : (f : ℕ → ℕ) (t : TaskId) (rs : List Record) (ps : List Placed) → attempts_in t (attempts_of (newest_maps f rs ps)) ≡ taken_or f (attempts_in t (attempts_of ps)) (newest_in rs t)
unfolding newest_maps
newest-is f t [] ps = refl
newest-is f t (MapSucceeded b n i ∷ rs) ps =
    newest-is f t rs (if nat_lt i (f n) then without_task b.task ps else record { attempt = b; node = n; incarnation = i } ∷ without_task b.task ps)
    ∙ (by (newest_in rs t) ∙ ap (λ (c : Bool). taken_or f (attempts_in t (attempts_of ps)) (or_else (newest_in rs t) (if c then Some (b, record { node = n; incarnation = i }) else None))) same)
  where
    same : task_eq b.task t ≡ same_task b.task t
    same = same-tests b.task t

    here : attempts_in t (attempts_of (if nat_lt i (f n) then without_task b.task ps else record { attempt = b; node = n; incarnation = i } ∷ without_task b.task ps))
        ≡ taken_or f (attempts_in t (attempts_of ps)) (if task_eq b.task t then Some (b, record { node = n; incarnation = i }) else None)
    here = own (task_eq b.task t) refl (nat_lt i (f n)) ∙ through (task_eq b.task t)
      where
        through : (c : Bool) → (if c then (if nat_lt i (f n) then [] else b ∷ []) else attempts_in t (attempts_of ps)) ≡ taken_or f (attempts_in t (attempts_of ps)) (if c then Some (b, record { node = n; incarnation = i }) else None)
        through true = refl
        through false = refl

        own : (c : Bool) → task_eq b.task t ≡ c → (d : Bool) → attempts_in t (attempts_of (if d then without_task b.task ps else record { attempt = b; node = n; incarnation = i } ∷ without_task b.task ps))
            ≡ (if c then (if d then [] else b ∷ []) else attempts_in t (attempts_of ps))
        own true e true = subst (λ u. attempts_in t (attempts_of (without_task u ps)) ≡ []) (sym (task_eq-true b.task t e)) (without-own t ps)
        own true e false = (λ j. if e j then b ∷ attempts_in t (attempts_of (without_task b.task ps)) else attempts_in t (attempts_of (without_task b.task ps)))
            ∙ ap (λ l. b ∷ l) (subst (λ u. attempts_in t (attempts_of (without_task u ps)) ≡ []) (sym (task_eq-true b.task t e)) (without-own t ps))
        own false e true = without-other t b.task ps e
        own false e false = (λ j. if e j then b ∷ attempts_in t (attempts_of (without_task b.task ps)) else attempts_in t (attempts_of (without_task b.task ps))) ∙ without-other t b.task ps e

    by : (o : Option (Attempt × Place)) →
        taken_or f (attempts_in t (attempts_of (if nat_lt i (f n) then without_task b.task ps else record { attempt = b; node = n; incarnation = i } ∷ without_task b.task ps))) o
        ≡ taken_or f (attempts_in t (attempts_of ps)) (or_else o (if task_eq b.task t then Some (b, record { node = n; incarnation = i }) else None))
    by (Some p) = refl
    by None = here
newest-is f t (AttemptStarted b n ∷ rs) ps = newest-is f t rs ps
newest-is f t (ReduceSucceeded b z ∷ rs) ps = newest-is f t rs ps
newest-is f t (AttemptFailed b ∷ rs) ps = newest-is f t rs ps
newest-is f t (JobUnsuccessful ∷ rs) ps = newest-is f t rs ps

pub newest-taken : (f : ℕ → ℕ) (t : TaskId) (rs : List Record) → attempts_in t (attempts_of (newest_maps f rs [])) ≡ taken_or f [] (newest_in rs t)
newest-taken f t rs = newest-is f t rs []

-- ---- until it runs no task is told anything

mute-calls : (s : Seen) (call : Store) (b : Bool) (c : Calls) (t : TaskId) → Mute call → (if b then calls_worked s call c else c) t ≡ c t
mute-calls s (Names op) true c t o = ap (λ m. tell_barred m c t) o
mute-calls s (Names op) false c t o = refl
mute-calls s Read_history true c t o = refl
mute-calls s Read_history false c t o = refl
mute-calls s Flush b c t o = absurd o
mute-calls s (Append_record x) b c t o = absurd o

early-mute : (cfg : Config) (k : ℕ) (h : List Master_step) (made : AllMade cfg k h) → has_not_run (seen cfg k h).phase ≡ true → (call : Store) → duty_of cfg k (seen cfg k h) (seen cfg k h).phase ≡ Some call → Mute call
early-mute cfg k h made y call d = let o = until cfg k h made y in
    mute cfg k (early_seen o.phase o.winners o.known o.read') o.phase call o.young o.can (subst (λ (z : Seen). duty_of cfg k z z.phase ≡ Some call) o.seen-is d)

idle-phase : (p : Phase) → has_not_run p ≡ true → is_running p ≡ true → ⊥
idle-phase p y r = false≢true (sym (young-runs p y) ∙ r)

steps-quiet : (cfg : Config) (k : ℕ) (s : Seen) (c : Calls) (t : TaskId) (x : Master_step) → IsMade cfg k s x → has_not_run (next_seen cfg k s x).phase ≡ true → has_not_run s.phase ≡ true →
    ((call : Store) → duty_of cfg k s s.phase ≡ Some call → Mute call) → next_calls cfg k s x c t ≡ c t
unfolding next_calls
steps-quiet cfg k s c t (Came p) m y old mutes = ap (λ (b : Bool). (if b then calls_heard s p c else c) t) (young-runs s.phase old)
steps-quiet cfg k s c t (Launches l) m y old mutes = absurd (idle-phase s.phase old m.2)
steps-quiet cfg k s c t (Expires n) m y old mutes = absurd (idle-phase s.phase old m.0)
steps-quiet cfg k s c t (Asks call r) m y old mutes =
    phased (with_read cfg (if is_fine r then worked s call else s) call r) (if is_fine r then calls_worked s call c else c) (young-runs (phase_told k s s.phase call r) (ap (λ q. has_not_run q) (sym (told-phase cfg k s call r)) ∙ y))
    ∙ mute-calls s call (is_fine r) c t (mutes call m.0)
  where
    phased : (u : Seen) (d : Calls) → is_running (phase_told k s s.phase call r) ≡ false → calls_phased (phase_told k s s.phase call r) u d t ≡ d t
    phased u d e = ap (λ (b : Bool). (if b && not (is_running u.phase) then tell_each (λ a. task_call.Recovers a) (attempts_of (newest_maps u.known u.history [])) (tell_each (λ a. task_call.Recovers a) (winning u.winners) d) else d) t) e

pub no-calls-yet : (cfg : Config) (k : ℕ) (h : List Master_step) → AllMade cfg k h → has_not_run (seen cfg k h).phase ≡ true → (t : TaskId) → calls cfg k h t ≡ []
unfolding calls seen
no-calls-yet cfg k [] made y t = refl
no-calls-yet cfg k (x ∷ h) made y t =
    let old = before cfg k (seen cfg k h) x made.0 y in
    step x made.0 y old (early-mute cfg k h made.1 old) ∙ no-calls-yet cfg k h made.1 old t
  where
    s : Seen
    s = seen cfg k h

    c : Calls
    c = calls cfg k h

    step : (x : Master_step) → IsMade cfg k s x → has_not_run (next_seen cfg k s x).phase ≡ true → has_not_run s.phase ≡ true → ((call : Store) → duty_of cfg k s s.phase ≡ Some call → Mute call) → next_calls cfg k s x c t ≡ c t
    step x m y old mutes = steps-quiet cfg k s c t x m y old mutes

-- ---- the law

taken-is : (m : read.Seen) (o : Option (Attempt × Place)) → taken_or m.known [] o ≡ taken m o
taken-is m None = refl
taken-is m (Some p) = refl

pub beginnings_agree : BeginningsAgree
beginnings_agree = record {
  quiet = λ cfg k past t made y. no-calls-yet cfg k past made y t;
  taken_over = λ m t. newest-taken m.known t m.earlier ∙ taken-is m (newest_in m.earlier t);
}
