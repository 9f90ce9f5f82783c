-- The attempts of a task arrived in the order of their launches; before them stands what was taken over.
use Rattle.std.proofs.Common.{ℕ, ◌+◌, ◌-◌, ◌*◌, ◌≡◌, refl, sym, ◌∙◌, ap, subst, Bool, true, false, ◌&&◌, ◌||◌, not, List, [], ◌∷◌, ◌++◌, filter, append_assoc, append-nil, Option, Some, None, nat_lt, if◌then◌else◌, is_some, is_none}
use Rattle.std.proofs.lemmas.Bool.{and_parts, true≢false}
use Rattle.std.proofs.lemmas.List.Elements.{filter-append}
use Rattle.mr_ids.specs.Attempt.{Attempt}
use Rattle.mr_ids.specs.declared.id.TaskId.{TaskId}
use Rattle.mr_grant.specs.Attempts as grant
use Rattle.mr_grant.specs.Attempts.{same_attempt}
use Rattle.mr_grant.proofs.Same.{same-itself}
use Rattle.mr_task.specs.Calls as task_call
use Rattle.mr_task.specs.Calls.{TaskCall}
use Rattle.mr_task.specs.Readings as task
use Rattle.mr_task.proofs.Arrivals.{nothing-arrived}
use Rattle.mr_master_model.specs.Readings as read
use Rattle.mr_world_model.specs.Ids.{task_eq, of_reduces}
use Rattle.mr_world_model.specs.Content.{bar_of}
use Rattle.mr_world_model.specs.Packets.{Config, Packet, Pending, Poll, Done, Failed, Ended, NodeUp, FetchLost, Store, Names, Append_record, Flush, Read_history}
use Rattle.mr_world_model.specs.Hearing.{Seen, Phase, Launched, is_live, is_running, find_container, has_container}
use Rattle.mr_world_model.specs.Duties.{Master_step, Came, Launches, Expires, Asks, seen, next_seen, is_fine, worked, with_read, phase_told, successes, newest_maps, attempts_of}
use Rattle.mr_world_model.specs.Sending.{live_of}
use Rattle.mr_world_model.specs.World.{count_of}
use Rattle.mr_world_model.specs.Effect.{task_fault}
use Rattle.mr_world_model.specs.Calls.{Calls, tell, tell_each, tell_launched, tell_ended, tell_barred, is_launched, below, lost_below, lost_on, maps_on, winning, calls, calls_heard, calls_worked, calls_phased, next_calls, of_task}
use Rattle.mr_world_model.specs.Made.{IsMade, AllMade}
use Rattle.mr_world_model.proofs.Basic.{if_cases}
use Rattle.mr_world_model.proofs.Names.{task_eq-true, task_eq-is}
use Rattle.mr_world_model.proofs.Lists.{Each}
use Rattle.mr_world_model.proofs.Closed.{or-true, Closed, LaunchFits, next-closed}
use Rattle.mr_world_model.proofs.Agree.{AgreesOf, refusal-agrees}
use Rattle.mr_world_model.proofs.Made.{all-fit, all-of-job}
use Rattle.mr_world_model.proofs.Wins as wins
use Rattle.mr_world_model.proofs.Maps as maps
use Rattle.mr_master_refinement.specs.Steps.{setting}
use Rattle.mr_master_refinement.specs.Points.{View, Alike}
use Rattle.mr_master_refinement.specs.inner.Arrivals.{at_task, attempts}
use Rattle.mr_master_refinement.proofs.Points.{live_in, tells}

-- ---- attempts of launches

pub attempts-last : (ls : List Launched) (l : Launched) → attempts (ls ++ l ∷ []) ≡ attempts ls ++ l.attempt ∷ []
attempts-last [] l = refl
attempts-last (x ∷ ls) l = ap (λ z. x.attempt ∷ z) (attempts-last ls l)

-- ---- what was taken over, then what was launched

pub record Ordered (t : TaskId) (ls : List Launched) (arrived accepted : List Attempt) : Type 0 where
  pub taken : List Attempt
  pub accepts : Each (λ a. grant.has accepted a ≡ true) taken
  pub is : arrived ≡ taken ++ attempts (at_task t ls)

abbrev pub OrderedOf : TaskId → List Launched → task.Seen → Type 0
OrderedOf t ls r = Ordered t ls r.arrived r.accepted

more-accepted : (a : Attempt) (xs acc : List Attempt) → Each (λ b. grant.has acc b ≡ true) xs → Each (λ b. grant.has (a ∷ acc) b ≡ true) xs
more-accepted a [] acc o = tt
more-accepted a (x ∷ xs) acc o = (ap (λ z. same_attempt x a || z) o.0 ∙ or-true (same_attempt x a), more-accepted a xs acc o.1)

last-empty : (xs ys : List Attempt) → [] ≡ xs ++ ys → ys ≡ []
last-empty [] ys e = sym e
last-empty (x ∷ xs) ys e = cc

abbrev is_launch : TaskCall → Bool
is_launch task_call.Launches = true
is_launch _ = false

module _ (t : TaskId) (k : ℕ) where
  abbrev T : Calls → task.Seen
  T c = task.seen t k (c t)

  module _ (ls : List Launched) where
    abbrev Is : task.Seen → Type 0
    Is r = OrderedOf t ls r

    ends : (r : task.Seen) (a : Attempt) (f : Bool) → Is r → Is (task.after_end r a f)
    ends r a f o = if_cases Is (task.is_live r a) _ _ (λ e. o) (λ e. o)

    recovers : (r : task.Seen) (a : Attempt) → task.may_recover t r a ≡ true → Is r → Ordered t ls (a ∷ []) (a ∷ [])
    recovers r a e o =
        let none = nothing-arrived r.arrived (and_parts (is_none (grant.first_of r.arrived)) _ e).0 in
        let empty = last-empty o.taken (attempts (at_task t ls)) (sym none ∙ o.is) in
        record { taken = a ∷ []; accepts = (ap (λ z. z || false) (same-itself a), tt); is = ap (λ z. a ∷ z) (sym empty) }

    calm : (r : task.Seen) (call : TaskCall) → is_launch call ≡ false → Is r → Is (task.next_seen t k r call)
    unfolding task.next_seen
    calm r task_call.Launches e o = absurd (true≢false e)
    calm r (task_call.Hears a) e o = o
    calm r (task_call.Asks a) e o = if_cases Is (grant.has r.arrived a && not (grant.has r.asked a)) _ _ (λ e. o) (λ e. o)
    calm r (task_call.Reports a) e o = if_cases Is (task.may_accept r a) _ _ (λ e. record { taken = o.taken; accepts = more-accepted a o.taken r.accepted o.accepts; is = o.is }) (λ e. o)
    calm r (task_call.Fails a) e o = ends r a true o
    calm r (task_call.Ends a was_asked) e o = ends r a (not was_asked) o
    calm r (task_call.Dies a) e o = ends r a false o
    calm r (task_call.Records a) e o = if_cases Is (grant.has r.accepted a) _ _ (λ e. o) (λ e. o)
    calm r (task_call.Recovers a) e o = if_cases Is (task.may_recover t r a) _ _ (λ e. recovers r a e o) (λ e. o)
    calm r (task_call.Loses a) e o = if_cases Is (not (task.is_reduce a.task.kind) && grant.has r.recorded a) _ _ (λ e. o) (λ e. o)

    calm-tell : (u : TaskId) (call : TaskCall) (c : Calls) → is_launch call ≡ false → Is (T c) → Is (T (tell u call c))
    unfolding task.seen
    calm-tell u call c e o = by (task_eq u t)
      where
        by : (b : Bool) → Is (task.seen t k (if b then call ∷ c t else c t))
        by true = calm (T c) call e o
        by false = o

    calm-each : (f : Attempt → TaskCall) → ((a : Attempt) → is_launch (f a) ≡ false) → (xs : List Attempt) (c : Calls) → Is (T c) → Is (T (tell_each f xs c))
    calm-each f e [] c o = o
    calm-each f e (a ∷ xs) c o = calm-each f e xs (tell a.task (f a) c) (calm-tell a.task (f a) c (e a) o)

    calm-launched : (s : Seen) (a : Attempt) (call : TaskCall) (c : Calls) → is_launch call ≡ false → Is (T c) → Is (T (tell_launched s a call c))
    calm-launched s a call c e o = if_cases (λ (d : Calls). Is (T d)) (is_launched s a) _ _ (λ l. calm-tell a.task call c e o) (λ l. o)

    calm-ended : (l : Option Launched) (b : Bool) (c : Calls) → Is (T c) → Is (T (tell_ended l b c))
    calm-ended None b c o = o
    calm-ended (Some l) b c o = calm-tell l.attempt.task (task_call.Ends l.attempt b) c refl o

    calm-barred : (a : Option Attempt) (c : Calls) → Is (T c) → Is (T (tell_barred a c))
    calm-barred None c o = o
    calm-barred (Some a) c o = calm-tell a.task (task_call.Dies a) c refl o

    calm-heard : (s : Seen) (p : Packet) (c : Calls) → Is (T c) → Is (T (calls_heard s p c))
    unfolding calls_heard
    calm-heard s (Pending a) c o = calm-launched s a (task_call.Asks a) c refl o
    calm-heard s (Poll a) c o = calm-launched s a (task_call.Asks a) c refl o
    calm-heard s (Done a z) c o = calm-launched s a (task_call.Reports a) c refl o
    calm-heard s (Failed a) c o = calm-tell a.task (task_call.Fails a) c refl o
    calm-heard s (Ended d) c o = calm-ended (find_container s.launched d) (has_container s.killed d) c o
    calm-heard s (NodeUp n i) c o = if_cases (λ (d : Calls). Is (T d)) (nat_lt (s.known n) i) _ _
        (λ e. calm-each (λ a. task_call.Dies a) (λ a. refl) (below n i s.launched) _ (calm-each (λ a. task_call.Loses a) (λ a. refl) (lost_below s.recorded n i s.standing) c o)) (λ e. o)
    calm-heard s (FetchLost d a) c o = if_cases (λ (x : Calls). Is (T x)) (is_some (find_container s.launched d)) _ _ (λ e. calm-tell a.task (task_call.Loses a) c refl o) (λ e. o)
    calm-heard s _ c o = o

    calm-worked : (s : Seen) (call : Store) (c : Calls) → Is (T c) → Is (T (calls_worked s call c))
    calm-worked s (Append_record x) c o = o
    calm-worked s Flush c o = calm-each (λ a. task_call.Records a) (λ a. refl) (successes s.tail) c o
    calm-worked s (Names op) c o = calm-barred (bar_of op) c o
    calm-worked s Read_history c o = o

    calm-phased : (p : Phase) (s : Seen) (c : Calls) → Is (T c) → Is (T (calls_phased p s c))
    calm-phased p s c o = if_cases (λ (d : Calls). Is (T d)) (is_running p && not (is_running s.phase)) _ _
        (λ e. calm-each (λ a. task_call.Recovers a) (λ a. refl) (attempts_of (newest_maps s.known s.history [])) _ (calm-each (λ a. task_call.Recovers a) (λ a. refl) (winning s.winners) c o)) (λ e. o)

  -- ---- a launch

  launch-last : (l : Launched) (ls : List Launched) (r : task.Seen) → l.attempt.task ≡ t → l.attempt ≡ task.next_attempt t k r → task.launch_refusal r ≡ None → OrderedOf t ls r →
      OrderedOf t (l ∷ ls) (task.next_seen t k r task_call.Launches)
  unfolding task.next_seen
  launch-last l ls r q it may o = subst (λ f. OrderedOf t (l ∷ ls) (if is_none f then task.after_launch t k r else r)) (sym may)
      (record {
        taken = o.taken;
        accepts = o.accepts;
        is = (let e = o.is in λ i. e i ++ sym it i ∷ [])
            ∙ (append_assoc o.taken (attempts (at_task t ls)) (l.attempt ∷ [])
            ∙ ap (λ z. o.taken ++ z) (sym (attempts-last (at_task t ls) l) ∙ ap (λ (b : Bool). attempts (if b then at_task t ls ++ l ∷ [] else at_task t ls)) (sym (task_eq-is l.attempt.task t q))));
      })

  launch-ordered : (l : Launched) (ls : List Launched) (c : Calls) → (l.attempt.task ≡ t → (l.attempt ≡ task.next_attempt t k (T c)) × (task.launch_refusal (T c) ≡ None)) → OrderedOf t ls (T c) →
      OrderedOf t (l ∷ ls) (T (tell l.attempt.task task_call.Launches c))
  unfolding task.seen
  launch-ordered l ls c fits o = by (task_eq l.attempt.task t) refl
    where
      by : (b : Bool) → task_eq l.attempt.task t ≡ b → OrderedOf t (l ∷ ls) (task.seen t k (if b then task_call.Launches ∷ c t else c t))
      by true e = let q = task_eq-true l.attempt.task t e in let f = fits q in launch-last l ls (T c) q f.0 f.1 o
      by false e = record { taken = o.taken; accepts = o.accepts; is = o.is ∙ ap (λ (b : Bool). o.taken ++ attempts (if b then at_task t ls ++ l ∷ [] else at_task t ls)) (sym e) }

-- ---- along a past

pub launched-same : (cfg : Config) (ls : List Launched) → Closed cfg (λ s l. ⊥) (λ s. s.launched ≡ ls)
launched-same cfg ls = record { asks = λ s a o. o; ends = λ s a f due p o. o; accepts = λ s a st due o. o; knows = λ s f ps o. o; calls = λ s p ws st rs ks h due tail o. o; launches = λ s l due u o. absurd u; expires = λ s ks bs o. o }

pub agrees-at : (cfg : Config) (k : ℕ) (h : List Master_step) (t : TaskId) → AllMade cfg k h → t.job ≡ cfg.job → AgreesOf t (seen cfg k h) (of_task cfg k h t)
agrees-at cfg k h t made j = by (of_reduces t.kind) refl
  where
    by : (b : Bool) → of_reduces t.kind ≡ b → AgreesOf t (seen cfg k h) (of_task cfg k h t)
    by true q = (wins.both cfg k h t q (all-fit cfg k h made)).agrees
    by false q = (maps.both cfg k h t q j (all-fit cfg k h made) (all-of-job cfg k h made)).agrees

abbrev OrderedAfter : Config → ℕ → List Master_step → TaskId → Master_step → Type 0
OrderedAfter cfg k h t x = OrderedOf t (next_seen cfg k (seen cfg k h) x).launched (task.seen t k (next_calls cfg k (seen cfg k h) x (calls cfg k h) t))

ordered-step : (cfg : Config) (k : ℕ) (h : List Master_step) (t : TaskId) → AllMade cfg k h → t.job ≡ cfg.job → (x : Master_step) → IsMade cfg k (seen cfg k h) x →
    OrderedOf t (seen cfg k h).launched (of_task cfg k h t) → OrderedAfter cfg k h t x
unfolding next_calls next_seen
ordered-step cfg k h t made j x u o = by x u
  where
    same : (x : Master_step) → LaunchFits (λ s l. ⊥) (seen cfg k h) x → OrderedOf t (seen cfg k h).launched (task.seen t k (next_calls cfg k (seen cfg k h) x (calls cfg k h) t)) → OrderedAfter cfg k h t x
    same x f = subst (λ ls. OrderedOf t ls (task.seen t k (next_calls cfg k (seen cfg k h) x (calls cfg k h) t)))
        (sym (next-closed cfg (λ s l. ⊥) (λ z. z.launched ≡ (seen cfg k h).launched) (launched-same cfg (seen cfg k h).launched) k (seen cfg k h) x f refl))

    by : (x : Master_step) → IsMade cfg k (seen cfg k h) x → OrderedAfter cfg k h t x
    by (Came p) u = same (Came p) tt (if_cases (λ (d : Calls). OrderedOf t (seen cfg k h).launched (task.seen t k (d t))) (is_running (seen cfg k h).phase) _ _ (λ e. calm-heard t k (seen cfg k h).launched (seen cfg k h) p (calls cfg k h) o) (λ e. o))
    by (Expires n) u = same (Expires n) tt (calm-each t k (seen cfg k h).launched (λ a. task_call.Dies a) (λ a. refl) (maps_on n (seen cfg k h).launched) _
        (calm-each t k (seen cfg k h).launched (λ a. task_call.Loses a) (λ a. refl) (lost_on (seen cfg k h).recorded n (seen cfg k h).standing) (calls cfg k h) o))
    by (Asks call r) u = same (Asks call r) tt
        (calm-phased t k (seen cfg k h).launched (phase_told k (seen cfg k h) (seen cfg k h).phase call r) (with_read cfg (if is_fine r then worked (seen cfg k h) call else seen cfg k h) call r) _
        (if_cases (λ (d : Calls). OrderedOf t (seen cfg k h).launched (task.seen t k (d t))) (is_fine r) _ _ (λ e. calm-worked t k (seen cfg k h).launched (seen cfg k h) call (calls cfg k h) o) (λ e. o)))
    by (Launches l) u = launch-ordered t k l (seen cfg k h).launched (calls cfg k h) fits o
      where
        fits : l.attempt.task ≡ t → (l.attempt ≡ task.next_attempt t k (of_task cfg k h t)) × (task.launch_refusal (of_task cfg k h t) ≡ None)
        fits q =
            let a = agrees-at cfg k h t made j in
            let e = tells cfg k h t made j in
            let there : l.attempt.number ≡ 1000 * (k - 1) + count_of (seen cfg k h).launched t = subst (λ v. l.attempt.number ≡ 1000 * (k - 1) + count_of (seen cfg k h).launched v) q (ap (λ (y : Launched). y.attempt.number) u.0) in
            let number = there ∙ ap (λ n. 1000 * (k - 1) + n) (sym e.number) in
            ((λ i. record { task = q i; number = number i }), refusal-agrees t (seen cfg k h) (of_task cfg k h t) a (e.won u.2) (subst (λ v. task_fault (seen cfg k h) v ≡ None) q u.5))

pub ordered : (cfg : Config) (k : ℕ) (h : List Master_step) (t : TaskId) → AllMade cfg k h → t.job ≡ cfg.job → OrderedOf t (seen cfg k h).launched (of_task cfg k h t)
unfolding seen calls task.seen
ordered cfg k [] t made j = record { taken = []; accepts = tt; is = refl }
ordered cfg k (x ∷ h) t made j = ordered-step cfg k h t made.1 j x made.0 (ordered cfg k h t made.1 j)

-- ---- the live attempts of a task, in the order of their launches

none-live : (p : Attempt → Bool) (xs : List Attempt) → Each (λ a. p a ≡ false) xs → filter p xs ≡ []
none-live p [] o = refl
none-live p (x ∷ xs) o = ap (λ (b : Bool). if b then x ∷ filter p xs else filter p xs) o.0 ∙ none-live p xs o.1

launched-live : (p : Attempt → Bool) (s : Seen) (t : TaskId) (ls : List Launched) → ((a : Attempt) → a.task ≡ t → p a ≡ is_live s a) → filter p (attempts (at_task t ls)) ≡ attempts (at_task t (live_of s ls))
launched-live p s t [] e = refl
launched-live p s t (l ∷ ls) e = by (task_eq l.attempt.task t) (is_live s l.attempt) refl refl (launched-live p s t ls e)
  where
    one : (b : Bool) → filter p (l.attempt ∷ []) ≡ (if p l.attempt then l.attempt ∷ [] else [])
    one b = refl

    last : (c : Bool) → p l.attempt ≡ c → filter p (attempts (at_task t ls ++ l ∷ [])) ≡ filter p (attempts (at_task t ls)) ++ (if c then l.attempt ∷ [] else [])
    last c q = ap (filter p) (attempts-last (at_task t ls) l) ∙ (filter-append p (attempts (at_task t ls)) (l.attempt ∷ []) ∙ ap (λ (b : Bool). filter p (attempts (at_task t ls)) ++ (if b then l.attempt ∷ [] else [])) q)

    by : (b c : Bool) → task_eq l.attempt.task t ≡ b → is_live s l.attempt ≡ c → filter p (attempts (at_task t ls)) ≡ attempts (at_task t (live_of s ls)) →
        filter p (attempts (if b then at_task t ls ++ l ∷ [] else at_task t ls)) ≡ attempts (at_task t (if c then l ∷ live_of s ls else live_of s ls))
    by true true q f rest = last true (e l.attempt (task_eq-true l.attempt.task t q) ∙ f)
        ∙ (ap (λ z. z ++ l.attempt ∷ []) rest ∙ (sym (attempts-last (at_task t (live_of s ls)) l)
        ∙ ap (λ (b : Bool). attempts (if b then at_task t (live_of s ls) ++ l ∷ [] else at_task t (live_of s ls))) (sym q)))
    by true false q f rest = last false (e l.attempt (task_eq-true l.attempt.task t q) ∙ f) ∙ (append-nil (filter p (attempts (at_task t ls))) ∙ rest)
    by false true q f rest = rest ∙ ap (λ (b : Bool). attempts (if b then at_task t (live_of s ls) ++ l ∷ [] else at_task t (live_of s ls))) (sym q)
    by false false q f rest = rest

abbrev live_list : View → List Attempt
live_list v = filter (live_in v) v.arrived

pub live-ordered : (cfg : Config) (k : ℕ) (h : List Master_step) (t : TaskId) → AllMade cfg k h → t.job ≡ cfg.job →
    task.live (of_task cfg k h t) ≡ attempts (at_task t (live_of (seen cfg k h) (seen cfg k h).launched))
live-ordered cfg k h t made j =
    let o = ordered cfg k h t made j in
    let r = of_task cfg k h t in
    ap (filter (task.is_live r)) o.is ∙ (filter-append (task.is_live r) o.taken (attempts (at_task t (seen cfg k h).launched))
    ∙ (ap (λ z. z ++ filter (task.is_live r) (attempts (at_task t (seen cfg k h).launched))) (none-live (task.is_live r) o.taken (dead r o.taken o.accepts))
    ∙ launched-live (task.is_live r) (seen cfg k h) t (seen cfg k h).launched (tells cfg k h t made j).live))
  where
    dead : (r : task.Seen) (xs : List Attempt) → Each (λ a. grant.has r.accepted a ≡ true) xs → Each (λ a. task.is_live r a ≡ false) xs
    dead r [] o = tt
    dead r (x ∷ xs) o = (ap (λ b. grant.has r.arrived x && (not b && not (task.is_over r.ended x))) o.0 ∙ nope (grant.has r.arrived x), dead r xs o.1)
      where
        nope : (b : Bool) → (b && false) ≡ false
        nope true = refl
        nope false = refl

-- of a machine whose task has heard alike
pub live-as : (cfg : Config) (k : ℕ) (h : List Master_step) (m : read.Seen) (t : TaskId) → AllMade cfg k h → t.job ≡ cfg.job → Alike (of_task cfg k h t) (read.of_task (setting cfg k) m t) →
    task.live (read.of_task (setting cfg k) m t) ≡ attempts (at_task t (live_of (seen cfg k h) (seen cfg k h).launched))
live-as cfg k h m t made j alike = ap live_list alike ∙ live-ordered cfg k h t made j
