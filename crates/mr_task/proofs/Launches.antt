-- The same of a launch and of a recovery; and the answers of the calls that change nothing.
use Rattle.std.proofs.Common.{◌≡◌, ◌+◌, ℕ, Bool, true, false, ◌&&◌, ◌||◌, cond, List, [], ◌∷◌, ◌++◌, count_by, Option, Some, None, is_none, refl, sym, ap, ◌∙◌, true≢false, subst}
use Rattle.std.specs.List.{find, fold}
use Rattle.std.specs.Map.{keys_of}
use Rattle.std.specs.Option.{option_map}
use Rattle.mr_ids.specs.Attempt.{Attempt}
use Rattle.mr_ids.specs.declared.id.TaskId.{TaskId}
use Rattle.mr_attempt.specs.declared.state.AttemptState.{AttemptState}
use Rattle.mr_attempt.specs.declared.state.AttemptState.TheVariants.{New, Assigned, Running, CommitPending, Recording, Succeeded, Failed, Killed}
use Rattle.mr_attempt.specs.declared.state.AttemptEvent.TheVariants as event
use Rattle.mr_attempt.specs.Table as table
use Rattle.mr_ids.specs.Same.{same_task}
use Rattle.mr_grant.specs.Attempts.{same_attempt, has, first_of}
use Rattle.mr_grant.proofs.Same.{same-is, same-itself}
use Rattle.mr_task.specs.declared.attempts.Entry.{Entry}
use Rattle.mr_task.specs.Calls.{TaskCall, Launches, Recovers}
use Rattle.mr_task.specs.Readings.{Seen, seen, next_seen, has_failed, is_live, failures, launch_refusal, next_attempt, first_attempt_number, numbered_up_to, may_recover, after_launch, only, events_by, events_of, state_of, winner, is_succeeded}
use Rattle.mr_task.specs.State.{StandsFor, entry_of, kept, state_answer}
use Rattle.mr_task.specs.Steps.{Task, entry_in, is_failed}
use Rattle.mr_ids.proofs.Same.{task-itself}
use Rattle.mr_task.proofs.Lists.{kept-same, kept-append}
use Rattle.mr_task.proofs.Bits.{Bits, is_failed as bits_failed, failed-is, bits, moved, live-is, unknown-is, unknown-new}
use Rattle.mr_task.proofs.Arrivals.{arrivals, fresh}
use Rattle.mr_task.proofs.States.{one, fits}
use Rattle.mr_task.proofs.Keeps.{Parts, to_stands, entry-is}

-- ---- what is kept of all attempts

counted : (p : Entry → Bool) (f : Attempt → Entry) (n : ℕ) (xs : List Attempt)
    → fold (λ m (e : Attempt × Entry). m + cond (p e.1) 1 0) n (kept f xs) ≡ fold (λ m a. m + cond (p (f a)) 1 0) n xs
counted p f n [] = refl
counted p f n (x ∷ xs) = counted p f (n + cond (p (f x)) 1 0) xs

count-kept : (p : Entry → Bool) (f : Attempt → Entry) (xs : List Attempt) → count_by (λ (e : Attempt × Entry). p e.1) (kept f xs) ≡ count_by (λ a. p (f a)) xs
count-kept p f xs = counted p f 0 xs

pub counted-same : (p q : Attempt → Bool) (n : ℕ) (xs : List Attempt) → ((x : Attempt) → p x ≡ q x) → fold (λ m a. m + cond (p a) 1 0) n xs ≡ fold (λ m a. m + cond (q a) 1 0) n xs
counted-same p q n [] h = refl
counted-same p q n (x ∷ xs) h = ap (λ b. fold (λ m a. m + cond (p a) 1 0) (n + cond b 1 0) xs) (h x) ∙ counted-same p q (n + cond (q x) 1 0) xs h

pub count-same : (p q : Attempt → Bool) (xs : List Attempt) → ((x : Attempt) → p x ≡ q x) → count_by p xs ≡ count_by q xs
count-same p q xs h = counted-same p q 0 xs h

find-kept : (p : Entry → Bool) (f : Attempt → Entry) (xs : List Attempt) → option_map (λ e. e.0) (find (λ (e : Attempt × Entry). p e.1) (kept f xs)) ≡ find (λ a. p (f a)) xs
find-kept p f [] = refl
find-kept p f (x ∷ xs) = by (p (f x)) (find-kept p f xs)
  where
    by : (b : Bool) → option_map (λ e. e.0) (find (λ (e : Attempt × Entry). p e.1) (kept f xs)) ≡ find (λ a. p (f a)) xs
        → option_map (λ e. e.0) (cond b (Some (x, f x)) (find (λ (e : Attempt × Entry). p e.1) (kept f xs))) ≡ cond b (Some x) (find (λ a. p (f a)) xs)
    by true h = refl
    by false h = h

names-kept : (f : Attempt → Entry) (xs : List Attempt) → keys_of (kept f xs) ≡ xs
names-kept f [] = refl
names-kept f (x ∷ xs) = ap (λ l. x ∷ l) (names-kept f xs)

pub arrived-is : (m : Task) (t : TaskId) (k : ℕ) (h : List TaskCall) → StandsFor m t k h → keys_of m.attempts ≡ (seen t k h).arrived
arrived-is m t k h st = ap (λ (es : List (Attempt × Entry)). keys_of es) st.attempts ∙ names-kept (entry_of t k h) (seen t k h).arrived

pub failures-are : (m : Task) (t : TaskId) (k : ℕ) (h : List TaskCall) → StandsFor m t k h → count_by (λ (e : Attempt × Entry). is_failed e.1.machine.state) m.attempts ≡ failures (seen t k h)
failures-are m t k h st =
    ap (λ (es : List (Attempt × Entry)). count_by (λ (e : Attempt × Entry). is_failed e.1.machine.state) es) st.attempts
    ∙ count-kept (λ e. is_failed e.machine.state) (entry_of t k h) (seen t k h).arrived
    ∙ count-same (λ a. is_failed (state_of t k h a)) (has_failed (seen t k h).ended) (seen t k h).arrived (λ a. failed_is a (state_of t k h a) refl)
  where
    -- the same test, in this crate's two places
    same : (st : AttemptState) → is_failed st ≡ bits_failed st
    same New = refl
    same Assigned = refl
    same Running = refl
    same CommitPending = refl
    same Recording = refl
    same Succeeded = refl
    same Failed = refl
    same Killed = refl

    failed_is : (a : Attempt) (s : AttemptState) → state_of t k h a ≡ s → is_failed (state_of t k h a) ≡ has_failed (seen t k h).ended a
    failed_is a s e = same (state_of t k h a) ∙ sym (failed-is (state_of t k h a) (bits (seen t k h) a) (fits t k h a))

pub live-is-counted : (m : Task) (t : TaskId) (k : ℕ) (h : List TaskCall) → StandsFor m t k h → count_by (λ (e : Attempt × Entry). table.is_live e.1.machine.state) m.attempts ≡ count_by (is_live (seen t k h)) (seen t k h).arrived
live-is-counted m t k h st =
    ap (λ (es : List (Attempt × Entry)). count_by (λ (e : Attempt × Entry). table.is_live e.1.machine.state) es) st.attempts
    ∙ count-kept (λ e. table.is_live e.machine.state) (entry_of t k h) (seen t k h).arrived
    ∙ count-same (λ a. table.is_live (state_of t k h a)) (is_live (seen t k h)) (seen t k h).arrived (λ a. sym (live-is (state_of t k h a) (bits (seen t k h) a) (fits t k h a)))

pub winner-is : (m : Task) (t : TaskId) (k : ℕ) (h : List TaskCall) → StandsFor m t k h → option_map (λ e. e.0) (find (λ (e : Attempt × Entry). is_succeeded e.1.machine.state) m.attempts) ≡ winner t k h
winner-is m t k h st =
    ap (λ (es : List (Attempt × Entry)). option_map (λ e. e.0) (find (λ (e : Attempt × Entry). is_succeeded e.1.machine.state) es)) st.attempts
    ∙ find-kept (λ e. is_succeeded e.machine.state) (entry_of t k h) (seen t k h).arrived

pub state-is : (m : Task) (t : TaskId) (k : ℕ) (h : List TaskCall) (a : Attempt) → StandsFor m t k h → option_map (λ (e : Entry). e.machine.state) (entry_in m.attempts a) ≡ state_answer a t k h
state-is m t k h a st = ap (λ (o : Option Entry). option_map (λ (e : Entry). e.machine.state) o) (entry-is m t k h a st) ∙ by (has (seen t k h).arrived a)
  where
    by : (b : Bool) → option_map (λ (e : Entry). e.machine.state) (cond b (Some (entry_of t k h a)) None) ≡ cond b (Some (state_of t k h a)) None
    by true = refl
    by false = refl

-- ---- no calls

pub none-stand : (t : TaskId) (k : ℕ) → StandsFor (record { task = t; app = k; attempts = []; grant = record { attempts = []; is_fixed = false }; numbered = 0 }) t k []
unfolding seen
none-stand t k = record { task = refl; app = refl; attempts = refl; askers = λ _. refl; first = refl; fixed = refl; numbered = refl }

-- ---- a launch

abbrev pub new_attempt : Task → Attempt
new_attempt m = record { task = m.task; number = first_attempt_number m.app + m.numbered }

pub new-is : (m : Task) (t : TaskId) (k : ℕ) (h : List TaskCall) → StandsFor m t k h → new_attempt m ≡ next_attempt t k (seen t k h)
new-is m t k h st = λ i. record { task = st.task i; number = first_attempt_number (st.app i) + st.numbered i }

pub new-absent : (m : Task) (t : TaskId) (k : ℕ) (h : List TaskCall) → StandsFor m t k h → launch_refusal (seen t k h) ≡ None → entry_in m.attempts (new_attempt m) ≡ None
new-absent m t k h st none =
    let n = new-is m t k h st in
    let new : has (seen t k h).arrived (next_attempt t k (seen t k h)) ≡ false = fresh t k (seen t k h) (arrivals t k h) (ap is_none none) in
    (λ i. entry_in m.attempts (n i)) ∙ entry-is m t k h (next_attempt t k (seen t k h)) st ∙ ap (λ b. cond b (Some (entry_of t k h (next_attempt t k (seen t k h)))) None) new

abbrev pub assigned : Attempt → Entry
assigned a = record { machine = record { attempt = a; state = Assigned }; accepted = false }

-- what a launch makes of the entries
launch_parts : (m : Task) (t : TaskId) (k : ℕ) (h : List TaskCall) → StandsFor m t k h → is_none (launch_refusal (seen t k h)) ≡ true → (f : Attempt → Entry)
    → ((x : Attempt) → same_attempt x (next_attempt t k (seen t k h)) ≡ false → f x ≡ entry_of t k h x) → f (next_attempt t k (seen t k h)) ≡ assigned (next_attempt t k (seen t k h))
    → Parts (record m { attempts = m.attempts ++ (next_attempt t k (seen t k h), assigned (next_attempt t k (seen t k h))) ∷ []; numbered = m.numbered + 1 }) t k f (after_launch t k (seen t k h))
launch_parts m t k h st none f others here = record {
  task = st.task;
  app = st.app;
  attempts = (λ i. st.attempts i ++ (next_attempt t k (seen t k h), sym here i) ∷ [])
      ∙ ap (λ (l : List (Attempt × Entry)). l ++ (next_attempt t k (seen t k h), f (next_attempt t k (seen t k h))) ∷ []) (kept-same (entry_of t k h) f (seen t k h).arrived (λ x there. sym (others x (apart x there (same_attempt x (next_attempt t k (seen t k h))) refl))))
      ∙ sym (kept-append f (seen t k h).arrived (next_attempt t k (seen t k h)));
  askers = st.askers;
  first = st.first;
  fixed = st.fixed;
  numbered = ap (λ n. n + 1) st.numbered;
}
  where
    apart : (x : Attempt) → has (seen t k h).arrived x ≡ true → (b : Bool) → same_attempt x (next_attempt t k (seen t k h)) ≡ b → b ≡ false
    apart x there false e = refl
    apart x there true e = absurd (true≢false (sym there ∙ ap (λ y. has (seen t k h).arrived y) (same-is x (next_attempt t k (seen t k h)) e) ∙ fresh t k (seen t k h) (arrivals t k h) none))

launch_states : (t : TaskId) (k : ℕ) (h : List TaskCall) (x : Attempt) → is_none (launch_refusal (seen t k h)) ≡ true
    → state_of t k (Launches ∷ h) x ≡ moved x.task.kind event.Launch (same_attempt x (next_attempt t k (seen t k h))) (state_of t k h x)
unfolding seen next_seen state_of events_of events_by
launch_states t k h x none =
    one x.task.kind (is_none (launch_refusal (seen t k h)) && same_attempt x (next_attempt t k (seen t k h))) event.Launch (events_of t k h x)
    ∙ ap (λ b. moved x.task.kind event.Launch (b && same_attempt x (next_attempt t k (seen t k h))) (state_of t k h x)) none

launch_seen : (t : TaskId) (k : ℕ) (h : List TaskCall) → is_none (launch_refusal (seen t k h)) ≡ true → seen t k (Launches ∷ h) ≡ after_launch t k (seen t k h)
unfolding seen next_seen
launch_seen t k h none = ap (λ b. cond b (after_launch t k (seen t k h)) (seen t k h)) none

pub launch-keeps : (m : Task) (t : TaskId) (k : ℕ) (h : List TaskCall) → StandsFor m t k h → launch_refusal (seen t k h) ≡ None
    → StandsFor (record m { attempts = m.attempts ++ (new_attempt m, assigned (new_attempt m)) ∷ []; numbered = m.numbered + 1 }) t k (Launches ∷ h)
launch-keeps m t k h st refusal =
    let none : is_none (launch_refusal (seen t k h)) ≡ true = ap is_none refusal in
    let n = next_attempt t k (seen t k h) in
    let is = launch_seen t k h none in
    let new : has (seen t k h).arrived n ≡ false = fresh t k (seen t k h) (arrivals t k h) none in
    let others : (x : Attempt) → same_attempt x n ≡ false → entry_of t k (Launches ∷ h) x ≡ entry_of t k h x =
    λ x e. let s = launch_states t k h x none ∙ ap (λ b. moved x.task.kind event.Launch b (state_of t k h x)) e in
    λ i. record { machine = record { attempt = x; state = s i }; accepted = has (is i).accepted x } in
    let here : entry_of t k (Launches ∷ h) n ≡ assigned n =
    let s = launch_states t k h n none ∙ ap (λ b. moved n.task.kind event.Launch b (state_of t k h n)) (same-itself n) ∙ ap (λ x. table.after n.task.kind x event.Launch) (unknown-new _ _ (fits t k h n) new) in
    let acc : has (seen t k (Launches ∷ h)).accepted n ≡ false = (λ i. has (is i).accepted n) ∙ ap (λ (b : Bits). b.accepted) (unknown-is _ _ (fits t k h n) new) in
    λ i. record { machine = record { attempt = n; state = s i }; accepted = acc i } in
    let parts = launch_parts m t k h st none (entry_of t k (Launches ∷ h)) others here in
    let P : Seen → Type 0 = λ s. Parts (record m { attempts = m.attempts ++ (n, assigned n) ∷ []; numbered = m.numbered + 1 }) t k (entry_of t k (Launches ∷ h)) s in
    let Q : Attempt → Type 0 = λ a. StandsFor (record m { attempts = m.attempts ++ (a, assigned a) ∷ []; numbered = m.numbered + 1 }) t k (Launches ∷ h) in
    subst Q (sym (new-is m t k h st)) (to_stands (record m { attempts = m.attempts ++ (n, assigned n) ∷ []; numbered = m.numbered + 1 }) t k (Launches ∷ h) (subst P (sym is) parts))

-- ---- a recovery

abbrev pub succeeded : Attempt → Entry
succeeded a = record { machine = record { attempt = a; state = Succeeded }; accepted = true }

nothing_kept : (f : Attempt → Entry) (xs : List Attempt) → [] ≡ kept f xs → xs ≡ []
nothing_kept f [] e = refl
nothing_kept f (x ∷ xs) e = absurd (cc)

abbrev with_recovered : TaskId → ℕ → Seen → Attempt → Seen
with_recovered t k s a = record s { arrived = a ∷ []; accepted = a ∷ []; recorded = a ∷ []; numbered = numbered_up_to k a }

recovery_seen : (t : TaskId) (k : ℕ) (h : List TaskCall) (a : Attempt) → may_recover t (seen t k h) a ≡ true → seen t k (Recovers a ∷ h) ≡ with_recovered t k (seen t k h) a
unfolding seen next_seen
recovery_seen t k h a may = ap (λ b. cond b (with_recovered t k (seen t k h) a) (seen t k h)) may

recovery_state : (t : TaskId) (k : ℕ) (h : List TaskCall) (a : Attempt) → may_recover t (seen t k h) a ≡ true → state_of t k h a ≡ New → state_of t k (Recovers a ∷ h) a ≡ Succeeded
unfolding seen next_seen state_of events_of events_by
recovery_state t k h a may new =
    (λ i. table.state_after a.task.kind (only (same-itself a i && may i) (event.Recorded ∷ event.Done ∷ event.Launch ∷ []) ++ events_of t k h a))
    ∙ ap (λ x. table.after a.task.kind (table.after a.task.kind (table.after a.task.kind x event.Launch) event.Done) event.Recorded) new

pub recovered-keeps : (m : Task) (t : TaskId) (k : ℕ) (h : List TaskCall) (a : Attempt) → StandsFor m t k h → a.task ≡ m.task → m.attempts ≡ []
    → StandsFor (record m { attempts = (a, succeeded a) ∷ []; numbered = numbered_up_to m.app a }) t k (Recovers a ∷ h)
recovered-keeps m t k h a st own empty =
    let none : (seen t k h).arrived ≡ [] = nothing_kept (entry_of t k h) (seen t k h).arrived (sym empty ∙ st.attempts) in
    let unknown : has (seen t k h).arrived a ≡ false = ap (λ (l : List Attempt). has l a) none in
    let task : a.task ≡ t = own ∙ st.task in
    let same : same_task a.task t ≡ true = ap (λ x. same_task x t) task ∙ task-itself t in
    let may : may_recover t (seen t k h) a ≡ true = λ i. is_none (first_of (none i)) && same i in
    let is = recovery_seen t k h a may in
    let state = recovery_state t k h a may (unknown-new _ _ (fits t k h a) unknown) in
    let acc : has (seen t k (Recovers a ∷ h)).accepted a ≡ true = (λ i. has (is i).accepted a) ∙ (λ i. same-itself a i || false) in
    let here : succeeded a ≡ entry_of t k (Recovers a ∷ h) a = λ i. record { machine = record { attempt = a; state = sym state i }; accepted = sym acc i } in
    let parts : Parts (record m { attempts = (a, succeeded a) ∷ []; numbered = numbered_up_to m.app a }) t k (entry_of t k (Recovers a ∷ h)) (with_recovered t k (seen t k h) a) = record {
      task = st.task;
      app = st.app;
      attempts = λ i. (a, here i) ∷ [];
      askers = st.askers;
      first = st.first;
      fixed = st.fixed;
      numbered = λ i. numbered_up_to (st.app i) a;
    } in
    let P : Seen → Type 0 = λ s. Parts (record m { attempts = (a, succeeded a) ∷ []; numbered = numbered_up_to m.app a }) t k (entry_of t k (Recovers a ∷ h)) s in
    to_stands (record m { attempts = (a, succeeded a) ∷ []; numbered = numbered_up_to m.app a }) t k (Recovers a ∷ h) (subst P (sym is) parts)
