-- A Kill goes only to a container that was launched.
use Rattle.std.proofs.Common.{ℕ, zero, suc, ◌+◌, ◌≡◌, refl, sym, ◌∙◌, ap, subst, Bool, true, false, ◌||◌, cond, List, [], ◌∷◌, ◌++◌, flat_map, length, length-append, Option, Some, None, is_some, is_none, nat_eq, nat_lt, if◌then◌else◌, ◌⊎◌, inl, inr, true≢false, arith}
use Rattle.std.specs.List.{find}
use Rattle.std.specs.Map.{lookup}
use Rattle.std.proofs.lemmas.Bool.{eqb-true}
use Rattle.std.proofs.lemmas.Bool.Decides.{nat_tests}
use Rattle.mr_ids.specs.Attempt.{Attempt}
use Rattle.mr_ids.specs.declared.id.TaskId.{TaskId}
use Rattle.mr_ids.specs.declared.id.TaskKind.TheVariants.{Map}
use Rattle.mr_grant.specs.Attempts.{same_attempt, has}
use Rattle.mr_task.specs.Calls as task_call
use Rattle.mr_task.specs.Readings as task
use Rattle.mr_packet.specs.declared.packet.ContainerId.{ContainerId}
use Rattle.mr_packet.specs.declared.packet.Envelope.{Envelope}
use Rattle.mr_packet.specs.declared.packet.Packet.{Packet}
use Rattle.mr_packet.specs.declared.packet.Packet.TheVariants as packet
use Rattle.mr_packet.specs.Sends.{to_node}
use Rattle.mr_history.specs.declared.record.Record.{Record}
use Rattle.mr_history.specs.declared.record.Record.TheVariants.{AttemptStarted, MapSucceeded, ReduceSucceeded, AttemptFailed, JobUnsuccessful}
use Rattle.mr_master_model.specs.declared.launch.Launch.{Launch}
use Rattle.mr_master_model.specs.declared.phase.DutyName.{DutyName}
use Rattle.mr_master_model.specs.declared.phase.DutyName.TheVariants as name
use Rattle.mr_master_model.specs.declared.setting.Setting.{Setting}
use Rattle.mr_master_model.specs.declared.store.StoreAnswer.{StoreAnswer}
use Rattle.mr_master_model.specs.Job.{is_task, task_of, all_maps, all_tasks}
use Rattle.mr_master_model.specs.Past.{Step, Hears, Launches, Expires, Answered, Work, TakesOver, Runs, Fails, Ends}
use Rattle.mr_master_model.specs.Readings.{Seen, Place, is_running, of_task, is_known, is_live, launch_of, launched_in, succeeded, place_of, tell, launch_refusal, expire_refusal, launched_as, next_attempt}
use Rattle.mr_master_model.specs.Hearing.{after_ask, given_up_of_maps, heard, delivered, with_launch, after_expiry}
use Rattle.mr_master_model.specs.Duty.{Duty, duty}
use Rattle.mr_master_model.specs.Answered.{is_fine, is_finished, heard_by, success_in, work_after, after_answer}
use Rattle.mr_master_model.specs.Sends.{to_all, kill_at, kill_of, kills_of, kill_all, answer_to, ack_to, ready_at, ready_by, ready_to, replies, wins, kills_beside, bar_sends, duty_sends, due_sends, work_sends, outcome_of, is_kill, with_kill, killed_by}
use Rattle.mr_master_model.specs.Next.{moved, sent_by, next_seen, seen}
use Rattle.mr_master_model.specs.Laws.{In, KillsGoToLaunched}
use Rattle.mr_master_model.proofs.Growing.{if_cases}
use Rattle.mr_master_model.proofs.Recording.{In-parts}
use Rattle.mr_master_model.proofs.Launching.{Stays, heard-stays, delivered-stays, answer-stays}

-- ---- packets among which each Kill is to a container below n

abbrev is_below : ℕ → Packet → Bool
is_below n (packet.Kill c) = nat_lt c.number n
is_below n _ = true

abbrev Below : ℕ → List Envelope → Type 0
Below n [] = Unit {0}
Below n (e ∷ es) = (is_below n e.body ≡ true) × Below n es

below-append : (n : ℕ) (xs ys : List Envelope) → Below n xs → Below n ys → Below n (xs ++ ys)
below-append n [] ys p q = q
below-append n (x ∷ xs) ys p q = (p.0, below-append n xs ys p.1 q)

below-each : {X : Type 0} (n : ℕ) (f : X → List Envelope) → ((x : X) → Below n (f x)) → (xs : List X) → Below n (flat_map f xs)
below-each n f h [] = tt
below-each n f h (x ∷ xs) = below-append n (f x) (flat_map f xs) (h x) (below-each n f h xs)

not-it : (p : Packet) (n m : ℕ) → is_below n p ≡ true → nat_lt m n ≡ false → is_kill p m ≡ false
not-it (packet.Kill c) n m e f = by (nat_eq c.number m) refl
  where
    by : (b : Bool) → nat_eq c.number m ≡ b → b ≡ false
    by false q = refl
    by true q = let same : c.number ≡ m = eqb-true _ _ q in absurd (true≢false (sym e ∙ ap (λ x. nat_lt x n) same ∙ f))
not-it _ n m e f = refl

below-killed : (n : ℕ) (es : List Envelope) (killed : ℕ → Bool) (m : ℕ) → Below n es → nat_lt m n ≡ false → killed_by es killed m ≡ killed m
unfolding killed_by
below-killed n [] killed m b f = refl
below-killed n (e ∷ es) killed m b f = below-killed n es (with_kill e.body killed) m b.1 f ∙ ap (λ c. c || killed m) (not-it e.body n m b.0 f)

-- ---- the containers of launches

abbrev Numbered : Seen → Type 0
Numbered s = (p : Attempt × Launch) → In p s.launched → nat_lt p.1.container.number (length s.launched) ≡ true

found-in : (test : Attempt → Bool) (ls : List (Attempt × Launch)) (l : Launch) → lookup test ls ≡ Some l → (p : Attempt × Launch) × In p ls × (p.1 ≡ l)
found-in test [] l e = cc
found-in test (p ∷ ls) l e = by (test p.0) e (found-in test ls l)
  where
    some-is : {A : Type 0} {x y : A} → Some x ≡ Some y → x ≡ y
    some-is q = cc

    by : (b : Bool) → cond b (Some p.1) (lookup test ls) ≡ Some l → (lookup test ls ≡ Some l → (q : Attempt × Launch) × In q ls × (q.1 ≡ l)) → (q : Attempt × Launch) × In q (p ∷ ls) × (q.1 ≡ l)
    by true q rest = (p, inl refl, some-is q)
    by false q rest = let r = rest q in (r.0, inr r.1, r.2)

kill-below : (w : Setting) (s : Seen) → Numbered s → (a : Attempt) → Below (length s.launched) (kill_of w s a)
kill-below w s n a = by (launch_of w s a) refl
  where
    known : (b : Bool) (l : Launch) → (if b then lookup (same_attempt a) s.launched else None) ≡ Some l → lookup (same_attempt a) s.launched ≡ Some l
    known true l e = e
    known false l e = cc

    by : (o : Option Launch) → launch_of w s a ≡ o → Below (length s.launched) (kill_at o)
    by None e = tt
    by (Some l) e =
        let p = found-in (same_attempt a) s.launched l (known (is_known w s a) l e) in
        (sym (ap (λ (x : Launch). nat_lt x.container.number (length s.launched)) p.2) ∙ n p.0 p.1, tt)

kills-below : (w : Setting) (s : Seen) → Numbered s → (t : TaskId) → Below (length s.launched) (kills_of w s t)
kills-below w s n t = if_cases (λ es. Below (length s.launched) es) (is_task w t) _ _ (λ e. below-each _ (kill_of w s) (kill-below w s n) (task.live (of_task w s t))) (λ e. tt)

kill-all-below : (w : Setting) (s : Seen) → Numbered s → Below (length s.launched) (kill_all w s)
kill-all-below w s n = below-each _ (kills_of w s) (kills-below w s n) (all_tasks w)

-- ---- all that is sent

to-all-below : (m n : ℕ) (p : Packet) → is_below n p ≡ true → Below n (to_all m p)
unfolding to_all
to-all-below zero n p e = tt
to-all-below (suc m) n p e = below-append n (to_all m p) (to_node m p ∷ []) (to-all-below m n p e) (e, tt)

answer-below : (n : ℕ) (a : Attempt) (l : Option Launch) (may : Bool) → Below n (answer_to a l may)
answer-below n a None may = tt
answer-below n a (Some l) may = (refl, tt)

ack-below : (w : Setting) (s : Seen) (n : ℕ) (a : Attempt) (l : Option Launch) → Below n (ack_to w s a l)
ack-below w s n a None = tt
ack-below w s n a (Some l) = if_cases (λ es. Below n es) (has (of_task w s a.task).accepted a || task.may_accept (of_task w s a.task) a) _ _ (λ e. (refl, tt)) (λ e. tt)

at-below : (n : ℕ) (c : ContainerId) (m : ℕ) (a : Attempt) (p : Option Place) → Below n (ready_at c m a p)
at-below n c m a None = tt
at-below n c m a (Some p) = (refl, tt)

by-below : (w : Setting) (s : Seen) (n : ℕ) (c : ContainerId) (m : ℕ) (o : Option Attempt) → Below n (ready_by w s c m o)
by-below w s n c m None = tt
by-below w s n c m (Some a) = at-below n c m a (place_of w s a)

ready-below : (w : Setting) (s : Seen) (n : ℕ) (c : ContainerId) (m : ℕ) (p : Option (Attempt × Launch)) → Below n (ready_to w s c m p)
ready-below w s n c m None = tt
ready-below w s n c m (Some p) = by-below w s n c m (succeeded w s (task_of w Map m))

replies-below : (w : Setting) (s r : Seen) (n : ℕ) → Below n (kill_all w r) → (p : Packet) → Below n (replies w s r p)
unfolding replies
replies-below w s r n k (packet.Pending a) = answer-below n a (launch_of w s a) (task.is_named (of_task w (after_ask s a (launch_of w s a)) a.task) a)
replies-below w s r n k (packet.Poll a) = answer-below n a (launch_of w s a) (task.is_named (of_task w (after_ask s a (launch_of w s a)) a.task) a)
replies-below w s r n k (packet.Done a bytes) = ack-below w s n a (launch_of w s a)
replies-below w s r n k (packet.Failed a) = if_cases (λ es. Below n es) (is_running r.work) _ _ (λ e. tt) (λ e. k)
replies-below w s r n k (packet.Ended c) = if_cases (λ es. Below n es) (is_running r.work) _ _ (λ e. tt) (λ e. k)
replies-below w s r n k (packet.Where c m) = ready-below w s n c m (launched_in w s c)
replies-below w s r n k _ = tt

wins-below : (w : Setting) (n : ℕ) (r : Record) → Below n (wins w r)
wins-below w n (ReduceSucceeded a bytes) = to-all-below w.nodes n (packet.Won a.task a) refl
wins-below w n (MapSucceeded a m i) = tt
wins-below w n (AttemptStarted a m) = tt
wins-below w n (AttemptFailed a) = tt
wins-below w n JobUnsuccessful = tt

beside-below : (w : Setting) (s : Seen) → Numbered s → (a : Option Attempt) → Below (length s.launched) (kills_beside w s a)
beside-below w s n None = tt
beside-below w s n (Some a) = kills-below w s n a.task

bar-below : (w : Setting) (s : Seen) → Numbered s → (a : Option Attempt) → Below (length s.launched) (bar_sends w s a)
bar-below w s n None = tt
bar-below w s n (Some a) = kill-below w s n a

duty-below : (w : Setting) (s : Seen) → Numbered s → (d : DutyName) → Below (length s.launched) (duty_sends w s d)
duty-below w s n name.Bar = bar-below w s n (find (is_live w s) s.bars)
duty-below w s n name.Flush =
    below-each _ (λ r. wins w r ++ kills_beside w s (success_in r)) (λ r. below-append _ (wins w r) (kills_beside w s (success_in r)) (wins-below w (length s.launched) r) (beside-below w s n (success_in r))) s.tail
duty-below w s n _ = tt

due-below : (w : Setting) (s : Seen) → Numbered s → (d : Option Duty) → Below (length s.launched) (due_sends w s d)
due-below w s n None = tt
due-below w s n (Some d) = duty-below w s n d.name

work-below : (w : Setting) (s : Seen) → Numbered s → (a : StoreAnswer) (x : Work) → Below (length s.launched) (work_sends w s a x)
unfolding work_sends
work-below w s n a (TakesOver x left others) =
    if_cases (λ es. Below (length s.launched) es) (is_finished (heard_by left a).0) _ _ (λ e. to-all-below w.nodes (length s.launched) (packet.Won x.task x.attempt) refl) (λ e. tt)
work-below w s n a Runs = if_cases (λ es. Below (length s.launched) es) (is_fine a) _ _ (λ e. due-below w s n (duty w s)) (λ e. tt)
work-below w s n a (Fails is_stable) = if_cases (λ es. Below (length s.launched) es) (is_fine a) _ _ (λ e. due-below w s n (duty w s)) (λ e. tt)
work-below w s n a _ = tt

outcome-below : (w : Setting) (n : ℕ) (x : Work) → Below n (outcome_of w x)
outcome-below w n (Ends succeeded) = to-all-below w.nodes n (packet.Outcome succeeded) refl
outcome-below w n _ = tt

sent-below : (w : Setting) (s : Seen) → Numbered s → (step : Step) → Below (length s.launched) (sent_by w s step)
unfolding sent_by
sent-below w s n (Hears p) =
    let same = (heard-stays w s p).0 in
    let r = heard w s p in
    let numbered : Numbered r = subst (λ (ls : List (Attempt × Launch)). (q : Attempt × Launch) → In q ls → nat_lt q.1.container.number (length ls) ≡ true) (sym same) n in
    let kills : Below (length s.launched) (kill_all w r) = subst (λ (ls : List (Attempt × Launch)). Below (length ls) (kill_all w r)) same (kill-all-below w r numbered) in
    if_cases (λ es. Below (length s.launched) es) (is_running s.work) _ _ (λ e. replies-below w s r (length s.launched) kills p) (λ e. tt)
sent-below w s n (Launches t m) = if_cases (λ es. Below (length s.launched) es) (is_none (launch_refusal w s t m)) _ _ (λ e. (refl, tt)) (λ e. tt)
sent-below w s n (Expires m) =
    if_cases (λ es. Below (length s.launched) es) (is_none (expire_refusal w s m)) _ _ (λ e. below-each _ (kill_of w s) (kill-below w s n) (flat_map (given_up_of_maps w s m) (all_maps w))) (λ e. tt)
sent-below w s n (Answered a) =
    if_cases (λ es. Below (length s.launched) es) (is_some (duty w s)) _ _
    (λ e. below-append _ (work_sends w s a s.work) (outcome_of w (work_after w s a s.work)) (work-below w s n a s.work) (outcome-below w (length s.launched) (work_after w s a s.work))) (λ e. tt)

-- ---- along a past

abbrev Fits : Seen → Type 0
Fits s = Numbered s × ((m : ℕ) → nat_lt m (length s.launched) ≡ false → s.killed m ≡ false)

-- the launches stay
fits-still : (s r : Seen) (es : List Envelope) → Fits s → Below (length s.launched) es → Stays s r → Fits (record r { killed = killed_by es r.killed })
fits-still s r es f b e = (numbered, spared)
  where
    numbered : (q : Attempt × Launch) → In q r.launched → nat_lt q.1.container.number (length r.launched) ≡ true
    numbered = subst (λ (ls : List (Attempt × Launch)). (q : Attempt × Launch) → In q ls → nat_lt q.1.container.number (length ls) ≡ true) (sym e.0) f.0

    spared : (m : ℕ) → nat_lt m (length r.launched) ≡ false → killed_by es r.killed m ≡ false
    spared m low =
        let low' : nat_lt m (length s.launched) ≡ false = sym (ap (λ (ls : List (Attempt × Launch)). nat_lt m (length ls)) e.0) ∙ low in
        below-killed (length s.launched) es r.killed m b low' ∙ ap (λ (k : ℕ → Bool). k m) e.1 ∙ f.1 m low'

lower : (m k : ℕ) → nat_lt m k ≡ true → nat_lt m (k + 1) ≡ true
lower m k e = grind (arith, nat_tests)

not-lower : (m k : ℕ) → nat_lt m (k + 1) ≡ false → nat_lt m k ≡ false
not-lower m k e = by (nat_lt m k) refl
  where
    by : (b : Bool) → nat_lt m k ≡ b → b ≡ false
    by false q = refl
    by true q = absurd (true≢false (sym (lower m k q) ∙ e))

-- a launch adds one, with the next number
fits-launch : (s r : Seen) (es : List Envelope) (a : Attempt) (l : Launch) → Fits s → Below (length s.launched) es → l.container.number ≡ length s.launched
    → r.launched ≡ s.launched ++ (a, l) ∷ [] → r.killed ≡ s.killed → Fits (record r { killed = killed_by es r.killed })
fits-launch s r es a l f b num e k = (numbered, spared)
  where
    long : length r.launched ≡ length s.launched + 1
    long = ap (λ (ls : List (Attempt × Launch)). length ls) e ∙ length-append s.launched ((a, l) ∷ [])

    numbered : (q : Attempt × Launch) → In q r.launched → nat_lt q.1.container.number (length r.launched) ≡ true
    numbered q i = ap (λ (n : ℕ). nat_lt q.1.container.number n) long ∙ by (In-parts q s.launched ((a, l) ∷ []) (subst (λ ls. In q ls) e i))
      where
        by : In q s.launched ⊎ In q ((a, l) ∷ []) → nat_lt q.1.container.number (length s.launched + 1) ≡ true
        by (inl j) = lower q.1.container.number (length s.launched) (f.0 q j)
        by (inr (inl same)) = let here : q.1.container.number ≡ length s.launched = sym (ap (λ (p : Attempt × Launch). p.1.container.number) same) ∙ num in grind (arith, nat_tests)
        by (inr (inr j)) = absurd j

    spared : (m : ℕ) → nat_lt m (length r.launched) ≡ false → killed_by es r.killed m ≡ false
    spared m low =
        let low' : nat_lt m (length s.launched) ≡ false = not-lower m (length s.launched) (sym (ap (λ (n : ℕ). nat_lt m n) long) ∙ low) in
        below-killed (length s.launched) es r.killed m b low' ∙ ap (λ (h : ℕ → Bool). h m) k ∙ f.1 m low'

fits-step : (w : Setting) (s : Seen) (step : Step) → Fits s → Fits (next_seen w s step)
unfolding next_seen moved
fits-step w s (Hears p) f = fits-still s (delivered w s p) (sent_by w s (Hears p)) f (sent-below w s f.0 (Hears p)) (delivered-stays w s p)
fits-step w s (Launches t n) f =
    if_cases (λ r. Fits (record r { killed = killed_by (sent_by w s (Launches t n)) r.killed })) (is_none (launch_refusal w s t n)) _ _
    (λ e. fits-launch s (with_launch (tell s t task_call.Launches) (next_attempt w s t) (launched_as w s n)) (sent_by w s (Launches t n)) (next_attempt w s t) (launched_as w s n) f (sent-below w s f.0 (Launches t n)) refl refl refl)
    (λ e. fits-still s s (sent_by w s (Launches t n)) f (sent-below w s f.0 (Launches t n)) (refl, refl))
fits-step w s (Expires n) f =
    fits-still s (after_expiry w s n) (sent_by w s (Expires n)) f (sent-below w s f.0 (Expires n))
    (if_cases (λ r. Stays s r) (is_none (expire_refusal w s n)) _ _ (λ e. (refl, refl)) (λ e. (refl, refl)))
fits-step w s (Answered a) f = fits-still s (after_answer w s a) (sent_by w s (Answered a)) f (sent-below w s f.0 (Answered a)) (answer-stays w s a)

fits : (w : Setting) (past : List Step) → Fits (seen w past)
unfolding seen
fits w [] = (λ p i. absurd i, λ m low. refl)
fits w (step ∷ past) = fits-step w (seen w past) step (fits w past)

pub kills_go_to_launched : KillsGoToLaunched
kills_go_to_launched w past m low = (fits w past).1 m low
