-- Bars only come last, and what is past stays so.
use Rattle.std.proofs.Common.{ℕ, zero, suc, ◌+◌, ◌<◌, ◌≤◌, ◌≡◌, refl, sym, ◌∙◌, ap, subst, Bool, true, false, not, ◌&&◌, ◌||◌, List, [], ◌∷◌, ◌++◌, length, slice_get, Option, Some, None, is_some, is_none, nat_lt, if◌then◌else◌, cond, append-nil, true≢false, arith}
use Rattle.std.specs.List.{find}
use Rattle.mr_ids.specs.Attempt.{Attempt}
use Rattle.mr_ids.specs.declared.id.TaskId.{TaskId}
use Rattle.mr_grant.specs.Attempts.{has}
use Rattle.mr_attempt.specs.Table as table
use Rattle.mr_task.specs.Calls.{TaskCall}
use Rattle.mr_task.specs.Readings as task
use Rattle.mr_task.specs.State as state
use Rattle.mr_task.specs.Steps.{Task, entry_in}
use Rattle.mr_task.specs.declared.attempts.Entry.{Entry}
use Rattle.mr_task.proofs.Telling.{live-told}
use Rattle.mr_task.proofs.Growth.{grows}
use Rattle.mr_task.proofs.Keeps.{entry-is}
use Rattle.mr_packet.specs.declared.packet.Packet.{Packet}
use Rattle.mr_packet.specs.declared.packet.Packet.TheVariants as packet
use Rattle.mr_history.specs.declared.record.Record.{Record}
use Rattle.mr_master_model.specs.declared.phase.DutyName.{DutyName}
use Rattle.mr_master_model.specs.declared.phase.DutyName.TheVariants as name
use Rattle.mr_master_model.specs.declared.setting.Setting.{Setting}
use Rattle.mr_master_model.specs.declared.store.StoreAnswer.{StoreAnswer}
use Rattle.mr_master_model.specs.declared.store.StoreAnswer.TheVariants as answer
use Rattle.mr_master_model.specs.Job.{is_task}
use Rattle.mr_master_model.specs.Past.{Step, Hears, Launches, Expires, Answered, Work, Reads, TakesOver, Runs, Fails}
use Rattle.mr_master_model.specs.Readings.{Seen, is_running, is_over, of_task, is_live, launch_of, launched_in, tell, launch_refusal, expire_refusal}
use Rattle.mr_master_model.specs.Hearing.{after_ask, after_done, is_spent, after_failure, after_end, after_failed, after_ended, after_node_up, after_where, is_lost_map, after_fetch_lost, heard, delivered, new_bars, expired}
use Rattle.mr_master_model.specs.Duty.{Duty, duty}
use Rattle.mr_master_model.specs.Answered.{is_fine, is_finished, heard_by, with_earlier, with_maps, after_bar, moved_first, success_in, tell_recorded, recorded, after_duty, after_due, changed, work_after, with_work, after_answer}
use Rattle.mr_master_model.specs.Next.{moved, next_seen, seen}
use Rattle.mr_master_model.proofs.Growing.{Grew, step-grows}
use Rattle.mr_master_events.specs.mr_master_state.specs.State.{Master, Keeps, StandsFor, StandsForSome, Stands, Unchanged}
use Rattle.mr_master_events.specs.mr_master_state.specs.Passing.{is_out_of, is_out, ArePast, HasPassed, NoneLive, Passes}
use Rattle.mr_master_events.specs.mr_master_tasks.proofs.Keeping.{machine-of}
use Rattle.mr_master_events.specs.mr_master_state.proofs.Standing.{unchanged-keeps}

-- ---- what is heard leaves the bars, and the work too where the job does not fail: so what holds of both still holds

pub either : (P : List Attempt → Work → Type 0) (b : Bool) (x y : Seen) → P x.bars x.work → P y.bars y.work → P (if b then x else y).bars (if b then x else y).work
either P true x y p q = p
either P false x y p q = q

there : {A : Type 0} (P : List Attempt → Work → Type 0) (f : Option A → Seen) (o : Option A) → P (f None).bars (f None).work → ((x : A) → P (f (Some x)).bars (f (Some x)).work) → P (f o).bars (f o).work
there P f None none some = none
there P f (Some x) none some = some x

ended : (P : List Attempt → Work → Type 0) (w : Setting) (s : Seen) (a : Attempt) (call : TaskCall) (f : Bool) → P s.bars s.work → P s.bars (Fails false) → P (after_end w s a call f).bars (after_end w s a call f).work
ended P w s a call f p q =
    let told = tell s a.task call in
    either P (f && is_live w s a) (after_failure w told a) told (either P (is_spent w told a.task) _ _ q p) p

heard-holds : (P : List Attempt → Work → Type 0) (w : Setting) (s : Seen) (x : Packet) → P s.bars s.work → P s.bars (Fails false) → P (heard w s x).bars (heard w s x).work
unfolding heard
heard-holds P w s (packet.Pending a) p q = there P (λ l. after_ask s a l) (launch_of w s a) p (λ l. p)
heard-holds P w s (packet.Poll a) p q = there P (λ l. after_ask s a l) (launch_of w s a) p (λ l. p)
heard-holds P w s (packet.Done a bytes) p q = there P (λ l. after_done w s a bytes l) (launch_of w s a) p (λ l. either P (task.may_accept (of_task w s a.task) a) _ _ p p)
heard-holds P w s (packet.Failed a) p q = there P (λ l. after_failed w s a l) (launch_of w s a) p (λ l. ended P w s a _ true p q)
heard-holds P w s (packet.Ended c) p q = there P (λ l. after_ended w s c l) (launched_in w s c) p (λ l. ended P w s l.0 _ (not (s.killed c.number)) p q)
heard-holds P w s (packet.Where c m) p q = there P (λ l. after_where s l) (launched_in w s c) p (λ l. p)
heard-holds P w s (packet.FetchLost c a) p q = there P (λ l. after_fetch_lost w s a l) (launched_in w s c) p (λ l. either P (is_lost_map w s a a.task.kind) _ _ p p)
heard-holds P w s _ p q = p

pub delivered-holds : (P : List Attempt → Work → Type 0) (w : Setting) (s : Seen) (x : Packet) → P s.bars s.work → P s.bars (Fails false) → P (delivered w s x).bars (delivered w s x).work
unfolding delivered
delivered-holds P w s (packet.NodeUp n i) p q = either P (is_over s.work) s (after_node_up w s n i) p (either P (not (nat_lt (s.known n) i)) _ _ p (either P (is_running s.work) _ _ p p))
delivered-holds P w s x p q = either P (is_running s.work) (heard w s x) s (heard-holds P w s x p q) p

-- ---- nothing but an expiry makes a bar due

same-if : (b : Bool) (s x y : Seen) → x.bars ≡ s.bars → y.bars ≡ s.bars → (if b then x else y).bars ≡ s.bars
same-if b s x y e f = either (λ bars work. bars ≡ s.bars) b x y e f

recorded-told : (w : Setting) (s : Seen) (a : Option Attempt) → (tell_recorded w s a).bars ≡ s.bars
recorded-told w s None = refl
recorded-told w s (Some a) = same-if (is_task w a.task) s _ _ refl refl

recorded-same : (w : Setting) (rs : List Record) (s : Seen) → (recorded w s rs).bars ≡ s.bars
unfolding recorded
recorded-same w [] s = refl
recorded-same w (r ∷ rs) s = recorded-same w rs (tell_recorded w s (success_in r)) ∙ recorded-told w s (success_in r)

bar-same : (s : Seen) (a : Option Attempt) → (after_bar s a).bars ≡ s.bars
bar-same s None = refl
bar-same s (Some a) = refl

first-same : (s : Seen) (due : List Record) → (moved_first s due).bars ≡ s.bars
first-same s [] = refl
first-same s (r ∷ due) = refl

duty-same : (w : Setting) (s : Seen) (n : DutyName) → (after_duty w s n).bars ≡ s.bars
duty-same w s name.Bar = bar-same s (find (is_live w s) s.bars)
duty-same w s name.Append = first-same s s.due
duty-same w s name.Flush = recorded-same w s.tail s
duty-same w s _ = refl

due-same : (w : Setting) (s : Seen) (d : Option Duty) → (after_due w s d).bars ≡ s.bars
due-same w s None = refl
due-same w s (Some d) = duty-same w s d.name

earlier-same : (s : Seen) (a : StoreAnswer) → (with_earlier s a).bars ≡ s.bars
earlier-same s (answer.Told rs) = refl
earlier-same s _ = refl

changed-same : (w : Setting) (s : Seen) (a : StoreAnswer) (x : Work) → (changed w s a x).bars ≡ s.bars
unfolding changed
changed-same w s a Reads = earlier-same s a
changed-same w s a (TakesOver x left others) = same-if (is_finished (heard_by left a).0) s _ _ refl refl
changed-same w s a Runs = same-if (is_fine a) s (after_due w s (duty w s)) s (due-same w s (duty w s)) refl
changed-same w s a (Fails is_stable) = same-if (is_fine a) s (after_due w s (duty w s)) s (due-same w s (duty w s)) refl
changed-same w s a _ = refl

work-same : (w : Setting) (s : Seen) (x : Work) → (with_work w s x).bars ≡ s.bars
work-same w s x = by (is_running x && not (is_running s.work))
  where
    by : (b : Bool) → (if b then with_maps w s else s).bars ≡ s.bars
    by true = refl
    by false = refl

answer-same : (w : Setting) (s : Seen) (a : StoreAnswer) → (after_answer w s a).bars ≡ s.bars
answer-same w s a =
    let r = changed w s a s.work in
    same-if (is_some (duty w s)) s (with_work w r (work_after w s a s.work)) s (work-same w r (work_after w s a s.work) ∙ changed-same w s a s.work) refl

-- ---- so bars only come last

abbrev pub More : Seen → Seen → Type 0
More s r = (more : List Attempt) × (r.bars ≡ s.bars ++ more)

no-more : (s r : Seen) → r.bars ≡ s.bars → More s r
no-more s r e = ([], e ∙ sym (append-nil s.bars))

pub step-bars : (w : Setting) (s : Seen) (step : Step) → More s (next_seen w s step)
unfolding next_seen moved
step-bars w s (Hears p) = no-more s (next_seen w s (Hears p)) (delivered-holds (λ bars work. bars ≡ s.bars) w s p refl refl)
step-bars w s (Launches t n) = no-more s (next_seen w s (Launches t n)) (same-if (is_none (launch_refusal w s t n)) s _ _ refl refl)
step-bars w s (Expires n) = by (is_none (expire_refusal w s n))
  where
    by : (b : Bool) → (more : List Attempt) × ((if b then expired w s n else s).bars ≡ s.bars ++ more)
    by true = (new_bars w s n, refl)
    by false = ([], sym (append-nil s.bars))
step-bars w s (Answered a) = no-more s (next_seen w s (Answered a)) (answer-same w s a)

-- ---- who is out stays out, and is not live

or-left : (b c : Bool) → b ≡ true → (b || c) ≡ true
or-left b c e = ap (λ d. d || c) e

or-right : (b c : Bool) → c ≡ true → (b || c) ≡ true
or-right true c e = refl
or-right false c e = e

out-grows : (t : TaskId) (k : ℕ) (h more : List TaskCall) (a : Attempt) → is_out_of (task.seen t k h) a ≡ true → is_out_of (task.seen t k (more ++ h)) a ≡ true
out-grows t k h more a e = by (has (task.seen t k h).accepted a) refl e
  where
    by : (b : Bool) → has (task.seen t k h).accepted a ≡ b → (b || task.is_over (task.seen t k h).ended a) ≡ true → is_out_of (task.seen t k (more ++ h)) a ≡ true
    by true q f = or-left _ _ ((grows t k h more).accepted a q)
    by false q f = or-right _ _ ((grows t k h more).over a f)

pub out-stays : (w : Setting) (s r : Seen) (a : Attempt) → Grew s r → is_out w s a ≡ true → is_out w r a ≡ true
out-stays w s r a g e =
    let x = g a.task in
    subst (λ (l : List TaskCall). is_out_of (task.seen a.task w.app l) a ≡ true) (sym x.1) (out-grows a.task w.app (s.calls a.task) x.0 a e)

pub out-is-not-live : (w : Setting) (s : Seen) (a : Attempt) → is_out w s a ≡ true → is_live w s a ≡ false
out-is-not-live w s a e = by (has (of_task w s a.task).arrived a) (has (of_task w s a.task).accepted a) (task.is_over (of_task w s a.task).ended a) e
  where
    by : (arrived accepted over : Bool) → (accepted || over) ≡ true → (arrived && (not accepted && not over)) ≡ false
    by false accepted over f = refl
    by true true over f = refl
    by true false true f = refl
    by true false false f = absurd (true≢false (sym f))

-- ---- what is past stays so

slice_get-front : {A : Type 0} (xs more : List A) (i : ℕ) → i < length xs → slice_get (xs ++ more) i ≡ slice_get xs i
slice_get-front [] more i below = absurd (omega arith)
slice_get-front (x ∷ xs) more zero below = refl
slice_get-front (x ∷ xs) more (suc i) below = slice_get-front xs more i (omega arith)

length-front : {A : Type 0} (xs more : List A) → length xs ≤ length (xs ++ more)
length-front [] more = omega arith
length-front (x ∷ xs) more = let e = length-front xs more in omega arith

pub past-stays : (w : Setting) (s r : Seen) (n : ℕ) → Grew s r → More s r → ArePast n w s → ArePast n w r
past-stays w s r n g m past = record {
  within = let e = past.within in let f = length-front s.bars m.0 in let h = ap (λ (l : List Attempt). length l) m.1 in omega arith;
  out = λ i a below at.
      let e = past.within in
      out-stays w s r a g (past.out i a below (sym (slice_get-front s.bars m.0 i (omega arith)) ∙ ap (λ (l : List Attempt). slice_get l i) (sym m.1) ∙ at));
}

-- ---- of a machine

pub passed-none : (m : Master) → StandsForSome m → HasPassed m 0
passed-none m some = (some.0, some.1, record { within = omega arith; out = λ i a below at. absurd (omega arith) })

-- at another machine that stands for the same past
pub passed-by : (m : Master) (w : Setting) (past : List Step) (n : ℕ) → StandsFor m w past → ArePast n w (seen w past) → HasPassed m n
passed-by m w past n k p =
    let P : Setting → Type 0 = λ v. StandsFor m v past × ArePast n v (seen v past) in
    let both : P m.setting = subst P (sym k.setting) (k, p) in
    (past, both.0, both.1)

pub passed-still : (old new : Master) (step : Step) (n : ℕ) → Stands old step new → HasPassed old n → HasPassed new n
unfolding seen
passed-still old new step n moves p =
    let w = old.setting in
    let s = seen w p.0 in
    passed-by new w (step ∷ p.0) n (moves w p.0 p.1) (past-stays w s (next_seen w s step) n (step-grows w s step) (step-bars w s step) p.2)

pub passed-same : (old new : Master) (n : ℕ) → ((w : Setting) (s : Seen) → Keeps old w s → Keeps new w s) → HasPassed old n → HasPassed new n
passed-same old new n keeps p = passed-by new old.setting p.0 n (keeps old.setting (seen old.setting p.0) p.1) p.2

pub passed-unchanged : (old new : Master) (n : ℕ) → Unchanged old new → HasPassed old n → HasPassed new n
passed-unchanged old new n u p = passed-same old new n (λ w s k. unchanged-keeps old new w s u k) p

pub passed-more : (m : Master) (n more : ℕ) → Passes m n more → HasPassed m n → HasPassed m more
passed-more m n more passes p = (p.0, p.1, passes m.setting (seen m.setting p.0) p.1 p.2)

-- ---- whatever a machine keeps, the same attempts are live

abbrev live_entry : Option Entry → Bool
live_entry None = false
live_entry (Some e) = table.is_live e.machine.state

live-in : (x : Task) (t : TaskId) (k : ℕ) (h : List TaskCall) (a : Attempt) → state.StandsFor x t k h → task.is_live (task.seen t k h) a ≡ live_entry (entry_in x.attempts a)
live-in x t k h a st = by (has (task.seen t k h).arrived a) refl ∙ sym (ap live_entry (entry-is x t k h a st))
  where
    by : (b : Bool) → has (task.seen t k h).arrived a ≡ b → task.is_live (task.seen t k h) a ≡ live_entry (cond b (Some (state.entry_of t k h a)) None)
    by true q = live-told t k h a
    by false q = ap (λ b. b && (not (has (task.seen t k h).accepted a) && not (task.is_over (task.seen t k h).ended a))) q

same-live : (m : Master) (w : Setting) (s r : Seen) (a : Attempt) → Keeps m w s → Keeps m w r → is_live w s a ≡ is_live w r a
same-live m w s r a k l = by (is_task w a.task) refl
  where
    by : (b : Bool) → is_task w a.task ≡ b → is_live w s a ≡ is_live w r a
    by true e =
        let x = machine-of m.tasks w s.calls a.task k.tasks e in
        live-in x.0 a.task w.app (s.calls a.task) a x.2 ∙ sym (live-in x.0 a.task w.app (r.calls a.task) a (l.tasks.stand a.task x.0 e x.1))
    by false e = ap (λ (h : List TaskCall). task.is_live (task.seen a.task w.app h) a) (k.tasks.outside a.task e ∙ sym (l.tasks.outside a.task e))

pub none-live : (m : Master) (n : ℕ) → HasPassed m n → NoneLive m n
none-live m n p w s i a k below at = subst P k.setting (λ l. here l) k
  where
    P : Setting → Type 0
    P v = Keeps m v s → is_live v s a ≡ false

    here : Keeps m m.setting s → is_live m.setting s a ≡ false
    here l =
        let r = seen m.setting p.0 in
        same-live m m.setting s r a l p.1
        ∙ out-is-not-live m.setting r a (p.2.out i a below (ap (λ (as' : List Attempt). slice_get as' i) (sym p.1.bars ∙ l.bars) ∙ at))
