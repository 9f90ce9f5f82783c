-- What an answer changes and sends, in each work.
use Rattle.std.proofs.Common.{◌≡◌, refl, sym, ap, ◌∙◌, Bool, true, false, ◌&&◌, not, cond, List, [], ◌∷◌, ◌++◌, append-nil, Option, Some, None, if◌then◌else◌, true≢false}
use Rattle.std.specs.List.{find}
use Rattle.std.specs.Option.{option_map, is_some}
use Rattle.mr_ids.specs.Attempt.{Attempt}
use Rattle.mr_task.specs.Calls as task_call
use Rattle.mr_packet.specs.declared.packet.Envelope.{Envelope}
use Rattle.mr_history.specs.declared.record.Record.{Record}
use Rattle.mr_master_model.specs.declared.phase.DutyName.{DutyName}
use Rattle.mr_master_model.specs.declared.phase.DutyName.TheVariants as name
use Rattle.mr_master_model.specs.declared.setting.Setting.{Setting}
use Rattle.mr_master_model.specs.declared.store.StoreAnswer.{StoreAnswer}
use Rattle.mr_master_model.specs.declared.store.StoreCall.TheVariants as call
use Rattle.mr_names.specs.declared.op.Op.TheVariants as op
use Rattle.mr_master_model.specs.Job.{is_task, all_reduces}
use Rattle.mr_master_model.specs.Past.{Work, LooksForSuccess, LooksForFail, LooksForStarted, Runs, TellsSuccess, TellsFail, AbortsCommit, Fails, Stops}
use Rattle.mr_master_model.specs.Readings.{Seen, is_running, is_live, or_else, tell, all_succeeded}
use Rattle.mr_master_model.specs.Duty.{Duty, duty, duty_at, record_duty, start_duty, creates, started_mark}
use Rattle.mr_master_model.specs.Answered.{is_fine, changed, work_after, with_work, after_due, after_duty, running_after, failing_after, name_of, recorded, tell_recorded, success_in, moved_first, with_maps}
use Rattle.mr_master_model.specs.Sends.{work_sends, outcome_of, due_sends, duty_sends}
use Rattle.mr_master_phase.specs.WorkKinds.{is_look, is_tell}
use Rattle.mr_master_phase.specs.Answering.{answered_sends, answered_seen}

-- a work that does not run
pub quiet : (w : Setting) (s : Seen) (work : Work) → is_running work ≡ false → record s { work = work } ≡ with_work w s work
quiet w s work e = λ i. record (if (sym e i && not (is_running s.work)) then with_maps w s else s) { work = work }

and-none : (b : Bool) → false ≡ (b && false)
and-none true = refl
and-none false = refl

-- a work after one that runs
pub running-on : (w : Setting) (s : Seen) (work : Work) → s.work ≡ Runs → record s { work = work } ≡ with_work w s work
running-on w s work e = (λ i. record (if (and-none (is_running work) i) then with_maps w s else s) { work = work }) ∙ (λ i. record (if (is_running work && not (is_running (sym e i))) then with_maps w s else s) { work = work })

-- ---- looks, and marks that are created

pub look-changes : (w : Setting) (s : Seen) (a : StoreAnswer) (work : Work) → is_look work ≡ true → (s ≡ changed w s a work) × ([] ≡ work_sends w s a work)
unfolding changed work_sends
look-changes w s a LooksForSuccess e = (refl, refl)
look-changes w s a LooksForFail e = (refl, refl)
look-changes w s a LooksForStarted e = (refl, refl)
look-changes w s a _ e = absurd (true≢false (sym e))

pub tell-changes : (w : Setting) (s : Seen) (a : StoreAnswer) (work : Work) → is_tell work ≡ true → (s ≡ changed w s a work) × ([] ≡ work_sends w s a work)
unfolding changed work_sends
tell-changes w s a TellsSuccess e = (refl, refl)
tell-changes w s a TellsFail e = (refl, refl)
tell-changes w s a AbortsCommit e = (refl, refl)
tell-changes w s a _ e = absurd (true≢false (sym e))

-- nothing changes but the work
pub quiet-seen : (w : Setting) (s : Seen) (a : StoreAnswer) (new : Work) → s ≡ changed w s a s.work → new ≡ work_after w s a s.work → is_running new ≡ false → record s { work = new } ≡ answered_seen w s a
quiet-seen w s a new e q r = quiet w s new r ∙ (λ i. with_work w (e i) (q i))

pub quiet-sends : (w : Setting) (s : Seen) (a : StoreAnswer) (new : Work) (es : List Envelope) → [] ≡ work_sends w s a s.work → new ≡ work_after w s a s.work → es ≡ outcome_of w new → es ≡ answered_sends w s a
quiet-sends w s a new es e q r = r ∙ (λ i. e i ++ outcome_of w (q i))

-- ---- a call that is due by a name, while Running

abbrev pub after_named : Setting → Seen → Option DutyName → Seen
after_named w s None = s
after_named w s (Some n) = after_duty w s n

abbrev pub named_sends : Setting → Seen → Option DutyName → List Envelope
named_sends w s None = []
named_sends w s (Some n) = duty_sends w s n

pub due-named : (w : Setting) (s : Seen) (d : Option Duty) → after_named w s (name_of d) ≡ after_due w s d
due-named w s None = refl
due-named w s (Some d) = refl

pub sends-named : (w : Setting) (s : Seen) (d : Option Duty) → named_sends w s (name_of d) ≡ due_sends w s d
sends-named w s None = refl
sends-named w s (Some d) = refl

pub runs-seen : (w : Setting) (s : Seen) (a : StoreAnswer) (n : Option DutyName) (t : Seen) → s.work ≡ Runs → is_fine a ≡ true → n ≡ name_of (duty w s) → t ≡ after_named w s n → t.work ≡ Runs
    → record t { work = running_after w n } ≡ answered_seen w s a
unfolding changed work_after
runs-seen w s a n t e f d q r =
    running-on w t (running_after w n) r
    ∙ (λ i. with_work w ((q ∙ ap (λ x. after_named w s x) d ∙ due-named w s (duty w s)) i) (running_after w (d i)))
    ∙ (λ i. with_work w (if (sym f i) then after_due w s (duty w s) else s) (if (sym f i) then running_after w (name_of (duty w s)) else Stops))
    ∙ (λ i. with_work w (changed w s a (sym e i)) (work_after w s a (sym e i)))

pub runs-sends : (w : Setting) (s : Seen) (a : StoreAnswer) (n : Option DutyName) (es : List Envelope) → s.work ≡ Runs → is_fine a ≡ true → n ≡ name_of (duty w s) → es ≡ named_sends w s n → [] ≡ outcome_of w (running_after w n)
    → es ≡ answered_sends w s a
unfolding work_sends work_after
runs-sends w s a n es e f d q r =
    q ∙ sym (append-nil (named_sends w s n)) ∙ (λ i. named_sends w s n ++ r i)
    ∙ (λ i. (ap (λ x. named_sends w s x) d ∙ sends-named w s (duty w s)) i ++ outcome_of w (running_after w (d i)))
    ∙ (λ i. (if (sym f i) then due_sends w s (duty w s) else []) ++ outcome_of w (if (sym f i) then running_after w (name_of (duty w s)) else Stops))
    ∙ (λ i. work_sends w s a (sym e i) ++ outcome_of w (work_after w s a (sym e i)))

-- a refusal or a fault
pub runs-stop : (w : Setting) (s : Seen) (a : StoreAnswer) → s.work ≡ Runs → is_fine a ≡ false → (record s { work = Stops } ≡ answered_seen w s a) × ([] ≡ answered_sends w s a)
unfolding changed work_after work_sends
runs-stop w s a e f = (
  quiet w s Stops refl ∙ (λ i. with_work w (if (sym f i) then after_due w s (duty w s) else s) (if (sym f i) then running_after w (name_of (duty w s)) else Stops)) ∙ (λ i. with_work w (changed w s a (sym e i)) (work_after w s a (sym e i))),
  (λ i. (if (sym f i) then due_sends w s (duty w s) else []) ++ outcome_of w (if (sym f i) then running_after w (name_of (duty w s)) else Stops)) ∙ (λ i. work_sends w s a (sym e i) ++ outcome_of w (work_after w s a (sym e i))),
)

-- ---- the same while Failing

pub fails-seen : (w : Setting) (s : Seen) (a : StoreAnswer) (b : Bool) (n : Option DutyName) (t : Seen) (work : Work) → s.work ≡ Fails b → is_fine a ≡ true → n ≡ name_of (duty w s) → t ≡ after_named w s n
    → work ≡ failing_after w s a b n → is_running work ≡ false → record t { work = work } ≡ answered_seen w s a
unfolding changed work_after
fails-seen w s a b n t work e f d q r none =
    quiet w t work none
    ∙ (λ i. with_work w ((q ∙ ap (λ x. after_named w s x) d ∙ due-named w s (duty w s)) i) ((r ∙ ap (λ x. failing_after w s a b x) d) i))
    ∙ (λ i. with_work w (if (sym f i) then after_due w s (duty w s) else s) (failing_after w s a b (name_of (duty w s))))
    ∙ (λ i. with_work w (changed w s a (sym e i)) (work_after w s a (sym e i)))

pub fails-sends : (w : Setting) (s : Seen) (a : StoreAnswer) (b : Bool) (n : Option DutyName) (es : List Envelope) → s.work ≡ Fails b → is_fine a ≡ true → n ≡ name_of (duty w s)
    → es ≡ named_sends w s n ++ outcome_of w (failing_after w s a b n) → es ≡ answered_sends w s a
unfolding work_sends work_after
fails-sends w s a b n es e f d q =
    q
    ∙ (λ i. (ap (λ x. named_sends w s x) d ∙ sends-named w s (duty w s)) i ++ outcome_of w (failing_after w s a b (d i)))
    ∙ (λ i. (if (sym f i) then due_sends w s (duty w s) else []) ++ outcome_of w (failing_after w s a b (name_of (duty w s))))
    ∙ (λ i. work_sends w s a (sym e i) ++ outcome_of w (work_after w s a (sym e i)))

-- ---- what is due by a name

abbrev barred : Option Attempt → Option Duty
barred o = option_map (λ a. record { name = name.Bar; call = call.Names (op.Bar a) }) o

pub name-record : (w : Setting) (s : Seen) (n : DutyName) → None ≡ find (is_live w s) s.bars → Some n ≡ name_of (record_duty s.due s.tail) → Some n ≡ name_of (duty_at w s Runs)
unfolding duty_at
name-record w s n e q = by (record_duty s.due s.tail) q ∙ ap (λ o. name_of (or_else (barred o) (or_else (record_duty s.due s.tail) (start_duty w s)))) e
  where
    by : (o : Option Duty) → Some n ≡ name_of o → Some n ≡ name_of (or_else o (start_duty w s))
    by None r = cc
    by (Some d) r = r

-- ---- records that are stable leave the work as it is

pub recorded-work : (w : Setting) (s : Seen) (rs : List Record) → (recorded w s rs).work ≡ s.work
unfolding recorded
recorded-work w s [] = refl
recorded-work w s (r ∷ rs) = recorded-work w (tell_recorded w s (success_in r)) rs ∙ one (success_in r)
  where
    one : (o : Option Attempt) → (tell_recorded w s o).work ≡ s.work
    one None = refl
    one (Some a) = by (is_task w a.task)
      where
        by : (b : Bool) → (cond b (tell s a.task (task_call.Records a)) s).work ≡ s.work
        by true = refl
        by false = refl

pub moved-work : (s : Seen) (due : List Record) → (moved_first s due).work ≡ s.work
moved-work s [] = refl
moved-work s (r ∷ due) = refl

-- ---- the call that was due while Running

-- it runs on
pub runs-on : (w : Setting) (s : Seen) (a : StoreAnswer) (n : Option DutyName) (t : Seen) → s.work ≡ Runs → is_fine a ≡ true → n ≡ name_of (duty w s) → t ≡ after_named w s n → t.work ≡ Runs → Runs ≡ running_after w n
    → t ≡ answered_seen w s a
runs-on w s a n t e f d q r again = (λ i. record t { work = (r ∙ again) i }) ∙ runs-seen w s a n t e f d q r

-- by the name of what is due while it runs
pub due-runs : (w : Setting) (s : Seen) (n : Option DutyName) → s.work ≡ Runs → n ≡ name_of (duty_at w s Runs) → n ≡ name_of (duty w s)
due-runs w s n e q = q ∙ (λ i. name_of (duty_at w s (sym e i)))

pub name-bar : (w : Setting) (s : Seen) (a : Attempt) → Some a ≡ find (is_live w s) s.bars → Some name.Bar ≡ name_of (duty_at w s Runs)
unfolding duty_at
name-bar w s a e = ap (λ o. name_of (or_else (barred o) (or_else (record_duty s.due s.tail) (start_duty w s)))) e

pub name-start : (w : Setting) (s : Seen) → s.work ≡ Runs → None ≡ find (is_live w s) s.bars → None ≡ name_of (record_duty s.due s.tail) → is_some (duty w s) ≡ true → Some name.Started ≡ name_of (duty_at w s Runs)
unfolding duty_at
name-start w s e q r some =
    by (record_duty s.due s.tail) r ((λ i. is_some (or_else (barred (q i)) (or_else (record_duty s.due s.tail) (start_duty w s)))) ∙ (λ i. is_some (duty_at w s (sym e i))) ∙ some)
    ∙ ap (λ o. name_of (or_else (barred o) (or_else (record_duty s.due s.tail) (start_duty w s)))) q
  where
    start : (b : Bool) → is_some (if b then creates name.Started started_mark else None) ≡ true → Some name.Started ≡ name_of (if b then creates name.Started started_mark else None)
    start true x = refl
    start false x = absurd (true≢false (sym x))

    by : (o : Option Duty) → None ≡ name_of o → is_some (or_else o (start_duty w s)) ≡ true → Some name.Started ≡ name_of (or_else o (start_duty w s))
    by None x y = start (all_succeeded w s (all_reduces w)) y
    by (Some d) x y = cc

-- what is found passes
pub found-passes : (p : Attempt → Bool) (xs : List Attempt) (a : Attempt) → Some a ≡ find p xs → p a ≡ true
found-passes p [] a e = cc
found-passes p (x ∷ xs) a e = by (p x) refl e (λ r. found-passes p xs a r)
  where
    by : (b : Bool) → p x ≡ b → Some a ≡ cond b (Some x) (find p xs) → (Some a ≡ find p xs → p a ≡ true) → p a ≡ true
    by true q r go = let same : a ≡ x = cc in ap p same ∙ q
    by false q r go = go r
