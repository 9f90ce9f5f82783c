-- What an answer changes and sends while Failing.
use Rattle.std.proofs.Common.{◌≡◌, refl, sym, ap, ◌∙◌, Bool, true, false, ◌||◌, [], ◌++◌, Option, Some, None, Ok, Err, if◌then◌else◌, true≢false}
use Rattle.std.specs.List.{list_any}
use Rattle.std.specs.Option.{is_some}
use Rattle.mr_names.specs.declared.fault.NameFault.TheVariants as names
use Rattle.mr_names.specs.declared.op.Answer.TheVariants as said
use Rattle.mr_master_model.specs.declared.phase.DutyName.{DutyName}
use Rattle.mr_master_model.specs.declared.phase.DutyName.TheVariants as name
use Rattle.mr_master_model.specs.declared.setting.Setting.{Setting}
use Rattle.mr_master_model.specs.declared.store.StoreAnswer.{StoreAnswer}
use Rattle.mr_master_model.specs.declared.store.StoreAnswer.TheVariants as answer
use Rattle.mr_master_model.specs.Past.{Fails, Ends, Stops}
use Rattle.mr_master_model.specs.Readings.{Seen, is_running, or_else}
use Rattle.mr_master_model.specs.Duty.{Duty, duty, duty_at, record_duty, abort_duty}
use Rattle.mr_master_model.specs.Answered.{is_fine, changed, work_after, with_work, after_due, failing_after, name_of, is_unsuccessful}
use Rattle.mr_master_model.specs.Sends.{work_sends, outcome_of, due_sends}
use Rattle.mr_master_phase.specs.WorkKinds.{passes_abort, aborted}
use Rattle.mr_master_tables.specs.Records.{written_by}
use Rattle.mr_master_phase.specs.Answering.{answered_sends, answered_seen}
use Rattle.mr_master_phase.proofs.Replies.{quiet, after_named, named_sends, due-named, sends-named}

pub abort-after : (w : Setting) (s : Seen) (a : StoreAnswer) (b : Bool) → aborted a ≡ failing_after w s a b (Some name.Abort)
abort-after w s (answer.Names (Ok said.Done)) b = refl
abort-after w s (answer.Names (Err names.Missing)) b = refl
abort-after w s _ b = refl

aborted-rests : (a : StoreAnswer) → is_running (aborted a) ≡ false
aborted-rests a = by (passes_abort a)
  where
    by : (b : Bool) → is_running (if b then Ends false else Stops) ≡ false
    by true = refl
    by false = refl

either-way : {A : Type 0} (b : Bool) (x : A) → x ≡ (if b then x else x)
either-way true x = refl
either-way false x = refl

pub due-fails : (w : Setting) (s : Seen) (b : Bool) (n : Option DutyName) → s.work ≡ Fails b → n ≡ name_of (duty_at w s (Fails b)) → n ≡ name_of (duty w s)
due-fails w s b n e q = q ∙ (λ i. name_of (duty_at w s (sym e i)))

pub fails-record : (w : Setting) (s : Seen) (b : Bool) (n : DutyName) → Some n ≡ name_of (record_duty s.due s.tail) → Some n ≡ name_of (duty_at w s (Fails b))
unfolding duty_at
fails-record w s b n q = by (record_duty s.due s.tail) q
  where
    by : (o : Option Duty) → Some n ≡ name_of o → Some n ≡ name_of (or_else o (if b then abort_duty w else None))
    by None r = cc
    by (Some d) r = r

pub name-abort : (w : Setting) (s : Seen) (b : Bool) → s.work ≡ Fails b → None ≡ name_of (record_duty s.due s.tail) → is_some (duty w s) ≡ true → Some name.Abort ≡ name_of (duty_at w s (Fails b))
unfolding duty_at
name-abort w s b e r some = by (record_duty s.due s.tail) r ((λ i. is_some (duty_at w s (sym e i))) ∙ some)
  where
    stable : (c : Bool) → is_some (if c then abort_duty w else None) ≡ true → Some name.Abort ≡ name_of (if c then abort_duty w else None)
    stable true x = refl
    stable false x = absurd (true≢false (sym x))

    by : (o : Option Duty) → None ≡ name_of o → is_some (or_else o (if b then abort_duty w else None)) ≡ true → Some name.Abort ≡ name_of (or_else o (if b then abort_duty w else None))
    by None x y = stable b y
    by (Some d) x y = cc

-- the abort was answered
pub abort-seen : (w : Setting) (s : Seen) (a : StoreAnswer) (b : Bool) → s.work ≡ Fails b → Some name.Abort ≡ name_of (duty w s) → record s { work = aborted a } ≡ answered_seen w s a
unfolding changed work_after
abort-seen w s a b e d =
    quiet w s (aborted a) (aborted-rests a)
    ∙ (λ i. with_work w (either-way (is_fine a) s i) (abort-after w s a b i))
    ∙ (λ i. with_work w (if is_fine a then after_named w s (d i) else s) (failing_after w s a b (d i)))
    ∙ (λ i. with_work w (if is_fine a then due-named w s (duty w s) i else s) (failing_after w s a b (name_of (duty w s))))
    ∙ (λ i. with_work w (changed w s a (sym e i)) (work_after w s a (sym e i)))

pub abort-sends : (w : Setting) (s : Seen) (a : StoreAnswer) (b : Bool) → s.work ≡ Fails b → Some name.Abort ≡ name_of (duty w s) → outcome_of w (aborted a) ≡ answered_sends w s a
unfolding work_sends work_after
abort-sends w s a b e d =
    (λ i. either-way (is_fine a) [] i ++ outcome_of w (abort-after w s a b i))
    ∙ (λ i. (if is_fine a then named_sends w s (d i) else []) ++ outcome_of w (failing_after w s a b (d i)))
    ∙ (λ i. (if is_fine a then sends-named w s (duty w s) i else []) ++ outcome_of w (failing_after w s a b (name_of (duty w s))))
    ∙ (λ i. work_sends w s a (sym e i) ++ outcome_of w (work_after w s a (sym e i)))

-- an append or a flush was refused, or its answer was lost
refused-after : (w : Setting) (s : Seen) (a : StoreAnswer) (b c : Bool) → is_fine a ≡ false → Stops ≡ failing_after w s a b (Some (written_by c))
refused-after w s a b true f = λ i. if (sym f i) then Fails b else Stops
refused-after w s a b false f = λ i. if (sym f i) then Fails (b || list_any is_unsuccessful s.tail) else Stops

pub fails-stop : (w : Setting) (s : Seen) (a : StoreAnswer) (b c : Bool) → s.work ≡ Fails b → is_fine a ≡ false → Some (written_by c) ≡ name_of (duty w s) → (record s { work = Stops } ≡ answered_seen w s a) × ([] ≡ answered_sends w s a)
unfolding changed work_after work_sends
fails-stop w s a b c e f d = (
  quiet w s Stops refl
      ∙ (λ i. with_work w (if (sym f i) then after_due w s (duty w s) else s) ((refused-after w s a b c f ∙ ap (λ n. failing_after w s a b n) d) i))
      ∙ (λ i. with_work w (changed w s a (sym e i)) (work_after w s a (sym e i))),
  (λ i. (if (sym f i) then due_sends w s (duty w s) else []) ++ outcome_of w ((refused-after w s a b c f ∙ ap (λ n. failing_after w s a b n) d) i))
      ∙ (λ i. work_sends w s a (sym e i) ++ outcome_of w (work_after w s a (sym e i))),
)

-- they were made
pub appended-after : (w : Setting) (s : Seen) (a : StoreAnswer) (b : Bool) → is_fine a ≡ true → Fails b ≡ failing_after w s a b (Some name.Append)
appended-after w s a b f = λ i. if (sym f i) then Fails b else Stops

pub flushed-after : (w : Setting) (s : Seen) (a : StoreAnswer) (b : Bool) → is_fine a ≡ true → Fails (b || list_any is_unsuccessful s.tail) ≡ failing_after w s a b (Some name.Flush)
flushed-after w s a b f = λ i. if (sym f i) then Fails (b || list_any is_unsuccessful s.tail) else Stops
