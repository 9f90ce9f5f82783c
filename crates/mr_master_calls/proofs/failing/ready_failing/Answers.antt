use Rattle.std.proofs.Common.{sym, refl, ◌≡◌, ◌∙◌, ap, ◌||◌, List, [], Option, Some, ◌++◌, append-nil, Bool, true}
use Rattle.std.specs.List.{list_any}
use Rattle.std.specs.Option.{option_map}
use Rattle.mr_history.specs.declared.record.Record.{Record}
use Rattle.mr_master_model.specs.declared.setting.Setting.{Setting}
use Rattle.mr_master_model.specs.declared.phase.DutyName.TheVariants as name
use Rattle.mr_master_model.specs.Past.{Work, Fails, Stops}
use Rattle.mr_master_model.specs.Readings.{Seen}
use Rattle.mr_master_model.specs.Duty.{duty}
use Rattle.mr_master_model.specs.Answered.{is_fine, flushed, moved_first, is_unsuccessful, name_of}
use Rattle.mr_master_model.specs.Sends.{flush_sends, outcome_of}
use Rattle.mr_master_state.specs.declared.change.Change.TheVariants as change
use Rattle.mr_master_state.specs.mr_master_phase.specs.Answering.{answered_sends, answered_seen}
use Rattle.mr_master_state.specs.mr_master_tables.specs.Records.{written_by}
use Rattle.mr_master_state.specs.State.{Keeps}
use Rattle.mr_master_state.proofs.Keeping.{held}
use Rattle.mr_master_state.proofs.Made.{plans-as, plan-as}
use Rattle.mr_master_state.specs.mr_master_phase.proofs.Replies.{fails-seen, fails-sends, moved-work}
use Rattle.mr_master_state.specs.mr_master_phase.proofs.Aborts.{abort-seen, abort-sends, due-fails, fails-record, name-abort, fails-stop, appended-after, flushed-after}
use Rattle.mr_master_calls.proofs.failing.ready_failing.Goals as goal

pub returns-in_default : goal.returns-in_default
returns-in_default c =
    plans-as
    (λ w s keeps. ap (λ (x : Work). outcome_of w x) c.aborted.ensures ∙ abort-sends w s c.args.answer.now c.args.is_stable (sym keeps.work ∙ c.requires.fails) (due w s keeps))
    (λ w s keeps. (λ i. record s { work = c.aborted.ensures i }) ∙ abort-seen w s c.args.answer.now c.args.is_stable (sym keeps.work ∙ c.requires.fails) (due w s keeps))
    c.in_ok-ready.ensures
  where
    due : (w : Setting) (s : Seen) → Keeps c.args.master.now w s → Some name.Abort ≡ name_of (duty w s)
    due w s keeps =
        let b = c.args.is_stable in
        let e = sym keeps.work ∙ c.requires.fails in
        let nothing = ap (λ (o : Option Bool). option_map written_by o) (sym c.in_default.is) ∙ c.next.ensures s.due s.tail (held c.master.view_is keeps).writing in
        due-fails w s b (Some name.Abort) e (name-abort w s b e nothing (c.requires.due w s keeps))

pub returns-then-not-is_fine : goal.returns-then-not-is_fine
returns-then-not-is_fine c =
    plans-as
    (λ w s keeps. ap (λ (x : Work). outcome_of w x) c.stopped.ensures ∙ (stop w s keeps).1)
    (λ w s keeps. (λ i. record s { work = c.stopped.ensures i }) ∙ (stop w s keeps).0)
    c.in_ok-ready-2.ensures
  where
    stop : (w : Setting) (s : Seen) → Keeps c.args.master.now w s → (record s { work = Stops } ≡ answered_seen w s c.args.answer.now) × ([] ≡ answered_sends w s c.args.answer.now)
    stop w s keeps =
        let b = c.args.is_stable in
        let e = sym keeps.work ∙ c.requires.fails in
        let d = due-fails w s b (Some (written_by c.in-Some.appends)) e (fails-record w s b (written_by c.in-Some.appends) (c.in-Some.ensures s.due s.tail (held c.master.view_is keeps).writing)) in
        fails-stop w s c.args.answer.now b c.in-Some.appends e (sym c.is_fine.ensures ∙ c.if-not-is_fine.true) d

pub returns-then-appends : goal.returns-then-appends
returns-then-appends c =
    plan-as [] change.Appends c.silent.ensures tt
    (λ w s keeps. fails-sends w s c.args.answer.now c.args.is_stable (Some name.Append) [] (sym keeps.work ∙ c.requires.fails) fine (due w s keeps) (ap (λ (x : Work). outcome_of w x) (appended-after w s c.args.answer.now c.args.is_stable fine)))
    (λ w s keeps.
    let a = c.args.answer.now in
    let b = c.args.is_stable in
    let e = sym keeps.work ∙ c.requires.fails in
    (λ i. record (moved_first s s.due) { work = (moved-work s s.due ∙ e) i }) ∙ fails-seen w s a b (Some name.Append) (moved_first s s.due) (Fails b) e fine (due w s keeps) refl (appended-after w s a b fine) refl)
  where
    fine : is_fine c.args.answer.now ≡ true
    fine = sym c.is_fine.ensures ∙ c.if-not-is_fine.false

    due : (w : Setting) (s : Seen) → Keeps c.args.master.now w s → Some name.Append ≡ name_of (duty w s)
    due w s keeps =
        let written = ap (λ x. Some (written_by x)) (sym c.if-appends.true) ∙ c.in-Some.ensures s.due s.tail (held c.master.view_is keeps).writing in
        due-fails w s c.args.is_stable (Some name.Append) (sym keeps.work ∙ c.requires.fails) (fails-record w s c.args.is_stable name.Append written)

pub returns : goal.returns
returns c =
    plan-as c.in_ok-packets.packets.items (change.Flushes c.fails_so-work.result) c.new.ensures tt
    (λ w s keeps.
    let a = c.args.answer.now in
    let b = c.args.is_stable in
    fails-sends w s a b (Some name.Flush) c.in_ok-packets.packets.items (sym keeps.work ∙ c.requires.fails) fine (due w s keeps)
    (c.in_ok-packets.ensures w s keeps ∙ sym (append-nil (flush_sends w s s.tail)) ∙ ap (λ (x : Work). flush_sends w s s.tail ++ outcome_of w x) (flushed-after w s a b fine)))
    (λ w s keeps.
    let a = c.args.answer.now in
    let b = c.args.is_stable in
    let new : Work = Fails (b || list_any is_unsuccessful s.tail) in
    let told = c.is_unsuccessful-unsuccessful.ensures ∙ ap (λ (l : List Record). list_any is_unsuccessful l) (held c.master.view_is keeps).writing.tail in
    let work-is = c.fails_so-work.ensures ∙ ap (λ x. Fails x) (c.either.ensures ∙ ap (λ x. b || x) told) in
    (λ i. record (flushed w s) { work = work-is i }) ∙ fails-seen w s a b (Some name.Flush) (flushed w s) new (sym keeps.work ∙ c.requires.fails) fine (due w s keeps) refl (flushed-after w s a b fine) refl)
  where
    fine : is_fine c.args.answer.now ≡ true
    fine = sym c.is_fine.ensures ∙ c.if-not-is_fine.false

    due : (w : Setting) (s : Seen) → Keeps c.args.master.now w s → Some name.Flush ≡ name_of (duty w s)
    due w s keeps =
        let written = ap (λ x. Some (written_by x)) (sym c.if-appends.false) ∙ c.in-Some.ensures s.due s.tail (held c.master.view_is keeps).writing in
        due-fails w s c.args.is_stable (Some name.Flush) (sym keeps.work ∙ c.requires.fails) (fails-record w s c.args.is_stable name.Flush written)
