use Rattle.std.proofs.Common.{sym, refl, ◌≡◌, ◌∙◌, ap, [], Option, Some, true, Bool}
use Rattle.std.specs.Option.{option_map}
use Rattle.mr_ids.specs.Attempt.{Attempt}
use Rattle.mr_commit.specs.Tables.{commit_job}
use Rattle.mr_task.specs.Calls.{Dies}
use Rattle.mr_master_model.specs.declared.setting.Setting.{Setting}
use Rattle.mr_master_model.specs.declared.phase.DutyName.TheVariants as name
use Rattle.mr_master_model.specs.Past.{Work, CommitsJob}
use Rattle.mr_master_model.specs.Readings.{Seen, is_live, tell}
use Rattle.mr_master_model.specs.Duty.{duty}
use Rattle.mr_master_model.specs.Answered.{is_fine, flushed, moved_first, after_bar, name_of}
use Rattle.mr_master_model.specs.Sends.{kill_of, flush_sends, bar_sends, outcome_of}
use Rattle.mr_master_state.specs.declared.change.Change.TheVariants as change
use Rattle.mr_master_state.specs.mr_master_tables.specs.Records.{written_by}
use Rattle.mr_master_state.specs.State.{Keeps}
use Rattle.mr_master_state.proofs.Keeping.{held}
use Rattle.mr_master_state.proofs.Made.{plan-as}
use Rattle.mr_master_calls.proofs.Handed.{handed-as}
use Rattle.mr_master_state.specs.mr_master_phase.proofs.Replies.{runs-stop, runs-seen, runs-sends, runs-on, due-runs, name-bar, name-start, name-record, recorded-work, moved-work, found-passes}
use Rattle.mr_master_state.proofs.Dying.{live-of-job, death-is}
use Rattle.mr_master_calls.proofs.running.ready_running.Goals as goal

pub returns-then-not-is_fine : goal.returns-then-not-is_fine
returns-then-not-is_fine c =
    handed-as c.becoming.result
    (λ w s keeps. ap (λ (x : Work). outcome_of w x) c.stopped.ensures ∙ (runs-stop w s c.args.answer.now (sym keeps.work ∙ c.requires.runs) (sym c.is_fine.ensures ∙ c.if-not-is_fine.true)).1)
    (λ w s keeps. (λ i. record s { work = c.stopped.ensures i }) ∙ (runs-stop w s c.args.answer.now (sym keeps.work ∙ c.requires.runs) (sym c.is_fine.ensures ∙ c.if-not-is_fine.true)).0)
    c.becoming.ensures

pub returns-in-Some : goal.returns-in-Some
returns-in-Some c =
    handed-as c.ready_bar.result
    (λ w s keeps.
    let e = sym keeps.work ∙ c.requires.runs in
    let found = c.in-Some.ensures w s keeps in
    runs-sends w s c.args.answer.now (Some name.Bar) (kill_of w s a) e fine (due-runs w s (Some name.Bar) e (name-bar w s a found)) (ap (λ (o : Option Attempt). bar_sends w s o) found) refl)
    (λ w s keeps.
    let e = sym keeps.work ∙ c.requires.runs in
    let found = c.in-Some.ensures w s keeps in
    let t : Seen = tell s a.task (Dies a) in
    death-is w s a (live-of-job _ w s a keeps (found-passes (is_live w s) s.bars a found))
    ∙ runs-on w s c.args.answer.now (Some name.Bar) t e fine (due-runs w s (Some name.Bar) e (name-bar w s a found)) (ap (λ (o : Option Attempt). after_bar s o) found) e refl)
    c.ready_bar.ensures
  where
    a : Attempt
    a = c.in-Some.attempt

    fine : is_fine c.args.answer.now ≡ true
    fine = sym c.is_fine.ensures ∙ c.if-not-is_fine.false

pub returns-then-appends : goal.returns-then-appends
returns-then-appends c =
    plan-as [] change.Appends c.silent.ensures tt
    (λ w s keeps. runs-sends w s c.args.answer.now (Some name.Append) [] (sym keeps.work ∙ c.requires.runs) fine (due w s keeps) refl refl)
    (λ w s keeps.
    let e = sym keeps.work ∙ c.requires.runs in
    runs-on w s c.args.answer.now (Some name.Append) (moved_first s s.due) e fine (due w s keeps) refl (moved-work s s.due ∙ e) refl)
  where
    fine : is_fine c.args.answer.now ≡ true
    fine = sym c.is_fine.ensures ∙ c.if-not-is_fine.false

    due : (w : Setting) (s : Seen) → Keeps c.args.master.now w s → Some name.Append ≡ name_of (duty w s)
    due w s keeps =
        let written = ap (λ b. Some (written_by b)) (sym c.if-appends.true) ∙ c.in-Some-next.ensures s.due s.tail (held c.master.view_is keeps).writing in
        due-runs w s (Some name.Append) (sym keeps.work ∙ c.requires.runs) (name-record w s name.Append (sym c.in_default.is ∙ c.first_bar.ensures w s keeps) written)

pub returns-in-Some-next : goal.returns-in-Some-next
returns-in-Some-next c =
    plan-as c.in_ok-packets.packets.items (change.Flushes c.running.result) c.new.ensures tt
    (λ w s keeps. c.in_ok-packets.ensures w s keeps ∙ runs-sends w s c.args.answer.now (Some name.Flush) (flush_sends w s s.tail) (sym keeps.work ∙ c.requires.runs) fine (due w s keeps) refl refl)
    (λ w s keeps.
    let e = sym keeps.work ∙ c.requires.runs in
    (λ i. record (flushed w s) { work = c.running.ensures i }) ∙ runs-seen w s c.args.answer.now (Some name.Flush) (flushed w s) e fine (due w s keeps) refl (recorded-work w s s.tail ∙ e))
  where
    fine : is_fine c.args.answer.now ≡ true
    fine = sym c.is_fine.ensures ∙ c.if-not-is_fine.false

    due : (w : Setting) (s : Seen) → Keeps c.args.master.now w s → Some name.Flush ≡ name_of (duty w s)
    due w s keeps =
        let written = ap (λ b. Some (written_by b)) (sym c.if-appends.false) ∙ c.in-Some-next.ensures s.due s.tail (held c.master.view_is keeps).writing in
        due-runs w s (Some name.Flush) (sym keeps.work ∙ c.requires.runs) (name-record w s name.Flush (sym c.in_default.is ∙ c.first_bar.ensures w s keeps) written)

pub returns : goal.returns
returns c =
    handed-as c.becoming-2.result
    (λ w s keeps. ap (λ (x : Work). outcome_of w x) (starts w s keeps) ∙ runs-sends w s c.args.answer.now (Some name.Started) [] (sym keeps.work ∙ c.requires.runs) fine (due w s keeps) refl refl)
    (λ w s keeps.
    let e = sym keeps.work ∙ c.requires.runs in
    (λ i. record s { work = starts w s keeps i }) ∙ runs-seen w s c.args.answer.now (Some name.Started) s e fine (due w s keeps) refl e)
    c.becoming-2.ensures
  where
    fine : is_fine c.args.answer.now ≡ true
    fine = sym c.is_fine.ensures ∙ c.if-not-is_fine.false

    starts : (w : Setting) (s : Seen) → Keeps c.args.master.now w s → c.in_ok-work.work ≡ CommitsJob (commit_job w.layout.dest w.app)
    starts w s keeps =
        c.in_ok-work.ensures ∙ ap (λ (v : Setting). CommitsJob (commit_job v.layout.dest v.app)) (held c.master.view_is keeps).setting

    due : (w : Setting) (s : Seen) → Keeps c.args.master.now w s → Some name.Started ≡ name_of (duty w s)
    due w s keeps =
        let e = sym keeps.work ∙ c.requires.runs in
        let none = sym c.in_default.is ∙ c.first_bar.ensures w s keeps in
        let nothing = ap (λ (o : Option Bool). option_map written_by o) (sym c.in_default-next.is) ∙ c.next.ensures s.due s.tail (held c.master.view_is keeps).writing in
        due-runs w s (Some name.Started) e (name-start w s e none nothing (c.requires.due w s keeps))
