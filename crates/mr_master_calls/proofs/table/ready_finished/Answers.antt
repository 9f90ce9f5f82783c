use Rattle.std.proofs.Common.{◌≡◌, ◌∙◌, refl, sym, ap, true, None, drop}
use Rattle.mr_master_model.specs.declared.setting.Setting.{Setting}
use Rattle.mr_master_model.specs.Past.{Work}
use Rattle.mr_master_model.specs.Readings.{Seen, is_running}
use Rattle.mr_master_state.specs.mr_master_phase.specs.Taking.{winner_of, after_table}
use Rattle.mr_master_state.specs.mr_master_phase.specs.WorkKinds.{is_step, finished_by, others_of, with_others}
use Rattle.mr_master_state.specs.State.{Keeps}
use Rattle.mr_master_state.proofs.Keeping.{held}
use Rattle.mr_master_calls.proofs.Handed.{handed-as}
use Rattle.mr_master_state.specs.mr_master_phase.proofs.Steps.{nobody-told, nobody-enters, nobody-left, runs-whole, Joined, joined}
use Rattle.mr_master_calls.proofs.table.ready_finished.Goals as goal

pub returns-then-is_running : goal.returns-then-is_running
returns-then-is_running c =
    handed-as c.ready_start.result
    (λ w s keeps. refl)
    (λ w s keeps. λ i. record s { calls = (after_table w s (winner_of s.work) (is_running (next w s keeps i))).calls; work = next w s keeps i })
    c.ready_start.ensures
  where
    next : (w : Setting) (s : Seen) → Keeps c.args.master.now w s → c.in_ok-next.next ≡ finished_by w s s.work
    next w s keeps =
        let begun = c.in_ok-next.ensures w s keeps in
        begun ∙ runs-whole w s s.work (ap (λ (x : Work). is_running x) (sym begun) ∙ sym c.is_running.ensures ∙ c.if-is_running.true)

pub returns : goal.returns
returns c =
    handed-as c.ready_winner.result
    (λ w s keeps. refl)
    (λ w s keeps. λ i. record s {
      calls = (after_table w s (winner_of s.work) ((all w s keeps).rests i)).calls;
      work = (ap (λ (x : Work). with_others x (drop 1 (others_of s.work))) (c.in_ok-next.ensures w s keeps) ∙ (all w s keeps).whole) i;
    })
    c.ready_winner.ensures
  where
    all : (w : Setting) (s : Seen) → Keeps c.args.master.now w s → Joined w s s.work
    all w s keeps =
        joined w s c.in-Some.winner s.work
        (sym c.in-Some.is ∙ c.winner.ensures ∙ ap (λ (x : Work). winner_of x) (held c.master.view_is keeps).work)
        (ap (λ (x : Work). is_running x) (sym (c.in_ok-next.ensures w s keeps)) ∙ sym c.is_running.ensures ∙ c.if-is_running.false)

pub returns-in_default : goal.returns-in_default
returns-in_default c =
    handed-as c.becoming.result
    (λ w s keeps. nobody-told w s c.in_ok-next.next (steps w s keeps) (none w s keeps) (next w s keeps))
    (λ w s keeps. nobody-enters w s c.in_ok-next.next (none w s keeps) (sym c.is_running.ensures ∙ c.if-is_running.false) (next w s keeps))
    c.becoming.ensures
  where
    steps : (w : Setting) (s : Seen) → Keeps c.args.master.now w s → is_step s.work ≡ true
    steps w s keeps = ap (λ (x : Work). is_step x) (sym keeps.work) ∙ c.requires.step

    none : (w : Setting) (s : Seen) → Keeps c.args.master.now w s → None ≡ winner_of s.work
    none w s keeps = sym c.in_default.is ∙ c.winner.ensures ∙ ap (λ (x : Work). winner_of x) (held c.master.view_is keeps).work

    next : (w : Setting) (s : Seen) → Keeps c.args.master.now w s → c.in_ok-next.next ≡ finished_by w s s.work
    next w s keeps = c.in_ok-next.ensures w s keeps ∙ nobody-left w s s.work (none w s keeps)
