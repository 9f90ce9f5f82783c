use Rattle.std.proofs.Common.{◌≡◌, ◌∙◌, sym, ap, subst, true, []}
use Rattle.mr_commit.specs.Halves.{Fits}
use Rattle.mr_master_model.specs.declared.setting.Setting.{Setting}
use Rattle.mr_master_model.specs.Past.{Work}
use Rattle.mr_master_model.specs.Readings.{Seen}
use Rattle.mr_master_state.specs.mr_master_phase.specs.declared.store.Coming.TheVariants as coming
use Rattle.mr_master_state.specs.declared.change.Change.TheVariants as change
use Rattle.mr_master_state.specs.mr_master_phase.specs.Coming.{IsComing}
use Rattle.mr_master_state.specs.mr_master_phase.specs.WorkKinds.{is_step, left_of, refused_when}
use Rattle.mr_master_model.specs.Answered.{is_superseded}
use Rattle.mr_master_state.specs.State.{Master, Keeps}
use Rattle.mr_master_state.proofs.Keeping.{held}
use Rattle.mr_master_state.proofs.Made.{plan-as}
use Rattle.mr_master_calls.proofs.Handed.{handed-as}
use Rattle.mr_master_state.specs.mr_master_phase.proofs.Steps.{goes-on, goes-last, goes-wrong}
use Rattle.mr_master_calls.proofs.table.ready_step.Goals as goal

pub returns-in-More : goal.returns-in-More
returns-in-More c =
    plan-as [] (change.GoesOn c.in-More.following) c.silent.ensures
    (subst (λ (m : Master). Fits c.in-More.following.lines (left_of m.work)) c.master.view_is now.2)
    (λ w s keeps. (goes-on w s c.args.answer.now c.in-More.following (steps w s keeps) (then w s keeps)).1)
    (λ w s keeps. (goes-on w s c.args.answer.now c.in-More.following (steps w s keeps) (then w s keeps)).0)
  where
    now : IsComing (left_of c.master.inside.work) c.args.answer.now (coming.More c.in-More.following)
    now = subst (IsComing (left_of c.master.inside.work) c.args.answer.now) c.in-More.is c.in_ok-coming.ensures.coming

    steps : (w : Setting) (s : Seen) → Keeps c.args.master.now w s → is_step s.work ≡ true
    steps w s keeps = ap (λ (x : Work). is_step x) (sym keeps.work) ∙ c.requires.step

    then : (w : Setting) (s : Seen) → Keeps c.args.master.now w s → IsComing (left_of s.work) c.args.answer.now (coming.More c.in-More.following)
    then w s keeps =
        subst (λ (x : Work). IsComing (left_of x) c.args.answer.now (coming.More c.in-More.following)) (held c.master.view_is keeps).work now

pub returns-in-Finished : goal.returns-in-Finished
returns-in-Finished c =
    handed-as c.ready_finished.result
    (λ w s keeps. (goes-last w s c.args.answer.now (steps w s keeps) (then w s keeps)).1)
    (λ w s keeps. (goes-last w s c.args.answer.now (steps w s keeps) (then w s keeps)).0)
    c.ready_finished.ensures
  where
    now : IsComing (left_of c.master.inside.work) c.args.answer.now coming.Finished
    now = subst (IsComing (left_of c.master.inside.work) c.args.answer.now) c.in-Finished.is c.in_ok-coming.ensures.coming

    steps : (w : Setting) (s : Seen) → Keeps c.args.master.now w s → is_step s.work ≡ true
    steps w s keeps = ap (λ (x : Work). is_step x) (sym keeps.work) ∙ c.requires.step

    then : (w : Setting) (s : Seen) → Keeps c.args.master.now w s → IsComing (left_of s.work) c.args.answer.now coming.Finished
    then w s keeps =
        subst (λ (x : Work). IsComing (left_of x) c.args.answer.now coming.Finished) (held c.master.view_is keeps).work now

pub returns-in-Refused : goal.returns-in-Refused
returns-in-Refused c =
    handed-as c.becoming.result
    (λ w s keeps. (goes-wrong w s c.args.answer.now c.refused.result (steps w s keeps) (then w s keeps) (new w s keeps)).1)
    (λ w s keeps. (goes-wrong w s c.args.answer.now c.refused.result (steps w s keeps) (then w s keeps) (new w s keeps)).0)
    c.becoming.ensures
  where
    now : IsComing (left_of c.master.inside.work) c.args.answer.now coming.Refused
    now = subst (IsComing (left_of c.master.inside.work) c.args.answer.now) c.in-Refused.is c.in_ok-coming.ensures.coming

    steps : (w : Setting) (s : Seen) → Keeps c.args.master.now w s → is_step s.work ≡ true
    steps w s keeps = ap (λ (x : Work). is_step x) (sym keeps.work) ∙ c.requires.step

    work : (w : Setting) (s : Seen) → Keeps c.args.master.now w s → c.master.inside.work ≡ s.work
    work w s keeps = (held c.master.view_is keeps).work

    then : (w : Setting) (s : Seen) → Keeps c.args.master.now w s → IsComing (left_of s.work) c.args.answer.now coming.Refused
    then w s keeps = subst (λ (x : Work). IsComing (left_of x) c.args.answer.now coming.Refused) (work w s keeps) now

    new : (w : Setting) (s : Seen) → Keeps c.args.master.now w s → c.refused.result ≡ refused_when (is_superseded c.args.answer.now) s.work
    new w s keeps = c.refused.ensures ∙ ap (λ (x : Work). refused_when (is_superseded c.args.answer.now) x) (work w s keeps)
