use Rattle.std.proofs.Common.{sym, ◌∙◌, ap, [], true≢false}
use Rattle.std.specs.Option.{is_some}
use Rattle.mr_master_model.specs.declared.setting.Setting.{Setting}
use Rattle.mr_master_model.specs.Past.{Work}
use Rattle.mr_master_model.specs.Readings.{Seen}
use Rattle.mr_master_model.specs.Duty.{duty_at}
use Rattle.mr_master_state.specs.declared.change.Change.TheVariants as change
use Rattle.mr_master_state.specs.State.{Master, Keeps}
use Rattle.mr_master_state.specs.mr_master_phase.specs.WorkKinds.{is_read}
use Rattle.mr_master_state.proofs.Keeping.{held}
use Rattle.mr_master_state.specs.mr_master_phase.proofs.Called.{over-idle}
use Rattle.mr_master_state.proofs.Made.{plan-as}
use Rattle.mr_master_calls.proofs.answer.ready_unread.Goals as goal

pub returns : goal.returns
returns c = plan-as [] change.Nothing c.silent.ensures tt (λ w s keeps. absurd (none w s keeps)) (λ w s keeps. absurd (none w s keeps))
  where
    none : (w : Setting) (s : Seen) → Keeps c.args.master.now w s → ⊥
    none w s keeps =
        true≢false (sym (c.requires.due w s keeps) ∙ ap (λ (x : Work). is_some (duty_at w s x)) (sym (held c.master.view_is keeps).work)
        ∙ over-idle w s c.master.inside.work (sym c.is_look.ensures ∙ c.if-is_look.false) (sym c.is_tell.ensures ∙ c.if-is_tell.false) (ap (λ (m : Master). is_read m.work) c.master.view_is ∙ c.requires.unread)
        (sym c.is_step.ensures ∙ c.if-is_step.false) (sym c.in_default.is ∙ c.fails.ensures) (sym c.is_running.ensures ∙ c.if-is_running.false))
