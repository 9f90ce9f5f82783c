use Rattle.std.proofs.Common.{sym, refl, ◌∙◌, ap, ◌≡◌}
use Rattle.mr_master_model.specs.declared.setting.Setting.{Setting}
use Rattle.mr_master_model.specs.Past.{Work}
use Rattle.mr_master_model.specs.Readings.{Seen}
use Rattle.mr_master_model.specs.Answered.{work_after}
use Rattle.mr_master_model.specs.Sends.{outcome_of}
use Rattle.mr_master_state.specs.mr_master_phase.specs.WorkKinds.{is_look}
use Rattle.mr_master_state.specs.State.{Master, Keeps}
use Rattle.mr_master_state.proofs.Keeping.{held}
use Rattle.mr_master_calls.proofs.Handed.{handed-as}
use Rattle.mr_master_state.specs.mr_master_phase.proofs.Replies.{quiet-seen, quiet-sends, look-changes}
use Rattle.mr_master_calls.proofs.mark.ready_look.Goals as goal

work-is : (c : goal.After-becoming) (w : Setting) (s : Seen) → Keeps c.args.master.now w s → c.look.result ≡ work_after w s c.args.answer.now s.work
work-is c w s keeps =
    c.look.ensures.moved w s ∙ ap (λ (x : Work). work_after w s c.args.answer.now x) (held c.master.view_is keeps).work

pub look-requires : goal.look-requires
look-requires c = ap (λ (m : Master). is_look m.work) c.master.view_is ∙ c.requires

pub returns : goal.returns
returns c =
    handed-as c.becoming.result
    (λ w s keeps. quiet-sends w s c.args.answer.now c.look.result (outcome_of w c.look.result) (look-changes w s c.args.answer.now s.work (ap (λ (x : Work). is_look x) (sym keeps.work) ∙ c.requires)).1 (work-is c w s keeps) refl)
    (λ w s keeps. quiet-seen w s c.args.answer.now c.look.result (look-changes w s c.args.answer.now s.work (ap (λ (x : Work). is_look x) (sym keeps.work) ∙ c.requires)).0 (work-is c w s keeps)
    c.look.ensures.quiet)
    c.becoming.ensures
