use Rattle.std.proofs.Common.{◌≡◌, sym, ◌∙◌, ap, true, false, [], if◌then◌else◌}
use Rattle.mr_master_model.specs.declared.setting.Setting.{Setting}
use Rattle.mr_master_model.specs.Past.{Work, Hears}
use Rattle.mr_master_model.specs.Next.{sent_by}
use Rattle.mr_master_model.specs.Sends.{replies}
use Rattle.mr_master_model.specs.Readings.{Seen, is_running}
use Rattle.mr_master_model.specs.Hearing.{heard}
use Rattle.mr_master_state.specs.declared.change.Change.TheVariants as change
use Rattle.mr_master_state.specs.Prepared.{Plans}
use Rattle.mr_master_state.specs.State.{Keeps}
use Rattle.mr_master_state.proofs.Containers.{if-ok}
use Rattle.mr_master_state.proofs.Keeping.{held}
use Rattle.mr_master_events.proofs.Delivering.{quiet-is, replies-are}
use Rattle.mr_master_state.proofs.Made.{plan-as, plans-as}
use Rattle.mr_master_events.proofs.packet.prepare_if_running.Goals as goal

pub returns-then-not-is_running : goal.returns-then-not-is_running
returns-then-not-is_running c = plan-as [] change.Nothing c.silent.ensures tt
    (λ w s keeps. quiet-is w s c.args.packet.now (rests w s keeps))
    (λ w s keeps. ap (λ b. if b then heard w s c.args.packet.now else s) (sym (rests w s keeps)))
  where
    rests : (w : Setting) (s : Seen) → Keeps c.args.master.now w s → is_running s.work ≡ false
    rests w s keeps =
        ap (λ (x : Work). is_running x) (sym (held c.master.view_is keeps).work) ∙ sym c.is_running.ensures ∙ c.if-not-is_running.true

pub returns : goal.returns
returns c =
    let m = c.args.master.now in
    let p = c.args.packet.now in
    if-ok c.prepare_running.result (λ r. Plans m r (λ w s. replies w s (heard w s p) p) (λ w s. heard w s p))
    (λ r. Plans m r (λ w s. sent_by w s (Hears p)) (λ w s. if is_running s.work then heard w s p else s))
    (λ r x. plans-as
    (λ w s keeps. replies-are w s p (runs w s keeps))
    (λ w s keeps. ap (λ b. if b then heard w s p else s) (sym (runs w s keeps)))
    x)
    c.prepare_running.ensures
  where
    runs : (w : Setting) (s : Seen) → Keeps c.args.master.now w s → is_running s.work ≡ true
    runs w s keeps =
        ap (λ (x : Work). is_running x) (sym (held c.master.view_is keeps).work) ∙ sym c.is_running.ensures ∙ c.if-not-is_running.false
