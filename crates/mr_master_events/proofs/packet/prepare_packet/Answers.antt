use Rattle.std.proofs.Common.{[], if◌then◌else◌}
use Rattle.mr_master_model.specs.Past.{Hears}
use Rattle.mr_master_model.specs.Readings.{is_running, is_over}
use Rattle.mr_master_model.specs.Hearing.{heard, after_node_up}
use Rattle.mr_master_model.specs.Next.{sent_by}
use Rattle.mr_master_state.specs.Prepared.{Plans, PlansFor}
use Rattle.mr_master_state.proofs.Containers.{if-ok}
use Rattle.mr_master_events.proofs.Planned.{plan-node-up, plan-other}
use Rattle.mr_master_events.proofs.packet.prepare_packet.Goals as goal

pub returns-in-NodeUp : goal.returns-in-NodeUp
returns-in-NodeUp c =
    let m = c.args.master.now in
    let p = c.args.packet.now in
    let n = c.in-NodeUp.node in
    let i = c.in-NodeUp.incarnation in
    if-ok c.prepare_node_up.result (λ r. Plans m r (λ w s. []) (λ w s. if is_over s.work then s else after_node_up w s n i)) (λ r. PlansFor m (Hears p) r)
    (λ r x. plan-node-up p n i c.in-NodeUp.is x) c.prepare_node_up.ensures

pub returns-in_default : goal.returns-in_default
returns-in_default c =
    let m = c.args.master.now in
    let p = c.args.packet.now in
    if-ok c.prepare_if_running.result (λ r. Plans m r (λ w s. sent_by w s (Hears p)) (λ w s. if is_running s.work then heard w s p else s)) (λ r. PlansFor m (Hears p) r)
    (λ r x. plan-other p (λ n i e. c.in_default.not-NodeUp n i e) x) c.prepare_if_running.ensures
