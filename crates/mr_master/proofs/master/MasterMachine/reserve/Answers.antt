use Rattle.std.proofs.Common.{◌≡◌, sym, subst, OnErr}
use Rattle.mr_master_model.specs.Past.{Step}
use Rattle.mr_master_model.specs.Next.{seen}
use Rattle.mr_master_events.specs.mr_master_state.specs.Prepared.{HasRoom, IsExpiry, PlansFor, IsReadyFor}
use Rattle.mr_master_events.specs.mr_master_state.specs.State.{Master}
use Rattle.mr_master_events.specs.mr_master_state.proofs.Keeping.{held}
use Rattle.mr_master_events.specs.mr_master_state.proofs.Containers.{on-ok}
use Rattle.mr_master_events.specs.mr_master_state.proofs.Made.{now-ready}
use Rattle.mr_master.proofs.Past_stays.{passed-unchanged}
use Rattle.mr_master_events.specs.mr_master_state.proofs.Standing.{unchanged-keeps}
use Rattle.mr_master.proofs.master.MasterMachine.reserve.Goals as goal

pub invariant_of-self : goal.invariant_of-self
invariant_of-self c = passed-unchanged c.self.inside.machine c.reserve.new.self c.self.inside.passed c.reserve.ensures.same c.self.invariant

pub returns-clause-still : goal.returns-clause-still
returns-clause-still c = λ w past k.
    unchanged-keeps c.self.inside.machine c.reserve.new.self w (seen w past) c.reserve.ensures.same (held c.self.view_is k)

pub returns-clause-ready : goal.returns-clause-ready
returns-clause-ready c =
    let old = c.self.inside.machine in
    let new = c.reserve.new.self in
    let r = c.args.prepared.now in
    on-ok c.reserve.result (HasRoom new r.change) ((step : Step) → PlansFor c.args.self.now step r → IsReadyFor new step r)
    (λ room step plan. now-ready old new step r c.reserve.ensures.same room (subst (λ (x : Master). PlansFor x step r) (sym c.self.view_is) plan))
    c.reserve.ensures.room

pub returns-clause-expiry : goal.returns-clause-expiry
returns-clause-expiry c = subst (λ (x : Master). OnErr c.reserve.result (IsExpiry c.args.prepared.now.change → ◌≡◌ {A = Master} c.reserve.new.self x)) c.self.view_is c.reserve.ensures.expiry
