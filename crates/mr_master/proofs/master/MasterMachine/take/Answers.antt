use Rattle.std.proofs.Common.{sym, subst}
use Rattle.mr_master_events.specs.mr_master_state.specs.Prepared.{IsSound, HasRoom, IsReadyFor}
use Rattle.mr_master_events.specs.mr_master_state.specs.State.{Master}
use Rattle.mr_master_events.specs.mr_master_state.proofs.Keeping.{held}
use Rattle.mr_master_events.specs.mr_master_state.proofs.Made.{step-stands}
use Rattle.mr_master.proofs.Past_stays.{passed-still, passed-more}
use Rattle.mr_master.proofs.master.MasterMachine.take.Goals as goal

pub take-packets-requires-clause-sound : goal.take-packets-requires-clause-sound
take-packets-requires-clause-sound c = subst (λ (x : Master). IsSound x c.args.prepared.change) (sym c.self.view_is) c.requires.1.0.sound

pub take-packets-requires-clause-room : goal.take-packets-requires-clause-room
take-packets-requires-clause-room c = subst (λ (x : Master). HasRoom x c.args.prepared.change) (sym c.self.view_is) c.requires.1.1

pub invariant_of-self : goal.invariant_of-self
invariant_of-self c =
    let old = c.self.inside.machine in
    let new = c.take-packets.new.self in
    let step = c.requires.0 in
    let r = subst (λ (x : Master). IsReadyFor x step c.args.prepared) (sym c.self.view_is) c.requires.1 in
    passed-more new c.self.inside.passed c.passed-self-inside.result c.passed-self-inside.ensures
    (passed-still old new step c.self.inside.passed (step-stands old new step c.args.prepared r.0 c.take-packets.ensures.moves) c.self.invariant)

pub returns-clause-stands : goal.returns-clause-stands
returns-clause-stands c = λ step ready w past k.
    let old = c.self.inside.machine in
    let r = subst (λ (x : Master). IsReadyFor x step c.args.prepared) (sym c.self.view_is) ready in
    step-stands old c.take-packets.new.self step c.args.prepared r.0 c.take-packets.ensures.moves w past (held c.self.view_is k)
