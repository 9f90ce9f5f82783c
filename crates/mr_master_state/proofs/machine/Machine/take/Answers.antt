use Rattle.std.proofs.Common.{subst, List}
use Rattle.mr_packet.specs.declared.packet.Envelope.{Envelope}
use Rattle.mr_master_model.specs.Next.{with_kills}
use Rattle.mr_master_state.specs.Prepared.{changed_by}
use Rattle.mr_master_state.specs.declared.change.Change.{Change}
use Rattle.mr_master_state.specs.State.{Keeps}
use Rattle.mr_master_state.proofs.machine.Machine.take.Goals as goal

pub returns-clause-moves : goal.returns-clause-moves
returns-clause-moves c = λ w s keeps spared.
    subst (λ (x : Change). Keeps c.note.new.self w (with_kills c.args.prepared.packets (changed_by w s x))) c.into_parts-packets.ensures.change
    (subst (λ (l : List Envelope). Keeps c.note.new.self w (with_kills l (changed_by w s c.into_parts-packets.result.1))) c.into_parts-packets.ensures.packets
    (subst (λ (l : List Envelope). Keeps c.note.new.self w (with_kills l (changed_by w s c.into_parts-packets.result.1))) c.deref.ensures.value
    (c.note.ensures w (changed_by w s c.into_parts-packets.result.1) (c.make.ensures w s keeps spared))))
