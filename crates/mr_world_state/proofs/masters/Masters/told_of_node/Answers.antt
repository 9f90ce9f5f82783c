use Rattle.std.proofs.Common.{◌∙◌, sym, ap, is_some, ◌+◌, Vec, Global, arith}
use Rattle.mr_packet.specs.declared.packet.Envelope.{Envelope}
use Rattle.mr_packet.specs.declared.packet.Packet.TheVariants.{NodeUp}
use Rattle.mr_world_state.specs.Machines.{master_of}
use Rattle.mr_world_state.proofs.Restarting.{none-told, one-more, no-more}
use Rattle.mr_world_state.proofs.masters.Masters.told_of_node.Goals.{in-Some+in_ok-push, in_default}
use Rattle.mr_world_state.proofs.masters.Masters.told_of_node.Goals as goal

pub loop-older-init : goal.loop-older-init
loop-older-init c = c.new-packets.ensures.items ∙ none-told (λ k. is_some (master_of c.args.self.now k)) (NodeUp c.args.n c.args.incarnation)

pub loop-older-preserved : goal.loop-older-preserved
loop-older-preserved c = elim c.match-told_up.branch [
  | in-Some+in_ok-push w ↦ ap (λ (v : Vec Envelope Global). v.items) w.packets-is ∙ (w.in_ok-push.ensures.items
      ∙ one-more (λ k. is_some (master_of c.args.self.now k)) c.loop-older.older (c.loop-older.older + 1) (NodeUp c.args.n c.args.incarnation) c.loop-older.packets.items w.in-Some.packet (omega arith) c.loop-older.invariant (sym w.in-Some.is ∙ c.told_up.ensures))
  | in_default w ↦ ap (λ (v : Vec Envelope Global). v.items) w.packets-is
      ∙ no-more (λ k. is_some (master_of c.args.self.now k)) c.loop-older.older (c.loop-older.older + 1) (NodeUp c.args.n c.args.incarnation) c.loop-older.packets.items (omega arith) c.loop-older.invariant (sym w.in_default.is ∙ c.told_up.ensures)
]
