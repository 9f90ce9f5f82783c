use Rattle.std.proofs.Common.{take}
use Rattle.mr_master_model.specs.Sends.{flush_sends}
use Rattle.mr_master_state.specs.State.{Reads}
use Rattle.mr_master_calls.proofs.flush.flush_packets.Given as goal

abbrev pub invariant-loop-i : goal.invariant-loop-i
invariant-loop-i l = Reads l.master (λ w s. flush_sends w s (take l.i l.tail)) l.packets.items
