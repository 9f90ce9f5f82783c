use Rattle.std.proofs.Common.{◌∙◌, ap, sym, Some, ◌||◌}
use Rattle.mr_packet.specs.declared.packet.Packet.{Packet}
use Rattle.mr_master_model.specs.Sends.{killed_by, is_kill}
use Rattle.mr_master_tables.proofs.Noting.{not-kill}
use Rattle.mr_master_tables.proofs.launches.note_kill.Goals as goal

pub returns-in-Kill-clause-noted : goal.returns-in-Kill-clause-noted
unfolding killed_by
returns-in-Kill-clause-noted c = λ n killed at. c.mark.ensures.marks n (killed n) at ∙ ap (λ (p : Packet). Some (is_kill p n || killed n)) (sym c.in-Kill.is)

pub returns-in_default-clause-noted : goal.returns-in_default-clause-noted
unfolding killed_by
returns-in_default-clause-noted c = λ n killed at. at ∙ ap (λ b. Some (b || killed n)) (sym (not-kill c.args.packet.now.body n (λ d e. c.in_default.not-Kill d e)))
