use Rattle.std.proofs.Common.{sym, ◌∙◌}
use Rattle.mr_explore_compared.proofs.Ones.{packet_is}
use Rattle.mr_explore_compared.proofs.packets.is_equal.Goals as goal

pub returns : goal.returns
returns c same = packet_is c.args.packet.now c.args.there.now (sym c.eq.ensures ∙ same)
