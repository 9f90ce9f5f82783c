use Rattle.std.proofs.Common.{refl, sym, ap, is_some}
use Rattle.mr_world_state.proofs.Expiring.{dead}
use Rattle.mr_world_state.proofs.parts.Parts.check_expire.Goals as goal

pub returns-in_default : goal.returns-in_default
returns-in_default c = dead c.args.self.now c.args.k c.args.node (ap is_some (sym c.in_default.ensures))

pub returns : goal.returns
returns c = c.check_expiry.ensures.foresees c.args.self.now c.args.k (record { bag = refl; at = sym c.in-Some.ensures })
