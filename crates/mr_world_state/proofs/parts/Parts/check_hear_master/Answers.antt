use Rattle.std.proofs.Common.{refl, sym, ap, is_some}
use Rattle.mr_world_state.proofs.Hearing_masters.{dead}
use Rattle.mr_world_state.proofs.parts.Parts.check_hear_master.Goals as goal

pub returns-in_default : goal.returns-in_default
returns-in_default c = dead c.args.self.now c.args.i c.args.k c.requires (ap is_some (sym c.in_default.ensures))

pub returns : goal.returns
returns c = c.check_heard.ensures.foresees c.args.self.now c.args.k (record { bag = refl; at = sym c.in-Some.ensures }) c.requires
