use Rattle.std.proofs.Common.{sym, ◌∙◌}
use Rattle.mr_world_model.specs.World.{Die}
use Rattle.mr_world_state.proofs.Dying.{refused, needs}
use Rattle.mr_world_state.proofs.Refusals.{foresees-room}
use Rattle.mr_world_state.proofs.parts.Parts.check_die.Goals as goal

pub returns-then-not-contains-clause-foresees : goal.returns-then-not-contains-clause-foresees
returns-then-not-contains-clause-foresees c = refused c.args.self.now c.args.c.now (sym c.contains.ensures ∙ c.if-not-contains.true)

pub returns-clause-foresees : goal.returns-clause-foresees
returns-clause-foresees c = foresees-room c.args.self.now (Die c.args.c.now) 1 (needs c.args.self.now c.args.c.now (sym c.contains.ensures ∙ c.if-not-contains.false)) c.check_room.result c.check_room.ensures.room c.check_room.ensures.full
