use Rattle.std.proofs.Common.{◌≡◌, ap, subst, ◌+◌, ◌≤◌, ◌<◌, length, ◌∙◌, IsErrAnd}
use Rattle.mr_packet.specs.declared.bag.TheConstants.{MAX_PACKETS}
use Rattle.mr_world_model.specs.World.{ContainerStep}
use Rattle.mr_world_actors.specs.Letters.{count_of, letters_of}
use Rattle.mr_world_actors.specs.Living.{kept}
use Rattle.mr_world_state.proofs.Sending_packets.{needs}
use Rattle.mr_world_state.proofs.Refusals.{taken-by, full-foreseen}
use Rattle.mr_world_state.proofs.parts.Parts.check_send.Goals as goal

pub returns-in_err-check_room-clause-foresees : goal.returns-in_err-check_room-clause-foresees
returns-in_err-check_room-clause-foresees c = full-foreseen c.args.self.now (ContainerStep c.args.c.now c.args.weather) (count_of (letters_of (kept c.args.self.now.living c.args.c.now))) c.from_residual.result
    (needs c.args.self.now c.args.c.now c.args.weather c.requires)
    (subst (λ n. MAX_PACKETS < length c.args.self.now.bag.packets + n) (c.count.ensures ∙ ap count_of c.letters-letters.ensures) c.in_err-check_room.ensures.full.1)
    (subst (λ f. IsErrAnd c.from_residual.result (λ g. g ≡ f)) c.in_err-check_room.ensures.full.0 c.from_residual.ensures.1)

pub returns-clause-foresees : goal.returns-clause-foresees
returns-clause-foresees c = λ w s. taken-by s (needs c.args.self.now c.args.c.now c.args.weather c.requires w s)
    (subst (λ n. length c.args.self.now.bag.packets + n ≤ MAX_PACKETS) (c.count.ensures ∙ ap count_of c.letters-letters.ensures) c.in_ok-check_room.ensures.room)
