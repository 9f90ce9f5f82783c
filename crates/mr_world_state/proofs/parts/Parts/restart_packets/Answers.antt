use Rattle.std.proofs.Common.{◌≡◌, ◌+◌, ◌∙◌, sym, ap, subst, length, is_some, IsErrAnd, arith, rules}
use Rattle.mr_packet.specs.declared.packet.Packet.TheVariants.{NodeUp}
use Rattle.mr_world_model.specs.World.{NodeRestart}
use Rattle.mr_world_state.proofs.Refusals.{memory-foreseen, full-foreseen, taken-by}
use Rattle.mr_world_state.proofs.Restarting.{absent, last, present, needs, told, told-by, many-told, counted}
use Rattle.mr_world_state.proofs.parts.Parts.restart_packets.Goals as goal

pub returns-in_default-clause-foresees : goal.returns-in_default-clause-foresees
returns-in_default-clause-foresees c = absent c.args.self.now c.args.n (ap is_some (sym c.in_default.ensures))

pub returns-then-incarnation-clause-foresees : goal.returns-then-incarnation-clause-foresees
returns-then-incarnation-clause-foresees c = last c.args.self.now c.args.n c.in-Some.machine.now (sym c.in-Some.ensures) (omega (arith, c.if-incarnation.true, c.incarnation-incarnation.ensures))

pub returns-in_err-check_room-clause-foresees : goal.returns-in_err-check_room-clause-foresees
returns-in_err-check_room-clause-foresees c = let full = c.in_err-check_room.ensures.full in
    full-foreseen c.args.self.now (NodeRestart c.args.n) c.count_alive.result c.from_residual.result
    (needs c.args.self.now c.args.n c.in-Some.machine.now c.count_alive.result (sym c.in-Some.ensures) (search rules)
    (many-told c.args.self.now c.fence-newest.result c.count_alive.result c.fence-newest.ensures.value c.count_alive.ensures))
    full.1
    (subst (λ f. IsErrAnd c.from_residual.result (λ g. g ≡ f)) full.0 c.from_residual.ensures.1)

pub returns-in_err-packets-clause-foresees : goal.returns-in_err-packets-clause-foresees
returns-in_err-packets-clause-foresees c = memory-foreseen c.args.self.now (NodeRestart c.args.n) c.from_residual-in_err-packets.result
    (present c.args.self.now c.args.n c.in-Some.machine.now (sym c.in-Some.ensures))
    (counted c.args.self.now c.args.n c.in-Some.machine.now c.count_alive.result (sym c.in-Some.ensures) (search rules)
    (many-told c.args.self.now c.fence-newest.result c.count_alive.result c.fence-newest.ensures.value c.count_alive.ensures) c.in_ok-check_room.ensures.room)
    c.from_residual-in_err-packets.ensures.1

pub returns-clause-foresees : goal.returns-clause-foresees
returns-clause-foresees c = λ w s. taken-by s
    (needs c.args.self.now c.args.n c.in-Some.machine.now c.count_alive.result (sym c.in-Some.ensures) (search rules)
    (many-told c.args.self.now c.fence-newest.result c.count_alive.result c.fence-newest.ensures.value c.count_alive.ensures) w s)
    c.in_ok-check_room.ensures.room

pub returns-clause-sent : goal.returns-clause-sent
returns-clause-sent c = told c.args.self.now c.args.n c.in-Some.machine.now c.in_ok-packets.packets.items (sym c.in-Some.ensures)
    (told-by c.args.self.now c.args.n c.in-Some.machine.now c.in_ok-packets.packets.items c.fence-newest.result c.incarnation-incarnation.result c.fence-newest.ensures.value c.incarnation-incarnation.ensures c.in_ok-packets.ensures)

pub returns-clause-room : goal.returns-clause-room
returns-clause-room c = omega (arith, c.in_ok-check_room.ensures.room, c.count_alive.ensures (NodeUp c.args.n (c.incarnation-incarnation.result + 1)) ∙ ap length (sym c.in_ok-packets.ensures))
