use Rattle.std.proofs.Common.{ap, length, arith}
use Rattle.mr_world_state.proofs.Attending.{no-memory, no-room, has-room}
use Rattle.mr_world_state.proofs.act.plan_answer.Goals as goal

pub returns-in_err-prepared-clause-plans : goal.returns-in_err-prepared-clause-plans
returns-in_err-prepared-clause-plans c = λ p k keeps. no-memory p k c.args.answer c.from_residual.result c.from_residual.ensures.1

pub returns-in_err-check_room-clause-plans : goal.returns-in_err-check_room-clause-plans
returns-in_err-check_room-clause-plans c = λ p k keeps. let many = c.in_err-check_room.ensures.full in let e = ap length c.packets.ensures in let b = ap length keeps.bag in
    no-room p k c.args.answer c.in_ok-prepared.prepared c.from_residual-in_err-check_room.result c.in_err-check_room.field-0.0
    (record { machine = c.args.machine.now; at = keeps.at; planned = c.in_ok-prepared.ensures.planned }) (many.0, omega (arith, e, b, many.1)) c.from_residual-in_err-check_room.ensures.1

pub returns-clause-plans : goal.returns-clause-plans
returns-clause-plans c = λ p k keeps. let e = ap length c.packets.ensures in let b = ap length keeps.bag in let few = c.in_ok-check_room.ensures.room in
    has-room p k c.args.answer c.in_ok-prepared.prepared (record { machine = c.args.machine.now; at = keeps.at; planned = c.in_ok-prepared.ensures.planned }) (omega (arith, e, b, few))

pub returns-clause-room : goal.returns-clause-room
returns-clause-room c = let e = ap length c.packets.ensures in let few = c.in_ok-check_room.ensures.room in omega (arith, e, few)
