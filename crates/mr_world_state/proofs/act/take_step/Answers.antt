use Rattle.std.proofs.Common.{sym, subst}
use Rattle.mr_master.specs.State.{Master, Stands}
use Rattle.mr_world_state.proofs.Attending.{own-is, still-stands}
use Rattle.mr_world_state.proofs.act.take_step.Goals as goal

pub act-requires-clause-ready : goal.act-requires-clause-ready
act-requires-clause-ready c = (c.requires.planned.0, c.in_ok-make_room.ensures.ready c.requires.planned.0 (c.in_ok-machine.ensures.plans c.requires.planned.0 c.args.prepared c.requires.planned.1))

pub returns-clause-stands : goal.returns-clause-stands
returns-clause-stands c = λ step plans.
    subst (λ (m : Master). Stands c.args.machine.now step m) (sym (own-is c.own.result c.in_ok-machine.machine c.in_ok-machine.was (c.own.follows.holds c.act.new.machine)))
    (still-stands c.args.machine.now c.in_ok-machine.machine.now c.act.new.machine step c.in_ok-machine.ensures.still
    (still-stands c.in_ok-machine.machine.now c.make_room.new.machine c.act.new.machine step c.make_room.ensures.still
    (c.act.ensures.stands step (c.in_ok-make_room.ensures.ready step (c.in_ok-machine.ensures.plans step c.args.prepared plans)))))
