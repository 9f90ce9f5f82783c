use Rattle.std.proofs.Common.{◌≡◌, sym, ◌∙◌}
use Rattle.mr_master_state.specs.State.{Master}
use Rattle.mr_master_state.proofs.Rooms.{records-aside, bars-aside, records-room, launch-room, bars-room, records-apart, launch-apart, bars-equal}
use Rattle.mr_master_state.proofs.machine.Machine.reserve.Goals as goal

pub returns-in-Records-clause-same : goal.returns-in-Records-clause-same
returns-in-Records-clause-same c = records-aside c.reserve.new.self c.self.view_is c.reserve.ensures.same

pub returns-in-Records-clause-room : goal.returns-in-Records-clause-room
returns-in-Records-clause-room c = records-room c.reserve.new.self c.args.prepared.now.change c.in-Records.count c.reserve.result c.self.view_is (sym c.in-Records.is ∙ c.room.ensures) c.reserve.ensures.room c.reserve.ensures.tail_room

pub returns-in-Records-clause-expiry : goal.returns-in-Records-clause-expiry
returns-in-Records-clause-expiry c = records-apart c.reserve.new.self c.args.prepared.now.change c.in-Records.count c.reserve.result c.self.view_is (sym c.in-Records.is ∙ c.room.ensures)

pub returns-in-Launch-clause-room : goal.returns-in-Launch-clause-room
returns-in-Launch-clause-room c = launch-room c.reserve_launch.new.self c.args.prepared.now.change c.in-Launch.task c.in-Launch.node c.reserve_launch.result (sym c.in-Launch.is ∙ c.room.ensures) c.reserve_launch.ensures.room

pub returns-in-Launch-clause-expiry : goal.returns-in-Launch-clause-expiry
returns-in-Launch-clause-expiry c = launch-apart (◌≡◌ {A = Master} c.reserve_launch.new.self c.args.self.now) c.args.prepared.now.change c.in-Launch.task c.in-Launch.node c.reserve_launch.result (sym c.in-Launch.is ∙ c.room.ensures)

pub returns-in-Bars-clause-same : goal.returns-in-Bars-clause-same
returns-in-Bars-clause-same c = bars-aside c.reserve-in-Bars.new.self c.self-in-Bars.view_is c.reserve-in-Bars.ensures.due

pub returns-in-Bars-clause-room : goal.returns-in-Bars-clause-room
returns-in-Bars-clause-room c = bars-room c.reserve-in-Bars.new.self c.args.prepared.now.change c.in-Bars.count c.reserve-in-Bars.result c.self-in-Bars.view_is (sym c.in-Bars.is ∙ c.room.ensures) c.reserve-in-Bars.ensures.room

pub returns-in-Bars-clause-expiry : goal.returns-in-Bars-clause-expiry
returns-in-Bars-clause-expiry c = bars-equal c.reserve-in-Bars.new.self c.args.prepared.now.change c.reserve-in-Bars.result c.self-in-Bars.view_is c.reserve-in-Bars.ensures.err
