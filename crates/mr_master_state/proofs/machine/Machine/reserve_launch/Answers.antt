use Rattle.mr_master_state.proofs.Rooms.{records-aside, launch-aside}
use Rattle.mr_master_state.proofs.machine.Machine.reserve_launch.Goals as goal

pub returns-in_err-reserve-clause-same : goal.returns-in_err-reserve-clause-same
returns-in_err-reserve-clause-same c = records-aside c.reserve.new.self c.self.view_is c.reserve.ensures.same

pub returns-in_err-reserve-2-clause-same : goal.returns-in_err-reserve-2-clause-same
returns-in_err-reserve-2-clause-same c = launch-aside c.reserve-2.new.self c.reserve.new.self c.self.view_is c.reserve-2.ensures.same c.reserve.ensures.same

pub returns-clause-same : goal.returns-clause-same
returns-clause-same c = launch-aside c.reserve-2.new.self c.reserve.new.self c.self.view_is c.reserve-2.ensures.same c.reserve.ensures.same

pub returns-clause-room : goal.returns-clause-room
returns-clause-room c = record {
  records = record { due = c.in_ok-reserve.ensures.room; tail = c.in_ok-reserve.ensures.tail_room };
  entries = c.in_ok-reserve-2.ensures.room;
  killed = c.in_ok-reserve-2.ensures.killed_room;
}
