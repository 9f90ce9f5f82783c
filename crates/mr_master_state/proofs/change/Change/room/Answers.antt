use Rattle.mr_master_state.proofs.Rooms.{no-room}
use Rattle.mr_master_state.proofs.change.Change.room.Goals as goal

pub returns-in_default : goal.returns-in_default
returns-in_default c = no-room c.args.self.now (λ i a reply due e. c.in_default.not-Reports i a reply due e) (λ i a end b e. c.in_default.not-Ends i a end b e) (λ i a y l e. c.in_default.not-Launches i a y l e)
    (λ dead lost late e. c.in_default.not-GivesUp dead lost late e)
