use Rattle.std.proofs.Common.{length}
use Rattle.mr_master_tasks.proofs.Following.{progress-again, room-below}
use Rattle.mr_master_tasks.proofs.tasks.follow.Goals as goal

pub note-requires : goal.note-requires
note-requires c =
    let t = c.requires in
    room-below c.args.progress.now (length t.before) c.args.place t.was.room t.within

pub returns : goal.returns
returns c =
    let t = c.requires in
    progress-again c.args.progress.now c.note.new.self t.before c.args.machines.now.items c.args.place t.call c.index-task.result.now t.was t.takes c.note.ensures c.index-task.ensures t.within
