use Rattle.std.proofs.Common.{rules}
use Rattle.mr_task.specs.Calls.{Hears}
use Rattle.mr_master_tasks.proofs.Keeping.{takes-so}
use Rattle.mr_master_tasks.proofs.tasks.Tasks.note.Goals as goal

pub returns : goal.returns
returns c = takes-so c.self.inside.machines.items c.note_at.new.tasks.items c.args.place (Hears c.args.attempt) c.self.view_is c.note_at.ensures

pub follow-requires : goal.follow-requires
follow-requires c = record { before = c.self.inside.machines.items; was = c.self.invariant; within = search rules; call = Hears c.args.attempt; takes = c.note_at.ensures }
