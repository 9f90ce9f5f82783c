use Rattle.std.proofs.Common.{rules}
use Rattle.mr_task.specs.Calls.{Ends}
use Rattle.mr_master_tasks.proofs.Keeping.{takes-so}
use Rattle.mr_master_tasks.proofs.tasks.Tasks.end.Goals as goal

pub returns : goal.returns
returns c = takes-so c.self.inside.machines.items c.end_at.new.tasks.items c.args.place (Ends c.args.attempt c.args.was_killed) c.self.view_is c.end_at.ensures

pub follow-requires : goal.follow-requires
follow-requires c = record { before = c.self.inside.machines.items; was = c.self.invariant; within = search rules; call = Ends c.args.attempt c.args.was_killed; takes = c.end_at.ensures }
