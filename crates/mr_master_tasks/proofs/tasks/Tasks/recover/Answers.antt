use Rattle.std.proofs.Common.{rules}
use Rattle.mr_task.specs.Calls.{Recovers}
use Rattle.mr_master_tasks.proofs.Keeping.{takes-so}
use Rattle.mr_master_tasks.proofs.tasks.Tasks.recover.Goals as goal

pub returns : goal.returns
returns c = takes-so c.self.inside.machines.items c.recover_at.new.tasks.items c.args.place (Recovers c.args.attempt) c.self.view_is c.in_ok-recover_at.ensures.takes

pub follow-requires : goal.follow-requires
follow-requires c = record { before = c.self.inside.machines.items; was = c.self.invariant; within = search rules; call = Recovers c.args.attempt; takes = c.in_ok-recover_at.ensures.takes }
