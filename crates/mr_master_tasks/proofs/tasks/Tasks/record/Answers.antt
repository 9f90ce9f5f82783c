use Rattle.std.proofs.Common.{rules}
use Rattle.mr_task.specs.Calls.{Records}
use Rattle.mr_master_tasks.proofs.Keeping.{takes-so}
use Rattle.mr_master_tasks.proofs.tasks.Tasks.record.Goals as goal

pub returns : goal.returns
returns c = takes-so c.self.inside.machines.items c.record_at.new.tasks.items c.args.place (Records c.args.attempt) c.self.view_is c.record_at.ensures

pub follow-requires : goal.follow-requires
follow-requires c = record { before = c.self.inside.machines.items; was = c.self.invariant; within = search rules; call = Records c.args.attempt; takes = c.record_at.ensures }
