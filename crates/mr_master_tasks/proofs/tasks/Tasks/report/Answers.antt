use Rattle.std.proofs.Common.{rules}
use Rattle.mr_task.specs.Calls.{Reports}
use Rattle.mr_master_tasks.proofs.Keeping.{takes-so}
use Rattle.mr_master_tasks.proofs.tasks.Tasks.report.Goals as goal

pub returns : goal.returns
returns c = takes-so c.self.inside.machines.items c.report_at.new.tasks.items c.args.place (Reports c.args.attempt) c.self.view_is c.report_at.ensures

pub follow-requires : goal.follow-requires
follow-requires c = record { before = c.self.inside.machines.items; was = c.self.invariant; within = search rules; call = Reports c.args.attempt; takes = c.report_at.ensures }
