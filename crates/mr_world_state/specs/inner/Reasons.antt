-- The reasons that a master gives, as the cluster's.
use Rattle.mr_master_model.specs.declared.phase.LaunchFault.{LaunchFault}
use Rattle.mr_master_model.specs.declared.phase.LaunchFault.TheVariants as refused
use Rattle.mr_world_events.specs.declared.why.Why.{Why}
use Rattle.mr_world_events.specs.declared.why.Why.TheVariants as why

abbrev pub why_of : LaunchFault → Why
why_of refused.NotRunning = why.NotRunning
why_of refused.NoTask = why.NoTask
why_of refused.NoNode = why.NoNode
why_of (refused.Task f) = why.Task f
