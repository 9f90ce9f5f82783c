-- A call of the namespace, in each weather. Our own: it ties the cluster's weather to the stores.
use Rattle.std.specs.Prelude.{Bool, true, false, Option, Some, Result}
use Rattle.mr_names.specs.Calls as names
use Rattle.mr_names.specs.declared.op.Answer.{Answer}
use Rattle.mr_names.specs.declared.fault.NameFault.{NameFault}
use Rattle.mr_names.specs.declared.fault.NameFault.TheVariants.{Full}
use Rattle.mr_world_model.specs.World.{Weather, Calm, Unavailable, Unanswered}
use Rattle.mr_world_stores.specs.declared.container.ContainerCall.{ContainerCall}

-- whether a call is made
abbrev pub is_made : Weather → Bool
is_made Calm = true
is_made Unavailable = false
is_made Unanswered = true

-- it is refused for want of room
abbrev pub is_full : Option NameFault → Bool
is_full (Some Full) = true
is_full _ = false

-- the namespace's answer of a container's call, and what is left
abbrev pub answer_of : names.State → ContainerCall → Result Answer NameFault × names.State
answer_of s call = names.call_of s call.caller call.op
