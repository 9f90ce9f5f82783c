-- The first word of a command, and what stands after it. Our own format.
use Rattle.std.specs.Prelude.{Bool, true, false, ℕ, List, codes, Option, Some, None}
use Rattle.mr_world_events.specs.declared.event.Event.TheVariants as event
use Rattle.mr_script.specs.declared.command.Command.{Command}
use Rattle.mr_script.specs.declared.command.Command.TheVariants as command
use Rattle.mr_script.specs.declared.line.Verb.{Verb}
use Rattle.mr_script.specs.declared.line.Verb.TheVariants as verb

abbrev pub text_of : Verb → List ℕ
text_of verb.Start = codes "start"
text_of verb.Crash = codes "crash"
text_of verb.Duty = codes "duty"
text_of verb.Launch = codes "launch"
text_of verb.Deliver = codes "deliver"
text_of verb.Step = codes "step"
text_of verb.Compute = codes "compute"
text_of verb.Die = codes "die"
text_of verb.Restart = codes "restart"
text_of verb.Expire = codes "expire"
text_of verb.Calm = codes "calm"
text_of verb.Drop = codes "drop"
text_of verb.Expect = codes "expect"

-- what the command is written with; computed bytes are written in no way
abbrev pub verb_of : Command → Option Verb
verb_of (command.Makes (event.Start k kept)) = Some verb.Start
verb_of (command.Makes (event.Crash k kept)) = Some verb.Crash
verb_of (command.Makes (event.Duty k fault)) = Some verb.Duty
verb_of (command.Makes (event.LaunchOn k t n)) = Some verb.Launch
verb_of (command.Makes (event.Deliver i)) = Some verb.Deliver
verb_of (command.Makes (event.ContainerStep c fault)) = Some verb.Step
verb_of (command.Makes (event.Computed c bytes)) = None
verb_of (command.Makes (event.Die c)) = Some verb.Die
verb_of (command.Makes (event.NodeRestart n)) = Some verb.Restart
verb_of (command.Makes (event.Expire k n)) = Some verb.Expire
verb_of (command.Compute c) = Some verb.Compute
verb_of (command.Calm k until) = Some verb.Calm
verb_of (command.Drop i) = Some verb.Drop
verb_of (command.Expect e) = Some verb.Expect

-- whether a master is told, and no node
abbrev pub is_of_master : Verb → Bool
is_of_master verb.Start = true
is_of_master verb.Crash = true
is_of_master verb.Duty = true
is_of_master verb.Calm = true
is_of_master _ = false

-- whether a node is told
abbrev pub is_of_node : Verb → Bool
is_of_node verb.Launch = true
is_of_node verb.Restart = true
is_of_node verb.Expire = true
is_of_node _ = false

-- whether it is of the play alone: nothing happens in the cluster
abbrev pub is_of_play : Verb → Bool
is_of_play verb.Drop = true
is_of_play verb.Expect = true
is_of_play _ = false
