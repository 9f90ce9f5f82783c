use Rattle.std.proofs.Common.{◌≡◌, ◌++◌, take}
use Rattle.mr_script_writer.specs.Repeating.{repeating}
use Rattle.mr_script_writer.proofs.script.put_script.Given as goal

abbrev pub invariant-loop-event : goal.invariant-loop-event
invariant-loop-event l = l.out.items ≡ l.fn.out.items ++ repeating (take l.event-index l.events)
