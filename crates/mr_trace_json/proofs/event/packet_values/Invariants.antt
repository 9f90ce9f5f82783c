use Rattle.std.proofs.Common.{◌≡◌, ◌++◌, drop, map}
use Rattle.serde_json.specs.View.{view}
use Rattle.mr_trace_json.specs.Objects.{packet_objects}
use Rattle.mr_trace_json.proofs.event.packet_values.Given as goal

-- the packets so far, in front of those that are left, are all packets
abbrev pub invariant-loop-place : goal.invariant-loop-place
invariant-loop-place l = map view l.all.items ++ packet_objects l.place (drop l.place l.bag) ≡ packet_objects l.first (drop l.first l.bag)
