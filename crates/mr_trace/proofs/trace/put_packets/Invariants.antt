use Rattle.std.proofs.Common.{◌≡◌, ◌++◌, drop}
use Rattle.mr_trace.specs.Trace.{packets_text}
use Rattle.mr_trace.proofs.trace.put_packets.Given as goal

-- the packets so far, in front of those that are left, are all packets
abbrev pub invariant-loop-place : goal.invariant-loop-place
invariant-loop-place l = l.out.items ++ packets_text l.place (drop l.place l.bag) ≡ l.initial.out.items ++ packets_text l.first (drop l.first l.bag)
