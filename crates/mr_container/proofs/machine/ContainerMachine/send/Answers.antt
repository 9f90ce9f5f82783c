use Rattle.std.proofs.Common.{sym, ◌∙◌}
use Rattle.mr_container.proofs.Sending.{sent-adds, sent-takes}
use Rattle.mr_container.proofs.machine.ContainerMachine.send.Goals as goal

pub returns-in-Some-clause-bag : goal.returns-in-Some-clause-bag
returns-in-Some-clause-bag c =
    sent-adds c.args.self.now c.sent.new.self c.in-Some.envelope c.args.bag.now.packets c.push_reserved.new.self.packets c.tell_end.new.bag.packets
    (sym c.packet.ensures ∙ c.in-Some.is) c.push_reserved.ensures.packets (c.sent.ensures.after c.in-Some.envelope.body) c.tell_end.ensures.bag

pub returns-in-Some-clause-spare : goal.returns-in-Some-clause-spare
returns-in-Some-clause-spare c =
    sent-takes c.args.self.now c.sent.new.self c.in-Some.envelope c.args.bag.now.spare c.push_reserved.new.self.spare c.tell_end.new.bag.spare
    (sym c.packet.ensures ∙ c.in-Some.is) c.push_reserved.ensures.spare (c.sent.ensures.after c.in-Some.envelope.body) c.tell_end.ensures.spare

pub returns-in-Some-clause-after : goal.returns-in-Some-clause-after
returns-in-Some-clause-after c = λ e wished. c.sent.ensures.after e.body
