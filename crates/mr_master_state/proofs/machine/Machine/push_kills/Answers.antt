use Rattle.std.proofs.Common.{◌∙◌, ap, List, ◌++◌}
use Rattle.std.specs.List.{flat_map}
use Rattle.mr_packet.specs.declared.packet.Envelope.{Envelope}
use Rattle.mr_master_model.specs.Sends.{kill_of, kills_of}
use Rattle.mr_master_state.specs.State.{Adds}
use Rattle.mr_master_state.proofs.Containers.{on-ok}
use Rattle.mr_master_state.proofs.Kills.{kills-all}
use Rattle.mr_master_state.proofs.machine.Machine.push_kills.Goals as goal

pub returns : goal.returns
returns c = on-ok c.push_each_kill.result
    (Adds c.args.self.now c.args.packets.now.items (λ w s. flat_map (kill_of w s) c.deref.result.now) c.push_each_kill.new.packets.items)
    (Adds c.args.self.now c.args.packets.now.items (λ w s. kills_of w s c.args.task) c.push_each_kill.new.packets.items)
    (λ adds w s keeps. adds w s keeps ∙ ap (λ (l : List Envelope). c.args.packets.now.items ++ l)
    (kills-all w s c.args.task c.deref.result.now (c.deref.ensures.value ∙ c.in_ok-live.ensures w s keeps))) c.push_each_kill.ensures
