use Rattle.std.proofs.Common.{◌∙◌, ap}
use Rattle.mr_world_actors.specs.Nodes.{added_by}
use Rattle.mr_world_state.proofs.Launched_here.{killed, elsewhere}
use Rattle.mr_world_state.proofs.hear_node.hear_packet.Goals as goal

pub returns-in_ok-reaction-in-Kill-clause-living : goal.returns-in_ok-reaction-in-Kill-clause-living
returns-in_ok-reaction-in-Kill-clause-living c = λ anew. killed c.args.living.now c.args.nodes.now c.args.n c.args.maps c.in-Kill.container c.args.packet.now c.remove.new.self c.in-Kill.is c.remove.ensures

pub returns-in_ok-hear-in_default : goal.returns-in_ok-hear-in_default
returns-in_ok-hear-in_default c = record {
  nodes = c.in_ok-hear-in_default.ensures.ok;
  added = c.added-in_default.ensures ∙ ap added_by c.in_ok-hear-in_default.ensures.reaction;
  living = λ anew. elsewhere c.args.living.now c.args.nodes.now c.args.n c.args.maps c.args.packet.now c.in_default.not-Launch c.in_default.not-Kill;
  no_node = tt;
  none_lives = tt;
}
