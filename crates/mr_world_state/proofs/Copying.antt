-- What the parts stand for, their copy stands for too.
use Rattle.std.proofs.Common.{◌≡◌, ◌<◌, ◌≤◌, ◌+◌, ℕ, zero, suc, refl, sym, ◌∙◌, ap, subst, List, [], ◌∷◌, ◌++◌, Option, Some, None, is_some, length, slice_get, take, get_or}
use Rattle.std.proofs.lemmas.List.{take_all}
use Rattle.std.proofs.lemmas.List.Elements.{all_zip_more, length_all_zip}
use Rattle.std.specs.List.{AllZip}
use Rattle.std.specs.Option.{option_and_then}
use Rattle.mr_paths.specs.declared.layout.Layout.{Layout}
use Rattle.mr_master.specs.State as master
use Rattle.mr_world_model.specs.Packets.{Config}
use Rattle.mr_world_model.specs.World.{World}
use Rattle.mr_world_model.specs.Stored.{StoresStand}
use Rattle.mr_world_actors.specs.declared.living.Living.{Living}
use Rattle.mr_world_actors.specs.declared.nodes.Nodes.{Nodes}
use Rattle.mr_world_actors.specs.Living.{Same}
use Rattle.mr_world_actors.specs.Nodes.{SameNodes}
use Rattle.mr_world_state.specs.declared.masters.Masters.{Masters}
use Rattle.mr_world_state.specs.declared.parts.Parts.{Parts}
use Rattle.mr_world_state.specs.Machines.{master_of, master_count}
use Rattle.mr_world_state.specs.Standing.{Standing, Reached, LivingStand, NodesStand, MastersStand}
use Rattle.mr_world_state.specs.inner.Masters.{SameMasters}
use Rattle.mr_world_state.proofs.Mastering.{masters-stay}

-- ---- what they stand for

living-stand : (cfg : Config) (old new : Living) (w : World) → Same old new → LivingStand cfg old w → LivingStand cfg new w
living-stand cfg old new w same s = record {
  alive = λ c. ap is_some (same c) ∙ s.alive c;
  machines = λ c m is. s.machines c m (sym (same c) ∙ is);
}

nodes-stand : (cfg : Config) (old new : Nodes) (w : World) → SameNodes old new → NodesStand cfg old w → NodesStand cfg new w
nodes-stand cfg old new w same s = record {
  there = λ n. ap is_some (same n) ∙ s.there n;
  machines = λ n m is. s.machines n m (sym (same n) ∙ is);
}

pub copied-parts : (p q : Parts) → q.config ≡ p.config → q.layout ≡ p.layout → q.names ≡ p.names → q.history ≡ p.history → q.bag.packets ≡ p.bag.packets
    → SameMasters p.masters q.masters → Same p.living q.living → SameNodes p.nodes q.nodes → q.launched ≡ p.launched → (w : World) → Standing p w → Standing q w
copied-parts p q config layout names history bag masters living nodes launched w s = record {
  reached = subst (λ cfg. Reached cfg w) (sym config) s.reached;
  dest = ap (λ (l : Layout). l.dest) layout ∙ s.dest;
  stores = subst (λ n. StoresStand n q.history w) (sym names) (subst (λ h. StoresStand p.names h w) (sym history) s.stores);
  bag = bag ∙ s.bag;
  living = subst (λ cfg. LivingStand cfg q.living w) (sym config) (living-stand p.config p.living q.living w living s.living);
  nodes = subst (λ cfg. NodesStand cfg q.nodes w) (sym config) (nodes-stand p.config p.nodes q.nodes w nodes s.nodes);
  masters = subst (λ cfg. MastersStand cfg q.masters w) (sym config) (masters-stay masters s.masters);
  launched = launched ∙ s.launched;
}
