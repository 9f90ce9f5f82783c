use Rattle.std.proofs.Common.{◌∙◌, ap, sym, ℕ, List, subst}
use Rattle.mr_node.specs.Past.{Shelves}
use Rattle.mr_world_actors.specs.Nodes.{ChangesNode, node_stepped}
use Rattle.mr_ids.specs.declared.id.TaskId.{TaskId}
use Rattle.mr_world_state.proofs.Computing.{reduce-stands, map-stands, map-kind, nodes-same}
use Rattle.mr_world_state.proofs.Refusals.{memory-tried}
use Rattle.mr_world_model.specs.World.{Compute}
use Rattle.mr_world_state.proofs.parts.Parts.compute.Goals as goal

pub returns-in_err-put-in-Map-clause-tries : goal.returns-in_err-put-in-Map-clause-tries
returns-in_err-put-in-Map-clause-tries c = memory-tried c.args.self.now _ (Compute c.args.c.now c.args.bytes) c.from_residual-in_err-put-in-Map.result c.in_ok-place.ensures.foresees
    (λ w s. nodes-same c.args.self.now w c.put.new.self c.in_err-put-in-Map.ensures.err s) c.from_residual-in_err-put-in-Map.ensures.1

pub returns-in_ok-put-in-Map-clause-tries : goal.returns-in_ok-put-in-Map-clause-tries
returns-in_ok-put-in-Map-clause-tries c = λ w s. let t = c.in_ok-place.ensures.foresees w s in let k = ap (λ (x : TaskId). x.kind) (sym c.task.ensures) ∙ c.in-Map.is in (
  t,
  map-stands c.args.self.now c.args.c.now c.args.bytes c.in_ok-place.place c.computed.new.self c.put.new.self c.in_ok-place.ensures.computes k
      (c.computed.ensures.of_map (map-kind _ c.in_ok-place.place c.in_ok-place.ensures.computes k) c.args.bytes)
      (subst (λ (bytes : List ℕ). ChangesNode c.args.self.now.nodes c.in_ok-place.place.node (node_stepped c.args.self.now.nodes c.in_ok-place.place.node (Shelves c.in_ok-place.place.attempt bytes)) c.put.new.self)
      c.from_bytes.ensures c.in_ok-put-in-Map.ensures.ok) w s t,
)

pub returns-in-Reduce-clause-tries : goal.returns-in-Reduce-clause-tries
returns-in-Reduce-clause-tries c = λ w s. let t = c.in_ok-place.ensures.foresees w s in (
  t,
  reduce-stands c.args.self.now c.args.c.now c.args.bytes c.in_ok-place.place c.computed-in-Reduce.new.self c.in_ok-place.ensures.computes (ap (λ (x : TaskId). x.kind) (sym c.task.ensures) ∙ c.in-Reduce.is) c.computed-in-Reduce.ensures.changed w s t,
)
