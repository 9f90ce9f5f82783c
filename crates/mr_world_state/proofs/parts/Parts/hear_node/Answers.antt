use Rattle.std.proofs.Common.{sym, ◌∙◌, ap, subst, length, ◌++◌, ◌∷◌, [], append-nil, slice_get, arith}
use Rattle.mr_world_model.specs.World.{Deliver}
use Rattle.mr_world_actors.specs.Nodes.{node_of, reaction_of}
use Rattle.mr_world_state.specs.inner.Serving.{Serves}
use Rattle.mr_world_state.proofs.Hearing_nodes.{stands, same-all, one-added, none-added, answering, is-none}
use Rattle.mr_world_state.proofs.Refusals.{memory-tried}
use Rattle.mr_world_state.proofs.parts.Parts.hear_node.Goals as goal

pub returns-in_err-answer-clause-tries : goal.returns-in_err-answer-clause-tries
returns-in_err-answer-clause-tries c = memory-tried c.args.self.now _ (Deliver c.args.i) c.from_residual-in_err-answer.result c.in_ok-check_hear_node.ensures.foresees
    (λ w s. same-all c.args.self.now w c.hear.new.living c.reserve.new.bag c.hear.new.nodes c.in_err-answer.ensures.no_node c.in_err-answer.ensures.none_lives c.reserve.ensures.kept s) c.from_residual-in_err-answer.ensures.1

pub push_reserved-requires-clause-few : goal.push_reserved-requires-clause-few
push_reserved-requires-clause-few c =
    let at = ap (λ es. slice_get es c.args.i) c.reserve.ensures.kept ∙ c.requires.1 in
    let one = answering c.args.self.now.nodes c.args.n (slice_get c.args.self.now.bag.packets c.args.i) _ c.in-Some.envelope c.requires.1 (sym c.in-Some.is ∙ c.in_ok-answer.ensures.added _ at) in
    let room = c.in_ok-check_hear_node.ensures.room in
    let kept = ap length c.reserve.ensures.kept in
    omega (arith, one, room, kept)

pub returns-in-Some-clause-tries : goal.returns-in-Some-clause-tries
returns-in-Some-clause-tries c = λ w s. let t = c.in_ok-check_hear_node.ensures.foresees w s in let at = ap (λ es. slice_get es c.args.i) c.reserve.ensures.kept ∙ c.requires.1 in (
  t,
  stands c.args.self.now w c.args.i c.args.n c.hear.new.living c.push_reserved.new.self c.hear.new.nodes s t c.requires (c.in_ok-answer.ensures.nodes _ at)
      (subst (λ maps. Serves c.args.self.now.living c.args.self.now.nodes c.args.n maps c.requires.0 c.hear.new.living) c.maps-maps.ensures (c.in_ok-answer.ensures.living _ at))
      (c.push_reserved.ensures.packets ∙ (ap (λ es. es ++ c.in-Some.envelope ∷ []) c.reserve.ensures.kept
      ∙ ap (λ es. c.args.self.now.bag.packets ++ es) (sym (one-added (reaction_of (node_of c.args.self.now.nodes c.args.n) c.requires.0) c.in-Some.envelope (sym c.in-Some.is ∙ c.in_ok-answer.ensures.added _ at))))),
)

pub returns-in_default-clause-tries : goal.returns-in_default-clause-tries
returns-in_default-clause-tries c = λ w s. let t = c.in_ok-check_hear_node.ensures.foresees w s in let at = ap (λ es. slice_get es c.args.i) c.reserve.ensures.kept ∙ c.requires.1 in (
  t,
  stands c.args.self.now w c.args.i c.args.n c.hear.new.living c.reserve.new.bag c.hear.new.nodes s t c.requires (c.in_ok-answer.ensures.nodes _ at)
      (subst (λ maps. Serves c.args.self.now.living c.args.self.now.nodes c.args.n maps c.requires.0 c.hear.new.living) c.maps-maps.ensures (c.in_ok-answer.ensures.living _ at))
      (c.reserve.ensures.kept ∙ (sym (append-nil _)
      ∙ ap (λ es. c.args.self.now.bag.packets ++ es) (sym (none-added (reaction_of (node_of c.args.self.now.nodes c.args.n) c.requires.0) (sym (is-none _ c.in_default.not-Some) ∙ c.in_ok-answer.ensures.added _ at))))),
)
