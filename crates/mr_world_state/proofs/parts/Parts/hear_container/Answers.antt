use Rattle.std.proofs.Common.{sym, ◌∙◌, ap, None, true, false, ◌++◌, ◌∷◌, [], append-nil, slice_get}
use Rattle.mr_world_model.specs.World.{Deliver}
use Rattle.mr_world_state.specs.inner.Replying.{ends_by}
use Rattle.mr_world_state.proofs.Frames.{same-parts, changes-twice}
use Rattle.mr_world_state.proofs.Hearing_containers.{heard-stands}
use Rattle.mr_world_state.proofs.Refusals.{memory-tried}
use Rattle.mr_world_state.proofs.parts.Parts.hear_container.Goals as goal

pub returns-in_err-ends-clause-tries : goal.returns-in_err-ends-clause-tries
returns-in_err-ends-clause-tries c = memory-tried c.args.self.now _ (Deliver c.args.i) c.from_residual-in_err-ends.result c.in_ok-check_hear_container.ensures.foresees (λ w s. same-parts c.args.self.now w c.hear.new.living c.reserve.new.bag c.in_err-ends.ensures.err c.reserve.ensures.kept s) c.from_residual-in_err-ends.ensures.1

pub returns-then-ends-clause-tries : goal.returns-then-ends-clause-tries
returns-then-ends-clause-tries c = λ w s. let t = c.in_ok-check_hear_container.ensures.foresees w s in (
  t,
  heard-stands c.args.self.now w c.args.i c.args.c.now c.remove.new.self c.push_reserved.new.self s t c.requires c.in_ok-check_hear_container.ensures.there true (sym c.if-ends.true ∙ c.in_ok-ends.ensures.over ∙ ap (λ es. ends_by c.args.self.now.living c.args.c.now (slice_get es c.args.i)) c.reserve.ensures.kept)
      (changes-twice c.args.self.now.living c.hear.new.living c.remove.new.self c.args.c.now _ None (c.in_ok-ends.ensures.heard _ (ap (λ es. slice_get es c.args.i) c.reserve.ensures.kept ∙ c.requires.1)) c.remove.ensures)
      (c.push_reserved.ensures.packets ∙ (ap (λ es. es ++ c.ended.result ∷ []) c.reserve.ensures.kept ∙ ap (λ e. c.args.self.now.bag.packets ++ e ∷ []) c.ended.ensures)),
)

pub returns-else-ends-clause-tries : goal.returns-else-ends-clause-tries
returns-else-ends-clause-tries c = λ w s. let t = c.in_ok-check_hear_container.ensures.foresees w s in (
  t,
  heard-stands c.args.self.now w c.args.i c.args.c.now c.hear.new.living c.reserve.new.bag s t c.requires c.in_ok-check_hear_container.ensures.there false (sym c.if-ends.false ∙ c.in_ok-ends.ensures.over ∙ ap (λ es. ends_by c.args.self.now.living c.args.c.now (slice_get es c.args.i)) c.reserve.ensures.kept)
      (c.in_ok-ends.ensures.heard _ (ap (λ es. slice_get es c.args.i) c.reserve.ensures.kept ∙ c.requires.1)) (c.reserve.ensures.kept ∙ sym (append-nil _)),
)
