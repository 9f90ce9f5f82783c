use Rattle.std.proofs.Common.{◌∙◌, ap, ◌++◌, ◌∷◌, []}
use Rattle.mr_world_state.proofs.Dying.{stands}
use Rattle.mr_world_state.proofs.parts.Parts.die.Goals as goal

pub returns-clause-tries : goal.returns-clause-tries
returns-clause-tries c = λ w s. let t = c.in_ok-check_die.ensures.foresees w s in (
  t,
  stands c.args.self.now w c.args.c.now c.remove.new.self c.push_reserved.new.self s t c.remove.ensures
      (c.push_reserved.ensures.packets ∙ (ap (λ es. es ++ c.ended.result ∷ []) c.reserve.ensures.kept ∙ ap (λ e. c.args.self.now.bag.packets ++ e ∷ []) c.ended.ensures)),
)
