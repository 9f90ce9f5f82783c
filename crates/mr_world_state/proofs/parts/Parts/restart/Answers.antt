use Rattle.std.proofs.Common.{◌∙◌, ap, ◌++◌}
use Rattle.mr_world_state.proofs.Restarting.{stands}
use Rattle.mr_world_state.proofs.parts.Parts.restart.Goals as goal

pub returns-clause-tries : goal.returns-clause-tries
returns-clause-tries c = λ w s. let t = c.in_ok-packets.ensures.foresees w s in (
  t,
  stands c.args.self.now w c.args.n c.end_on.new.self c.push_all.new.bag c.restart.new.self s t c.in_ok-restart.ensures.ok c.end_on.ensures
      (c.push_all.ensures ∙ (ap (λ es. es ++ c.in_ok-packets.packets.items) c.reserve.ensures.kept ∙ ap (λ es. c.args.self.now.bag.packets ++ es) (c.in_ok-packets.ensures.sent w s))),
)
