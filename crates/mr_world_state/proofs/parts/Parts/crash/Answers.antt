use Rattle.std.proofs.Common.{◌∙◌, sym, ap, arith}
use Rattle.mr_history.specs.Calls as segments
use Rattle.mr_world_state.proofs.Crashing.{stands}
use Rattle.mr_world_state.proofs.parts.Parts.crash.Goals as goal

pub seal-requires : goal.seal-requires
seal-requires c = omega (arith, c.in_ok-app.ensures.is, c.in_ok-app.ensures.raised)

pub returns-clause-tries : goal.returns-clause-tries
returns-clause-tries c = λ w s. let t = c.in_ok-app.ensures.foresees w s in (
  t,
  stands c.args.self.now w c.args.k c.args.kept c.seal.new.history c.cease.new.self s t (sym (s.masters.alive c.args.k) ∙ c.in_ok-app.ensures.alive) c.cease.ensures
      (c.in_ok-seal.ensures.ok ∙ ap (λ k. segments.sealed_at k c.args.kept c.args.self.now.history) c.in_ok-app.ensures.is),
)
