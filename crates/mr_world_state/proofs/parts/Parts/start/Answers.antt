use Rattle.std.proofs.Common.{◌∙◌, ap}
use Rattle.mr_names.specs.Calls as names
use Rattle.mr_history.specs.Calls as segments
use Rattle.mr_world_model.specs.World.{Start}
use Rattle.mr_world_model.specs.Effect.{version_of}
use Rattle.mr_master_refinement.specs.Steps.{setting}
use Rattle.mr_world_state.proofs.Asking.{still-so}
use Rattle.mr_world_state.proofs.Refusals.{memory-tried}
use Rattle.mr_world_state.proofs.Starting.{stands}
use Rattle.mr_world_state.proofs.Mastering.{stood, masters-stay}
use Rattle.mr_world_state.proofs.parts.Parts.start.Goals as goal

pub returns-in_err-begin-clause-tries : goal.returns-in_err-begin-clause-tries
returns-in_err-begin-clause-tries c = memory-tried c.args.self.now _ (Start c.args.k c.args.kept) c.from_residual-in_err-begin.result c.in_ok-app.ensures.foresees
    (λ w s. still-so (record c.args.self.now { masters = c.begin.new.self }) w _ _ c.in_ok-names.ensures.value c.in_ok-history.ensures.value
    (stood c.args.self.now w c.begin.new.self s (masters-stay c.in_err-begin.ensures.err s.masters))) c.from_residual-in_err-begin.ensures.1

pub returns-clause-tries : goal.returns-clause-tries
returns-clause-tries c = λ w s. let t = c.in_ok-app.ensures.foresees w s in let is = c.in_ok-app.ensures.is in (
  t,
  stands c.args.self.now w c.args.k c.args.kept c.raise.new.self c.raise-2.new.self c.begin.new.self c.in_ok-setting.setting c.in_ok-machine.machine s t
      (c.in_ok-setting.ensures ∙ ap (λ k. record (setting c.args.self.now.config k) { layout = c.args.self.now.layout }) is) c.in_ok-machine.ensures c.in_ok-begin.ensures.ok
      (c.raise.ensures ∙ (ap (λ n. names.raised n c.in_ok-app.app) c.in_ok-names.ensures.value ∙ ap (names.raised c.args.self.now.names) is))
      (c.raise-2.ensures ∙ (ap (segments.raised c.in_ok-app.app c.args.kept c.version.result) c.in_ok-history.ensures.value
      ∙ (ap (λ v. segments.raised c.in_ok-app.app c.args.kept v c.args.self.now.history) c.version.ensures
      ∙ ap (λ k. segments.raised k c.args.kept (version_of c.args.self.now.config k) c.args.self.now.history) is))),
)
