use Rattle.std.proofs.Common.{rules, ◌≡◌, arith, sym, subst}
use Rattle.std.proofs.lemmas.Grind.{common_steps}
use Rattle.mr_task.specs.Calls.{Reports}
use Rattle.mr_task.specs.Steps.{Task, done}
use Rattle.mr_task.specs.State.{StandsForSome}
use Rattle.mr_task.proofs.Keeps.{some-after}
use Rattle.mr_task.proofs.Moves.{done-keeps}
use Rattle.mr_task.proofs.task.TaskMachine.accept.Goals as goal
use Rattle.mr_task.proofs.task.TaskMachine.accept.Goals.{then-eq, else-eq}

pub invariant_of-self : goal.invariant_of-self
invariant_of-self c =
    let P : Task → Type 0 = λ m. StandsForSome m in
    let old : StandsForSome c.args.self.now = subst P c.self.view_is c.self.invariant.2 in
    let new : Task = record { task = c.if-eq.self-inside.task; app = c.if-eq.self-inside.app; attempts = c.set.new.self; grant = c.if-eq.self-inside.grant; numbered = c.if-eq.self-inside.numbered } in
    let is : new ≡ (done c.args.self.now c.args.attempt.now).1 =
    elim c.if-eq.branch [
      | then-eq w ↦ first_of (search rules, grind (arith, common_steps))
      | else-eq w ↦ first_of (search rules, grind (arith, common_steps))
    ] in (
      first_of (search rules, grind (arith, common_steps)),
      first_of (search rules, grind (arith, common_steps)),
      subst P (sym is) (some-after c.args.self.now old (Reports c.args.attempt.now) ((done c.args.self.now c.args.attempt.now).1) (λ t k h st. done-keeps c.args.self.now t k h c.args.attempt.now st)),
    )
