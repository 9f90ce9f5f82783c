use Rattle.std.proofs.Common.{rules, ◌≡◌, arith, sym, subst}
use Rattle.std.proofs.lemmas.Grind.{common_steps}
use Rattle.mr_task.specs.Steps.{Task, ended}
use Rattle.mr_task.specs.State.{StandsForSome}
use Rattle.mr_task.proofs.Keeps.{some-after}
use Rattle.mr_task.proofs.task.TaskMachine.end.Goals as goal

pub invariant_of-self : goal.invariant_of-self
invariant_of-self c =
    let old : StandsForSome c.args.self.now = let P : Task → Type 0 = λ m. StandsForSome m in subst P c.self.view_is c.self.invariant.2 in
    let new : Task = record { task = c.if-eq.self-inside.task; app = c.if-eq.self-inside.app; attempts = c.set.new.self; grant = c.if-eq.self-inside.grant; numbered = c.if-eq.self-inside.numbered } in
    let is : new ≡ ended c.args.self.now c.args.attempt.now c.args.event = first_of (search rules, grind (arith, common_steps)) in
    let P : Task → Type 0 = λ m. StandsForSome m in (
      first_of (search rules, grind (arith, common_steps)),
      first_of (search rules, grind (arith, common_steps)),
      subst P (sym is) (some-after c.args.self.now old c.requires.0 (ended c.args.self.now c.args.attempt.now c.args.event) c.requires.1),
    )
