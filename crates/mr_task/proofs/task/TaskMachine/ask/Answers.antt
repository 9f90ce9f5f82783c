use Rattle.std.proofs.Common.{rules, ◌≡◌, arith, sym, subst}
use Rattle.std.proofs.lemmas.Grind.{common_steps}
use Rattle.mr_task.specs.Calls.{Asks}
use Rattle.mr_task.specs.Steps.{Task, asked}
use Rattle.mr_task.specs.State.{StandsForSome}
use Rattle.mr_task.proofs.Keeps.{some-after}
use Rattle.mr_task.proofs.Moves.{asked-keeps}
use Rattle.mr_task.proofs.task.TaskMachine.ask.Goals as goal

pub invariant_of-self-2 : goal.invariant_of-self-2
invariant_of-self-2 c =
    let P : Task → Type 0 = λ m. StandsForSome m in
    let old : StandsForSome c.args.self.now = subst P c.self.view_is c.self.invariant.2 in
    let new : Task = record { task = c.if-not-is_over.self-inside.task; app = c.if-not-is_over.self-inside.app; attempts = c.set.new.self; grant = c.if-not-is_over.self-inside.grant; numbered = c.if-not-is_over.self-inside.numbered } in
    let is : new ≡ asked c.args.self.now c.args.attempt.now = first_of (search rules, grind (arith, common_steps)) in (
      first_of (search rules, grind (arith, common_steps)),
      first_of (search rules, grind (arith, common_steps)),
      subst P (sym is) (some-after c.args.self.now old (Asks c.args.attempt.now) (asked c.args.self.now c.args.attempt.now) (λ t k h st. asked-keeps c.args.self.now t k h c.args.attempt.now st)),
    )
