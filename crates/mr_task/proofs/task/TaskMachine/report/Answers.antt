use Rattle.std.proofs.Common.{sym, ◌∷◌, subst}
use Rattle.mr_task.specs.Calls.{Reports}
use Rattle.mr_task.specs.Steps.{Task}
use Rattle.mr_task.specs.State.{StandsFor, StandsForSome}
use Rattle.mr_task.proofs.Moves.{done-keeps, accepts-now, stays-unless-accepted}
use Rattle.mr_task.proofs.task.TaskMachine.report.Goals as goal

pub accept-requires : goal.accept-requires
accept-requires c =
    let some : StandsForSome c.args.self.now = subst (λ (m : Task). StandsForSome m) c.self.view_is c.self.invariant.2 in
    accepts-now c.args.self.now c.args.attempt c.args.reply some c.requires c.in-Accepted.is

pub returns-in-Accepted : goal.returns-in-Accepted
returns-in-Accepted c = λ t k h st. let P : Task → Type 0 = λ m. StandsFor m t k (Reports c.args.attempt ∷ h) in
    subst P (sym c.accept.ensures) (done-keeps c.args.self.now t k h c.args.attempt st)

pub returns-in-Again : goal.returns-in-Again
returns-in-Again c = λ t k h st. let P : Task → Type 0 = λ m. StandsFor m t k (Reports c.args.attempt ∷ h) in
    subst P (stays-unless-accepted c.args.self.now t k h c.args.attempt c.args.reply st (c.requires t k h st) c.in-Again.is) (done-keeps c.args.self.now t k h c.args.attempt st)
