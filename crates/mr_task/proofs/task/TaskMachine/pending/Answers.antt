use Rattle.std.proofs.Common.{◌≡◌, sym, ap, ◌∙◌, ◌∷◌, subst, Ok}
use Rattle.mr_task.specs.declared.fault.TaskFault.TheVariants.{NoMemory}
use Rattle.mr_task.specs.Calls.{Asks}
use Rattle.mr_task.specs.Steps.{Task, asked, if_there, entry_in}
use Rattle.mr_task.specs.State.{StandsFor, Stands, Answers, known, fault_or}
use Rattle.mr_task.proofs.Keeps.{known-is}
use Rattle.mr_task.proofs.Moves.{asked-keeps}
use Rattle.mr_task.proofs.Results.{on-ok, if-err}
use Rattle.mr_task.proofs.task.TaskMachine.pending.Goals as goal

pub returns-clause-stands : goal.returns-clause-stands
returns-clause-stands c =
    on-ok c.ask.result (c.ask.new.self ≡ asked c.args.self.now c.args.attempt) (Stands c.args.self.now (Asks c.args.attempt) c.ask.new.self)
    (λ left t k h st. let P : Task → Type 0 = λ m. StandsFor m t k (Asks c.args.attempt ∷ h) in subst P (sym left) (asked-keeps c.args.self.now t k h c.args.attempt st))
    c.ask.ensures.left

pub returns-clause-known : goal.returns-clause-known
returns-clause-known c =
    on-ok c.ask.result (if_there (entry_in c.args.self.now.attempts c.args.attempt) ≡ Ok tt) (Answers c.args.self.now (known c.args.attempt) (Ok tt))
    (λ there t k h st. sym there ∙ known-is c.args.self.now t k h c.args.attempt st)
    c.ask.ensures.known

pub returns-clause-refused : goal.returns-clause-refused
returns-clause-refused c =
    if-err c.ask.result (λ fault. fault ≡ fault_or (if_there (entry_in c.args.self.now.attempts c.args.attempt)) NoMemory)
    (λ fault. Answers c.args.self.now (λ t k calls. fault_or (known c.args.attempt t k calls) NoMemory) fault)
    (λ fault is t k h st. is ∙ ap (λ r. fault_or r NoMemory) (known-is c.args.self.now t k h c.args.attempt st))
    c.ask.ensures.refused
