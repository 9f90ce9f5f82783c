use Rattle.std.proofs.Common.{ap, sym, ◌∙◌, Option}
use Rattle.std.specs.Option.{option_map}
use Rattle.mr_ids.specs.Attempt.{Attempt}
use Rattle.mr_task.specs.declared.attempts.Entry.{Entry}
use Rattle.mr_task.specs.Readings.{is_succeeded}
use Rattle.mr_task.proofs.Tables.{found, missed}
use Rattle.mr_task.proofs.attempts.Attempts.succeeded.Goals as goal

pub returns-in-Some : goal.returns-in-Some
returns-in-Some c =
    c.name_at.ensures
    ∙ ap (λ (o : Option (Attempt × Entry)). option_map (λ p. p.0) o) (sym (found (λ (p : Attempt × Entry). is_succeeded p.1.machine.state) c.args.self.now c.in-Some.place (sym c.in-Some.ensures)))

pub returns-in-None : goal.returns-in-None
returns-in-None c = ap (λ (o : Option (Attempt × Entry)). option_map (λ p. p.0) o) (sym (missed (λ (p : Attempt × Entry). is_succeeded p.1.machine.state) c.args.self.now (sym c.in-None.ensures)))
