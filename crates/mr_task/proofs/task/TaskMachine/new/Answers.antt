use Rattle.std.proofs.Common.{arith, sym, subst, List, []}
use Rattle.mr_ids.specs.Attempt.{Attempt}
use Rattle.mr_grant.specs.Grant.{Askers}
use Rattle.mr_task.specs.declared.attempts.Entry.{Entry}
use Rattle.mr_task.specs.State.{StandsFor}
use Rattle.mr_task.proofs.Launches.{none-stand}
use Rattle.mr_task.proofs.task.TaskMachine.new.Goals as goal

pub returns-clause-stands : goal.returns-clause-stands
returns-clause-stands c =
    let P : List (Attempt × Entry) → Type 0 = λ xs. StandsFor (record { task = c.args.task; app = c.args.app; attempts = xs; grant = c.new-2.result; numbered = 0 }) c.args.task c.args.app [] in
    let Q : Askers → Type 0 = λ g. StandsFor (record { task = c.args.task; app = c.args.app; attempts = []; grant = g; numbered = 0 }) c.args.task c.args.app [] in
    subst P (sym c.new.ensures) (subst Q (sym c.new-2.ensures) (none-stand c.args.task c.args.app))

pub invariant_of-result : goal.invariant_of-result
invariant_of-result c =
    let P : List (Attempt × Entry) → Type 0 = λ xs. StandsFor (record { task = c.args.task; app = c.args.app; attempts = xs; grant = c.new-2.result; numbered = 0 }) c.args.task c.args.app [] in
    let Q : Askers → Type 0 = λ g. StandsFor (record { task = c.args.task; app = c.args.app; attempts = []; grant = g; numbered = 0 }) c.args.task c.args.app [] in
    (omega arith, rw c.new.ensures (omega arith), ([], subst P (sym c.new.ensures) (subst Q (sym c.new-2.ensures) (none-stand c.args.task c.args.app))))
