use Rattle.std.proofs.Common.{rules, arith, ◌≡◌, ◌++◌, ◌∷◌, [], List, ℕ, None, sym, ap, ◌∙◌, subst, true}
use Rattle.std.proofs.lemmas.Grind.{common_steps}
use Rattle.mr_ids.specs.Attempt.{Attempt}
use Rattle.mr_attempt.specs.Machine.{Machine, machine_after, new_machine}
use Rattle.mr_attempt.specs.declared.state.AttemptEvent.TheVariants as event
use Rattle.mr_task.specs.declared.attempts.Entry.{Entry}
use Rattle.mr_task.specs.Calls.{Recovers}
use Rattle.mr_task.specs.Steps.{Task, entry_in}
use Rattle.mr_task.specs.State.{StandsFor}
use Rattle.mr_task.proofs.Launches.{succeeded, recovered-keeps}
use Rattle.mr_task.proofs.task.TaskMachine.recovered.Goals as goal

pub returns-clause-stands : goal.returns-clause-stands
returns-clause-stands c = λ t k h st.
    let m : Task = record { task = c.self.inside.task; app = c.self.inside.app; attempts = c.self.inside.attempts; grant = c.self.inside.grant; numbered = c.self.inside.numbered } in
    let P : Task → Type 0 = λ x. StandsFor x t k h in
    let st' : StandsFor m t k h = subst P (sym c.self.view_is) st in
    let A = c.args.attempt in
    let empty : c.self.inside.attempts ≡ [] = ap (λ (x : Task). x.attempts) c.self.view_is ∙ c.requires.first in
    let own : A.task ≡ c.self.inside.task = c.requires.own ∙ ap (λ (x : Task). x.task) (sym c.self.view_is) in
    let machine : c.on-3.new.self ≡ machine_after (machine_after (machine_after (new_machine A) event.Launch) event.Done) event.Recorded =
    c.on-3.ensures.moved ∙ ap (λ (x : Machine). machine_after x event.Recorded) (c.on-2.ensures.moved ∙ ap (λ (x : Machine). machine_after x event.Done) (c.on.ensures.moved ∙ ap (λ (x : Machine). machine_after x event.Launch) c.new-machine.ensures)) in
    let absent : entry_in c.self.inside.attempts A ≡ None = ap (λ (es : List (Attempt × Entry)). entry_in es A) empty in
    let xs = c.in_ok-push.ensures.added absent ∙ (λ i. empty i ++ (A, record { machine = machine i; accepted = true }) ∷ []) in
    let Q : List (Attempt × Entry) → Type 0 = λ ys. StandsFor (record { task = c.self.inside.task; app = c.self.inside.app; attempts = ys; grant = c.self.inside.grant; numbered = c.numbered_up_to-self-inside.result }) t k (Recovers A ∷ h) in
    let R : ℕ → Type 0 = λ n. StandsFor (record { task = c.self.inside.task; app = c.self.inside.app; attempts = (A, succeeded A) ∷ []; grant = c.self.inside.grant; numbered = n }) t k (Recovers A ∷ h) in
    subst Q (sym xs) (subst R (sym c.numbered_up_to-self-inside.ensures.count) (recovered-keeps m t k h A st' own empty))

pub invariant_of-self-2 : goal.invariant_of-self-2
invariant_of-self-2 c =
    let m : Task = record { task = c.self.inside.task; app = c.self.inside.app; attempts = c.self.inside.attempts; grant = c.self.inside.grant; numbered = c.self.inside.numbered } in
    let some = c.self.invariant.2 in
    let t = m.task in
    let k = m.app in
    let h = some.0 in
    let st' : StandsFor m t k h = some.1 in
    let A = c.args.attempt in
    let empty : c.self.inside.attempts ≡ [] = ap (λ (x : Task). x.attempts) c.self.view_is ∙ c.requires.first in
    let own : A.task ≡ c.self.inside.task = c.requires.own ∙ ap (λ (x : Task). x.task) (sym c.self.view_is) in
    let machine : c.on-3.new.self ≡ machine_after (machine_after (machine_after (new_machine A) event.Launch) event.Done) event.Recorded =
    c.on-3.ensures.moved ∙ ap (λ (x : Machine). machine_after x event.Recorded) (c.on-2.ensures.moved ∙ ap (λ (x : Machine). machine_after x event.Done) (c.on.ensures.moved ∙ ap (λ (x : Machine). machine_after x event.Launch) c.new-machine.ensures)) in
    let absent : entry_in c.self.inside.attempts A ≡ None = ap (λ (es : List (Attempt × Entry)). entry_in es A) empty in
    let xs = c.in_ok-push.ensures.added absent ∙ (λ i. empty i ++ (A, record { machine = machine i; accepted = true }) ∷ []) in
    let Q : List (Attempt × Entry) → Type 0 = λ ys. StandsFor (record { task = c.self.inside.task; app = c.self.inside.app; attempts = ys; grant = c.self.inside.grant; numbered = c.numbered_up_to-self-inside.result }) t k (Recovers A ∷ h) in
    let R : ℕ → Type 0 = λ n. StandsFor (record { task = c.self.inside.task; app = c.self.inside.app; attempts = (A, succeeded A) ∷ []; grant = c.self.inside.grant; numbered = n }) t k (Recovers A ∷ h) in
    (first_of (search rules, grind (arith, common_steps)), first_of (search rules, grind (arith, common_steps)), (Recovers A ∷ h, subst Q (sym xs) (subst R (sym c.numbered_up_to-self-inside.ensures.count) (recovered-keeps m t k h A st' own empty))))
