use Rattle.std.proofs.Common.{rules, arith, ◌≡◌, ◌+◌, ◌++◌, ◌∷◌, [], List, None, sym, ap, ◌∙◌, subst, false}
use Rattle.std.proofs.lemmas.Grind.{common_steps}
use Rattle.mr_ids.specs.Attempt.{Attempt}
use Rattle.mr_attempt.specs.Machine.{Machine, machine_after, new_machine}
use Rattle.mr_attempt.specs.declared.state.AttemptEvent.TheVariants as event
use Rattle.mr_task.specs.declared.attempts.Entry.{Entry}
use Rattle.mr_task.specs.Calls.{Launches}
use Rattle.mr_task.specs.Readings.{seen, launch_refusal}
use Rattle.mr_task.specs.Steps.{Task, entry_in}
use Rattle.mr_task.specs.State.{StandsFor}
use Rattle.mr_task.proofs.Launches.{new_attempt, new-absent, assigned, launch-keeps}
use Rattle.mr_task.proofs.task.TaskMachine.launch.Goals as goal

pub returns-clause-stands : goal.returns-clause-stands
returns-clause-stands c = λ t k h st.
    let m : Task = record { task = c.self.inside.task; app = c.self.inside.app; attempts = c.self.inside.attempts; grant = c.self.inside.grant; numbered = c.self.inside.numbered } in
    let P : Task → Type 0 = λ x. StandsFor x t k h in
    let st' : StandsFor m t k h = subst P (sym c.self.view_is) st in
    let refusal : launch_refusal (seen t k h) ≡ None = sym (c.launch_refusal.ensures.refusal t k h st) ∙ c.in_default.is in
    let A = c.next_attempt-attempt.result in
    let is : A ≡ new_attempt m = c.next_attempt-attempt.ensures.attempt ∙ ap (λ (x : Task). new_attempt x) (sym c.self.view_is) in
    let machine : c.on.new.self ≡ machine_after (new_machine A) event.Launch = c.on.ensures.moved ∙ ap (λ (x : Machine). machine_after x event.Launch) c.new-machine.ensures in
    let absent : entry_in c.self.inside.attempts A ≡ None = ap (λ (a : Attempt). entry_in c.self.inside.attempts a) is ∙ new-absent m t k h st' refusal in
    let xs = c.in_ok-push.ensures.added absent
    ∙ (λ i. c.self.inside.attempts ++ (A, record { machine = machine i; accepted = false }) ∷ [])
    ∙ ap (λ (a : Attempt). c.self.inside.attempts ++ (a, assigned a) ∷ []) is in
    let Q : List (Attempt × Entry) → Type 0 = λ ys. StandsFor (record { task = c.self.inside.task; app = c.self.inside.app; attempts = ys; grant = c.self.inside.grant; numbered = c.self.inside.numbered + 1 }) t k (Launches ∷ h) in
    subst Q (sym xs) (launch-keeps m t k h st' refusal)

pub invariant_of-self-2 : goal.invariant_of-self-2
invariant_of-self-2 c =
    let m : Task = record { task = c.self.inside.task; app = c.self.inside.app; attempts = c.self.inside.attempts; grant = c.self.inside.grant; numbered = c.self.inside.numbered } in
    let some = c.self.invariant.2 in
    let h = some.0 in
    let st : StandsFor m m.task m.app h = some.1 in
    let P : Task → Type 0 = λ x. StandsFor x m.task m.app h in
    let refusal : launch_refusal (seen m.task m.app h) ≡ None = sym (c.launch_refusal.ensures.refusal m.task m.app h (subst P c.self.view_is st)) ∙ c.in_default.is in
    let A = c.next_attempt-attempt.result in
    let is : A ≡ new_attempt m = c.next_attempt-attempt.ensures.attempt ∙ ap (λ (x : Task). new_attempt x) (sym c.self.view_is) in
    let machine : c.on.new.self ≡ machine_after (new_machine A) event.Launch = c.on.ensures.moved ∙ ap (λ (x : Machine). machine_after x event.Launch) c.new-machine.ensures in
    let absent : entry_in c.self.inside.attempts A ≡ None = ap (λ (a : Attempt). entry_in c.self.inside.attempts a) is ∙ new-absent m m.task m.app h st refusal in
    let xs = c.in_ok-push.ensures.added absent
    ∙ (λ i. c.self.inside.attempts ++ (A, record { machine = machine i; accepted = false }) ∷ [])
    ∙ ap (λ (a : Attempt). c.self.inside.attempts ++ (a, assigned a) ∷ []) is in
    let Q : List (Attempt × Entry) → Type 0 = λ ys. StandsFor (record { task = c.self.inside.task; app = c.self.inside.app; attempts = ys; grant = c.self.inside.grant; numbered = c.self.inside.numbered + 1 }) m.task m.app (Launches ∷ h) in (
      first_of (search rules, grind (arith, common_steps)),
      first_of (search rules, grind (arith, common_steps)),
      (Launches ∷ h, subst Q (sym xs) (launch-keeps m m.task m.app h st refusal)),
    )
