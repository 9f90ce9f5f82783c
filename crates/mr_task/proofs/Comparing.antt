-- What `==` says of tasks and of what is kept of attempts: it holds exactly where they are equal.
use denote.Enum.Bare.{same_true, true_same}
use Rattle.std.proofs.Common.{◌≡◌, ◌&&◌, List, refl, ap, rules}
use Rattle.std.proofs.lemmas.Bool.Decides.{Decides-and, Decides-like}
use Rattle.std.proofs.lemmas.Slice.Eq.{slice_eq-Decides}
use Rattle.std.specs.Bool.{Decides, beq}
use Rattle.std.specs.Cmp.{booleans_Decides}
use Rattle.std.specs.Cmp.Lexicographic.{pointwise}
use Rattle.mr_ids.specs.Attempt.{Attempt}
use Rattle.mr_ids.specs.contracts.id.AttemptIdPartialEq.TheImpl as attempt
use Rattle.mr_ids.specs.contracts.id.TaskIdPartialEq.TheImpl as task
use Rattle.mr_ids.specs.declared.id.TaskId.{TaskId}
use Rattle.mr_attempt.specs.Machine.{Machine}
use Rattle.mr_attempt.specs.contracts.state.AttemptState.{the_type}
use Rattle.mr_attempt.specs.contracts.state.AttemptStatePartialEq.TheImpl as state
use Rattle.mr_attempt.specs.declared.state.AttemptState.{AttemptState}
use Rattle.mr_attempt.specs.contracts.machine.AttemptMachinePartialEq.TheImpl as machine
use Rattle.mr_grant.proofs.Same.{attempts_decide}
use Rattle.mr_task.specs.contracts.attempts.EntryPartialEq.TheImpl as entry
use Rattle.mr_task.specs.declared.attempts.Entry.{Entry}

pub tasks_decide : (a b : TaskId) → Decides (task.eq-value.it a b) (a ≡ b)
tasks_decide = search (rules)

states_decide : (a b : AttemptState) → Decides (state.eq-value.it a b) (a ≡ b)
states_decide a b = (same_true the_type tt a b, true_same the_type a b)

machines_decide : (a b : Machine) → Decides (machine.eq-value.it a b) (a ≡ b)
machines_decide a b =
    Decides-like (machine.eq-value.it a b) (λ (e : (a.attempt ≡ b.attempt) × (a.state ≡ b.state)). λ i. record { attempt = e.0 i; state = e.1 i })
    (λ (e : a ≡ b). (ap (λ (m : Machine). m.attempt) e, ap (λ (m : Machine). m.state) e))
    (Decides-and (attempt.eq-value.it a.attempt b.attempt) (state.eq-value.it a.state b.state) (attempts_decide a.attempt b.attempt) (states_decide a.state b.state))

entries_decide : (a b : Entry) → Decides (entry.eq-value.it a b) (a ≡ b)
entries_decide a b =
    Decides-like (entry.eq-value.it a b) (λ (e : (a.machine ≡ b.machine) × (a.accepted ≡ b.accepted)). λ i. record { machine = e.0 i; accepted = e.1 i })
    (λ (e : a ≡ b). (ap (λ (x : Entry). x.machine) e, ap (λ (x : Entry). x.accepted) e))
    (Decides-and (machine.eq-value.it a.machine b.machine) (beq a.accepted b.accepted) (machines_decide a.machine b.machine) (booleans_Decides a.accepted b.accepted))

pairs_decide : (p q : Attempt × Entry) → Decides (attempt.eq-value.it p.0 q.0 && entry.eq-value.it p.1 q.1) (p ≡ q)
pairs_decide p q =
    Decides-like (attempt.eq-value.it p.0 q.0 && entry.eq-value.it p.1 q.1) (λ (e : (p.0 ≡ q.0) × (p.1 ≡ q.1)). λ i. (e.0 i, e.1 i)) (λ (e : p ≡ q). (ap (λ (r : Attempt × Entry). r.0) e, ap (λ (r : Attempt × Entry). r.1) e))
    (Decides-and (attempt.eq-value.it p.0 q.0) (entry.eq-value.it p.1 q.1) (attempts_decide p.0 q.0) (entries_decide p.1 q.1))

pub kept_decide : (xs ys : List (Attempt × Entry)) → Decides (pointwise (λ (p q : Attempt × Entry). attempt.eq-value.it p.0 q.0 && entry.eq-value.it p.1 q.1) xs ys) (xs ≡ ys)
kept_decide xs ys = slice_eq-Decides {E = λ (p q : Attempt × Entry). attempt.eq-value.it p.0 q.0 && entry.eq-value.it p.1 q.1} pairs_decide xs ys _ refl
