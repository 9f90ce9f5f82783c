use Rattle.std.proofs.Common.{◌∙◌, ap, sym, ◌≡◌, ℕ}
use Rattle.mr_ids.specs.declared.id.TaskKind.{TaskKind}
use Rattle.mr_container.specs.declared.place.Place.{Place}
use Rattle.mr_container.specs.Readings.{is_computing}
use Rattle.mr_ids.specs.declared.id.TaskId.{TaskId}
use Rattle.mr_world_state.specs.inner.Computing.{bytes_fault, unless_fault}
use Rattle.mr_world_state.proofs.Computing.{absent, wrong-wish, refused, taken, fault-foreseen}
use Rattle.mr_world_state.proofs.parts.Parts.check_compute.Goals as goal

pub returns-in-None-clause-foresees : goal.returns-in-None-clause-foresees
returns-in-None-clause-foresees c = absent c.args.self.now c.args.c.now c.args.bytes.now (sym c.in-None.ensures)

pub returns-then-not-is_computing-clause-foresees : goal.returns-then-not-is_computing-clause-foresees
returns-then-not-is_computing-clause-foresees c = wrong-wish c.args.self.now c.args.c.now c.args.bytes.now c.in-Some.machine.now (sym c.in-Some.ensures)
    (ap is_computing (sym c.wish.ensures) ∙ (sym c.is_computing.ensures ∙ c.if-not-is_computing.true))

pub returns-in_err-check_bytes-clause-foresees : goal.returns-in_err-check_bytes-clause-foresees
returns-in_err-check_bytes-clause-foresees c =
    let k : c.task.result.kind ≡ c.in-Some.machine.now.place.attempt.task.kind = ap (λ (t : TaskId). t.kind) c.task.ensures ∙ ap (λ (q : Place). q.attempt.task.kind) c.place-place.ensures in
    fault-foreseen c.args.self.now c.args.c.now c.args.bytes.now c.from_residual.result c.in_err-check_bytes.field-0.0
    (refused c.args.self.now c.args.c.now c.args.bytes.now c.in-Some.machine.now c.in_err-check_bytes.field-0.0 (sym c.in-Some.ensures)
    (ap is_computing (sym c.wish.ensures) ∙ (sym c.is_computing.ensures ∙ c.if-not-is_computing.false)) c.tell_most.ensures
    (c.in_err-check_bytes.ensures ∙ (ap (λ (x : TaskKind). unless_fault (bytes_fault x c.reduce_count.result c.args.bytes.now)) k ∙ ap (λ (n : ℕ). unless_fault (bytes_fault c.in-Some.machine.now.place.attempt.task.kind n c.args.bytes.now)) c.reduce_count.ensures)))
    c.from_residual.ensures.1

pub returns-clause-foresees : goal.returns-clause-foresees
returns-clause-foresees c =
    let k : c.task.result.kind ≡ c.in-Some.machine.now.place.attempt.task.kind = ap (λ (t : TaskId). t.kind) c.task.ensures ∙ ap (λ (q : Place). q.attempt.task.kind) c.place-place.ensures in
    taken c.args.self.now c.args.c.now c.args.bytes.now c.in-Some.machine.now (sym c.in-Some.ensures)
    (ap is_computing (sym c.wish.ensures) ∙ (sym c.is_computing.ensures ∙ c.if-not-is_computing.false)) c.tell_most.ensures
    (c.in_ok-check_bytes.ensures ∙ (ap (λ (x : TaskKind). unless_fault (bytes_fault x c.reduce_count.result c.args.bytes.now)) k ∙ ap (λ (n : ℕ). unless_fault (bytes_fault c.in-Some.machine.now.place.attempt.task.kind n c.args.bytes.now)) c.reduce_count.ensures))
