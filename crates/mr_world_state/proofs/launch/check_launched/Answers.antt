use Rattle.std.proofs.Common.{◌≡◌, ◌≤◌, ◌<◌, ◌+◌, ℕ, sym, ap, subst, length, IsErrAnd, arith}
use Rattle.mr_world_model.specs.World.{LaunchOn}
use Rattle.mr_world_state.specs.declared.limits.TheConstants.{MAX_CONTAINERS}
use Rattle.mr_world_state.proofs.Launching.{refused, full, needs, one-fits, only-memory}
use Rattle.mr_world_state.proofs.Refusals.{full-foreseen, taken-by, lacks-memory}
use Rattle.mr_world_state.proofs.launch.check_launched.Goals as goal

pub returns-in-Some-clause-foresees : goal.returns-in-Some-clause-foresees
returns-in-Some-clause-foresees c = λ p k keeps many. refused p k c.args.task c.args.node c.args.machine.now c.launch_refusal.result c.in-Some.fault c.why.result (keeps.at, c.launch_refusal.ensures) c.in-Some.is c.why.ensures

pub returns-then-launched-ge-MAX_CONTAINERS-clause-foresees :
    goal.returns-then-launched-ge-MAX_CONTAINERS-clause-foresees
returns-then-launched-ge-MAX_CONTAINERS-clause-foresees c = λ p k keeps many. full p k c.args.task c.args.node c.args.machine.now c.launch_refusal.result (keeps.at, c.launch_refusal.ensures) c.in_default.is
    (subst (λ (n : ℕ). MAX_CONTAINERS ≤ n) (sym many) c.if-launched-ge-MAX_CONTAINERS.true)

pub returns-in_err-check_room-clause-foresees : goal.returns-in_err-check_room-clause-foresees
returns-in_err-check_room-clause-foresees c = λ p k keeps many. let b = ap length keeps.bag in let much = c.in_err-check_room.ensures.full.1 in
    full-foreseen p (LaunchOn k c.args.task c.args.node) 1 c.from_residual.result
    (needs p k c.args.task c.args.node c.args.machine.now c.launch_refusal.result (keeps.at, c.launch_refusal.ensures) c.in_default.is (subst (λ (n : ℕ). n < MAX_CONTAINERS) (sym many) c.if-launched-ge-MAX_CONTAINERS.false))
    (omega (arith, b, much)) (subst (λ f. IsErrAnd c.from_residual.result (λ g. g ≡ f)) c.in_err-check_room.ensures.full.0 c.from_residual.ensures.1)

pub returns-in-Ok-clause-foresees : goal.returns-in-Ok-clause-foresees
returns-in-Ok-clause-foresees c = λ p k keeps many w s. let b = ap length keeps.bag in let few = c.in_ok-check_room.ensures.room in
    taken-by s (needs p k c.args.task c.args.node c.args.machine.now c.launch_refusal.result (keeps.at, c.launch_refusal.ensures) c.in_default.is (subst (λ (n : ℕ). n < MAX_CONTAINERS) (sym many) c.if-launched-ge-MAX_CONTAINERS.false) w s)
    (omega (arith, b, few))

pub returns-in-Err-Refused-clause-foresees : goal.returns-in-Err-Refused-clause-foresees
returns-in-Err-Refused-clause-foresees c = λ p k keeps many w s.
    let is = only-memory p k c.args.task c.args.node c.args.machine.now c.launch_refusal.result _ (keeps.at, c.launch_refusal.ensures) c.in_default.is (subst (λ (n : ℕ). n < MAX_CONTAINERS) (sym many) c.if-launched-ge-MAX_CONTAINERS.false)
    c.in-Err-Refused.ensures.refused w s in
    absurd (cc (is, c.in-Err-Refused.field-0-is))

pub returns-in-Err-Full-clause-foresees : goal.returns-in-Err-Full-clause-foresees
returns-in-Err-Full-clause-foresees c = λ p k keeps many w s.
    let is = only-memory p k c.args.task c.args.node c.args.machine.now c.launch_refusal.result _ (keeps.at, c.launch_refusal.ensures) c.in_default.is (subst (λ (n : ℕ). n < MAX_CONTAINERS) (sym many) c.if-launched-ge-MAX_CONTAINERS.false)
    c.in-Err-Full.ensures.refused w s in
    absurd (cc (is, c.in-Err-Full.field-0-is))

pub returns-in-Err-NoMemory-clause-foresees : goal.returns-in-Err-NoMemory-clause-foresees
returns-in-Err-NoMemory-clause-foresees c = λ p k keeps many w s. let b = ap length keeps.bag in let few = c.in_ok-check_room.ensures.room in
    lacks-memory (taken-by s (needs p k c.args.task c.args.node c.args.machine.now c.launch_refusal.result (keeps.at, c.launch_refusal.ensures) c.in_default.is (subst (λ (n : ℕ). n < MAX_CONTAINERS) (sym many) c.if-launched-ge-MAX_CONTAINERS.false) w s)
    (omega (arith, b, few)))

pub returns-in-Ok-clause-room : goal.returns-in-Ok-clause-room
returns-in-Ok-clause-room c = one-fits _ c.in-Ok.prepared.packets c.in-Ok.ensures.one c.in_ok-check_room.ensures.room
