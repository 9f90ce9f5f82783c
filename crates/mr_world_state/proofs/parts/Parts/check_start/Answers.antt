use Rattle.std.proofs.Common.{◌≡◌, ◌+◌, ◌<◌, arith, nat_eq, false}
use Rattle.std.proofs.lemmas.Bool.Decides.{nat_tests}
use Rattle.mr_world_state.proofs.Starting.{refused, full, taken}
use Rattle.mr_world_state.proofs.parts.Parts.check_start.Goals as goal

pub returns-then-k-fence-clause-foresees : goal.returns-then-k-fence-clause-foresees
returns-then-k-fence-clause-foresees c = let e : nat_eq c.args.k (c.args.self.now.names.fence + 1) ≡ false = grind (arith, nat_tests, c.if-k-fence.true, c.fence.ensures.value) in
    refused c.args.self.now c.args.k c.args.kept e

pub returns-in_default-clause-foresees : goal.returns-in_default-clause-foresees
returns-in_default-clause-foresees c = full c.args.self.now c.args.k c.args.kept (omega (arith, c.if-k-fence.false, c.fence.ensures.value)) (let h : 1000 < c.args.k = grind (arith, c.if-k-fence.false, c.in_default.ensures) in h)

pub returns-clause-foresees : goal.returns-clause-foresees
returns-clause-foresees c = taken c.args.self.now c.args.k c.args.kept (omega (arith, c.if-k-fence.false, c.fence.ensures.value)) (omega (arith, c.in-Some.ensures))
