use Rattle.std.proofs.Common.{sym, ◌∙◌, ap, slice_get, arith}
use Rattle.mr_world_state.specs.inner.Replying.{one_if, ends_by}
use Rattle.mr_world_state.proofs.Hearing_containers.{refused, needs, one_if-most}
use Rattle.mr_world_state.proofs.Refusals.{taken-by, full-by}
use Rattle.mr_world_state.proofs.parts.Parts.check_hear_container.Goals as goal

pub returns-then-not-contains-clause-foresees : goal.returns-then-not-contains-clause-foresees
returns-then-not-contains-clause-foresees c = refused c.args.self.now c.args.i c.args.c.now c.requires (sym c.contains.ensures ∙ c.if-not-contains.true)

pub returns-then-len-lt-MAX_PACKETS-clause-foresees : goal.returns-then-len-lt-MAX_PACKETS-clause-foresees
returns-then-len-lt-MAX_PACKETS-clause-foresees c = λ w s. taken-by s (needs c.args.self.now c.args.i c.args.c.now c.requires (sym c.contains.ensures ∙ c.if-not-contains.false) w s) (omega (arith, one_if-most (ends_by c.args.self.now.living c.args.c.now (slice_get c.args.self.now.bag.packets c.args.i))))

pub returns-then-ends-clause-foresees : goal.returns-then-ends-clause-foresees
returns-then-ends-clause-foresees c = λ w s. full-by s (needs c.args.self.now c.args.i c.args.c.now c.requires (sym c.contains.ensures ∙ c.if-not-contains.false) w s)
    (let e = ap one_if (sym c.would_end-ends.ensures ∙ c.if-ends.true) in omega arith)

pub returns-clause-foresees : goal.returns-clause-foresees
returns-clause-foresees c = λ w s. taken-by s (needs c.args.self.now c.args.i c.args.c.now c.requires (sym c.contains.ensures ∙ c.if-not-contains.false) w s)
    (let e = ap one_if (sym c.would_end-ends.ensures ∙ c.if-ends.false) in omega arith)
