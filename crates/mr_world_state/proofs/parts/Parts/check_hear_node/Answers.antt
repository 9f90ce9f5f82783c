use Rattle.std.proofs.Common.{sym, ◌∙◌, ap, slice_get, arith}
use Rattle.mr_world_state.specs.inner.Replying.{answers_at, one_if}
use Rattle.mr_world_state.proofs.Hearing_containers.{one_if-most}
use Rattle.mr_world_state.proofs.Hearing_nodes.{needs}
use Rattle.mr_world_state.proofs.Refusals.{taken-by, full-by}
use Rattle.mr_world_state.proofs.parts.Parts.check_hear_node.Goals as goal

pub returns-then-len-lt-MAX_PACKETS-clause-foresees : goal.returns-then-len-lt-MAX_PACKETS-clause-foresees
returns-then-len-lt-MAX_PACKETS-clause-foresees c = λ w s. taken-by s (needs c.args.self.now c.args.i c.args.n c.requires w s) (omega (arith, one_if-most (answers_at c.args.self.now.nodes c.args.n (slice_get c.args.self.now.bag.packets c.args.i))))

pub returns-then-answers-clause-foresees : goal.returns-then-answers-clause-foresees
returns-then-answers-clause-foresees c = λ w s. full-by s (needs c.args.self.now c.args.i c.args.n c.requires w s)
    (let e = ap one_if (sym c.would_answer-answers.ensures ∙ c.if-answers.true) in omega arith)

pub returns-clause-foresees : goal.returns-clause-foresees
returns-clause-foresees c = λ w s. taken-by s (needs c.args.self.now c.args.i c.args.n c.requires w s)
    (let e = ap one_if (sym c.would_answer-answers.ensures ∙ c.if-answers.false) in omega arith)
