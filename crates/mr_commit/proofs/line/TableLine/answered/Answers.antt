use Rattle.std.proofs.Common.{◌≡◌, true, ap, sym, ◌∙◌}
use Rattle.mr_commit.specs.Line.{op_of, is_answer_to}
use Rattle.mr_commit.proofs.Merging.{lines_told, fault_told}
use Rattle.mr_commit.proofs.line.TableLine.answered.Goals as goal

pub returns-clause-lines : goal.returns-clause-lines
returns-clause-lines c =
    let own : is_answer_to (op_of c.args.self.now) c.args.answer.now ≡ true = ap (λ l. is_answer_to (op_of l) c.args.answer.now) (sym c.self.view_is) ∙ ap (λ o. is_answer_to o c.args.answer.now) (sym c.self.invariant) ∙ sym c.is_answer_to.ensures ∙ c.if-not-is_answer_to.false in
    lines_told c.args.self.now c.self.inside.op c.self.inside.rule c.args.answer.now c.lines_after.result c.self.view_is own c.lines_after.ensures.lines

pub returns-clause-fault : goal.returns-clause-fault
returns-clause-fault c =
    let own : is_answer_to (op_of c.args.self.now) c.args.answer.now ≡ true = ap (λ l. is_answer_to (op_of l) c.args.answer.now) (sym c.self.view_is) ∙ ap (λ o. is_answer_to o c.args.answer.now) (sym c.self.invariant) ∙ sym c.is_answer_to.ensures ∙ c.if-not-is_answer_to.false in
    fault_told c.args.self.now c.self.inside.op c.self.inside.rule c.args.answer.now c.lines_after.result c.self.view_is own c.lines_after.ensures.fault
