use Rattle.std.proofs.Common.{◌<◌, ◌+◌, sym, ap, ◌∙◌, arith, rules}
use Rattle.mr_history.proofs.Widths.{digits_step, digits_few}
use Rattle.mr_history.proofs.line.+digit_count.Goals as goal

pub returns-else-n-eq0-clause-len : goal.returns-else-n-eq0-clause-len
returns-else-n-eq0-clause-len n c =
    let some : 0 < c.args.n = let h = c.if-n-eq0.false in omega arith in
    ap (λ l. l + 1) c.digit_count.ensures.len ∙ sym (digits_step c.args.n some)

pub returns-else-n-eq0-clause-small : goal.returns-else-n-eq0-clause-small
returns-else-n-eq0-clause-small n c =
    let some : 0 < c.args.n = let h = c.if-n-eq0.false in omega arith in
    let few = digits_few c.args.n (search rules) in
    let step = digits_step c.args.n some in
    let own = c.digit_count.ensures.len in
    omega arith
