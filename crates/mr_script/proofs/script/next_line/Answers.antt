use Rattle.std.proofs.Common.{◌<◌, length, ap, ◌∙◌, arith, rules, ◌∷◌, length-append}
use Rattle.mr_script.specs.Lines.{lines_of}
use Rattle.mr_script.proofs.Lines.{lines_of-cut, lines_of-last}
use Rattle.mr_script.proofs.script.next_line.Goals as goal

pub returns-in-Some-clause-some : goal.returns-in-Some-clause-some
returns-in-Some-clause-some c =
    let f = c.in-Some.ensures.some in
    let shorter : length c.in-Some.rest.now < length c.args.bytes.now = rw f.1 (omega (arith, length-append c.in-Some.line.now (10 ∷ c.in-Some.rest.now))) in
    (rw c.said.ensures (ap lines_of f.1 ∙ lines_of-cut c.in-Some.line.now c.in-Some.rest.now f.0), shorter)

pub returns-in-None-clause-some : goal.returns-in-None-clause-some
returns-in-None-clause-some c =
    let some : 0 < length c.args.bytes.now = search rules in
    (rw c.said-in-None.ensures (lines_of-last c.args.bytes.now c.in-None.ensures.none some), search rules)
