use Rattle.std.proofs.Common.{ap, ◌∙◌}
use Rattle.mr_script.specs.Lines.{before, after}
use Rattle.mr_script.proofs.Words.{before-cut, after-cut, after-none, before-none}
use Rattle.mr_script.proofs.word.split_once.Goals as goal

pub returns-in-Some-clause-some : goal.returns-in-Some-clause-some
returns-in-Some-clause-some c =
    let f = c.in-Some.ensures.some in
    (ap (before c.args.at) f.1 ∙ before-cut c.args.at c.in-Some.front.now c.in-Some.rest.now f.0, ap (after c.args.at) f.1 ∙ after-cut c.args.at c.in-Some.front.now c.in-Some.rest.now f.0)

pub returns-in-None-clause-none : goal.returns-in-None-clause-none
returns-in-None-clause-none c = (before-none c.args.at c.args.bytes.now c.in-None.ensures.none, after-none c.args.at c.args.bytes.now c.in-None.ensures.none)
