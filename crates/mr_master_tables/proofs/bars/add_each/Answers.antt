use Rattle.std.proofs.Common.{◌∙◌, ap, List, arith}
use Rattle.std.proofs.lemmas.List.{take_all}
use Rattle.mr_ids.specs.Attempt.{Attempt}
use Rattle.mr_master_tables.specs.Bars.{all_added}
use Rattle.mr_master_tables.proofs.Adding.{next-added}
use Rattle.mr_master_tables.proofs.bars.add_each.Goals as goal

pub loop-i-preserved : goal.loop-i-preserved
loop-i-preserved c =
    let before = c.loop-i.invariant.room in
    let less = c.add.ensures.room in
    record {
      added = next-added c.args.due.now.keys c.args.attempts.now c.loop-i.i c.index-attempts-i.result c.loop-i.due.keys c.add.new.due.keys c.loop-i-test.true c.index-attempts-i.is c.loop-i.invariant.added c.add.ensures.added;
      room = omega arith;
    }

pub returns : goal.returns
returns c = c.loop-i.invariant.added ∙ ap (λ (l : List Attempt). all_added c.args.due.now.keys l) (take_all c.loop-i.i c.args.attempts.now c.loop-i-test.false)
