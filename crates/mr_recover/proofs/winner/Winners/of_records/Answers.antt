use Rattle.std.proofs.Common.{◌+◌, List, sym, ap, subst, ◌∙◌, drop}
use Rattle.std.proofs.lemmas.List.{at_drop_more}
use Rattle.std.proofs.Math.ListN.{drop_of_length-le}
use Rattle.mr_history.specs.declared.record.Record.{Record}
use Rattle.mr_recover.specs.declared.winner.TaskWinner.{TaskWinner}
use Rattle.mr_recover.specs.Plan.{AreWinners}
use Rattle.mr_recover.specs.inner.Placing.{put_record, put_all}
use Rattle.mr_recover.proofs.Winning.{are_winners}
use Rattle.mr_recover.proofs.winner.Winners.of_records.Goals as goal

pub loop-entry-preserved : goal.loop-entry-preserved
loop-entry-preserved c =
    let rs = c.args.records.now in
    let left = drop (c.loop-entry.entry-index + 1) rs in
    let one = at_drop_more (λ (l : List Record). put_all c.loop-entry.winners l) rs c.loop-entry.entry-index c.entry-item.result c.loop-entry-test.true in
    ap (λ (ws : List TaskWinner). put_all ws left) c.in_ok-put_record.ensures ∙ ap (λ (r : Record). put_all (put_record c.loop-entry.winners r) left) c.entry-item.is ∙ sym one ∙ c.loop-entry.invariant

pub returns : goal.returns
returns c =
    let rs = c.args.records.now in
    let P : List TaskWinner → Type 0 = λ ws. AreWinners rs ws in
    subst P (sym (sym (ap (λ (l : List Record). put_all c.loop-entry.winners l) (drop_of_length-le rs c.loop-entry-test.false)) ∙ c.loop-entry.invariant)) (are_winners rs)
