use Rattle.std.proofs.Common.{◌≡◌, ◌∙◌, ◌+◌, Vec, Global, length, sym, ap, subst}
use Rattle.std.specs.Prelude.{All}
use Rattle.std.proofs.lemmas.List.{length_push}
use Rattle.std.proofs.lemmas.List.Elements.{All-push}
use Rattle.mr_user.proofs.Exits.{at_end}
use Rattle.mr_user.proofs.execution.empty_shares.Goals as goal

pub loop-preserved : goal.loop-preserved
loop-preserved g c =
    let share = c.in_ok-with_capacity.field-0 in
    record {
      count = ap length c.in_ok-push.ensures.items ∙ length_push c.loop.shares.items share ∙ ap (λ n. n + 1) c.loop.invariant.count;
      empty = subst (All (λ (share : Vec g.row.T.Denot Global). length share.items ≡ 0)) (sym c.in_ok-push.ensures.items)
          (All-push (λ (share : Vec g.row.T.Denot Global). length share.items ≡ 0) c.loop.shares.items share c.loop.invariant.empty (ap length c.in_ok-with_capacity.ensures.items));
    }

pub returns-clause-count : goal.returns-clause-count
returns-clause-count g c = c.loop.invariant.count ∙ at_end c.loop.counter c.args.count c.loop.auto.counter-end c.loop-test.false

pub returns-clause-empty : goal.returns-clause-empty
returns-clause-empty g c = c.loop.invariant.empty
