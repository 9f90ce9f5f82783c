use Rattle.std.proofs.Common.{refl, sym}
use Rattle.mr_recover_plan.proofs.Orders.{falls_back, goes_on}
use Rattle.mr_recover_plan.proofs.plan.put_records.Goals as goal

pub returns-in_default-clause-bad : goal.returns-in_default-clause-bad
returns-in_default-clause-bad c =
    falls_back c.args.records.now c.as_slice-more.result.now c.in-Ok.replayed.records c.args.bytes.now c.args.segment c.args.latest c.requires.latest (sym c.in_default.ensures) (sym c.as_slice-more.ensures) c.in-Ok.ensures.2 c.in-Ok.ensures.0

pub returns-in_ok-extend-in-Ok-clause-latest : goal.returns-in_ok-extend-in-Ok-clause-latest
returns-in_ok-extend-in-Ok-clause-latest c =
    goes_on c.args.records.now c.as_slice-more.result.now c.as_slice-more.result.now c.extend.new.self c.args.latest c.in-Some.latest c.requires.latest (sym c.in-Some.ensures) refl c.in_ok-extend-in-Ok.ensures.ok
