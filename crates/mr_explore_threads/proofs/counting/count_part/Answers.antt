use Rattle.std.proofs.Common.{sym, ◌∙◌}
use Rattle.std.specs.Option.{option_map}
use Rattle.mr_explore_threads.proofs.Advancing.{part_counted}
use Rattle.mr_explore_threads.proofs.counting.count_part.Goals as goal

pub returns-in_ok-table-in-Some-clause-counted : goal.returns-in_ok-table-in-Some-clause-counted
returns-in_ok-table-in-Some-clause-counted c =
    part_counted c.args.most (option_map (λ g. g.now) c.args.goal) c.args.parts.now c.args.place c.in-Some.walk c.in_ok-table-in-Some.table c.counted_at.result (sym c.in-Some.is ∙ c.in_ok-walk.ensures.is) c.in_ok-table-in-Some.ensures.counted c.counted_at.ensures
