use Rattle.std.proofs.Common.{◌≤◌, ◌-◌, ◌^◌, ap, ◌∙◌, arith}
use Rattle.std.specs.Option.{option_map}
use Rattle.mr_explore_ends.specs.Table.{Table}
use Rattle.mr_explore_threads.proofs.Advancing.{makes_behind}
use Rattle.mr_explore_threads.proofs.output.make_rest.Goals as goal

pub returns : goal.returns
returns g c = λ start fresh a.
    let small : c.args.most ≤ 2 ^ 64 - 1 = let fits = c.ranges.most.fits in omega (arith, fits) in
    makes_behind c.args.most c.saturating_sub-left.result c.args.seconds (option_map (λ g'. g'.now) c.args.goal) start c.args.exploration.now c.make.new.self c.make.result small
    (c.saturating_sub-left.ensures ∙ ap (λ n. c.args.most - n) (c.runs.ensures ∙ ap (λ (t : Table). t.runs) c.table.ensures)) fresh a c.make.ensures
