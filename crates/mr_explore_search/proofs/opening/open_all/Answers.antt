use Rattle.mr_explore_search.proofs.Passes.{all_runs}
use Rattle.mr_explore_search.proofs.opening.open_all.Goals as goal

pub returns-clause-all : goal.returns-clause-all
returns-clause-all g c =
    all_runs g.R.Run.steps c.args.most c.args.run c.args.faults c.new-levels.result c.open_passes.new.levels c.open_pass.new.levels c.new-levels.ensures c.in_ok-open_passes.ensures.opens c.in_ok-open_pass.ensures.opens
