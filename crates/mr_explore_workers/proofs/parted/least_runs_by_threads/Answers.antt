use Rattle.mr_explore_workers.proofs.parted.least_runs_by_threads.Goals as goal

pub returns-in_ok-search-clause-fault : goal.returns-in_ok-search-clause-fault
returns-in_ok-search-clause-fault g c = c.search_in_parts.ensures.fault c.args.run c.in_ok-search.ensures.starts
