use Rattle.mr_explore_merged.proofs.Stopping.{fails_of}
use Rattle.mr_explore_merged.proofs.searching.search_by_threads.Goals as goal

pub returns-in-Ok-clause-fault : goal.returns-in-Ok-clause-fault
returns-in-Ok-clause-fault g c = fails_of c.args.input.now c.args.faults c.args.most c.in-Ok.run' c.search_from_by_threads.result c.requires c.in-Ok.ensures.run c.search_from_by_threads.ensures.fault
