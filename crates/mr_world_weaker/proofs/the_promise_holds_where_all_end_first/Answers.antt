use Rattle.mr_world_weaker.proofs.Promise.{holds-where-all-end}
use Rattle.mr_world_weaker.proofs.the_promise_holds_where_all_end_first.Goals as goal

pub returns : goal.returns
returns c = record { holds = holds-where-all-end }
