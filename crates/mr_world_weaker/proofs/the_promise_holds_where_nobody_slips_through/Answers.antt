use Rattle.mr_world_weaker.proofs.Promise.{holds-where-nobody-slips}
use Rattle.mr_world_weaker.proofs.the_promise_holds_where_nobody_slips_through.Goals as goal

pub returns : goal.returns
returns c = record { holds = holds-where-nobody-slips }
