use Rattle.mr_world_weaker.proofs.Promise.{holds-of-what-is-borne}
use Rattle.mr_world_weaker.proofs.the_promise_holds_of_what_a_store_bears.Goals as goal

pub returns : goal.returns
returns c = record { holds = holds-of-what-is-borne }
