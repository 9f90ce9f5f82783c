use Rattle.mr_world_weaker.proofs.Borne.{nobody-slips}
use Rattle.mr_world_weaker.proofs.a_store_bears_these_events.Goals as goal

pub returns : goal.returns
returns c = record { none = nobody-slips }
