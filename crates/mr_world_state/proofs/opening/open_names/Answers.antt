use Rattle.mr_world_state.proofs.Opening_parts.{staging-fault}
use Rattle.mr_world_state.proofs.opening.open_names.Goals as goal

pub wants_memory-requires : goal.wants_memory-requires
wants_memory-requires c = staging-fault _ _ _ c.in-Err.fault c.in_ok-opened.ensures c.first_master.ensures c.in_ok-staging.ensures c.in-Err.ensures.made.0
