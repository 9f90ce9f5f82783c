-- What a few scripts make of a cluster.
use Rattle.std.proofs.Common.{refl}
use Rattle.mr_world_model.specs.World.{reply_of, reply_to, master_act, call_of, container_act, obeyed, ends}
use Rattle.mr_world_model.specs.Effect.{run, happens, not_now, node_past_after}
use Rattle.mr_world_model.specs.Sending.{sent}
use Rattle.mr_world_model.specs.Hearing.{heard}
use Rattle.mr_world_model.specs.Duties.{seen, next_seen, duty_of, phase_told, told}
use Rattle.mr_master_refinement.specs.Works.{duty_name}
use Rattle.mr_play.specs.Played.{most_calm, most_of}
use Rattle.mr_play.specs.Rows.{PlayedRows}

pub played_rows_law : PlayedRows
unfolding run happens not_now master_act call_of container_act obeyed ends sent seen node_past_after reply_of reply_to duty_of next_seen told phase_told heard duty_name most_calm most_of
played_rows_law = record { refused = λ job. refl; stops = λ job. refl; absent = λ job. refl; absent_through = λ job. refl; stopped = λ job. refl }
