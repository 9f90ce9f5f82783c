use Rattle.std.proofs.Common.{◌≡◌, ◌++◌, map, string_bytes}
use Rattle.mr_sim_commands.proofs.job.Keys.{idle_among}
use Rattle.mr_sim_commands.specs.job.IdleKeys.{idle_keys}
use Rattle.serde_json.specs.View.{view}
use Rattle.mr_sim_commands.proofs.job.idle_keys.idle_keys_in.Given as goal

-- those that were found, and those among the keys that are left, are all
abbrev pub invariant-loop-key : goal.invariant-loop-key
invariant-loop-key l = map string_bytes l.keys.items ++ idle_among l.key-iterator ≡ idle_keys (view l.value)
