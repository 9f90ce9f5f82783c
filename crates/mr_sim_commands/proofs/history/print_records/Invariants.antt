use Rattle.std.proofs.Common.{◌≡◌, ◌++◌, take, flat_map}
use Rattle.mr_sim_commands.specs.history.Text.{record_line}
use Rattle.mr_sim_commands.proofs.history.print_records.Given as goal

abbrev pub invariant-loop-record : goal.invariant-loop-record
invariant-loop-record l = l.out.items ≡ l.fn.out.items ++ flat_map record_line (take l.record-index l.records)
