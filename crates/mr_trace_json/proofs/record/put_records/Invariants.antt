use Rattle.std.proofs.Common.{◌≡◌, ◌++◌, take, flat_map}
use Rattle.mr_trace_json.specs.Segments.{record_line}
use Rattle.mr_trace_json.proofs.record.put_records.Given as goal

abbrev pub invariant-loop-record : goal.invariant-loop-record
invariant-loop-record l = l.out.items ≡ l.fn.out.items ++ flat_map record_line (take l.record-index l.records)
