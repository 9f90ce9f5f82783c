use Rattle.std.proofs.Common.{◌≡◌, drop}
use Rattle.mr_recover_plan.proofs.Histories.{HasRead}
use Rattle.mr_recover_plan.proofs.plan.records_in.Given as goal

abbrev pub invariant-loop-bytes : goal.invariant-loop-bytes
invariant-loop-bytes l = record {
  number : l.before ≡ l.bytes-index;
  read : HasRead l.segments (drop l.bytes-index l.segments) l.bytes-index l.latest l.records;
}
