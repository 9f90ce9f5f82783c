use Rattle.std.specs.String.{string_bytes}
use Rattle.mr_out_layout.specs.Layout.{IsPlain}
use Rattle.mr_out_layout.proofs.job.plain_front.Given as goal

abbrev pub invariant-loop-byte : goal.invariant-loop-byte
invariant-loop-byte l = IsPlain (string_bytes l.text)
