use Rattle.std.proofs.Common.{inl}
use Rattle.mr_out_layout.proofs.recorded.read_segment.Goals as goal

pub returns-clause-failed : goal.returns-clause-failed
returns-clause-failed c = inl tt
