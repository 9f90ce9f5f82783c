use Rattle.std.proofs.Common.{inl}
use Rattle.mr_out_files.proofs.history.History.told_by.Goals as goal

pub returns : goal.returns
returns c = inl tt
