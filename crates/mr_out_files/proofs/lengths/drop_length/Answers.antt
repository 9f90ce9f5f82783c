use Rattle.std.proofs.Common.{◌∙◌}
use Rattle.mr_out_files.proofs.Troubled.{removed_length}
use Rattle.mr_out_files.proofs.lengths.drop_length.Goals as goal

pub returns-in_ok-length_path-in-Some : goal.returns-in_ok-length_path-in-Some
returns-in_ok-length_path-in-Some c = removed_length c.args.a c.in-Some.told.len c.deref.result.now c.remove.result (c.deref.ensures ∙ c.in_ok-length_path-in-Some.ensures) c.remove.ensures
