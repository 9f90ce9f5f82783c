use Rattle.std.proofs.Common.{codes, ◌∙◌}
use Rattle.std.specs.String.{string_bytes}
use Rattle.mr_out_disk.specs.declared.place.Place.TheVariants.{Work}
use Rattle.mr_out_layout.specs.Layout.{path_of}
use Rattle.mr_out_files.specs.Troubles.{IsRemoveTrouble}
use Rattle.mr_out_files.proofs.Troubled.{handed_on, looked_remove}
use Rattle.mr_out_files.proofs.directory.Directory.remove_work.Goals as goal

pub returns-in_err-look-clause-failed : goal.returns-in_err-look-clause-failed
returns-in_err-look-clause-failed c =
    handed_on (IsRemoveTrouble (path_of (string_bytes c.args.self.now.job.suffix) (Work c.args.a)) (Work c.args.a)) c.from_residual-in_err-look.result c.in_err-look.field-0.0 c.from_residual-in_err-look.ensures.1
    (looked_remove (codes "look") c.deref.result.now (path_of (string_bytes c.args.self.now.job.suffix) (Work c.args.a)) (Work c.args.a) c.in_err-look.field-0.0 (c.deref.ensures ∙ c.in_ok-path.ensures.path) c.in_err-look.ensures.failed)
