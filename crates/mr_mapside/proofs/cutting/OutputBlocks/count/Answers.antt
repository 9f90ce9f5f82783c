use Rattle.std.proofs.Common.{◌∙◌, sym, ap, length}
use Rattle.mr_mapside.proofs.Cuts.{cut_len, whole_is}
use Rattle.mr_mapside.specs.Cutting.{cut}
use Rattle.mr_mapside.proofs.cutting.OutputBlocks.count.Goals as goal

pub returns : goal.returns
returns c =
    let f = c.self.inside in
    sym (cut_len f.count f.bytes.now _ (sym (whole_is (cut f.count f.bytes.now) c.self.invariant))) ∙ ap length c.self.view_is
