use Rattle.std.proofs.Common.{◌≡◌, rules}
use Rattle.std.specs.Bool.{Decides}
use Rattle.std.proofs.lemmas.Bool.Decides.{Decides-eqb}
use Rattle.std.proofs.lemmas.Slice.Eq.{slice_eq-Decides}
use Rattle.mr_history.proofs.Comparing.{bytes_tell}
use Rattle.mr_history.proofs.segment.Segment.is_same.Goals as goal

pub returns : goal.returns
returns c =
    let s = c.self.inside in
    let t = c.other.inside in
    let version : s.version ≡ t.version = search rules in
    let mark : s.mark ≡ t.mark = search rules in
    let seal : s.sealed ≡ t.sealed = search rules in
    let told = slice_eq-Decides Decides-eqb c.as_slice-bytes.result.now c.as_slice-beside.result.now c.eq.result c.eq.ensures in
    let same : Decides c.eq.result (s.bytes.items ≡ t.bytes.items) = rw (c.as_slice-bytes.ensures.value, c.as_slice-beside.ensures.value) at told in
    bytes_tell s.version t.version s.mark t.mark s.sealed t.sealed s.bytes.items t.bytes.items c.args.self.now c.args.other.now c.eq.result version mark seal c.self.view_is c.other.view_is same
