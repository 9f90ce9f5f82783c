use Rattle.std.proofs.Common.{◌≡◌, take}
use Rattle.mr_user.specs.Computation.{computation}
use Rattle.mr_user.specs.Laws.{PairsFit}
use Rattle.mr_mapside.specs.Block.{spelled}
use Rattle.mr_mapside.proofs.kept.encoded.Given as goal

abbrev pub invariant-loop-key : goal.invariant-loop-key
invariant-loop-key g l =
    let all = computation g.J.Key.Ord.cmp g.J.Key.Wire.codec g.J.Value.Wire.codec g.J.Job.functions in
    record {
      bytes : l.bytes.items ≡ spelled all (take l.key-index l.pairs);
      fit : PairsFit all (take l.key-index l.pairs);
    }
