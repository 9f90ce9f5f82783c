use Rattle.std.proofs.Common.{sym, subst}
use Rattle.mr_user.specs.Computation.{computation}
use Rattle.mr_mapside.proofs.RunFronts.{at_some}
use Rattle.mr_mapside.proofs.RunReading.{named_some, pair_some}
use Rattle.mr_shuffle.specs.inner.Reading.{ReadsPair}
use Rattle.mr_shuffle.proofs.Decoding.{same_again}
use Rattle.mr_shuffle.proofs.reading.repeated_len.Goals as goal

pub returns-in-Some-2-clause-within : goal.returns-in-Some-2-clause-within
returns-in-Some-2-clause-within g c =
    let job = computation g.J.Key.Ord.cmp g.J.Key.Wire.codec g.J.Value.Wire.codec g.J.Job.functions in
    let found = c.in_ok-read_value-in-Some.field-0 in
    let read = named_some job g.met.J.Key.Wire.laws g.met.J.Value.Wire.laws c.in-Some.key c.args.name.now c.args.bytes.now found (c.in-Some-2._value, c.in-Some-2.len) c.in-Some-2.is c.in_ok-read_value-in-Some.ensures.pair in (
      pair_some job g.met.J.Key.Wire.laws g.met.J.Value.Wire.laws c.args.bytes.now ((c.in-Some.key, c.in-Some-2._value), c.in-Some-2.len) read,
      at_some found _ (c.in-Some-2._value, c.in-Some-2.len) c.in-Some-2.is c.in_ok-read_value-in-Some.ensures.within,
    )

pub returns-in-Some-2-clause-reads : goal.returns-in-Some-2-clause-reads
returns-in-Some-2-clause-reads g c =
    let job = computation g.J.Key.Ord.cmp g.J.Key.Wire.codec g.J.Value.Wire.codec g.J.Job.functions in
    let key = c.in-Some.key in
    let read = named_some job g.met.J.Key.Wire.laws g.met.J.Value.Wire.laws key c.args.name.now c.args.bytes.now c.in_ok-read_value-in-Some.field-0 (c.in-Some-2._value, c.in-Some-2.len) c.in-Some-2.is c.in_ok-read_value-in-Some.ensures.pair in
    subst (λ before. ReadsPair job before c.args.bytes.now c.in-Some-2.len before) (sym c.in-Some.is)
    (same_again job g.met.J.Key.Wire.laws g.met.J.Value.Wire.laws g.met.J.Key.Ord.total key c.in-Some-2._value c.args.bytes.now c.in-Some-2.len read)
