use Rattle.std.proofs.Common.{◌≡◌, ◌<◌, ◌-◌, ◌∙◌, length, drop, take, arith, length-drop, sym, subst}
use Rattle.std.proofs.lemmas.Bool.{eqb-true}
use Rattle.std.proofs.lemmas.Grind.{common_steps}
use Rattle.std.proofs.lemmas.List.{take_all}
use Rattle.std.specs.Result.{result_err}
use Rattle.mr_user.specs.Computation.{computation}
use Rattle.mr_shuffle.specs.Part.{pairs_at, pairs_of_piece}
use Rattle.mr_shuffle.specs.inner.Fault.{ReadFaultIs}
use Rattle.mr_shuffle.proofs.Decoding.{on_exit, one_more, no_pair, read_whole}
use Rattle.mr_shuffle.proofs.reading.check_piece.Goals as goal

pub returns-in_err-len-clause-fault : goal.returns-in_err-len-clause-fault
returns-in_err-len-clause-fault g c =
    let job = computation g.J.Key.Ord.cmp g.J.Key.Wire.codec g.J.Value.Wire.codec g.J.Job.functions in
    let all = pairs_of_piece job c.args.piece.now in
    let rest = c.loop-rest.rest.now in
    let some : 0 < length rest = grind (arith, common_steps) in
    on_exit (λ fault. ReadFaultIs fault all) c.from_residual.result c.in_err-len.field-0.0 c.from_residual.ensures.1
    (no_pair job g.met.J.Key.Wire.laws g.met.J.Value.Wire.laws all c.loop-rest.before rest c.in_err-len.field-0.0 c.loop-rest.invariant.fault some c.in_err-len.ensures.fault)

pub loop-rest-preserved : goal.loop-rest-preserved
loop-rest-preserved g c =
    let job = computation g.J.Key.Ord.cmp g.J.Key.Wire.codec g.J.Value.Wire.codec g.J.Job.functions in
    let rest = c.loop-rest.rest.now in
    let len = c.in_ok-len.len in
    let some : 0 < length rest = grind (arith, common_steps) in
    let after = take (length rest - len) (drop len rest) in
    let read = c.in_ok-len.ensures.reads in
    record {
      fault = subst (λ last. result_err (pairs_of_piece job c.args.piece.now) ≡ result_err (pairs_at job (length after) last after)) (sym read.is_last)
          (one_more job g.met.J.Key.Wire.laws g.met.J.Value.Wire.laws _ c.loop-rest.before rest after read.pair len
          c.loop-rest.invariant.fault some read.read read.level (take_all (length rest - len) (drop len rest) (omega (arith, length-drop len rest))));
      named = c.in_ok-len.ensures.named;
    }

pub returns-clause-whole : goal.returns-clause-whole
returns-clause-whole g c =
    let job = computation g.J.Key.Ord.cmp g.J.Key.Wire.codec g.J.Value.Wire.codec g.J.Job.functions in
    read_whole job g.met.J.Key.Wire.laws g.met.J.Value.Wire.laws _ c.loop-rest.before c.loop-rest.rest.now c.loop-rest.invariant.fault (eqb-true (length c.loop-rest.rest.now) 0 (sym c.is_empty.ensures ∙ c.loop-rest-test.false))
