use Rattle.std.proofs.Common.{◌≡◌, ◌∙◌, ◌++◌, ◌+◌, [], Some, None, length, sym, ap, subst, arith, append-nil, append_assoc}
use Rattle.std.proofs.lemmas.Bool.{eqb-true}
use Rattle.mr_user.specs.Computation.{computation}
use Rattle.mr_user.specs.inner.Gathered.{IsGathered}
use Rattle.mr_user.specs.Faults.{RefusedIf}
use Rattle.mr_user.specs.Sequential.{both, lines_of, pairs_of_lines, pairs_of_split}
use Rattle.mr_user.proofs.Exits.{handed_on, line_short, mapped_none, no_refusal, refused_then, some_left}
use Rattle.mr_user.proofs.Putting.{both_start, mapped_more, no_lines, gathered_none}
use Rattle.mr_user.proofs.gathering.gather_split.Goals as goal

pub loop-rest-init : goal.loop-rest-init
loop-rest-init g c =
    let all = computation g.J.Key.Ord.cmp g.J.Key.Wire.codec g.J.Value.Wire.codec g.J.Job.functions in
    record {
      seen = [];
      pairs = both_start _;
      many = c.requires.many;
      gathered = λ done h. gathered_none all g.met.J.Key.Ord.total g.met.J.Job.laws.same_key c.args.reduces c.args.parts.now.items done h;
      count = omega arith;
    }

pub next_line-requires : goal.next_line-requires
next_line-requires g c = some_left (length c.loop-rest.rest.now) (sym c.is_empty.ensures ∙ c.loop-rest-test.true)

pub map-requires : goal.map-requires
map-requires g c =
    line_short (length c.next_line.result.0.now) (length c.loop-rest.rest.now) c.loop-rest.line_no (length c.args.bytes.now) c.next_line.ensures.line_len c.loop-rest.invariant.count c.requires.short

pub returns-in_err-pairs-clause-refused : goal.returns-in_err-pairs-clause-refused
returns-in_err-pairs-clause-refused g c =
    let all = computation g.J.Key.Ord.cmp g.J.Key.Wire.codec g.J.Value.Wire.codec g.J.Job.functions in
    let was = c.loop-rest.invariant in
    let split = pairs_of_split all c.args.number c.args.bytes.now in
    let rest = pairs_of_lines all c.args.number (c.loop-rest.line_no + 1) (lines_of c.next_line.result.1.now) in
    let line = all.functions.mapped c.args.number c.loop-rest.line_no c.next_line.result.0.now in
    handed_on c.from_residual.result c.in_err-pairs.field-0.0 (λ fault. RefusedIf fault (split ≡ None)) c.from_residual.ensures.1
    (refused_then c.in_err-pairs.field-0.0
    (λ none. mapped_none split was.seen line rest (was.pairs ∙ ap (λ lines. both (Some was.seen) (pairs_of_lines all c.args.number c.loop-rest.line_no lines)) c.next_line.ensures.lines) none)
    c.in_err-pairs.ensures.refused)

pub gather_pairs-requires-clause-some : goal.gather_pairs-requires-clause-some
gather_pairs-requires-clause-some g c = c.requires.some

pub gather_pairs-requires-clause-many : goal.gather_pairs-requires-clause-many
gather_pairs-requires-clause-many g c = c.loop-rest.invariant.many

pub returns-in_err-gather_pairs-clause-refused : goal.returns-in_err-gather_pairs-clause-refused
returns-in_err-gather_pairs-clause-refused g c = no_refusal c.from_residual-in_err-gather_pairs.result _ c.from_residual-in_err-gather_pairs.ensures.1

pub loop-rest-preserved : goal.loop-rest-preserved
loop-rest-preserved g c =
    let all = computation g.J.Key.Ord.cmp g.J.Key.Wire.codec g.J.Value.Wire.codec g.J.Job.functions in
    let was = c.loop-rest.invariant in
    let ps = c.in_ok-pairs.pairs.items in
    record {
      seen = was.seen ++ ps;
      pairs = mapped_more _ was.seen ps (all.functions.mapped c.args.number c.loop-rest.line_no c.next_line.result.0.now) (pairs_of_lines all c.args.number (c.loop-rest.line_no + 1) (lines_of c.next_line.result.1.now))
          (was.pairs ∙ ap (λ lines. both (Some was.seen) (pairs_of_lines all c.args.number c.loop-rest.line_no lines)) c.next_line.ensures.lines) c.in_ok-pairs.ensures.pairs;
      many = c.in_ok-gather_pairs.ensures.many;
      gathered = λ done h. subst (IsGathered all c.args.reduces c.gather_pairs.new.parts.items) (append_assoc done was.seen ps) (c.in_ok-gather_pairs.ensures.gathered (done ++ was.seen) (was.gathered done h));
      count = let less = c.next_line.ensures.rest_len in omega (arith, was.count);
    }

pub returns-clause-gathered : goal.returns-clause-gathered
returns-clause-gathered g c =
    let all = computation g.J.Key.Ord.cmp g.J.Key.Wire.codec g.J.Value.Wire.codec g.J.Job.functions in
    let was = c.loop-rest.invariant in
    let rest = c.loop-rest.rest.now in
    let empty = eqb-true (length rest) 0 (sym c.is_empty.ensures ∙ c.loop-rest-test.false) in
    (was.seen, was.pairs ∙ ap (both (Some was.seen)) (no_lines all c.args.number c.loop-rest.line_no rest empty) ∙ ap Some (append-nil was.seen), was.gathered)
