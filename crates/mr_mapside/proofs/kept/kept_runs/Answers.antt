use Rattle.std.proofs.Common.{◌≡◌, ◌≤◌, ℕ, ◌∙◌, ◌++◌, ◌+◌, List, [], Some, None, length, refl, sym, ap, subst, arith, append-nil}
use Rattle.std.proofs.lemmas.Bool.{eqb-true}
use Rattle.std.specs.List.{AllByRecursion}
use Rattle.mr_user.specs.Computation.{Computation, computation}
use Rattle.mr_user.specs.Faults.{RefusedIf}
use Rattle.mr_user.specs.Sequential.{both, lines_of, pairs_of_lines, pairs_of_split}
use Rattle.mr_user.proofs.Putting.{both_start}
use Rattle.mr_mapside.specs.inner.Kept.{KeptAt, Kept}
use Rattle.mr_user.proofs.Exits.{handed_on, line_short, mapped_none, no_refusal, refused_then, some_left}
use Rattle.mr_mapside.proofs.Keeping.{line_more, no_lines}
use Rattle.mr_mapside.proofs.RunMerging.{at_place}
use Rattle.mr_mapside.proofs.kept.kept_runs.Goals as goal

-- Nothing is kept yet.
kept_none : {K V : Type 0} (job : Computation K V) (reduces : ℕ) (kept : List (List (List ℕ))) (run : List (K × V)) → length kept ≡ reduces → AllByRecursion (λ runs. runs ≡ []) kept → run ≡ [] → Kept job reduces kept run []
kept_none {K} {V} job reduces kept run many empty none = record {
  many = many;
  each = λ r runs at.
      subst (λ (runs : List (List ℕ)). KeptAt job reduces r runs run []) (sym (at_place (λ (runs : List (List ℕ)). runs ≡ []) kept r runs at empty))
      (subst (λ (run : List (K × V)). KeptAt job reduces r [] run []) (sym none) (record { rising = tt; same = λ k. refl }));
}

from_nothing : (n : ℕ) → 0 + n ≤ n
from_nothing n = omega arith

pub loop-rest-init : goal.loop-rest-init
loop-rest-init g c =
    let all = computation g.J.Key.Ord.cmp g.J.Key.Wire.codec g.J.Value.Wire.codec g.J.Job.functions in
    record {
      done = [];
      pairs = both_start (pairs_of_split all c.args.number c.args.split.now);
      kept = kept_none all c.args.reduces c.in_ok-kept.kept.items c.new-run.result.items c.in_ok-kept.ensures.many c.in_ok-kept.ensures.empty c.new-run.ensures.items;
      count = from_nothing (length c.args.split.now);
    }

pub next_line-requires : goal.next_line-requires
next_line-requires g c = some_left (length c.loop-rest.rest.now) (sym c.is_empty.ensures ∙ c.loop-rest-test.true)

pub map-requires : goal.map-requires
map-requires g c =
    line_short (length c.next_line.result.0.now) (length c.loop-rest.rest.now) c.loop-rest.line_no (length c.args.split.now) c.next_line.ensures.line_len c.loop-rest.invariant.count c.requires.short

pub returns-in_err-kept-clause-refused : goal.returns-in_err-kept-clause-refused
returns-in_err-kept-clause-refused g c = no_refusal c.from_residual.result _ c.from_residual.ensures.1

pub returns-in_err-pairs-clause-refused : goal.returns-in_err-pairs-clause-refused
returns-in_err-pairs-clause-refused g c =
    let all = computation g.J.Key.Ord.cmp g.J.Key.Wire.codec g.J.Value.Wire.codec g.J.Job.functions in
    let was = c.loop-rest.invariant in
    let split = pairs_of_split all c.args.number c.args.split.now in
    let rest = pairs_of_lines all c.args.number (c.loop-rest.line_no + 1) (lines_of c.next_line.result.1.now) in
    let line = all.functions.mapped c.args.number c.loop-rest.line_no c.next_line.result.0.now in
    handed_on c.from_residual-in_err-pairs.result c.in_err-pairs.field-0.0 (λ fault. RefusedIf fault (split ≡ None)) c.from_residual-in_err-pairs.ensures.1
    (refused_then c.in_err-pairs.field-0.0
    (λ none. mapped_none split was.done line rest (was.pairs ∙ ap (λ lines. both (Some was.done) (pairs_of_lines all c.args.number c.loop-rest.line_no lines)) c.next_line.ensures.lines) none)
    c.in_err-pairs.ensures.refused)

pub add_pairs-requires-clause-some : goal.add_pairs-requires-clause-some
add_pairs-requires-clause-some g c = c.requires.some

pub add_pairs-requires-clause-many : goal.add_pairs-requires-clause-many
add_pairs-requires-clause-many g c = c.loop-rest.invariant.kept.many

pub returns-in_err-add_pairs-clause-refused : goal.returns-in_err-add_pairs-clause-refused
returns-in_err-add_pairs-clause-refused g c = no_refusal c.from_residual-in_err-add_pairs.result _ c.from_residual-in_err-add_pairs.ensures.1

pub keep_run-requires-clause-some : goal.keep_run-requires-clause-some
keep_run-requires-clause-some g c = c.requires.some

pub keep_run-requires-clause-many : goal.keep_run-requires-clause-many
keep_run-requires-clause-many g c = c.loop-rest.invariant.kept.many

pub returns-in_err-keep_run-clause-refused : goal.returns-in_err-keep_run-clause-refused
returns-in_err-keep_run-clause-refused g c = no_refusal c.from_residual-in_err-keep_run.result _ c.from_residual-in_err-keep_run.ensures.1

pub loop-rest-preserved : goal.loop-rest-preserved
loop-rest-preserved g c =
    let all = computation g.J.Key.Ord.cmp g.J.Key.Wire.codec g.J.Value.Wire.codec g.J.Job.functions in
    let was = c.loop-rest.invariant in
    record {
      done = was.done ++ c.in_ok-pairs.pairs.items;
      pairs = line_more _ was.done c.in_ok-pairs.pairs.items (all.functions.mapped c.args.number c.loop-rest.line_no c.next_line.result.0.now) (pairs_of_lines all c.args.number (c.loop-rest.line_no + 1) (lines_of c.next_line.result.1.now))
          (was.pairs ∙ ap (λ lines. both (Some was.done) (pairs_of_lines all c.args.number c.loop-rest.line_no lines)) c.next_line.ensures.lines) c.in_ok-pairs.ensures.pairs;
      kept = c.in_ok-add_pairs.ensures.kept was.done was.kept;
      count = let less = c.next_line.ensures.rest_len in omega (arith, was.count);
    }

pub returns-clause-pairs : goal.returns-clause-pairs
returns-clause-pairs g c =
    let all = computation g.J.Key.Ord.cmp g.J.Key.Wire.codec g.J.Value.Wire.codec g.J.Job.functions in
    let was = c.loop-rest.invariant in
    let rest = c.loop-rest.rest.now in
    let empty = eqb-true (length rest) 0 (sym c.is_empty.ensures ∙ c.loop-rest-test.false) in
    (was.done, was.pairs ∙ ap (both (Some was.done)) (no_lines all c.args.number c.loop-rest.line_no rest empty) ∙ ap Some (append-nil was.done), c.in_ok-keep_run.ensures.kept was.done was.kept)
