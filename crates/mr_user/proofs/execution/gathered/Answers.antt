use Rattle.std.proofs.Common.{◌≡◌, ◌≤◌, ◌∙◌, ◌++◌, ◌+◌, ℕ, zero, suc, List, [], ◌∷◌, length, Some, None, drop, refl, sym, ap, subst, arith, append-nil}
use Rattle.mr_user.specs.Computation.{Computation, computation}
use Rattle.mr_user.specs.Sequential.{both, pairs_of_split, pairs_of_splits}
use Rattle.mr_user.specs.Faults.{RefusedIf}
use Rattle.mr_user.proofs.Exits.{handed_on, mapped_none, no_refusal, refused_then}
use Rattle.mr_user.proofs.Putting.{both_start, mapped_more, split_next}
use Rattle.mr_user.proofs.execution.gathered.Goals as goal

-- No split is left.
no_splits : {K V : Type 0} (job : Computation K V) (n i : ℕ) (xs : List (List ℕ)) → length xs ≤ i → pairs_of_splits job n (drop i xs) ≡ Some []
no_splits job n zero [] h = refl
no_splits job n zero (x ∷ xs) h = absurd (omega arith)
no_splits job n (suc i) [] h = refl
no_splits job n (suc i) (x ∷ xs) h = no_splits job n i xs (omega arith)

pub loop-split-init : goal.loop-split-init
loop-split-init g c = record {
  number = refl;
  seen = [];
  pairs = both_start _;
  groups = c.in_ok-parts.ensures;
}

pub returns-in_err-parts-clause-refused : goal.returns-in_err-parts-clause-refused
returns-in_err-parts-clause-refused g c = no_refusal c.from_residual.result _ c.from_residual.ensures.1

pub gather_split-requires-clause-short : goal.gather_split-requires-clause-short
gather_split-requires-clause-short g c =
    subst (λ (bytes : List ℕ). length bytes ≤ 16777216) (sym (c.as_slice.ensures ∙ c.split-item.is)) (c.requires.short c.loop-split.split-index c.split-item.result c.loop-split-test.true)

pub gather_split-requires-clause-some : goal.gather_split-requires-clause-some
gather_split-requires-clause-some g c = c.requires.some

pub gather_split-requires-clause-many : goal.gather_split-requires-clause-many
gather_split-requires-clause-many g c = c.loop-split.invariant.groups.count

pub returns-in_err-gather_split-clause-refused : goal.returns-in_err-gather_split-clause-refused
returns-in_err-gather_split-clause-refused g c =
    let all = computation g.J.Key.Ord.cmp g.J.Key.Wire.codec g.J.Value.Wire.codec g.J.Job.functions in
    let was = c.loop-split.invariant in
    let i = c.loop-split.split-index in
    let split = c.split-item.result in
    let whole = pairs_of_splits all 0 c.args.splits.now in
    let rest = pairs_of_splits all (i + 1) (drop (i + 1) c.args.splits.now) in
    handed_on c.from_residual-in_err-gather_split.result c.in_err-gather_split.field-0.0 (λ fault. RefusedIf fault (whole ≡ None)) c.from_residual-in_err-gather_split.ensures.1
    (refused_then c.in_err-gather_split.field-0.0
    (λ none.
    mapped_none whole was.seen (pairs_of_split all i split) rest
    (was.pairs ∙ ap (both (Some was.seen)) (split_next all c.args.splits.now i i split c.loop-split-test.true c.split-item.is))
    (ap (λ n. pairs_of_split all n split) (sym was.number) ∙ ap (pairs_of_split all c.loop-split.number) (sym c.as_slice.ensures) ∙ none))
    c.in_err-gather_split.ensures.refused)

pub loop-split-preserved : goal.loop-split-preserved
loop-split-preserved g c =
    let all = computation g.J.Key.Ord.cmp g.J.Key.Wire.codec g.J.Value.Wire.codec g.J.Job.functions in
    let was = c.loop-split.invariant in
    let i = c.loop-split.split-index in
    let split = c.split-item.result in
    let seen = c.in_ok-gather_split.ensures.gathered in
    let rest = pairs_of_splits all (i + 1) (drop (i + 1) c.args.splits.now) in
    record {
      number = ap (λ n. n + 1) was.number;
      seen = was.seen ++ seen.0;
      pairs = mapped_more _ was.seen seen.0 (pairs_of_split all i split) rest
          (was.pairs ∙ ap (both (Some was.seen)) (split_next all c.args.splits.now i i split c.loop-split-test.true c.split-item.is))
          (ap (λ n. pairs_of_split all n split) (sym was.number) ∙ ap (pairs_of_split all c.loop-split.number) (sym c.as_slice.ensures) ∙ seen.1);
      groups = seen.2 was.seen was.groups;
    }

pub returns-clause-groups : goal.returns-clause-groups
returns-clause-groups g c =
    let all = computation g.J.Key.Ord.cmp g.J.Key.Wire.codec g.J.Value.Wire.codec g.J.Job.functions in
    let was = c.loop-split.invariant in
    let i = c.loop-split.split-index in
    (was.seen, was.pairs ∙ ap (both (Some was.seen)) (no_splits all i i c.args.splits.now c.loop-split-test.false) ∙ ap Some (append-nil was.seen), was.groups)
