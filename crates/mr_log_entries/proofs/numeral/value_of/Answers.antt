use Rattle.std.proofs.Common.{◌≡◌, [], ◌++◌, List, ℕ, ap, ◌∙◌, subst, arith, append-nil, map, Some, ◌+◌, ◌*◌}
use Rattle.std.proofs.lemmas.List.{nil_from_length}
use Rattle.std.specs.Int.Digits.{number_from_digits}
use Rattle.mr_log_entries.specs.Numerals.{digit_byte}
use Rattle.mr_log_entries.proofs.Digits.{Read, Left, read_more, next_left, none_left}
use Rattle.mr_log_entries.proofs.numeral.value_of.Goals as goal

pub returns-in_err-value-clause-only : goal.returns-in_err-value-clause-only
returns-in_err-value-clause-only c ds below is fits =
    let left = c.loop-byte.invariant.left ds below is fits in
    let next = next_left c.args.base c.in-Some.byte.now c.in-Some.others.now c.loop-byte.value (number_from_digits c.args.base ds) c.requires.low
    (subst (λ (l : List ℕ). Left c.args.base l c.loop-byte.value (number_from_digits c.args.base ds)) c.in-Some.ensures.cases.0 left) in
    let small = next.small in
    let read = c.in_err-value.ensures.only next.digit next.less next.is (omega arith) in
    absurd (cc)

pub loop-byte-preserved : goal.loop-byte-preserved
loop-byte-preserved c = record {
  small = c.in_ok-value.ensures.found.0;
  read = let found = c.in_ok-value.ensures.found in
      read_more c.args.base c.args.bytes.now c.in-Some.others.now c.in-Some.byte.now c.loop-byte.value c.in_ok-value.value found.1
      (subst (λ (l : List ℕ). Read c.args.base c.args.bytes.now l c.loop-byte.value) c.in-Some.ensures.cases.0 c.loop-byte.invariant.read) found.2 found.3 found.4;
  left = λ ds below is fits.
      let left = c.loop-byte.invariant.left ds below is fits in
      let next = next_left c.args.base c.in-Some.byte.now c.in-Some.others.now c.loop-byte.value (number_from_digits c.args.base ds) c.requires.low
      (subst (λ (l : List ℕ). Left c.args.base l c.loop-byte.value (number_from_digits c.args.base ds)) c.in-Some.ensures.cases.0 left) in
      let small = next.small in
      let read = c.in_ok-value.ensures.only next.digit next.less next.is (omega arith) in
      let same : c.loop-byte.value * c.args.base + next.digit ≡ c.in_ok-value.value = cc in
      subst (λ (n : ℕ). Left c.args.base c.in-Some.others.now n (number_from_digits c.args.base ds)) same next.left;
}

pub returns-clause-found : goal.returns-clause-found
returns-clause-found c =
    let r = c.loop-byte.invariant.read in
    let none : c.loop-byte.rest.now ≡ [] = nil_from_length c.loop-byte.rest.now c.in_default.ensures.cases in
    (c.loop-byte.invariant.small, r.digits, r.is ∙ ap (λ (l : List ℕ). map digit_byte r.digits ++ l) none ∙ append-nil (map digit_byte r.digits), r.below, r.number)

pub returns-clause-only : goal.returns-clause-only
returns-clause-only c ds below is fits =
    let none : c.loop-byte.rest.now ≡ [] = nil_from_length c.loop-byte.rest.now c.in_default.ensures.cases in
    let left = subst (λ (l : List ℕ). Left c.args.base l c.loop-byte.value (number_from_digits c.args.base ds)) none (c.loop-byte.invariant.left ds below is fits) in
    ap Some (none_left c.args.base c.loop-byte.value (number_from_digits c.args.base ds) left)
