use Rattle.std.proofs.Common.{◌≡◌, ◌∙◌, sym}
use Rattle.std.proofs.lemmas.Bool.{false≢true}
use Rattle.std.proofs.lemmas.Bool.Decides.{Decides-eqb}
use Rattle.std.proofs.lemmas.Slice.Eq.{slice_eq-Decides}
use Rattle.mr_history.specs.Line.{version_line}
use Rattle.mr_history.proofs.Replays.{no_lines, has_head, no_head}
use Rattle.mr_history.proofs.reading.split_head.Goals as goal

pub returns-in_default-clause-version : goal.returns-in_default-clause-version
returns-in_default-clause-version c = no_lines c.args.bytes.now c.in_default.ensures.none

pub returns-then-eq-clause-version : goal.returns-then-eq-clause-version
returns-then-eq-clause-version c =
    let is : c.in-Some.line.now ≡ version_line = (slice_eq-Decides Decides-eqb c.in-Some.line.now c.as_bytes.result.now c.eq.result c.eq.ensures).0 c.if-eq.true ∙ c.as_bytes.ensures.value in
    (has_head c.args.bytes.now c.in-Some.line.now c.in-Some.after.now c.in-Some.ensures.some.1 is).0

pub returns-else-eq-clause-version : goal.returns-else-eq-clause-version
returns-else-eq-clause-version c =
    no_head c.args.bytes.now c.in-Some.line.now c.in-Some.after.now c.in-Some.ensures.some.0 c.in-Some.ensures.some.1
    (λ is. let equal = (slice_eq-Decides Decides-eqb c.in-Some.line.now c.as_bytes.result.now c.eq.result c.eq.ensures).1 (is ∙ sym c.as_bytes.ensures.value) in false≢true (sym c.if-eq.false ∙ equal))
