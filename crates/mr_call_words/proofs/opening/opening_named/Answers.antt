use Rattle.std.proofs.Common.{◌<◌, ◌∙◌, arith, sym}
use Rattle.std.proofs.lemmas.Bool.{false≢true}
use Rattle.std.proofs.lemmas.Bool.Decides.{Decides-eqb}
use Rattle.std.proofs.lemmas.Slice.Eq.{slice_eq-Decides}
use Rattle.mr_call_words.proofs.Openings.{placed, place_of, other_place}
use Rattle.mr_call_words.proofs.opening.opening_named.Goals as goal

pub loop-opening-init : goal.loop-opening-init
loop-opening-init c o below e = absurd (omega arith)

pub loop-opening-preserved : goal.loop-opening-preserved
loop-opening-preserved c o below e = other_place c.loop-opening.opening-index c.args.word.now c.opening_text.result.now _ c.loop-opening.invariant c.opening_text.ensures
    (λ same. false≢true (sym c.if-eq.false ∙ (slice_eq-Decides Decides-eqb c.args.word.now c.opening_text.result.now c.eq.result c.eq.ensures).1 same)) o below e

pub returns : goal.returns
returns c o e =
    let small = placed o in
    let all : place_of o < c.loop-opening.opening-index = omega (arith, c.loop-opening-test.false) in
    absurd (c.loop-opening.invariant o all e)
