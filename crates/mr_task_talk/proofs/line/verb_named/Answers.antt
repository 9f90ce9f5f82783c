use Rattle.std.proofs.Common.{◌<◌, ◌∙◌, arith, sym}
use Rattle.std.proofs.lemmas.Bool.{false≢true}
use Rattle.std.proofs.lemmas.Bool.Decides.{Decides-eqb}
use Rattle.std.proofs.lemmas.Slice.Eq.{slice_eq-Decides}
use Rattle.mr_task_talk.proofs.Verbs.{placed, place_of, other_place}
use Rattle.mr_task_talk.proofs.line.verb_named.Goals as goal

pub loop-verb-init : goal.loop-verb-init
loop-verb-init c v below e = absurd (omega arith)

pub loop-verb-preserved : goal.loop-verb-preserved
loop-verb-preserved c v below e = other_place c.loop-verb.verb-index c.args.word.now c.verb_word.result.now _ c.loop-verb.invariant c.verb_word.ensures
    (λ same. false≢true (sym c.if-eq.false ∙ (slice_eq-Decides Decides-eqb c.args.word.now c.verb_word.result.now c.eq.result c.eq.ensures).1 same)) v below e

pub returns-clause-none : goal.returns-clause-none
returns-clause-none c v e =
    let small = placed v in
    let all : place_of v < c.loop-verb.verb-index = omega (arith, c.loop-verb-test.false) in
    c.loop-verb.invariant v all e
