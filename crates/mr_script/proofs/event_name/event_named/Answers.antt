use Rattle.std.proofs.Common.{◌<◌, ◌∙◌, arith, sym}
use Rattle.std.proofs.lemmas.Bool.{false≢true}
use Rattle.std.proofs.lemmas.Bool.Decides.{Decides-eqb}
use Rattle.std.proofs.lemmas.Slice.Eq.{slice_eq-Decides}
use Rattle.mr_script.proofs.Spellings.{name_placed, name_place, other_name}
use Rattle.mr_script.proofs.event_name.event_named.Goals as goal

pub loop-name-init : goal.loop-name-init
loop-name-init c n below e = absurd (omega arith)

pub loop-name-preserved : goal.loop-name-preserved
loop-name-preserved c n below e = other_name c.loop-name.name-index c.args.word.now c.event_word.result.now _ c.loop-name.invariant c.event_word.ensures
    (λ same. false≢true (sym c.if-eq.false ∙ (slice_eq-Decides Decides-eqb c.args.word.now c.event_word.result.now c.eq.result c.eq.ensures).1 same)) n below e

pub returns-clause-none : goal.returns-clause-none
returns-clause-none c n e =
    let small = name_placed n in
    let all : name_place n < c.loop-name.name-index = omega (arith, c.loop-name-test.false) in
    c.loop-name.invariant n all e
