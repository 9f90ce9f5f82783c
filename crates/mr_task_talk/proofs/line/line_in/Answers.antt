use Rattle.std.proofs.Common.{◌∙◌, sym, Some}
use Rattle.std.proofs.lemmas.Bool.{false≢true}
use Rattle.std.proofs.lemmas.Bool.Decides.{Decides-eqb}
use Rattle.std.proofs.lemmas.Slice.Eq.{slice_eq-Decides}
use Rattle.mr_task_talk.proofs.Lines.{is_launch, is_of, no_attempt, no_verb, no_word}
use Rattle.mr_task_talk.proofs.line.line_in.Goals as goal

pub returns-then-eq-clause-some : goal.returns-then-eq-clause-some
returns-then-eq-clause-some c =
    is_launch c.args.line.now ((slice_eq-Decides Decides-eqb c.args.line.now c.as_slice.result.now c.eq.result c.eq.ensures).0 c.if-eq.true ∙ c.as_slice.ensures)

pub returns-in-None-clause-none : goal.returns-in-None-clause-none
returns-in-None-clause-none c =
    no_word c.args.line.now
    (λ e. false≢true (sym c.if-eq.false ∙ (slice_eq-Decides Decides-eqb c.args.line.now c.as_slice.result.now c.eq.result c.eq.ensures).1 (e ∙ sym c.as_slice.ensures)))
    c.in-None.ensures.none.1

pub returns-in-None-verb_named-clause-none : goal.returns-in-None-verb_named-clause-none
returns-in-None-verb_named-clause-none c =
    no_verb c.args.line.now c.in-Some.word.now
    (λ e. false≢true (sym c.if-eq.false ∙ (slice_eq-Decides Decides-eqb c.args.line.now c.as_slice.result.now c.eq.result c.eq.ensures).1 (e ∙ sym c.as_slice.ensures)))
    c.in-Some.ensures.some.0 c.in-None-verb_named.ensures.none

pub returns-in-None-attempt-clause-none : goal.returns-in-None-attempt-clause-none
returns-in-None-attempt-clause-none c =
    no_attempt c.args.line.now c.in-Some.rest.now
    (λ e. false≢true (sym c.if-eq.false ∙ (slice_eq-Decides Decides-eqb c.args.line.now c.as_slice.result.now c.eq.result c.eq.ensures).1 (e ∙ sym c.as_slice.ensures)))
    c.in-Some.ensures.some.1
    (λ a h e. let same = c.in-None-attempt.ensures.only a h e in absurd (cc))
