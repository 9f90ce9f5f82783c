use Rattle.std.proofs.Common.{◌≡◌, ◌∙◌, rules, Some, sym}
use Rattle.std.proofs.lemmas.Bool.{false≢true}
use Rattle.std.proofs.lemmas.Bool.Decides.{Decides-eqb}
use Rattle.std.proofs.lemmas.Result.{IfOk-weaker}
use Rattle.std.proofs.lemmas.Slice.Eq.{slice_eq-Decides}
use Rattle.mr_judge.proofs.Traces.{call_told, fence, told_by_none}
use Rattle.mr_judge.proofs.line.told_of.Goals as goal

pub returns-then-eq : goal.returns-then-eq
returns-then-eq c =
    fence c.args.word.now c.args.rest.now c.raised_in.result ((slice_eq-Decides Decides-eqb c.args.word.now c.as_slice.result.now c.eq.result c.eq.ensures).0 c.if-eq.true ∙ c.as_slice.ensures) c.raised_in.ensures.some c.raised_in.ensures.none

pub returns-in-Some : goal.returns-in-Some
returns-in-Some c =
    IfOk-weaker c.called_in.result _ _
    (λ found h. call_told c.args.word.now c.args.rest.now c.in-Some.app found
    (λ e. false≢true (sym c.if-eq.false ∙ (slice_eq-Decides Decides-eqb c.args.word.now c.as_slice.result.now c.eq.result c.eq.ensures).1 (e ∙ sym c.as_slice.ensures)))
    c.in-Some.ensures.found.0 c.in-Some.ensures.found.1 (λ k g e. let same : Some c.in-Some.app ≡ Some k = c.in-Some.ensures.only k g e in cc) h)
    c.called_in.ensures

pub returns-in-None : goal.returns-in-None
returns-in-None c =
    told_by_none c.args.word.now c.args.rest.now
    (λ e. false≢true (sym c.if-eq.false ∙ (slice_eq-Decides Decides-eqb c.args.word.now c.as_slice.result.now c.eq.result c.eq.ensures).1 (e ∙ sym c.as_slice.ensures)))
    (λ k g e. let same = c.in-None.ensures.only k g e in cc)
