use Rattle.std.proofs.Common.{◌≡◌, rules, sym, ◌∙◌}
use Rattle.std.proofs.lemmas.Result.{IfOk-weaker}
use Rattle.mr_call_words.specs.declared.opening.Opening.TheVariants as opening
use Rattle.mr_call_words.proofs.Found.{listing}
use Rattle.mr_call_words.proofs.answer.answer_of_rest.Goals as goal

pub returns-then-eq-clause-only : goal.returns-then-eq-clause-only
returns-then-eq-clause-only c =
    let same : c.args.opening ≡ opening.Entries = search rules in
    IfOk-weaker c.listed.result _ _ (λ found h told ok o e. listing found c.args.rest.now told ok (sym same ∙ o) e h) c.listed.ensures.only
