use Rattle.std.proofs.Common.{◌≡◌, ◌++◌, ◌∷◌, [], rules, All, IfSome, get_or, sym, ap, subst, ◌∙◌, append_assoc}
use Rattle.std.proofs.lemmas.List.Elements.{All-push}
use Rattle.mr_call_words.specs.Words.{IsEntry}
use Rattle.mr_call_words.proofs.Found.{entry_step}
use Rattle.mr_call_words.proofs.answer.listed.Goals as goal

pub returns-in-None-clause-only : goal.returns-in-None-clause-only
returns-in-None-clause-only c entries all e =
    let word = c.as_slice.result.now in
    let is : word ≡ get_or c.args.words.now c.loop-word.word-index word = search rules in
    let kept = c.loop-word.invariant.only entries all e in
    let one = entry_step c.args.words.now c.loop-word.word-index word kept.0 c.loop-word-test.true is kept.2 kept.3 in
    let found = sym c.in-None.is ∙ c.in_ok-entry.ensures.only one.0 one.4 one.3 in
    absurd (cc)

pub loop-word-preserved : goal.loop-word-preserved
loop-word-preserved c =
    let word = c.as_slice.result.now in
    let is : word ≡ get_or c.args.words.now c.loop-word.word-index word = search rules in
    let es = c.loop-word.entries in
    record {
      fits = subst (λ l. All IsEntry l) (sym c.in_ok-push-in-Some.ensures.ok) (All-push IsEntry es c.in-Some.entry c.loop-word.invariant.fits (subst (λ o. IfSome o IsEntry) c.in-Some.is c.in_ok-entry.ensures.fits));
      only = λ entries all e.
          let kept = c.loop-word.invariant.only entries all e in
          let one = entry_step c.args.words.now c.loop-word.word-index word kept.0 c.loop-word-test.true is kept.2 kept.3 in
          let found = sym c.in-Some.is ∙ c.in_ok-entry.ensures.only one.0 one.4 one.3 in
          let same : c.in-Some.entry ≡ one.0 = cc in
          let whole = kept.1 ∙ ap (λ l. es ++ l) one.2 ∙ sym (append_assoc es (one.0 ∷ []) one.1) ∙ ap (λ x. (es ++ x ∷ []) ++ one.1) (sym same) ∙ ap (λ l. l ++ one.1) (sym c.in_ok-push-in-Some.ensures.ok) in
          (one.1, whole, one.5, one.6);
    }
