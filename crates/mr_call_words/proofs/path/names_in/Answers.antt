use Rattle.std.proofs.Common.{◌≡◌, ℕ, List, [], ◌∷◌, ◌++◌, length, Bor, Some, rules, ap, ◌∙◌, sym, subst}
use borrow.Author.Tests.{tests}
use Rattle.std.proofs.lemmas.Bool.{false≢true}
use Rattle.std.proofs.lemmas.List.{map_push}
use Rattle.std.proofs.lemmas.Iterator.Consumers.{YieldsList-end, YieldsList-at, YieldsList-turn}
use Rattle.std.proofs.lemmas.Iterator.Splits.{YieldsList-from_slice_split}
use Rattle.std.specs.List.{slice_split}
use Rattle.mr_paths.specs.Text.{is_slash}
use Rattle.mr_paths.proofs.TextReading.{part_is_name}
use Rattle.mr_call_words.specs.Words.{IsPath}
use Rattle.mr_call_words.proofs.Sayable.{name_more}
use Rattle.mr_call_words.proofs.path.names_in.Goals as goal

pub returns-then-not-is_name-clause-only : goal.returns-then-not-is_name-clause-only
returns-then-not-is_name-clause-only c all =
    let turn =
    YieldsList-turn
    (YieldsList-at c.into_iter-name-iterator.ensures.into_iter_gives
    (YieldsList-from_slice_split _ is_slash c.args.text.now c.split-name-items.ensures.rest c.split-name-items.ensures.done c.split-name-items.ensures.closure (λ x r q k. search (rules, tests))))
    c.loop-name.yielded _ c.loop-name.yielded_by _ _ c.in-Some.name c.in-Some.is c.next.ensures.steps in
    absurd (false≢true (sym c.if-not-is_name.true ∙ c.is_name.ensures.1 (part_is_name (slice_split is_slash c.args.text.now) all c.in-Some.name.now (length c.loop-name.yielded) turn.0 turn.1)))

pub loop-name-preserved : goal.loop-name-preserved
loop-name-preserved c =
    let more : c.push.new.self ≡ c.loop-name.path ++ c.in-Some.name.now ∷ [] = c.in_ok-push.ensures.ok ∙ ap (λ n. c.loop-name.path ++ n ∷ []) c.in_ok-new.ensures in
    record {
      parts = more ∙ ap (λ p. p ++ c.in-Some.name.now ∷ []) c.loop-name.invariant.parts ∙ sym (map_push (λ (name : Bor (List ℕ)). name.now) c.loop-name.yielded c.in-Some.name);
      fits = subst IsPath (sym more) (name_more c.loop-name.path c.in-Some.name.now c.loop-name.invariant.fits (c.is_name.ensures.0 c.if-not-is_name.false) c.fits.ensures);
    }

pub returns-clause-only : goal.returns-clause-only
returns-clause-only c all =
    ap Some
    (c.loop-name.invariant.parts
    ∙ (YieldsList-end
    (YieldsList-at c.into_iter-name-iterator.ensures.into_iter_gives
    (YieldsList-from_slice_split _ is_slash c.args.text.now c.split-name-items.ensures.rest c.split-name-items.ensures.done c.split-name-items.ensures.closure (λ x r q k. search (rules, tests))))
    c.loop-name.yielded c.loop-name.name-iterator c.loop-name.yielded_by c.next.result c.next.new.self c.in-None.is c.next.ensures.steps).0)
