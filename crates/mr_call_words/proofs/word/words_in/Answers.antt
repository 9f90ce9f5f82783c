use Rattle.std.proofs.Common.{◌≡◌, ℕ, List, [], ◌∷◌, ◌++◌, map, Bor, rules, ap, ◌∙◌, sym}
use borrow.Author.Tests.{tests}
use Rattle.std.proofs.lemmas.List.{map_push}
use Rattle.std.proofs.lemmas.Iterator.Consumers.{YieldsList-end, YieldsList-at}
use Rattle.std.proofs.lemmas.Iterator.Splits.{YieldsList-from_slice_split}
use Rattle.percent_encoding.specs.Percent.{percent_decode}
use Rattle.mr_call_words.specs.inner.Splits.{is_space}
use Rattle.mr_call_words.proofs.word.words_in.Goals as goal

-- One word more.
one_more : (words : List (List ℕ)) (seen : List (Bor (List ℕ))) (word : Bor (List ℕ)) (bytes : List ℕ) → words ≡ map percent_decode (map (λ word. word.now) seen) → bytes ≡ percent_decode word.now →
    words ++ bytes ∷ [] ≡ map percent_decode (map (λ word. word.now) (seen ++ word ∷ []))
one_more words seen word bytes so_far is =
    ap (λ ws. ws ++ bytes ∷ []) so_far
    ∙ ap (λ b. map percent_decode (map (λ (word : Bor (List ℕ)). word.now) seen) ++ b ∷ []) is
    ∙ sym (map_push percent_decode (map (λ (word : Bor (List ℕ)). word.now) seen) word.now)
    ∙ ap (map percent_decode) (sym (map_push (λ (word : Bor (List ℕ)). word.now) seen word))

pub loop-word-preserved : goal.loop-word-preserved
loop-word-preserved c =
    c.in_ok-push.ensures.items
    ∙ one_more c.loop-word.words.items c.loop-word.yielded c.in-Some.word c.in_ok-decoded.field-0 c.loop-word.invariant c.in_ok-decoded.ensures

pub returns : goal.returns
returns c =
    c.loop-word.invariant
    ∙ ap (map percent_decode)
    (YieldsList-end
    (YieldsList-at c.into_iter-word-iterator.ensures.into_iter_gives
    (YieldsList-from_slice_split _ is_space c.args.line.now c.split-word-items.ensures.rest c.split-word-items.ensures.done c.split-word-items.ensures.closure (λ x r q k. search (rules, tests))))
    c.loop-word.yielded c.loop-word.word-iterator c.loop-word.yielded_by c.next.result c.next.new.self c.in-None.is c.next.ensures.steps).0
