use Rattle.std.proofs.Common.{◌≡◌, ◌∙◌, ◌<◌, ◌+◌, ◌++◌, ◌∷◌, [], ℕ, List, length, map, take, get_or, Bor, sym, ap}
use Rattle.std.proofs.lemmas.List.{map_push, take_all, take_more}
use Rattle.mr_jobs.proofs.word.word_texts.Goals as goal

-- The text of one word more.
text_more : (texts now : List (List ℕ)) (text : List ℕ) (words : List (Bor (List ℕ))) (i : ℕ) (d : Bor (List ℕ)) → i < length words →
    texts ≡ map (λ word. word.now) (take i words) → now ≡ texts ++ text ∷ [] → text ≡ (get_or words i d).now → now ≡ map (λ word. word.now) (take (i + 1) words)
text_more texts now text words i d within so_far is one =
    let of : Bor (List ℕ) → List ℕ = λ word. word.now in
    is
    ∙ ap (λ ts. ts ++ text ∷ []) so_far
    ∙ ap (λ t. map of (take i words) ++ t ∷ []) one
    ∙ sym (map_push of (take i words) (get_or words i d))
    ∙ ap (map of) (sym (take_more words i d within))

pub loop-word-init : goal.loop-word-init
loop-word-init c = c.new-texts.ensures.items

pub loop-word-preserved : goal.loop-word-preserved
loop-word-preserved c =
    text_more c.loop-word.texts.items c.push.new.self.items c.in_ok-from_slice.field-0 c.deref-word-items.result.now c.loop-word.word-index _
    c.loop-word-test.true c.loop-word.invariant c.in_ok-push.ensures.items c.in_ok-from_slice.ensures

pub returns : goal.returns
returns c =
    let items = c.deref-word-items.result.now in
    c.loop-word.invariant
    ∙ ap (map (λ (word : Bor (List ℕ)). word.now)) (take_all c.loop-word.word-index items c.loop-word-test.false)
    ∙ ap (map (λ (word : Bor (List ℕ)). word.now)) c.deref-word-items.ensures.value
    ∙ c.in_ok-words.ensures.words
