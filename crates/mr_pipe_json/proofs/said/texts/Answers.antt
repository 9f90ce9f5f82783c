use Rattle.std.proofs.Common.{◌≡◌, ℕ, List, [], ◌∷◌, ◌++◌, map, Bor, rules, ap, ◌∙◌, sym}
use borrow.Author.Tests.{tests}
use Rattle.std.proofs.lemmas.List.{map_push}
use Rattle.std.proofs.lemmas.Iterator.Consumers.{YieldsList-end, YieldsList-at}
use Rattle.std.proofs.lemmas.Iterator.Splits.{YieldsList-from_slice_split}
use Rattle.serde_json.specs.Data.{Data}
use Rattle.serde_json.specs.View.{view}
use Rattle.serde_json.specs.declared.value.Value.{Value}
use Rattle.mr_sim_json.specs.Members.{text}
use Rattle.mr_pipe_json.specs.Form.{is_space}
use Rattle.mr_pipe_json.proofs.said.texts.Goals as goal

-- One word more.
one_more : (all more : List Value) (seen : List (Bor (List ℕ))) (word : Bor (List ℕ)) (value : Value) → more ≡ all ++ value ∷ [] → map view all ≡ map text (map (λ word. word.now) seen) → view value ≡ text word.now →
    map view more ≡ map text (map (λ word. word.now) (seen ++ word ∷ []))
one_more all more seen word value put so_far is =
    ap (map view) put
    ∙ map_push view all value
    ∙ ap (λ ws. ws ++ view value ∷ []) so_far
    ∙ ap (λ d. map text (map (λ (word : Bor (List ℕ)). word.now) seen) ++ d ∷ []) is
    ∙ sym (map_push text (map (λ (word : Bor (List ℕ)). word.now) seen) word.now)
    ∙ ap (map text) (sym (map_push (λ (word : Bor (List ℕ)). word.now) seen word))

pub loop-word-preserved : goal.loop-word-preserved
loop-word-preserved c = one_more c.loop-word.all.items c.push.new.self.items c.loop-word.yielded c.in-Some.word c.in_ok-text_value.field-0 c.in_ok-push.ensures.items c.loop-word.invariant c.in_ok-text_value.ensures

pub returns : goal.returns
returns c =
    c.loop-word.invariant
    ∙ ap (map text)
    (YieldsList-end
    (YieldsList-at c.into_iter-word-iterator.ensures.into_iter_gives
    (YieldsList-from_slice_split _ is_space c.args.rest.now c.split-word-items.ensures.rest c.split-word-items.ensures.done c.split-word-items.ensures.closure (λ x r q k. search (rules, tests))))
    c.loop-word.yielded c.loop-word.word-iterator c.loop-word.yielded_by c.next.result c.next.new.self c.in-None.is c.next.ensures.steps).0
