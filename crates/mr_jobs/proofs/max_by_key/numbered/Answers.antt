use Rattle.std.proofs.Common.{◌≡◌, ◌∙◌, ◌<◌, ◌≤◌, ℕ, List, [], ◌∷◌, Bor, Some, length, get_or, map, sym, ap, arith}
use Rattle.std.proofs.lemmas.Result.{IfOk-weaker, IfErr-weaker}
use Rattle.mr_user.proofs.Exits.{refused_then}
use Rattle.mr_jobs.specs.MaxByKey.{numbered}
use Rattle.mr_jobs.proofs.max_by_key.numbered.Goals as goal

-- A line of no words gives nothing.
no_words : (words : List (Bor (List ℕ))) (of_line : List (List ℕ)) (pairs : List (List ℕ × ℕ)) → map (λ word. word.now) words ≡ of_line → length words < 1 → pairs ≡ [] → numbered of_line ≡ Some pairs
no_words [] of_line pairs are few none = ap numbered (sym are) ∙ ap Some (sym none)
no_words (word ∷ words) of_line pairs are few none = absurd (omega arith)

-- A line of two words is these.
two_words : (words : List (Bor (List ℕ))) (d : Bor (List ℕ)) (of_line : List (List ℕ)) → map (λ word. word.now) words ≡ of_line → 2 ≤ length words → length words < 3 → of_line ≡ (get_or words 0 d).now ∷ (get_or words 1 d).now ∷ []
two_words [] d of_line are some few = absurd (omega arith)
two_words (key ∷ []) d of_line are some few = absurd (omega arith)
two_words (key ∷ number ∷ []) d of_line are some few = sym are
two_words (key ∷ number ∷ third ∷ words) d of_line are some few = absurd (omega arith)

pub returns-in-empty-clause-pairs : goal.returns-in-empty-clause-pairs
returns-in-empty-clause-pairs c =
    no_words c.as_slice.result.now _ c.new.result.items (ap (map (λ (word : Bor (List ℕ)). word.now)) c.as_slice.ensures.value ∙ c.in_ok-words.ensures.words) c.in-empty.len_below c.new.ensures.items

pub returns-in-len2-clause-pairs : goal.returns-in-len2-clause-pairs
returns-in-len2-clause-pairs c =
    let none : Bor (List ℕ) = record { ref_ptr = (0, 0); now = [] } in
    let all = ap (map (λ (word : Bor (List ℕ)). word.now)) c.as_slice.ensures.value ∙ c.in_ok-words.ensures.words in
    let two = two_words c.as_slice.result.now none _ all c.in-len2.len_at_least c.in-len2.len_below in
    IfOk-weaker c.pair.result _ _ (λ pairs h. ap numbered two ∙ h) c.pair.ensures.pairs

pub returns-in-len2-clause-refused : goal.returns-in-len2-clause-refused
returns-in-len2-clause-refused c =
    let none : Bor (List ℕ) = record { ref_ptr = (0, 0); now = [] } in
    let all = ap (map (λ (word : Bor (List ℕ)). word.now)) c.as_slice.ensures.value ∙ c.in_ok-words.ensures.words in
    let two = two_words c.as_slice.result.now none _ all c.in-len2.len_at_least c.in-len2.len_below in
    IfErr-weaker c.pair.result _ _ (λ fault h. refused_then fault (λ refused. ap numbered two ∙ refused) h) c.pair.ensures.refused
