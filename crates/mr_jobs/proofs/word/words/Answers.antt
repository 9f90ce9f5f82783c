use Rattle.std.proofs.Common.{◌≡◌, ◌≤◌, ◌<◌, ℕ, zero, suc, List, [], ◌∷◌, ◌++◌, Bool, true, false, cond, length, get_or, map, Bor, rules, not, ap, ◌∙◌, sym, subst, filter, arith, append-nil}
use borrow.Author.Tests.{tests}
use Rattle.std.specs.List.{AllByRecursion}
use Rattle.std.proofs.lemmas.List.{map_push}
use Rattle.std.proofs.lemmas.List.Elements.{filter-append}
use Rattle.std.proofs.lemmas.Iterator.Consumers.{YieldsList-end, YieldsList-at}
use Rattle.std.proofs.lemmas.Iterator.Splits.{YieldsList-from_slice_split}
use Rattle.mr_user.specs.inner.CodecProofs.{bytes_from_places}
use Rattle.mr_jobs.specs.Words.{is_gap, is_empty, words_of}
use Rattle.mr_jobs.specs.inner.WordsProofs.{IsPart, words_are}
use Rattle.mr_jobs.proofs.word.words.Goals as goal

short_at : (most : ℕ) (words : List (Bor (List ℕ))) (i : ℕ) (d : Bor (List ℕ)) → i < length words → AllByRecursion (IsPart most) (map (λ word. word.now) words) → length (get_or words i d).now ≤ most
short_at most [] i d h a = absurd (omega arith)
short_at most (word ∷ words) zero d h a = a.0.1
short_at most (word ∷ words) (suc i) d h a = short_at most words i d (omega arith) a.1

all_short : (line : List ℕ) (words : List (Bor (List ℕ))) → ((i : ℕ) → get_or line i 0 < 256) → map (λ word. word.now) words ≡ words_of line → (i : ℕ) (d : Bor (List ℕ)) → i < length words → length (get_or words i d).now ≤ length line
all_short line words bytes is i d h = short_at (length line) words i d h (subst (AllByRecursion (IsPart (length line))) (sym is) (words_are line (bytes_from_places line bytes)))

-- A word is kept where it has a byte.
module _ (words : List (List ℕ)) (seen : List (Bor (List ℕ))) (word : Bor (List ℕ)) (so_far : words ≡ filter (λ word. not (is_empty word)) (map (λ word. word.now) seen)) where
  one_more : (empty : Bool) → empty ≡ is_empty word.now → filter (λ word. not (is_empty word)) (map (λ word. word.now) (seen ++ word ∷ [])) ≡ words ++ cond (not empty) (word.now ∷ []) []
  one_more empty is =
      ap (filter (λ word. not (is_empty word))) (map_push (λ (word : Bor (List ℕ)). word.now) seen word)
      ∙ filter-append (λ word. not (is_empty word)) (map (λ (word : Bor (List ℕ)). word.now) seen) (word.now ∷ [])
      ∙ ap (λ kept. kept ++ cond (not (is_empty word.now)) (word.now ∷ []) []) (sym so_far)
      ∙ ap (λ b. words ++ cond (not b) (word.now ∷ []) []) (sym is)

  kept_then : (empty : Bool) → empty ≡ is_empty word.now → empty ≡ false → words ++ word.now ∷ [] ≡ filter (λ word. not (is_empty word)) (map (λ word. word.now) (seen ++ word ∷ []))
  kept_then empty is some = sym (one_more empty is ∙ ap (λ b. words ++ cond (not b) (word.now ∷ []) []) some)

  left_out : (empty : Bool) → empty ≡ is_empty word.now → empty ≡ true → words ≡ filter (λ word. not (is_empty word)) (map (λ word. word.now) (seen ++ word ∷ []))
  left_out empty is none = sym (one_more empty is ∙ ap (λ b. words ++ cond (not b) (word.now ∷ []) []) none ∙ append-nil words)

pub loop-word-preserved-in-Continue-1 : goal.loop-word-preserved-in-Continue-1
loop-word-preserved-in-Continue-1 c =
    ap (map (λ (word : Bor (List ℕ)). word.now)) c.in_ok-push.ensures.items
    ∙ map_push (λ (word : Bor (List ℕ)). word.now) c.loop-word.words.items c.in-Some.word
    ∙ kept_then (map (λ (word : Bor (List ℕ)). word.now) c.loop-word.words.items) c.loop-word.yielded c.in-Some.word c.loop-word.invariant c.is_empty.result c.is_empty.ensures c.if-not-is_empty.true

pub loop-word-preserved : goal.loop-word-preserved
loop-word-preserved c = left_out (map (λ (word : Bor (List ℕ)). word.now) c.loop-word.words.items) c.loop-word.yielded c.in-Some.word c.loop-word.invariant c.is_empty.result c.is_empty.ensures c.if-not-is_empty.false

pub returns : goal.returns
returns c =
    let words =
    c.loop-word.invariant
    ∙ ap (filter (λ word. not (is_empty word)))
    (YieldsList-end
    (YieldsList-at c.into_iter-word-iterator.ensures.into_iter_gives
    (YieldsList-from_slice_split _ is_gap c.args.line.now c.split-word-items.ensures.rest c.split-word-items.ensures.done c.split-word-items.ensures.closure (λ x r q k. search (rules, tests))))
    c.loop-word.yielded c.loop-word.word-iterator c.loop-word.yielded_by c.next.result c.next.new.self c.in-None.is c.next.ensures.steps).0 in
    record { words = words; short = all_short c.args.line.now c.loop-word.words.items (λ i. omega (arith, c.type_inv.line i)) words }
