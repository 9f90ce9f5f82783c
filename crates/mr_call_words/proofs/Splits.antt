-- A line is cut at its spaces, and each word of it stands for the bytes that it was written for.
use Rattle.std.proofs.Common.{◌≡◌, ℕ, Bool, true, false, List, [], ◌∷◌, ◌&&◌, map, All, refl, sym, ap, ◌∙◌, arith, append-nil, nat_lt}
use Rattle.std.specs.List.{list_all, slice_split}
use Rattle.std.proofs.lemmas.Bool.{ne_eqb, false≢true, true≢false}
use Rattle.std.proofs.lemmas.Bool.Decides.{nat_tests}
use Rattle.std.proofs.lemmas.List.Elements.{All-nil, All-cons}
use Rattle.std.proofs.lemmas.List.Splits.{slice_split_none, slice_split_at}
use Rattle.percent_encoding.specs.AsciiSet.{should_percent_encode, contains}
use Rattle.percent_encoding.specs.Percent.{percent_decode}
use Rattle.percent_encoding.proofs.PercentLemmas.{All-percent_encode, IsByte, IsEscapeByte, round_trip}
use Rattle.mr_call_words.specs.declared.word.TheConstants.{ESCAPED}
use Rattle.mr_call_words.specs.Words.{word, line_of, are_bytes}
use Rattle.mr_call_words.specs.inner.Splits.{is_space}

space_escaped : should_percent_encode ESCAPED 32 ≡ true
unfolding should_percent_encode
space_escaped = refl

percent_escaped : contains ESCAPED 37 ≡ true
percent_escaped = refl

escape_free : (b : ℕ) → IsEscapeByte b → is_space b ≡ false
escape_free b h = ne_eqb b 32 (λ e. grind arith)

kept_free : (b : ℕ) → should_percent_encode ESCAPED b ≡ false → is_space b ≡ false
kept_free b kept = ne_eqb b 32 (λ e. false≢true (sym kept ∙ ap (should_percent_encode ESCAPED) e ∙ space_escaped))

word_free : (bytes : List ℕ) → All (λ b. is_space b ≡ false) (word bytes)
word_free bytes = All-percent_encode (λ b. is_space b ≡ false) ESCAPED bytes kept_free escape_free

split_line : (first : List ℕ) (rest : List (List ℕ)) → slice_split is_space (line_of (first ∷ rest)) ≡ map word (first ∷ rest)
split_line first [] = ap (slice_split is_space) (append-nil (word first)) ∙ slice_split_none is_space (word first) (word_free first)
split_line first (next ∷ rest) =
    slice_split_at is_space (word first) 32 (line_of (next ∷ rest)) (word_free first) refl
    ∙ ap (λ l. word first ∷ l) (split_line next rest)

pub bytes_fit : (bytes : List ℕ) → are_bytes bytes ≡ true → All IsByte bytes
bytes_fit [] h = All-nil IsByte
bytes_fit (b ∷ bytes) h = by (nat_lt b 256) refl h (bytes_fit bytes)
  where
    by : (t : Bool) → nat_lt b 256 ≡ t → (t && are_bytes bytes) ≡ true → (are_bytes bytes ≡ true → All IsByte bytes) → All IsByte (b ∷ bytes)
    by true e h go = All-cons IsByte b bytes (grind (arith, nat_tests)) (go h)
    by false e h go = absurd (true≢false (sym h))

decoded : (words : List (List ℕ)) → list_all are_bytes words ≡ true → map percent_decode (map word words) ≡ words
decoded [] h = refl
decoded (first ∷ rest) h = by (are_bytes first) refl h (decoded rest)
  where
    by : (t : Bool) → are_bytes first ≡ t → (t && list_all are_bytes rest) ≡ true → (list_all are_bytes rest ≡ true → map percent_decode (map word rest) ≡ rest) → map percent_decode (map word (first ∷ rest)) ≡ first ∷ rest
    by true e h go = ap (λ x. x ∷ map percent_decode (map word rest)) (round_trip ESCAPED first percent_escaped (bytes_fit first e)) ∙ ap (λ x. first ∷ x) (go h)
    by false e h go = absurd (true≢false (sym h))

pub words_back : (first : List ℕ) (rest : List (List ℕ)) → list_all are_bytes (first ∷ rest) ≡ true → map percent_decode (slice_split is_space (line_of (first ∷ rest))) ≡ first ∷ rest
words_back first rest h = ap (map percent_decode) (split_line first rest) ∙ decoded (first ∷ rest) h
