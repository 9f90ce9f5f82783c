-- The whole lines of bytes.
use Rattle.std.proofs.Common.{◌≡◌, ◌<◌, ◌^◌, ℕ, zero, suc, Bool, true, false, not, List, [], ◌∷◌, ◌++◌, take, codes, decimal, Some, None, refl, sym, ap, ap₂, ◌∙◌, arith, append_assoc, append-nil, true≢false}
use Rattle.std.specs.List.{slice_split, list_all, AllByRecursion}
use Rattle.std.specs.Char.{is_ascii_digit}
use Rattle.std.proofs.lemmas.Bool.{and_parts}
use Rattle.std.proofs.lemmas.Bool.Decides.{nat_tests}
use Rattle.std.proofs.lemmas.List.Folds.{list_all-append}
use Rattle.std.proofs.lemmas.List.Splits.{slice_split_at, slice_split_none}
use Rattle.std.proofs.lemmas.List.Elements.{All-from_recursion, recursion_from_All}
use Rattle.mr_ids.specs.Attempt.{Attempt}
use Rattle.mr_ids.specs.Text.{numeral, attempt_text}
use Rattle.mr_ids.proofs.Numerals.{numeral_digits}
use Rattle.mr_ids.proofs.Shown.{decimal-numeral}
use Rattle.mr_history.specs.declared.record.Record.{Record}
use Rattle.mr_history.specs.declared.record.Record.TheVariants.{AttemptStarted, MapSucceeded, ReduceSucceeded, AttemptFailed, JobUnsuccessful}
use Rattle.mr_history.specs.Line.{line_of, InRange}
use Rattle.mr_history.specs.Reading.{is_feed, HasNoFeed, all_but_last, last_piece, whole_lines, torn_of}
use Rattle.mr_history.proofs.Texts.{plain, attempt_plain}

-- ---- bytes with no line feed

abbrev pub clean : List ℕ → Bool
clean xs = list_all (λ b. not (is_feed b)) xs

pub no_feed : (xs : List ℕ) → clean xs ≡ true → HasNoFeed xs
no_feed xs h = All-from_recursion (λ b. is_feed b ≡ false) xs (by xs h)
  where
    not_true : (b : Bool) → not b ≡ true → b ≡ false
    not_true true e = absurd (true≢false (sym e))
    not_true false e = refl

    by : (xs : List ℕ) → clean xs ≡ true → AllByRecursion (λ b. is_feed b ≡ false) xs
    by [] h = tt
    by (x ∷ xs) h = let p = and_parts (not (is_feed x)) (clean xs) h in (not_true (is_feed x) p.0, by xs p.1)

pub is_clean : (xs : List ℕ) → HasNoFeed xs → clean xs ≡ true
is_clean xs h = by xs (recursion_from_All (λ b. is_feed b ≡ false) xs h)
  where
    by : (xs : List ℕ) → AllByRecursion (λ b. is_feed b ≡ false) xs → clean xs ≡ true
    by [] h = refl
    by (x ∷ xs) h = rw h.0 (by xs h.1)

pub both_clean : (xs ys : List ℕ) → clean xs ≡ true → clean ys ≡ true → clean (xs ++ ys) ≡ true
both_clean xs ys h k = list_all-append (λ b. not (is_feed b)) xs ys ∙ rw (h, k) refl

pub clean-take : (n : ℕ) (xs : List ℕ) → clean xs ≡ true → clean (take n xs) ≡ true
clean-take zero xs h = refl
clean-take (suc n) [] h = refl
clean-take (suc n) (x ∷ xs) h = let p = and_parts (not (is_feed x)) (clean xs) h in rw (p.0, clean-take n xs p.1) refl

plain_clean : (xs : List ℕ) → list_all plain xs ≡ true → clean xs ≡ true
plain_clean [] h = refl
plain_clean (x ∷ xs) h = let p = and_parts (plain x) (list_all plain xs) h in rw (own x p.0) (plain_clean xs p.1)
  where
    own : (x : ℕ) → plain x ≡ true → is_feed x ≡ false
    own x h = grind (arith, nat_tests)

digits_clean : (xs : List ℕ) → list_all is_ascii_digit xs ≡ true → clean xs ≡ true
digits_clean [] h = refl
digits_clean (x ∷ xs) h = let p = and_parts (is_ascii_digit x) (list_all is_ascii_digit xs) h in rw (own x p.0) (digits_clean xs p.1)
  where
    own : (x : ℕ) → is_ascii_digit x ≡ true → is_feed x ≡ false
    own x h = grind (arith, nat_tests)

decimal_clean : (n : ℕ) → n < 2 ^ 32 → clean (decimal n) ≡ true
decimal_clean n h = ap clean (decimal-numeral n (omega arith)) ∙ digits_clean (numeral 1 n) (numeral_digits 1 n)

told_clean : (a : Attempt) (rest : List ℕ) → clean rest ≡ true → clean (codes "{\"attempt\":\"" ++ (attempt_text a ++ rest)) ≡ true
told_clean a rest h = both_clean (codes "{\"attempt\":\"") (attempt_text a ++ rest) refl (both_clean (attempt_text a) rest (plain_clean (attempt_text a) (attempt_plain a)) h)

closing : (n : ℕ) → n < 2 ^ 32 → clean (decimal n ++ codes "}") ≡ true
closing n h = both_clean (decimal n) (codes "}") (decimal_clean n h) refl

pub line_clean : (r : Record) → InRange r → clean (line_of r) ≡ true
unfolding line_of
line_clean (AttemptStarted a node) h = told_clean a (codes "\",\"event\":\"started\",\"node\":" ++ (decimal node ++ codes "}")) (both_clean (codes "\",\"event\":\"started\",\"node\":") (decimal node ++ codes "}") refl (closing node h.1))
line_clean (MapSucceeded a node incarnation) h =
    let ending = codes ",\"node\":" ++ (decimal node ++ codes "}") in
    told_clean a (codes "\",\"event\":\"map\",\"incarnation\":" ++ (decimal incarnation ++ ending))
    (both_clean (codes "\",\"event\":\"map\",\"incarnation\":") (decimal incarnation ++ ending) refl
    (both_clean (decimal incarnation) ending (decimal_clean incarnation h.2)
    (both_clean (codes ",\"node\":") (decimal node ++ codes "}") refl (closing node h.1))))
line_clean (ReduceSucceeded a (Some bytes)) h = told_clean a (codes "\",\"bytes\":" ++ (decimal bytes ++ codes ",\"event\":\"reduce\"}")) (both_clean (codes "\",\"bytes\":") (decimal bytes ++ codes ",\"event\":\"reduce\"}") refl (both_clean (decimal bytes) (codes ",\"event\":\"reduce\"}") (decimal_clean bytes h.1) refl))
line_clean (ReduceSucceeded a None) h = told_clean a (codes "\",\"event\":\"reduce\"}") refl
line_clean (AttemptFailed a) h = told_clean a (codes "\",\"event\":\"failed\"}") refl
line_clean JobUnsuccessful h = refl

-- ---- pieces

record Pieces (bytes : List ℕ) : Type 0 where
  first : List ℕ
  more : List (List ℕ)
  is : slice_split is_feed bytes ≡ first ∷ more

some_piece : (bytes : List ℕ) → Pieces bytes
some_piece [] = record { first = []; more = []; is = refl }
some_piece (b ∷ bytes) = by (is_feed b) refl (some_piece bytes)
  where
    by : (t : Bool) → is_feed b ≡ t → Pieces bytes → Pieces (b ∷ bytes)
    by true e p = record { first = []; more = slice_split is_feed bytes; is = rw e refl }
    by false e p = record { first = b ∷ p.first; more = p.more; is = rw (e, p.is) refl }

pub line_first : (line rest : List ℕ) → HasNoFeed line → whole_lines (line ++ 10 ∷ rest) ≡ line ∷ whole_lines rest
unfolding whole_lines
line_first line rest h =
    let p = some_piece rest in
    ap all_but_last (slice_split_at is_feed line 10 rest h refl) ∙ rw p.is refl

pub torn_first : (line rest : List ℕ) → HasNoFeed line → torn_of (line ++ 10 ∷ rest) ≡ torn_of rest
unfolding torn_of
torn_first line rest h =
    let p = some_piece rest in
    ap last_piece (slice_split_at is_feed line 10 rest h refl) ∙ rw p.is refl

pub no_line : (bytes : List ℕ) → HasNoFeed bytes → whole_lines bytes ≡ []
unfolding whole_lines
no_line bytes h = ap all_but_last (slice_split_none is_feed bytes h)

pub all_torn : (bytes : List ℕ) → HasNoFeed bytes → torn_of bytes ≡ bytes
unfolding torn_of
all_torn bytes h = ap last_piece (slice_split_none is_feed bytes h)

-- ---- any bytes are whole lines and what is torn

abbrev pub ended : List (List ℕ) → List ℕ
ended [] = []
ended (l ∷ ls) = l ++ 10 ∷ ended ls

pub record Cut (bytes : List ℕ) : Type 0 where
  pub whole : List (List ℕ)
  pub torn : List ℕ
  pub is : bytes ≡ ended whole ++ torn
  pub whole_clean : list_all clean whole ≡ true
  pub torn_clean : clean torn ≡ true

pub cut : (bytes : List ℕ) → Cut bytes
cut [] = record { whole = []; torn = []; is = refl; whole_clean = refl; torn_clean = refl }
cut (b ∷ bytes) = by (is_feed b) refl (cut bytes)
  where
    feed : (x : ℕ) → is_feed x ≡ true → x ≡ 10
    feed x e = grind (arith, nat_tests)

    onto : (ws : List (List ℕ)) (t : List ℕ) → is_feed b ≡ false → bytes ≡ ended ws ++ t → list_all clean ws ≡ true → clean t ≡ true → Cut (b ∷ bytes)
    onto [] t e is w h = record { whole = []; torn = b ∷ t; is = ap (λ l. b ∷ l) is; whole_clean = refl; torn_clean = rw (e, h) refl }
    onto (l ∷ ws) t e is w h = let p = and_parts (clean l) (list_all clean ws) w in record { whole = (b ∷ l) ∷ ws; torn = t; is = ap (λ l. b ∷ l) is; whole_clean = rw (e, p.0, p.1) refl; torn_clean = h }

    by : (t : Bool) → is_feed b ≡ t → Cut bytes → Cut (b ∷ bytes)
    by true e c = record { whole = [] ∷ c.whole; torn = c.torn; is = ap₂ (λ x l. x ∷ l) (feed b e) c.is; whole_clean = c.whole_clean; torn_clean = c.torn_clean }
    by false e c = onto c.whole c.torn e c.is c.whole_clean c.torn_clean

whole_ended : (ls : List (List ℕ)) (rest : List ℕ) → list_all clean ls ≡ true → whole_lines (ended ls ++ rest) ≡ ls ++ whole_lines rest
whole_ended [] rest h = refl
whole_ended (l ∷ ls) rest h =
    let p = and_parts (clean l) (list_all clean ls) h in
    ap whole_lines (append_assoc l (10 ∷ ended ls) rest) ∙ line_first l (ended ls ++ rest) (no_feed l p.0) ∙ ap (λ m. l ∷ m) (whole_ended ls rest p.1)

torn_ended : (ls : List (List ℕ)) (rest : List ℕ) → list_all clean ls ≡ true → torn_of (ended ls ++ rest) ≡ torn_of rest
torn_ended [] rest h = refl
torn_ended (l ∷ ls) rest h =
    let p = and_parts (clean l) (list_all clean ls) h in
    ap torn_of (append_assoc l (10 ∷ ended ls) rest) ∙ torn_first l (ended ls ++ rest) (no_feed l p.0) ∙ torn_ended ls rest p.1

cut_lines : (bytes : List ℕ) (c : Cut bytes) → whole_lines bytes ≡ c.whole
cut_lines bytes c = ap whole_lines c.is ∙ whole_ended c.whole c.torn c.whole_clean ∙ ap (λ l. c.whole ++ l) (no_line c.torn (no_feed c.torn c.torn_clean)) ∙ append-nil c.whole

cut_torn : (bytes : List ℕ) (c : Cut bytes) → torn_of bytes ≡ c.torn
cut_torn bytes c = ap torn_of c.is ∙ torn_ended c.whole c.torn c.whole_clean ∙ all_torn c.torn (no_feed c.torn c.torn_clean)

pub torn_is_clean : (bytes : List ℕ) → clean (torn_of bytes) ≡ true
torn_is_clean bytes = let c = cut bytes in ap clean (cut_torn bytes c) ∙ c.torn_clean

-- whole lines and more: the lines and the records of both
pub lines-append : (xs ys : List ℕ) → torn_of xs ≡ [] → whole_lines (xs ++ ys) ≡ whole_lines xs ++ whole_lines ys
lines-append xs ys none =
    let c = cut xs in
    let empty : c.torn ≡ [] = sym (cut_torn xs c) ∙ none in
    let is : xs ≡ ended c.whole = c.is ∙ ap (λ t. ended c.whole ++ t) empty ∙ append-nil (ended c.whole) in
    ap (λ l. whole_lines (l ++ ys)) is ∙ whole_ended c.whole ys c.whole_clean ∙ ap (λ l. l ++ whole_lines ys) (sym (cut_lines xs c))

pub torn-append : (xs ys : List ℕ) → torn_of xs ≡ [] → torn_of (xs ++ ys) ≡ torn_of ys
torn-append xs ys none =
    let c = cut xs in
    let empty : c.torn ≡ [] = sym (cut_torn xs c) ∙ none in
    let is : xs ≡ ended c.whole = c.is ∙ ap (λ t. ended c.whole ++ t) empty ∙ append-nil (ended c.whole) in
    ap (λ l. torn_of (l ++ ys)) is ∙ torn_ended c.whole ys c.whole_clean
