-- The ends of segments: which begin with no record's line, and how many lines they have.
use Rattle.std.proofs.Common.{◌≡◌, ◌≢◌, ◌≤◌, ◌<◌, ◌+◌, ◌==◌, ℕ, suc, Bool, true, false, not, cond, nat_lt, nat_eq, List, [], ◌∷◌, ◌++◌, length, Option, Some, None, option_map, Ok, refl, sym, ap, ◌∙◌, arith, append_assoc}
use Rattle.std.specs.List.{filter_map, cons_option, slice_get, list_all, AllByRecursion}
use Rattle.std.proofs.lemmas.Bool.{and_parts}
use Rattle.std.proofs.lemmas.Bool.Decides.{nat_tests}
use Rattle.mr_history.specs.declared.record.Record.{Record}
use Rattle.mr_history.specs.declared.reading.Replayed.{Replayed}
use Rattle.mr_history.specs.Line.{line_of, whole_line, lines, version_line, IsRecordOf}
use Rattle.mr_history.specs.Reading.{HasNoFeed, is_text, whole_lines, torn_of, version_of, record_of, records_as, records_of, bad_among, bad_in, bad_line, Replays}
use Rattle.mr_history.proofs.Told.{record_of-line_of, record_of-is, version_line-none}
use Rattle.mr_history.proofs.Splits.{clean, no_feed, line_clean, line_first, torn_first, no_line, all_torn, ended, cut}
use Rattle.mr_history.proofs.Replays.{no_lines, has_head, no_head}
use Rattle.mr_out_layout.specs.Segments.{BeginsOtherwise, Splits, line_count}
use Rattle.mr_out_layout.proofs.Plain.{one_more, all_more}

-- ---- which begin with no record's line

first_line : (r : Record) (rest : List ℕ) → IsRecordOf 1 r → whole_lines (whole_line r ++ rest) ≡ line_of r ∷ whole_lines rest
first_line r rest is = ap whole_lines (append_assoc (line_of r) (10 ∷ []) rest) ∙ line_first (line_of r) rest (no_feed (line_of r) (line_clean r is.0.1))

pub no_feed_otherwise : (end : List ℕ) → HasNoFeed end → BeginsOtherwise end
no_feed_otherwise end h = λ r rest is e.
    let none : whole_lines end ≡ [] = no_line end h in
    let some : whole_lines end ≡ line_of r ∷ whole_lines rest = ap whole_lines e ∙ first_line r rest is in
    absurd (cc)

pub bad_otherwise : (end line after : List ℕ) → HasNoFeed line → end ≡ line ++ 10 ∷ after → record_of 1 line ≡ None → BeginsOtherwise end
bad_otherwise end line after h here none = λ r rest is e.
    let one : whole_lines end ≡ line ∷ whole_lines after = ap whole_lines here ∙ line_first line after h in
    let other : whole_lines end ≡ line_of r ∷ whole_lines rest = ap whole_lines e ∙ first_line r rest is in
    let same : line ≡ line_of r = cc in
    let some : record_of 1 line ≡ Some r = ap (record_of 1) same ∙ record_of-line_of 1 r is in
    absurd (cc)

-- ---- a line that is read by itself

one_line : (line : List ℕ) → HasNoFeed line → whole_lines (line ++ 10 ∷ []) ≡ line ∷ []
one_line line h = line_first line [] h ∙ ap (λ (ls : List (List ℕ)). line ∷ ls) (no_line [] (no_feed [] refl))

pub told_first : (line whole : List ℕ) (rs : List Record) → HasNoFeed line → whole ≡ line ++ 10 ∷ [] → version_of whole ≡ 1 → rs ≡ records_of whole → slice_get rs 0 ≡ record_of 1 line
unfolding records_as
told_first line whole rs h is one told =
    let lines : whole_lines whole ≡ line ∷ [] = ap whole_lines is ∙ one_line line h in
    ap (λ (xs : List Record). slice_get xs 0) (told ∙ ap (λ (n : ℕ). records_as n whole) one ∙ ap (filter_map (record_of 1)) lines) ∙ by (record_of 1 line)
  where
    by : (o : Option Record) → slice_get (cons_option o []) 0 ≡ o
    by None = refl
    by (Some r) = refl

-- a line that is a record's is no version line, and not bad
not_none : (line : List ℕ) → ((r : Record) → record_of 1 line ≡ Some r → ⊥) → record_of 1 line ≡ None
not_none line apart = by (record_of 1 line) refl
  where
    by : (o : Option Record) → record_of 1 line ≡ o → o ≡ None
    by None e = refl
    by (Some r) e = absurd (apart r e)

pub told_other : (line whole : List ℕ) → HasNoFeed line → whole ≡ line ++ 10 ∷ [] → version_of whole ≢ 1 → record_of 1 line ≡ None
told_other line whole h is other = not_none line (λ r e. other (sym (no_head whole line [] h is (λ v. absurd (apart r e v)))))
  where
    apart : (r : Record) → record_of 1 line ≡ Some r → line ≡ version_line → ⊥
    apart r e v = let none : record_of 1 line ≡ None = ap (record_of 1) v ∙ version_line-none 1 in absurd (cc)

pub told_one : (line whole : List ℕ) (p : Replayed) → HasNoFeed line → whole ≡ line ++ 10 ∷ [] → Replays whole (Ok p) → cond (nat_eq p.version 1) (slice_get p.records 0) None ≡ record_of 1 line
told_one line whole p h is told = by (nat_eq p.version 1) refl
  where
    same : (n : ℕ) → nat_eq n 1 ≡ true → n ≡ 1
    same n e = grind (arith, nat_tests)

    apart : (n : ℕ) → nat_eq n 1 ≡ false → n ≡ 1 → ⊥
    apart n e q = grind (arith, nat_tests)

    by : (b : Bool) → nat_eq p.version 1 ≡ b → cond b (slice_get p.records 0) None ≡ record_of 1 line
    by true e = told_first line whole p.records h is (sym told.1 ∙ same p.version e) told.2
    by false e = sym (told_other line whole h is (λ q. apart p.version e (told.1 ∙ q)))

good_line : (line : List ℕ) (r : Record) → record_of 1 line ≡ Some r → bad_in (line ∷ []) ≡ None
good_line line r q = by (is_text line version_line)
  where
    by : (b : Bool) → cond b (option_map (λ n. n + 1) (bad_among 2 [])) (bad_among 1 (line ∷ [])) ≡ None
    by true = refl
    by false = rw q refl

pub told_bad : (line whole : List ℕ) (n : ℕ) → HasNoFeed line → whole ≡ line ++ 10 ∷ [] → bad_line whole ≡ Some n → record_of 1 line ≡ None
unfolding bad_line
told_bad line whole n h is bad = not_none line (λ r e. absurd (apart r e))
  where
    apart : (r : Record) → record_of 1 line ≡ Some r → ⊥
    apart r e =
        let none : bad_in (whole_lines whole) ≡ None = ap bad_in (ap whole_lines is ∙ one_line line h) ∙ good_line line r e in
        absurd (cc)

-- ---- how many lines there are

pub one_more_line : (bytes line after : List ℕ) → HasNoFeed line → bytes ≡ line ++ 10 ∷ after → line_count bytes ≡ suc (line_count after)
one_more_line bytes line after h is =
    let lines : whole_lines bytes ≡ line ∷ whole_lines after = ap whole_lines is ∙ line_first line after h in
    let torn : torn_of bytes ≡ torn_of after = ap torn_of is ∙ torn_first line after h in
    rw (lines, torn) (omega arith)

pub last_line : (bytes : List ℕ) → HasNoFeed bytes → line_count bytes ≤ 1
last_line bytes h = let lines : whole_lines bytes ≡ [] = no_line bytes h in rw lines (by (length (torn_of bytes) == 0))
  where
    by : (b : Bool) → 0 + cond b 0 1 ≤ 1
    by true = omega arith
    by false = omega arith

pub no_lines_left : line_count [] ≡ 0
no_lines_left = let lines : whole_lines [] ≡ [] = no_line [] (no_feed [] refl) in let torn : torn_of [] ≡ [] = all_torn [] (no_feed [] refl) in rw (lines, torn) refl

pub some_line : (b : ℕ) (bytes : List ℕ) → 0 < line_count (b ∷ bytes)
some_line b bytes = let c = cut (b ∷ bytes) in by c.whole c.torn c.is c.whole_clean c.torn_clean
  where
    by : (ws : List (List ℕ)) (t : List ℕ) → b ∷ bytes ≡ ended ws ++ t → list_all clean ws ≡ true → clean t ≡ true → 0 < line_count (b ∷ bytes)
    by [] t is w h =
        let torn : torn_of (b ∷ bytes) ≡ b ∷ bytes = all_torn (b ∷ bytes) (no_feed (b ∷ bytes) (ap clean is ∙ h)) in
        let some : (length (b ∷ bytes) == 0) ≡ false = grind (arith, nat_tests) in
        rw (torn, some) (omega arith)
    by (l ∷ ws) t is w h =
        let p = and_parts (clean l) (list_all clean ws) w in
        let whole : b ∷ bytes ≡ l ++ 10 ∷ (ended ws ++ t) = is ∙ append_assoc l (10 ∷ ended ws) t in
        let count : line_count (b ∷ bytes) ≡ suc (line_count (ended ws ++ t)) = one_more_line (b ∷ bytes) l (ended ws ++ t) (no_feed l p.0) whole in
        rw count (omega arith)

-- ---- the first line tells the version

pub is_other : (bytes line after : List ℕ) (b : Bool) → HasNoFeed line → bytes ≡ line ++ 10 ∷ after → (b ≡ true → line ≡ version_line) → (line ≡ version_line → b ≡ true) → b ≡ nat_eq (version_of bytes) 2
is_other bytes line after true h is so only = let two : 2 ≡ version_of bytes = (has_head bytes line after is (so refl)).0 in rw (sym two) refl
is_other bytes line after false h is so only = let one : 1 ≡ version_of bytes = no_head bytes line after h is (λ e. absurd (apart (only e))) in rw (sym one) refl
  where
    apart : false ≡ true → ⊥
    apart e = absurd (cc)

pub no_other : (bytes : List ℕ) → HasNoFeed bytes → false ≡ nat_eq (version_of bytes) 2
no_other bytes h = let one : 1 ≡ version_of bytes = no_lines bytes h in rw (sym one) refl

-- ---- the records of the lines so far, and what is left

pub more_front : (bytes rest line after : List ℕ) (rs : List Record) (r : Record) → (bytes ≡ lines rs ++ rest) × AllByRecursion (IsRecordOf 1) rs → rest ≡ line ++ 10 ∷ after → Some r ≡ record_of 1 line → (bytes ≡ lines (rs ++ r ∷ []) ++ after) × AllByRecursion (IsRecordOf 1) (rs ++ r ∷ [])
more_front bytes rest line after rs r i is told =
    let own = record_of-is 1 line r (sym told) in
    let next : rest ≡ whole_line r ++ after = is ∙ ap (λ (l : List ℕ). l ++ 10 ∷ after) own.1 ∙ sym (append_assoc (line_of r) (10 ∷ []) after) in
    (one_more bytes rest after rs r i.0 next, all_more rs r i.1 own.0)

pub ends_clean : (bytes rest : List ℕ) (rs : List Record) → (bytes ≡ lines rs ++ rest) × AllByRecursion (IsRecordOf 1) rs → HasNoFeed rest → Splits bytes rs rest
ends_clean bytes rest rs i h = record { are = i.0; records = i.1; ends = no_feed_otherwise rest h }

pub ends_bad : (bytes rest line after : List ℕ) (rs : List Record) → (bytes ≡ lines rs ++ rest) × AllByRecursion (IsRecordOf 1) rs → HasNoFeed line → rest ≡ line ++ 10 ∷ after → None ≡ record_of 1 line → Splits bytes rs rest
ends_bad bytes rest line after rs i h is none = record { are = i.0; records = i.1; ends = bad_otherwise rest line after h is (sym none) }

-- ---- so many lines so far, and what is left

pub one_line_off : (n i : ℕ) (rest line after : List ℕ) → n ≡ i + line_count rest → HasNoFeed line → rest ≡ line ++ 10 ∷ after → n ≡ (i + 1) + line_count after
one_line_off n i rest line after e h is = let step : line_count rest ≡ suc (line_count after) = one_more_line rest line after h is in omega arith

pub no_more : (n i : ℕ) (rest : List ℕ) → n ≡ i + line_count rest → i < 64 → HasNoFeed rest → false ≡ nat_lt 64 n
no_more n i rest e small h = let last : line_count rest ≤ 1 = last_line rest h in let less : nat_lt 64 n ≡ false = grind (arith, nat_tests) in sym less

pub more_left : (n i : ℕ) (rest : List ℕ) → n ≡ i + line_count rest → i ≡ 64 → not (length rest == 0) ≡ nat_lt 64 n
more_left n i [] e all = let none : line_count [] ≡ 0 = no_lines_left in let less : nat_lt 64 n ≡ false = grind (arith, nat_tests) in rw less refl
more_left n i (b ∷ bytes) e all =
    let more : 0 < line_count (b ∷ bytes) = some_line b bytes in
    let some : (length (b ∷ bytes) == 0) ≡ false = grind (arith, nat_tests) in
    let less : nat_lt 64 n ≡ true = grind (arith, nat_tests) in
    rw (some, less) refl
