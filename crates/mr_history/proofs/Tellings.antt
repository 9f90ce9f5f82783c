-- The records of bytes, the version that they show, and those of the first bytes of a segment.
use Rattle.std.proofs.Common.{◌≡◌, ◌<◌, ◌≤◌, ◌+◌, ◌-◌, ℕ, Bool, true, false, cond, nat_le, List, [], ◌∷◌, ◌++◌, length, take, Option, Some, None, option_map, refl, sym, ap, ◌∙◌, arith, append_assoc, append-nil, length-append, leb-true, subst, inl, inr}
use Rattle.std.specs.List.{filter_map, cons_option, AllByRecursion}
use Rattle.std.proofs.lemmas.Bool.{cases_lt}
use Rattle.std.proofs.lemmas.Bool.Decides.{nat_tests}
use Rattle.std.proofs.lemmas.List.{take_all, take-append-le}
use Rattle.std.proofs.Math.Seq.{take-append-add}
use Rattle.mr_history.specs.declared.record.Record.{Record}
use Rattle.mr_history.specs.Line.{line_of, version_line, whole_line, lines, head, text, width, whole_in, IsVersion, IsRecord, IsRecordOf}
use Rattle.mr_history.specs.Reading.{HasNoFeed, whole_lines, torn_of, version_in, version_of, record_of, records_as, records_of, bad_among, bad_in, bad_line, record_lines}
use Rattle.mr_history.proofs.Told.{record_of-line_of, record_of-is, not_version, version_line-none}
use Rattle.mr_history.proofs.Splits.{clean, is_clean, no_feed, clean-take, line_clean, line_first, torn_first, no_line, all_torn, lines-append}

-- ---- whole lines and more

filter-append : (version : ℕ) (ls ms : List (List ℕ)) → filter_map (record_of version) (ls ++ ms) ≡ filter_map (record_of version) ls ++ filter_map (record_of version) ms
filter-append version [] ms = refl
filter-append version (l ∷ ls) ms = by (record_of version l) (filter-append version ls ms)
  where
    by : (o : Option Record) → filter_map (record_of version) (ls ++ ms) ≡ filter_map (record_of version) ls ++ filter_map (record_of version) ms → cons_option o (filter_map (record_of version) (ls ++ ms)) ≡ cons_option o (filter_map (record_of version) ls) ++ filter_map (record_of version) ms
    by None e = e
    by (Some r) e = ap (λ l. r ∷ l) e

pub records-append : (version : ℕ) (xs ys : List ℕ) → torn_of xs ≡ [] → records_as version (xs ++ ys) ≡ records_as version xs ++ records_as version ys
unfolding records_as
records-append version xs ys none = ap (filter_map (record_of version)) (lines-append xs ys none) ∙ filter-append version (whole_lines xs) (whole_lines ys)

-- what bytes tell are records
pub records_are : (version : ℕ) (bytes : List ℕ) → AllByRecursion (IsRecordOf version) (records_as version bytes)
unfolding records_as
records_are version bytes = by (whole_lines bytes)
  where
    one : (l : List ℕ) (rs : List Record) (o : Option Record) → record_of version l ≡ o → AllByRecursion (IsRecordOf version) rs → AllByRecursion (IsRecordOf version) (cons_option o rs)
    one l rs None e h = h
    one l rs (Some r) e h = ((record_of-is version l r e).0, h)

    by : (ls : List (List ℕ)) → AllByRecursion (IsRecordOf version) (filter_map (record_of version) ls)
    by [] = tt
    by (l ∷ ls) = one l (filter_map (record_of version) ls) (record_of version l) refl (by ls)

-- ---- the lines of records

line_feed : (r : Record) (rest : List ℕ) → whole_line r ++ rest ≡ line_of r ++ 10 ∷ rest
line_feed r rest = append_assoc (line_of r) (10 ∷ []) rest

line_first_of : (r : Record) (rest : List ℕ) → IsRecord r → whole_lines (whole_line r ++ rest) ≡ line_of r ∷ whole_lines rest
line_first_of r rest h = ap whole_lines (line_feed r rest) ∙ line_first (line_of r) rest (no_feed (line_of r) (line_clean r h.1))

record_first : (version : ℕ) (r : Record) (rest : List ℕ) → IsRecordOf version r → records_as version (whole_line r ++ rest) ≡ r ∷ records_as version rest
unfolding records_as
record_first version r rest h =
    ap (filter_map (record_of version)) (line_first_of r rest h.0)
    ∙ ap (λ o. cons_option o (filter_map (record_of version) (whole_lines rest))) (record_of-line_of version r h)

none_bad : (version : ℕ) (r : Record) (rest : List ℕ) → IsRecordOf version r → bad_among version (whole_lines rest) ≡ None → bad_among version (whole_lines (whole_line r ++ rest)) ≡ None
none_bad version r rest h none = ap (bad_among version) (line_first_of r rest h.0) ∙ rw (record_of-line_of version r h, none) refl

pub lines_more : (version : ℕ) (rs : List Record) (rest : List ℕ) → AllByRecursion (IsRecordOf version) rs → records_as version (lines rs ++ rest) ≡ rs ++ records_as version rest
lines_more version [] rest h = refl
lines_more version (r ∷ rs) rest h = ap (records_as version) (append_assoc (whole_line r) (lines rs) rest) ∙ record_first version r (lines rs ++ rest) h.0 ∙ ap (λ l. r ∷ l) (lines_more version rs rest h.1)

lines_torn : (version : ℕ) (rs : List Record) (rest : List ℕ) → AllByRecursion (IsRecordOf version) rs → torn_of (lines rs ++ rest) ≡ torn_of rest
lines_torn version [] rest h = refl
lines_torn version (r ∷ rs) rest h =
    ap torn_of (append_assoc (whole_line r) (lines rs) rest ∙ line_feed r (lines rs ++ rest))
    ∙ torn_first (line_of r) (lines rs ++ rest) (no_feed (line_of r) (line_clean r h.0.0.1))
    ∙ lines_torn version rs rest h.1

lines_good : (version : ℕ) (rs : List Record) (rest : List ℕ) → AllByRecursion (IsRecordOf version) rs → bad_among version (whole_lines rest) ≡ None → bad_among version (whole_lines (lines rs ++ rest)) ≡ None
lines_good version [] rest h none = none
lines_good version (r ∷ rs) rest h none = ap (λ l. bad_among version (whole_lines l)) (append_assoc (whole_line r) (lines rs) rest) ∙ none_bad version r (lines rs ++ rest) h.0 (lines_good version rs rest h.1 none)

pub torn_tells : (version : ℕ) (rest : List ℕ) → clean rest ≡ true → records_as version rest ≡ []
unfolding records_as
torn_tells version rest h = ap (filter_map (record_of version)) (no_line rest (no_feed rest h))

-- lines of records and torn bytes, in any version that can tell the records
pub told_lines : (version : ℕ) (rs : List Record) (rest : List ℕ) → AllByRecursion (IsRecordOf version) rs → clean rest ≡ true → records_as version (lines rs ++ rest) ≡ rs
told_lines version rs rest h k = lines_more version rs rest h ∙ ap (λ l. rs ++ l) (torn_tells version rest k) ∙ append-nil rs

-- ---- the version line

clean_head : clean version_line ≡ true
clean_head = refl

head_first : (rest : List ℕ) → whole_lines (head 2 ++ rest) ≡ version_line ∷ whole_lines rest
head_first rest = ap whole_lines (append_assoc version_line (10 ∷ []) rest) ∙ line_first version_line rest (no_feed version_line clean_head)

pub head_records : (version : ℕ) (rest : List ℕ) → records_as version (head 2 ++ rest) ≡ records_as version rest
unfolding records_as
head_records version rest = ap (filter_map (record_of version)) (head_first rest) ∙ ap (λ o. cons_option o (filter_map (record_of version) (whole_lines rest))) (version_line-none version)

pub head_torn : (rest : List ℕ) → torn_of (head 2 ++ rest) ≡ torn_of rest
head_torn rest = ap torn_of (append_assoc version_line (10 ∷ []) rest) ∙ torn_first version_line rest (no_feed version_line clean_head)

pub head_version : (rest : List ℕ) → version_of (head 2 ++ rest) ≡ 2
unfolding version_of
head_version rest = ap version_in (head_first rest)

pub head_bad : (rest : List ℕ) → bad_line (head 2 ++ rest) ≡ option_map (λ n. n + 1) (bad_among 2 (whole_lines rest))
unfolding bad_line
head_bad rest = ap bad_in (head_first rest)

pub head_left : (rest : List ℕ) → record_lines (whole_lines (head 2 ++ rest)) ≡ whole_lines rest
head_left rest = ap record_lines (head_first rest)

-- bytes whose first line is a record's, or that have no line
one_version : (version : ℕ) (rs : List Record) (rest : List ℕ) → AllByRecursion (IsRecordOf version) rs → clean rest ≡ true → (version_of (lines rs ++ rest) ≡ 1) × (bad_line (lines rs ++ rest) ≡ bad_among 1 (whole_lines (lines rs ++ rest)))
unfolding version_of bad_line
one_version version [] rest h k = let e = no_line rest (no_feed rest k) in (ap version_in e, ap bad_in e ∙ sym (ap (bad_among 1) e))
one_version version (r ∷ rs) rest h k =
    let e = ap whole_lines (append_assoc (whole_line r) (lines rs) rest) ∙ line_first_of r (lines rs ++ rest) h.0.0 in
    (ap version_in e ∙ rw (not_version r) refl, ap bad_in e ∙ rw (not_version r) refl ∙ sym (ap (bad_among 1) e))

-- ---- what a segment's bytes tell

pub record Tells (version : ℕ) (bytes : List ℕ) (rs : List Record) (torn : List ℕ) : Type 0 where
  pub records : records_of bytes ≡ rs
  pub torn_is : torn_of bytes ≡ torn
  pub good : bad_line bytes ≡ None
  pub shows : version_of bytes ≡ version

good_rest : (version : ℕ) (rs : List Record) (rest : List ℕ) → AllByRecursion (IsRecordOf version) rs → clean rest ≡ true → bad_among version (whole_lines (lines rs ++ rest)) ≡ None
good_rest version rs rest h k = lines_good version rs rest h (ap (bad_among version) (no_line rest (no_feed rest k)))

tells_one : (rs : List Record) (rest : List ℕ) → AllByRecursion (IsRecordOf 1) rs → clean rest ≡ true → Tells 1 (lines rs ++ rest) rs rest
tells_one rs rest h k =
    let one = one_version 1 rs rest h k in
    record {
      records = ap (λ v. records_as v (lines rs ++ rest)) one.0 ∙ told_lines 1 rs rest h k;
      torn_is = lines_torn 1 rs rest h ∙ all_torn rest (no_feed rest k);
      good = one.1 ∙ good_rest 1 rs rest h k;
      shows = one.0;
    }

tells_two : (rs : List Record) (rest : List ℕ) → AllByRecursion (IsRecordOf 2) rs → clean rest ≡ true → Tells 2 (head 2 ++ (lines rs ++ rest)) rs rest
tells_two rs rest h k = record {
  records = ap (λ v. records_as v (head 2 ++ (lines rs ++ rest))) (head_version (lines rs ++ rest)) ∙ head_records 2 (lines rs ++ rest) ∙ told_lines 2 rs rest h k;
  torn_is = head_torn (lines rs ++ rest) ∙ lines_torn 2 rs rest h ∙ all_torn rest (no_feed rest k);
  good = head_bad (lines rs ++ rest) ∙ ap (option_map (λ n. n + 1)) (good_rest 2 rs rest h k);
  shows = head_version (lines rs ++ rest);
}

-- a version is the first or the second
pub in_version : (P : ℕ → Type 0) (version : ℕ) → IsVersion version → P 1 → P 2 → P version
in_version P version is one two = elim (cases_lt version 2) [
  | inl small ↦ let e : 1 ≡ version = omega arith in subst P e one
  | inr big ↦ let e : 2 ≡ version = omega arith in subst P e two
]

-- what a segment begins with, the lines of records, and torn bytes
pub tells : (version : ℕ) (rs : List Record) (rest : List ℕ) → IsVersion version → AllByRecursion (IsRecordOf version) rs → clean rest ≡ true → Tells version (head version ++ (lines rs ++ rest)) rs rest
tells version rs rest is = in_version (λ v. AllByRecursion (IsRecordOf v) rs → clean rest ≡ true → Tells v (head v ++ (lines rs ++ rest)) rs rest) version is (tells_one rs rest) (tells_two rs rest)

-- bytes with no line feed tell nothing, and are of version 1
pub tells_torn : (rest : List ℕ) → clean rest ≡ true → Tells 1 rest [] rest
tells_torn rest k = tells_one [] rest tt k

pub tells_at : (version : ℕ) (bytes more : List ℕ) (rs : List Record) (torn : List ℕ) → more ≡ bytes → Tells version bytes rs torn → Tells version more rs torn
tells_at version bytes more rs torn is t = subst (λ b. Tells version b rs torn) (sym is) t

-- ---- the first bytes of lines

pub record Front (n : ℕ) (rs : List Record) : Type 0 where
  pub rest : List ℕ
  pub is : take n (lines rs) ≡ lines (whole_in n rs) ++ rest
  pub clean_rest : clean rest ≡ true

pub front : (version n : ℕ) (rs : List Record) → AllByRecursion (IsRecordOf version) rs → Front n rs
unfolding whole_in width
front version n [] h = record { rest = []; is = take_all n [] (omega arith); clean_rest = refl }
front version n (r ∷ rs) h = by (nat_le (width r) n) refl (λ m. front version m rs h.1)
  where
    len : length (whole_line r) ≡ width r
    len = length-append (line_of r) (10 ∷ [])

    by : (t : Bool) → nat_le (width r) n ≡ t → ((m : ℕ) → Front m rs) → Front n (r ∷ rs)
    by true e go =
        let le : width r ≤ n = leb-true (width r) n e in
        let m = n - width r in
        let sum : n ≡ length (whole_line r) + m = omega (arith, len) in
        let f = go m in
        record {
          rest = f.rest;
          is = ap (λ k. take k (whole_line r ++ lines rs)) sum ∙ take-append-add (whole_line r) (lines rs) m ∙ ap (λ l. whole_line r ++ l) f.is ∙ sym (append_assoc (whole_line r) (lines (whole_in m rs)) f.rest) ∙ rw e refl;
          clean_rest = f.clean_rest;
        }
    by false e go =
        let gt : n < width r = grind (arith, nat_tests) in
        let short : n ≤ length (line_of r) = omega (arith, len, length-append (line_of r) (10 ∷ [])) in
        record {
          rest = take n (line_of r);
          is = take-append-le n (whole_line r) (lines rs) (omega (arith, len)) ∙ take-append-le n (line_of r) (10 ∷ []) short ∙ rw e refl;
          clean_rest = clean-take n (line_of r) (line_clean r h.0.0.1);
        }

-- what lies whole there are the first of the records
pub whole_is_front : (n : ℕ) (rs : List Record) → (more : List Record) × (rs ≡ whole_in n rs ++ more)
unfolding whole_in
whole_is_front n [] = ([], refl)
whole_is_front n (r ∷ rs) = by (nat_le (width r) n) (whole_is_front (n - width r) rs)
  where
    by : (t : Bool) → (more : List Record) × (rs ≡ whole_in (n - width r) rs ++ more) → (more : List Record) × (r ∷ rs ≡ cond t (r ∷ whole_in (n - width r) rs) [] ++ more)
    by true f = (f.0, ap (λ l. r ∷ l) f.1)
    by false f = (r ∷ rs, refl)

pub all_front : (P : Record → Type 0) (xs ys : List Record) → AllByRecursion P (xs ++ ys) → AllByRecursion P xs
all_front P [] ys h = tt
all_front P (x ∷ xs) ys h = (h.0, all_front P xs ys h.1)

pub all_append : (P : Record → Type 0) (xs ys : List Record) → AllByRecursion P xs → AllByRecursion P ys → AllByRecursion P (xs ++ ys)
all_append P [] ys h k = k
all_append P (x ∷ xs) ys h k = (h.0, all_append P xs ys h.1 k)

pub whole_are : (P : Record → Type 0) (n : ℕ) (rs : List Record) → AllByRecursion P rs → AllByRecursion P (whole_in n rs)
whole_are P n rs h = let f = whole_is_front n rs in all_front P (whole_in n rs) f.0 (subst (AllByRecursion P) f.1 h)

pub lines_both : (rs ts : List Record) → lines (rs ++ ts) ≡ lines rs ++ lines ts
lines_both [] ts = refl
lines_both (r ∷ rs) ts = ap (λ l. whole_line r ++ l) (lines_both rs ts) ∙ sym (append_assoc (whole_line r) (lines rs) (lines ts))

-- ---- the first bytes of a segment

pub whole_none : (rs : List Record) → whole_in 0 rs ≡ []
unfolding whole_in width
whole_none [] = refl
whole_none (r ∷ rs) = let e : nat_le (length (line_of r) + 1) 0 ≡ false = grind (arith, nat_tests) in rw e refl

-- the version that the first n bytes show, and their torn end
pub record Shown (version n : ℕ) (rs : List Record) (bytes : List ℕ) : Type 0 where
  pub torn : List ℕ
  pub clean_torn : clean torn ≡ true
  pub tells : Tells (cond (nat_le (length (head version)) n) version 1) bytes (whole_in (n - length (head version)) rs) torn

shown_all : (version n m : ℕ) (rs : List Record) → IsVersion version → n ≡ length (head version) + m → AllByRecursion (IsRecordOf version) rs → Shown version n rs (take n (head version ++ lines rs))
shown_all version n m rs is sum h =
    let f = front version m rs h in
    let left : n - length (head version) ≡ m = omega arith in
    let enough : nat_le (length (head version)) n ≡ true = grind (arith, nat_tests) in
    record {
      torn = f.rest;
      clean_torn = f.clean_rest;
      tells = rw (enough, left) (tells_at version _ (take n (head version ++ lines rs)) (whole_in m rs) f.rest
          (ap (λ k. take k (head version ++ lines rs)) sum ∙ take-append-add (head version) (lines rs) m ∙ ap (λ l. head version ++ l) f.is)
          (tells version (whole_in m rs) f.rest is (whole_are (IsRecordOf version) m rs h) f.clean_rest));
    }

shown_torn : (n : ℕ) (rs : List Record) → n < length (head 2) → Shown 2 n rs (take n (head 2 ++ lines rs))
shown_torn n rs few =
    let none : n - length (head 2) ≡ 0 = omega arith in
    let short : nat_le (length (head 2)) n ≡ false = grind (arith, nat_tests) in
    let inside : n ≤ length version_line = omega arith in
    record {
      torn = take n version_line;
      clean_torn = clean-take n version_line clean_head;
      tells = rw (short, none, whole_none rs) (tells_at 1 _ (take n (head 2 ++ lines rs)) [] (take n version_line)
          (take-append-le n (head 2) (lines rs) (omega arith) ∙ take-append-le n version_line (10 ∷ []) inside)
          (tells_torn (take n version_line) (clean-take n version_line clean_head)));
    }

shown_one : (n : ℕ) (rs : List Record) → AllByRecursion (IsRecordOf 1) rs → Shown 1 n rs (take n (head 1 ++ lines rs))
shown_one n rs h = shown_all 1 n n rs (omega arith, omega arith) (omega arith) h

shown_two : (n : ℕ) (rs : List Record) → AllByRecursion (IsRecordOf 2) rs → Shown 2 n rs (take n (head 2 ++ lines rs))
shown_two n rs h = elim (cases_lt n (length (head 2))) [
  | inl few ↦ shown_torn n rs few
  | inr many ↦ shown_all 2 n (n - length (head 2)) rs (omega arith, omega arith) (omega arith) h
]

pub shown : (version n : ℕ) (rs : List Record) → IsVersion version → AllByRecursion (IsRecordOf version) rs → Shown version n rs (take n (head version ++ lines rs))
shown version n rs is = in_version (λ v. AllByRecursion (IsRecordOf v) rs → Shown v n rs (take n (head v ++ lines rs))) version is (shown_one n rs) (shown_two n rs)

-- the same of the text of records, which is empty where there is none
pub tells_front : (version n : ℕ) (rs : List Record) → IsVersion version → AllByRecursion (IsRecordOf version) rs → (records_of (take n (text version rs)) ≡ whole_in (n - length (head version)) rs) × (bad_line (take n (text version rs)) ≡ None)
unfolding whole_in
tells_front version n [] is h = let e : take n [] ≡ [] = take_all n [] (omega arith) in let t = tells_torn [] refl in (ap records_of e ∙ t.records, ap bad_line e ∙ t.good)
tells_front version n (r ∷ rs) is h = let t = (shown version n (r ∷ rs) is h).tells in (t.records, t.good)

pub front_version : (version n : ℕ) (r : Record) (rs : List Record) → IsVersion version → AllByRecursion (IsRecordOf version) (r ∷ rs) → version_of (take n (text version (r ∷ rs))) ≡ cond (nat_le (length (head version)) n) version 1
front_version version n r rs is h = (shown version n (r ∷ rs) is h).tells.shows

pub tells_lines : (version : ℕ) (rs : List Record) (torn : List ℕ) → IsVersion version → AllByRecursion (IsRecordOf version) rs → HasNoFeed torn →
    (records_of (head version ++ lines rs ++ torn) ≡ rs) × (torn_of (head version ++ lines rs ++ torn) ≡ torn) × (bad_line (head version ++ lines rs ++ torn) ≡ None) × (version_of (head version ++ lines rs ++ torn) ≡ version)
tells_lines version rs torn is h free =
    let t = tells_at version _ (head version ++ lines rs ++ torn) rs torn (append_assoc (head version) (lines rs) torn) (tells version rs torn is h (is_clean torn free)) in
    (t.records, t.torn_is, t.good, t.shows)
