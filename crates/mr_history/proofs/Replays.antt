-- What has been read of bytes, line by line.
use Rattle.std.proofs.Common.{◌≡◌, ◌≤◌, ◌+◌, ℕ, Bool, true, false, cond, nat_eq, List, [], ◌∷◌, ◌++◌, length, Option, Some, None, option_map, is_none, Err, refl, sym, ap, ◌∙◌, arith, append_assoc, append-nil, length-append, subst}
use Rattle.std.specs.List.{filter_map, cons_option}
use Rattle.mr_history.specs.declared.record.Record.{Record}
use Rattle.mr_history.specs.Line.{head, version_line, IsVersion}
use Rattle.mr_history.specs.Reading.{HasNoFeed, is_text, whole_lines, torn_of, version_in, version_of, record_of, records_as, records_of, bad_among, bad_in, bad_line, record_lines, TakesMemory, Replays}
use Rattle.mr_history.specs.declared.fault.HistoryFault.TheVariants.{NoMemory}
use Rattle.mr_history.specs.declared.line.TheConstants.{MAX_LINE_LEN}
use Rattle.mr_history.proofs.Told.{not_text}
use Rattle.mr_history.proofs.Splits.{line_first, torn_first, no_line, all_torn}
use Rattle.mr_history.proofs.Tellings.{head_version, head_records, head_torn, head_bad, head_left, in_version}

-- ---- the version line

pub no_lines : (bytes : List ℕ) → HasNoFeed bytes → 1 ≡ version_of bytes
unfolding version_of
no_lines bytes h = sym (ap version_in (no_line bytes h))

pub has_head : (bytes line after : List ℕ) → bytes ≡ line ++ 10 ∷ after → line ≡ version_line → (2 ≡ version_of bytes) × (bytes ≡ head 2 ++ after)
has_head bytes line after is e =
    let whole : bytes ≡ head 2 ++ after = is ∙ ap (λ l. l ++ 10 ∷ after) e ∙ sym (append_assoc version_line (10 ∷ []) after) in
    (sym (ap version_of whole ∙ head_version after), whole)

pub no_head : (bytes line after : List ℕ) → HasNoFeed line → bytes ≡ line ++ 10 ∷ after → (line ≡ version_line → ⊥) → 1 ≡ version_of bytes
unfolding version_of
no_head bytes line after h is apart = sym (ap (λ b. version_in (whole_lines b)) is ∙ ap version_in (line_first line after h) ∙ rw (not_text line version_line apart) refl)

-- how many lines come before the first record's
abbrev pub before : ℕ → ℕ
before version = cond (nat_eq version 2) 1 0

plus_none : (o : Option ℕ) → o ≡ option_map (λ n. n + 0) o
plus_none None = refl
plus_none (Some n) = ap Some (omega arith)

plus_more : (o : Option ℕ) (k m : ℕ) → m ≡ k + 1 → option_map (λ n. n + k) (option_map (λ n. n + 1) o) ≡ option_map (λ n. n + m) o
plus_more None k m e = refl
plus_more (Some n) k m e = ap Some (omega arith)

-- what bytes tell, by what stands after the version line
record Behind (version : ℕ) (bytes lines : List ℕ) : Type 0 where
  records : records_of bytes ≡ records_as version lines
  torn : torn_of bytes ≡ torn_of lines
  bad : bad_line bytes ≡ option_map (λ n. n + before version) (bad_among version (whole_lines lines))
  left : record_lines (whole_lines bytes) ≡ whole_lines lines

behind_one : (bytes : List ℕ) → 1 ≡ version_of bytes → Behind 1 bytes bytes
unfolding version_of bad_line
behind_one bytes e = record {
  records = ap (λ v. records_as v bytes) (sym e);
  torn = refl;
  bad = by (whole_lines bytes) e ∙ plus_none (bad_among 1 (whole_lines bytes));
  left = own (whole_lines bytes) e;
}
  where
    own : (ls : List (List ℕ)) → 1 ≡ version_in ls → record_lines ls ≡ ls
    own [] e = refl
    own (l ∷ ls) e = test (is_text l version_line) e
      where
        test : (b : Bool) → ◌≡◌ {A = ℕ} 1 (cond b 2 1) → cond b ls (l ∷ ls) ≡ l ∷ ls
        test false e = refl
        test true e = absurd (let f : ◌≡◌ {A = ℕ} 1 2 = e in omega arith)

    by : (ls : List (List ℕ)) → 1 ≡ version_in ls → bad_in ls ≡ bad_among 1 ls
    by [] e = refl
    by (l ∷ ls) e = test (is_text l version_line) e
      where
        test : (b : Bool) → ◌≡◌ {A = ℕ} 1 (cond b 2 1) → cond b (option_map (λ n. n + 1) (bad_among 2 ls)) (bad_among 1 (l ∷ ls)) ≡ bad_among 1 (l ∷ ls)
        test false e = refl
        test true e = absurd (let f : ◌≡◌ {A = ℕ} 1 2 = e in omega arith)

behind_two : (lines : List ℕ) → Behind 2 (head 2 ++ lines) lines
behind_two lines = record {
  records = ap (λ v. records_as v (head 2 ++ lines)) (head_version lines) ∙ head_records 2 lines;
  torn = head_torn lines;
  bad = head_bad lines;
  left = head_left lines;
}

behind : (version : ℕ) (bytes lines : List ℕ) → IsVersion version → version ≡ version_of bytes → bytes ≡ head version ++ lines → Behind version bytes lines
behind version bytes lines is shows e =
    subst (λ b. Behind version b lines) (sym e) (in_version (λ v. v ≡ version_of (head v ++ lines) → Behind v (head v ++ lines) lines) version is (behind_one lines) (λ _. behind_two lines) (shows ∙ ap version_of e))

-- ---- line by line

-- the records so far, and the rest of the bytes
pub record Reads (version : ℕ) (bytes rest : List ℕ) (rs : List Record) : Type 0 where
  pub so_far : records_as version bytes ≡ rs ++ records_as version rest
  pub torn_left : torn_of bytes ≡ torn_of rest
  pub bad_left : bad_among version (whole_lines bytes) ≡ option_map (λ n. n + length rs) (bad_among version (whole_lines rest))
  pub lines_read : List (List ℕ)
  pub lines_left : whole_lines bytes ≡ lines_read ++ whole_lines rest
  pub are_good : bad_among version lines_read ≡ None

pub start : (version : ℕ) (bytes : List ℕ) → Reads version bytes bytes []
start version bytes = record { so_far = refl; torn_left = refl; bad_left = plus_none (bad_among version (whole_lines bytes)); lines_read = []; lines_left = refl; are_good = refl }

records_step : (version : ℕ) (line after : List ℕ) (r : Record) → HasNoFeed line → record_of version line ≡ Some r → records_as version (line ++ 10 ∷ after) ≡ r ∷ records_as version after
unfolding records_as
records_step version line after r h e = ap (filter_map (record_of version)) (line_first line after h) ∙ ap (λ o. cons_option o (filter_map (record_of version) (whole_lines after))) e

bad_step : (version : ℕ) (line after : List ℕ) (r : Record) → HasNoFeed line → record_of version line ≡ Some r → bad_among version (whole_lines (line ++ 10 ∷ after)) ≡ option_map (λ n. n + 1) (bad_among version (whole_lines after))
bad_step version line after r h e = ap (bad_among version) (line_first line after h) ∙ rw e refl

bad_stop : (version : ℕ) (line after : List ℕ) → HasNoFeed line → record_of version line ≡ None → bad_among version (whole_lines (line ++ 10 ∷ after)) ≡ Some 1
bad_stop version line after h e = ap (bad_among version) (line_first line after h) ∙ rw e refl

-- one more that is a record's is good as well
good_more : (version : ℕ) (ls : List (List ℕ)) (line : List ℕ) (r : Record) → bad_among version ls ≡ None → record_of version line ≡ Some r → bad_among version (ls ++ line ∷ []) ≡ None
good_more version [] line r good e = rw e refl
good_more version (l ∷ ls) line r good e = by (record_of version l) good (λ f. good_more version ls line r f e)
  where
    none : (o : Option ℕ) → option_map (λ n. n + 1) o ≡ None → o ≡ None
    none None e = refl
    none (Some n) e = absurd (cc)

    by : (o : Option Record) → cond (is_none o) (Some 1) (option_map (λ n. n + 1) (bad_among version ls)) ≡ None → (bad_among version ls ≡ None → bad_among version (ls ++ line ∷ []) ≡ None) → cond (is_none o) (Some 1) (option_map (λ n. n + 1) (bad_among version (ls ++ line ∷ []))) ≡ None
    by None f go = absurd (cc)
    by (Some q) f go = ap (option_map (λ n. n + 1)) (go (none (bad_among version ls) f))

pub more : (version : ℕ) (bytes rest line after : List ℕ) (rs : List Record) (r : Record) → Reads version bytes rest rs → HasNoFeed line → rest ≡ line ++ 10 ∷ after → Some r ≡ record_of version line → Reads version bytes after (rs ++ r ∷ [])
more version bytes rest line after rs r so h is e = record {
  so_far = so.so_far ∙ ap (λ l. rs ++ records_as version l) is ∙ ap (λ l. rs ++ l) (records_step version line after r h (sym e)) ∙ sym (append_assoc rs (r ∷ []) (records_as version after));
  torn_left = so.torn_left ∙ ap torn_of is ∙ torn_first line after h;
  bad_left = so.bad_left ∙ ap (λ l. option_map (λ n. n + length rs) (bad_among version (whole_lines l))) is ∙ ap (option_map (λ n. n + length rs)) (bad_step version line after r h (sym e)) ∙ plus_more (bad_among version (whole_lines after)) (length rs) (length (rs ++ r ∷ [])) (length-append rs (r ∷ []));
  lines_read = so.lines_read ++ line ∷ [];
  lines_left = so.lines_left ∙ ap (λ l. so.lines_read ++ whole_lines l) is ∙ ap (λ ls. so.lines_read ++ ls) (line_first line after h) ∙ sym (append_assoc so.lines_read (line ∷ []) (whole_lines after));
  are_good = good_more version so.lines_read line r so.are_good (sym e);
}

pub stops : (version : ℕ) (bytes lines rest line after : List ℕ) (rs : List Record) → IsVersion version → version ≡ version_of bytes → bytes ≡ head version ++ lines → Reads version lines rest rs → HasNoFeed line → rest ≡ line ++ 10 ∷ after → None ≡ record_of version line → bad_line bytes ≡ Some (length rs + before version + 1)
stops version bytes lines rest line after rs is shows from so h rest_is e =
    (behind version bytes lines is shows from).bad
    ∙ ap (option_map (λ n. n + before version)) (so.bad_left ∙ ap (λ l. option_map (λ n. n + length rs) (bad_among version (whole_lines l))) rest_is ∙ ap (option_map (λ n. n + length rs)) (bad_stop version line after h (sym e)))
    ∙ ap Some (let k = before version in omega arith)

-- a line that is read in memory
pub takes : (version : ℕ) (bytes lines rest line after : List ℕ) (rs : List Record) → IsVersion version → version ≡ version_of bytes → bytes ≡ head version ++ lines → Reads version lines rest rs → HasNoFeed line → rest ≡ line ++ 10 ∷ after → length line ≤ MAX_LINE_LEN → TakesMemory (version_of bytes) (record_lines (whole_lines bytes))
takes version bytes lines rest line after rs is shows from so h rest_is short = record {
  before = so.lines_read;
  line = line;
  after = whole_lines after;
  are = (behind version bytes lines is shows from).left ∙ so.lines_left ∙ ap (λ l. so.lines_read ++ whole_lines l) rest_is ∙ ap (λ ls. so.lines_read ++ ls) (line_first line after h);
  good = ap (λ v. bad_among v so.lines_read) (sym shows) ∙ so.are_good;
  short = short;
}

none_left : (version : ℕ) (rest : List ℕ) → HasNoFeed rest → (records_as version rest ≡ []) × (bad_among version (whole_lines rest) ≡ None)
unfolding records_as
none_left version rest h = (ap (filter_map (record_of version)) (no_line rest h), ap (bad_among version) (no_line rest h))

pub ends : (version : ℕ) (bytes lines rest : List ℕ) (rs : List Record) → IsVersion version → version ≡ version_of bytes → bytes ≡ head version ++ lines → Reads version lines rest rs → HasNoFeed rest → (bad_line bytes ≡ None) × (version ≡ version_of bytes) × (rs ≡ records_of bytes) × (length rest ≡ length (torn_of bytes))
ends version bytes lines rest rs is shows from so h =
    let none = none_left version rest h in
    let b = behind version bytes lines is shows from in (
      b.bad ∙ ap (option_map (λ n. n + before version)) (so.bad_left ∙ ap (option_map (λ n. n + length rs)) none.1),
      shows,
      sym (b.records ∙ so.so_far ∙ ap (λ l. rs ++ l) none.0 ∙ append-nil rs),
      ap length (sym (b.torn ∙ so.torn_left ∙ all_torn rest h)),
    )

-- ---- bytes without a bad line that tell no record are read without memory

not_nothing : (before after : List (List ℕ)) (line : List ℕ) → [] ≡ before ++ line ∷ after → ⊥
not_nothing [] after line e = cc
not_nothing (l ∷ before) after line e = cc

-- the first of some good lines is a record's
tell_some : (version : ℕ) (ls : List (List ℕ)) → TakesMemory version ls → bad_among version ls ≡ None → filter_map (record_of version) ls ≡ [] → ⊥
tell_some version [] t good none = not_nothing t.before t.after t.line t.are
tell_some version (l ∷ ls) t good none = by (record_of version l) good none
  where
    by : (o : Option Record) → cond (is_none o) (Some 1) (option_map (λ n. n + 1) (bad_among version ls)) ≡ None → cons_option o (filter_map (record_of version) ls) ≡ [] → ⊥
    by None e f = cc
    by (Some r) e f = cc

unmapped : (o : Option ℕ) → option_map (λ n. n + 1) o ≡ None → o ≡ None
unmapped None e = refl
unmapped (Some n) e = absurd (cc)

later_none : (o : Option Record) (rs : List Record) → cons_option o rs ≡ [] → rs ≡ []
later_none None rs e = e
later_none (Some r) rs e = absurd (cc)

lines_tell : (ls : List (List ℕ)) → bad_in ls ≡ None → TakesMemory (version_in ls) (record_lines ls) → filter_map (record_of (version_in ls)) ls ≡ [] → ⊥
lines_tell [] good t none = not_nothing t.before t.after t.line t.are
lines_tell (l ∷ ls) good t none = by (is_text l version_line) good t none
  where
    by : (b : Bool) → cond b (option_map (λ n. n + 1) (bad_among 2 ls)) (bad_among 1 (l ∷ ls)) ≡ None → TakesMemory (cond b 2 1) (cond b ls (l ∷ ls)) → filter_map (record_of (cond b 2 1)) (l ∷ ls) ≡ [] → ⊥
    by true g t n = tell_some 2 ls t (unmapped (bad_among 2 ls) g) (later_none (record_of 2 l) (filter_map (record_of 2) ls) n)
    by false g t n = tell_some 1 (l ∷ ls) t g n

pub takes_some : (bytes : List ℕ) → bad_line bytes ≡ None → Replays bytes (Err NoMemory) → records_of bytes ≡ [] → ⊥
unfolding bad_line version_of records_as
takes_some bytes good t none = lines_tell (whole_lines bytes) good t none
