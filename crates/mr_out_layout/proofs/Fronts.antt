-- What was read of segments and notes, and plain texts.
use Rattle.std.proofs.Common.{◌≡◌, ◌⊎◌, ◌+◌, ◌-◌, ◌<◌, ℕ, Bool, true, Result, Ok, Err, IsErrAnd, IfErr, List, [], ◌∷◌, ◌++◌, length, codes, inl, inr, refl, sym, ap, subst, ◌∙◌, arith}
use Rattle.std.proofs.lemmas.Bool.Decides.{nat_tests}
use Rattle.std.specs.List.{list_all, AllByRecursion}
use Rattle.std.specs.Prelude.{encode_utf8}
use Rattle.std.proofs.lemmas.Str.Ascii.{encode_ascii}
use Rattle.std.proofs.lemmas.List.Folds.{list_all-append}
use Rattle.std.proofs.lemmas.List.{length-append}
use Rattle.mr_history.specs.declared.record.Record.{Record}
use Rattle.mr_history.specs.Line.{lines, IsRecordOf}
use Rattle.mr_history.proofs.Tellings.{all_append}
use Rattle.mr_ids.specs.Text.{numeral}
use Rattle.mr_out_layout.specs.declared.fault.Fault.{Fault}
use Rattle.mr_out_layout.specs.declared.fault.Fault.TheVariants as fault
use Rattle.mr_out_layout.specs.declared.fault.Why.TheVariants.{OtherVersion, Damaged, NoFile}
use Rattle.mr_out_layout.specs.Faults.{IsFailure, IsRefusal}
use Rattle.mr_out_layout.specs.Notes.{IsNoteOf}
use Rattle.mr_out_layout.specs.Recorded.{IsSegmentFault, IsGap, IsHistoryFault, IsReadingFault}
use Rattle.mr_out_layout.specs.Layout.{is_suffix_byte, segment_path, IsPlain}
use Rattle.mr_out_layout.specs.Segments.{Splits, Tells}
use Rattle.mr_out_layout.specs.declared.segments.Told.{Told}

-- the lines have as many bytes as all without the end
pub front_len : (bytes rest : List ℕ) (rs : List Record) → Splits bytes rs rest → length bytes - length rest ≡ length (lines rs)
front_len bytes rest rs s =
    let all : length bytes ≡ length (lines rs) + length rest = ap length s.are ∙ length-append (lines rs) rest in
    omega arith

-- one more in a list of which all are such
pub all_more : {X : Type 0} (P : X → Type 0) (xs : List X) (x : X) → AllByRecursion P xs → P x → AllByRecursion P (xs ++ x ∷ [])
all_more P [] x h k = (k, tt)
all_more P (y ∷ xs) x h k = (h.0, all_more P xs x h.1 k)

-- one more byte that is plain
small : (b : ℕ) → is_suffix_byte b ≡ true → b < 128
small b h = grind (arith, nat_tests)

pub plain_more : (text new : List ℕ) (b : ℕ) → IsPlain text → is_suffix_byte b ≡ true → new ≡ text ++ encode_utf8 b → IsPlain new
plain_more text new b h k e =
    let one : new ≡ text ++ b ∷ [] = e ∙ ap (λ (x : List ℕ). text ++ x) (encode_ascii b (small b k)) in
    ap (list_all is_suffix_byte) one ∙ list_all-append is_suffix_byte text (b ∷ []) ∙ rw (h, k) refl

-- ---- notes

pub noted : (boot changed text : List ℕ) (disk file len size : ℕ) → size ≡ len
    → text ≡ boot ++ (codes " " ++ (numeral 20 disk ++ (codes " " ++ (numeral 20 file ++ (codes " " ++ (numeral 20 size ++ (codes " " ++ changed))))))) → IsNoteOf boot len text
noted boot changed text disk file len size same is = record {
  disk = disk;
  file = file;
  changed = changed;
  is = is ∙ ap (λ (n : ℕ). boot ++ (codes " " ++ (numeral 20 disk ++ (codes " " ++ (numeral 20 file ++ (codes " " ++ (numeral 20 n ++ (codes " " ++ changed)))))))) same;
}

-- ---- what segments tell, one behind the other

pub all_joined : (rs told new : List Record) → AllByRecursion (IsRecordOf 1) rs → AllByRecursion (IsRecordOf 1) told → new ≡ rs ++ told → AllByRecursion (IsRecordOf 1) new
all_joined rs told new h k e = subst (λ (xs : List Record). AllByRecursion (IsRecordOf 1) xs) (sym e) (all_append (IsRecordOf 1) rs told h k)

pub told_records : (head : Bool) (bytes : List ℕ) (told : Told) → Tells head bytes (Ok told) → AllByRecursion (IsRecordOf 1) told.records
told_records head bytes told (end, (splits, torn, damage)) = splits.records

-- a fault that is handed on
pub carried : {A : Type 0} (P : Fault → Type 0) (r : Result A Fault) (f : Fault) → IsErrAnd r (λ e. e ≡ f) → P f → IfErr r P
carried P (Ok x) f e h = absurd e
carried P (Err g) f e h = subst P (sym e) h

-- a folder that is opened, and then synced
pub synced_last : {T : Type 0} (path : List ℕ) (r : Result T Fault) → IfErr r (IsFailure (codes "sync") path) → IfErr r (λ f. IsFailure (codes "open") path f ⊎ IsFailure (codes "sync") path f)
synced_last path (Ok x) h = tt
synced_last path (Err f) h = inr h

-- ---- why a segment can't be told

pub memory_segment : (n : ℕ) (f : Fault) → f ≡ fault.NoMemory → IsSegmentFault n f
memory_segment n f e = inl (subst (λ (x : Fault). IsFailure (codes "read") (segment_path n) x) (sym e) tt)

pub unread_segment : (n : ℕ) (path : List ℕ) (f : Fault) → path ≡ segment_path n → IsFailure (codes "read") path f → IsSegmentFault n f
unread_segment n path f is h = inl (subst (λ (p : List ℕ). IsFailure (codes "read") p f) is h)

pub damaged_segment : (n : ℕ) (path : List ℕ) (line : ℕ) (f : Fault) → path ≡ segment_path n → IsRefusal path (Damaged line) f → IsSegmentFault n f
damaged_segment n path line f is h = inr (line, subst (λ (p : List ℕ). IsRefusal p (Damaged line) f) is h)

-- ---- why one is missing

pub memory_gap : (n : ℕ) (f : Fault) → f ≡ fault.NoMemory → IsGap n f
memory_gap n f e = inl (subst (λ (x : Fault). IsFailure (codes "list") (codes "_mrout") x) (sym e) tt)

pub list_gap : (n : ℕ) (f : Fault) → IsFailure (codes "list") (codes "_mrout") f → IsGap n f
list_gap n f h = inl h

pub missing_gap : (n : ℕ) (path : List ℕ) (f : Fault) → path ≡ segment_path n → IsRefusal path NoFile f → IsGap n f
missing_gap n path f is h = inr (subst (λ (p : List ℕ). IsRefusal p NoFile f) is h)

-- ---- why a history can't be told

pub memory_history : (f : Fault) → f ≡ fault.NoMemory → IsHistoryFault f
memory_history f e = (0, inl (memory_segment 0 f e))

pub segment_history : (n : ℕ) (f : Fault) → IsSegmentFault n f → IsHistoryFault f
segment_history n f h = (n, inl h)

pub gap_history : (n : ℕ) (f : Fault) → IsGap n f → IsHistoryFault f
gap_history n f h = (n, inr h)

-- ---- why a directory can't be read

pub memory_reading : (dir : List ℕ) (f : Fault) → f ≡ fault.NoMemory → IsReadingFault dir f
memory_reading dir f e = inr (inl (memory_history f e))

pub look_reading : (dir path : List ℕ) (f : Fault) → path ≡ dir ++ codes "/_mrout" → IsFailure (codes "look") path f → IsReadingFault dir f
look_reading dir path f is h = inl (inl (subst (λ (p : List ℕ). IsFailure (codes "look") p f) is h))

pub read_reading : (dir : List ℕ) (f : Fault) → IsFailure (codes "read") (codes "_mrout/job") f → IsReadingFault dir f
read_reading dir f h = inl (inr (inl h))

pub job_reading : (dir : List ℕ) (f : Fault) → IsRefusal (codes "_mrout/job") OtherVersion f → IsReadingFault dir f
job_reading dir f h = inl (inr (inr h))

pub history_reading : (dir : List ℕ) (f : Fault) → IsHistoryFault f → IsReadingFault dir f
history_reading dir f h = inr (inl h)

pub list_reading : (dir : List ℕ) (f : Fault) → IsFailure (codes "list") (codes "_mrout/kept") f → IsReadingFault dir f
list_reading dir f h = inr (inr h)
