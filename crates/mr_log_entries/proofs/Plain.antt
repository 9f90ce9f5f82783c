-- Which bytes an entry's text has.
use Rattle.std.proofs.Common.{◌≡◌, ◌<◌, ◌≤◌, ℕ, true, false, List, [], ◌∷◌, ◌++◌, length, map, codes, refl, sym, ap, ◌∙◌, arith, length-append, true≢false}
use Rattle.std.specs.List.{list_all}
use Rattle.std.specs.Int.Digits.{AllBelowBase}
use Rattle.std.proofs.lemmas.Bool.{and_parts}
use Rattle.std.proofs.lemmas.Bool.Decides.{nat_tests}
use Rattle.std.proofs.lemmas.List.Folds.{list_all-append}
use Rattle.mr_history.proofs.Cuts.{Lacks}
use Rattle.mr_ids.specs.Attempt.{Attempt}
use Rattle.mr_log_entries.specs.declared.entry.Entry.{Entry}
use Rattle.mr_log_entries.specs.declared.entry.Origin.{Origin}
use Rattle.mr_log_entries.specs.declared.line.Handed.{Handed}
use Rattle.mr_log_entries.specs.declared.line.Handed.TheVariants.{File, Folder}
use Rattle.mr_log_entries.specs.declared.line.Line.{Line}
use Rattle.mr_log_entries.specs.declared.line.Line.TheVariants.{Started, Won, Failed, Interrupted, Unsuccessful, Publish, Published}
use Rattle.mr_log_entries.specs.Numerals.{digit_byte, number_text}
use Rattle.mr_log_entries.specs.Texts.{attempt_name, handed_text, line_text, lines_text, origin_text, entry_text, is_link_byte, IsLinkText}
use Rattle.mr_log_entries.proofs.Digits.{spelled}

abbrev IsPlain : List ℕ → Type 0
IsPlain text = list_all is_link_byte text ≡ true

both : (xs ys : List ℕ) → IsPlain xs → IsPlain ys → IsPlain (xs ++ ys)
both xs ys g h = list_all-append is_link_byte xs ys ∙ rw (g, h) refl

plain_digit : (d : ℕ) → d < 64 → is_link_byte (digit_byte d) ≡ true
plain_digit d less = grind (arith, nat_tests)

digits_plain : (base : ℕ) (ds : List ℕ) → base ≤ 64 → AllBelowBase base ds → IsPlain (map digit_byte ds)
digits_plain base [] high below = refl
digits_plain base (d ∷ ds) high below = let less : d < base = below.0 in let one = plain_digit d (omega arith) in rw one (digits_plain base ds high below.1)

number_plain : (base n : ℕ) → 2 ≤ base → base ≤ 64 → IsPlain (number_text base n)
number_plain base n low high = let s = spelled base n low in ap (list_all is_link_byte) s.is ∙ digits_plain base s.digits high s.below

name_plain : (a : Attempt) → IsPlain (attempt_name a)
name_plain a = both (number_text 10 a.task.number) (46 ∷ number_text 10 a.number) (number_plain 10 a.task.number (omega arith) (omega arith)) (number_plain 10 a.number (omega arith) (omega arith))

handed_plain : (h : Handed) → IsPlain (handed_text h)
handed_plain (File inode bytes) = both (number_text 64 bytes) (32 ∷ number_text 64 inode) (number_plain 64 bytes (omega arith) (omega arith)) (number_plain 64 inode (omega arith) (omega arith))
handed_plain (Folder bytes) = number_plain 64 bytes (omega arith) (omega arith)

line_plain : (line : Line) → IsPlain (line_text line)
unfolding line_text
line_plain (Started a) = both (codes "started ") (attempt_name a) refl (name_plain a)
line_plain (Won a h) = both (codes "won ") (attempt_name a ++ 32 ∷ handed_text h) refl (both (attempt_name a) (32 ∷ handed_text h) (name_plain a) (handed_plain h))
line_plain (Failed a) = both (codes "failed ") (attempt_name a) refl (name_plain a)
line_plain (Interrupted a) = both (codes "interrupted ") (attempt_name a) refl (name_plain a)
line_plain Unsuccessful = refl
line_plain Publish = refl
line_plain Published = refl

lines_plain : (lines : List Line) → IsPlain (lines_text lines)
unfolding lines_text
lines_plain [] = refl
lines_plain (line ∷ lines) = both (line_text line) (59 ∷ lines_text lines) (line_plain line) (lines_plain lines)

origin_plain : (o : Origin) → IsPlain (origin_text o)
unfolding origin_text
origin_plain o =
    both (number_text 64 o.boot) (32 ∷ (number_text 64 o.time ++ 32 ∷ number_text 64 o.id)) (number_plain 64 o.boot (omega arith) (omega arith))
    (both (number_text 64 o.time) (32 ∷ number_text 64 o.id) (number_plain 64 o.time (omega arith) (omega arith)) (number_plain 64 o.id (omega arith) (omega arith)))

some_origin : (o : Origin) → 0 < length (origin_text o)
unfolding origin_text
some_origin o = let l = length-append (number_text 64 o.boot) (32 ∷ (number_text 64 o.time ++ 32 ∷ number_text 64 o.id)) in omega arith

pub entry_plain : (e : Entry) → IsLinkText (entry_text e)
entry_plain e = record {
  some = let l = length-append (lines_text e.lines) (origin_text e.origin) in let o = some_origin e.origin in omega arith;
  bytes = both (lines_text e.lines) (origin_text e.origin) (lines_plain e.lines) (origin_plain e.origin);
}

-- a byte that a link does not have
plain_lacks : (b : ℕ) (text : List ℕ) → is_link_byte b ≡ false → IsPlain text → Lacks b text
plain_lacks b [] other h = tt
plain_lacks b (x ∷ text) other h =
    let p = and_parts (is_link_byte x) (list_all is_link_byte text) h in
    (λ e. true≢false (sym p.0 ∙ ap is_link_byte e ∙ other), plain_lacks b text other p.1)

-- so an entry is one line of a file
pub entry_lacks : (e : Entry) → Lacks 10 (entry_text e)
entry_lacks e = plain_lacks 10 (entry_text e) refl (entry_plain e).bytes
