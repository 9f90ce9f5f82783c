-- How many bytes a text has.
use Rattle.std.proofs.Common.{◌≡◌, ◌<◌, ◌≤◌, ◌+◌, ◌^◌, ℕ, zero, suc, List, [], ◌∷◌, ◌++◌, length, map, refl, ap, ◌∙◌, arith, length-append, codes}
use Rattle.std.specs.Int.Digits.{digits_of}
use Rattle.std.proofs.lemmas.List.{length-map}
use Rattle.std.proofs.lemmas.Int.Digits.{length-digits_of-le}
use Rattle.mr_ids.specs.Attempt.{Attempt}
use Rattle.mr_log_entries.specs.declared.line.Line.{Line}
use Rattle.mr_log_entries.specs.declared.line.Line.TheVariants.{Started, Won, Failed, Interrupted, Unsuccessful, Publish, Published}
use Rattle.mr_log_entries.specs.declared.line.Handed.{Handed}
use Rattle.mr_log_entries.specs.declared.line.Handed.TheVariants.{File, Folder}
use Rattle.mr_log_entries.specs.Numerals.{digit_byte, number_text}
use Rattle.mr_ids.specs.declared.id.JobId.{JobId}
use Rattle.mr_log_entries.specs.declared.entry.Entry.{Entry}
use Rattle.mr_log_entries.specs.declared.entry.Origin.{Origin}
use Rattle.mr_log_entries.specs.Texts.{attempt_name, handed_text, line_text, lines_text, origin_text, entry_text, IsAttemptOf, IsHanded, IsLineOf, IsOrigin, IsUsualName, IsUsualSize, IsUsual}

pub number_fits : (base most n : ℕ) → 2 ≤ base → 1 ≤ most → n < base ^ most → length (number_text base n) ≤ most
unfolding number_text
number_fits base most zero two some less = some
number_fits base most (suc n) two some less =
    let same : length (map digit_byte (digits_of base (suc n))) ≡ length (digits_of base (suc n)) = length-map (digits_of base (suc n)) digit_byte in
    let few = length-digits_of-le base most (suc n) two less in
    omega arith

pub length-pair : (base m between n : ℕ) → length (number_text base m ++ between ∷ number_text base n) ≡ length (number_text base m) + 1 + length (number_text base n)
length-pair base m between n = let l = length-append (number_text base m) (between ∷ number_text base n) in omega arith

pub length-started : (a : Attempt) → length (line_text (Started a)) ≡ 8 + length (attempt_name a)
unfolding line_text
length-started a = length-append (codes "started ") (attempt_name a)

pub length-won : (a : Attempt) (h : Handed) → length (line_text (Won a h)) ≡ 5 + length (attempt_name a) + length (handed_text h)
unfolding line_text
length-won a h = let front = length-append (codes "won ") (attempt_name a ++ 32 ∷ handed_text h) in let back = length-append (attempt_name a) (32 ∷ handed_text h) in omega arith

pub length-failed : (a : Attempt) → length (line_text (Failed a)) ≡ 7 + length (attempt_name a)
unfolding line_text
length-failed a = length-append (codes "failed ") (attempt_name a)

pub length-interrupted : (a : Attempt) → length (line_text (Interrupted a)) ≡ 12 + length (attempt_name a)
unfolding line_text
length-interrupted a = length-append (codes "interrupted ") (attempt_name a)

pub length-unsuccessful : length (line_text Unsuccessful) ≡ 12
unfolding line_text
length-unsuccessful = refl

pub length-publish : length (line_text Publish) ≡ 7
unfolding line_text
length-publish = refl

pub length-published : length (line_text Published) ≡ 9
unfolding line_text
length-published = refl

-- ---- how few there are

name_fits : (a : Attempt) (m n : ℕ) → 1 ≤ m → 1 ≤ n → a.task.number < 10 ^ m → a.number < 10 ^ n → length (attempt_name a) ≤ m + 1 + n
name_fits a m n some more task number =
    let l = length-pair 10 a.task.number 46 a.number in
    let first = number_fits 10 m a.task.number (omega arith) some task in
    let second = number_fits 10 n a.number (omega arith) more number in
    omega arith

handed_fits : (h : Handed) → IsHanded h → length (handed_text h) ≤ 23
handed_fits (File inode bytes) h =
    let few = h.0 in
    let small = h.1 in
    let l = length-pair 64 bytes 32 inode in
    let first = number_fits 64 11 bytes (omega arith) (omega arith) (omega arith) in
    let second = number_fits 64 11 inode (omega arith) (omega arith) (omega arith) in
    omega arith
handed_fits (Folder bytes) h = let first = number_fits 64 11 bytes (omega arith) (omega arith) (omega arith) in omega arith

own_name_fits : (j : JobId) (a : Attempt) → IsAttemptOf j a → length (attempt_name a) ≤ 17
own_name_fits j a of = let task = of.task in let number = of.number in name_fits a 10 6 (omega arith) (omega arith) (omega arith) (omega arith)

pub line_fits : (j : JobId) (line : Line) → IsLineOf j line → length (line_text line) < 46
line_fits j (Started a) of = let l = length-started a in let n = own_name_fits j a of in omega arith
line_fits j (Won a h) of = let l = length-won a h in let n = own_name_fits j a of.0 in let s = handed_fits h of.1 in omega arith
line_fits j (Failed a) of = let l = length-failed a in let n = own_name_fits j a of in omega arith
line_fits j (Interrupted a) of = let l = length-interrupted a in let n = own_name_fits j a of in omega arith
line_fits j Unsuccessful of = let l = length-unsuccessful in omega arith
line_fits j Publish of = let l = length-publish in omega arith
line_fits j Published of = let l = length-published in omega arith

length-origin : (o : Origin) → length (origin_text o) ≡ length (number_text 64 o.boot) + 1 + length (number_text 64 o.time) + 1 + length (number_text 64 o.id)
unfolding origin_text
length-origin o =
    let front = length-append (number_text 64 o.boot) (32 ∷ (number_text 64 o.time ++ 32 ∷ number_text 64 o.id)) in
    let back = length-pair 64 o.time 32 o.id in
    omega arith

pub origin_fits : (o : Origin) (most : ℕ) → 1 ≤ most → IsOrigin o → o.time < 64 ^ most → length (origin_text o) ≤ 24 + most
origin_fits o most some is few =
    let l = length-origin o in
    let boot_range = is.boot in
    let id_range = is.id in
    let boot = number_fits 64 11 o.boot (omega arith) (omega arith) (omega arith) in
    let time = number_fits 64 most o.time (omega arith) some few in
    let id = number_fits 64 11 o.id (omega arith) (omega arith) (omega arith) in
    omega arith

usual_name_fits : (a : Attempt) → IsUsualName a → length (attempt_name a) ≤ 7
usual_name_fits a h = let task = h.0 in let number = h.1 in name_fits a 5 1 (omega arith) (omega arith) (omega arith) (omega arith)

usual_size_fits : (h : Handed) → IsUsualSize h → length (handed_text h) ≤ 15
usual_size_fits (File inode bytes) h =
    let few = h.0 in
    let small = h.1 in
    let l = length-pair 64 bytes 32 inode in
    let first = number_fits 64 7 bytes (omega arith) (omega arith) (omega arith) in
    let second = number_fits 64 7 inode (omega arith) (omega arith) (omega arith) in
    omega arith
usual_size_fits (Folder bytes) h = let first = number_fits 64 7 bytes (omega arith) (omega arith) (omega arith) in omega arith

usual_line_fits : (line : Line) → IsUsual line → length (line_text line) ≤ 27
usual_line_fits (Started a) h = let l = length-started a in let n = usual_name_fits a h in omega arith
usual_line_fits (Won a h) u = let l = length-won a h in let n = usual_name_fits a u.0 in let s = usual_size_fits h u.1 in omega arith
usual_line_fits (Failed a) h = let l = length-failed a in let n = usual_name_fits a h in omega arith
usual_line_fits (Interrupted a) h = let l = length-interrupted a in let n = usual_name_fits a h in omega arith
usual_line_fits Unsuccessful h = let l = length-unsuccessful in omega arith
usual_line_fits Publish h = let l = length-publish in omega arith
usual_line_fits Published h = let l = length-published in omega arith

one_line : (line : Line) → length (lines_text (line ∷ [])) ≡ length (line_text line) + 1
unfolding lines_text
one_line line = length-append (line_text line) (59 ∷ [])

pub usual_fits : (e : Entry) (line : Line) → e.lines ≡ line ∷ [] → IsUsual line → IsOrigin e.origin → e.origin.time < 2 ^ 42 → length (entry_text e) ≤ 59
usual_fits e line is usual origin early =
    let lines : length (lines_text e.lines) ≡ length (line_text line) + 1 = ap (λ (ls : List Line). length (lines_text ls)) is ∙ one_line line in
    let l = length-append (lines_text e.lines) (origin_text e.origin) in
    let own = usual_line_fits line usual in
    let from = origin_fits e.origin 7 (omega arith) origin (omega arith) in
    omega arith
