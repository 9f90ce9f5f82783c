-- Which bytes the parts of an entry's text lack.
use Rattle.std.proofs.Common.{◌≡◌, ◌≢◌, ◌<◌, ◌≤◌, ℕ, List, [], ◌∷◌, ◌++◌, map, sym, subst, arith, codes, rules, inl, inr, ◌⊎◌}
use Rattle.std.specs.Int.Digits.{AllBelowBase}
use Rattle.std.proofs.lemmas.Bool.Decides.{nat_tests}
use Rattle.mr_history.proofs.Cuts.{Lacks, no_cut}
use Rattle.mr_ids.specs.Attempt.{Attempt}
use Rattle.mr_log_entries.specs.declared.line.Handed.{Handed}
use Rattle.mr_log_entries.specs.declared.line.Handed.TheVariants.{File, Folder}
use Rattle.mr_log_entries.specs.declared.line.Line.{Line}
use Rattle.mr_log_entries.specs.declared.line.Line.TheVariants.{Started, Won, Failed, Interrupted, Unsuccessful, Publish, Published}
use Rattle.mr_log_entries.specs.declared.entry.Origin.{Origin}
use Rattle.mr_log_entries.specs.Numerals.{digit_byte, number_text}
use Rattle.mr_log_entries.specs.Texts.{attempt_name, handed_text, line_text, origin_text}
use Rattle.mr_log_entries.proofs.Digits.{spelled}

-- a byte that stands for no digit
abbrev pub IsApart : ℕ → Type 0
IsApart b = (d : ℕ) → d < 64 → digit_byte d ≢ b

pub blank : IsApart 32
blank d less is = grind (arith, nat_tests)

pub stop : IsApart 46
stop d less is = grind (arith, nat_tests)

pub semicolon : IsApart 59
semicolon d less is = grind (arith, nat_tests)

pub both_lack : (b : ℕ) (xs ys : List ℕ) → Lacks b xs → Lacks b ys → Lacks b (xs ++ ys)
both_lack b [] ys g h = h
both_lack b (x ∷ xs) ys g h = (g.0, both_lack b xs ys g.1 h)

digits_lack : (b base : ℕ) (ds : List ℕ) → IsApart b → base ≤ 64 → AllBelowBase base ds → Lacks b (map digit_byte ds)
digits_lack b base [] apart high below = tt
digits_lack b base (d ∷ ds) apart high below = let less : d < base = below.0 in (apart d (omega arith), digits_lack b base ds apart high below.1)

pub number_lacks : (b base n : ℕ) → IsApart b → 2 ≤ base → base ≤ 64 → Lacks b (number_text base n)
number_lacks b base n apart low high = let s = spelled base n low in subst (Lacks b) (sym s.is) (digits_lack b base s.digits apart high s.below)

pub name_lacks : (b : ℕ) (a : Attempt) → IsApart b → 46 ≢ b → Lacks b (attempt_name a)
name_lacks b a apart stop =
    both_lack b (number_text 10 a.task.number) (46 ∷ number_text 10 a.number) (number_lacks b 10 a.task.number apart (omega arith) (omega arith)) (stop, number_lacks b 10 a.number apart (omega arith) (omega arith))

pub pair_lacks : (b base m between n : ℕ) → IsApart b → between ≢ b → 2 ≤ base → base ≤ 64 → Lacks b (number_text base m ++ between ∷ number_text base n)
pair_lacks b base m between n apart other low high =
    both_lack b (number_text base m) (between ∷ number_text base n) (number_lacks b base m apart low high) (other, number_lacks b base n apart low high)

handed_lacks : (h : Handed) → Lacks 59 (handed_text h)
handed_lacks (File inode bytes) = pair_lacks 59 64 bytes 32 inode semicolon (λ e. omega (arith, e)) (omega arith) (omega arith)
handed_lacks (Folder bytes) = number_lacks 59 64 bytes semicolon (omega arith) (omega arith)

own_name : (a : Attempt) → Lacks 59 (attempt_name a)
own_name a = name_lacks 59 a semicolon (λ e. omega (arith, e))

pub line_lacks : (line : Line) → Lacks 59 (line_text line)
unfolding line_text
line_lacks (Started a) = both_lack 59 (codes "started ") (attempt_name a) (search rules) (own_name a)
line_lacks (Won a h) = both_lack 59 (codes "won ") (attempt_name a ++ 32 ∷ handed_text h) (search rules) (both_lack 59 (attempt_name a) (32 ∷ handed_text h) (own_name a) ((λ e. omega (arith, e)), handed_lacks h))
line_lacks (Failed a) = both_lack 59 (codes "failed ") (attempt_name a) (search rules) (own_name a)
line_lacks (Interrupted a) = both_lack 59 (codes "interrupted ") (attempt_name a) (search rules) (own_name a)
line_lacks Unsuccessful = search rules
line_lacks Publish = search rules
line_lacks Published = search rules

pub origin_lacks : (o : Origin) → Lacks 59 (origin_text o)
unfolding origin_text
origin_lacks o =
    both_lack 59 (number_text 64 o.boot) (32 ∷ (number_text 64 o.time ++ 32 ∷ number_text 64 o.id)) (number_lacks 59 64 o.boot semicolon (omega arith) (omega arith))
    ((λ e. omega (arith, e)), pair_lacks 59 64 o.time 32 o.id semicolon (λ e. omega (arith, e)) (omega arith) (omega arith))

-- a byte below the hyphen, or a full stop, stands for no digit
pub is_apart : (b : ℕ) → b < 45 ⊎ b ≡ 46 → IsApart b
is_apart b (inl low) d less is = grind (arith, nat_tests)
is_apart b (inr stop) d less is = grind (arith, nat_tests)

-- a number is no pair of them
pub no_pair : (m n : ℕ) (rest : List ℕ) → number_text 64 m ≡ number_text 64 n ++ 32 ∷ rest → ⊥
no_pair m n rest e = no_cut 32 (number_text 64 n) rest (subst (Lacks 32) e (number_lacks 32 64 m blank (omega arith) (omega arith)))
