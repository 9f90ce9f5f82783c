-- The word that names an attempt: it has no space, it is ASCII, and it names no other attempt.
use Rattle.std.proofs.Common.{◌≡◌, ◌≢◌, ◌<◌, ℕ, Bool, true, false, List, [], ◌∷◌, ◌++◌, ◌&&◌, refl, sym, ap, ◌∙◌, arith}
use Rattle.std.specs.Prelude.{nat_lt, codes, slice_index}
use Rattle.std.specs.List.{AllByRecursion, list_all}
use Rattle.std.specs.Char.{is_ascii_digit}
use Rattle.std.specs.Str.{IsAscii}
use Rattle.std.proofs.lemmas.List.Folds.{list_all-append}
use Rattle.std.proofs.lemmas.Str.Ascii.{IsAscii-nil, IsAscii-cons}
use Rattle.std.proofs.lemmas.Bool.Decides.{nat_tests}
use Rattle.mr_ids.specs.Attempt.{Attempt}
use Rattle.mr_ids.specs.Text.{numeral, letter, attempt_text}
use Rattle.mr_ids.specs.declared.id.TaskKind.{TaskKind}
use Rattle.mr_ids.specs.declared.id.TaskKind.TheVariants.{Map, Reduce}
use Rattle.mr_ids.proofs.Numerals.{numeral_digits}
use Rattle.mr_ids.proofs.Texts.{attempt_text_injective}
use Rattle.mr_script.specs.Words.{attempt_word}

-- more than a space, and ASCII
abbrev pub plain : ℕ → Bool
plain b = nat_lt 32 b && nat_lt b 128

plain_digit : (b : ℕ) → is_ascii_digit b ≡ true → plain b ≡ true
plain_digit b h = grind (arith, nat_tests)

both : (a b : Bool) → a ≡ true → b ≡ true → (a && b) ≡ true
both true true g h = refl
both true false g h = h
both false b g h = g

first : (a b : Bool) → (a && b) ≡ true → a ≡ true
first true b h = refl
first false b h = h

second : (a b : Bool) → (a && b) ≡ true → b ≡ true
second true b h = h
second false b h = absurd (cc)

plain_digits : (ds : List ℕ) → list_all is_ascii_digit ds ≡ true → list_all plain ds ≡ true
plain_digits [] h = refl
plain_digits (d ∷ ds) h = both (plain d) (list_all plain ds) (plain_digit d (first (is_ascii_digit d) (list_all is_ascii_digit ds) h)) (plain_digits ds (second (is_ascii_digit d) (list_all is_ascii_digit ds) h))

pub plain_numeral : (width n : ℕ) → list_all plain (numeral width n) ≡ true
plain_numeral width n = plain_digits (numeral width n) (numeral_digits width n)

pub plain_letter : (k : TaskKind) → list_all plain (letter k) ≡ true
plain_letter Map = refl
plain_letter Reduce = refl

pub more : (xs ys : List ℕ) → list_all plain xs ≡ true → list_all plain ys ≡ true → list_all plain (xs ++ ys) ≡ true
more xs ys g h = list_all-append plain xs ys ∙ both _ _ g h

plain_text : (a : Attempt) → list_all plain (attempt_text a) ≡ true
plain_text a =
    let e = plain_numeral 1 a.number in
    let d = more (numeral 6 a.task.number) (95 ∷ numeral 1 a.number) (plain_numeral 6 a.task.number) e in
    let c = more (letter a.task.kind) (95 ∷ (numeral 6 a.task.number ++ 95 ∷ numeral 1 a.number)) (plain_letter a.task.kind) d in
    let b = more (numeral 4 a.task.job.number) (95 ∷ (letter a.task.kind ++ 95 ∷ (numeral 6 a.task.number ++ 95 ∷ numeral 1 a.number))) (plain_numeral 4 a.task.job.number) c in
    more (numeral 1 a.task.job.start) (95 ∷ (numeral 4 a.task.job.number ++ 95 ∷ (letter a.task.kind ++ 95 ∷ (numeral 6 a.task.number ++ 95 ∷ numeral 1 a.number)))) (plain_numeral 1 a.task.job.start) b

pub no_space : (bs : List ℕ) → list_all plain bs ≡ true → AllByRecursion (λ b. b ≢ 32) bs
no_space [] h = tt
no_space (b ∷ bs) h = (here b (first (plain b) (list_all plain bs) h), no_space bs (second (plain b) (list_all plain bs) h))
  where
    here : (c : ℕ) → plain c ≡ true → c ≢ 32
    here c g = λ is. let q : plain 32 ≡ true = ap plain (sym is) ∙ g in absurd (cc q)

below : (b : ℕ) → plain b ≡ true → b < 128
below b h = grind (arith, nat_tests)

pub ascii : (bs : List ℕ) → list_all plain bs ≡ true → IsAscii bs
ascii [] h = IsAscii-nil
ascii (b ∷ bs) h = IsAscii-cons b bs (below b (first (plain b) (list_all plain bs) h)) (ascii bs (second (plain b) (list_all plain bs) h))

pub no_space-attempt_word : (a : Attempt) → AllByRecursion (λ b. b ≢ 32) (attempt_word a)
unfolding attempt_word
no_space-attempt_word a = no_space (attempt_text a) (plain_text a)

pub IsAscii-attempt_word : (a : Attempt) → IsAscii (attempt_word a)
unfolding attempt_word
IsAscii-attempt_word a = ascii (attempt_text a) (plain_text a)

pub attempt_word-injective : (a b : Attempt) → attempt_word a ≡ attempt_word b → a ≡ b
unfolding attempt_word
attempt_word-injective a b e = attempt_text_injective a b e

-- no attempt is named as the lack of one is
pub attempt_word-none : (a : Attempt) → attempt_word a ≢ codes "none"
unfolding attempt_word
attempt_word-none a e = let clash : ◌≡◌ {A = ℕ} 97 110 = ap (λ w. slice_index w 0) e in absurd (cc)
