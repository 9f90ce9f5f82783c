-- What bytes the text of an attempt has, and how many.
use Rattle.std.proofs.Common.{◌≡◌, ◌+◌, ℕ, Bool, true, false, ◌&&◌, ◌||◌, List, [], ◌∷◌, ◌++◌, length, refl, sym, ap, ◌∙◌, arith, true≢false, length-append, Some}
use Rattle.std.specs.List.{list_all}
use Rattle.std.specs.Char.{is_ascii_alphanumeric, is_ascii_digit}
use Rattle.std.proofs.lemmas.List.Folds.{list_all-append}
use Rattle.mr_ids.specs.Attempt.{Attempt}
use Rattle.mr_ids.specs.declared.id.TaskKind.{TaskKind}
use Rattle.mr_ids.specs.declared.id.TaskKind.TheVariants.{Map, Reduce}
use Rattle.mr_ids.specs.Text.{numeral, letter, is_bar, attempt_text}
use Rattle.mr_ids.proofs.Numerals.{numeral_digits}
use Rattle.mr_ids.proofs.Texts.{digits_value-numeral, split-attempt_text}
use Rattle.mr_history.specs.Reading.{kind_told, attempt_told, attempt_from}

-- ---- the attempt is told by its text

kind-letter : (k : TaskKind) → kind_told (letter k) ≡ k
kind-letter Map = refl
kind-letter Reduce = refl

pub attempt-text : (a : Attempt) → attempt_told (attempt_text a) ≡ Some a
attempt-text a =
    ap attempt_from (split-attempt_text a)
    ∙ rw (digits_value-numeral 1 a.task.job.start, digits_value-numeral 4 a.task.job.number, kind-letter a.task.kind, digits_value-numeral 6 a.task.number, digits_value-numeral 1 a.number) refl

-- ---- its bytes are letters, digits and bars

abbrev pub plain : ℕ → Bool
plain b = is_ascii_alphanumeric b || is_bar b

both : (p : ℕ → Bool) (xs ys : List ℕ) → list_all p xs ≡ true → list_all p ys ≡ true → list_all p (xs ++ ys) ≡ true
both p xs ys h k = list_all-append p xs ys ∙ rw (h, k) refl

digits_plain : (bs : List ℕ) → list_all is_ascii_digit bs ≡ true → list_all plain bs ≡ true
digits_plain [] h = refl
digits_plain (b ∷ bs) h = by (is_ascii_digit b) refl h (digits_plain bs)
  where
    by : (t : Bool) → is_ascii_digit b ≡ t → (t && list_all is_ascii_digit bs) ≡ true → (list_all is_ascii_digit bs ≡ true → list_all plain bs ≡ true) → (plain b && list_all plain bs) ≡ true
    by true e h go = rw e (go h)
    by false e h go = absurd (true≢false (sym h))

numeral_plain : (w n : ℕ) → list_all plain (numeral w n) ≡ true
numeral_plain w n = digits_plain (numeral w n) (numeral_digits w n)

letter_plain : (k : TaskKind) → list_all plain (letter k) ≡ true
letter_plain Map = refl
letter_plain Reduce = refl

pub attempt_plain : (a : Attempt) → list_all plain (attempt_text a) ≡ true
attempt_plain a =
    let s = numeral 1 a.task.job.start in
    let j = numeral 4 a.task.job.number in
    let k = letter a.task.kind in
    let t = numeral 6 a.task.number in
    let n = numeral 1 a.number in
    both plain s (95 ∷ (j ++ 95 ∷ (k ++ 95 ∷ (t ++ 95 ∷ n)))) (numeral_plain 1 a.task.job.start)
    (both plain j (95 ∷ (k ++ 95 ∷ (t ++ 95 ∷ n))) (numeral_plain 4 a.task.job.number)
    (both plain k (95 ∷ (t ++ 95 ∷ n)) (letter_plain a.task.kind)
    (both plain t (95 ∷ n) (numeral_plain 6 a.task.number) (numeral_plain 1 a.number))))

-- ---- how many there are

letter_length : (k : TaskKind) → length (letter k) ≡ 1
letter_length Map = refl
letter_length Reduce = refl

pub length-attempt_text : (a : Attempt) → length (attempt_text a) ≡ 13 + length (numeral 1 a.task.job.start) + length (numeral 4 a.task.job.number) + length (numeral 6 a.task.number) + length (numeral 1 a.number)
length-attempt_text a =
    let s = numeral 1 a.task.job.start in
    let j = numeral 4 a.task.job.number in
    let k = letter a.task.kind in
    let t = numeral 6 a.task.number in
    let n = numeral 1 a.number in
    let lk = letter_length a.task.kind in
    let len1 = length-append s (95 ∷ (j ++ 95 ∷ (k ++ 95 ∷ (t ++ 95 ∷ n)))) in
    let len2 = length-append j (95 ∷ (k ++ 95 ∷ (t ++ 95 ∷ n))) in
    let len3 = length-append k (95 ∷ (t ++ 95 ∷ n)) in
    let len4 = length-append t (95 ∷ n) in
    omega arith
