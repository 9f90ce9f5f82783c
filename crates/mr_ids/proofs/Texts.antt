-- The texts of identifiers: what their fields are, that no two are one, and what bytes they have.
use Rattle.std.proofs.Common.{◌≡◌, ◌≢◌, ◌≤◌, ◌<◌, ◌+◌, ◌-◌, ◌^◌, ℕ, suc, zero, Bool, true, false, ◌&&◌, ◌||◌, List, [], ◌∷◌, ◌++◌, length, map, replicate, get_or, refl, sym, ap, ◌∙◌, arith, true≢false, length-append}
use Rattle.std.proofs.lemmas.List.{length-map, length-replicate}
use Rattle.std.specs.Prelude.{codes}
use Rattle.std.specs.List.{slice_split, list_all, AllByRecursion}
use Rattle.std.specs.Char.{is_ascii_digit, is_ascii_alphanumeric}
use Rattle.std.specs.Int.Digits.{digits_of, AllBelowBase}
use Rattle.std.specs.Str.Parse.{digits_value}
use Rattle.std.specs.Fmt.{decimal}
use Rattle.std.proofs.lemmas.Fmt.{length-decimal-le}
use Rattle.std.proofs.lemmas.Int.Digits.{number_digits_of, all_below_base_digits_of}
use Rattle.std.proofs.lemmas.Bool.Decides.{nat_tests}
use Rattle.mr_ids.specs.declared.id.TaskKind.{TaskKind}
use Rattle.mr_ids.specs.declared.id.TaskKind.TheVariants.{Map, Reduce}
use Rattle.mr_ids.specs.declared.id.JobId.{JobId}
use Rattle.mr_ids.specs.declared.id.TaskId.{TaskId}
use Rattle.mr_ids.specs.Attempt.{Attempt}
use Rattle.mr_ids.specs.Text.{numeral, letter, is_bar, job_fields, task_fields, attempt_fields, job_text, task_text, attempt_text, IsJob, IsTask, IsAttempt, IsPlain}
use Rattle.mr_ids.proofs.Numerals.{value_zeros, bytes_of_digits, numeral_digits, no_bar, split_first, split_last, letter_bar}
use Rattle.mr_ids.proofs.Shown.{zeros-decimal}

-- ---- numerals

pub digits_value-numeral : (width n : ℕ) → digits_value 10 (numeral width n) ≡ n
digits_value-numeral width n =
    let ds : List ℕ = digits_of 10 n in
    let below : AllBelowBase 10 ds = all_below_base_digits_of 10 n (omega arith) in
    value_zeros (width - length ds) (map (λ d. 48 + d) ds) ∙ (bytes_of_digits ds 0 below).1 ∙ number_digits_of 10 n (omega arith)

-- a numeral is of one number alone, whatever the widths
pub numeral_injective : (v w m n : ℕ) → numeral v m ≡ numeral w n → m ≡ n
numeral_injective v w m n e = sym (digits_value-numeral v m) ∙ ap (digits_value 10) e ∙ digits_value-numeral w n

-- how long a numeral is at most, and that it is not empty
pub length-numeral-le : (k width n : ℕ) → 0 < width → width ≤ k → n < 10 ^ k → n < 2 ^ 64 → length (numeral width n) ≤ k
length-numeral-le k width n wide fits small range =
    let is = ap length (zeros-decimal width n wide range) in
    let len = length-append (replicate {A = ℕ} (width - length (decimal n)) 48) (decimal n) in
    let zeros = length-replicate {A = ℕ} (width - length (decimal n)) 48 in
    let short = length-decimal-le k n (omega arith) small range in
    omega arith

pub le-length-numeral : (width n : ℕ) → width ≤ length (numeral width n)
le-length-numeral width n =
    let ds : List ℕ = digits_of 10 n in
    let len = length-append (replicate {A = ℕ} (width - length ds) 48) (map (λ d. 48 + d) ds) in
    let zeros = length-replicate {A = ℕ} (width - length ds) 48 in
    let digits = length-map ds (λ d. 48 + d) in
    omega arith

-- ---- the fields of each text

pub split-job_text : (j : JobId) → slice_split is_bar (job_text j) ≡ codes "job" ∷ job_fields j
split-job_text j =
    let s = numeral 1 j.start in
    let n = numeral 4 j.number in
    split_first (codes "job") (s ++ 95 ∷ n) (refl, (refl, (refl, tt)))
    ∙ ap (λ l. codes "job" ∷ l) (split_first s n (no_bar s (numeral_digits 1 j.start))
    ∙ ap (λ l. s ∷ l) (split_last n (no_bar n (numeral_digits 4 j.number))))

pub split-task_text : (t : TaskId) → slice_split is_bar (task_text t) ≡ codes "task" ∷ task_fields t
split-task_text t =
    let s = numeral 1 t.job.start in
    let j = numeral 4 t.job.number in
    let k = letter t.kind in
    let n = numeral 6 t.number in
    split_first (codes "task") (s ++ 95 ∷ (j ++ 95 ∷ (k ++ 95 ∷ n))) (refl, (refl, (refl, (refl, tt))))
    ∙ ap (λ l. codes "task" ∷ l) (split_first s (j ++ 95 ∷ (k ++ 95 ∷ n)) (no_bar s (numeral_digits 1 t.job.start))
    ∙ ap (λ l. s ∷ l) (split_first j (k ++ 95 ∷ n) (no_bar j (numeral_digits 4 t.job.number))
    ∙ ap (λ l. j ∷ l) (split_first k n (letter_bar t.kind)
    ∙ ap (λ l. k ∷ l) (split_last n (no_bar n (numeral_digits 6 t.number))))))

pub split-attempt_text : (a : Attempt) → slice_split is_bar (attempt_text a) ≡ codes "attempt" ∷ attempt_fields a
split-attempt_text a =
    let s = numeral 1 a.task.job.start in
    let j = numeral 4 a.task.job.number in
    let k = letter a.task.kind in
    let t = numeral 6 a.task.number in
    let n = numeral 1 a.number in
    split_first (codes "attempt") (s ++ 95 ∷ (j ++ 95 ∷ (k ++ 95 ∷ (t ++ 95 ∷ n)))) (refl, (refl, (refl, (refl, (refl, (refl, (refl, tt)))))))
    ∙ ap (λ l. codes "attempt" ∷ l) (split_first s (j ++ 95 ∷ (k ++ 95 ∷ (t ++ 95 ∷ n))) (no_bar s (numeral_digits 1 a.task.job.start))
    ∙ ap (λ l. s ∷ l) (split_first j (k ++ 95 ∷ (t ++ 95 ∷ n)) (no_bar j (numeral_digits 4 a.task.job.number))
    ∙ ap (λ l. j ∷ l) (split_first k (t ++ 95 ∷ n) (letter_bar a.task.kind)
    ∙ ap (λ l. k ∷ l) (split_first t n (no_bar t (numeral_digits 6 a.task.number))
    ∙ ap (λ l. t ∷ l) (split_last n (no_bar n (numeral_digits 1 a.number)))))))

-- ---- no two identifiers have one text

-- the field at a place
abbrev field : ℕ → List (List ℕ) → List ℕ
field zero [] = []
field (suc k) [] = []
field zero (f ∷ fields) = f
field (suc k) (f ∷ fields) = field k fields

letter_injective : (k l : TaskKind) → letter k ≡ letter l → k ≡ l
letter_injective Map Map e = refl
letter_injective Map Reduce e = absurd (let b : 109 ≡ 114 = ap (λ l. get_or l 0 0) e in omega arith)
letter_injective Reduce Map e = absurd (let b : 114 ≡ 109 = ap (λ l. get_or l 0 0) e in omega arith)
letter_injective Reduce Reduce e = refl

pub job_text_injective : (i j : JobId) → job_text i ≡ job_text j → i ≡ j
job_text_injective i j e =
    let fields = sym (split-job_text i) ∙ ap (slice_split is_bar) e ∙ split-job_text j in
    let start = numeral_injective 1 1 i.start j.start (ap (field 1) fields) in
    let number = numeral_injective 4 4 i.number j.number (ap (field 2) fields) in
    λ x. record { start = start x; number = number x }

pub task_text_injective : (t u : TaskId) → task_text t ≡ task_text u → t ≡ u
task_text_injective t u e =
    let fields = sym (split-task_text t) ∙ ap (slice_split is_bar) e ∙ split-task_text u in
    let start = numeral_injective 1 1 t.job.start u.job.start (ap (field 1) fields) in
    let job = numeral_injective 4 4 t.job.number u.job.number (ap (field 2) fields) in
    let kind = letter_injective t.kind u.kind (ap (field 3) fields) in
    let number = numeral_injective 6 6 t.number u.number (ap (field 4) fields) in
    λ x. record { job = record { start = start x; number = job x }; kind = kind x; number = number x }

pub attempt_text_injective : (a b : Attempt) → attempt_text a ≡ attempt_text b → a ≡ b
attempt_text_injective a b e =
    let fields = sym (split-attempt_text a) ∙ ap (slice_split is_bar) e ∙ split-attempt_text b in
    let start = numeral_injective 1 1 a.task.job.start b.task.job.start (ap (field 1) fields) in
    let job = numeral_injective 4 4 a.task.job.number b.task.job.number (ap (field 2) fields) in
    let kind = letter_injective a.task.kind b.task.kind (ap (field 3) fields) in
    let task = numeral_injective 6 6 a.task.number b.task.number (ap (field 4) fields) in
    let number = numeral_injective 1 1 a.number b.number (ap (field 5) fields) in
    λ x. record { task = record { job = record { start = start x; number = job x }; kind = kind x; number = task x }; number = number x }

-- texts of different kinds differ in their first byte
pub job-task : (j : JobId) (t : TaskId) → job_text j ≢ task_text t
job-task j t e = let b : ◌≡◌ {A = ℕ} 106 116 = ap (λ (l : List ℕ). get_or l 0 0) e in omega arith

pub job-attempt : (j : JobId) (a : Attempt) → job_text j ≢ attempt_text a
job-attempt j a e = let b : ◌≡◌ {A = ℕ} 106 97 = ap (λ (l : List ℕ). get_or l 0 0) e in omega arith

pub task-attempt : (t : TaskId) (a : Attempt) → task_text t ≢ attempt_text a
task-attempt t a e = let b : ◌≡◌ {A = ℕ} 116 97 = ap (λ (l : List ℕ). get_or l 0 0) e in omega arith

-- ---- the bytes of each text

all_append : (p : ℕ → Bool) (xs ys : List ℕ) → list_all p xs ≡ true → list_all p ys ≡ true → list_all p (xs ++ ys) ≡ true
all_append p [] ys h k = k
all_append p (x ∷ xs) ys h k = by (p x) refl h (all_append p xs ys)
  where
    by : (b : Bool) → p x ≡ b → (b && list_all p xs) ≡ true → (list_all p xs ≡ true → list_all p ys ≡ true → list_all p (xs ++ ys) ≡ true) → (b && list_all p (xs ++ ys)) ≡ true
    by true e h go = go h k
    by false e h go = h

abbrev plain : ℕ → Bool
plain b = is_ascii_alphanumeric b || is_bar b

digit_plain : (b : ℕ) → is_ascii_digit b ≡ true → plain b ≡ true
digit_plain b e = rw e refl

digits_plain : (bs : List ℕ) → list_all is_ascii_digit bs ≡ true → list_all plain bs ≡ true
digits_plain [] h = refl
digits_plain (b ∷ bs) h = by (is_ascii_digit b) refl h (digits_plain bs)
  where
    by : (t : Bool) → is_ascii_digit b ≡ t → (t && list_all is_ascii_digit bs) ≡ true → (list_all is_ascii_digit bs ≡ true → list_all plain bs ≡ true) → (plain b && list_all plain bs) ≡ true
    by true e h go = rw (digit_plain b e) (go h)
    by false e h go = absurd (true≢false (sym h))

numeral_plain : (width n : ℕ) → list_all plain (numeral width n) ≡ true
numeral_plain width n = digits_plain (numeral width n) (numeral_digits width n)

letter_plain : (k : TaskKind) → list_all plain (letter k) ≡ true
letter_plain Map = refl
letter_plain Reduce = refl

letter_length : (k : TaskKind) → length (letter k) ≡ 1
letter_length Map = refl
letter_length Reduce = refl

pub job_text_plain : (j : JobId) → IsJob j → IsPlain 35 (job_text j)
job_text_plain j fits =
    let s = numeral 1 j.start in
    let n = numeral 4 j.number in
    let start = fits.start in
    let number = fits.number in
    let ls : length s ≤ 20 = length-numeral-le 20 1 j.start (omega arith) (omega arith) (omega arith) (omega arith) in
    let ln : length n ≤ 10 = length-numeral-le 10 4 j.number (omega arith) (omega arith) (omega arith) (omega arith) in
    let len = length-append s (95 ∷ n) in
    record {
      some = omega arith;
      short = omega arith;
      plain = all_append plain s (95 ∷ n) (numeral_plain 1 j.start) (numeral_plain 4 j.number);
    }

pub task_text_plain : (t : TaskId) → IsTask t → IsPlain 49 (task_text t)
task_text_plain t fits =
    let s = numeral 1 t.job.start in
    let j = numeral 4 t.job.number in
    let k = letter t.kind in
    let n = numeral 6 t.number in
    let start = fits.job.start in
    let job = fits.job.number in
    let number = fits.number in
    let ls : length s ≤ 20 = length-numeral-le 20 1 t.job.start (omega arith) (omega arith) (omega arith) (omega arith) in
    let lj : length j ≤ 10 = length-numeral-le 10 4 t.job.number (omega arith) (omega arith) (omega arith) (omega arith) in
    let ln : length n ≤ 10 = length-numeral-le 10 6 t.number (omega arith) (omega arith) (omega arith) (omega arith) in
    let lk = letter_length t.kind in
    let len1 = length-append s (95 ∷ (j ++ 95 ∷ (k ++ 95 ∷ n))) in
    let len2 = length-append j (95 ∷ (k ++ 95 ∷ n)) in
    let len3 = length-append k (95 ∷ n) in
    record {
      some = omega arith;
      short = omega arith;
      plain = all_append plain s (95 ∷ (j ++ 95 ∷ (k ++ 95 ∷ n))) (numeral_plain 1 t.job.start)
          (all_append plain j (95 ∷ (k ++ 95 ∷ n)) (numeral_plain 4 t.job.number)
          (all_append plain k (95 ∷ n) (letter_plain t.kind) (numeral_plain 6 t.number)));
    }

pub attempt_text_plain : (a : Attempt) → IsAttempt a → IsPlain 59 (attempt_text a)
attempt_text_plain a fits =
    let s = numeral 1 a.task.job.start in
    let j = numeral 4 a.task.job.number in
    let k = letter a.task.kind in
    let t = numeral 6 a.task.number in
    let n = numeral 1 a.number in
    let start = fits.task.job.start in
    let job = fits.task.job.number in
    let task = fits.task.number in
    let number = fits.number in
    let ls : length s ≤ 20 = length-numeral-le 20 1 a.task.job.start (omega arith) (omega arith) (omega arith) (omega arith) in
    let lj : length j ≤ 10 = length-numeral-le 10 4 a.task.job.number (omega arith) (omega arith) (omega arith) (omega arith) in
    let lt : length t ≤ 10 = length-numeral-le 10 6 a.task.number (omega arith) (omega arith) (omega arith) (omega arith) in
    let ln : length n ≤ 6 = length-numeral-le 6 1 a.number (omega arith) (omega arith) (omega arith) (omega arith) in
    let lk = letter_length a.task.kind in
    let len1 = length-append s (95 ∷ (j ++ 95 ∷ (k ++ 95 ∷ (t ++ 95 ∷ n)))) in
    let len2 = length-append j (95 ∷ (k ++ 95 ∷ (t ++ 95 ∷ n))) in
    let len3 = length-append k (95 ∷ (t ++ 95 ∷ n)) in
    let len4 = length-append t (95 ∷ n) in
    record {
      some = omega arith;
      short = omega arith;
      plain = all_append plain s (95 ∷ (j ++ 95 ∷ (k ++ 95 ∷ (t ++ 95 ∷ n)))) (numeral_plain 1 a.task.job.start)
          (all_append plain j (95 ∷ (k ++ 95 ∷ (t ++ 95 ∷ n))) (numeral_plain 4 a.task.job.number)
          (all_append plain k (95 ∷ (t ++ 95 ∷ n)) (letter_plain a.task.kind)
          (all_append plain t (95 ∷ n) (numeral_plain 6 a.task.number) (numeral_plain 1 a.number))));
    }

pub numeral_is_plain : (most n : ℕ) → 0 < most → n < 10 ^ most → n < 2 ^ 64 → IsPlain most (numeral 1 n)
numeral_is_plain most n some fits range =
    let long = le-length-numeral 1 n in
    record { some = omega arith; short = length-numeral-le most 1 n (omega arith) some fits range; plain = numeral_plain 1 n }

-- a byte of a plain text is none below `0`, as a space or a slash, and none past `z`
pub plain_byte : (b : ℕ) → plain b ≡ true → (48 ≤ b) × (b ≤ 122)
plain_byte b e = (grind (arith, nat_tests), grind (arith, nat_tests))

-- what holds of such bytes holds of all bytes of a plain text
pub plain-All : (P : ℕ → Type 0) → ((b : ℕ) → 48 ≤ b → b ≤ 122 → P b) → (bs : List ℕ) → list_all plain bs ≡ true → AllByRecursion P bs
plain-All P each [] h = tt
plain-All P each (b ∷ bs) h = by (plain b) refl h (plain-All P each bs)
  where
    by : (t : Bool) → plain b ≡ t → (t && list_all plain bs) ≡ true → (list_all plain bs ≡ true → AllByRecursion P bs) → AllByRecursion P (b ∷ bs)
    by true e h go = let range = plain_byte b e in (each b range.0 range.1, go h)
    by false e h go = absurd (true≢false (sym h))
