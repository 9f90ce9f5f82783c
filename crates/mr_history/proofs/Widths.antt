-- How many bytes a record takes.
use Rattle.std.proofs.Common.{◌≡◌, ◌<◌, ◌≤◌, ◌^◌, ◌+◌, ◌-◌, ◌/◌, ℕ, List, ◌++◌, length, map, replicate, codes, decimal, ap, ap₂, ◌∙◌, arith, Option, Some, None, length-append, refl}
use Rattle.std.proofs.lemmas.List.{length-map, length-replicate}
use Rattle.std.specs.Int.Digits.{digits_of}
use Rattle.std.proofs.lemmas.Int.Digits.{length-digits_of_step, length-digits_of-le}
use Rattle.mr_ids.specs.Attempt.{Attempt}
use Rattle.mr_ids.specs.Text.{numeral, attempt_text, IsAttempt}
use Rattle.mr_ids.proofs.Shown.{decimal-numeral}
use Rattle.mr_history.specs.declared.line.TheConstants.{MAX_LINE_LEN}
use Rattle.mr_history.specs.declared.record.Record.{Record}
use Rattle.mr_history.specs.declared.record.Record.TheVariants.{AttemptStarted, MapSucceeded, ReduceSucceeded, AttemptFailed, JobUnsuccessful}
use Rattle.mr_history.specs.Line.{line_of, width, bytes_width, IsIn32, InRange, IsRecord}
use Rattle.mr_history.proofs.Texts.{length-attempt_text}

pub digits_step : (n : ℕ) → 0 < n → length (digits_of 10 n) ≡ length (digits_of 10 (n / 10)) + 1
digits_step n h = length-digits_of_step 10 n (omega arith) h

pub digits_few : (n : ℕ) → n < 2 ^ 64 → length (digits_of 10 n) ≤ 20
digits_few n h = length-digits_of-le 10 20 n (omega arith) (omega arith)

pub length-numeral : (w n : ℕ) → length (numeral w n) ≡ (w - length (digits_of 10 n)) + length (digits_of 10 n)
length-numeral w n =
    length-append (replicate (w - length (digits_of 10 n)) 48) (map (λ d. 48 + d) (digits_of 10 n))
    ∙ ap₂ (λ x y. x + y) (length-replicate (w - length (digits_of 10 n)) 48) (length-map (digits_of 10 n) (λ d. 48 + d))

number : (n : ℕ) → n < 2 ^ 32 → length (decimal n) ≡ length (numeral 1 n)
number n h = ap length (decimal-numeral n (omega arith))

told : (a : Attempt) (rest : List ℕ) → length (codes "{\"attempt\":\"" ++ (attempt_text a ++ rest)) ≡ 12 + length (attempt_text a) + length rest
told a rest = let e = length-append (attempt_text a) rest in omega arith

last : (n : ℕ) → n < 2 ^ 32 → length (decimal n ++ codes "}") ≡ length (numeral 1 n) + 1
last n h = length-append (decimal n) (codes "}") ∙ ap (λ l. l + 1) (number n h)

pub width-started : (a : Attempt) (node : ℕ) → node < 2 ^ 32 → width (AttemptStarted a node) ≡ 41 + length (attempt_text a) + length (numeral 1 node)
unfolding width line_of
width-started a node h = let e = told a (codes "\",\"event\":\"started\",\"node\":" ++ (decimal node ++ codes "}")) in let f = last node h in omega arith

pub width-mapped : (a : Attempt) (node incarnation : ℕ) → node < 2 ^ 32 → incarnation < 2 ^ 32 → width (MapSucceeded a node incarnation) ≡ 52 + length (attempt_text a) + length (numeral 1 node) + length (numeral 1 incarnation)
unfolding width line_of
width-mapped a node incarnation h k =
    let ending = codes ",\"node\":" ++ (decimal node ++ codes "}") in
    let e = told a (codes "\",\"event\":\"map\",\"incarnation\":" ++ (decimal incarnation ++ ending)) in
    let f = length-append (decimal incarnation) ending in
    let g = last node h in
    let n = number incarnation k in
    omega arith

pub width-reduced : (a : Attempt) (bytes : Option ℕ) → IsIn32 bytes → width (ReduceSucceeded a bytes) ≡ 32 + length (attempt_text a) + bytes_width bytes
unfolding width line_of
width-reduced a None h = let e = told a (codes "\",\"event\":\"reduce\"}") in omega arith
width-reduced a (Some bytes) h =
    let ending = codes ",\"event\":\"reduce\"}" in
    let e = told a (codes "\",\"bytes\":" ++ (decimal bytes ++ ending)) in
    let f = length-append (decimal bytes) ending in
    let n = number bytes h in
    omega arith

pub width-failed : (a : Attempt) → width (AttemptFailed a) ≡ 32 + length (attempt_text a)
unfolding width line_of
width-failed a = let e = told a (codes "\",\"event\":\"failed\"}") in omega arith

pub width-unsuccessful : width JobUnsuccessful ≡ 25
unfolding width line_of
width-unsuccessful = refl

-- ---- no line is longer than MAX_LINE_LEN

numeral_short : (w k n : ℕ) → n < 10 ^ k → w ≤ k → length (numeral w n) ≤ k
numeral_short w k n h low = let e = length-numeral w n in let f = length-digits_of-le 10 k n (omega arith) h in omega arith

attempt_short : (a : Attempt) → IsAttempt a → length (attempt_text a) ≤ 59
attempt_short a h =
    let e = length-attempt_text a in
    let start = numeral_short 1 20 a.task.job.start (let b = h.task.job.start in omega arith) (omega arith) in
    let job = numeral_short 4 10 a.task.job.number (let b = h.task.job.number in omega arith) (omega arith) in
    let task = numeral_short 6 10 a.task.number (let b = h.task.number in omega arith) (omega arith) in
    let number = numeral_short 1 6 a.number (let b = h.number in omega arith) (omega arith) in
    omega arith

small : (n : ℕ) → n < 2 ^ 32 → length (numeral 1 n) ≤ 10
small n h = numeral_short 1 10 n (omega arith) (omega arith)

length_small : (bytes : Option ℕ) → IsIn32 bytes → bytes_width bytes ≤ 19
length_small None h = omega arith
length_small (Some n) h = let e = small n h in omega arith

width_short : (r : Record) → InRange r → width r ≤ 131
width_short (AttemptStarted a node) h = let e = width-started a node h.1 in let f = attempt_short a h.0 in let g = small node h.1 in omega arith
width_short (MapSucceeded a node incarnation) h = let e = width-mapped a node incarnation h.1 h.2 in let f = attempt_short a h.0 in let g = small node h.1 in let i = small incarnation h.2 in omega arith
width_short (ReduceSucceeded a bytes) h = let e = width-reduced a bytes h.1 in let f = attempt_short a h.0 in let g = length_small bytes h.1 in omega arith
width_short (AttemptFailed a) h = let e = width-failed a in let f = attempt_short a h in omega arith
width_short JobUnsuccessful h = let e = width-unsuccessful in omega arith

pub line_short : (r : Record) → IsRecord r → length (line_of r) ≤ MAX_LINE_LEN
unfolding width
line_short r h = let e = width_short r h.1 in omega arith
