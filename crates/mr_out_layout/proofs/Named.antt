-- The line of an attempt is what all lines of its job begin with, two numbers, and what happened.
use Rattle.std.proofs.Common.{◌≡◌, ◌+◌, ◌-◌, ◌≤◌, ℕ, true, List, [], ◌∷◌, ◌++◌, codes, None, refl, sym, ap, ◌∙◌, arith, append_assoc}
use Rattle.std.specs.Char.{is_ascii_digit, digit_value}
use Rattle.std.proofs.lemmas.Bool.Decides.{nat_tests}
use Rattle.std.proofs.lemmas.Str.{digit_value_digit}
use Rattle.mr_ids.specs.declared.id.JobId.{JobId}
use Rattle.mr_ids.specs.Attempt.{Attempt}
use Rattle.mr_ids.specs.Kind.{is_reduce}
use Rattle.mr_ids.specs.Text.{numeral, attempt_text, IsAttempt}
use Rattle.mr_history.specs.declared.record.Record.TheVariants.{AttemptStarted, ReduceSucceeded, AttemptFailed}
use Rattle.mr_history.specs.Line.{line_of, whole_line, IsRecordOf}
use Rattle.mr_out_layout.specs.inner.Names.{front_text, attempt_of}
use Rattle.mr_out_layout.proofs.Plain.{started, succeeded, failed}

-- ---- the name

-- the parts of what lines begin with
parts : (start job rest : List ℕ) → (codes "{\"attempt\":\"attempt_" ++ (start ++ (codes "_" ++ (job ++ codes "_r_")))) ++ rest ≡ codes "{\"attempt\":\"attempt_" ++ (start ++ 95 ∷ (job ++ (codes "_r_" ++ rest)))
parts start job rest =
    ap (λ (x : List ℕ). codes "{\"attempt\":\"attempt_" ++ x) (append_assoc start (codes "_" ++ (job ++ codes "_r_")) rest)
    ∙ ap (λ (x : List ℕ). codes "{\"attempt\":\"attempt_" ++ (start ++ 95 ∷ x)) (append_assoc job (codes "_r_") rest)

-- a name, and what stands behind it
name_then : (start job task number event : List ℕ) → (codes "attempt" ++ 95 ∷ (start ++ 95 ∷ (job ++ 95 ∷ (codes "r" ++ 95 ∷ (task ++ 95 ∷ number))))) ++ event ≡ codes "attempt_" ++ (start ++ 95 ∷ (job ++ (codes "_r_" ++ (task ++ 95 ∷ (number ++ event)))))
name_then start job task number event =
    ap (λ (x : List ℕ). codes "attempt_" ++ x) (append_assoc start (95 ∷ (job ++ 95 ∷ (codes "r" ++ 95 ∷ (task ++ 95 ∷ number)))) event)
    ∙ ap (λ (x : List ℕ). codes "attempt_" ++ (start ++ 95 ∷ x)) (append_assoc job (95 ∷ (codes "r" ++ 95 ∷ (task ++ 95 ∷ number))) event)
    ∙ ap (λ (x : List ℕ). codes "attempt_" ++ (start ++ 95 ∷ (job ++ (codes "_r_" ++ x)))) (append_assoc task (95 ∷ number) event)

pub named : (j : JobId) (task number : ℕ) (event : List ℕ) → front_text j ++ (numeral 6 task ++ 95 ∷ (numeral 1 number ++ event)) ≡ codes "{\"attempt\":\"" ++ (attempt_text (attempt_of j task number) ++ event)
named j task number event =
    parts (numeral 1 j.start) (numeral 4 j.number) (numeral 6 task ++ 95 ∷ (numeral 1 number ++ event))
    ∙ ap (λ (x : List ℕ). codes "{\"attempt\":\"" ++ x) (sym (name_then (numeral 1 j.start) (numeral 4 j.number) (numeral 6 task) (numeral 1 number) event))

-- ---- the line

-- a line's parts, and what stands behind its line feed
whole : (key name event line rest : List ℕ) → key ++ (name ++ event) ≡ line → key ++ (name ++ (event ++ 10 ∷ rest)) ≡ (line ++ 10 ∷ []) ++ rest
whole key name event line rest is =
    ap (λ (x : List ℕ). key ++ x) (sym (append_assoc name event (10 ∷ rest)))
    ∙ sym (append_assoc key (name ++ event) (10 ∷ rest))
    ∙ ap (λ (x : List ℕ). x ++ 10 ∷ rest) is
    ∙ sym (append_assoc line (10 ∷ []) rest)

pub started_line : (a : Attempt) (event rest : List ℕ) → IsAttempt a → event ≡ codes ",\"event\":\"started\",\"node\":0}\n" ++ rest
    → (codes "{\"attempt\":\"" ++ (attempt_text a ++ 34 ∷ event) ≡ whole_line (AttemptStarted a 0) ++ rest) × IsRecordOf 1 (AttemptStarted a 0)
started_line a event rest is e =
    let own = started a (codes "\",\"event\":\"started\",\"node\":0}") is refl in
    (ap (λ (x : List ℕ). codes "{\"attempt\":\"" ++ (attempt_text a ++ 34 ∷ x)) e ∙ whole (codes "{\"attempt\":\"") (attempt_text a) (codes "\",\"event\":\"started\",\"node\":0}") (line_of (AttemptStarted a 0)) rest own.0, own.1)

pub succeeded_line : (a : Attempt) (event rest : List ℕ) → IsAttempt a → is_reduce a.task.kind ≡ true → event ≡ codes ",\"event\":\"reduce\"}\n" ++ rest
    → (codes "{\"attempt\":\"" ++ (attempt_text a ++ 34 ∷ event) ≡ whole_line (ReduceSucceeded a None) ++ rest) × IsRecordOf 1 (ReduceSucceeded a None)
succeeded_line a event rest is kind e =
    let own = succeeded a (codes "\",\"event\":\"reduce\"}") is kind refl in
    (ap (λ (x : List ℕ). codes "{\"attempt\":\"" ++ (attempt_text a ++ 34 ∷ x)) e ∙ whole (codes "{\"attempt\":\"") (attempt_text a) (codes "\",\"event\":\"reduce\"}") (line_of (ReduceSucceeded a None)) rest own.0, own.1)

pub failed_line : (a : Attempt) (event rest : List ℕ) → IsAttempt a → event ≡ codes ",\"event\":\"failed\"}\n" ++ rest
    → (codes "{\"attempt\":\"" ++ (attempt_text a ++ 34 ∷ event) ≡ whole_line (AttemptFailed a) ++ rest) × IsRecordOf 1 (AttemptFailed a)
failed_line a event rest is e =
    let own = failed a (codes "\",\"event\":\"failed\"}") is refl in
    (ap (λ (x : List ℕ). codes "{\"attempt\":\"" ++ (attempt_text a ++ 34 ∷ x)) e ∙ whole (codes "{\"attempt\":\"") (attempt_text a) (codes "\",\"event\":\"failed\"}") (line_of (AttemptFailed a)) rest own.0, own.1)

-- ---- a digit

pub digit_is : (b : ℕ) → is_ascii_digit b ≡ true → digit_value b ≡ b - 48
digit_is b e =
    let low : 48 ≤ b = grind (arith, nat_tests) in
    let high : b ≤ 57 = grind (arith, nat_tests) in
    let v : digit_value b + 48 ≡ b = digit_value_digit b (low, high) in
    omega arith
