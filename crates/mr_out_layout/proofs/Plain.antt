-- The record of one line more.
use Rattle.std.proofs.Common.{◌≡◌, ℕ, true, List, [], ◌∷◌, ◌++◌, codes, None, refl, sym, ap, ◌∙◌, arith}
use Rattle.std.specs.Prelude.{◌&&◌, decimal}
use Rattle.std.specs.List.{AllByRecursion}
use Rattle.std.proofs.lemmas.Fmt.{decimal_digit}
use Rattle.std.proofs.lemmas.List.{append_assoc, append-nil}
use Rattle.mr_ids.specs.Attempt.{Attempt}
use Rattle.mr_ids.specs.Kind.{is_reduce}
use Rattle.mr_ids.specs.Text.{attempt_text, IsAttempt}
use Rattle.mr_history.specs.declared.record.Record.{Record}
use Rattle.mr_history.specs.declared.record.Record.TheVariants.{AttemptStarted, ReduceSucceeded, AttemptFailed, JobUnsuccessful}
use Rattle.mr_history.specs.Line.{line_of, whole_line, lines, IsRecordOf}
use Rattle.mr_history.proofs.Tellings.{lines_both, all_append}

pub one_more : (bytes rest after : List ℕ) (rs : List Record) (r : Record) → bytes ≡ lines rs ++ rest → rest ≡ whole_line r ++ after → bytes ≡ lines (rs ++ r ∷ []) ++ after
one_more bytes rest after rs r e f =
    e ∙ ap (λ (x : List ℕ). lines rs ++ x) f ∙ sym (append_assoc (lines rs) (whole_line r) after)
    ∙ ap (λ (x : List ℕ). lines rs ++ x ++ after) (sym (append-nil (whole_line r)))
    ∙ ap (λ (x : List ℕ). x ++ after) (sym (lines_both rs (r ∷ [])))

pub all_more : (rs : List Record) (r : Record) → AllByRecursion (IsRecordOf 1) rs → IsRecordOf 1 r → AllByRecursion (IsRecordOf 1) (rs ++ r ∷ [])
all_more rs r h k = all_append (IsRecordOf 1) rs (r ∷ []) h (k, tt)

-- ---- a line by its end

pub started : (a : Attempt) (event : List ℕ) → IsAttempt a → event ≡ codes "\",\"event\":\"started\",\"node\":0}" → (codes "{\"attempt\":\"" ++ (attempt_text a ++ event) ≡ line_of (AttemptStarted a 0)) × IsRecordOf 1 (AttemptStarted a 0)
unfolding line_of
started a event is e =
    let zero : event ≡ codes "\",\"event\":\"started\",\"node\":" ++ (decimal 0 ++ codes "}") =
    e ∙ ap (λ (x : List ℕ). codes "\",\"event\":\"started\",\"node\":" ++ (x ++ codes "}")) (sym (decimal_digit 0 (omega arith))) in
    (ap (λ (x : List ℕ). codes "{\"attempt\":\"" ++ (attempt_text a ++ x)) zero, ((refl, (is, omega arith)), refl))

pub succeeded : (a : Attempt) (event : List ℕ) → IsAttempt a → is_reduce a.task.kind ≡ true → event ≡ codes "\",\"event\":\"reduce\"}" → (codes "{\"attempt\":\"" ++ (attempt_text a ++ event) ≡ line_of (ReduceSucceeded a None)) × IsRecordOf 1 (ReduceSucceeded a None)
unfolding line_of
succeeded a event is kind e = (ap (λ (x : List ℕ). codes "{\"attempt\":\"" ++ (attempt_text a ++ x)) e, ((ap (λ b. b && true) kind, (is, tt)), refl))

pub failed : (a : Attempt) (event : List ℕ) → IsAttempt a → event ≡ codes "\",\"event\":\"failed\"}" → (codes "{\"attempt\":\"" ++ (attempt_text a ++ event) ≡ line_of (AttemptFailed a)) × IsRecordOf 1 (AttemptFailed a)
unfolding line_of
failed a event is e = (ap (λ (x : List ℕ). codes "{\"attempt\":\"" ++ (attempt_text a ++ x)) e, ((refl, is), refl))

pub unsuccessful : (line : List ℕ) → line ≡ codes "{\"event\":\"unsuccessful\"}" → (line ≡ line_of JobUnsuccessful) × IsRecordOf 1 JobUnsuccessful
unfolding line_of
unsuccessful line e = (e, ((refl, tt), refl))
