-- The records that lines are told as.
use Rattle.std.proofs.Common.{◌≡◌, ◌<◌, ◌+◌, ℕ, suc, true, ◌&&◌, List, [], ◌∷◌, ◌++◌, length, take, get_or, refl, sym, ap, ◌∙◌, subst, arith, append_assoc, append-nil}
use Rattle.std.specs.Prelude.{IfSome}
use Rattle.std.proofs.Math.Seq.{take-suc}
use Rattle.std.proofs.lemmas.List.Elements.{filter_map-append}
use Rattle.mr_ids.specs.Attempt.{Attempt}
use Rattle.mr_ids.specs.Kind.{is_reduce}
use Rattle.mr_ids.specs.declared.id.JobId.{JobId}
use Rattle.mr_ids.specs.Text.{IsJob, IsAttempt}
use Rattle.mr_history.specs.Line.{IsRecordOf}
use Rattle.mr_log_entries.specs.declared.entry.Entry.{Entry}
use Rattle.mr_log_entries.specs.declared.line.Line.{Line}
use Rattle.mr_log_entries.specs.declared.line.Line.TheVariants.{Started, Won, Failed, Interrupted, Unsuccessful, Publish, Published}
use Rattle.mr_log_entries.specs.Histories.{record_of, records_of}
use Rattle.mr_log_entries.specs.Recorded.{lines_of}
use Rattle.mr_log_entries.specs.Texts.{IsLineOf, IsAttemptOf}

pub one_more_record : (lines : List Line) (i : ℕ) (line : Line) → i < length lines → line ≡ get_or lines i line → records_of (take (i + 1) lines) ≡ records_of (take i lines) ++ records_of (line ∷ [])
one_more_record lines i line inside is =
    let next : i + 1 ≡ suc i = omega arith in
    ap (λ (n : ℕ). records_of (take n lines)) next
    ∙ ap records_of (take-suc lines i line inside)
    ∙ ap (λ (x : Line). records_of (take i lines ++ x ∷ [])) (sym is)
    ∙ filter_map-append record_of (take i lines) (line ∷ [])

pub lines_of-append : (es fs : List Entry) → lines_of (es ++ fs) ≡ lines_of es ++ lines_of fs
unfolding lines_of
lines_of-append [] fs = refl
lines_of-append (e ∷ es) fs = ap (λ (l : List Line). e.lines ++ l) (lines_of-append es fs) ∙ sym (append_assoc e.lines (lines_of es) (lines_of fs))

lines_of-one : (e : Entry) → lines_of (e ∷ []) ≡ e.lines
unfolding lines_of
lines_of-one e = append-nil e.lines

pub one_more_entry : (es : List Entry) (i : ℕ) (e : Entry) → i < length es → e ≡ get_or es i e → records_of (lines_of (take (i + 1) es)) ≡ records_of (lines_of (take i es)) ++ records_of e.lines
one_more_entry es i e inside is =
    let next : i + 1 ≡ suc i = omega arith in
    ap (λ (n : ℕ). records_of (lines_of (take n es))) next
    ∙ ap (λ (l : List Entry). records_of (lines_of l)) (take-suc es i e inside)
    ∙ ap (λ (x : Entry). records_of (lines_of (take i es ++ x ∷ []))) (sym is)
    ∙ ap records_of (lines_of-append (take i es) (e ∷ []) ∙ ap (λ (l : List Line). lines_of (take i es) ++ l) (lines_of-one e))
    ∙ filter_map-append record_of (lines_of (take i es)) e.lines

-- ---- each has a line

in_range : (j : JobId) (a : Attempt) → IsJob j → IsAttemptOf j a → IsAttempt a
in_range j a job of = record { task = record { job = subst IsJob (sym of.job) job; number = of.task }; number = of.number }

reduces : (j : JobId) (a : Attempt) → IsAttemptOf j a → is_reduce a.task.kind ≡ true
reduces j a of = ap is_reduce of.kind

pub fits : (j : JobId) (line : Line) → IsJob j → IsLineOf j line → IfSome (record_of line) (IsRecordOf 1)
fits j (Started a) job of = ((refl, (in_range j a job of, omega arith)), refl)
fits j (Won a h) job of = ((ap (λ b. b && true) (reduces j a of.0), (in_range j a job of.0, tt)), refl)
fits j (Failed a) job of = ((refl, in_range j a job of), refl)
fits j (Interrupted a) job of = ((refl, in_range j a job of), refl)
fits j Unsuccessful job of = ((refl, tt), refl)
fits j Publish job of = tt
fits j Published job of = tt
