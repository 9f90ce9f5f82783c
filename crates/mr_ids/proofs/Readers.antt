-- What readers of places give together.
use Rattle.std.proofs.Common.{◌≡◌, ◌<◌, ◌≤◌, ◌∙◌, sym, ap, refl, true, ltb, List, [], ◌∷◌, ◌++◌, ℕ, length, Some, None, Result, Ok, Err, arith}
use Rattle.std.specs.Prelude.{IfOk, codes}
use Rattle.std.specs.Result.{IsErrAnd}
use Rattle.std.specs.List.{slice_split, join_with_byte}
use Rattle.std.specs.Cmp.Lexicographic.{bytes_decides}
use Rattle.std.specs.Str.Parse.{digits_value}
use Rattle.std.proofs.lemmas.Bool.{lt-ltb}
use Rattle.std.proofs.lemmas.List.Splits.{join_with_byte-slice_split}
use Rattle.mr_ids.specs.declared.fault.IdFault.{IdFault}
use Rattle.mr_ids.specs.declared.id.TaskKind.{TaskKind}
use Rattle.mr_ids.specs.declared.id.TaskKind.TheVariants.{Map, Reduce}
use Rattle.mr_ids.specs.declared.id.JobId.{JobId}
use Rattle.mr_ids.specs.declared.id.TaskId.{TaskId}
use Rattle.mr_ids.specs.Attempt.{Attempt}
use Rattle.mr_ids.specs.Text.{is_bar, numeral, letter, job_fields, task_fields, attempt_fields, IsJob, IsTask, IsAttempt}
use Rattle.mr_ids.specs.Faults.{Place, Number, Letter, fault_of, first_fault, is_number, is_spelled, job_places, task_places, attempt_places}
use Rattle.mr_ids.specs.Reading.{Takes, TakesAll}
use Rattle.mr_ids.proofs.Numerals.{numeral_digits}
use Rattle.mr_ids.proofs.Texts.{digits_value-numeral, le-length-numeral}

-- a fault that `?` hands on
pub handed_on : {X : Type 0} (places : List Place) (spelled : X → List (List ℕ)) (left : X → List (List ℕ)) (fields : List (List ℕ)) (r : Result X IdFault) (e : IdFault) → IsErrAnd r (λ f. f ≡ e) → ((more : List Place) → first_fault (places ++ more) fields ≡ Some e) → Takes places spelled left fields r
handed_on places spelled left fields (Ok x) e is h = absurd is
handed_on places spelled left fields (Err f) e is h = λ more. h more ∙ ap Some (sym is)

pub handed_on_all : {X : Type 0} (places : List Place) (spelled : X → List (List ℕ)) (fields : List (List ℕ)) (r : Result X IdFault) (e : IdFault) → IsErrAnd r (λ f. f ≡ e) → first_fault places fields ≡ Some e → TakesAll places spelled fields r
handed_on_all places spelled fields (Ok x) e is h = absurd is
handed_on_all places spelled fields (Err f) e is h = h ∙ ap Some (sym is)

-- ---- an identifier's own fields have no fault

pub numeral_fine : (width limit n : ℕ) → 1 ≤ width → n < limit → fault_of (Number width limit) (numeral width n) ≡ None
numeral_fine width limit n wide fits =
    let field = numeral width n in
    let value : digits_value 10 field ≡ n = digits_value-numeral width n in
    let long = le-length-numeral width n in
    let some : ltb 0 (length field) ≡ true = lt-ltb 0 (length field) (omega arith) in
    let low : ltb (digits_value 10 field) limit ≡ true = lt-ltb (digits_value 10 field) limit (omega arith) in
    let number : is_number limit field ≡ true = rw (numeral_digits width n, some, low) refl in
    let spelled : is_spelled width field ≡ true = (bytes_decides field (numeral width (digits_value 10 field))).1 (ap (numeral width) (sym value)) in
    rw (number, spelled) refl

letter_fine : (k : TaskKind) → fault_of Letter (letter k) ≡ None
letter_fine Map = refl
letter_fine Reduce = refl

-- one place after another
fine : (place : Place) (places : List Place) (field : List ℕ) (fields : List (List ℕ)) → fault_of place field ≡ None → first_fault places fields ≡ None → first_fault (place ∷ places) (field ∷ fields) ≡ None
fine place places field fields e rest = rw e rest

pub job_fine : (j : JobId) → IsJob j → first_fault job_places (codes "job" ∷ job_fields j) ≡ None
job_fine j fits =
    let start = numeral_fine 1 18446744073709551616 j.start (omega arith) fits.start in
    let number = numeral_fine 4 4294967296 j.number (omega arith) fits.number in
    fine (Number 1 18446744073709551616) (Number 4 4294967296 ∷ []) (numeral 1 j.start) (numeral 4 j.number ∷ []) start
    (fine (Number 4 4294967296) [] (numeral 4 j.number) [] number refl)

pub task_fine : (t : TaskId) → IsTask t → first_fault task_places (codes "task" ∷ task_fields t) ≡ None
task_fine t fits =
    let start = numeral_fine 1 18446744073709551616 t.job.start (omega arith) fits.job.start in
    let job = numeral_fine 4 4294967296 t.job.number (omega arith) fits.job.number in
    let number = numeral_fine 6 4294967296 t.number (omega arith) fits.number in
    fine (Number 1 18446744073709551616) (Number 4 4294967296 ∷ Letter ∷ Number 6 4294967296 ∷ []) (numeral 1 t.job.start) (numeral 4 t.job.number ∷ letter t.kind ∷ numeral 6 t.number ∷ []) start
    (fine (Number 4 4294967296) (Letter ∷ Number 6 4294967296 ∷ []) (numeral 4 t.job.number) (letter t.kind ∷ numeral 6 t.number ∷ []) job
    (fine Letter (Number 6 4294967296 ∷ []) (letter t.kind) (numeral 6 t.number ∷ []) (letter_fine t.kind)
    (fine (Number 6 4294967296) [] (numeral 6 t.number) [] number refl)))

pub attempt_fine : (a : Attempt) → IsAttempt a → first_fault attempt_places (codes "attempt" ∷ attempt_fields a) ≡ None
attempt_fine a fits =
    let t = a.task in
    let start = numeral_fine 1 18446744073709551616 t.job.start (omega arith) fits.task.job.start in
    let job = numeral_fine 4 4294967296 t.job.number (omega arith) fits.task.job.number in
    let task = numeral_fine 6 4294967296 t.number (omega arith) fits.task.number in
    let number = numeral_fine 1 1000000 a.number (omega arith) fits.number in
    fine (Number 1 18446744073709551616) (Number 4 4294967296 ∷ Letter ∷ Number 6 4294967296 ∷ Number 1 1000000 ∷ []) (numeral 1 t.job.start) (numeral 4 t.job.number ∷ letter t.kind ∷ numeral 6 t.number ∷ numeral 1 a.number ∷ []) start
    (fine (Number 4 4294967296) (Letter ∷ Number 6 4294967296 ∷ Number 1 1000000 ∷ []) (numeral 4 t.job.number) (letter t.kind ∷ numeral 6 t.number ∷ numeral 1 a.number ∷ []) job
    (fine Letter (Number 6 4294967296 ∷ Number 1 1000000 ∷ []) (letter t.kind) (numeral 6 t.number ∷ numeral 1 a.number ∷ []) (letter_fine t.kind)
    (fine (Number 6 4294967296) (Number 1 1000000 ∷ []) (numeral 6 t.number) (numeral 1 a.number ∷ []) task
    (fine (Number 1 1000000) [] (numeral 1 a.number) [] number refl))))

-- ---- a whole text

pub text_found : {V : Type 0} (places : List Place) (spelled : V → List (List ℕ)) (text : List ℕ) (r : Result V IdFault) → TakesAll places spelled (slice_split is_bar text) r → IfOk r (λ v. text ≡ join_with_byte 95 (spelled v))
text_found places spelled text (Ok v) e = sym (join_with_byte-slice_split 95 text) ∙ ap (join_with_byte 95) e
text_found places spelled text (Err f) e = tt

-- the fields of a text that is an identifier's, which have no fault
pub text_only : {V : Type 0} (places : List Place) (spelled : V → List (List ℕ)) (text : List ℕ) (r : Result V IdFault) (v : V) → TakesAll places spelled (slice_split is_bar text) r → slice_split is_bar text ≡ spelled v → first_fault places (spelled v) ≡ None → ((w : V) → join_with_byte 95 (spelled w) ≡ join_with_byte 95 (spelled v) → w ≡ v) → r ≡ Ok v
text_only places spelled text (Ok w) v e fields none same = ap Ok (same w (ap (join_with_byte 95) (sym e ∙ fields)))
text_only places spelled text (Err f) v e fields none same = absurd (let clash : Some f ≡ None = sym e ∙ ap (first_fault places) fields ∙ none in cc)
