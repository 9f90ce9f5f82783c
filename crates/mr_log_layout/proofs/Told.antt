-- The line of a job is read as the job.
use Rattle.std.proofs.Common.{◌≡◌, ◌<◌, ◌≤◌, ◌^◌, ℕ, false, List, [], ◌∷◌, ◌++◌, Option, Some, None, sym, ap, ◌∙◌, refl, rules, arith, append-nil, option_and_then, inl, inr, subst, IsUtf8}
use Rattle.std.proofs.lemmas.List.{append_cancel_right}
use Rattle.json.specs.Lex.{tokens}
use Rattle.json.specs.Tree.{json_tokens, HasNumbers, depth}
use Rattle.json.specs.Json as json
use Rattle.json.specs.Token.{Token}
use Rattle.json.proofs.Printed.Decimals.{IsNumber-decimal}
use Rattle.json.proofs.Printed.Trees.{value-json_tokens, ArePrintable-json_tokens}
use Rattle.json.proofs.Printed.Tokens.{tokens-print}
use Rattle.serde_json.specs.Data.{Data}
use Rattle.serde_json.specs.Read.{read, of_json, max_depth}
use Rattle.serde_json.specs.Written.{compact_text, outline, has_float}
use Rattle.serde_json.proofs.Texts.{print-outline}
use Rattle.serde_json.proofs.Numbers.{number_of-decimal}
use Rattle.mr_log_layout.specs.declared.job.Job.{Job}
use Rattle.mr_log_layout.specs.Jobs.{data_of, job_line, version_of, fault_of_version, fault_in, IsTold, IsLimit, IsLineIn, IsFaultOf}
use Rattle.mr_log_layout.specs.declared.fault.JobFault.{JobFault}
use Rattle.mr_log_layout.specs.declared.fault.JobFault.TheVariants.{Damaged}
use Rattle.mr_log_layout.proofs.Utf8.{line_utf8}

-- the object of a job that has these values
abbrev told_with : Job → Option ℕ → Data
told_with job limit = data_of (record job { limit = limit })

pub no_float : (job : Job) → has_float (data_of job) ≡ false
no_float job = by job.limit
  where
    by : (limit : Option ℕ) → has_float (told_with job limit) ≡ false
    by None = refl
    by (Some n) = refl

numbers : (job : Job) → job.uid < 2 ^ 32 → job.tasks ≤ 100000 → IsLimit job.limit → HasNumbers (outline (data_of job))
numbers job uid tasks limit = by job.limit limit
  where
    by : (limit : Option ℕ) → IsLimit limit → HasNumbers (outline (told_with job limit))
    by None h = (tt, (tt, (tt, (tt, (tt, (tt, (IsNumber-decimal job.tasks (omega arith), (IsNumber-decimal job.uid (omega arith), (IsNumber-decimal 2 (omega arith), tt)))))))))
    by (Some n) h = let few = h.1 in (tt, (tt, (tt, (IsNumber-decimal n (omega arith), (tt, (tt, (IsNumber-decimal job.tasks (omega arith), (IsNumber-decimal job.uid (omega arith), (IsNumber-decimal 2 (omega arith), tt)))))))))

read_tree : (job : Job) → job.uid < 2 ^ 32 → job.tasks ≤ 100000 → IsLimit job.limit → of_json (outline (data_of job)) ≡ Some (data_of job)
read_tree job uid tasks limit = by job.limit limit
  where
    by : (limit : Option ℕ) → IsLimit limit → of_json (outline (told_with job limit)) ≡ Some (told_with job limit)
    by None h = rw (number_of-decimal job.tasks (omega arith), number_of-decimal job.uid (omega arith), number_of-decimal 2 (omega arith)) refl
    by (Some n) h = let few = h.1 in rw (number_of-decimal n (omega arith), number_of-decimal job.tasks (omega arith), number_of-decimal job.uid (omega arith), number_of-decimal 2 (omega arith)) refl

shallow : (job : Job) → depth (outline (data_of job)) ≤ 127
shallow job = by job.limit
  where
    by : (limit : Option ℕ) → depth (outline (told_with job limit)) ≤ 127
    by None = search rules
    by (Some n) = search rules

pub read_back : (job : Job) → IsTold job → read (compact_text (data_of job)) ≡ Some (data_of job)
read_back job is =
    let j = outline (data_of job) in
    let lexed : tokens (compact_text (data_of job)) ≡ json_tokens j ++ [] =
    ap tokens (sym (print-outline (data_of job))) ∙ tokens-print (json_tokens j) (ArePrintable-json_tokens j (numbers job is.uid is.few is.limit)) ∙ sym (append-nil (json_tokens j)) in
    let parsed : json.value max_depth (tokens (compact_text (data_of job))) ≡ Some (j, []) = ap (json.value max_depth) lexed ∙ value-json_tokens j max_depth [] (shallow job) in
    ap (λ p. option_and_then of_json (option_and_then (λ (q : json.Json × List Token). json.if_last q.0 q.1) p)) parsed ∙ read_tree job is.uid is.few is.limit

-- the line of a file that is a job's
pub line_is : (bytes line : List ℕ) (d : Data) → IsLineIn bytes line → bytes ≡ job_line d → line ≡ compact_text d
unfolding job_line
line_is bytes line d (inl e) is = append_cancel_right line (compact_text d) (10 ∷ []) (sym e ∙ is)
line_is bytes line d (inr p) is = absurd (p.1 (compact_text d) is)

pub line_reads : (bytes line : List ℕ) (job : Job) → IsTold job → IsLineIn bytes line → bytes ≡ job_line (data_of job) → IsUtf8 line × (read line ≡ Some (data_of job))
line_reads bytes line job told at is =
    let own = line_is bytes line (data_of job) at is in
    (subst IsUtf8 (sym own) (line_utf8 job told), ap read own ∙ read_back job told)

-- ---- why a line is refused

pub no_json : (line : List ℕ) → (IsUtf8 line → read line ≡ None) → IsFaultOf line Damaged
no_json line none = (λ u. sym (ap fault_in (none u)), λ n. refl)

pub told_fault : (line : List ℕ) (value : Data) (fault : JobFault) → IsUtf8 line → read line ≡ Some value → fault ≡ fault_of_version (version_of value) → IsFaultOf line fault
told_fault line value fault text told is = (λ u. is ∙ sym (ap fault_in told), λ n. absurd (n text))
