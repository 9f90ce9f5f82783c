-- A job text is not both printed and refused: a job has a reduce at least.
use Rattle.std.proofs.Common.{◌≡◌, ◌<◌, ◌≤◌, ◌&&◌, ℕ, Bool, true, false, cond, List, [], ◌∷◌, length, codes, nat_le, if◌then◌else◌, Option, Some, None, Result, Ok, Err, option_and_then, slice_get, refl, sym, ap, ◌∙◌, arith, leb-true}
use Rattle.std.specs.Str.{is_utf8}
use Rattle.std.proofs.lemmas.Bool.{and_parts}
use Rattle.serde_json.specs.Data.{Data}
use Rattle.serde_json.specs.Find.{as_number, as_object, as_u64, get}
use Rattle.serde_json.specs.Read.{read}
use Rattle.mr_sim_commands.specs.declared.fault.JobTextFault.{JobTextFault}
use Rattle.mr_sim_commands.specs.declared.fault.JobTextFault.TheVariants as bad
use Rattle.mr_sim_commands.specs.declared.job.submission.Submission.{Submission}
use Rattle.mr_sim_commands.specs.job.Text.{◌>>=◌, within, number_in, required, optional, text_at, job_named, kind_named, splits_of, faults_of, submission_in, submission_of}
use Rattle.mr_sim_commands.specs.seq.Text.{PrintsSeq, RefusesSeq}

some_within : (low high n m : ℕ) → within low high n ≡ Some m → low ≤ m
some_within low high n m e = by (nat_le low n && nat_le n high) refl e
  where
    by : (b : Bool) → (nat_le low n && nat_le n high) ≡ b → cond b (Some n) None ≡ Some m → low ≤ m
    by true h e =
        let is : n ≡ m = cc in
        let p = and_parts (nat_le low n) (nat_le n high) h in
        rw (sym is) (leb-true low n p.0)
    by false h e = absurd (cc)

number_above : (low high : ℕ) (d : Data) (m : ℕ) → number_in low high d ≡ Some m → low ≤ m
number_above low high d m e = by (option_and_then as_u64 (as_number d)) e
  where
    by : (o : Option ℕ) → option_and_then (within low high) o ≡ Some m → low ≤ m
    by None e = absurd (cc)
    by (Some n) e = some_within low high n m e

required_above : (low high : ℕ) (bad_key : JobTextFault) (o : Option Data) (m : ℕ) → required bad_key (option_and_then (number_in low high) o) ≡ Ok m → low ≤ m
required_above low high bad_key None m e = absurd (cc)
required_above low high bad_key (Some d) m e = by (number_in low high d) refl e
  where
    by : (o : Option ℕ) → number_in low high d ≡ o → required bad_key o ≡ Ok m → low ≤ m
    by None is e = absurd (cc)
    by (Some n) is e = number_above low high d m (is ∙ (let y : n ≡ m = cc in ap (λ k. Some k) y))

abbrev HasReduce : Result Submission JobTextFault → Type 0
HasReduce (Ok job) = 1 ≤ job.reduces
HasReduce (Err e) = Unit {0}

after : {A : Type 0} (m : Result A JobTextFault) (f : A → Result Submission JobTextFault) → ((x : A) → m ≡ Ok x → HasReduce (f x)) → HasReduce (m >>= f)
after (Ok x) f h = h x refl
after (Err e) f h = tt

reduce_in : (d : Data) → HasReduce (submission_in d)
unfolding submission_in
reduce_in d =
    after (required bad.Text (as_object d)) _ (λ object e1.
    after (required bad.Id (option_and_then job_named (text_at (codes "id") d))) _ (λ id e2.
    after (required bad.Job (option_and_then kind_named (text_at (codes "job") d))) _ (λ job e3.
    after (required bad.Reduces (option_and_then (number_in 1 1000) (get (codes "reduces") d))) _ (λ reduces e4.
    after (required bad.Splits (option_and_then splits_of (get (codes "splits") d))) _ (λ splits e5.
    after (required bad.Nodes (optional 1 (number_in 1 64) (get (codes "nodes") d))) _ (λ nodes e6.
    after (required bad.Limit (optional 4 (number_in 1 100) (get (codes "limit") d))) _ (λ limit e7.
    after (required bad.Faults (optional [] (faults_of nodes) (get (codes "faults") d))) _ (λ faults e8.
    after (required bad.V2From (optional 1 (number_in 1 1000) (get (codes "v2from") d))) _ (λ v2_from e9.
    required_above 1 1000 bad.Reduces (get (codes "reduces") d) reduces e4)))))))))

has_reduce : (r : Result Submission JobTextFault) (job : Submission) → HasReduce r → r ≡ Ok job → 1 ≤ job.reduces
has_reduce (Ok made) job h e = let is : made ≡ job = cc in rw (sym is) h
has_reduce (Err f) job h e = absurd (cc)

some_reduce : (input : List ℕ) (job : Submission) → submission_of input ≡ Ok job → 1 ≤ job.reduces
unfolding submission_of
some_reduce input job e = by (if is_utf8 input then read input else None) e
  where
    by : (o : Option Data) → (required bad.Text o >>= submission_in) ≡ Ok job → 1 ≤ job.reduces
    by None e = absurd (cc)
    by (Some d) e = has_reduce (submission_in d) job (reduce_in d) e

none_there : (files : List (List ℕ)) → 0 < length files → slice_get files 0 ≡ None → ⊥
none_there [] some e = omega arith
none_there (file ∷ files) some e = absurd (cc)

pub seq_not_both : (input text : List ℕ) → PrintsSeq input text → RefusesSeq input → ⊥
seq_not_both input text p q =
    let both : Ok p.job ≡ Ok q.job = sym p.said ∙ q.said in
    let job : p.job ≡ q.job = cc in
    let some : 0 < p.job.reduces = some_reduce input p.job p.said in
    none_there p.files (rw p.part_files.count some) (p.part_files.outputs 0 some ∙ rw job (q.refused 0 (rw job at some)))
