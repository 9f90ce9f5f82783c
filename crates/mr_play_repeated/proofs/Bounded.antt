-- A job's reduces, splits and nodes are few.
use Rattle.std.proofs.Common.{◌≡◌, ◌≤◌, ◌&&◌, ℕ, Bool, true, false, cond, List, [], length, codes, nat_le, if◌then◌else◌, Option, Some, None, Result, Ok, Err, option_and_then, refl, ap, subst, arith, leb-true}
use Rattle.std.specs.Str.{is_utf8}
use Rattle.std.proofs.lemmas.Bool.{and_parts}
use Rattle.serde_json.specs.Data.{Data}
use Rattle.serde_json.specs.Find.{as_array, as_number, as_object, as_u64, get}
use Rattle.serde_json.specs.Read.{read}
use Rattle.mr_sim_commands.specs.declared.fault.JobTextFault.{JobTextFault}
use Rattle.mr_sim_commands.specs.declared.fault.JobTextFault.TheVariants as bad
use Rattle.mr_sim_commands.specs.declared.job.submission.Submission.{Submission}
use Rattle.mr_sim_commands.specs.job.Text.{◌>>=◌, at_most, each, within, number_in, required, optional, text_at, job_named, kind_named, split_of, splits_of, faults_of, submission_in, submission_of}

some_within : (low high n m : ℕ) → within low high n ≡ Some m → m ≤ high
some_within low high n m e = by (nat_le low n && nat_le n high) refl e
  where
    by : (b : Bool) → (nat_le low n && nat_le n high) ≡ b → cond b (Some n) None ≡ Some m → m ≤ high
    by true h e =
        let is : n ≡ m = cc in
        let p = and_parts (nat_le low n) (nat_le n high) h in
        subst (λ k. k ≤ high) is (leb-true n high p.1)
    by false h e = absurd (cc)

number_below : (low high : ℕ) (d : Data) (m : ℕ) → number_in low high d ≡ Some m → m ≤ high
number_below low high d m e = by (option_and_then as_u64 (as_number d)) e
  where
    by : (o : Option ℕ) → option_and_then (within low high) o ≡ Some m → m ≤ high
    by None e = absurd (cc)
    by (Some n) e = some_within low high n m e

there : {A : Type 0} (e : JobTextFault) (o : Option A) (y : A) → required e o ≡ Ok y → o ≡ Some y
there e None y q = absurd (cc)
there e (Some z) y q = let same : z ≡ y = cc in ap (λ k. Some k) same

required_below : (low high : ℕ) (o : Option Data) (m : ℕ) → option_and_then (number_in low high) o ≡ Some m → m ≤ high
required_below low high None m e = absurd (cc)
required_below low high (Some d) m e = number_below low high d m e

optional_below : (default low high : ℕ) → default ≤ high → (o : Option Data) (m : ℕ) → optional default (number_in low high) o ≡ Some m → m ≤ high
optional_below default low high le None m e = let is : default ≡ m = cc in subst (λ k. k ≤ high) is le
optional_below default low high le (Some d) m e = number_below low high d m e

most_of : {A : Type 0} (n : ℕ) (xs ys : List A) → at_most n xs ≡ Some ys → length ys ≤ n
most_of n xs ys e = by (nat_le (length xs) n) refl e
  where
    by : (b : Bool) → nat_le (length xs) n ≡ b → cond b (Some xs) None ≡ Some ys → length ys ≤ n
    by true h q = let is : xs ≡ ys = cc in subst (λ zs. length zs ≤ n) is (leb-true (length xs) n h)
    by false h q = absurd (cc)

list_below : {A : Type 0} (n : ℕ) (o : Option (List A)) (ys : List A) → option_and_then (at_most n) o ≡ Some ys → length ys ≤ n
list_below n None ys e = absurd (cc)
list_below n (Some xs) ys e = most_of n xs ys e

splits_below : (o : Option Data) (ys : List (List ℕ)) → option_and_then splits_of o ≡ Some ys → length ys ≤ 1000
splits_below None ys e = absurd (cc)
splits_below (Some d) ys e = list_below 1000 (option_and_then (each split_of) (as_array d)) ys e

pub record IsNarrow (job : Submission) : Type 0 where
  pub reduces : job.reduces ≤ 1000
  pub splits : length job.splits ≤ 1000
  pub nodes : job.nodes ≤ 64

abbrev Narrow : Result Submission JobTextFault → Type 0
Narrow (Ok job) = IsNarrow job
Narrow (Err e) = Unit {0}

after : {A : Type 0} (m : Result A JobTextFault) (f : A → Result Submission JobTextFault) → ((x : A) → m ≡ Ok x → Narrow (f x)) → Narrow (m >>= f)
after (Ok x) f h = h x refl
after (Err e) f h = tt

narrow_in : (d : Data) → Narrow (submission_in d)
unfolding submission_in
narrow_in d =
    after (required bad.Text (as_object d)) _ (λ object e1.
    after (required bad.Id (option_and_then job_named (text_at (codes "id") d))) _ (λ id e2.
    after (required bad.Job (option_and_then kind_named (text_at (codes "job") d))) _ (λ job e3.
    after (required bad.Reduces (option_and_then (number_in 1 1000) (get (codes "reduces") d))) _ (λ reduces e4.
    after (required bad.Splits (option_and_then splits_of (get (codes "splits") d))) _ (λ splits e5.
    after (required bad.Nodes (optional 1 (number_in 1 64) (get (codes "nodes") d))) _ (λ nodes e6.
    after (required bad.Limit (optional 4 (number_in 1 100) (get (codes "limit") d))) _ (λ limit e7.
    after (required bad.Faults (optional [] (faults_of nodes) (get (codes "faults") d))) _ (λ faults e8.
    after (required bad.V2From (optional 1 (number_in 1 1000) (get (codes "v2from") d))) _ (λ v2_from e9.
    record {
      reduces = required_below 1 1000 (get (codes "reduces") d) reduces (there bad.Reduces _ reduces e4);
      splits = splits_below (get (codes "splits") d) splits (there bad.Splits _ splits e5);
      nodes = optional_below 1 1 64 (omega arith) (get (codes "nodes") d) nodes (there bad.Nodes _ nodes e6);
    })))))))))

is_narrow : (r : Result Submission JobTextFault) (job : Submission) → Narrow r → r ≡ Ok job → IsNarrow job
is_narrow (Ok made) job h e = let is : made ≡ job = cc in subst IsNarrow is h
is_narrow (Err f) job h e = absurd (cc)

pub jobs_are_narrow : (input : List ℕ) (job : Submission) → submission_of input ≡ Ok job → IsNarrow job
unfolding submission_of
jobs_are_narrow input job e = by (if is_utf8 input then read input else None) e
  where
    by : (o : Option Data) → (required bad.Text o >>= submission_in) ≡ Ok job → IsNarrow job
    by None e = absurd (cc)
    by (Some d) e = is_narrow (submission_in d) job (narrow_in d) e
