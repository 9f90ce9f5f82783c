-- The part files of a job.
use Rattle.std.proofs.Common.{◌≡◌, ◌<◌, ℕ, suc, List, [], ◌∷◌, Some, Result, Ok, Err, length, map, option_map, slice_get, refl, ap, sym, ◌∙◌, arith, IfOk, Vec, Global}
use Rattle.std.proofs.lemmas.List.{length-map}
use Rattle.std.proofs.lemmas.Option.{slice_get-map}
use Rattle.mr_user.specs.declared.fault.UserFault.{UserFault}
use Rattle.mr_sim_commands.specs.declared.job.submission.JobKind.{JobKind}
use Rattle.mr_sim_commands.specs.declared.job.submission.Submission.{Submission}
use Rattle.mr_sim_commands.specs.Laws.{OneSeqText}
use Rattle.mr_sim_commands.specs.seq.PartFiles.{part_files_text}
use Rattle.mr_sim_commands.specs.seq.Text.{ArePartFiles, output_of}

-- the files that a sequential execution of the job's kind over its splits gives are its part files
pub part_files_are : (s : Submission) (kind : JobKind) (splits : List (List ℕ)) (r : Result (Vec (Vec ℕ Global) Global) UserFault) → s.job ≡ kind → splits ≡ s.splits → IfOk r (λ files. length files.items ≡ s.reduces) → IfOk r (λ files. (n : ℕ) → n < s.reduces → option_map (λ file. file.items) (slice_get files.items n) ≡ output_of kind s.reduces n splits) → IfOk r (λ files. ArePartFiles s (map (λ file. file.items) files.items))
part_files_are s kind splits (Ok files) is e count outputs = record {
  count = length-map files.items (λ (file : Vec ℕ Global). file.items) ∙ count;
  outputs = λ n lt. slice_get-map (λ (file : Vec ℕ Global). file.items) files.items n ∙ outputs n lt ∙ ap (output_of kind s.reduces n) e ∙ ap (λ k. output_of k s.reduces n s.splits) (sym is);
}
part_files_are s kind splits (Err fault) is e count outputs = tt

-- ---- one text

-- lists with the same items are one
same_list : {A : Type 0} (xs ys : List A) → length xs ≡ length ys → ((r : ℕ) → r < length xs → slice_get xs r ≡ slice_get ys r) → xs ≡ ys
same_list [] [] e h = refl
same_list [] (y ∷ ys) e h = absurd (cc)
same_list (x ∷ xs) [] e h = absurd (cc)
same_list (x ∷ xs) (y ∷ ys) e h =
    let first : Some x ≡ Some y = h 0 (omega arith) in
    let is : x ≡ y = cc in
    rw (is, same_list xs ys (cc) (λ r lt. h (suc r) (omega (arith, lt)))) refl

-- a job has at most one list of part files
same_files : (s : Submission) (xs ys : List (List ℕ)) → ArePartFiles s xs → ArePartFiles s ys → xs ≡ ys
same_files s xs ys p q = same_list xs ys (p.count ∙ sym q.count) (λ r lt. let below : r < s.reduces = rw (sym p.count) lt in p.outputs r below ∙ sym (q.outputs r below))

pub one_seq_text_law : OneSeqText
one_seq_text_law input text other p q =
    let job : p.job ≡ q.job = let both : Ok p.job ≡ Ok q.job = sym p.said ∙ q.said in cc in
    let files : p.files ≡ q.files = same_files q.job p.files q.files (rw (sym job) p.part_files) q.part_files in
    p.is ∙ ap (part_files_text 0) files ∙ sym q.is
