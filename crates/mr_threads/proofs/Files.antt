-- The files of a run whose marker is there are those that `seq` prints.
use Rattle.std.proofs.Common.{◌≡◌, ℕ, ◌+◌, true, List, [], ◌∷◌, ◌++◌, map, Ok, refl, sym, ap, subst, ◌∙◌}
use Rattle.std.specs.List.{flat_map}
use Rattle.mr_paths.specs.Layout as layout
use Rattle.mr_world_model.specs.Packets.{Config}
use Rattle.mr_world_model.specs.World.{World}
use Rattle.mr_world_model.specs.Results.{visible}
use Rattle.mr_world_files.specs.Shown.{named, ShowsSequential}
use Rattle.mr_play.specs.mr_world.specs.Journal.{world_in}
use Rattle.mr_play.specs.mr_world.specs.VisibleFiles.{as_pair}
use Rattle.mr_drive.specs.mr_board_report.specs.declared.report.Report.{Report}
use Rattle.mr_sim_commands.specs.declared.job.submission.JobKind.{JobKind}
use Rattle.mr_sim_commands.specs.declared.job.submission.JobKind.TheVariants.{WordCount, MaxByKey, LineIndex}
use Rattle.mr_sim_commands.specs.declared.job.submission.Submission.{Submission}
use Rattle.mr_sim_commands.specs.job.Text.{submission_of}
use Rattle.mr_sim_commands.specs.seq.PartFiles.{part_files_text}
use Rattle.mr_sim_commands.specs.seq.Text.{output_of, PrintsSeq}
use Rattle.mr_play.specs.Text.{job_as, config_of}
use Rattle.mr_play.specs.WorldText.{visible_text}
use Rattle.mr_threads.specs.Runs.{Reports}
use Rattle.mr_threads.specs.Text.{HasSucceeded}

same_output : (kind : JobKind) (reduces r : ℕ) (splits : List (List ℕ)) → (job_as kind).sequential reduces r splits ≡ output_of kind reduces r splits
unfolding job_as output_of
same_output WordCount reduces r splits = refl
same_output MaxByKey reduces r splits = refl
same_output LineIndex reduces r splits = refl

files-text : (n : ℕ) (files : List (List ℕ)) → flat_map visible_text (named n files) ≡ part_files_text n files
files-text n [] = refl
files-text n (file ∷ files) = (λ i. visible_text (layout.part n, file) ++ files-text (n + 1) files i)

-- the part files that are seen are those of `seq`
module _ (input : List ℕ) (job : Submission) (said : submission_of input ≡ Ok job) (w : World) (s : ShowsSequential (job_as job.job) (config_of job) w) where
  pub prints-seq : PrintsSeq input (part_files_text 0 s.files)
  prints-seq = record {
    job = job;
    said = said;
    files = s.files;
    part_files = record { count = s.count; outputs = λ r l. s.texts r l ∙ same_output job.job job.reduces r job.splits };
    is = refl;
  }

  pub visible-is : flat_map visible_text (visible w) ≡ part_files_text 0 s.files
  visible-is = ap (flat_map visible_text) s.seen ∙ files-text 0 s.files

-- of a config that is the job's
pub of_job : (job : Submission) (cfg : Config) (w : World) → cfg ≡ config_of job → ShowsSequential (job_as job.job) cfg w → ShowsSequential (job_as job.job) (config_of job) w
of_job job cfg w is s = subst (λ c. ShowsSequential (job_as job.job) c w) is s

-- what is printed of a report that succeeded
pub prints : (input : List ℕ) (r : Report) (text : List ℕ) → Reports input r → r.succeeded ≡ true → text ≡ flat_map visible_text (map as_pair r.files.items) → PrintsSeq input text
prints input r text reports won is =
    let s = of_job reports.job r.world.config (world_in r.world) reports.is.run.config_is (reports.is.sequential won) in
    subst (PrintsSeq input) (sym (is ∙ ap (flat_map visible_text) reports.is.seen ∙ visible-is input reports.job reports.said (world_in r.world) s))
    (prints-seq input reports.job reports.said (world_in r.world) s)

-- and then there was a run that succeeded
pub has_succeeded : (input : List ℕ) (r : Report) → Reports input r → r.succeeded ≡ true → HasSucceeded input
has_succeeded input r reports won = record {
  job = reports.job;
  said = reports.said;
  run = r.world;
  is = reports.is.run;
  succeeded = reports.is.told won;
}
