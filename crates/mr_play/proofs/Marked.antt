-- Where the marker is, the files that `play` prints are those that `seq` prints.
use Rattle.std.proofs.Common.{◌≡◌, ℕ, zero, suc, ◌+◌, ◌<◌, ◌≤◌, ◌^◌, List, [], ◌∷◌, ◌++◌, length, All, Some, None, Result, Ok, refl, sym, ap, subst, ◌∙◌, append_assoc, arith}
use Rattle.std.specs.Cmp.Lexicographic.{slice_cmp}
use Rattle.std.specs.List.{AllByRecursion, flat_map, range_with_len, slice_get}
use Rattle.std.specs.Ordering.{nat_cmp}
use Rattle.mr_paths.specs.Layout as layout
use Rattle.mr_user.specs.Codecs.{number_codec, position_codec, text_codec}
use Rattle.mr_user.specs.Computation.{computation}
use Rattle.mr_user.specs.Laws.{AreBytes}
use Rattle.mr_jobs.specs.LineIndex.{line_index}
use Rattle.mr_jobs.specs.MaxByKey.{max_by_key}
use Rattle.mr_jobs.specs.WordCount.{word_count}
use Rattle.mr_shuffle.specs.SequentialText.{AreSplits}
use Rattle.mr_script.specs.declared.command.Command.{Command}
use Rattle.mr_script.specs.Script.{AreCommands}
use Rattle.mr_world_model.specs.Packets.{Config}
use Rattle.mr_world_model.specs.Claims.{IsMarked}
use Rattle.mr_world_model.specs.Results.{outcome, visible}
use Rattle.mr_world_model.specs.Sequential.{JobLaws}
use Rattle.mr_world_files.specs.Jobs.{LawsOf}
use Rattle.mr_world_files.specs.Shown.{named, ShowsSequential}
use Rattle.mr_world_files.proofs.Seen.{marked_worlds_show}
use Rattle.mr_world.specs.Limits.{within}
use Rattle.mr_world.proofs.Headlines.{outputs-are-bounded}
use Rattle.mr_sim_commands.specs.declared.fault.JobTextFault.{JobTextFault}
use Rattle.mr_sim_commands.specs.declared.job.submission.JobKind.{JobKind}
use Rattle.mr_sim_commands.specs.declared.job.submission.JobKind.TheVariants.{WordCount, MaxByKey, LineIndex}
use Rattle.mr_sim_commands.specs.declared.job.submission.Submission.{Submission}
use Rattle.mr_sim_commands.specs.job.Submission.{IsWithinLimits}
use Rattle.mr_sim_commands.specs.job.Text.{submission_of}
use Rattle.mr_sim_commands.specs.seq.PartFiles.{part_files_text}
use Rattle.mr_sim_commands.specs.seq.Text.{output_of}
use Rattle.mr_play.specs.Played.{Played, world}
use Rattle.mr_play.specs.Text.{job_as, config_of, played_of, job_line, script_lines, printed_world}
use Rattle.mr_play.specs.WorldText.{visible_text, winner_line, marker_line, outcome_line, line_of_marker, world_text}
use Rattle.mr_play.specs.Faithful.{MarkedShowsSeq, RefusedIsNeverMarked}
use Rattle.mr_play.proofs.Honest.{scripts_are_faithful_law}

-- the laws of the three jobs
pub record Laws : Type 0 where
  pub word_count : LawsOf (computation (slice_cmp nat_cmp) text_codec number_codec word_count)
  pub max_by_key : LawsOf (computation (slice_cmp nat_cmp) text_codec number_codec max_by_key)
  pub line_index : LawsOf (computation (slice_cmp nat_cmp) text_codec position_codec line_index)

laws_as : Laws → (kind : JobKind) (cfg : Config) → AreSplits cfg.splits → JobLaws (job_as kind) cfg
unfolding job_as
laws_as laws WordCount cfg are = laws.word_count cfg are
laws_as laws MaxByKey cfg are = laws.max_by_key cfg are
laws_as laws LineIndex cfg are = laws.line_index cfg are

same_output : (kind : JobKind) (reduces r : ℕ) (splits : List (List ℕ)) → (job_as kind).sequential reduces r splits ≡ output_of kind reduces r splits
unfolding job_as output_of
same_output WordCount reduces r splits = refl
same_output MaxByKey reduces r splits = refl
same_output LineIndex reduces r splits = refl

short_bytes : (splits : List (List ℕ)) → All (λ split. length split ≤ 2 ^ 24) splits → AllByRecursion AreBytes splits → AllByRecursion (λ split. (length split ≤ 2 ^ 24) × AreBytes split) splits
short_bytes [] h b = tt
short_bytes (x ∷ xs) h b = ((h 0 x (omega arith), b.0), short_bytes xs (λ k d lt. h (suc k) d (omega arith)) b.1)

files-text : (n : ℕ) (files : List (List ℕ)) → flat_map visible_text (named n files) ≡ part_files_text n files
files-text n [] = refl
files-text n (file ∷ files) = (λ i. visible_text (layout.part n, file) ++ files-text (n + 1) files i)

-- ---- what is shown of a job that was read

module _ (laws : Laws) (job : Submission) (limits : IsWithinLimits job) (bytes : AllByRecursion AreBytes job.splits) where
  splits : AreSplits job.splits
  splits = record { few = limits.few_splits; bytes = short_bytes job.splits limits.short_splits bytes }

  shows : (n : ℕ) (lines : List (List ℕ)) (cs : List (ℕ × Command)) (left : Played) → AreCommands job.id n lines cs → played_of within job cs ≡ Some left →
      IsMarked (world (job_as job.job) (config_of job) (within (config_of job)) left) → ShowsSequential (job_as job.job) (config_of job) (world (job_as job.job) (config_of job) (within (config_of job)) left)
  shows n lines cs left are comes marked =
      marked_worlds_show (job_as job.job) (config_of job) (within (config_of job)) (laws_as laws job.job (config_of job) splits) (outputs-are-bounded (config_of job)) limits.most_reduces
      left.events (scripts_are_faithful_law within job n lines cs left are comes) marked

module _ (laws : Laws) (input : List ℕ) (job : Submission) (said : submission_of (job_line input) ≡ Ok job) (limits : IsWithinLimits job) (bytes : AllByRecursion AreBytes job.splits) where
  ok_is : {A E : Type 0} (x y : A) → ◌≡◌ {A = Result A E} (Ok x) (Ok y) → x ≡ y
  ok_is x y e = cc

  same_job : (other : Submission) → submission_of (job_line input) ≡ Ok other → job ≡ other
  same_job other e = ok_is {E = JobTextFault} job other (sym said ∙ e)

  together : (r a m t v : List ℕ) → r ++ (((a ++ m) ++ t) ++ v) ≡ (r ++ a) ++ (m ++ (t ++ v))
  together r a m t v = ap (λ z. r ++ z) (append_assoc (a ++ m) t v ∙ append_assoc a m (t ++ v)) ∙ sym (append_assoc r a (m ++ (t ++ v)))

  pub marked-shows : MarkedShowsSeq input
  unfolding world_text
  marked-shows text p marked =
      let is = same_job p.job p.said in
      let s = shows laws p.job (subst IsWithinLimits is limits) (subst (λ (j : Submission). AllByRecursion AreBytes j.splits) is bytes) 2 (script_lines input) p.commands p.left p.read p.comes marked in
      let w = printed_world within input text p in
      record {
        files = part_files_text 0 s.files;
        prints = record {
          job = p.job;
          said = p.said;
          files = s.files;
          part_files = record { count = s.count; outputs = λ r l. s.texts r l ∙ same_output p.job.job p.job.reduces r p.job.splits };
          is = refl;
        };
        is = record {
          before = p.left.told ++ flat_map (winner_line (config_of p.job) w) (range_with_len 0 p.job.reduces);
          told = outcome w;
          is = p.is
              ∙ together p.left.told (flat_map (winner_line (config_of p.job) w) (range_with_len 0 p.job.reduces)) (marker_line w) (outcome_line w) (flat_map visible_text (visible w))
              ∙ (λ i. (p.left.told ++ flat_map (winner_line (config_of p.job) w) (range_with_len 0 p.job.reduces)) ++ (line_of_marker (marked i) ++ (outcome_line w ++ (ap (flat_map visible_text) s.seen ∙ files-text 0 s.files) i)));
        };
      }

  pub refused-never : RefusedIsNeverMarked input
  refused-never r text p marked =
      let is = same_job p.job p.said in
      let t = subst IsWithinLimits is limits in
      let s = shows laws p.job t (subst (λ (j : Submission). AllByRecursion AreBytes j.splits) is bytes) 2 (script_lines input) p.commands p.left p.read p.comes marked in
      let again = sym (same_job r.job r.said) ∙ is in
      let refused = subst (λ (j : Submission). (n : ℕ) → n < j.reduces → output_of j.job j.reduces n j.splits ≡ None) again r.refused in
      let some = t.some_reduces in
      let count = s.count in
      none-at s.files (omega (arith, some, count)) (s.texts 0 (omega (arith, some)) ∙ same_output p.job.job p.job.reduces 0 p.job.splits ∙ refused 0 (omega (arith, some)))
    where
      none-at : (files : List (List ℕ)) → 0 < length files → slice_get files 0 ≡ None → ⊥
      none-at [] h e = absurd (omega (arith, h))
      none-at (x ∷ xs) h e = cc
