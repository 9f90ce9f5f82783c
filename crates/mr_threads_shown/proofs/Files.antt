-- What is shown of a run that threads made, and the files of `seq` in it.
use Rattle.std.proofs.Common.{◌≡◌, ℕ, List, [], ◌∷◌, ◌++◌, Ok, ◌∙◌, append_assoc, subst}
use Rattle.std.specs.List.{AllByRecursion, flat_map, range_with_len}
use Rattle.mr_world_model.specs.Claims.{IsMarked}
use Rattle.mr_world_model.specs.Results.{outcome, visible}
use Rattle.mr_world_model.specs.Sequential.{IsFaithful}
use Rattle.mr_world_model.specs.World.{Event}
use Rattle.mr_play.specs.mr_world.specs.Journal.{Journal, world_in}
use Rattle.mr_play.specs.mr_world.specs.Limits.{within}
use Rattle.mr_play.specs.mr_world.specs.Repeating.{CanFollow}
use Rattle.mr_drive.specs.mr_board_report.specs.declared.report.Report.{Report}
use Rattle.mr_sim_commands.specs.declared.fault.SimFault.{SimFault}
use Rattle.mr_sim_commands.specs.declared.fault.SimFault.TheVariants as fault
use Rattle.mr_sim_commands.specs.declared.job.submission.Submission.{Submission}
use Rattle.mr_sim_commands.specs.job.Text.{submission_of}
use Rattle.mr_sim_commands.specs.seq.PartFiles.{part_files_text}
use Rattle.mr_play.specs.Text.{config_of, job_as}
use Rattle.mr_play.specs.WorldText.{visible_text, winner_line, marker_line, outcome_line, line_of_marker, world_text}
use Rattle.mr_play_repeated.specs.Repeated.{IsShort, KeepsFew}
use Rattle.mr_play_repeated.proofs.Again.{runs_are_repeated_law}
use Rattle.mr_play_repeated.proofs.Faithfully.{faithful_runs_are_repeatable_law}
use Rattle.mr_script_writer.specs.Repeating.{commented, repeating}
use Rattle.mr_threads.specs.Text.{ShownFails}
use Rattle.mr_threads.specs.Runs.{IsRun, Reports, plan_of}
use Rattle.mr_threads_shown.specs.Text.{IsPlayedAgainBehind, Repeats, ShowsRun, Tells, TellsFilesOfSeq, text_of_run}
use Rattle.mr_threads.proofs.Files.{of_job, prints-seq, visible-is}
use Rattle.mr_threads_shown.specs.declared.seen.Seen.{Seen}
use Rattle.mr_threads_shown.specs.declared.seen.Seen.TheVariants as seen_as
use Rattle.mr_threads_shown.specs.inner.{CanBeSaid, IsSayable, IsUnshown, MayRepeat}

together : (a m t v : List ℕ) → ((a ++ m) ++ t) ++ v ≡ a ++ (m ++ (t ++ v))
together a m t v = append_assoc (a ++ m) t v ∙ append_assoc a m (t ++ v)

tells-files : (input : List ℕ) (job : Submission) (j : Journal) → submission_of input ≡ Ok job → IsRun (job_as job.job) (plan_of job) j → IsMarked (world_in j) → TellsFilesOfSeq input j
unfolding world_text
tells-files input job j said run marked =
    let w = world_in j in
    let s = of_job job j.config w run.config_is (run.marked marked) in
    record {
      files = part_files_text 0 s.files;
      prints = prints-seq input job said w s;
      is = record {
        before = flat_map (winner_line j.config w) (range_with_len 0 j.config.reduces);
        told = outcome w;
        is = together (flat_map (winner_line j.config w) (range_with_len 0 j.config.reduces)) (marker_line w) (outcome_line w) (flat_map visible_text (visible w))
            ∙ (λ i. flat_map (winner_line j.config w) (range_with_len 0 j.config.reduces) ++ (line_of_marker (marked i) ++ (outcome_line w ++ visible-is input job said w s i)));
      };
    }

-- ---- a script

are_short : (es : List Event) → AllByRecursion IsSayable es → AllByRecursion IsShort es
are_short [] h = tt
are_short (e ∷ es) h = (h.0.0, are_short es h.1)

are_few : (es : List Event) → AllByRecursion IsSayable es → AllByRecursion KeepsFew es
are_few [] h = tt
are_few (e ∷ es) h = (h.0.1, are_few es h.1)

again : (job : Submission) (j : Journal) (text : List ℕ) → IsRun (job_as job.job) (plan_of job) j → CanBeSaid j → text ≡ repeating j.events ++ commented (text_of_run j) → IsPlayedAgainBehind job j text
again job j text run said is other names =
    let follow : CanFollow (config_of job) [] j.events = subst (λ c. CanFollow c [] j.events) run.config_is said.can in
    let faithful : IsFaithful (job_as job.job) (config_of job) (within (config_of job)) j.events = subst (λ c. IsFaithful (job_as job.job) c (within c) j.events) run.config_is run.faithful in
    runs_are_repeated_law other text job j.events names (faithful_runs_are_repeatable_law job j.events follow faithful (are_short j.events said.said) (are_few j.events said.said)) (text_of_run j, is)

pub can_be_said : (j : Journal) → CanFollow j.config [] j.events → AllByRecursion IsSayable j.events → CanBeSaid j
can_be_said j can said = record { can = can; said = said }

-- ---- why it is not shown

pub unshown : (input : List ℕ) (r : Report) (f : SimFault) → Reports input r → IsUnshown f → ShownFails input f
unshown input r fault.NoMemory reports why = tt
unshown input r fault.JournalMismatch reports why = record { job = reports.job; said = reports.said }
unshown input r _ reports why = absurd why

-- ---- all of it

repeats : (seen : Seen) (job : Submission) (by : List ℕ) (j : Journal) (text : List ℕ) → IsRun (job_as job.job) (plan_of job) j → Tells seen by j text → MayRepeat seen j → Repeats seen job j text
repeats seen_as.Script job by j text run tells said = again job j text run said tells
repeats (seen_as.Shown shown) job by j text run tells said = tt
repeats (seen_as.Drawn part) job by j text run tells said = tt
repeats seen_as.Json job by j text run tells said = tt

pub shows_run : (seen : Seen) (input : List ℕ) (r : Report) (text : List ℕ) → Reports input r → Tells seen r.by.items r.world text → MayRepeat seen r.world → ShowsRun seen input text
shows_run seen input r text reports tells said = record {
  job = reports.job;
  said = reports.said;
  run = r.world;
  is = reports.is.run;
  by = r.by.items;
  noted = reports.is.noted;
  tells = tells;
  repeats = repeats seen reports.job r.by.items r.world text reports.is.run tells said;
  files = tells-files input reports.job r.world reports.said reports.is.run;
}
