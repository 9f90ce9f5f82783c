use Rattle.std.proofs.Common.{◌∙◌, sym, ap}
use Rattle.mr_sim_commands.specs.job.Text.{submission_of}
use Rattle.mr_play.proofs.Marked.{marked-shows, refused-never}
use Rattle.mr_play.proofs.faithful.marked_files_are_those_of_seq.Goals as goal

pub returns-clause-same : goal.returns-clause-same
returns-clause-same c =
    marked-shows (record { word_count = c.known_laws.ensures.word_count; max_by_key = c.known_laws.ensures.max_by_key; line_index = c.known_laws.ensures.line_index }) c.args.input.now c.in_ok-submission.submission
    (ap submission_of (sym c.job_text.ensures) ∙ c.in_ok-submission.ensures.said) c.in_ok-submission.ensures.limits c.tell_bytes.ensures

pub returns-clause-never : goal.returns-clause-never
returns-clause-never c =
    refused-never (record { word_count = c.known_laws.ensures.word_count; max_by_key = c.known_laws.ensures.max_by_key; line_index = c.known_laws.ensures.line_index }) c.args.input.now c.in_ok-submission.submission
    (ap submission_of (sym c.job_text.ensures) ∙ c.in_ok-submission.ensures.said) c.in_ok-submission.ensures.limits c.tell_bytes.ensures
