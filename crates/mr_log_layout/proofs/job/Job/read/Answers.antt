use Rattle.std.proofs.Common.{◌≡◌, sym, ap, ◌∙◌, subst}
use Rattle.std.proofs.lemmas.Result.{IfOk-weaker, MatchResult-weaker}
use Rattle.mr_log_layout.specs.declared.job.Job.{Job}
use Rattle.mr_log_layout.specs.Jobs.{data_of, job_line, IsTold}
use Rattle.mr_log_layout.proofs.Told.{line_reads}
use Rattle.mr_log_layout.proofs.job.Job.read.Goals as goal

pub returns-in-Err-clause-only : goal.returns-in-Err-clause-only
returns-in-Err-clause-only c job is e = let reads = line_reads c.args.bytes.now c.line_in.result.now job is c.line_in.ensures e in c.in-Err.ensures.only job is reads.0 reads.1

pub returns-in-Ok-clause-found : goal.returns-in-Ok-clause-found
returns-in-Ok-clause-found c = IfOk-weaker c.told_by.result _ _ (λ j h. (subst IsTold (sym h.0) c.in-Ok.ensures.found.0, h.1 ∙ ap (λ (x : Job). job_line (data_of x)) (sym h.0))) c.told_by.ensures.found

pub returns-in-Ok-clause-only : goal.returns-in-Ok-clause-only
returns-in-Ok-clause-only c job is e =
    let reads = line_reads c.args.bytes.now c.line_in.result.now job is c.line_in.ensures e in
    let same : data_of c.in-Ok.job ≡ data_of job = c.in-Ok.ensures.only job is reads.0 reads.1 in
    MatchResult-weaker c.told_by.result (c.told_by.ensures.only (e ∙ ap job_line (sym same))) (λ j h. ap data_of h ∙ same) (λ f h. h)
