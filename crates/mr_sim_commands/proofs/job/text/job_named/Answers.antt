use Rattle.std.proofs.Common.{◌≡◌, Ok, sym, ap, ◌∙◌}
use Rattle.mr_sim_commands.specs.job.Text.{job_named}
use Rattle.mr_sim_commands.proofs.job.Texts.{named, not_named}
use Rattle.mr_sim_commands.proofs.job.text.job_named.Goals as goal

pub returns-in-Ok : goal.returns-in-Ok
returns-in-Ok c = sym (ap job_named c.in-Ok.ensures.found ∙ named c.in-Ok.job c.in-Ok.ensures.ranges)

pub returns-in-Err : goal.returns-in-Err
returns-in-Err c = sym (not_named c.args.text.now (λ j h e.
    let read : c.parse.result ≡ Ok j = c.parse.ensures.only j h e in
    absurd (cc)))
