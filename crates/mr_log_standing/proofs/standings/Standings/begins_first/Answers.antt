use Rattle.std.proofs.Common.{◌∙◌}
use Rattle.std.proofs.lemmas.Result.{IfOk-weaker}
use Rattle.mr_log_standing.specs.Deciding.{idle}
use Rattle.mr_log_standing.proofs.Choosings.{by-first}
use Rattle.mr_log_standing.proofs.standings.Standings.begins_first.Goals as goal

pub returns : goal.returns
returns c =
    IfOk-weaker c.begins_by.result _ _
    (λ d e. e ∙ by-first c.args.self.now.job c.args.host.now c.args.self.now.entries c.first_idle.result (idle c.args.self.now.job c.args.host.now c.args.self.now.entries) c.first_idle.ensures.first)
    c.begins_by.ensures
