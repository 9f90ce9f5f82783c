use Rattle.std.proofs.Common.{codes, ◌∙◌}
use Rattle.mr_out_files.specs.Troubles.{IsHistoryTrouble}
use Rattle.mr_out_files.proofs.Troubled.{handed_on, path_trouble, stat_trouble, renewed_trouble, found_trouble}
use Rattle.mr_out_files.proofs.history.History.flush.Goals as goal

pub returns-in_err-sync : goal.returns-in_err-sync
returns-in_err-sync c =
    handed_on IsHistoryTrouble c.from_residual-in_err-sync.result c.in_err-sync.field-0.0 c.from_residual-in_err-sync.ensures.1
    (path_trouble c.args.self.now.newest (codes "sync") c.deref.result.now c.in_err-sync.field-0.0 (c.deref.ensures ∙ c.in_ok-path.ensures) c.in_err-sync.ensures.failed)

pub returns-in-Some : goal.returns-in-Some
returns-in-Some c = stat_trouble c.args.self.now.newest c.deref-in-Some.result.now c.stat.result (c.deref-in-Some.ensures ∙ c.in_ok-path.ensures) c.stat.ensures.failed

pub returns-then-is_some : goal.returns-then-is_some
returns-then-is_some c = renewed_trouble c.args.self.now.newest c.deref-then-is_some.result.now c.renew.result (c.deref-then-is_some.ensures ∙ c.in_ok-path.ensures) c.renew.ensures

pub returns : goal.returns
returns c = found_trouble c.args.self.now.newest c.deref-2.result.now c.sync_found.result (c.deref-2.ensures ∙ c.in_ok-path.ensures) c.sync_found.ensures
