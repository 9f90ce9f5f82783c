use Rattle.std.proofs.Common.{sym, subst}
use Rattle.mr_commit.specs.Recovery.{Recovery}
use Rattle.mr_commit.specs.Settles.{Settles}
use Rattle.mr_commit_trace.specs.Seen.{lines_in}
use Rattle.mr_commit_trace.proofs.Turning.{tables_settle}
use Rattle.mr_commit_trace.proofs.table.operate.Goals as goal

pub finish-requires : goal.finish-requires
finish-requires c = record { settles = subst (λ (m : Recovery). Settles (lines_in m)) (sym c.in_ok-moves.ensures) (tables_settle c.args.wish c.args.layout.now.dest c.args.caller.now.app) }
