use Rattle.std.proofs.Common.{◌≡◌, ap, length, sym, ◌∙◌}
use Rattle.mr_user.specs.Computation.{computation}
use Rattle.mr_world_files.specs.Jobs.{job_of}
use Rattle.mr_board.proofs.Faithful.{faithful-empty}
use Rattle.mr_board.proofs.board.Board.new.Goals as goal

pub invariant_of-board : goal.invariant_of-board
invariant_of-board g c = (
  faithful-empty (job_of (computation g.J.Key.Ord.cmp g.J.Key.Wire.codec g.J.Value.Wire.codec g.J.Job.functions)) c.args.world c.requires.empty,
  ap length c.new.ensures.items ∙ sym (ap length c.requires.empty),
)
