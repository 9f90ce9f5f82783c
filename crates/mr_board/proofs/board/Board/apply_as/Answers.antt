use Rattle.std.proofs.Common.{◌≡◌, Bool, true, false, refl, sym, ◌∙◌}
use Rattle.mr_user.specs.Computation.{computation}
use Rattle.mr_world_files.specs.Jobs.{job_of}
use Rattle.mr_world.specs.Journal.{world_in}
use Rattle.mr_world.proofs.Headlines.{holds-still}
use Rattle.mr_board.proofs.Faithful.{carries-nothing, not-both}
use Rattle.mr_board.proofs.board.Board.apply_as.Goals as goal

pub returns-then-is_computed-clause-applies : goal.returns-then-is_computed-clause-applies
returns-then-is_computed-clause-applies g c = ((λ no. absurd (not-both _ (sym c.is_computed.ensures ∙ c.if-is_computed.true) no)), (λ yes. (refl, refl, refl)))

pub returns-then-is_computed-clause-headline : goal.returns-then-is_computed-clause-headline
returns-then-is_computed-clause-headline g c = holds-still _ _ refl

pub make-requires : goal.make-requires
make-requires g c = record {
  carries = carries-nothing (job_of (computation g.J.Key.Ord.cmp g.J.Key.Wire.codec g.J.Value.Wire.codec g.J.Job.functions)) c.args.self.now.world.config (world_in c.args.self.now.world) c.args.event
      (sym c.is_computed.ensures ∙ c.if-is_computed.false);
}

pub returns-clause-applies : goal.returns-clause-applies
returns-clause-applies g c = ((λ no. c.make.ensures.makes), (λ yes. absurd (not-both _ yes (sym c.is_computed.ensures ∙ c.if-is_computed.false))))

pub returns-clause-headline : goal.returns-clause-headline
returns-clause-headline g c = c.make.ensures.headline
