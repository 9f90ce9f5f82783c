use Rattle.std.proofs.Common.{◌≡◌, ◌∙◌, ap, refl, subst}
use Rattle.mr_shuffle.specs.SequentialText.{AreSplits}
use Rattle.mr_world.specs.Limits.{within}
use Rattle.mr_world.proofs.Headlines.{holds-still, outputs-are-bounded}
use Rattle.mr_board.proofs.board.Board.world.Goals as goal

pub returns-clause-headline : goal.returns-clause-headline
returns-clause-headline g c = holds-still _ _ refl

pub returns-clause-sequential : goal.returns-clause-sequential
returns-clause-sequential g c =
    let same : c.self.inside.world ≡ c.args.self.now.world = ap (λ n. n.world) c.self.view_is in
    let j = c.self.inside.world in
    let are : AreSplits j.config.splits = subst (λ cfg. AreSplits cfg.splits) c.config.ensures c.ranges-2.ensures.splits in
    rw (← same) (λ marked. (c.files_of_jobs_are_sequential.ensures j.config (within j.config) are (outputs-are-bounded j.config)).1 j.events c.self.invariant.0 marked)

pub returns-clause-world : goal.returns-clause-world
returns-clause-world g c = ap (λ n. n.world) c.self.view_is

pub returns-clause-faithful : goal.returns-clause-faithful
returns-clause-faithful g c =
    let same : c.self.inside.world ≡ c.args.self.now.world = ap (λ n. n.world) c.self.view_is in
    rw (← same) c.self.invariant.0
