use Rattle.std.proofs.Common.{◌≡◌, ap, subst, sym, ◌∙◌}
use Rattle.mr_user.specs.Computation.{computation}
use Rattle.mr_world_files.specs.Jobs.{job_of}
use Rattle.mr_world_model.specs.Sequential.{CarriesDefinition}
use Rattle.mr_world.specs.Headline.{HeadlineHolds}
use Rattle.mr_world.specs.Journal.{Journal, world_in}
use Rattle.mr_world.proofs.Headlines.{holds-still}
use Rattle.mr_board.specs.Boards.{Noted}
use Rattle.mr_board.proofs.Making.{kept-still, kept-on, makes-refused, makes-one}
use Rattle.mr_board.proofs.board.Board.make_noted.Goals as goal

pub invariant_of-self : goal.invariant_of-self
invariant_of-self g c =
    kept-still (job_of (computation g.J.Key.Ord.cmp g.J.Key.Wire.codec g.J.Value.Wire.codec g.J.Job.functions)) c.self.inside.world c.apply.new.self c.self.inside.by.items c.with_room.new.by.items
    c.self.invariant c.in_err-took-in-Ok.ensures.applies.1 c.with_room.ensures.by

pub returns-in_err-took-in-Ok-clause-makes : goal.returns-in_err-took-in-Ok-clause-makes
returns-in_err-took-in-Ok-clause-makes g c =
    makes-refused c.self.inside.number c.self.inside.world c.self.inside.by.items c.seat.inside.board c.seat.inside.number c.seat.inside.made.items c.args.self.now c.args.seat.now c.self.view_is c.seat.view_is
    c.args.event c.from_residual.result c.in_err-took-in-Ok.field-0.0 c.apply.new.self c.with_room.new.by.items c.with_room.new.made.items
    c.from_residual.ensures.1 c.in_err-took-in-Ok.ensures.applies.0 c.in_err-took-in-Ok.ensures.applies.1 c.with_room.ensures.by c.with_room.ensures.made

pub returns-in_err-took-in-Ok-clause-headline : goal.returns-in_err-took-in-Ok-clause-headline
returns-in_err-took-in-Ok-clause-headline g c =
    let same : c.self.inside.world ≡ c.args.self.now.world = ap (λ n. n.world) c.self.view_is in
    subst (λ j. HeadlineHolds j c.apply.new.self) same c.apply.ensures.headline

pub invariant_of-self-in-Ok : goal.invariant_of-self-in-Ok
invariant_of-self-in-Ok g c =
    let job = job_of (computation g.J.Key.Ord.cmp g.J.Key.Wire.codec g.J.Value.Wire.codec g.J.Job.functions) in
    let same : c.self.inside.world ≡ c.args.self.now.world = ap (λ n. n.world) c.self.view_is in
    kept-on job c.self.inside.world c.apply.new.self c.args.event c.self.inside.by.items c.with_room.new.by.items c.push_reserved.new.self.items c.seat.inside.number
    c.self.invariant (subst (λ (j : Journal). CarriesDefinition job j.config (world_in j) c.args.event) (sym same) c.requires.carries) c.in_ok-took-in-Ok.ensures.applies.journal c.with_room.ensures.by c.push_reserved.ensures.items

pub returns-in_ok-took-in-Ok-clause-makes : goal.returns-in_ok-took-in-Ok-clause-makes
returns-in_ok-took-in-Ok-clause-makes g c =
    makes-one c.self.inside.number c.self.inside.world c.self.inside.by.items c.seat.inside.board c.seat.inside.number c.seat.inside.made.items c.args.self.now c.args.seat.now c.self.view_is c.seat.view_is
    c.args.event c.in-Ok.copy c.in_ok-took-in-Ok.took c.apply.new.self c.with_room.new.by.items c.push_reserved.new.self.items c.with_room.new.made.items c.push_reserved-in-Ok.new.self.items
    c.in_ok-took-in-Ok.ensures.applies c.with_room.ensures.by c.push_reserved.ensures.items c.with_room.ensures.made (c.in-Ok.ensures.event ∙ c.requires.same) c.push_reserved-in-Ok.ensures.items

pub returns-in_ok-took-in-Ok-clause-headline : goal.returns-in_ok-took-in-Ok-clause-headline
returns-in_ok-took-in-Ok-clause-headline g c =
    let same : c.self.inside.world ≡ c.args.self.now.world = ap (λ n. n.world) c.self.view_is in
    subst (λ j. HeadlineHolds j c.apply.new.self) same c.apply.ensures.headline

pub push_reserved-requires : goal.push_reserved-requires
push_reserved-requires g c = c.in-Ok.ensures.room.0

pub push_reserved-requires-in-Ok : goal.push_reserved-requires-in-Ok
push_reserved-requires-in-Ok g c = c.in-Ok.ensures.room.1

pub returns-in-Err-clause-headline : goal.returns-in-Err-clause-headline
returns-in-Err-clause-headline g c = holds-still _ _ (ap (λ (n : Noted). n.world) c.self.view_is)
