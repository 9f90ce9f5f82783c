use Rattle.std.proofs.Common.{◌≡◌, Err, ap, refl, subst, sym, ◌∙◌}
use Rattle.mr_user.specs.Computation.{computation}
use Rattle.mr_world_files.specs.Jobs.{job_of}
use Rattle.mr_world_events.specs.declared.event.Event.{Event}
use Rattle.mr_world_events.specs.declared.why.Why.{Why}
use Rattle.mr_world_model.specs.World.{Compute}
use Rattle.mr_world_model.specs.Sequential.{CarriesDefinition}
use Rattle.mr_world.specs.mr_world_state.specs.declared.fault.WorldFault.TheVariants.{NotNow}
use Rattle.mr_world.specs.Journal.{world_in}
use Rattle.mr_world.proofs.Headlines.{holds-still}
use Rattle.mr_board.specs.Boards.{Makes, why_not_due}
use Rattle.mr_board.proofs.Faithful.{carries-due, not-both}
use Rattle.mr_board.proofs.board.Board.hand_in_as.Goals as goal

pub returns-then-not-is_due-clause-hands : goal.returns-then-not-is_due-clause-hands
returns-then-not-is_due-clause-hands g c = (
  (λ due. absurd (not-both _ (c.is_due.ensures.1 due) c.if-not-is_due.true)),
  (λ other. (ap (λ (w : Why). Err (NotNow w)) (c.why_not_due.ensures ∙ ap (why_not_due c.args.self.now.world) c.container.ensures), refl, refl)),
)

pub returns-then-not-is_due-clause-headline : goal.returns-then-not-is_due-clause-headline
returns-then-not-is_due-clause-headline g c = holds-still _ _ refl

pub make_noted-requires-clause-carries : goal.make_noted-requires-clause-carries
make_noted-requires-clause-carries g c =
    let job = job_of (computation g.J.Key.Ord.cmp g.J.Key.Wire.codec g.J.Value.Wire.codec g.J.Job.functions) in
    subst (λ (e : Event). CarriesDefinition job c.args.self.now.world.config (world_in c.args.self.now.world) e) (sym c.into_events-event.ensures.event)
    (carries-due job c.args.self.now.world c.args.done (c.is_due.ensures.0 c.if-not-is_due.false) c.into_events-event.ensures.meant)

pub returns-clause-hands : goal.returns-clause-hands
returns-clause-hands g c = (
  (λ due. subst (λ (e : Event). Makes c.args.self.now c.args.seat.now e c.make_noted.result c.make_noted.new.self c.make_noted.new.seat) c.into_events-event.ensures.event c.make_noted.ensures.makes),
  (λ other. absurd (other (c.is_due.ensures.0 c.if-not-is_due.false))),
)
