use Rattle.std.proofs.Common.{◌≡◌, Err, ap, refl, subst, sym, ◌∙◌}
use Rattle.mr_user.specs.Computation.{computation}
use Rattle.mr_world_files.specs.Jobs.{job_of}
use Rattle.mr_world_events.specs.declared.event.Event.{Event}
use Rattle.mr_world_events.specs.declared.why.Why.{Why}
use Rattle.mr_world_model.specs.World.{Compute}
use Rattle.mr_world_model.specs.Sequential.{CarriesDefinition}
use Rattle.mr_world.specs.mr_world_state.specs.declared.fault.WorldFault.TheVariants.{NotNow}
use Rattle.mr_world.specs.Journal.{world_in}
use Rattle.mr_world.proofs.Headlines.{holds-still}
use Rattle.mr_board.specs.Boards.{Makes, why_not_due}
use Rattle.mr_board.proofs.Faithful.{carries-due, not-both}
use Rattle.mr_board.proofs.board.Board.computed_as.Goals as goal

pub returns-then-not-is_due-clause-hands : goal.returns-then-not-is_due-clause-hands
returns-then-not-is_due-clause-hands g c = (
  (λ due. absurd (not-both _ (c.is_due.ensures.1 due) c.if-not-is_due.true)),
  (λ other. (ap (λ (w : Why). Err (NotNow w)) (c.why_not_due.ensures ∙ ap (why_not_due c.args.self.now.world) c.container.ensures), refl, refl)),
)

pub returns-then-not-is_due-clause-headline : goal.returns-then-not-is_due-clause-headline
returns-then-not-is_due-clause-headline g c = holds-still _ _ refl

pub make-requires : goal.make-requires
make-requires g c =
    let job = job_of (computation g.J.Key.Ord.cmp g.J.Key.Wire.codec g.J.Value.Wire.codec g.J.Job.functions) in
    let event : Compute c.args.done.now.container c.args.done.now.bytes ≡ Compute c.container-in-Ok.result c.in-Ok.bytes =
    λ i. Compute (sym c.container-in-Ok.ensures i) (sym (c.in-Ok.ensures.ok ∙ c.bytes.ensures.bytes) i) in
    record {
      carries = subst (λ (e : Event). CarriesDefinition job c.args.self.now.world.config (world_in c.args.self.now.world) e) event
          (carries-due job c.args.self.now.world c.args.done.now (c.is_due.ensures.0 c.if-not-is_due.false) c.bytes.ensures.meant);
    }

pub returns-in-Ok-clause-hands : goal.returns-in-Ok-clause-hands
returns-in-Ok-clause-hands g c =
    let event : Compute c.container-in-Ok.result c.in-Ok.bytes ≡ Compute c.args.done.now.container c.args.done.now.bytes =
    λ i. Compute (c.container-in-Ok.ensures i) ((c.in-Ok.ensures.ok ∙ c.bytes.ensures.bytes) i) in (
      (λ due. subst (λ (e : Event). Makes c.args.self.now c.args.seat.now e c.make.result c.make.new.self c.make.new.seat) event c.make.ensures.makes),
      (λ other. absurd (other (c.is_due.ensures.0 c.if-not-is_due.false))),
    )

pub returns-in-Ok-clause-headline : goal.returns-in-Ok-clause-headline
returns-in-Ok-clause-headline g c = c.make.ensures.headline

pub returns-in-Err-clause-hands : goal.returns-in-Err-clause-hands
returns-in-Err-clause-hands g c = (
  (λ due. ((c.refusal_of.ensures, refl), (refl, refl))),
  (λ other. absurd (other (c.is_due.ensures.0 c.if-not-is_due.false))),
)

pub returns-in-Err-clause-headline : goal.returns-in-Err-clause-headline
returns-in-Err-clause-headline g c = holds-still _ _ refl
