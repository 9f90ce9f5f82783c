use Rattle.std.proofs.Common.{[], ◌∷◌, refl}
use Rattle.mr_world.proofs.Happening.{keeps-on, takes-on, same-journal}
use Rattle.mr_world.proofs.Headlines.{holds-after, holds-still}
use Rattle.mr_world.proofs.world.World.apply.Goals as goal

pub returns-in_err-make_room-clause-headline : goal.returns-in_err-make_room-clause-headline
returns-in_err-make_room-clause-headline c = holds-still c.args.self.now _
    (same-journal c.self.inside.parts c.self.inside.parts c.args.self.now c.self.inside.journal.items c.make_room.new.journal.items c.self.view_is c.make_room.ensures.kept refl)

pub returns-in_err-took-clause-headline : goal.returns-in_err-took-clause-headline
returns-in_err-took-clause-headline c = holds-still c.args.self.now _
    (same-journal c.self.inside.parts c.take.new.parts c.args.self.now c.self.inside.journal.items c.make_room.new.journal.items c.self.view_is c.make_room.ensures.kept c.in_err-took.ensures.config)

pub invariant_of-self-2 : goal.invariant_of-self-2
invariant_of-self-2 c = keeps-on c.self.inside.parts c.take.new.parts c.self.inside.journal.items c.make_room.new.journal.items c.push_reserved.new.self.items c.args.event c.self.invariant c.make_room.ensures.kept c.push_reserved.ensures.items
    c.in_ok-make_room.ensures.few c.in_ok-took.ensures.config c.in_ok-took.ensures.tries c.in_ok-took.ensures.history

pub returns-clause-applies : goal.returns-clause-applies
returns-clause-applies c = takes-on c.self.inside.parts c.take.new.parts c.args.self.now c.self.inside.journal.items c.make_room.new.journal.items c.push_reserved.new.self.items c.args.event c.in_ok-took.took c.self.view_is c.self.invariant
    c.make_room.ensures.kept c.push_reserved.ensures.items c.in_ok-make_room.ensures.few c.in_ok-took.ensures.config c.in_ok-took.ensures.tries c.in_ok-took.ensures.counts

pub returns-clause-headline : goal.returns-clause-headline
returns-clause-headline c = holds-after c.args.self.now _ (c.args.event ∷ [])
    (takes-on c.self.inside.parts c.take.new.parts c.args.self.now c.self.inside.journal.items c.make_room.new.journal.items c.push_reserved.new.self.items c.args.event c.in_ok-took.took c.self.view_is c.self.invariant
    c.make_room.ensures.kept c.push_reserved.ensures.items c.in_ok-make_room.ensures.few c.in_ok-took.ensures.config c.in_ok-took.ensures.tries c.in_ok-took.ensures.counts).journal
