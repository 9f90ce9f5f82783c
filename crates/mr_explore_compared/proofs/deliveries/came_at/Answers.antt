use Rattle.std.proofs.Common.{IsTrue, ◌≡◌, ◌∙◌, ap, sym, Some, slice_get}
use Rattle.std.proofs.lemmas.Option.{slice_get-get_or}
use Rattle.mr_explore_compared.proofs.Came.{came_by}
use Rattle.mr_explore_compared.proofs.deliveries.came_at.Goals as goal

-- the event lies at the place
pub returns-in-Some : goal.returns-in-Some
returns-in-Some c = λ t.
    let event = c.in-Some.event.now in
    let found = c.in-Some.ensures.lookup.3 in
    let here : slice_get c.args.others.now c.args.at ≡ Some event = slice_get-get_or c.args.others.now c.args.at event found.0 ∙ ap Some (sym (found.1 event)) in
    came_by c.args.here.now c.args.there.now c.args.i event c.args.others.now c.args.at here (c.is_this.ensures t)
