use Rattle.std.proofs.Common.{◌≤◌, sym, subst, ◌∙◌, ap, List, length}
use Rattle.mr_ids.specs.Attempt.{Attempt}
use Rattle.mr_master_tables.specs.Bars.{all_added}
use Rattle.mr_master_state.specs.Told.{with_deaths, with_losses}
use Rattle.mr_master_state.specs.State.{Master, Keeps}
use Rattle.mr_master_state.proofs.Keeping.{held}
use Rattle.mr_master_state.proofs.Parts.{with-bars}
use Rattle.mr_master_state.proofs.machine.Machine.has_given_up.Goals as goal

pub add_all_reserved-requires : goal.add_all_reserved-requires
add_all_reserved-requires c = subst (λ (l : List Attempt). length l ≤ c.self.inside.bars.room) (sym c.deref.ensures.value) (subst (λ (x : Master). length c.args.late.items ≤ x.bars.room) (sym c.self.view_is) c.requires)

pub returns : goal.returns
returns c = λ w s keeps. let k = held c.self.view_is keeps in
    let bars = all_added s.bars c.args.late.items in
    let added = c.add_all_reserved.ensures ∙ ap (λ (l : List Attempt). all_added c.self.inside.bars.due l) c.deref.ensures.value ∙ ap (λ (l : List Attempt). all_added l c.args.late.items) k.bars in
    subst (λ (l : List Attempt). Keeps c.leave.new.self w (record (with_losses w (with_deaths w s c.args.dead.items) l) { bars = bars })) c.deref-3.ensures.value
    (subst (λ (l : List Attempt). Keeps c.leave.new.self w (record (with_losses w (with_deaths w s l) c.deref-3.result.now) { bars = bars })) c.deref-2.ensures.value
    (c.leave.ensures w (record s { bars = bars }) (with-bars c.add_all_reserved.new.self bars added k)))
