use Rattle.std.proofs.Common.{List, sym, ap, subst, ◌∙◌, if◌then◌else◌}
use Rattle.mr_recover.specs.declared.winner.TaskWinner.{TaskWinner}
use Rattle.mr_recover.specs.Plan.{IsRising}
use Rattle.mr_recover.specs.inner.Placing.{IsGapFor, placed, put}
use Rattle.mr_recover.proofs.Searching.{absent, inserted}
use Rattle.mr_recover.proofs.Winning.{placed-rising}
use Rattle.mr_recover.proofs.winner.Winners.put.Goals as goal

pub invariant_of-self : goal.invariant_of-self
invariant_of-self c =
    let ws = c.self.inside.items.items in
    let w = c.args.winner in
    let gap : IsGapFor ws w.task c.in-Err.place = subst (λ (xs : List TaskWinner). IsGapFor xs w.task c.in-Err.place) c.deref.ensures.value c.in-Err.ensures.absent in
    subst IsRising (sym (c.in_ok-insert.ensures.items ∙ inserted ws w c.in-Err.place gap)) (placed-rising ws w (absent ws w.task c.in-Err.place gap) c.self.invariant)

pub returns-in_ok-insert : goal.returns-in_ok-insert
returns-in_ok-insert c =
    let ws = c.self.inside.items.items in
    let w = c.args.winner in
    let gap : IsGapFor ws w.task c.in-Err.place = subst (λ (xs : List TaskWinner). IsGapFor xs w.task c.in-Err.place) c.deref.ensures.value c.in-Err.ensures.absent in
    c.in_ok-insert.ensures.items ∙ inserted ws w c.in-Err.place gap
    ∙ sym (ap (λ b. if b then ws else placed ws w) (absent ws w.task c.in-Err.place gap))
    ∙ ap (λ (xs : List TaskWinner). put xs w) c.self.view_is
