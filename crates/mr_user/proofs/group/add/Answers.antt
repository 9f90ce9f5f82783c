use Rattle.std.proofs.Common.{◌≡◌, ◌∙◌, sym, ap, [], take, ◌-◌}
use Rattle.std.proofs.lemmas.Cmp.{is_eq_index}
use Rattle.std.specs.Ordering.{is_eq}
use Rattle.mr_user.proofs.Rising.{append_nil}
use Rattle.mr_user.proofs.Grouping.{added_tied, added_apart, added_first}
use Rattle.mr_user.proofs.group.add.Goals as goal

pub returns-in_default : goal.returns-in_default
returns-in_default g c =
    let empty : c.pop.new.self.items ≡ [] = c.in_default.ensures.rest ∙ ap (λ n. take (n - 1) c.args.groups.now.items) c.in_default.ensures.cases.0 in
    added_first g.K.Ord.cmp (λ w. w.items) c.args.groups.now.items c.pop.new.self.items _ c.args.key c.in_ok-one.field-0 c.args.value
    (c.in_default.ensures.items ∙ append_nil c.pop.new.self.items ∙ empty) empty c.in_ok-push.ensures.items c.in_ok-one.ensures

pub returns-then-eq : goal.returns-then-eq
returns-then-eq g c =
    added_tied g.K.Ord.cmp (λ w. w.items) c.args.groups.now.items c.pop.new.self.items _ c.in-Some.last c.args.key c.in-Some.values _ c.args.value
    c.in-Some.ensures.items c.in_ok-push-3.ensures.items c.in_ok-push-2.ensures.items
    (ap is_eq (sym c.cmp.ensures) ∙ is_eq_index c.cmp.result ∙ sym c.eq.ensures ∙ c.if-eq.true)

pub returns : goal.returns
returns g c =
    added_apart g.K.Ord.cmp (λ w. w.items) c.args.groups.now.items c.pop.new.self.items _ _ c.in-Some.last c.args.key c.in-Some.values c.in_ok-one-2.field-0 c.args.value
    c.in-Some.ensures.items c.in_ok-push-4.ensures.items c.in_ok-push-5.ensures.items c.in_ok-one-2.ensures
    (ap is_eq (sym c.cmp.ensures) ∙ is_eq_index c.cmp.result ∙ sym c.eq.ensures ∙ c.if-eq.false)
