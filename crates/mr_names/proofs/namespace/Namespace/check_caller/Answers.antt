use Rattle.std.proofs.Common.{◌≡◌, true, false, nat_lt, subst, sym, ◌∙◌, Some, None, rules}
use Rattle.mr_names.specs.declared.fault.NameFault.TheVariants.{Superseded, Barred}
use Rattle.mr_names.specs.Calls.{unheard}
use Rattle.mr_names.proofs.Callers.{unheard-low, unheard-barred, unheard-none}
use Rattle.mr_names.proofs.namespace.Namespace.check_caller.Goals as goal

pub returns-then-number-self : goal.returns-then-number-self
returns-then-number-self c =
    let low : nat_lt c.args.caller.app c.self.inside.fence ≡ true = search rules in
    subst (λ s. unheard s c.args.caller ≡ Some (Superseded c.self.inside.fence)) c.self.view_is (unheard-low _ c.args.caller low)

pub returns-then-bars : goal.returns-then-bars
returns-then-bars c =
    let high : nat_lt c.args.caller.app c.self.inside.fence ≡ false = search rules in
    subst (λ s. unheard s c.args.caller ≡ Some Barred) c.self.view_is (unheard-barred _ c.args.caller high (sym c.bars.ensures ∙ c.if-bars.true))

pub returns-else-bars : goal.returns-else-bars
returns-else-bars c =
    let high : nat_lt c.args.caller.app c.self.inside.fence ≡ false = search rules in
    subst (λ s. unheard s c.args.caller ≡ None) c.self.view_is (unheard-none _ c.args.caller high (sym c.bars.ensures ∙ c.if-bars.false))
