use Rattle.std.proofs.Common.{◌≡◌, ◌∙◌, sym, IfOk, IsTrue, subst}
use Rattle.std.proofs.lemmas.Result.{IfOk-weaker}
use Rattle.mr_world_alike.specs.Alike.{Alike}
use Rattle.mr_world.specs.Histories.{history_of}
use Rattle.mr_world.specs.Journal.{Journal, history_in, run_of, world_in}
use Rattle.mr_world.proofs.world.World.is_alike.Goals as goal

pub returns-clause-alike : goal.returns-clause-alike
returns-clause-alike c =
    let w = run_of c.self.inside.parts.config c.self.inside.journal.items in
    let u = run_of c.other.inside.parts.config c.other.inside.journal.items in
    subst (λ (j : Journal). IfOk c.are_alike.result (λ alike. IsTrue alike → Alike j.config (world_in j) (world_in c.args.other.now))) c.self.view_is
    (subst (λ (j : Journal). IfOk c.are_alike.result (λ alike. IsTrue alike → Alike c.self.inside.parts.config w (world_in j))) c.other.view_is
    (IfOk-weaker c.are_alike.result _ _ (λ alike is yes. is yes w u c.self.invariant.stands c.other.invariant.stands) c.are_alike.ensures.alike))

pub returns-clause-config : goal.returns-clause-config
returns-clause-config c =
    subst (λ (j : Journal). IfOk c.are_alike.result (λ alike. IsTrue alike → j.config ≡ c.args.other.now.config)) c.self.view_is
    (subst (λ (j : Journal). IfOk c.are_alike.result (λ alike. IsTrue alike → c.self.inside.parts.config ≡ j.config)) c.other.view_is c.are_alike.ensures.config)

pub returns-clause-history : goal.returns-clause-history
returns-clause-history c =
    subst (λ (j : Journal). IfOk c.are_alike.result (λ alike. IsTrue alike → history_in j ≡ history_in c.args.other.now)) c.self.view_is
    (subst (λ (j : Journal). IfOk c.are_alike.result (λ alike. IsTrue alike → history_of c.self.inside.parts.config c.self.inside.journal.items ≡ history_in j)) c.other.view_is
    (IfOk-weaker c.are_alike.result _ _ (λ alike is yes. sym c.self.invariant.history ∙ (is yes ∙ c.other.invariant.history)) c.are_alike.ensures.history))
