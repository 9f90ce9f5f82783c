use Rattle.std.proofs.Common.{◌≡◌, ◌∙◌, sym}
use Rattle.std.proofs.lemmas.Bool.{false≢true}
use Rattle.std.proofs.lemmas.Bool.Decides.{Decides-at}
use Rattle.mr_commit.proofs.Comparing.{rules-decide, ops-decide, rules_tell, calls_tell}
use Rattle.mr_commit.proofs.line.TableLine.is_same.Goals as goal

pub returns-then-eq : goal.returns-then-eq
returns-then-eq c =
    let a = c.self.inside in
    let b = c.other.inside in
    let call : a.op ≡ b.op = (ops-decide a.op b.op).0 (sym c.eq.ensures ∙ c.if-eq.true) in
    rules_tell a.op b.op a.rule b.rule c.args.self.now c.args.other.now c.eq-is_rule.result c.self.view_is c.other.view_is call (Decides-at c.eq-is_rule.result _ c.eq-is_rule.ensures (rules-decide a.rule b.rule))

pub returns : goal.returns
returns c =
    let a = c.self.inside in
    let b = c.other.inside in (
      λ e. absurd (false≢true e),
      λ same. absurd (false≢true (sym c.if-eq.false ∙ c.eq.ensures ∙ (ops-decide a.op b.op).1 (calls_tell a.op b.op a.rule b.rule c.args.self.now c.args.other.now c.self.view_is c.other.view_is c.self.invariant c.other.invariant same))),
    )
