use Rattle.std.proofs.Common.{rules, ◌≡◌, Bool, false, [], ◌∷◌, ◌++◌, ap, sym, ◌∙◌, if◌then◌else◌}
use Rattle.std.specs.List.{list_any}
use Rattle.mr_ids.specs.Attempt.{Attempt}
use Rattle.mr_grant.specs.Attempts.{has}
use Rattle.mr_grant.specs.Grant.{Askers, after_pending}
use Rattle.mr_grant.proofs.Same.{the_same}
use Rattle.mr_grant.proofs.grant.Grant.pending.Goals as goal

pub returns-in_err-insert-clause-absent : goal.returns-in_err-insert-clause-absent
returns-in_err-insert-clause-absent c =
    let keys = ap (λ (g : Askers). g.attempts) c.self.view_is in
    let absent : has c.args.self.now.attempts c.args.a ≡ false =
    rw (← keys) (sym (ap (λ (f : Attempt → Attempt → Bool). list_any (f c.args.a) c.self.inside.attempts.keys) the_same) ∙ c.in_err-insert.ensures.absent) in
    search rules

pub returns-clause-ok : goal.returns-clause-ok
returns-clause-ok c =
    let keys = c.in_ok-insert.ensures.keys
    ∙ ap (λ (f : Attempt → Attempt → Bool). if list_any (f c.args.a) c.self.inside.attempts.keys then c.self.inside.attempts.keys else c.self.inside.attempts.keys ++ c.args.a ∷ []) the_same in
    (λ j. record { attempts = keys j; is_fixed = c.self.inside.fixed }) ∙ ap (λ (g : Askers). after_pending g c.args.a) c.self.view_is
