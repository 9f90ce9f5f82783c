use Rattle.std.proofs.Common.{◌≤◌, refl, sym, subst, ◌∙◌}
use Rattle.mr_world_state.proofs.Mastering.{not-raised, unraised}
use Rattle.mr_world_state.proofs.alive.raised.Goals as goal
use Rattle.mr_world_state.proofs.alive.raised.Goals.{in_default-via-in-Some+else-is_raised, in_default-via-in_default}

pub returns-in_default-clause-refused : goal.returns-in_default-clause-refused
returns-in_default-clause-refused c = (
  refl,
  λ p is. elim c.in_default.branch [
    | in_default-via-in-Some+else-is_raised w ↦ not-raised p c.args.k (λ r. unraised _ _ _ (w.in-Some.ensures).1 (sym w.is_raised.ensures ∙ w.if-is_raised.false) (r.0, subst (λ h. c.args.k ≤ h.fence) is r.1, r.2))
    | in_default-via-in_default w ↦ not-raised p c.args.k (λ r. w.in_default.ensures (r.0, r.2))
  ],
)
