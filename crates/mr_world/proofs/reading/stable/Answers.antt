use Rattle.std.proofs.Common.{sym, ◌∙◌, ap, nat_le, arith}
use Rattle.mr_history.specs.State.{State}
use Rattle.mr_world.proofs.Histories.{no-bytes}
use Rattle.mr_world_state.proofs.Mastering.{unraised}
use Rattle.mr_world.proofs.Read_winners.{none-stable}
use Rattle.mr_world.proofs.reading.stable.Goals as goal
use Rattle.mr_world.proofs.reading.stable.Goals.{in_default-via-in-Some+else-is_raised, in_default-via-in_default}

pub returns-in_default-clause-stable : goal.returns-in_default-clause-stable
returns-in_default-clause-stable c = elim c.in_default.branch [
  | in_default-via-in-Some+else-is_raised w ↦ λ v s l. none-stable c.args.parts.now v c.args.k s (unraised _ _ _ (w.in-Some.ensures).1 (sym (w.is_raised.ensures ∙ ap (λ (h : State). nat_le w.in-Some.app h.fence) c.deref-history.ensures) ∙ w.if-is_raised.false)) l
  | in_default-via-in_default w ↦ λ v s l. none-stable c.args.parts.now v c.args.k s (λ r. w.in_default.ensures (r.0, r.2)) l
]

pub returns-in_default-clause-bytes : goal.returns-in_default-clause-bytes
returns-in_default-clause-bytes c = elim c.in_default.branch [
  | in_default-via-in-Some+else-is_raised w ↦ no-bytes c.args.parts.now.history c.args.k (let same = ap (λ (h : State). h.fence) c.deref-history.ensures in omega (arith, c.fence-newest.ensures.value, c.fence-newest.ensures.range, same)) (unraised _ _ _ (w.in-Some.ensures).1 (sym (w.is_raised.ensures ∙ ap (λ (h : State). nat_le w.in-Some.app h.fence) c.deref-history.ensures) ∙ w.if-is_raised.false))
  | in_default-via-in_default w ↦ no-bytes c.args.parts.now.history c.args.k (let same = ap (λ (h : State). h.fence) c.deref-history.ensures in omega (arith, c.fence-newest.ensures.value, c.fence-newest.ensures.range, same)) (λ r. w.in_default.ensures (r.0, r.2))
]
