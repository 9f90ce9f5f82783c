use Rattle.std.proofs.Common.{◌≤◌, ℕ, Option, IfSome, IfNone, sym, subst}
use Rattle.mr_ids.specs.declared.id.TaskKind.TheVariants.{Map}
use Rattle.mr_master_tables.specs.Earlier.{IsUntold}
use Rattle.mr_master_state.specs.inner.Outputs.{IsKept, NoneLost, NoneLostFrom}
use Rattle.mr_master_tables.specs.Spots.{IsFree}
use Rattle.mr_master_state.proofs.Keeping.{held}
use Rattle.mr_master_state.proofs.On_nodes.{kept-lost, lower-from, lower-first, lower-none}
use Rattle.mr_master_state.proofs.machine.Machine.next_output.Goals as goal

pub returns-clause-from : goal.returns-clause-from
returns-clause-from c =
    let launched = c.next_on-launched in
    let told = c.next_on-told in
    subst (λ (o : Option ℕ). IfSome o (λ number. c.args.from ≤ number)) (sym c.lower.ensures) (lower-from launched.result told.result c.args.from launched.ensures.from told.ensures.from)

pub returns-clause-first : goal.returns-clause-first
returns-clause-first c =
    let launched = c.next_on-launched in
    let told = c.next_on-told in
    subst (λ (o : Option ℕ). IfSome o (NoneLost c.args.self.now c.args.gone.now c.args.from)) (sym c.lower.ensures)
    (lower-first launched.result told.result c.args.from _ _ _ kept launched.ensures.first launched.ensures.none told.ensures.first told.ensures.none)
  where
    kept : (j : ℕ) → IsFree c.self.inside.launches.entries Map c.node-node.result j → IsUntold c.self.inside.earlier c.node-node.result j → IsKept c.args.self.now c.args.gone.now j
    kept j free untold w s keeps = kept-lost _ w s c.args.gone.now c.node-node.result j (held c.self.view_is keeps) c.node-node.ensures free untold

pub returns-clause-none : goal.returns-clause-none
returns-clause-none c =
    let launched = c.next_on-launched in
    let told = c.next_on-told in
    subst (λ (o : Option ℕ). IfNone o (NoneLostFrom c.args.self.now c.args.gone.now c.args.from)) (sym c.lower.ensures)
    (lower-none launched.result told.result c.args.from _ _ _ kept launched.ensures.none told.ensures.none)
  where
    kept : (j : ℕ) → IsFree c.self.inside.launches.entries Map c.node-node.result j → IsUntold c.self.inside.earlier c.node-node.result j → IsKept c.args.self.now c.args.gone.now j
    kept j free untold w s keeps = kept-lost _ w s c.args.gone.now c.node-node.result j (held c.self.view_is keeps) c.node-node.ensures free untold
