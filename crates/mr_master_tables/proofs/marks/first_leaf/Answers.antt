use Rattle.std.proofs.Common.{ℕ, ◌+◌, ◌*◌, ◌^◌, ◌<◌, ◌≤◌, ◌≡◌, ◌∙◌, sym, ap, subst, arith, add-one}
use Rattle.std.proofs.lemmas.Nat.{pow_pos}
use Rattle.std.proofs.Math.Nat.{pow-suc}
use Rattle.std.proofs.Math.Pow.{pow_mono}
use Rattle.mr_master_tables.proofs.Marking.{IsFirstOn, goes-down}
use Rattle.mr_master_tables.proofs.marks.first_leaf.Goals as goal

double : (n : ℕ) → 2 ^ (n + 1) ≡ 2 * 2 ^ n
double n = ap (λ m. 2 ^ m) (add-one n) ∙ pow-suc 2 n ∙ (let e : 2 ^ n * 2 ≡ 2 * 2 ^ n = omega arith in e)

-- the two nodes below are in the tree
room : (level height node : ℕ) → level < height → node < 2 * 2 ^ level → node < 2 ^ height
room level height node below within =
    let e : 2 ^ (level + 1) ≤ 2 ^ height = pow_mono (omega arith) in
    let f = double level in
    omega arith

pub below-node-requires : goal.below-node-requires
below-node-requires c =
    let e = c.requires.tree.count in
    let f = room _ _ _ c.loop-level-test.true c.loop-level.invariant.within in
    let g = c.args.tree.now.ok in
    omega arith

pub loop-level-preserved : goal.loop-level-preserved
loop-level-preserved c =
    let level = c.loop-level._level in
    subst (λ (base : ℕ). IsFirstOn c.args.tree.now.items base c.below-node.result) (sym (double level))
    (goes-down c.args.tree.now.items (2 ^ c.args.height) (2 ^ level) c.loop-level.node c.below-node.result c.requires.tree.nodes c.loop-level.invariant (pow_pos level)
    (room _ _ _ c.loop-level-test.true c.loop-level.invariant.within) c.below-node.ensures)
