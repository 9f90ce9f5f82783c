use Rattle.std.proofs.Common.{◌≡◌, ℕ, Bool, ◌∙◌, sym, subst, is_some, length, ◌+◌, arith}
use Rattle.mr_world_model.specs.Sending.{to_masters}
use Rattle.mr_world_state.specs.Machines.{master_of}
use Rattle.mr_world_state.proofs.Restarting.{Count, none-counted, one-counted, none-more}
use Rattle.mr_world_state.proofs.masters.Masters.count_alive.Goals.{then-contains, else-contains}
use Rattle.mr_world_state.proofs.masters.Masters.count_alive.Goals as goal

pub loop-older-init : goal.loop-older-init
loop-older-init c = none-counted (λ k. is_some (master_of c.args.self.now k))

pub loop-older-preserved : goal.loop-older-preserved
loop-older-preserved c =
    let alive : ℕ → Bool = λ k. is_some (master_of c.args.self.now k) in
    let older = c.loop-older.older in
    elim c.if-contains.branch [
      | then-contains w ↦ subst (λ n. Count alive (older + 1) n) (sym w.count-is) (one-counted alive older (older + 1) c.loop-older.count (omega arith) c.loop-older.invariant (sym c.contains.ensures ∙ w.if-contains.true))
      | else-contains w ↦ subst (λ n. Count alive (older + 1) n) (sym w.count-is) (none-more alive older (older + 1) c.loop-older.count (omega arith) c.loop-older.invariant (sym c.contains.ensures ∙ w.if-contains.false))
    ]

pub returns : goal.returns
returns c = λ p.
    let alive : ℕ → Bool = λ k. is_some (master_of c.args.self.now k) in
    let end : c.loop-older.older ≡ c.args.newest = omega (arith, c.loop-older-test.false, c.loop-older.auto.older-end) in
    subst (λ k. c.loop-older.count ≡ length (to_masters alive k p)) end (c.loop-older.invariant.1 p)
