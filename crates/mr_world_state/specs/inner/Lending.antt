-- The machine of a master is lent to be changed: what its borrower leaves stands at its place then.
use Rattle.std.specs.Prelude.{◌≡◌, ℕ, Option, OnSome, Result}
use Rattle.std.specs.Borrow.{LendsSo, LendsSoOk, MutBor, Fml}
use Rattle.mr_world_actors.specs.contracts.shared.Shared as shared
use Rattle.mr_master.specs.contracts.master.MasterMachine as machine
use Rattle.mr_master.specs.State as master
use Rattle.mr_world_state.specs.contracts.masters.Masters as masters
use Rattle.mr_world_state.specs.declared.masters.Masters.{Masters}
use Rattle.mr_world_state.specs.inner.Masters.{SameMasters, Returns}

-- where there is no such master, nothing changes
abbrev pub LendsMaster : MutBor Masters → ℕ → Option (MutBor master.Master) → Fml
LendsMaster s k r = LendsSo masters.the_row (shared.the_row machine.the_row) s r (λ n m. OnSome r (Returns s.now k m n)) (λ n. SameMasters s.now n)

-- the machine that several worlds may have: where memory is refused, it stands for what it stood for
abbrev pub LendsOwn : MutBor master.Master → {E : Type 0} → Result (MutBor master.Master) E → Fml
LendsOwn s r = LendsSoOk (shared.the_row machine.the_row) machine.the_row s r (λ n w. n ≡ w) (λ n. master.StandsStill s.now n)
