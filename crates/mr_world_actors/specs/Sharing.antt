-- A value that may be shared is lent to be changed: it is what its borrower leaves then.
use Rattle.std.specs.Prelude.{◌≡◌, ◌⊎◌, Result}
use Rattle.std.specs.Borrow.{LendsIfOk, LendsSoOk, MutBor, RattleType, Fml}
use Rattle.mr_world_actors.specs.contracts.shared.Shared as shared

-- where memory is refused, nothing changes
abbrev pub LendsShared : (R : RattleType) → MutBor R.Denot → {E : Type 0} → Result (MutBor R.Denot) E → Fml
LendsShared R s r = LendsIfOk (shared.the_row R) R s r (λ w. w) s.now

-- where memory is refused, nothing changes, or a clone has taken its place
abbrev pub LendsClone : (R : RattleType) → (R.Denot → R.Denot → Type 0) → MutBor R.Denot → {E : Type 0} → Result (MutBor R.Denot) E → Fml
LendsClone R is_clone s r = LendsSoOk (shared.the_row R) R s r (λ n w. n ≡ w) (λ n. (n ≡ s.now) ⊎ is_clone s.now n)
