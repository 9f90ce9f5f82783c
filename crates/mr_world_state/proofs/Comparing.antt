-- The masters of two worlds, generation by generation.
use Rattle.std.proofs.Common.{◌≡◌, ◌<◌, ◌≤◌, ◌+◌, ℕ, zero, suc, refl, sym, ap, subst, Bool, None, false, true, nat_lt, arith}
use Rattle.std.proofs.lemmas.Bool.{ltb-true, ltb-false}
use Rattle.std.proofs.lemmas.Option.{slice_get_past}
use Rattle.std.specs.Option.{option_and_then}
use Rattle.mr_world_state.specs.declared.masters.Masters.{Masters}
use Rattle.mr_world_state.specs.Machines.{master_of, master_count, SameMaster}

pub first_same : (a b : Masters) (k : ℕ) → k < 1 → SameMaster (master_of a k) (master_of b k)
unfolding master_of
first_same a b zero l = tt
first_same a b (suc k) l = absurd (omega (arith, l))

-- past the masters that were started there is none
none-past : (a : Masters) (k : ℕ) → master_count a < k → master_of a k ≡ None
unfolding master_of master_count
none-past a zero l = refl
none-past a (suc k) l = ap (option_and_then (λ m. m)) (slice_get_past a.machines.items k (omega (arith, l)))

past-same : (a b : Masters) (k : ℕ) → master_count a < k → master_count b < k → SameMaster (master_of a k) (master_of b k)
past-same a b k l m = subst (λ o. SameMaster o (master_of b k)) (sym (none-past a k l)) (subst (λ x. SameMaster None x) (sym (none-past b k m)) tt)

-- of each generation, where those up to place i and no more were started
pub all_same : (a b : Masters) (i : ℕ) → master_count a ≤ i → master_count b ≤ i → ((k : ℕ) → k < i + 1 → SameMaster (master_of a k) (master_of b k)) → (k : ℕ) → SameMaster (master_of a k) (master_of b k)
all_same a b i l m same k = by (nat_lt k (i + 1)) refl
  where
    by : (c : Bool) → nat_lt k (i + 1) ≡ c → SameMaster (master_of a k) (master_of b k)
    by true t = same k (ltb-true k (i + 1) t)
    by false t = let past : i + 1 ≤ k = ltb-false k (i + 1) t in past-same a b k (omega (arith, past, l)) (omega (arith, past, m))
