-- Which callers are not heard, and why.
use Rattle.std.proofs.Common.{◌≡◌, Bool, true, false, [], ◌∷◌, refl, Some, None, nat_lt, ◌⊎◌, inl, inr}
use Rattle.mr_names.specs.declared.fault.NameFault.{NameFault}
use Rattle.mr_names.specs.declared.fault.NameFault.TheVariants as fault
use Rattle.mr_names.specs.declared.op.Caller.{Caller}
use Rattle.mr_names.specs.Barred.{bars}
use Rattle.mr_names.specs.Calls.{State, first_of, unheard}

pub unheard-low : (s : State) (caller : Caller) → nat_lt caller.app s.fence ≡ true → unheard s caller ≡ Some (fault.Superseded s.fence)
unfolding unheard
unheard-low s caller low = rw low refl

pub unheard-barred : (s : State) (caller : Caller) → nat_lt caller.app s.fence ≡ false → bars s.barred caller.attempt ≡ true → unheard s caller ≡ Some fault.Barred
unfolding unheard
unheard-barred s caller high out = rw (high, out) refl

pub unheard-none : (s : State) (caller : Caller) → nat_lt caller.app s.fence ≡ false → bars s.barred caller.attempt ≡ false → unheard s caller ≡ None
unfolding unheard
unheard-none s caller high free = rw (high, free) refl

-- there are two reasons
pub unheard-is : (s : State) (caller : Caller) (why : NameFault) → unheard s caller ≡ Some why → (why ≡ fault.Superseded s.fence) ⊎ (why ≡ fault.Barred)
unfolding unheard
unheard-is s caller why is = by (nat_lt caller.app s.fence) (bars s.barred caller.attempt) is
  where
    by : (low out : Bool) → first_of ((low, fault.Superseded s.fence) ∷ (out, fault.Barred) ∷ []) ≡ Some why → (why ≡ fault.Superseded s.fence) ⊎ (why ≡ fault.Barred)
    by true out e = inl (let y : Some (fault.Superseded s.fence) ≡ Some why = e in cc)
    by false true e = inr (let y : Some fault.Barred ≡ Some why = e in cc)
    by false false e = absurd cc
