-- What the exit of a `?` hands on, and what a test of a length says.
use Rattle.std.proofs.Common.{◌≡◌, ℕ, zero, suc, ◌<◌, ◌≤◌, ◌+◌, ◌^◌, ◌∙◌, false, eqb, List, Option, Some, None, Result, Ok, Err, IfErr, sym, ap, subst, arith}
use Rattle.std.specs.Result.{IsErrAnd}
use Rattle.mr_user.specs.Faults.{RefusedIf, BadWireIf}
use Rattle.mr_user.specs.Sequential.{both}
use Rattle.mr_user.specs.declared.fault.UserFault.{UserFault}
use Rattle.mr_user.specs.declared.fault.UserFault.TheVariants as user

-- a fault that is handed on
pub handed_on : {A E : Type 0} (r : Result A E) (e : E) (P : E → Type 0) → IsErrAnd r (λ f. f ≡ e) → P e → IfErr r P
handed_on (Ok x) e P is h = absurd is
handed_on (Err f) e P is h = subst P (sym is) h

-- an allocation failure is no refusal
pub no_refusal : {A : Type 0} (r : Result A UserFault) (P : Type 0) → IsErrAnd r (λ f. f ≡ user.NoMemory) → IfErr r (λ fault. RefusedIf fault P)
no_refusal r P is = handed_on r user.NoMemory (λ fault. RefusedIf fault P) is tt

-- what is refused for one reason is refused for another that follows
pub refused_then : (fault : UserFault) {P Q : Type 0} → (P → Q) → RefusedIf fault P → RefusedIf fault Q
refused_then user.Refused f h = f h
refused_then user.BadWire f h = h
refused_then user.NoMemory f h = tt

-- and so are bytes that can't be read
pub bad_then : (fault : UserFault) {P Q : Type 0} → (P → Q) → BadWireIf fault P → BadWireIf fault Q
bad_then user.Refused f h = h
bad_then user.BadWire f h = f h
bad_then user.NoMemory f h = tt

-- where a line, or a split, is refused, the whole is
pub mapped_none : {A : Type 0} (all : Option (List A)) (done : List A) (mapped rest : Option (List A)) → all ≡ both (Some done) (both mapped rest) → mapped ≡ None → all ≡ None
mapped_none all done mapped rest h none = h ∙ ap (λ o. both (Some done) (both o rest)) none

-- a line of a split is no longer than a split may be
pub line_short : (line rest before all : ℕ) → line ≤ rest → before + rest ≤ all → all ≤ 2 ^ 24 → line ≤ 2 ^ 24
line_short line rest before all h k l = omega arith

-- a length that is not 0
pub some_left : (n : ℕ) → eqb n 0 ≡ false → 0 < n
some_left zero e = absurd cc
some_left (suc n) e = omega arith

-- a count that is at its end
pub at_end : (n m : ℕ) → n ≤ m → m ≤ n → n ≡ m
at_end n m h k = omega arith
