-- What works answer.
use Rattle.std.proofs.Common.{◌≡◌, ℕ, ◌<◌, ◌≤◌, List, length, Option, Some, None, Result, Ok, Err, IfErr, IsErrAnd, sym, ap, subst}
use Rattle.std.proofs.lemmas.Result.{err_from_is_err_and}
use Rattle.mr_user.specs.declared.fault.UserFault.TheVariants as user
use Rattle.mr_mapside.specs.declared.fault.ShuffleFault.{ShuffleFault}
use Rattle.mr_mapside.specs.declared.fault.ShuffleFault.TheVariants as shuffle
use Rattle.mr_mapside.specs.declared.fault.WorkFault.{WorkFault}
use Rattle.mr_mapside.specs.declared.fault.WorkFault.TheVariants as work
use Rattle.mr_mapside.specs.Work.{MapFaultIs}
use Rattle.mr_shuffle.specs.Work.{ReduceFaultIs}
use Rattle.mr_world_files.specs.mr_world_model.specs.Sequential.{most_output}
use Rattle.mr_world_files.specs.Jobs.{ok_of}
use Rattle.mr_container_work.specs.Works.{Works}

pub not-longer : (n : ℕ) → n ≤ 16777216 → n ≤ most_output
unfolding most_output
not-longer n h = h

pub given-back : {E : Type 0} (meant : Result (List ℕ) E) (bytes : List ℕ) → meant ≡ Ok bytes → ok_of meant ≡ Some bytes
given-back meant bytes is = ap ok_of is

longer : (n : ℕ) → 16777216 < n → most_output < n
unfolding most_output
longer n h = h

pub map-refused : (refuses : Type 0) (f : WorkFault) (meant : Option (List ℕ)) → MapFaultIs refuses f meant → Works refuses meant (Err f)
map-refused refuses (work.User user.Refused) meant h = h
map-refused refuses (work.User user.BadWire) meant h = absurd h
map-refused refuses (work.User user.NoMemory) meant h = absurd h
map-refused refuses (work.Gate f) meant h = h
map-refused refuses (work.Shuffle f) meant h = absurd h
map-refused refuses work.Full meant h = (h.0, h.1, longer (length h.0) h.2)
map-refused refuses work.NoMemory meant h = tt

none-of : {A E : Type 0} (r : Result A E) (e : E) → r ≡ Err e → ok_of r ≡ None
none-of r e h = ap ok_of h

pub reduce-refused : (refuses : Type 0) (f : WorkFault) (InPlace : Type 0) (meant : Result (List ℕ) ShuffleFault) → InPlace → ReduceFaultIs refuses InPlace meant 16777216 f → Works refuses (ok_of meant) (Err f)
reduce-refused refuses (work.User f) InPlace meant there h = absurd h
reduce-refused refuses (work.Gate f) InPlace meant there h = h
reduce-refused refuses (work.Shuffle shuffle.WrongPiece) InPlace meant there h = absurd (h there)
reduce-refused refuses (work.Shuffle shuffle.Truncated) InPlace meant there h = none-of meant shuffle.Truncated h.1
reduce-refused refuses (work.Shuffle shuffle.Disorder) InPlace meant there h = none-of meant shuffle.Disorder h.1
reduce-refused refuses (work.Shuffle shuffle.NoMemory) InPlace meant there h = absurd h
reduce-refused refuses work.Full InPlace meant there h = (h.1.0, ap ok_of h.1.1, longer (length h.1.0) h.1.2)
reduce-refused refuses work.NoMemory InPlace meant there h = tt

-- the exit of a `?` answers the fault
pub refused-as : (refuses : Type 0) (meant : Option (List ℕ)) (r : Result (List ℕ) WorkFault) (f : WorkFault) → IsErrAnd r (λ e. e ≡ f) → Works refuses meant (Err f) → Works refuses meant r
refused-as refuses meant r f g h = let z = err_from_is_err_and r g in subst (Works refuses meant) (sym z.1) (subst (λ e. Works refuses meant (Err e)) (sym z.2) h)

-- the exit of a `?` answers the fault
pub answered-so : (P : WorkFault → Type 0) (r : Result (List ℕ) WorkFault) (f : WorkFault) → IsErrAnd r (λ e. e ≡ f) → P f → IfErr r P
answered-so P r f g h = let z = err_from_is_err_and r g in subst (λ (x : Result (List ℕ) WorkFault). IfErr x P) (sym z.1) (subst P (sym z.2) h)
