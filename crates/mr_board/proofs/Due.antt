-- Whether a container is to compute, and just this; and why bytes are refused.
use Rattle.std.proofs.Common.{◌≡◌, ◌↔◌, ℕ, List, Bool, true, false, Option, Some, None, Result, Ok, Err, IfSome, IsErrAnd, IsTrue, if◌then◌else◌, is_some, refl, sym, ap, subst, inl, ◌∙◌}
use Rattle.std.proofs.lemmas.Result.{err_from_is_err_and}
use Rattle.mr_world_events.specs.declared.event.Event.{Event}
use Rattle.mr_world_events.specs.declared.why.Why.{Why}
use Rattle.mr_packet.specs.declared.packet.ContainerId.{ContainerId}
use Rattle.mr_world_model.specs.World.{Compute}
use Rattle.mr_world_model.specs.Effect.{not_now}
use Rattle.mr_world_model.specs.Sequential.{Input, input_of}
use Rattle.mr_container_work.specs.Works.{InputsAreShort, IsShort}
use Rattle.mr_world.specs.mr_world_state.specs.declared.fault.WorldFault.{WorldFault}
use Rattle.mr_world.specs.mr_world_state.specs.declared.fault.WorldFault.TheVariants as fault
use Rattle.mr_world.specs.Applying.{IsRefused, foretold, foretold_in}
use Rattle.mr_world.specs.Journal.{Journal, fits, fits_first, world_in}
use Rattle.mr_world.specs.Ranges.{IsInRange}
use Rattle.mr_world.specs.Standing.{Refuses}
use Rattle.mr_board.specs.Boards.{Done, IsDue, Task, Works, input_now}

some-is : {A : Type 0} {y z : A} → Some y ≡ Some z → y ≡ z
some-is e = cc

-- it is to compute nothing
pub no-input : (j : Journal) (d : Done) → input_now j d.container ≡ None → IsTrue false ↔ IsDue j d
no-input j d none = ((λ t. absurd (cc)), (λ due. absurd (cc (sym none ∙ due.0))))

-- what it is to compute is compared
pub compared : (j : Journal) (d : Done) (x : Input) (b : Bool) → input_now j d.container ≡ Some x → IsTrue b ↔ ((d.input ≡ x) × (d.reduces ≡ j.config.reduces)) → IsTrue b ↔ IsDue j d
compared j d x b is same = (
  (λ t. (is ∙ ap (λ y. Some y) (sym (same.0 t).0), (same.0 t).1)),
  (λ due. same.1 (some-is (sym due.0 ∙ is), due.1)),
)

-- ---- works

of-living : (alive : Bool) (o : Option Input) (x : Input) → (if alive then o else None) ≡ Some x → o ≡ Some x
of-living true o x is = is
of-living false o x is = absurd (cc)

pub input-is-short : (j : Journal) (c : ContainerId) (x : Input) → InputsAreShort → IsInRange j.config → input_now j c ≡ Some x → IsShort x
input-is-short j c x short r is =
    subst (λ (o : Option Input). IfSome o IsShort) (of-living ((world_in j).is_alive c) (input_of j.config (world_in j) c) x is) (short j.config (world_in j) c r.splits r.short)

-- what the exit of a `?` answers
pub wants-memory-to-copy : (j : Journal) (c : ContainerId) (x : Input) (r : Result Task WorldFault) → IsErrAnd r (λ e. e ≡ fault.NoMemory) → input_now j c ≡ Some x → Works j c r
wants-memory-to-copy j c x r g is =
    let z = err_from_is_err_and r g in
    subst (λ (y : Result Task WorldFault). Works j c y) (sym z.1) (subst (λ h. Works j c (Err h)) (sym z.2) (ap is_some is))

-- ---- refusals

foretold-refuses : (o : Option Why) (fit at_once : Bool) (f : WorldFault) → foretold o fit ≡ Err f → Refuses o fit at_once f
foretold-refuses (Some why) fit at_once f e = cc
foretold-refuses None true at_once f e = absurd (cc e)
foretold-refuses None false false f e = cc
foretold-refuses None false true f e = inl (cc)

foretold-fits : (o : Option Why) (fit at_once : Bool) → foretold o fit ≡ Ok tt → Refuses o fit at_once fault.NoMemory
foretold-fits (Some why) fit at_once e = absurd (cc e)
foretold-fits None true at_once e = refl
foretold-fits None false at_once e = absurd (cc e)

-- the same of equals
pub told-alike : (j j' : Journal) (c c' : ContainerId) (bytes bytes' : List ℕ) → j ≡ j' → c ≡ c' → bytes ≡ bytes' → foretold_in j (Compute c bytes) ≡ foretold_in j' (Compute c' bytes')
told-alike j j' c c' bytes bytes' p q r = λ i. foretold_in (p i) (Compute (q i) (r i))

-- what was foretold is the refusal, and where none was it is that there is no memory
pub refused-as-foretold : (j : Journal) (e : Event) (f : WorldFault) → foretold_in j e ≡ Err f → IsRefused j e f
refused-as-foretold j e f is = foretold-refuses (not_now j.config (world_in j) e) (fits j e) (fits_first j e) f is

pub refused-for-memory : (j : Journal) (e : Event) → foretold_in j e ≡ Ok tt → IsRefused j e fault.NoMemory
refused-for-memory j e is = foretold-fits (not_now j.config (world_in j) e) (fits j e) (fits_first j e) is
