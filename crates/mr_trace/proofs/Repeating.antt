-- The events of a journal happen once more.
use Rattle.std.proofs.Common.{◌≡◌, ◌<◌, ◌∙◌, ℕ, suc, true, false, Bool, List, [], ◌∷◌, ◌++◌, Option, Some, None, length, drop, drop-cons, get_or, sym, ap, subst}
use Rattle.mr_world_events.specs.declared.event.Event.{Event}
use Rattle.mr_world_events.specs.declared.why.Why.{Why}
use Rattle.mr_world_model.specs.Packets.{Config}
use Rattle.mr_world_model.specs.Effect.{not_now}
use Rattle.mr_play.specs.mr_world_state.specs.declared.fault.WorldFault.{WorldFault}
use Rattle.mr_play.specs.mr_world_state.specs.declared.fault.WorldFault.TheVariants as fault
use Rattle.mr_play.specs.mr_world_state.specs.Standing.{Refuses}
use Rattle.mr_play.specs.mr_world.specs.Applying.{CanHappen, IsRefused}
use Rattle.mr_play.specs.mr_world.specs.Journal.{Journal, world_in, fits, fits_first}
use Rattle.mr_play.specs.mr_world.specs.Repeating.{CanFollow}

-- ---- an event that can happen is refused for want of memory alone

refused_so : (o : Option Why) (fits counted : Bool) (f : WorldFault) → o ≡ None → fits ≡ true → Refuses o fits counted f → f ≡ fault.NoMemory
refused_so None true counted f none fit r = r
refused_so None false counted f none fit r = absurd (cc fit)
refused_so (Some why) fits counted f none fit r = absurd (cc none)

refused : (j : Journal) (e copy : Event) (f : WorldFault) → copy ≡ e → CanHappen j e → IsRefused j copy f → f ≡ fault.NoMemory
refused j e copy f same can r = let r' = subst (λ x. IsRefused j x f) same r in refused_so (not_now j.config (world_in j) e) (fits j e) (fits_first j e) f can.now can.fits r'

pub no_reason : (j : Journal) (e copy : Event) (f : WorldFault) (why : Why) → f ≡ fault.NotNow why → copy ≡ e → CanHappen j e → IsRefused j copy f → ⊥
no_reason j e copy f why is same can r = cc (is, refused j e copy f same can r)

pub not_full : (j : Journal) (e copy : Event) (f : WorldFault) → f ≡ fault.Full → copy ≡ e → CanHappen j e → IsRefused j copy f → ⊥
not_full j e copy f is same can r = cc (is, refused j e copy f same can r)

-- ---- events that can happen in turn

pub first_of : (cfg : Config) (before all es : List Event) (e : Event) → all ≡ e ∷ es → CanFollow cfg before all → CanHappen (record { config = cfg; events = before }) e × CanFollow cfg (before ++ e ∷ []) es
first_of cfg before all es e is can = subst (CanFollow cfg before) is can

front : (all : List Event) (i : ℕ) (e : Event) → i < length all → e ≡ get_or all i e → drop i all ≡ e ∷ drop (suc i) all
front all i e few is = drop-cons all i e few ∙ ap (λ x. x ∷ drop (suc i) all) (sym is)

pub first_can : (j : Journal) (all : List Event) (i : ℕ) (e : Event) → i < length all → e ≡ get_or all i e → CanFollow j.config j.events (drop i all) → CanHappen j e
first_can j all i e few is can = (first_of j.config j.events (drop i all) (drop (suc i) all) e (front all i e few is) can).0

pub rest_can : (j new : Journal) (all : List Event) (i : ℕ) (e : Event) → i < length all → e ≡ get_or all i e → new ≡ record { config = j.config; events = j.events ++ e ∷ [] } → CanFollow j.config j.events (drop i all)
    → CanFollow new.config new.events (drop (suc i) all)
rest_can j new all i e few is made can =
    subst (λ (k : Journal). CanFollow k.config k.events (drop (suc i) all)) (sym made)
    (first_of j.config j.events (drop i all) (drop (suc i) all) e (front all i e few is) can).1

-- all events of a journal, in a world at its beginning
pub from_start : (j again : Journal) (cfg : Config) (es : List Event) → again ≡ record { config = cfg; events = [] } → cfg ≡ j.config → es ≡ j.events → CanFollow j.config [] j.events → CanFollow again.config again.events es
from_start j again cfg es opens same are can =
    subst (λ (k : Journal). CanFollow k.config k.events es) (sym opens)
    (subst (λ (c : Config). CanFollow c [] es) (sym same) (subst (CanFollow j.config []) (sym are) can))
