-- Where nobody slips through, a run is the cluster's: event by event.
use Rattle.std.proofs.Common.{◌≡◌, refl, ◌∙◌, ap, Bool, true, false, ◌&&◌, List, [], ◌∷◌, ◌++◌, Option, Some, None, if◌then◌else◌, is_none}
use Rattle.std.proofs.lemmas.Bool.{and_parts}
use Rattle.mr_world_model.specs.Packets.{Config, Caller}
use Rattle.mr_world_model.specs.World.{World, Event, opening_world}
use Rattle.mr_world_model.specs.Effect.{effect, happens, not_now, run}
use Rattle.mr_world_model.specs.Claims.{Limits}
use Rattle.mr_world_model.proofs.Basic.{is_none-eq}
use Rattle.mr_world_weaker.specs.Lacking.{Kind, NobodySlips, answered_as, caller_in, effect_as, slips_in, weak_effect, weak_happens, weak_run}
use Rattle.mr_world_weaker.specs.Weaker.{OnlyWhoSlipsMatters}

answered-same : (kd : Kind) (w : World) (o : Option Caller) → slips_in kd w o ≡ false → answered_as kd w o ≡ w
answered-same kd w None s = refl
answered-same kd w (Some c) s = rw s refl

effect-same : (kd : Kind) (cfg : Config) (w : World) (e : Event) → slips_in kd w (caller_in w e) ≡ false → weak_effect kd cfg w e ≡ effect cfg w e
unfolding weak_effect
effect-same kd cfg w e s = ap (λ u. effect_as cfg w e u) (answered-same kd w (caller_in w e) s)

pub happens-same : (kd : Kind) (cfg : Config) (within : Limits) (w : World) (e : Event) → (not_now cfg w e ≡ None → within w e ≡ true → slips_in kd w (caller_in w e) ≡ false) →
    weak_happens kd cfg within w e ≡ happens cfg within w e
unfolding weak_happens happens
happens-same kd cfg within w e n = by (is_none (not_now cfg w e) && within w e) refl
  where
    by : (b : Bool) → (is_none (not_now cfg w e) && within w e) ≡ b → (if b then weak_effect kd cfg w e else w) ≡ (if b then effect cfg w e else w)
    by true q = let p = and_parts _ _ q in effect-same kd cfg w e (n (is_none-eq _ p.0) p.1)
    by false q = refl

run-same : (kd : Kind) (cfg : Config) (within : Limits) (w : World) (es : List Event) → NobodySlips kd cfg within w es → weak_run kd cfg within w es ≡ run cfg within w es
unfolding weak_run run
run-same kd cfg within w [] n = refl
run-same kd cfg within w (e ∷ es) n = ap (λ u. weak_run kd cfg within u es) (happens-same kd cfg within w e n.0) ∙ run-same kd cfg within (happens cfg within w e) es n.1

pub only-who-slips : OnlyWhoSlipsMatters
only-who-slips kd cfg within es n = run-same kd cfg within opening_world es n

pub weak_run-append : (kd : Kind) (cfg : Config) (within : Limits) (w : World) (es fs : List Event) → weak_run kd cfg within w (es ++ fs) ≡ weak_run kd cfg within (weak_run kd cfg within w es) fs
unfolding weak_run
weak_run-append kd cfg within w [] fs = refl
weak_run-append kd cfg within w (e ∷ es) fs = weak_run-append kd cfg within (weak_happens kd cfg within w e) es fs
