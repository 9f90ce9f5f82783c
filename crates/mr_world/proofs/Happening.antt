-- What an event that happened makes of the parts and the journal of a world.
use Rattle.std.proofs.Common.{◌≡◌, ℕ, ◌+◌, ◌-◌, ◌<◌, ◌≤◌, sym, ◌∙◌, ap, subst, List, [], ◌∷◌, ◌++◌, length, length-append, arith, ◌&&◌, nat_lt}
use Rattle.std.proofs.lemmas.Bool.{lt-ltb}
use Rattle.mr_world_model.specs.Packets.{Config}
use Rattle.mr_world_model.specs.World.{World, Event}
use Rattle.mr_world_model.specs.Effect.{effect, not_now}
use Rattle.mr_world_model.specs.Sending.{sent}
use Rattle.mr_world_state.specs.declared.fault.WorldFault.{WorldFault}
use Rattle.mr_world.specs.declared.limits.TheConstants.{MAX_EVENTS}
use Rattle.mr_world_state.specs.declared.parts.Parts.{Parts}
use Rattle.mr_world.specs.declared.took.Took.{Took}
use Rattle.mr_world.specs.Applying.{Counts, Takes}
use Rattle.mr_world.specs.Histories.{change_of, changed}
use Rattle.mr_world.specs.Journal.{Journal, Keeps, run_of}
use Rattle.mr_world_state.specs.Limits.{within, fits_counted}
use Rattle.mr_world_state.specs.Standing.{Standing, IsTaken, Refuses, RefusesEvent}
use Rattle.mr_world.proofs.Journals.{journal_of, keeps-one, takes}

-- an event was taken by the parts p, which became q
abbrev pub Becomes : Parts → Event → Parts → Type 0
Becomes p e q = (w : World) → Standing p w → IsTaken p.config w e × Standing q (effect p.config w e)

grows : (p q : Parts) (e : Event) (w : World) → Standing p w → Becomes p e q → length q.bag.packets ≡ length w.bag + length (sent p.config w e)
grows p q e w s b = ap length (b w s).1.bag ∙ length-append w.bag (sent p.config w e)

pub not-fewer : (p q : Parts) (e : Event) (a b : ℕ) → (w : World) × Standing p w → a ≡ length p.bag.packets → b ≡ length q.bag.packets → Becomes p e q → a ≤ b
not-fewer p q e a b (w, s) first last becomes = omega (arith, first, last, ap length s.bag, grows p q e w s becomes)

pub counts : (p q : Parts) (e : Event) (a b : ℕ) → a ≡ length p.bag.packets → b ≡ length q.bag.packets → Becomes p e q → (w : World) → Standing p w → Counts p w e (record { first = a; count = b - a })
counts p q e a b first last becomes w s = record {
  first = first ∙ ap length s.bag;
  count = omega (arith, first, last, ap length s.bag, grows p q e w s becomes);
}

-- ---- the world, its journal with it

pub keeps-on : (p q : Parts) (es fs gs : List Event) (e : Event) → Keeps p es → fs ≡ es → gs ≡ fs ++ e ∷ [] → length es < MAX_EVENTS → q.config ≡ p.config → Becomes p e q
    → ((w : World) → Standing p w → q.history ≡ changed p.history (change_of p.config w e)) → Keeps q gs
keeps-on p q es fs gs e k same more few config becomes left = let now = becomes (run_of p.config es) k.stands in
    subst (Keeps q) (sym (more ∙ ap (λ hs. hs ++ e ∷ []) same)) (keeps-one p q es e k config now.0 few now.1 (left (run_of p.config es) k.stands))

pub takes-on : (p q : Parts) (j : Journal) (es fs gs : List Event) (e : Event) (took : Took) → journal_of p es ≡ j → Keeps p es → fs ≡ es → gs ≡ fs ++ e ∷ [] → length es < MAX_EVENTS → q.config ≡ p.config → Becomes p e q
    → ((w : World) → Standing p w → Counts p w e took) → Takes j e took (journal_of q gs)
takes-on p q j es fs gs e took view k same more few config becomes counted = let now = becomes (run_of p.config es) k.stands in
    subst (λ (o : Journal). Takes o e took (journal_of q gs)) view (subst (λ hs. Takes (journal_of p es) e took (journal_of q hs)) (sym (more ∙ ap (λ hs. hs ++ e ∷ []) same)) (takes p q es e took config now.0 few (counted (run_of p.config es) k.stands)))

-- nothing was added
pub same-journal : (p q : Parts) (j : Journal) (es fs : List Event) → journal_of p es ≡ j → fs ≡ es → q.config ≡ p.config → journal_of q fs ≡ j
same-journal p q j es fs view same config = ap (λ (hs : List Event). record { config = q.config; events = hs }) same ∙ (ap (λ (cfg : Config). record { config = cfg; events = es }) config ∙ view)

-- where the journal has room, an event is refused as the parts refuse it
pub refused-by : (p : Parts) (es : List Event) (e : Event) (f : WorldFault) (w : World) → length es < MAX_EVENTS → RefusesEvent p.config w e f
    → Refuses (not_now p.config w e) (nat_lt (length es) MAX_EVENTS && within p.config w e) (nat_lt (length es) MAX_EVENTS && fits_counted p.config w e) f
refused-by p es e f w few r = subst (λ b. Refuses (not_now p.config w e) (b && within p.config w e) (b && fits_counted p.config w e) f) (sym (lt-ltb (length es) MAX_EVENTS few)) r
