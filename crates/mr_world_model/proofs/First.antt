-- What a master has launched and accepted before it ran, and as it begins to run.
use Rattle.std.proofs.Common.{ℕ, ◌≤◌, ◌≡◌, refl, sym, ◌∙◌, subst, Bool, true, false, ◌||◌, List, [], ◌∷◌, ◌++◌, Option, Some, None, if◌then◌else◌, nat_eq, ◌⊎◌, inl, inr, arith}
use Rattle.std.proofs.lemmas.Bool.{false≢true, true≢false, eqb-true}
use Rattle.mr_world_model.specs.Records.{records_below}
use Rattle.mr_world_model.specs.Packets.{Config, Packet, Store, Reply}
use Rattle.mr_world_model.specs.Hearing.{Seen, Phase, Running, Failing, is_running}
use Rattle.mr_world_model.specs.Duties.{Master_step, Came, Launches, Expires, Asks, seen, next_seen, attempts_of, newest_maps, phase_told, winners_of}
use Rattle.mr_world_model.specs.World.{World, Event, Master_act, master_act, seen_by, opening_world}
use Rattle.mr_world_model.specs.Effect.{effect, not_now, run, with_master_step}
use Rattle.mr_world_model.specs.Claims.{Limits, In, world_of}
use Rattle.mr_world_model.specs.Beside.{has_run, BeginsWithItsWinners}
use Rattle.mr_world_model.proofs.Basic.{if_cases, along, taken_or_not, run-append}
use Rattle.mr_world_model.proofs.Closed.{Closed, next-closed}
use Rattle.mr_world_model.proofs.Allowed.{Allowed, permits, seen_after}
use Rattle.mr_world_model.proofs.Told.{is_allowed}
use Rattle.mr_world_model.proofs.Masters.{came-phase, told-phase, launches-phase, expires-phase}
use Rattle.mr_world_model.proofs.Follows.{follows}
use Rattle.mr_world_model.proofs.Recorded.{newest-maps, attempts-maps}
use Rattle.mr_world_model.proofs.Accounted.{told-accepted, told-fresh, to-running, known-accepted}
use Rattle.mr_world_model.proofs.Exactly.{Counted, always-counted}
use Rattle.mr_world_model.proofs.Outcomes.{ever}
use Rattle.mr_world_model.proofs.Found.{always}
use Rattle.mr_world_model.proofs.Takes_over.{begins-newest, all-winners}

-- Before it ran

or-false : (a b : Bool) → (a || b) ≡ false → (a ≡ false) × (b ≡ false)
or-false false b e = (refl, e)
or-false true b e = absurd (true≢false e)

not-running : (cfg : Config) (k : ℕ) (h : List Master_step) → has_run cfg k h ≡ false → is_running (seen cfg k h).phase ≡ false
unfolding has_run seen
not-running cfg k [] e = refl
not-running cfg k (x ∷ h) e = (or-false _ _ e).0

abbrev Nothing : Seen → Type 0
Nothing s = (s.launched ≡ []) × (s.accepted ≡ [])

launched-none : (cfg : Config) → Closed cfg (λ s l. ⊥) (λ s. s.launched ≡ [])
launched-none cfg = record { asks = λ s a o. o; ends = λ s a f due p o. o; accepts = λ s a st due o. o; knows = λ s f ps o. o; calls = λ s p ws st rs ks h due tail o. o; launches = λ s l due u o. absurd u; expires = λ s ks bs o. o }

came-accepted : (cfg : Config) (k : ℕ) (s : Seen) (p : Packet) → is_running s.phase ≡ false → (next_seen cfg k s (Came p)).accepted ≡ s.accepted
unfolding next_seen
came-accepted cfg k s p e = if_cases (λ (x : Seen). x.accepted ≡ s.accepted) (is_running s.phase) _ _ (λ t. absurd (true≢false (sym t ∙ e))) (λ t. known-accepted s p)

asks-accepted : (cfg : Config) (k : ℕ) (s : Seen) (call : Store) (r : Reply) → (next_seen cfg k s (Asks call r)).accepted ≡ s.accepted
unfolding next_seen
asks-accepted cfg k s call r = told-accepted cfg k s call r

next-nothing : (cfg : Config) (w : World) (k : ℕ) (x : Master_step) → Allowed cfg w k x → is_running (seen_by cfg w k).phase ≡ false → Nothing (seen_by cfg w k) → Nothing (next_seen cfg k (seen_by cfg w k) x)
next-nothing cfg w k (Came p) a e o = (next-closed cfg (λ s l. ⊥) (λ s. s.launched ≡ []) (launched-none cfg) k (seen_by cfg w k) (Came p) tt o.0, came-accepted cfg k (seen_by cfg w k) p e ∙ o.1)
next-nothing cfg w k (Launches l) a e o = absurd (true≢false (sym a.0 ∙ e))
next-nothing cfg w k (Expires n) a e o = absurd (true≢false (sym a ∙ e))
next-nothing cfg w k (Asks call r) a e o = (next-closed cfg (λ s l. ⊥) (λ s. s.launched ≡ []) (launched-none cfg) k (seen_by cfg w k) (Asks call r) tt o.0, asks-accepted cfg k (seen_by cfg w k) call r ∙ o.1)

abbrev Waits : Config → World → Type 0
Waits cfg w = (k : ℕ) → has_run cfg k (w.master_past k) ≡ false → Nothing (seen_by cfg w k)

waits-after : (cfg : Config) (w : World) (e : Event) → Waits cfg w → not_now cfg w e ≡ None → Waits cfg (effect cfg w e)
unfolding has_run seen
waits-after cfg w e o n k = by (master_act cfg w e) (λ a q. (is_allowed cfg w _ (permits cfg w e n) a q).1)
  where
    by : (m : Option Master_act) → ((a : Master_act) → m ≡ Some a → Allowed cfg w a.who a.step) → has_run cfg k (with_master_step w.master_past m k) ≡ false → Nothing (seen cfg k (with_master_step w.master_past m k))
    by None f t = o k t
    by (Some a) f t = at (nat_eq k a.who) refl t
      where
        at : (b : Bool) → nat_eq k a.who ≡ b → has_run cfg k (if b then a.step ∷ w.master_past k else w.master_past k) ≡ false → Nothing (seen cfg k (if b then a.step ∷ w.master_past k else w.master_past k))
        at false q t = o k t
        at true q t = let h = (or-false _ _ t).1 in
            next-nothing cfg w k a.step (subst (λ z. Allowed cfg w z a.step) (sym (eqb-true k a.who q)) (f a refl)) (not-running cfg k (w.master_past k) h) (o k h)

always-waits : (cfg : Config) (within : Limits) (es : List Event) → Waits cfg (world_of cfg within es)
unfolding seen
always-waits cfg within es = along (Waits cfg) cfg within (λ w e o n. waits-after cfg w e o n) opening_world es (λ k e. (refl, refl))

-- As it begins to run

abbrev Begun : Seen → Type 0
Begun s = is_running s.phase ≡ true → (s.accepted ≡ []) × (s.recorded ≡ attempts_of (newest_maps s.known s.history []))

asks-fresh : (cfg : Config) (k : ℕ) (s : Seen) (call : Store) (r : Reply) → is_running (phase_told k s s.phase call r) ≡ true → is_running s.phase ≡ false →
    (next_seen cfg k s (Asks call r)).recorded ≡ attempts_of (newest_maps (next_seen cfg k s (Asks call r)).known (next_seen cfg k s (Asks call r)).history [])
unfolding next_seen
asks-fresh cfg k s call r p q = told-fresh cfg k s call r p q

next-begun : (cfg : Config) (w : World) → Counted cfg w → (k : ℕ) → k ≤ w.fence → (x : Master_step) → is_running (seen_by cfg w k).phase ≡ false → Begun (next_seen cfg k (seen_by cfg w k) x)
next-begun cfg w c k l (Came p) e t = by (came-phase cfg k (seen_by cfg w k) p)
  where
    by : ((next_seen cfg k (seen_by cfg w k) (Came p)).phase ≡ (seen_by cfg w k).phase) ⊎ ((is_running (seen_by cfg w k).phase ≡ true) × ((next_seen cfg k (seen_by cfg w k) (Came p)).phase ≡ Failing false)) →
        ((next_seen cfg k (seen_by cfg w k) (Came p)).accepted ≡ []) × ((next_seen cfg k (seen_by cfg w k) (Came p)).recorded ≡ attempts_of (newest_maps (next_seen cfg k (seen_by cfg w k) (Came p)).known (next_seen cfg k (seen_by cfg w k) (Came p)).history []))
    by (inl q) = absurd (false≢true (sym e ∙ subst (λ z. is_running z ≡ true) q t))
    by (inr q) = absurd (true≢false (sym q.0 ∙ e))
next-begun cfg w c k l (Launches m) e t = absurd (false≢true (sym e ∙ subst (λ z. is_running z ≡ true) (launches-phase cfg k (seen_by cfg w k) m) t))
next-begun cfg w c k l (Expires n) e t = absurd (false≢true (sym e ∙ subst (λ z. is_running z ≡ true) (expires-phase cfg k (seen_by cfg w k) n) t))
next-begun cfg w c k l (Asks call r) e t =
    let p : is_running (phase_told k (seen_by cfg w k) (seen_by cfg w k).phase call r) ≡ true = subst (λ z. is_running z ≡ true) (told-phase cfg k (seen_by cfg w k) call r) t in (
      asks-accepted cfg k (seen_by cfg w k) call r ∙ (c.accounted k l).early (to-running k (seen_by cfg w k).winners call r (seen_by cfg w k).phase _ (follows k (seen_by cfg w k) (seen_by cfg w k).phase call r) p e),
      asks-fresh cfg k (seen_by cfg w k) call r p e,
    )

begun-after : (cfg : Config) (within : Limits) (es : List Event) (e : Event) (k : ℕ) → is_running (seen_by cfg (world_of cfg within es) k).phase ≡ false → Begun (seen_by cfg (world_of cfg within (es ++ e ∷ [])) k)
unfolding run
begun-after cfg within es e k o = subst (λ u. Begun (seen_by cfg u k)) (sym (run-append cfg within opening_world es (e ∷ [])))
    (taken_or_not (λ u. Begun (seen_by cfg u k)) cfg within (world_of cfg within es) e none (λ n. seen_after Begun cfg (world_of cfg within es) (master_act cfg (world_of cfg within es) e) k none
    (λ a q m. next-begun cfg (world_of cfg within es) (always-counted cfg within es) k (old n a q m) a.step o)))
  where
    none : Begun (seen_by cfg (world_of cfg within es) k)
    none t = absurd (false≢true (sym o ∙ t))

    old : not_now cfg (world_of cfg within es) e ≡ None → (a : Master_act) → master_act cfg (world_of cfg within es) e ≡ Some a → a.who ≡ k → k ≤ (world_of cfg within es).fence
    old n a q m = (always-counted cfg within es).sures.known.honest.is_aged.masters_started k (subst (λ z. (world_of cfg within es).is_master z ≡ true) m (is_allowed cfg (world_of cfg within es) _ (permits cfg (world_of cfg within es) e n) a q).0)

running-takes : (p : Phase) → is_running p ≡ true → Rattle.mr_world_model.proofs.Accounted.takes p ≡ true
running-takes Running e = refl
running-takes p e = absurd (false≢true e)

pub begins_with_its_winners : (cfg : Config) (within : Limits) → BeginsWithItsWinners cfg within
begins_with_its_winners cfg within = record {
  launches = λ es k e. (always-waits cfg within es k e).0;
  accepts = λ es k e. (always-waits cfg within es k e).1;
  none_accepted = λ es e k o t. (begun-after cfg within es e k o t).0;
  none_recorded = λ es e k o t a i. attempts-maps _
      (newest-maps (seen_by cfg (world_of cfg within (es ++ e ∷ [])) k).known (seen_by cfg (world_of cfg within (es ++ e ∷ [])) k).history [] ((ever cfg within (es ++ e ∷ [])).records.noted k).reads tt) a
      (subst (λ z. In a z) (begun-after cfg within es e k o t).1 i);
  winners = earlier;
  newest = begins-newest cfg within;
  whole = λ es e k o t. let n = begins-newest cfg within es e k o t in
      all-winners cfg (world_of cfg within (es ++ e ∷ [])) (always cfg within (es ++ e ∷ [])) k n (begun-after cfg within es e k o t).0 (earlier (es ++ e ∷ []) k (omega (arith, n)) t);
}
  where
    earlier : (es : List Event) (k : ℕ) → k ≤ (world_of cfg within es).fence → is_running (seen_by cfg (world_of cfg within es) k).phase ≡ true →
        (seen_by cfg (world_of cfg within es) k).winners ≡ winners_of (records_below (world_of cfg within es).history k) cfg.job cfg.reduces
    earlier es k l e = ((always-counted cfg within es).accounted k l).wins (running-takes (seen_by cfg (world_of cfg within es) k).phase e)
