-- What the parts stand for after an event of masters: containers and nodes as they are, masters and stores as they go on.
use Rattle.std.proofs.Common.{◌≡◌, ℕ, zero, suc, refl, sym, ◌∙◌, ap, subst, Bool, true, false, List, [], ◌∷◌, ◌++◌, append-nil, Option, Some, is_some, ◌<◌, ◌≤◌, length, slice_get, arith, nat_le, Result, Err, IsErrAnd}
use Rattle.mr_names.specs.Calls as names
use Rattle.mr_history.specs.State as history
use Rattle.mr_packet.specs.Bag.{Held}
use Rattle.mr_master.specs.State as master
use Rattle.mr_world_model.specs.Packets.{Config}
use Rattle.mr_world_model.specs.World.{World, Event}
use Rattle.mr_world_model.specs.Effect.{effect, not_now, NoMaster}
use Rattle.mr_world_state.specs.declared.fault.WorldFault.{WorldFault}
use Rattle.mr_world_state.specs.declared.fault.WorldFault.TheVariants as fault
use Rattle.mr_world_state.proofs.Refusals.{refuses-now}
use Rattle.mr_world_model.specs.Sending.{sent}
use Rattle.mr_world_model.specs.Stored.{StoresStand}
use Rattle.mr_world_model.specs.Actors.{is_of_masters}
use Rattle.mr_world_model.proofs.Acts.{masters_act}
use Rattle.mr_master_refinement.specs.Steps.{setting, steps}
use Rattle.mr_world_state.specs.declared.masters.Masters.{Masters}
use Rattle.mr_world_state.specs.declared.parts.Parts.{Parts}
use Rattle.mr_world_state.specs.inner.Masters.{SameMasters}
use Rattle.mr_world_state.specs.Limits.{launch_count}
use Rattle.mr_world_state.specs.Standing.{Standing, IsTaken, MastersStand, MasterIn, Foresees}
use Rattle.std.proofs.lemmas.Bool.Decides.{nat_tests}
use Rattle.std.proofs.lemmas.Result.{err_from_is_err_and}
use Rattle.std.specs.Option.{option_and_then}
use Rattle.mr_world_state.specs.Machines.{master_of, master_count}
use Rattle.mr_world_state.proofs.Bounds.{small}
use Rattle.mr_world_state.proofs.Frames.{reached-on, living-stay, nodes-stay}

pub goes-on : (p : Parts) (w : World) (e : Event) (names : names.State) (history : history.State) (bag : Held) (masters : Masters) (launched : ℕ) → Standing p w → IsTaken p.config w e
    → is_of_masters e ≡ true → StoresStand names history (effect p.config w e) → MastersStand p.config masters (effect p.config w e)
    → launched ≡ launch_count (effect p.config w e) → bag.packets ≡ p.bag.packets ++ sent p.config w e
    → Standing (record p { names = names; history = history; bag = bag; masters = masters; launched = launched }) (effect p.config w e)
goes-on p w e names history bag masters launched s t of stores m l b = record {
  reached = reached-on s.reached t;
  dest = s.dest;
  stores = stores;
  bag = b ∙ ap (λ es. es ++ sent p.config w e) s.bag;
  living = living-stay (masters_act.containers p.config w e of) (λ c. refl) s.living;
  nodes = nodes-stay (masters_act.nodes p.config w e of) (λ n. refl) s.nodes;
  masters = m;
  launched = l;
}

-- no packet is sent
pub silent : (p : Parts) (w : World) (e : Event) → sent p.config w e ≡ [] → p.bag.packets ≡ p.bag.packets ++ sent p.config w e
silent p w e is = sym (append-nil p.bag.packets) ∙ ap (λ es. p.bag.packets ++ es) (sym is)

-- a machine stands in another world, where its past is the same
pub stays-in : (cfg : Config) (w u : World) (k : ℕ) (m : master.Master) → u.master_past k ≡ w.master_past k → MasterIn cfg w k m → MasterIn cfg u k m
stays-in cfg w u k m past s = subst (λ h. master.StandsFor m (setting cfg k) (steps h)) (sym past) s

-- ---- masters that are kept as they were

pub masters-stay : {cfg : Config} {old new : Masters} {w : World} → SameMasters old new → MastersStand cfg old w → MastersStand cfg new w
masters-stay same s = record {
  count = same.count ∙ s.count;
  alive = λ k. ap is_some (same.kept k) ∙ s.alive k;
  machines = λ k m o. s.machines k m (sym (same.kept k) ∙ o);
}

pub stood : (p : Parts) (w : World) (masters : Masters) → Standing p w → MastersStand p.config masters w → Standing (record p { masters = masters }) w
stood p w masters s m = record { reached = s.reached; dest = s.dest; stores = s.stores; bag = s.bag; living = s.living; nodes = s.nodes; masters = m; launched = s.launched }

-- ---- which generations are alive

within-list : {A : Type 0} (xs : List (Option A)) (n : ℕ) → is_some (option_and_then (λ m. m) (slice_get xs n)) ≡ true → n < length xs
within-list [] n e = cc
within-list (x ∷ xs) zero e = omega arith
within-list (x ∷ xs) (suc n) e = let l : n < length xs = within-list xs n e in omega arith

pub counted : (masters : Masters) (k : ℕ) → is_some (master_of masters k) ≡ true → (1 ≤ k) × (k ≤ master_count masters)
unfolding master_of master_count
counted masters zero e = cc
counted masters (suc n) e = let l : n < length masters.machines.items = within-list masters.machines.items n e in (omega arith, omega arith)

pub raised : (p : Parts) (w : World) (k : ℕ) → Standing p w → is_some (master_of p.masters k) ≡ true → (1 ≤ k) × (k ≤ p.history.fence)
raised p w k s e = let c = counted p.masters k e in (c.0, omega (arith, c.1, s.masters.count, s.stores.fence))

pub is-generation : (p : Parts) (w : World) (k : ℕ) → Standing p w → is_some (master_of p.masters k) ≡ true → (1 ≤ k) × (k ≤ 1000)
is-generation p w k s e = let c = counted p.masters k e in (c.0, omega (arith, c.1, s.masters.count, (small s.reached).fence))

dead : (b : Bool) (o : Option master.Master) → is_some o ≡ b → (b ≡ true → ⊥) → is_some o ≡ false
dead true o e n = absurd (n refl)
dead false o e n = e

-- one that is of no generation that was raised to is not alive
pub not-raised : (p : Parts) (k : ℕ) → ((1 ≤ k) × (k ≤ p.history.fence) × (k ≤ 1000) → ⊥) → (w : World) → Standing p w → w.is_master k ≡ false
not-raised p k n w s = sym (s.masters.alive k) ∙ dead _ (master_of p.masters k) refl (λ e. let r = raised p w k s e in n (r.0, r.1, (is-generation p w k s e).1))

pub not-kept : (p : Parts) (k : ℕ) → is_some (master_of p.masters k) ≡ false → (w : World) → Standing p w → w.is_master k ≡ false
not-kept p k e w s = sym (s.masters.alive k) ∙ e

-- what the exit of a `?` answers where there is no such master
pub no-master : {A : Type 0} (p : Parts) (e : Event) (k : ℕ) (r : Result A WorldFault) (g : WorldFault) → ((w : World) → w.is_master k ≡ false → not_now p.config w e ≡ Some NoMaster)
    → (g ≡ fault.NotNow NoMaster) × ((w : World) → Standing p w → w.is_master k ≡ false) → IsErrAnd r (λ f. f ≡ g) → Foresees p e r
no-master {A} p e k r g why none is = let q = err_from_is_err_and r is in
    subst (λ (z : Result A WorldFault). Foresees {A = A} p e z) (sym q.1) (subst (λ f. Foresees {A = A} p e (Err f)) (sym (q.2 ∙ none.0)) (λ w s. refuses-now _ _ (why w (none.1 w s))))

pub unraised : (app k fence : ℕ) → app ≡ k → nat_le app fence ≡ false → (1 ≤ k) × (k ≤ fence) × (k ≤ 1000) → ⊥
unraised app k fence e f r = grind (arith, nat_tests, r.1)
