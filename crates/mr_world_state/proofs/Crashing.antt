-- A master crashes: when it can, and what the parts stand for then.
use Rattle.std.proofs.Common.{◌≡◌, ℕ, refl, sym, ◌∙◌, ap, subst, Bool, true, false, ◌&&◌, not, Option, Some, None, if◌then◌else◌, is_some, nat_eq, arith}
use Rattle.std.proofs.lemmas.Bool.{le-leb}
use Rattle.mr_history.specs.State as history
use Rattle.mr_history.specs.Calls as segments
use Rattle.mr_master.specs.State as master
use Rattle.mr_world_model.specs.Packets.{Config}
use Rattle.mr_world_model.specs.World.{World, Crash, call_of}
use Rattle.mr_world_model.specs.Effect.{effect, not_now, NoMaster}
use Rattle.mr_world_model.specs.Sending.{sent}
use Rattle.mr_world_model.specs.Stored.{StoresStand}
use Rattle.mr_world_model.proofs.Stored.{stores_go_on}
use Rattle.mr_master_refinement.proofs.Stores.{masters_go_on}
use Rattle.mr_world_state.specs.declared.masters.Masters.{Masters}
use Rattle.mr_world_state.specs.declared.parts.Parts.{Parts}
use Rattle.mr_world_state.specs.Machines.{master_of}
use Rattle.mr_world_state.specs.inner.Masters.{Ceases}
use Rattle.mr_world_state.specs.Limits.{within}
use Rattle.mr_world_state.specs.Standing.{Standing, Reached, IsTaken, MastersStand}
use Rattle.mr_world_state.proofs.Bounds.{small, within-is}
use Rattle.mr_world_state.proofs.Frames.{launches-same}
use Rattle.mr_world_state.proofs.Mastering.{goes-on, silent, stays-in}

-- ---- when it can

pub not-allowed : (cfg : Config) (w : World) (k kept : ℕ) → w.is_master k ≡ false → not_now cfg w (Crash k kept) ≡ Some NoMaster
unfolding not_now
not-allowed cfg w k kept e = rw e refl

allowed : (cfg : Config) (w : World) (k kept : ℕ) → w.is_master k ≡ true → not_now cfg w (Crash k kept) ≡ None
unfolding not_now
allowed cfg w k kept e = rw e refl

limit-is : (cfg : Config) (w : World) (k kept : ℕ) → Reached cfg w → within cfg w (Crash k kept) ≡ true
unfolding call_of sent
limit-is cfg w k kept r = within-is cfg w (Crash k kept) refl (le-leb _ _ (let b = (small r).bag in omega arith))

pub taken : (p : Parts) (k kept : ℕ) → is_some (master_of p.masters k) ≡ true → (w : World) → Standing p w → IsTaken p.config w (Crash k kept)
taken p k kept e w s = record { now = allowed p.config w k kept (sym (s.masters.alive k) ∙ e); fits = limit-is p.config w k kept s.reached }

-- ---- what stands then

dead-now : (b : Bool) (o : Option master.Master) (a : Bool) → is_some o ≡ a → is_some (if b then None else o) ≡ (not b && a)
dead-now true o a e = refl
dead-now false o a e = e

not-dead : (b : Bool) (o : Option master.Master) (m : master.Master) → (if b then None else o) ≡ Some m → o ≡ Some m
not-dead true o m e = cc
not-dead false o m e = e

masters-cease : (cfg : Config) (w : World) (k kept : ℕ) (old new : Masters) → MastersStand cfg old w → Ceases old k new → MastersStand cfg new (effect cfg w (Crash k kept))
masters-cease cfg w k kept old new s b = let st = masters_go_on.crashes cfg w k kept in record {
  count = b.count ∙ s.count;
  alive = λ j. ap is_some (b.kept j) ∙ (dead-now (nat_eq j k) (master_of old j) (w.is_master j) (s.alive j) ∙ sym (st.living j));
  machines = λ j n o. stays-in cfg w (effect cfg w (Crash k kept)) j n (st.pasts j) (s.machines j n (not-dead (nat_eq j k) (master_of old j) n (sym (b.kept j) ∙ o)));
}

pub stands : (p : Parts) (w : World) (k kept : ℕ) (hs : history.State) (masters : Masters) → Standing p w → IsTaken p.config w (Crash k kept) → w.is_master k ≡ true → Ceases p.masters k masters
    → hs ≡ segments.sealed_at k kept p.history → Standing (record p { history = hs; masters = masters }) (effect p.config w (Crash k kept))
stands p w k kept hs masters s t alive b h = let st = masters_go_on.crashes p.config w k kept in
    goes-on p w (Crash k kept) p.names hs p.bag masters p.launched s t refl (subst (λ x. StoresStand p.names x (effect p.config w (Crash k kept))) (sym h) (sealed s.reached s.stores alive))
    (masters-cease p.config w k kept p.masters masters s.masters b)
    (s.launched ∙ sym (launches-same w.master_past (effect p.config w (Crash k kept)).master_past st.pasts 1000))
    (silent p w (Crash k kept) st.sends)
  where
    sealed : Reached p.config w → StoresStand p.names p.history w → w.is_master k ≡ true → StoresStand p.names (segments.sealed_at k kept p.history) (effect p.config w (Crash k kept))
    sealed r = subst (λ u. StoresStand p.names p.history u → u.is_master k ≡ true → StoresStand p.names (segments.sealed_at k kept p.history) (effect p.config u (Crash k kept))) r.is
        (stores_go_on.crashes p.config (within p.config) r.events p.names p.history k kept)
