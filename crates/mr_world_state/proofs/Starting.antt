-- A master starts: when it can, and what the parts stand for then.
use Rattle.std.proofs.Common.{◌≡◌, ◌≤◌, ◌<◌, ℕ, suc, ◌+◌, refl, sym, ◌∙◌, ap, subst, Bool, true, false, ◌||◌, [], Option, Some, None, if◌then◌else◌, is_some, nat_eq, arith}
use Rattle.std.proofs.lemmas.Bool.{eqb-true, eq-eqb, le-leb, lt-leb, leb-true}
use Rattle.mr_names.specs.Calls as names
use Rattle.mr_history.specs.State as history
use Rattle.mr_history.specs.Calls as segments
use Rattle.mr_master_model.specs.declared.setting.Setting.{Setting}
use Rattle.mr_master.specs.State as master
use Rattle.mr_paths.specs.declared.layout.Layout.{Layout}
use Rattle.mr_world_model.specs.Ids.{dest}
use Rattle.mr_world_model.specs.Packets.{Config}
use Rattle.mr_world_model.specs.World.{World, Start, call_of}
use Rattle.mr_world_model.specs.Effect.{effect, not_now, WrongGeneration, version_of}
use Rattle.mr_world_model.specs.Sending.{sent}
use Rattle.mr_world_model.specs.Stored.{StoresStand}
use Rattle.mr_world_model.proofs.Basic.{unless_parts}
use Rattle.mr_world_model.proofs.Stored.{stores_go_on}
use Rattle.mr_master_refinement.specs.Steps.{setting, steps}
use Rattle.mr_master_refinement.specs.Stores.{MasterStarts}
use Rattle.mr_master_refinement.proofs.Stores.{masters_go_on}
use Rattle.mr_world_state.specs.declared.fault.WorldFault.TheVariants as fault
use Rattle.mr_world_state.specs.declared.masters.Masters.{Masters}
use Rattle.mr_world_state.specs.declared.parts.Parts.{Parts}
use Rattle.mr_world_state.specs.Machines.{master_of, master_count}
use Rattle.mr_world_state.specs.inner.Masters.{Begins}
use Rattle.mr_world_state.specs.Limits.{within, fits_bag}
use Rattle.mr_world_state.specs.Standing.{Standing, Reached, IsTaken, MastersStand, MasterIn, RefusesEvent}
use Rattle.mr_world_state.proofs.Bounds.{small, fits-parts, within-is}
use Rattle.mr_world_state.proofs.Refusals.{refuses-now, refuses-full}
use Rattle.mr_world_state.proofs.Frames.{launches-same}
use Rattle.mr_world_state.proofs.Mastering.{goes-on, silent, stays-in}

-- ---- when it can

next-generation : (cfg : Config) (w : World) (k kept : ℕ) → not_now cfg w (Start k kept) ≡ None → k ≡ suc w.fence
unfolding not_now
next-generation cfg w k kept e = eqb-true k (suc w.fence) (unless_parts _ _ _ e).0

allowed : (cfg : Config) (w : World) (k kept : ℕ) → k ≡ suc w.fence → not_now cfg w (Start k kept) ≡ None
unfolding not_now
allowed cfg w k kept e = rw (eq-eqb k (suc w.fence) e) refl

not-allowed : (cfg : Config) (w : World) (k kept : ℕ) → nat_eq k (suc w.fence) ≡ false → not_now cfg w (Start k kept) ≡ Some WrongGeneration
unfolding not_now
not-allowed cfg w k kept e = rw e refl

pub refused : (p : Parts) (k kept : ℕ) → nat_eq k (p.names.fence + 1) ≡ false → (w : World) → Standing p w → RefusesEvent p.config w (Start k kept) (fault.NotNow WrongGeneration)
refused p k kept e w s = refuses-now _ _ (not-allowed p.config w k kept (subst (λ n. nat_eq k n ≡ false) (next s.stores.namespace.fence) e))
  where
    next : {a b : ℕ} → a ≡ b → a + 1 ≡ suc b
    next {a} {b} e = omega arith

sends-none : (cfg : Config) (w : World) (k kept : ℕ) → sent cfg w (Start k kept) ≡ []
unfolding sent
sends-none cfg w k kept = refl

calls-none : (cfg : Config) (w : World) (k kept : ℕ) → call_of cfg w (Start k kept) ≡ None
unfolding call_of
calls-none cfg w k kept = refl

room : (cfg : Config) (w : World) (k kept : ℕ) → Reached cfg w → fits_bag cfg w (Start k kept) ≡ true
room cfg w k kept r = rw (sends-none cfg w k kept) (le-leb _ _ (let b = (small r).bag in omega arith))

pub full : (p : Parts) (k kept : ℕ) → k ≡ p.names.fence + 1 → 1000 < k → (w : World) → Standing p w → RefusesEvent p.config w (Start k kept) fault.Full
full p k kept e l w s = refuses-full _ (allowed p.config w k kept (omega (arith, s.stores.namespace.fence)))
    (within-is p.config w (Start k kept) (calls-none p.config w k kept) (room p.config w k kept s.reached) ∙ lt-leb k 1000 l)

pub taken : (p : Parts) (k kept : ℕ) → k ≡ p.names.fence + 1 → k ≤ 1000 → (w : World) → Standing p w → IsTaken p.config w (Start k kept)
taken p k kept e l w s = record {
  now = allowed p.config w k kept (omega (arith, s.stores.namespace.fence));
  fits = within-is p.config w (Start k kept) (calls-none p.config w k kept) (room p.config w k kept s.reached) ∙ le-leb k 1000 l;
}

-- ---- what stands then

starts : {cfg : Config} {w : World} (k kept : ℕ) → Reached cfg w → not_now cfg w (Start k kept) ≡ None → MasterStarts cfg w k kept
starts {cfg} {w} k kept r = subst (λ u. not_now cfg u (Start k kept) ≡ None → MasterStarts cfg u k kept) r.is (masters_go_on.starts cfg (within cfg) r.events k kept)

now-alive : (b : Bool) (m : master.Master) (o : Option master.Master) (a : Bool) → is_some o ≡ a → is_some (if b then Some m else o) ≡ (b || a)
now-alive true m o a e = refl
now-alive false m o a e = e

masters-begin : (cfg : Config) (w : World) (k kept : ℕ) (old new : Masters) (m : master.Master) → MastersStand cfg old w → MasterStarts cfg w k kept → k ≡ suc w.fence → master.StandsFor m (setting cfg k) []
    → Begins old m new → MastersStand cfg new (effect cfg w (Start k kept))
masters-begin cfg w k kept old new m s st e stands b = record {
  count = b.count ∙ is;
  alive = λ j. ap is_some (kept-at j) ∙ (now-alive (nat_eq j k) m (master_of old j) (w.is_master j) (s.alive j) ∙ sym (st.living j));
  machines = λ j n o. by j n (nat_eq j k) refl (sym (kept-at j) ∙ o);
}
  where
    is : suc (master_count old) ≡ k
    is = ap suc s.count ∙ sym e

    kept-at : (j : ℕ) → master_of new j ≡ (if nat_eq j k then Some m else master_of old j)
    kept-at j = b.kept j ∙ ap (λ i. if nat_eq j i then Some m else master_of old j) is

    by : (j : ℕ) (n : master.Master) (t : Bool) → t ≡ nat_eq j k → (if t then Some m else master_of old j) ≡ Some n → MasterIn cfg (effect cfg w (Start k kept)) j n
    by j n true at o = let same : j ≡ k = eqb-true j k (sym at) in let it : m ≡ n = cc in
        subst (λ i. MasterIn cfg (effect cfg w (Start k kept)) i n) (sym same) (subst (λ h. master.StandsFor n (setting cfg k) (steps h)) (sym st.none) (subst (λ i. master.StandsFor i (setting cfg k) []) it stands))
    by j n false at o = stays-in cfg w (effect cfg w (Start k kept)) j n (st.pasts j) (s.machines j n o)

-- the machine is made for the layout that is kept
for-layout : (cfg : Config) (k : ℕ) (m : master.Master) (l : Layout) (made : Setting) → made ≡ record (setting cfg k) { layout = l } → l.dest ≡ dest → master.StandsFor m made [] → master.StandsFor m (setting cfg k) []
for-layout cfg k m l made e d s = subst (λ x. master.StandsFor m x []) (e ∙ ap (λ x. record (setting cfg k) { layout = record { dest = x } }) d) s

pub stands : (p : Parts) (w : World) (k kept : ℕ) (ns : names.State) (h : history.State) (masters : Masters) (made : Setting) (m : master.Master) → Standing p w → IsTaken p.config w (Start k kept)
    → made ≡ record (setting p.config k) { layout = p.layout } → master.StandsFor m made [] → Begins p.masters m masters → ns ≡ names.raised p.names k
    → h ≡ segments.raised k kept (version_of p.config k) p.history
    → Standing (record p { names = ns; history = h; masters = masters }) (effect p.config w (Start k kept))
stands p w k kept ns h masters made m s t is machine b n e =
    let at = next-generation p.config w k kept t.now in let st = starts k kept s.reached t.now in
    goes-on p w (Start k kept) ns h p.bag masters p.launched s t refl
    (subst (λ x. StoresAt x h) (sym n) (subst (λ x. StoresAt (names.raised p.names k) x) (sym e) (stores_go_on.starts p.config w p.names p.history k kept s.stores t.now (leb-true k 1000 (fits-parts p.config w (Start k kept) t.fits).own))))
    (masters-begin p.config w k kept p.masters masters m s.masters st at (for-layout p.config k m p.layout made is s.dest machine) b)
    (s.launched ∙ sym (launches-same w.master_past (effect p.config w (Start k kept)).master_past st.pasts 1000))
    (silent p w (Start k kept) st.sends)
  where
    StoresAt : names.State → history.State → Type 0
    StoresAt x y = StoresStand x y (effect p.config w (Start k kept))
