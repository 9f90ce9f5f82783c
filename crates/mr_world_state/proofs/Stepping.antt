-- A master takes a step: its machine stands for one step more, all others as before.
use Rattle.std.proofs.Common.{◌≡◌, ◌≤◌, ◌<◌, ℕ, zero, suc, ◌+◌, refl, sym, ◌∙◌, ap, subst, Bool, true, false, List, [], ◌∷◌, Option, Some, if◌then◌else◌, is_some, nat_eq, arith}
use Rattle.std.proofs.lemmas.Bool.{eqb-true}
use Rattle.std.proofs.lemmas.Bool.Decides.{nat_tests}
use Rattle.mr_master_model.specs.Past as machine
use Rattle.mr_master.specs.State as master
use Rattle.mr_world_model.specs.Packets.{Config}
use Rattle.mr_world_model.specs.Hearing.{Launched}
use Rattle.mr_world_model.specs.Duties.{Master_step, Launches}
use Rattle.mr_world_model.specs.World.{World, Event, seen_by}
use Rattle.mr_world_model.specs.Effect.{effect}
use Rattle.mr_world_model.specs.Claims.{world_of}
use Rattle.mr_world_model.proofs.Made.{pasts_are_made}
use Rattle.mr_master_refinement.specs.Steps.{setting, step_of, steps}
use Rattle.mr_master_refinement.specs.Agreement.{machine_seen}
use Rattle.mr_master_refinement.specs.MastersAgree.{MasterAgrees}
use Rattle.mr_master_refinement.specs.Stores.{MasterMoves}
use Rattle.mr_master_refinement.proofs.Whole.{masters_agree}
use Rattle.mr_world_state.specs.declared.masters.Masters.{Masters}
use Rattle.mr_world_state.specs.Machines.{master_of}
use Rattle.mr_world_state.specs.inner.Masters.{Returns}
use Rattle.mr_world_state.specs.Limits.{within, launches_in, launches_of}
use Rattle.mr_world_state.specs.Standing.{Reached, MastersStand, MasterIn}
use Rattle.mr_world_state.proofs.Mastering.{stays-in}

-- ---- in every world that is reached a master acts as its machine

pub agrees : {cfg : Config} {w : World} (k : ℕ) → Reached cfg w → MasterAgrees cfg k (seen_by cfg w k) (machine_seen cfg k (w.master_past k))
agrees {cfg} {w} k r = subst (λ (u : World). MasterAgrees cfg k (seen_by cfg u k) (machine_seen cfg k (u.master_past k))) r.is
    (masters_agree cfg k ((world_of cfg (within cfg) r.events).master_past k) (pasts_are_made.made cfg (within cfg) r.events k))

alive-still : (b : Bool) (m : master.Master) (o : Option master.Master) → (b ≡ true → is_some o ≡ true) → is_some (if b then Some m else o) ≡ is_some o
alive-still true m o e = sym (e refl)
alive-still false m o e = refl

there : (old : Masters) (k j : ℕ) (before : master.Master) → master_of old k ≡ Some before → nat_eq j k ≡ true → is_some (master_of old j) ≡ true
there old k j before at e = ap (λ i. is_some (master_of old i)) (eqb-true j k e) ∙ ap is_some at

other : (j k : ℕ) → false ≡ nat_eq j k → j ≡ k → ⊥
other j k e is = grind (arith, nat_tests)

-- from one world to another: of this master by its machine, of the others as before
pub masters-with : (cfg : Config) (w u : World) (old new : Masters) (k : ℕ) (before m : master.Master) → MastersStand cfg old w → master_of old k ≡ Some before → Returns old k m new
    → u.fence ≡ w.fence → ((j : ℕ) → u.is_master j ≡ w.is_master j) → ((j : ℕ) → (j ≡ k → ⊥) → u.master_past j ≡ w.master_past j) → (MasterIn cfg w k before → MasterIn cfg u k m) → MastersStand cfg new u
masters-with cfg w u old new k before m s at p fence living others now = record {
  count = p.count ∙ (s.count ∙ sym fence);
  alive = λ j. ap is_some (p.kept j) ∙ (alive-still (nat_eq j k) m (master_of old j) (there old k j before at) ∙ (s.alive j ∙ sym (living j)));
  machines = λ j n o. by j n (nat_eq j k) refl (sym (p.kept j) ∙ o);
}
  where
    by : (j : ℕ) (n : master.Master) (t : Bool) → t ≡ nat_eq j k → (if t then Some m else master_of old j) ≡ Some n → MasterIn cfg u j n
    by j n true e o = let same : j ≡ k = eqb-true j k (sym e) in let it : m ≡ n = cc in
        subst (λ i. MasterIn cfg u i n) (sym same) (subst (λ x. MasterIn cfg u k x) it (now (s.machines k before at)))
    by j n false e o = stays-in cfg w u j n (others j (other j k e)) (s.machines j n o)

-- the master took the step x
pub masters-step : (cfg : Config) (w : World) (e : Event) (k : ℕ) (x : Master_step) (old new : Masters) (before m : master.Master) → MastersStand cfg old w → master_of old k ≡ Some before → Returns old k m new
    → (effect cfg w e).fence ≡ w.fence → MasterMoves cfg w e k x → master.Stands before (step_of x) m → MastersStand cfg new (effect cfg w e)
masters-step cfg w e k x old new before m s at p fence moves stands = masters-with cfg w (effect cfg w e) old new k before m s at p fence moves.living moves.others
    (λ b. subst (λ h. master.StandsFor m (setting cfg k) h) (sym moves.now) (stands (setting cfg k) (steps (w.master_past k)) b))

-- it took none
pub masters-still : (cfg : Config) (w : World) (old new : Masters) (k : ℕ) (before m : master.Master) → MastersStand cfg old w → master_of old k ≡ Some before → Returns old k m new
    → master.StandsStill before m → MastersStand cfg new w
masters-still cfg w old new k before m s at p still = masters-with cfg w w old new k before m s at p refl (λ j. refl) (λ j n. refl) (still (setting cfg k) (steps (w.master_past k)))

-- ---- how many containers were launched

abbrev launches-told : List machine.Step → ℕ
launches-told [] = 0
launches-told (machine.Launches t n ∷ h) = suc (launches-told h)
launches-told (_ ∷ h) = launches-told h

told-is : (past : List Master_step) → launches_in past ≡ launches-told (steps past)
told-is [] = refl
told-is (Launches l ∷ past) = ap suc (told-is past)
told-is (_ ∷ past) = told-is past

pub launches-now : {cfg : Config} {w : World} {e : Event} {k : ℕ} {x : Master_step} → MasterMoves cfg w e k x → launches_in ((effect cfg w e).master_past k) ≡ launches-told (step_of x ∷ steps (w.master_past k))
launches-now {cfg} {w} {e} {k} {x} moves = told-is ((effect cfg w e).master_past k) ∙ ap launches-told moves.now

pub one-launch : {cfg : Config} {w : World} {e : Event} {k : ℕ} {l : Launched} → MasterMoves cfg w e k (Launches l) → launches_in ((effect cfg w e).master_past k) ≡ 1 + launches_in (w.master_past k)
one-launch {cfg} {w} {e} {k} {l} moves = let one = launches-now moves in let so : launches_in ((effect cfg w e).master_past k) ≡ suc (launches_in (w.master_past k)) = one ∙ ap suc (sym (told-is (w.master_past k))) in omega (arith, so)

-- by a step that is no launch
abbrev pub launches-none : machine.Step → Bool
launches-none (machine.Launches t n) = false
launches-none _ = true

none-told : (x : machine.Step) (h : List machine.Step) → launches-none x ≡ true → launches-told (x ∷ h) ≡ launches-told h
none-told (machine.Launches t n) h e = cc
none-told _ h e = refl

pub other-steps : {cfg : Config} {w : World} {e : Event} {k : ℕ} {x : Master_step} → MasterMoves cfg w e k x → launches-none (step_of x) ≡ true → launches_in ((effect cfg w e).master_past k) ≡ 0 + launches_in (w.master_past k)
other-steps {cfg} {w} {e} {k} {x} moves none = let so : launches_in ((effect cfg w e).master_past k) ≡ launches_in (w.master_past k) = launches-now moves ∙ (none-told (step_of x) (steps (w.master_past k)) none ∙ sym (told-is (w.master_past k))) in omega (arith, so)

-- of the generations below k, and from k on
below : (f g : ℕ → List Master_step) (k : ℕ) → ((j : ℕ) → (j ≡ k → ⊥) → g j ≡ f j) → (n : ℕ) → n < k → launches_of g n ≡ launches_of f n
unfolding launches_of
below f g k same zero l = refl
below f g k same (suc n) l = let e = below f g k same n (omega arith) in let o = ap launches_in (same (suc n) (λ e. omega arith)) in omega (arith, e, o)

one-generation : (f g : ℕ → List Master_step) (k m n : ℕ) → ((j : ℕ) → (j ≡ k → ⊥) → g j ≡ f j) → launches_in (g k) ≡ m + launches_in (f k) → k ≤ suc n → (k ≤ n → launches_of g n ≡ m + launches_of f n)
    → (t : Bool) → t ≡ nat_eq (suc n) k → launches_of g n + launches_in (g (suc n)) ≡ m + (launches_of f n + launches_in (f (suc n)))
one-generation f g k m n same more l rest true e = let is : suc n ≡ k = eqb-true (suc n) k (sym e) in let b = below f g k same n (omega arith) in
    let o : launches_in (g (suc n)) ≡ m + launches_in (f (suc n)) = subst (λ i. launches_in (g i) ≡ m + launches_in (f i)) (sym is) more in omega (arith, b, o)
one-generation f g k m n same more l rest false e = let not-it : suc n ≡ k → ⊥ = other (suc n) k e in let b = rest (under n k not-it l) in let o = ap launches_in (same (suc n) not-it) in omega (arith, b, o)
  where
    under : (n k : ℕ) → (suc n ≡ k → ⊥) → k ≤ suc n → k ≤ n
    under n k ne l = grind (arith, ne)

pub launches-add : (f g : ℕ → List Master_step) (k m : ℕ) → 1 ≤ k → ((j : ℕ) → (j ≡ k → ⊥) → g j ≡ f j) → launches_in (g k) ≡ m + launches_in (f k) → (n : ℕ) → k ≤ n → launches_of g n ≡ m + launches_of f n
unfolding launches_of
launches-add f g k m first same more zero l = absurd (omega arith)
launches-add f g k m first same more (suc n) l = one-generation f g k m n same more l (λ r. launches-add f g k m first same more n r) (nat_eq (suc n) k) refl
