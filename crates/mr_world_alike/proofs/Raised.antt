-- In every run the generations that no master was raised to have fresh segments. So worlds of runs whose raised generations have the same segments have the same
-- history.
use Rattle.std.proofs.Common.{ℕ, zero, suc, ◌≤◌, ◌<◌, ◌≡◌, refl, sym, ◌∙◌, ap, arith, Bool, true, false, ◌||◌, not, List, [], Option, Some, None, if◌then◌else◌, nat_eq, nat_lt, nat_le}
use Rattle.std.proofs.lemmas.Bool.{true≢false, and_parts, eqb-true, ne_eqb, ltb-true, lt-ltb, leb-true, leb-false}
use Rattle.mr_world_model.specs.Ids.{Attempt, ContainerId}
use Rattle.mr_world_model.specs.Content.{Op}
use Rattle.mr_world_model.specs.Records.{Segment, History, fresh, sealed, with_segment, sealed_below, whole_in}
use Rattle.mr_world_model.specs.Packets.{Config, Store, Names}
use Rattle.mr_world_model.specs.Hearing.{has}
use Rattle.mr_world_model.specs.World.{World, Event, Start, Crash, Duty, ContainerStep, Weather, Made, opening_world, call_of, duty, duty_made, op_made, op_of, unless_stopped, is_stopped, caller_of, is_applied, segment_left}
use Rattle.mr_world_model.specs.Effect.{not_now, effect, history_called, history_after, fence_after, is_master_after, version_of}
use Rattle.mr_world_model.specs.Claims.{Limits, world_of}
use Rattle.mr_world_model.specs.Results.{outcome}
use Rattle.mr_world_model.proofs.Basic.{along}
use Rattle.mr_world_model.proofs.Grows.{is_started, duty_master, crash_master}
use Rattle.mr_master_refinement.specs.Steps.{setting}
use Rattle.mr_master_refinement.specs.Agreement.{machine_seen}
use Rattle.mr_world_alike.specs.Masters.{SameMasters}
use Rattle.mr_world_alike.specs.Alike.{Alike, OneContainer, OneNode}

-- alike, with the segments of all generations
pub record Same (cfg : Config) (w u : World) : Type 0 where
  pub content : w.content ≡ u.content
  pub fence : w.fence ≡ u.fence
  pub barred : (a : Attempt) → has w.barred a ≡ has u.barred a
  pub history : (j : ℕ) → w.history j ≡ u.history j
  pub is_master : (k : ℕ) → w.is_master k ≡ u.is_master k
  pub masters : (k : ℕ) → w.is_master k ≡ true → SameMasters (setting cfg k) (machine_seen cfg k (w.master_past k)) (machine_seen cfg k (u.master_past k))
  pub is_alive : (c : ContainerId) → w.is_alive c ≡ u.is_alive c
  pub containers : (c : ContainerId) → w.is_alive c ≡ true → OneContainer cfg w u c
  pub nodes : (n : ℕ) → nat_lt n cfg.nodes ≡ true → OneNode cfg w u n
  pub told : outcome w ≡ outcome u

pub to-alike : (cfg : Config) (w u : World) → Same cfg w u → Alike cfg w u
to-alike cfg w u e = record {
  content = e.content;
  fence = e.fence;
  barred = e.barred;
  history = λ j a b. e.history j;
  is_master = e.is_master;
  masters = e.masters;
  is_alive = e.is_alive;
  containers = e.containers;
  nodes = e.nodes;
  told = e.told;
}

-- ---- segments that nobody was raised to

-- a segment with no record
abbrev ground : Bool → Segment
ground b = record { version = 1; stable = []; tail = []; is_sealed = b }

sealed-ground : (kept : ℕ) (b : Bool) → sealed kept (ground b) ≡ ground true
unfolding whole_in
sealed-ground kept true = refl
sealed-ground kept false = refl

pub record Raised (w : World) : Type 0 where
  pub living : (k : ℕ) → w.is_master k ≡ true → (1 ≤ k) × (k ≤ w.fence)
  pub above : (j : ℕ) → w.fence < j → w.history j ≡ fresh
  pub nobody : w.history 0 ≡ ground (nat_lt 0 w.fence)

segment-else : (h : History) (k j : ℕ) (s : Segment) → (j ≡ k → ⊥) → with_segment h k s j ≡ h j
segment-else h k j s apart = ap (λ b. if b then s else h j) (ne_eqb j k apart)

made-else : (w : World) (m : Made) (j : ℕ) → (j ≡ m.app → ⊥) → history_called w (Some m) j ≡ w.history j
made-else w m j apart = by (is_applied w m.app m.fault)
  where
    by : (b : Bool) → (if b then with_segment w.history m.app (segment_left (w.history m.app) m.call) else w.history) j ≡ w.history j
    by true = segment-else w.history m.app j (segment_left (w.history m.app) m.call) apart
    by false = refl

-- a call of the namespace leaves every segment
names-else : (w : World) (k : ℕ) (f : Weather) (op : Op) (j : ℕ) → history_called w (Some (record { app = k; call = Names op; fault = f })) j ≡ w.history j
names-else w k f op j = by (is_applied w k f)
  where
    at : (b : Bool) → nat_eq j k ≡ b → (if b then w.history k else w.history j) ≡ w.history j
    at true e = ap (λ n. w.history n) (sym (eqb-true j k e))
    at false e = refl

    by : (b : Bool) → (if b then with_segment w.history k (w.history k) else w.history) j ≡ w.history j
    by true = at (nat_eq j k) refl
    by false = refl

abbrev starts : Event → Bool
starts (Start k kept) = true
starts _ = false

module _ (cfg : Config) (w : World) (o : Raised w) where
  -- no event but a start changes the segment of a generation that nobody was raised to
  step-history : (x : Event) → starts x ≡ false → not_now cfg w x ≡ None → (j : ℕ) → ((k : ℕ) → 1 ≤ k → k ≤ w.fence → j ≡ k → ⊥) → history_after cfg w x (call_of cfg w x) j ≡ w.history j
  unfolding call_of
  step-history (Start k kept) s now j out = absurd (true≢false s)
  step-history (Crash k kept) s now j out = let at = o.living k (crash_master cfg w k kept now) in segment-else w.history k j (sealed kept (w.history k)) (λ e. out k at.0 at.1 e)
  step-history (Duty k f) s now j out = by (duty cfg w k)
    where
      by : (d : Option Store) → history_called w (duty_made k f d) j ≡ w.history j
      by None = refl
      by (Some call) = let at = o.living k (duty_master cfg w k f now) in made-else w (record { app = k; call = call; fault = f }) j (λ e. out k at.0 at.1 e)
  step-history (ContainerStep c f) s now j out = by (is_stopped w (caller_of w c)) (op_of cfg w c)
    where
      by : (b : Bool) (d : Option Op) → history_called w (unless_stopped b (op_made c.app f d)) j ≡ w.history j
      by true d = refl
      by false None = refl
      by false (Some op) = names-else w c.app f op j
  step-history _ s now j out = refl

  step-fence : (x : Event) → starts x ≡ false → fence_after w x ≡ w.fence
  step-fence (Start k kept) s = absurd (true≢false s)
  step-fence _ s = refl

  step-living : (x : Event) → starts x ≡ false → (j : ℕ) → is_master_after w x j ≡ true → w.is_master j ≡ true
  step-living (Start k kept) s j t = absurd (true≢false s)
  step-living (Crash k kept) s j t = let both = and_parts (not (nat_eq j k)) (w.is_master j) t in both.1
  step-living _ s j t = t

  raised-else : (x : Event) → starts x ≡ false → not_now cfg w x ≡ None → Raised (effect cfg w x)
  raised-else x s now =
      let f = step-fence x s in
      record {
        living = λ k t. let at = o.living k (step-living x s k t) in let l = at.1 in (at.0, omega (arith, l, f));
        above = λ j l. step-history x s now j (λ k a b e. omega (arith, l, f, a, b, e)) ∙ o.above j (omega (arith, l, f));
        nobody = step-history x s now 0 (λ k a b e. omega (arith, a, e)) ∙ (o.nobody ∙ ap (λ n. ground (nat_lt 0 n)) (sym f));
      }

  raised-start : (k kept : ℕ) → not_now cfg w (Start k kept) ≡ None → Raised (effect cfg w (Start k kept))
  raised-start k kept now = record {
    living = λ j t. living j (nat_eq j k) refl t;
    above = λ j l. segment-else (sealed_below k kept w.history) k j (record (sealed_below k kept w.history k) { version = version_of cfg k }) (λ e. omega (arith, l, e)) ∙ beyond j l (nat_lt j k) refl;
    nobody = segment-else (sealed_below k kept w.history) k 0 (record (sealed_below k kept w.history k) { version = version_of cfg k }) (λ e. omega (arith, next, e))
        ∙ (ap (λ b. if b then sealed kept (w.history 0) else w.history 0) begun ∙ (ap (λ (z : Segment). sealed kept z) o.nobody ∙ (sealed-ground kept (nat_lt 0 w.fence) ∙ ap (λ b. ground b) (sym begun))));
  }
    where
      next : k ≡ suc w.fence
      next = is_started cfg w k kept now

      begun : nat_lt 0 k ≡ true
      begun = lt-ltb 0 k (omega (arith, next))

      living : (j : ℕ) (b : Bool) → nat_eq j k ≡ b → (nat_eq j k || w.is_master j) ≡ true → (1 ≤ j) × (j ≤ k)
      living j true e t = let q = eqb-true j k e in (omega (arith, q, next), omega (arith, q))
      living j false e t = let at = o.living j (sym (ap (λ b. b || w.is_master j) e) ∙ t) in let l = at.1 in (at.0, omega (arith, l, next))

      beyond : (j : ℕ) → k < j → (b : Bool) → nat_lt j k ≡ b → (if nat_lt j k then sealed kept (w.history j) else w.history j) ≡ fresh
      beyond j l true e = let m = ltb-true j k e in absurd (omega (arith, l, m))
      beyond j l false e = ap (λ b. if b then sealed kept (w.history j) else w.history j) e ∙ o.above j (omega (arith, l, next))

raised-step : (cfg : Config) (w : World) (x : Event) → Raised w → not_now cfg w x ≡ None → Raised (effect cfg w x)
raised-step cfg w (Start k kept) o now = raised-start cfg w o k kept now
raised-step cfg w x o now = raised-else cfg w o x refl now

pub always-raised : (cfg : Config) (within : Limits) (es : List Event) → Raised (world_of cfg within es)
always-raised cfg within es = along Raised cfg within (raised-step cfg) opening_world es (record { living = λ k t. absurd (true≢false (sym t)); above = λ j l. refl; nobody = refl })

pub to-same : (cfg : Config) (within : Limits) (es fs : List Event) → Alike cfg (world_of cfg within es) (world_of cfg within fs) → Same cfg (world_of cfg within es) (world_of cfg within fs)
to-same cfg within es fs e = record {
  content = e.content;
  fence = e.fence;
  barred = e.barred;
  history = all;
  is_master = e.is_master;
  masters = e.masters;
  is_alive = e.is_alive;
  containers = e.containers;
  nodes = e.nodes;
  told = e.told;
}
  where
    a : Raised (world_of cfg within es)
    a = always-raised cfg within es

    b : Raised (world_of cfg within fs)
    b = always-raised cfg within fs

    by : (j : ℕ) → 1 ≤ j → (c : Bool) → nat_le j (world_of cfg within es).fence ≡ c → (world_of cfg within es).history j ≡ (world_of cfg within fs).history j
    by j l true c = e.history j l (leb-true j (world_of cfg within es).fence c)
    by j l false c =
        let m = leb-false j (world_of cfg within es).fence c in
        let q = e.fence in
        a.above j m ∙ sym (b.above j (omega (arith, m, q)))

    all : (j : ℕ) → (world_of cfg within es).history j ≡ (world_of cfg within fs).history j
    all zero = a.nobody ∙ (ap (λ n. ground (nat_lt 0 n)) e.fence ∙ sym b.nobody)
    all (suc n) = by (suc n) (omega arith) (nat_le (suc n) (world_of cfg within es).fence) refl
