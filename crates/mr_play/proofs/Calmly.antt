-- A calm, an event at a time.
use Rattle.std.proofs.Common.{◌≡◌, ◌+◌, ◌-◌, ◌<◌, ◌≤◌, ℕ, suc, Bool, true, false, cond, Option, Some, None, Result, Ok, Err, refl, sym, ap, subst, ◌∙◌, arith}
use Rattle.mr_world_model.specs.Packets.{Config}
use Rattle.mr_script.specs.declared.event_name.EventName.{EventName}
use Rattle.mr_world.specs.Limits.{within}
use Rattle.mr_play.specs.declared.calm.Coming.{Coming}
use Rattle.mr_play.specs.declared.calm.Coming.TheVariants as coming
use Rattle.mr_play.specs.declared.fault.PlayerFault.{PlayerFault}
use Rattle.mr_play.specs.declared.fault.PlayerFault.TheVariants as fault
use Rattle.mr_play.specs.declared.player.Player.{Player}
use Rattle.mr_sim_commands.specs.declared.job.submission.JobKind.{JobKind}
use Rattle.mr_play.specs.EventNames.{stops_at}
use Rattle.mr_play.specs.Text.{job_as}
use Rattle.mr_play.specs.Played.{calmed_by, calms, cursor_at, is_through, most_calm, next_of}
use Rattle.mr_play.specs.Players.{calm_of, cluster_in, made_then, names_of, next_in, state_in, CalmsOnce, FullWhere, MakesNext, Reaches, SameJob}

names_are : (p : Player) (k : ℕ) (c : Coming) → (next_in p k c).names ≡ names_of c
names_are p k coming.Deliver = refl
names_are p k (coming.Duty d) = refl
names_are p k (coming.Launch t) = refl
names_are p k (coming.Step c n) = refl
names_are p k (coming.Compute c) = refl

pub full_then : (f : PlayerFault) (P Q : Type 0) → (P → Q) → FullWhere f P → FullWhere f Q
full_then fault.NoMemory P Q go h = tt
full_then fault.Full P Q go h = go h

module _ (old : Player) (k : ℕ) (stop : Option EventName) (on : is_through old.world.config (cluster_in old) k ≡ false) where
  abbrev mid : Player
  mid = record old { cursor = cursor_at (cluster_in old) old.dropped.keys old.cursor }

  -- a calm of one event more looks at what is next
  one_more : (most : ℕ) → calm_of old k stop (suc most) ≡
      calmed_by (job_as old.job) old.world.config (within old.world.config) stop (calms (job_as old.job) old.world.config (within old.world.config) k stop most) (state_in mid)
      (next_of (job_as old.job) old.world.config (within old.world.config) (cluster_in old) k old.stepped (cursor_at (cluster_in old) old.dropped.keys old.cursor))
  one_more most = rw on refl

  goes : (c : Coming) → Some (next_in mid k c) ≡ next_of (job_as old.job) old.world.config (within old.world.config) (cluster_in old) k old.stepped (cursor_at (cluster_in old) old.dropped.keys old.cursor) →
      stops_at stop (names_of c) ≡ false → (most : ℕ) → calm_of old k stop (suc most) ≡ made_then mid (next_in mid k c) (calms (job_as old.job) old.world.config (within old.world.config) k stop most)
  goes c is more most =
      let w = cluster_in old in
      one_more most
      ∙ ap (calmed_by (job_as old.job) old.world.config (within old.world.config) stop (calms (job_as old.job) old.world.config (within old.world.config) k stop most) (state_in mid)) (sym is)
      ∙ ap (λ b. cond b (Some (state_in mid)) (made_then mid (next_in mid k c) (calms (job_as old.job) old.world.config (within old.world.config) k stop most))) (ap (stops_at stop) (names_are mid k c) ∙ more)

  same_calm : (new : Player) (most : ℕ) → SameJob mid new → calms (job_as old.job) old.world.config (within old.world.config) k stop most (state_in new) ≡ calm_of new k stop most
  same_calm new most same = ap (λ (j : JobKind). calms (job_as j) old.world.config (within old.world.config) k stop most (state_in new)) (sym same.job)
      ∙ ap (λ (cfg : Config). calms (job_as new.job) cfg (within cfg) k stop most (state_in new)) (sym same.config)

  pub calmed_once : (m new : Player) (c : Coming) (r : Result Bool PlayerFault) → m ≡ mid →
      (is_through m.world.config (cluster_in m) k ≡ false → Some (next_in m k c) ≡ next_of (job_as m.job) m.world.config (within m.world.config) (cluster_in m) k m.stepped m.cursor) →
      stops_at stop (names_of c) ≡ false → MakesNext m (next_in m k c) r new → CalmsOnce old k stop r new
  calmed_once m new c r e is more h = by r (goes c (subst (λ (m : Player). is_through m.world.config (cluster_in m) k ≡ false → Some (next_in m k c) ≡ next_of (job_as m.job) m.world.config (within m.world.config) (cluster_in m) k m.stepped m.cursor) e is on) more)
      (subst (λ (m : Player). MakesNext m (next_in m k c) r new) e h) where
        by : (r : Result Bool PlayerFault) → ((most : ℕ) → calm_of old k stop (suc most) ≡ made_then mid (next_in mid k c) (calms (job_as old.job) old.world.config (within old.world.config) k stop most)) →
            MakesNext mid (next_in mid k c) r new → CalmsOnce old k stop r new
        by (Ok true) go h = (record { job = h.0.job; config = h.0.config; noted = h.0.noted }, λ most. go most ∙ h.1 (calms (job_as old.job) old.world.config (within old.world.config) k stop most) ∙ same_calm new most h.0)
        by (Ok false) go h = (record { job = h.0.job; config = h.0.config; noted = h.0.noted }, λ most. go most ∙ h.1 (calms (job_as old.job) old.world.config (within old.world.config) k stop most))
        by (Err f) go h = full_then f _ _ (λ all most. go most ∙ all (calms (job_as old.job) old.world.config (within old.world.config) k stop most)) h

-- ---- a whole calm

pub most_is : most_calm ≡ 10000
unfolding most_calm
most_is = refl

-- of a calm that began at one player so many events were made, and another player is where they led
pub record Left (begin now : Player) (k : ℕ) (stop : Option EventName) (total made : ℕ) : Type 0 where
  pub same : SameJob begin now
  pub few : made ≤ total
  pub left : (most : ℕ) → made + most ≡ total → calm_of begin k stop total ≡ calm_of now k stop most

pub none_made : (p : Player) (k : ℕ) (stop : Option EventName) (total : ℕ) → Left p p k stop total 0
none_made p k stop total = record { same = record { job = refl; config = refl; noted = refl }; few = omega arith; left = λ most e. ap (calm_of p k stop) (let z : total ≡ most = omega (arith, e) in z) }

module _ (begin now new : Player) (k : ℕ) (stop : Option EventName) (total made : ℕ) (l : Left begin now k stop total made) where
  all_is : made < total → (most : ℕ) → suc (made + most) ≡ total → calm_of begin k stop total ≡ calm_of now k stop (suc most)
  all_is few most e = l.left (suc most) (omega (arith, e))

  rest : made < total → (most : ℕ) × (suc (made + most) ≡ total)
  rest few = (total - suc made, omega (arith, few))

  both : SameJob now new → SameJob begin new
  both same = record { job = same.job ∙ l.same.job; config = same.config ∙ l.same.config; noted = same.noted ∙ l.same.noted }

  pub one_made : made < total → CalmsOnce now k stop (Ok true) new → Left begin new k stop total (made + 1)
  one_made few h = record { same = both h.0; few = omega (arith, few); left = λ most e. all_is few most (omega (arith, e)) ∙ h.1 most }

  pub ended : made < total → CalmsOnce now k stop (Ok false) new → Reaches begin (calm_of begin k stop total) new
  ended few h = let r = rest few in record { same = both h.0; state = all_is few r.0 r.1 ∙ h.1 r.0 }

  pub failed : made < total → (f : PlayerFault) → CalmsOnce now k stop (Err f) new → FullWhere f (calm_of begin k stop total ≡ None)
  failed few f h = let r = rest few in full_then f _ _ (λ all. all_is few r.0 r.1 ∙ all r.0) h

  pub all_made : total ≤ made → Reaches begin (calm_of begin k stop total) now
  all_made many = let z : made + 0 ≡ total = omega (arith, many, l.few) in record { same = l.same; state = l.left 0 z }
