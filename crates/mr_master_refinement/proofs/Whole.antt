-- Along a whole past: a machine stands with its master from the start of Running, or its end before that, and acts as it at every point.
use Rattle.std.proofs.Common.{ℕ, ◌≡◌, refl, sym, ◌∙◌, ap, subst, Bool, true, false, List, [], ◌∷◌}
use Rattle.std.proofs.lemmas.Bool.{false≢true, true≢false}
use Rattle.mr_master_model.specs.Readings as read
use Rattle.mr_master_model.specs.Next as next
use Rattle.mr_world_model.specs.Packets.{Config}
use Rattle.mr_world_model.specs.Hearing.{Seen, is_running}
use Rattle.mr_world_model.specs.Duties.{Master_step, Came, Launches, Expires, Asks, seen, next_seen}
use Rattle.mr_world_model.specs.Sending.{step_sends}
use Rattle.mr_world_model.specs.Claims.{has_not_run}
use Rattle.mr_world_model.specs.Calls.{calls}
use Rattle.mr_world_model.specs.Made.{IsMade, AllMade}
use Rattle.mr_master_refinement.specs.Steps.{setting, step_of}
use Rattle.mr_master_refinement.specs.Works.{CanBe, work_at}
use Rattle.mr_master_refinement.specs.Agreement.{machine_seen}
use Rattle.mr_master_refinement.specs.Points.{StandsAt}
use Rattle.mr_master_refinement.specs.Holds.{Holds}
use Rattle.mr_master_refinement.specs.MastersAgree.{MasterAgrees, MastersAgree}
use Rattle.mr_master_refinement.proofs.Early.{Early, young-runs}
use Rattle.mr_master_refinement.proofs.Until.{until, sends-early}
use Rattle.mr_master_refinement.proofs.Points.{point}
use Rattle.mr_master_refinement.proofs.Held.{of-at}
use Rattle.mr_master_refinement.proofs.Starts.{running_begins}
use Rattle.mr_master_refinement.proofs.Ends.{ends-over}
use Rattle.mr_master_refinement.proofs.Stepping.{steps_keep}
use Rattle.mr_master_refinement.proofs.Late.{late_steps_keep}
use Rattle.mr_master_refinement.proofs.Falling.{Falls, running-sound, running-falls-on, late-falls-on}
use Rattle.mr_master_refinement.proofs.Packets.{came-sent}
use Rattle.mr_master_refinement.proofs.Expiries.{expiries_send}
use Rattle.mr_master_refinement.proofs.Wanted.{wanted-at}
use Rattle.mr_master_refinement.proofs.Sent.{asks-sent, launch-sent, idle-sent}

-- ---- where it stands

record Stays (cfg : Config) (k : ℕ) (h : List Master_step) (m : read.Seen) : Type 0 where
  holds : Holds cfg k h m
  falls : Falls cfg k h m

ends-stay : (cfg : Config) (k : ℕ) (h : List Master_step) (x : Master_step) → AllMade cfg k (x ∷ h) → has_not_run (seen cfg k h).phase ≡ true → has_not_run (seen cfg k (x ∷ h)).phase ≡ false →
    is_running (seen cfg k (x ∷ h)).phase ≡ false → Stays cfg k (x ∷ h) (machine_seen cfg k (x ∷ h))
unfolding seen calls
ends-stay cfg k h x made y late idle = let e = ends-over cfg k h x made y late idle in record { holds = of-at cfg k h x (machine_seen cfg k (x ∷ h)) e.at; falls = e.silent }

stays-on : (cfg : Config) (k : ℕ) (h : List Master_step) (x : Master_step) → AllMade cfg k (x ∷ h) → Stays cfg k h (machine_seen cfg k h) → has_not_run (seen cfg k h).phase ≡ false →
    Stays cfg k (x ∷ h) (machine_seen cfg k (x ∷ h))
unfolding next.seen
stays-on cfg k h x made o late = by (is_running (seen cfg k h).phase) refl
  where
    by : (b : Bool) → is_running (seen cfg k h).phase ≡ b → Stays cfg k (x ∷ h) (next.next_seen (setting cfg k) (machine_seen cfg k h) (step_of x))
    by true run = record { holds = steps_keep cfg k h (machine_seen cfg k h) x made o.holds run; falls = running-falls-on cfg k h (machine_seen cfg k h) x made.1 o.holds run }
    by false idle = record { holds = late_steps_keep cfg k h (machine_seen cfg k h) x made o.holds idle late; falls = late-falls-on cfg k h (machine_seen cfg k h) x made o.holds o.falls idle late }

stays : (cfg : Config) (k : ℕ) (h : List Master_step) → AllMade cfg k h → has_not_run (seen cfg k h).phase ≡ false → Stays cfg k h (machine_seen cfg k h)
unfolding seen
stays cfg k [] made late = absurd (true≢false late)
stays cfg k (x ∷ h) made late = by (has_not_run (seen cfg k h).phase) refl (λ q. stays cfg k h made.1 q)
  where
    begins : has_not_run (seen cfg k h).phase ≡ true → (b : Bool) → is_running (next_seen cfg k (seen cfg k h) x).phase ≡ b → Stays cfg k (x ∷ h) (machine_seen cfg k (x ∷ h))
    begins y true run = record { holds = running_begins cfg k h x made y run; falls = λ f. absurd (false≢true (sym (running-sound (next_seen cfg k (seen cfg k h) x).phase run) ∙ f)) }
    begins y false idle = ends-stay cfg k h x made y late idle

    by : (b : Bool) → has_not_run (seen cfg k h).phase ≡ b → (has_not_run (seen cfg k h).phase ≡ false → Stays cfg k h (machine_seen cfg k h)) → Stays cfg k (x ∷ h) (machine_seen cfg k (x ∷ h))
    by true y go = begins y (is_running (next_seen cfg k (seen cfg k h) x).phase) refl
    by false q go = stays-on cfg k h x made (go q) q

-- ---- how it acts

-- until it runs
early-stands : (cfg : Config) (k : ℕ) (h : List Master_step) (m : read.Seen) → Early cfg k (seen cfg k h) m → StandsAt cfg k h m
early-stands cfg k h m o = record {
  work = ap (λ (x : read.Seen). x.work) o.machine-is ∙ ap (λ (s : Seen). work_at k s.phase) (sym o.seen-is);
  can = subst (λ (s : Seen). CanBe s.phase) (sym o.seen-is) o.can;
  due = ap (λ (x : read.Seen). x.due) o.machine-is ∙ ap (λ (s : Seen). s.due) (sym o.seen-is);
  tail = ap (λ (x : read.Seen). x.tail) o.machine-is ∙ ap (λ (s : Seen). s.tail) (sym o.seen-is);
  bars = ap (λ (x : read.Seen). x.bars) o.machine-is ∙ ap (λ (s : Seen). s.bars) (sym o.seen-is);
  tasks = λ run. absurd (false≢true (sym (ap (λ (s : Seen). is_running s.phase) o.seen-is ∙ young-runs o.phase o.young) ∙ run));
}

-- from then on
stays-sends : (cfg : Config) (k : ℕ) (h : List Master_step) (m : read.Seen) → AllMade cfg k h → Stays cfg k h m → has_not_run (seen cfg k h).phase ≡ false → (x : Master_step) → IsMade cfg k (seen cfg k h) x →
    next.sent_by (setting cfg k) m (step_of x) ≡ step_sends cfg (seen cfg k h) (next_seen cfg k (seen cfg k h) x) x
stays-sends cfg k h m made o late (Came p) u = by (is_running (seen cfg k h).phase) refl
  where
    by : (b : Bool) → is_running (seen cfg k h).phase ≡ b → next.sent_by (setting cfg k) m (step_of (Came p)) ≡ step_sends cfg (seen cfg k h) (next_seen cfg k (seen cfg k h) (Came p)) (Came p)
    by true run = came-sent cfg k h m made o.holds run p (u, made)
    by false idle = idle-sent cfg k h m made o.holds idle p
stays-sends cfg k h m made o late (Launches l) u = launch-sent cfg k h m made o.holds u.2 l u
stays-sends cfg k h m made o late (Expires n) u = expiries_send cfg k h m n (u, made) o.holds
stays-sends cfg k h m made o late (Asks call r) u = asks-sent cfg k h m made o.holds o.falls late call r u.0

pub masters_agree : MastersAgree
masters_agree cfg k h made = by (has_not_run (seen cfg k h).phase) refl
  where
    by : (b : Bool) → has_not_run (seen cfg k h).phase ≡ b → MasterAgrees cfg k (seen cfg k h) (machine_seen cfg k h)
    by true y = let o = until cfg k h made y in record {
      point = point cfg k h (machine_seen cfg k h) made (early-stands cfg k h (machine_seen cfg k h) o);
      sends = sends-early cfg k h made y;
      known = ap (λ (x : read.Seen). x.known) o.machine-is ∙ ap (λ (s : Seen). s.known) (sym o.seen-is);
      wanted = wanted-at cfg k h (machine_seen cfg k h) made (early-stands cfg k h (machine_seen cfg k h) o);
    }
    by false late = let o = stays cfg k h made late in record {
      point = point cfg k h (machine_seen cfg k h) made o.holds.stands;
      sends = stays-sends cfg k h (machine_seen cfg k h) made o late;
      known = o.holds.known;
      wanted = wanted-at cfg k h (machine_seen cfg k h) made o.holds.stands;
    }
