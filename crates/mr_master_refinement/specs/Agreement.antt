-- What is read off a master's past in the cluster is what is read off the same past of its machine. Our own: it ties two sets of definitions.
use Rattle.std.specs.Prelude.{◌≡◌, ℕ, true, List, map, Some}
use Rattle.std.specs.List.{find}
use Rattle.mr_master_model.specs.Job.{all_reduces}
use Rattle.mr_master_model.specs.Past as machine
use Rattle.mr_master_model.specs.Readings as read
use Rattle.mr_master_model.specs.Readings.{all_succeeded, is_live}
use Rattle.mr_master_model.specs.Duty.{duty, duty_at}
use Rattle.mr_master_model.specs.Answered.{winners, work_after}
use Rattle.mr_master_model.specs.Next as next
use Rattle.mr_world_model.specs.Packets.{Config, Store, Reply}
use Rattle.mr_world_model.specs.Hearing.{Seen, Phase, Setting_up, is_running}
use Rattle.mr_world_model.specs.Duties.{Master_step, duty_of, first_bar, all_won, phase_told}
use Rattle.mr_master_refinement.specs.Steps.{setting, steps, answer_of}
use Rattle.mr_master_refinement.specs.Works.{CanBe, phase_of, winner_of, work_at, named}

-- ---- at any point, reachable or not

-- what Running and Failing rest on
pub record Rests (cfg : Config) (k : ℕ) (s : Seen) (m : read.Seen) : Type 0 where
  pub bars : find (is_live (setting cfg k) m) m.bars ≡ first_bar s s.bars
  pub won : all_succeeded (setting cfg k) m (all_reduces (setting cfg k)) ≡ all_won s.recorded s.winners cfg.job cfg.reduces

abbrev pub NeedsRests : Config → ℕ → Seen → read.Seen → Phase → Type 0
NeedsRests cfg k s m p = is_running p ≡ true → Rests cfg k s m

abbrev pub SetUp : Config → ℕ → Seen → read.Seen → Phase → Type 0
SetUp cfg k s m Setting_up = winners (setting cfg k) m ≡ map winner_of s.winners
SetUp cfg k s m _ = Unit {0}

-- Of a phase that a master can be in: what its machine is at is of the same phase. The machine's next store call is the master's, if the records that are
-- due and in the tail are. An answer leads to what the master's phase is then.
pub record TurnsAgree : Type 0 where
  pub phases : (k : ℕ) (p : Phase) → CanBe p → machine.phase_of (work_at k p) ≡ phase_of p
  pub duties : (cfg : Config) (k : ℕ) (s : Seen) (m : read.Seen) (p : Phase) → CanBe p → m.due ≡ s.due → m.tail ≡ s.tail → NeedsRests cfg k s m p
      → duty_at (setting cfg k) m (work_at k p) ≡ named p (duty_of cfg k s p)
  pub answers : (cfg : Config) (k : ℕ) (s : Seen) (m : read.Seen) (p : Phase) (call : Store) (r : Reply) → CanBe p → SetUp cfg k s m p → m.tail ≡ s.tail
      → duty_of cfg k s p ≡ Some call → duty (setting cfg k) m ≡ named p (Some call) → work_after (setting cfg k) m (answer_of call r) (work_at k p) ≡ work_at k (phase_told k s p call r)
  pub stays : (k : ℕ) (s : Seen) (p : Phase) (call : Store) (r : Reply) → CanBe p → CanBe (phase_told k s p call r)

-- ---- along a past

-- what the machine has seen
abbrev pub machine_seen : Config → ℕ → List Master_step → read.Seen
machine_seen cfg k past = next.seen (setting cfg k) (steps past)
