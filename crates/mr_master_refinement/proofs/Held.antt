-- What is held, of what was seen and told: how a call to one task, and a packet, carry it.
use Rattle.std.proofs.Common.{ℕ, ◌≡◌, sym, ◌∙◌, ap, subst, Bool, true, false, List, [], ◌∷◌, if◌then◌else◌}
use Rattle.mr_ids.specs.Attempt.{Attempt}
use Rattle.mr_ids.specs.Same.{same_task}
use Rattle.mr_ids.specs.declared.id.TaskId.{TaskId}
use Rattle.mr_packet.specs.declared.packet.Packet.{Packet}
use Rattle.mr_task.specs.Calls.{TaskCall}
use Rattle.mr_task.specs.Readings as task
use Rattle.mr_master_model.specs.declared.setting.Setting.{Setting}
use Rattle.mr_master_model.specs.Job as job
use Rattle.mr_master_model.specs.Readings as read
use Rattle.mr_master_model.specs.Hearing as hears
use Rattle.mr_master_model.specs.Sends as sends
use Rattle.mr_master_model.specs.Sends.{killed_by}
use Rattle.mr_master_model.specs.Next as next
use Rattle.mr_world_model.specs.Ids.{task_eq}
use Rattle.mr_world_model.specs.Packets.{Config}
use Rattle.mr_world_model.specs.Hearing.{Seen, is_running, has_container, heard, only_known}
use Rattle.mr_world_model.specs.Duties.{Master_step, Came, seen, next_seen}
use Rattle.mr_world_model.specs.Calls.{Calls, calls, next_calls, calls_heard, tell}
use Rattle.mr_master_refinement.specs.Steps.{setting, step_of}
use Rattle.mr_master_refinement.specs.Works.{CanBe, work_at}
use Rattle.mr_master_refinement.specs.Points.{Alike, in_order}
use Rattle.mr_master_refinement.specs.Holds.{Holds}
use Rattle.mr_master_refinement.proofs.Works.{runs-is}
use Rattle.mr_master_refinement.proofs.Early.{same_sym}
use Rattle.mr_master_refinement.proofs.Alike.{alike-next}

-- ---- what is held, of what was seen and told

pub record At (cfg : Config) (k : ℕ) (s : Seen) (c : Calls) (m : read.Seen) : Type 0 where
  pub work : m.work ≡ work_at k s.phase
  pub can : CanBe s.phase
  pub due : m.due ≡ s.due
  pub tail : m.tail ≡ s.tail
  pub bars : m.bars ≡ s.bars
  pub tasks : is_running s.phase ≡ true → (t : TaskId) → job.is_task (setting cfg k) t ≡ true → Alike (task.seen t k (c t)) (task.seen t k (m.calls t))
  pub launched : m.launched ≡ in_order s.launched
  pub known : m.known ≡ s.known
  pub earlier : m.earlier ≡ s.history
  pub killed : is_running s.phase ≡ true → (n : ℕ) → m.killed n ≡ has_container s.killed (record { app = k; number = n })

pub at-of : (cfg : Config) (k : ℕ) (h : List Master_step) (m : read.Seen) → Holds cfg k h m → At cfg k (seen cfg k h) (calls cfg k h) m
at-of cfg k h m o = record {
  work = o.stands.work;
  can = o.stands.can;
  due = o.stands.due;
  tail = o.stands.tail;
  bars = o.stands.bars;
  tasks = o.stands.tasks;
  launched = o.launched;
  known = o.known;
  earlier = o.earlier;
  killed = o.killed;
}

pub of-at : (cfg : Config) (k : ℕ) (h : List Master_step) (x : Master_step) (m : read.Seen) → At cfg k (next_seen cfg k (seen cfg k h) x) (next_calls cfg k (seen cfg k h) x (calls cfg k h)) m → Holds cfg k (x ∷ h) m
unfolding seen calls
of-at cfg k h x m o = record {
  stands = record {
    work = o.work;
    can = o.can;
    due = o.due;
    tail = o.tail;
    bars = o.bars;
    tasks = o.tasks;
  };
  launched = o.launched;
  known = o.known;
  earlier = o.earlier;
  killed = o.killed;
}

-- ---- both tell one task the same

pub told-same : (k : ℕ) (t u : TaskId) (call : TaskCall) (c d : List TaskCall) → Alike (task.seen u k c) (task.seen u k d) →
    Alike (task.seen u k (if task_eq t u then call ∷ c else c)) (task.seen u k (if same_task u t then call ∷ d else d))
unfolding task.seen
told-same k t u call c d o = subst (λ b. Alike (task.seen u k (if task_eq t u then call ∷ c else c)) (task.seen u k (if b then call ∷ d else d))) (sym (same_sym u t)) (by (task_eq t u))
  where
    by : (b : Bool) → Alike (task.seen u k (if b then call ∷ c else c)) (task.seen u k (if b then call ∷ d else d))
    by true = alike-next u k (task.seen u k c) (task.seen u k d) call o
    by false = o

pub tell-at : (cfg : Config) (k : ℕ) (s : Seen) (c : Calls) (m : read.Seen) (t : TaskId) (call : TaskCall) → At cfg k s c m → At cfg k s (tell t call c) (read.tell m t call)
tell-at cfg k s c m t call o = record {
  work = o.work;
  can = o.can;
  due = o.due;
  tail = o.tail;
  bars = o.bars;
  tasks = λ run u e. told-same k t u call (c u) (m.calls u) (o.tasks run u e);
  launched = o.launched;
  known = o.known;
  earlier = o.earlier;
  killed = o.killed;
}

-- ---- a packet, NodeUp aside

pub came-at : (cfg : Config) (k : ℕ) (s : Seen) (c : Calls) (m : read.Seen) (p : Packet) → is_running s.phase ≡ true → m.work ≡ work_at k s.phase → CanBe s.phase →
    hears.delivered (setting cfg k) m p ≡ (if read.is_running m.work then hears.heard (setting cfg k) m p else m) →
    (is_running (heard cfg s p).phase ≡ true → (g : ℕ → Bool) → killed_by (sends.replies (setting cfg k) m (hears.heard (setting cfg k) m p) p) g ≡ g) →
    At cfg k (heard cfg s p) (calls_heard s p c) (hears.heard (setting cfg k) m p) →
    At cfg k (next_seen cfg k s (Came p)) (next_calls cfg k s (Came p) c) (next.next_seen (setting cfg k) m (step_of (Came p)))
unfolding next_seen next_calls next.next_seen next.moved next.sent_by
came-at cfg k s c m p run w can d quiet o =
    subst (λ z. At cfg k z (if is_running s.phase then calls_heard s p c else c) (next.with_kills (if read.is_running m.work then sends.replies W m H p else []) (hears.delivered W m p)))
    (λ i. if sym run i then heard cfg s p else only_known s p)
    (subst (λ z. At cfg k (heard cfg s p) z (next.with_kills (if read.is_running m.work then sends.replies W m H p else []) (hears.delivered W m p)))
    (λ i. if sym run i then calls_heard s p c else c)
    (subst (λ z. At cfg k (heard cfg s p) (calls_heard s p c) z)
    (sym ((λ i. next.with_kills (if runs i then sends.replies W m H p else []) (d i)) ∙ (λ i. next.with_kills (sends.replies W m H p) (if runs i then H else m))))
    (record {
      work = o.work;
      can = o.can;
      due = o.due;
      tail = o.tail;
      bars = o.bars;
      tasks = o.tasks;
      launched = o.launched;
      known = o.known;
      earlier = o.earlier;
      killed = λ go n. ap (λ g. g n) (quiet go H.killed) ∙ o.killed go n;
    })))
  where
    W : Setting
    W = setting cfg k

    H : read.Seen
    H = hears.heard W m p

    runs : read.is_running m.work ≡ true
    runs = ap read.is_running w ∙ (runs-is k s.phase can ∙ run)

-- what neither the phase nor a record changes
pub asked-at : (cfg : Config) (k : ℕ) (s : Seen) (c : Calls) (m : read.Seen) (b : Bool) (xs : List Attempt) → At cfg k s c m → At cfg k (if b then record s { asked = xs } else s) c m
asked-at cfg k s c m true xs o = record { work = o.work; can = o.can; due = o.due; tail = o.tail; bars = o.bars; tasks = o.tasks; launched = o.launched; known = o.known; earlier = o.earlier; killed = o.killed }
asked-at cfg k s c m false xs o = o
