-- Once it has run: a machine stays with its master while it fails, commits, or is over.
use Rattle.std.proofs.Common.{ℕ, ◌≡◌, refl, sym, ◌∙◌, ap, subst, Bool, true, false, ◌&&◌, not, List, [], ◌∷◌, ◌++◌, Option, Some, None, if◌then◌else◌, nat_eq, nat_lt}
use Rattle.std.proofs.lemmas.Bool.{false≢true, true≢false}
use Rattle.mr_ids.specs.Attempt.{Attempt}
use Rattle.mr_task.specs.Calls as task_call
use Rattle.mr_packet.specs.declared.packet.Packet.{Packet}
use Rattle.mr_packet.specs.declared.packet.Packet.TheVariants as packet
use Rattle.mr_history.specs.declared.record.Record.{Record}
use Rattle.mr_master_model.specs.declared.setting.Setting.{Setting}
use Rattle.mr_master_model.specs.Job as job
use Rattle.mr_master_model.specs.Readings as read
use Rattle.mr_master_model.specs.Hearing as hears
use Rattle.mr_master_model.specs.Duty.{duty}
use Rattle.mr_master_model.specs.Answered.{after_answer, after_duty, moved_first, recorded, tell_recorded, success_in}
use Rattle.mr_master_model.specs.Sends.{answer_sends, killed_by}
use Rattle.mr_master_model.specs.Next as next
use Rattle.mr_world_model.specs.Ids.{temporary}
use Rattle.mr_world_model.specs.Content.{Delete, bar_of}
use Rattle.mr_world_model.specs.Packets.{Config, Store, Names, Append_record, Flush, Read_history, Reply}
use Rattle.mr_world_model.specs.Hearing.{Seen, Phase, Opening, Setting_up, Recovering, Running, Committing, Failing, Finished, Stopped, Commit_step, List_job, Merging, Cleaning, Marking, Succeeding, Failing_mark, Aborting, Look_at, List_into, Delete_then, Move_to, is_running, can_hear, know, heard, only_known, after_bar}
use Rattle.mr_world_model.specs.Duties.{Master_step, Came, Launches, Expires, Asks, seen, next_seen, told, with_read, worked, is_fine, duty_of, phase_told, commit_call, newest_maps, attempts_of, rest_of}
use Rattle.mr_world_model.specs.Claims.{has_not_run}
use Rattle.mr_world_model.specs.Calls.{Calls, calls, calls_heard, next_calls, AppendsDue}
use Rattle.mr_world_model.specs.Made.{IsMade, AllMade}
use Rattle.mr_world_model.proofs.Made.{appends-due}
use Rattle.mr_world_model.proofs.Wins.{starts-early}
use Rattle.mr_master_refinement.specs.Steps.{setting, step_of, answer_of}
use Rattle.mr_master_refinement.specs.Works.{CanBe, work_at, named, name_of_failing}
use Rattle.mr_master_refinement.specs.Agreement.{SetUp}
use Rattle.mr_master_refinement.specs.Points.{in_order}
use Rattle.mr_master_refinement.specs.Holds.{Holds, LateStepsKeep}
use Rattle.mr_master_refinement.proofs.Works.{runs-is, over-is}
use Rattle.mr_master_refinement.proofs.Turns.{some-is}
use Rattle.mr_master_refinement.proofs.Turn.{at-failing, can-after}
use Rattle.mr_master_refinement.proofs.Changes.{change_at}
use Rattle.mr_master_refinement.proofs.Answering.{answered, not-started}
use Rattle.mr_master_refinement.proofs.Early.{same-if}
use Rattle.mr_master_refinement.proofs.Until.{early-is}
use Rattle.mr_master_refinement.proofs.Points.{point}
use Rattle.mr_master_refinement.proofs.Held.{At, at-of, of-at}

-- what is held beside the work and what tasks have heard
pub record Rest (s : Seen) (m : read.Seen) : Type 0 where
  pub due : m.due ≡ s.due
  pub tail : m.tail ≡ s.tail
  pub bars : m.bars ≡ s.bars
  pub launched : m.launched ≡ in_order s.launched
  pub known : m.known ≡ s.known
  pub earlier : m.earlier ≡ s.history

pub rest-of : (cfg : Config) (k : ℕ) (s : Seen) (c : Calls) (m : read.Seen) → At cfg k s c m → Rest s m
rest-of cfg k s c m o = record { due = o.due; tail = o.tail; bars = o.bars; launched = o.launched; known = o.known; earlier = o.earlier }

pub idle-at : (cfg : Config) (k : ℕ) (s : Seen) (c : Calls) (m : read.Seen) → is_running s.phase ≡ false → m.work ≡ work_at k s.phase → CanBe s.phase → Rest s m → At cfg k s c m
idle-at cfg k s c m idle w can o = record {
  work = w;
  can = can;
  due = o.due;
  tail = o.tail;
  bars = o.bars;
  tasks = λ e. absurd (false≢true (sym idle ∙ e));
  launched = o.launched;
  known = o.known;
  earlier = o.earlier;
  killed = λ e. absurd (false≢true (sym idle ∙ e));
}

-- a call to the namespace that is no bar
abbrev pub NoBar : Store → Type 0
NoBar (Names op) = bar_of op ≡ None
NoBar _ = ⊥

pub commit-plain : (k : ℕ) (at : Commit_step) (call : Store) → CanBe (Committing at) → commit_call k at ≡ Some call → NoBar call
commit-plain k List_job call can d = subst NoBar (some-is _ call d) refl
commit-plain k (Merging []) call can d = absurd can
commit-plain k (Merging (Look_at f t b ∷ todo)) call can d = subst NoBar (some-is _ call d) refl
commit-plain k (Merging (List_into f t ∷ todo)) call can d = subst NoBar (some-is _ call d) refl
commit-plain k (Merging (Delete_then f t ∷ todo)) call can d = subst NoBar (some-is _ call d) refl
commit-plain k (Merging (Move_to f t ∷ todo)) call can d = subst NoBar (some-is _ call d) refl
commit-plain k Cleaning call can d = subst NoBar (some-is _ call d) refl
commit-plain k Marking call can d = subst NoBar (some-is _ call d) refl
commit-plain k Succeeding call can d = subst NoBar (some-is _ call d) refl
commit-plain k Failing_mark call can d = subst NoBar (some-is _ call d) refl
commit-plain k Aborting call can d = subst NoBar (some-is _ call d) refl

-- ---- a packet

module _ (cfg : Config) (k : ℕ) (s : Seen) (c : Calls) (m : read.Seen) (o : At cfg k s c m) (idle : is_running s.phase ≡ false) where
  abbrev W : Setting
  W = setting cfg k

  pub stands-still : read.is_running m.work ≡ false
  stands-still = ap read.is_running o.work ∙ (runs-is k s.phase o.can ∙ idle)

  known-at : (n i : ℕ) (b d : Bool) (g : ℕ → Bool) →
      At cfg k (if b && d then record s { known = know s.known n i } else s) c (record (if not b then m else (if not d then m else hears.with_known m n i)) { killed = g })
  known-at n i true true g = idle-at cfg k _ c _ idle o.work o.can
      (record { due = o.due; tail = o.tail; bars = o.bars; launched = o.launched; known = (let q = o.known in λ j x. if nat_eq x n then i else q j x); earlier = o.earlier })
  known-at n i true false g = idle-at cfg k s c _ idle o.work o.can (record { due = o.due; tail = o.tail; bars = o.bars; launched = o.launched; known = o.known; earlier = o.earlier })
  known-at n i false d g = idle-at cfg k s c _ idle o.work o.can (record { due = o.due; tail = o.tail; bars = o.bars; launched = o.launched; known = o.known; earlier = o.earlier })

  came-late : (p : Packet) (g : ℕ → Bool) → At cfg k (only_known s p) c (record (hears.delivered W m p) { killed = g })
  unfolding hears.delivered
  came-late p g = other p
    where
      still : (x : read.Seen) → At cfg k s c (record (if read.is_running m.work then x else m) { killed = g })
      still x = subst (λ (b : Bool). At cfg k s c (record (if b then x else m) { killed = g })) (sym stands-still)
          (idle-at cfg k s c _ idle o.work o.can (record { due = o.due; tail = o.tail; bars = o.bars; launched = o.launched; known = o.known; earlier = o.earlier }))

      other : (p : Packet) → At cfg k (only_known s p) c (record (hears.delivered W m p) { killed = g })
      other (packet.NodeUp n i) = subst (λ z. At cfg k (only_known s (packet.NodeUp n i)) c (record z { killed = g }))
          (sym ((let v = ap read.is_over o.work ∙ over-is k s.phase o.can in let q = o.known in
          λ j. if v j then m else (if not (nat_lt (q j n) i) then m else (if stands-still j then hears.with_known (hears.after_restart W m n i) n i else hears.with_known m n i)))))
          (known-at n i (can_hear s.phase) (nat_lt (s.known n) i) g)
      other (packet.Pending a) = still _
      other (packet.Poll a) = still _
      other (packet.Done a z) = still _
      other (packet.Failed a) = still _
      other (packet.Ended c) = still _
      other (packet.Where c n) = still _
      other (packet.FetchLost c a) = still _
      other (packet.Launch c a i) = still _
      other (packet.Kill c) = still _
      other (packet.Fetch c a x y z) = still _
      other (packet.Won t a) = still _
      other (packet.Outcome b) = still _
      other (packet.Answer a b) = still _
      other (packet.DoneAck a) = still _
      other (packet.MapReady n a x y) = still _
      other (packet.Piece a x y z bs) = still _

  came-keeps : (p : Packet) → At cfg k (next_seen cfg k s (Came p)) (next_calls cfg k s (Came p) c) (next.next_seen W m (step_of (Came p)))
  unfolding next_seen next_calls next.next_seen next.moved
  came-keeps p = subst (λ z. At cfg k z (next_calls cfg k s (Came p) c) (next.next_seen W m (step_of (Came p)))) (λ i. if sym idle i then heard cfg s p else only_known s p)
      (subst (λ z. At cfg k (only_known s p) z (next.next_seen W m (step_of (Came p)))) (λ i. if sym idle i then calls_heard s p c else c)
      (came-late p (killed_by (next.sent_by W m (step_of (Came p))) (hears.delivered W m p).killed)))

  -- ---- an answer

  plain-works : (call : Store) (r : Reply) → NoBar call → with_read cfg (if is_fine r then worked s call else s) call r ≡ s
  plain-works (Names op) r n = (λ i. if is_fine r then after_bar s (n i) else s) ∙ same-if (is_fine r) s
  plain-works (Append_record x) r n = absurd n
  plain-works Flush r n = absurd n
  plain-works Read_history r n = absurd n

  recorded-rest : (u : Seen) (rs : List Record) (x : read.Seen) → Rest u x → Rest u (recorded W x rs)
  unfolding recorded
  recorded-rest u [] x v = v
  recorded-rest u (y ∷ rs) x v = recorded-rest u rs (tell_recorded W x (success_in y)) (one (success_in y))
    where
      one : (a : Option Attempt) → Rest u (tell_recorded W x a)
      one None = v
      one (Some a) = by (job.is_task W a.task)
        where
          by : (b : Bool) → Rest u (if b then read.tell x a.task (task_call.Records a) else x)
          by true = record { due = v.due; tail = v.tail; bars = v.bars; launched = v.launched; known = v.known; earlier = v.earlier }
          by false = v

  pub appended : (x : Record) → s.due ≡ x ∷ rest_of s.due → Rest (worked s (Append_record x)) (moved_first m m.due)
  appended x d = subst (λ z. Rest (worked s (Append_record x)) (moved_first m z)) (sym (o.due ∙ d))
      (record { due = refl; tail = (λ i. o.tail i ++ x ∷ []); bars = o.bars; launched = o.launched; known = o.known; earlier = o.earlier })

  flushed-rest : Rest (worked s Flush) (record (recorded W m m.tail) { tail = [] })
  flushed-rest = let v = recorded-rest s m.tail m (rest-of cfg k s c m o) in record { due = v.due; tail = refl; bars = v.bars; launched = v.launched; known = v.known; earlier = v.earlier }

  failing-rest : (f : Bool) (call : Store) (r : Reply) → AppendsDue s.due call → duty_of cfg k s (Failing f) ≡ Some call →
      Rest (with_read cfg (if is_fine r then worked s call else s) call r) (change_at cfg k m (Failing f) call r)
  failing-rest f call r due d = at-failing (λ x. AppendsDue s.due x → Rest (with_read cfg (if is_fine r then worked s x else s) x r) (if is_fine r then after_duty W m (name_of_failing x) else m))
      (λ x q. adds x q (is_fine r)) (λ q. flushes (is_fine r)) (λ q. aborts (is_fine r)) cfg k s f call d due
    where
      adds : (x : Record) → s.due ≡ x ∷ rest_of s.due → (b : Bool) → Rest (if b then worked s (Append_record x) else s) (if b then moved_first m m.due else m)
      adds x q true = appended x q
      adds x q false = rest-of cfg k s c m o

      flushes : (b : Bool) → Rest (if b then worked s Flush else s) (if b then record (recorded W m m.tail) { tail = [] } else m)
      flushes true = flushed-rest
      flushes false = rest-of cfg k s c m o

      aborts : (b : Bool) → Rest (if b then worked s (Names (Delete temporary)) else s) (if b then m else m)
      aborts true = rest-of cfg k s c m o
      aborts false = rest-of cfg k s c m o

  rest-after : (p : Phase) (call : Store) (r : Reply) → CanBe p → is_running p ≡ false → has_not_run p ≡ false → AppendsDue s.due call → duty_of cfg k s p ≡ Some call →
      Rest (with_read cfg (if is_fine r then worked s call else s) call r) (change_at cfg k m p call r)
  unfolding duty_of
  rest-after (Failing f) call r can i y due d = failing-rest f call r due d
  rest-after (Committing at) call r can i y due d = subst (λ z. Rest z m) (sym (plain-works call r (commit-plain k at call can d))) (rest-of cfg k s c m o)
  rest-after (Finished b) call r can i y due d = cc
  rest-after Stopped call r can i y due d = cc
  rest-after Running call r can i y due d = absurd (true≢false i)
  rest-after (Opening n) call r can i y due d = absurd (true≢false y)
  rest-after Setting_up call r can i y due d = absurd (true≢false y)
  rest-after (Recovering ws at) call r can i y due d = absurd (true≢false y)

  late-set-up : (p : Phase) → has_not_run p ≡ false → SetUp cfg k s m p
  late-set-up Setting_up y = absurd (true≢false y)
  late-set-up (Opening n) y = tt
  late-set-up (Recovering ws at) y = tt
  late-set-up Running y = tt
  late-set-up (Committing at) y = tt
  late-set-up (Failing f) y = tt
  late-set-up (Finished b) y = tt
  late-set-up Stopped y = tt

  asks-keep : (call : Store) (r : Reply) → has_not_run s.phase ≡ false → duty_of cfg k s s.phase ≡ Some call → duty W m ≡ named s.phase (duty_of cfg k s s.phase) →
      At cfg k (next_seen cfg k s (Asks call r)) (next_calls cfg k s (Asks call r) c) (next.next_seen W m (step_of (Asks call r)))
  unfolding next_seen told next.next_seen next.moved next.sent_by
  asks-keep call r y d e = subst (λ z. At cfg k z (next_calls cfg k s (Asks call r) c) (next.with_kills (answer_sends W m (answer_of call r)) (after_answer W m (answer_of call r))))
      (sym (λ i. if still i && not (is_running U.phase) then record U { phase = Q; standing = newest_maps U.known U.history []; recorded = attempts_of (newest_maps U.known U.history []) } else record U { phase = Q }))
      (subst (λ z. At cfg k (record U { phase = Q }) (next_calls cfg k s (Asks call r) c) (next.with_kills (answer_sends W m (answer_of call r)) z))
      (sym (answered cfg k s m s.phase call r o.can o.work (late-set-up s.phase y) o.tail d (e ∙ ap (named s.phase) d)
      ∙ not-started cfg k (change_at cfg k m s.phase call r) Q (can-after k s s.phase call r o.can) still))
      (idle-at cfg k (record U { phase = Q }) (next_calls cfg k s (Asks call r) c) _ still refl (can-after k s s.phase call r o.can)
      (record { due = rest.due; tail = rest.tail; bars = rest.bars; launched = rest.launched; known = rest.known; earlier = rest.earlier })))
    where
      U : Seen
      U = with_read cfg (if is_fine r then worked s call else s) call r

      Q : Phase
      Q = phase_told k s s.phase call r

      still : is_running (phase_told k s s.phase call r) ≡ false
      still = by (is_running (phase_told k s s.phase call r)) refl
        where
          by : (b : Bool) → is_running (phase_told k s s.phase call r) ≡ b → b ≡ false
          by false q = refl
          by true q = absurd (true≢false (sym (starts-early k s s.phase call r q idle) ∙ (sym (early-is s.phase) ∙ y)))

      rest : Rest (with_read cfg (if is_fine r then worked s call else s) call r) (change_at cfg k m s.phase call r)
      rest = rest-after s.phase call r o.can idle y (appends-due cfg k s call d) d

late-keeps : (cfg : Config) (k : ℕ) (h : List Master_step) (m : read.Seen) (x : Master_step) → AllMade cfg k h → Holds cfg k h m → is_running (seen cfg k h).phase ≡ false → has_not_run (seen cfg k h).phase ≡ false →
    IsMade cfg k (seen cfg k h) x → At cfg k (next_seen cfg k (seen cfg k h) x) (next_calls cfg k (seen cfg k h) x (calls cfg k h)) (next.next_seen (setting cfg k) m (step_of x))
late-keeps cfg k h m (Came p) made o idle y u = came-keeps cfg k (seen cfg k h) (calls cfg k h) m (at-of cfg k h m o) idle p
late-keeps cfg k h m (Launches l) made o idle y u = absurd (true≢false (sym u.2 ∙ idle))
late-keeps cfg k h m (Expires n) made o idle y u = absurd (true≢false (sym u.0 ∙ idle))
late-keeps cfg k h m (Asks call r) made o idle y u = asks-keep cfg k (seen cfg k h) (calls cfg k h) m (at-of cfg k h m o) idle call r y u.0 (point cfg k h m made o.stands).duty

pub late_steps_keep : LateStepsKeep
late_steps_keep cfg k h m x made o idle y = of-at cfg k h x _ (late-keeps cfg k h m x made.1 o idle y made.0)
