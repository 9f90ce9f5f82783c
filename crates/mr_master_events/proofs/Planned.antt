-- What is planned for a packet.
use Rattle.std.proofs.Common.{ℕ, ◌<◌, ◌≤◌, ◌≡◌, not, inl, inr, refl, sym, ap, ◌∙◌, Bool, true, false, length, List, [], ◌∷◌, Option, Some, None, if◌then◌else◌}
use Rattle.std.specs.Option.{option_map}
use Rattle.std.proofs.lemmas.Bool.{le-ltb, lt-ltb}
use Rattle.mr_ids.specs.Attempt.{Attempt}
use Rattle.mr_ids.specs.declared.id.TaskKind.TheVariants.{Map}
use Rattle.mr_task.specs.Calls.{Asks, Reports, Hears}
use Rattle.mr_task.specs.Readings as reading
use Rattle.mr_task.specs.Steps.{Task}
use Rattle.mr_task.specs.State.{done_answer, reply_or}
use Rattle.mr_task.specs.declared.reply.DoneReply.{DoneReply}
use Rattle.mr_task.specs.declared.reply.DoneReply.TheVariants as reply
use Rattle.mr_history.specs.declared.record.Record.{Record}
use Rattle.mr_packet.specs.declared.packet.Packet.{Packet}
use Rattle.mr_packet.specs.declared.packet.Packet.TheVariants as packet
use Rattle.mr_packet.specs.Sends.{to_container}
use Rattle.mr_packet.specs.declared.packet.Envelope.{Envelope}
use Rattle.mr_packet.specs.declared.packet.ContainerId.{ContainerId}
use Rattle.mr_master_model.specs.declared.launch.Launch.{Launch}
use Rattle.mr_master_model.specs.declared.setting.Setting.{Setting}
use Rattle.mr_master_model.specs.Job.{task_of}
use Rattle.mr_master_model.specs.Readings.{Seen, is_running, is_over, launch_of, launched_in, succeeded, tell, with_due}
use Rattle.mr_master_model.specs.Hearing.{heard, after_node_up, after_failed, after_ended, with_known, after_restart, after_ask, after_done, after_where, after_fetch_lost, success_of}
use Rattle.mr_master_model.specs.Sends.{replies, kill_all, pending_answer, ack_to, ready_to, ready_by}
use Rattle.mr_master_state.specs.mr_master_tasks.specs.declared.ending.Ending.{Ending}
use Rattle.mr_master_state.specs.mr_master_tasks.specs.declared.ending.Ending.TheVariants.{Failure, Exit}
use Rattle.mr_master_state.specs.declared.blame.Blame.{Blame}
use Rattle.mr_master_state.specs.Told.{blamed}
use Rattle.mr_master_state.specs.mr_master_tasks.specs.Told.{call_of}
use Rattle.mr_master_events.specs.inner.Ends.{blame_of, ended, end_sends, kills_by, kills_if_over}
use Rattle.mr_master_events.specs.inner.Reporting.{ack_of, due_of}
use Rattle.mr_master_state.specs.mr_master_tables.specs.Earlier.{listed}
use Rattle.mr_master_state.specs.mr_master_tasks.specs.Places.{place_of}
use Rattle.mr_master_state.specs.mr_master_tasks.specs.Tasks.{AnswersAt, IsReplyAt}
use Rattle.mr_master_state.specs.mr_master_tasks.specs.Tasks.{IsTold}
use Rattle.mr_master_state.specs.declared.change.Change.TheVariants as change
use Rattle.mr_master_state.specs.Prepared.{Prepared, IsAt, Plans, PlansFor}
use Rattle.mr_master_state.specs.State.{Master, Keeps, Reads}
use Rattle.mr_master_events.proofs.Answering.{pending-none, pending-some, none-acked, accepted-now, accepted-before, not-accepted, acked-now, acked-again, not-acked, accepted-is, not-accepted-is, refused}
use Rattle.mr_master_model.specs.Past.{Hears}
use Rattle.mr_master_model.specs.Next.{sent_by, moved}
use Rattle.mr_master_state.proofs.Made.{plan-as, plans-as}
use Rattle.mr_master_events.proofs.Delivering.{delivered-is, node-up-is}
use Rattle.mr_master_state.proofs.Containers.{with-place, launched-is}
use Rattle.mr_master_events.proofs.Ends.{blamed-is, kills-by-is}
use Rattle.mr_master_state.proofs.Keeping.{known-is}
use Rattle.mr_master_state.specs.mr_master_tasks.proofs.Keeping.{read-at}

-- ---- of what is not known nothing is heard

pub nothing-asked : {m : Master} {r : Prepared} (a : Attempt) → r ≡ record { packets = []; change = change.Nothing } → ((w : Setting) (s : Seen) → Keeps m w s → launch_of w s a ≡ None)
    → Plans m r (λ w s. pending_answer w s a) (λ w s. after_ask s a (launch_of w s a))
nothing-asked a e none = plan-as [] change.Nothing e tt (λ w s k. pending-none w s a (none w s k)) (λ w s k. ap (λ (o : Option Launch). after_ask s a o) (sym (none w s k)))

pub nothing-done : {m : Master} {r : Prepared} (a : Attempt) (bytes : Option ℕ) → r ≡ record { packets = []; change = change.Nothing } → ((w : Setting) (s : Seen) → Keeps m w s → launch_of w s a ≡ None)
    → Plans m r (λ w s. ack_to w s a (launch_of w s a)) (λ w s. after_done w s a bytes (launch_of w s a))
nothing-done a bytes e none = plan-as [] change.Nothing e tt (λ w s k. none-acked w s a (none w s k)) (λ w s k. ap (λ (o : Option Launch). after_done w s a bytes o) (sym (none w s k)))

pub nowhere : {m : Master} {r : Prepared} (c : ContainerId) (map : ℕ) → r ≡ record { packets = []; change = change.Nothing } → ((w : Setting) (s : Seen) → Keeps m w s → launched_in w s c ≡ None)
    → Plans m r (λ w s. ready_to w s c map (launched_in w s c)) (λ w s. after_where s (launched_in w s c))
nowhere c map e none = plan-as [] change.Nothing e tt (λ w s k. ap (λ o. ready_to w s c map o) (sym (none w s k))) (λ w s k. ap (λ o. after_where s o) (sym (none w s k)))

pub nothing-lost : {m : Master} {r : Prepared} (c : ContainerId) (a : Attempt) → r ≡ record { packets = []; change = change.Nothing } → ((w : Setting) (s : Seen) → Keeps m w s → launched_in w s c ≡ None)
    → Plans m r (λ w s. []) (λ w s. after_fetch_lost w s a (launched_in w s c))
nothing-lost c a e none = plan-as [] change.Nothing e tt (λ w s k. refl) (λ w s k. ap (λ o. after_fetch_lost w s a o) (sym (none w s k)))

-- ---- a known attempt

-- where its task stands, and what it was launched as
abbrev pub Finds : Master → Attempt → ℕ → Launch → Type 0
Finds m a i l = (w : Setting) (s : Seen) → Keeps m w s → ◌≡◌ {A = Option (ℕ × Launch)} (Some (i, l)) (option_map (λ (x : Launch). (place_of w a.task, x)) (launch_of w s a))

pub at-known : {m : Master} (a : Attempt) (i : ℕ) (l : Launch) → i < length m.tasks.machines → Finds m a i l → IsAt m i a
at-known a i l within finds = record { within = within; own = λ w s k. (known-is w s a i l (finds w s k)).is_of_job; at = λ w s k. (known-is w s a i l (finds w s k)).place }

-- ---- Pending, Poll

pub plan-ask : {m : Master} {r : Prepared} (a : Attempt) (i : ℕ) (l : Launch) (may : Bool) (y : Task) (e : Envelope) → r ≡ record { packets = e ∷ []; change = change.Asks i a y } → e ≡ to_container l.container (packet.Answer a may) → i < length m.tasks.machines → Finds m a i l
    → AnswersAt m.tasks.machines i (λ t k calls. reading.is_named (reading.seen t k (Asks a ∷ calls)) a) may → IsTold m.tasks.machines i (Asks a) y
    → Plans m r (λ w s. pending_answer w s a) (λ w s. after_ask s a (launch_of w s a))
plan-ask {m} a i l may y e is same within finds named told = plan-as (e ∷ []) (change.Asks i a y) is (at-known a i l within finds, told)
    (λ w s k.
    let known = known-is w s a i l (finds w s k) in
    ap (λ (x : Envelope). x ∷ []) same ∙ pending-some w s a l may known.launch (read-at m.tasks w s.calls a.task i (λ t k calls. reading.is_named (reading.seen t k (Asks a ∷ calls)) a) may k.tasks known.is_of_job known.place named))
    (λ w s k. ap (λ (o : Option Launch). after_ask s a o) (sym (known-is w s a i l (finds w s k)).launch))

-- ---- Done

reply-is : {m : Master} (a : Attempt) (i : ℕ) (l : Launch) (r : DoneReply) → Finds m a i l → IsReplyAt m.tasks.machines i a r
    → (w : Setting) (s : Seen) → Keeps m w s → r ≡ reply_or (done_answer a a.task w.app (s.calls a.task)) reply.Ignored
reply-is {m} a i l r finds answers w s k =
    let known = known-is w s a i l (finds w s k) in
    read-at m.tasks w s.calls a.task i (λ t k calls. reply_or (done_answer a t k calls) reply.Ignored) r k.tasks known.is_of_job known.place answers

pub plan-accepted : {m : Master} {r : Prepared} (a : Attempt) (bytes : Option ℕ) (i : ℕ) (l : Launch) (e : Envelope) (told : Record) → r ≡ record { packets = e ∷ []; change = change.Reports i a reply.Accepted (Some told) } → e ≡ to_container l.container (packet.DoneAck a) → told ≡ success_of a.task.kind a l bytes
    → i < length m.tasks.machines → Finds m a i l → IsReplyAt m.tasks.machines i a reply.Accepted
    → Plans m r (λ w s. ack_to w s a (launch_of w s a)) (λ w s. after_done w s a bytes (launch_of w s a))
plan-accepted a bytes i l e told is same alike within finds answers = plan-as (e ∷ []) (change.Reports i a reply.Accepted (Some told)) is (at-known a i l within finds, answers)
    (λ w s k. ap (λ (x : Envelope). x ∷ []) same ∙ acked-now w s a l (known-is w s a i l (finds w s k)).launch (accepted-now w s a (reply-is a i l reply.Accepted finds answers w s k)))
    (λ w s k. ap (λ (x : Record). with_due (tell s a.task (Reports a)) (x ∷ [])) alike ∙ sym (accepted-is w s a bytes l (known-is w s a i l (finds w s k)).launch (accepted-now w s a (reply-is a i l reply.Accepted finds answers w s k))))

pub plan-again : {m : Master} {r : Prepared} (a : Attempt) (bytes : Option ℕ) (i : ℕ) (l : Launch) (e : Envelope) → r ≡ record { packets = e ∷ []; change = change.Reports i a reply.Again None } → e ≡ to_container l.container (packet.DoneAck a)
    → i < length m.tasks.machines → Finds m a i l → IsReplyAt m.tasks.machines i a reply.Again
    → Plans m r (λ w s. ack_to w s a (launch_of w s a)) (λ w s. after_done w s a bytes (launch_of w s a))
plan-again a bytes i l e is same within finds answers = plan-as (e ∷ []) (change.Reports i a reply.Again None) is (at-known a i l within finds, answers)
    (λ w s k. ap (λ (x : Envelope). x ∷ []) same ∙ acked-again w s a l (known-is w s a i l (finds w s k)).launch (accepted-before w s a (reply-is a i l reply.Again finds answers w s k)))
    (λ w s k.
    let known = known-is w s a i l (finds w s k) in
    sym (not-accepted-is w s a bytes l known.launch (refused w s a reply.Again known.arrived (reply-is a i l reply.Again finds answers w s k) (inl refl))))

pub plan-ignored : {m : Master} {r : Prepared} (a : Attempt) (bytes : Option ℕ) (i : ℕ) (l : Launch) → r ≡ record { packets = []; change = change.Reports i a reply.Ignored None }
    → i < length m.tasks.machines → Finds m a i l → IsReplyAt m.tasks.machines i a reply.Ignored
    → Plans m r (λ w s. ack_to w s a (launch_of w s a)) (λ w s. after_done w s a bytes (launch_of w s a))
plan-ignored a bytes i l e within finds answers = plan-as [] (change.Reports i a reply.Ignored None) e (at-known a i l within finds, answers)
    (λ w s k.
    let known = known-is w s a i l (finds w s k) in
    not-acked w s a l known.launch (not-accepted w s a known.arrived (reply-is a i l reply.Ignored finds answers w s k)))
    (λ w s k.
    let known = known-is w s a i l (finds w s k) in
    sym (not-accepted-is w s a bytes l known.launch (refused w s a reply.Ignored known.arrived (reply-is a i l reply.Ignored finds answers w s k) (inr refl))))

-- whatever it is answered
pub plan-reported : {m : Master} {p : Prepared} (a : Attempt) (bytes : Option ℕ) (i : ℕ) (l : Launch) (r : DoneReply) (ack : Option Envelope) (due : Option Record)
    → p ≡ record { packets = listed ack; change = change.Reports i a r due } → ack ≡ ack_of r l.container a → due ≡ due_of r a l bytes
    → i < length m.tasks.machines → Finds m a i l → IsReplyAt m.tasks.machines i a r
    → Plans m p (λ w s. ack_to w s a (launch_of w s a)) (λ w s. after_done w s a bytes (launch_of w s a))
plan-reported a bytes i l reply.Accepted ack due is sends wants within finds answers =
    plan-accepted a bytes i l (to_container l.container (packet.DoneAck a)) (success_of a.task.kind a l bytes)
    (is ∙ (λ j. record { packets = listed (sends j); change = change.Reports i a reply.Accepted (wants j) })) refl refl within finds answers
plan-reported a bytes i l reply.Again ack due is sends wants within finds answers =
    plan-again a bytes i l (to_container l.container (packet.DoneAck a))
    (is ∙ (λ j. record { packets = listed (sends j); change = change.Reports i a reply.Again (wants j) })) refl within finds answers
plan-reported a bytes i l reply.Ignored ack due is sends wants within finds answers =
    plan-ignored a bytes i l (is ∙ (λ j. record { packets = listed (sends j); change = change.Reports i a reply.Ignored (wants j) })) within finds answers

-- ---- Where, FetchLost

-- which attempt the container was launched for, and where its task stands
abbrev pub FindsIn : Master → ContainerId → ℕ → Attempt → Launch → Type 0
FindsIn m c i a l = (w : Setting) (s : Seen) → Keeps m w s → ◌≡◌ {A = Option (ℕ × (Attempt × Launch))} (Some (i, (a, l))) (with-place w (launched_in w s c))

pub at-launched : {m : Master} (c : ContainerId) (i : ℕ) (a : Attempt) (l : Launch) → i < length m.tasks.machines → FindsIn m c i a l → IsAt m i a
at-launched c i a l within finds = record { within = within; own = λ w s k. (launched-is w s c i a l (finds w s k)).is_of_job; at = λ w s k. (launched-is w s c i a l (finds w s k)).place }

pub plan-where : {m : Master} {r : Prepared} (c : ContainerId) (map : ℕ) (packets : List Envelope) (i : ℕ) (a : Attempt) (l : Launch) → r ≡ record { packets = packets; change = change.Hears i a } → i < length m.tasks.machines → FindsIn m c i a l
    → Reads m (λ w s. ready_by w s c map (succeeded w s (task_of w Map map))) packets → Plans m r (λ w s. ready_to w s c map (launched_in w s c)) (λ w s. after_where s (launched_in w s c))
plan-where c map packets i a l e within finds reads = plan-as packets (change.Hears i a) e (at-launched c i a l within finds)
    (λ w s k. reads w s k ∙ ap (λ o. ready_to w s c map o) (sym (launched-is w s c i a l (finds w s k)).launched))
    (λ w s k. ap (λ o. after_where s o) (sym (launched-is w s c i a l (finds w s k)).launched))

-- ---- Failed, Ended

pub plan-end : {m : Master} {r : Prepared} (i : ℕ) (a : Attempt) (e : Ending) (b : Blame) (packets : List Envelope) → r ≡ record { packets = packets; change = change.Ends i a e b } → IsAt m i a → ((w : Setting) (s : Seen) → Keeps m w s → is_running s.work ≡ true)
    → Reads m (λ w s. blame_of w s a e) b → Reads m (λ w s. kills_by w s a b) packets → Plans m r (λ w s. end_sends w s a e) (λ w s. ended w s a e)
plan-end i a e b packets is at runs blames kills = plan-as packets (change.Ends i a e b) is at
    (λ w s k. kills w s k ∙ ap (λ (x : Blame). kills_by w s a x) (blames w s k) ∙ kills-by-is w s a e (runs w s k))
    (λ w s k. ap (λ (x : Blame). blamed (tell s a.task (call_of e a)) a x) (blames w s k) ∙ blamed-is w s a e)

pub plan-failed : {m : Master} {r : Prepared} (a : Attempt) (i : ℕ) (l : Launch) → Finds m a i l → Plans m r (λ w s. end_sends w s a Failure) (λ w s. ended w s a Failure)
    → Plans m r (λ w s. kills_if_over w (after_failed w s a (launch_of w s a))) (λ w s. after_failed w s a (launch_of w s a))
plan-failed a i l finds x = plans-as
    (λ w s k. ap (λ (o : Option Launch). kills_if_over w (after_failed w s a o)) (sym (known-is w s a i l (finds w s k)).launch))
    (λ w s k. ap (λ (o : Option Launch). after_failed w s a o) (sym (known-is w s a i l (finds w s k)).launch)) x

pub plan-ended : {m : Master} {r : Prepared} (c : ContainerId) (i : ℕ) (a : Attempt) (l : Launch) (b : Bool) → FindsIn m c i a l → Reads m (λ w s. s.killed c.number) b → Plans m r (λ w s. end_sends w s a (Exit b)) (λ w s. ended w s a (Exit b))
    → Plans m r (λ w s. kills_if_over w (after_ended w s c (launched_in w s c))) (λ w s. after_ended w s c (launched_in w s c))
plan-ended c i a l b finds killed x = plans-as
    (λ w s k. ap (λ (d : Bool). kills_if_over w (ended w s a (Exit d))) (killed w s k) ∙ ap (λ o. kills_if_over w (after_ended w s c o)) (sym (launched-is w s c i a l (finds w s k)).launched))
    (λ w s k. ap (λ (d : Bool). ended w s a (Exit d)) (killed w s k) ∙ ap (λ o. after_ended w s c o) (sym (launched-is w s c i a l (finds w s k)).launched)) x

pub nothing-failed : {m : Master} {r : Prepared} (a : Attempt) → r ≡ record { packets = []; change = change.Nothing } → ((w : Setting) (s : Seen) → Keeps m w s → is_running s.work ≡ true) → ((w : Setting) (s : Seen) → Keeps m w s → launch_of w s a ≡ None)
    → Plans m r (λ w s. kills_if_over w (after_failed w s a (launch_of w s a))) (λ w s. after_failed w s a (launch_of w s a))
nothing-failed a e runs none = plan-as [] change.Nothing e tt
    (λ w s k. ap (λ b. if b then [] else kill_all w s) (sym (runs w s k)) ∙ ap (λ (o : Option Launch). kills_if_over w (after_failed w s a o)) (sym (none w s k)))
    (λ w s k. ap (λ (o : Option Launch). after_failed w s a o) (sym (none w s k)))

pub nothing-ended : {m : Master} {r : Prepared} (c : ContainerId) → r ≡ record { packets = []; change = change.Nothing } → ((w : Setting) (s : Seen) → Keeps m w s → is_running s.work ≡ true) → ((w : Setting) (s : Seen) → Keeps m w s → launched_in w s c ≡ None)
    → Plans m r (λ w s. kills_if_over w (after_ended w s c (launched_in w s c))) (λ w s. after_ended w s c (launched_in w s c))
nothing-ended c e runs none = plan-as [] change.Nothing e tt
    (λ w s k. ap (λ b. if b then [] else kill_all w s) (sym (runs w s k)) ∙ ap (λ o. kills_if_over w (after_ended w s c o)) (sym (none w s k)))
    (λ w s k. ap (λ o. after_ended w s c o) (sym (none w s k)))

-- ---- all packets

quiet-node-up : (w : Setting) (s : Seen) (p : Packet) (n i : ℕ) → p ≡ packet.NodeUp n i → [] ≡ sent_by w s (Hears p)
unfolding sent_by replies
quiet-node-up w s p n i e = by (is_running s.work) ∙ ap (λ (x : Packet). if is_running s.work then replies w s (heard w s x) x else []) (sym e)
  where
    by : (b : Bool) → ◌≡◌ {A = List Envelope} [] (if b then [] else [])
    by true = refl
    by false = refl

pub plan-node-up : {m : Master} {r : Prepared} (p : Packet) (n i : ℕ) → p ≡ packet.NodeUp n i → Plans m r (λ w s. []) (λ w s. if is_over s.work then s else after_node_up w s n i) → PlansFor m (Hears p) r
unfolding moved
plan-node-up p n i e x = plans-as (λ w s k. quiet-node-up w s p n i e) (λ w s k. sym (node-up-is w s p n i e)) x

pub plan-other : {m : Master} {r : Prepared} (p : Packet) → ((n i : ℕ) → p ≡ packet.NodeUp n i → ⊥) → Plans m r (λ w s. sent_by w s (Hears p)) (λ w s. if is_running s.work then heard w s p else s) → PlansFor m (Hears p) r
unfolding moved
plan-other p none x = plans-as (λ w s k. refl) (λ w s k. sym (delivered-is w s p none)) x

-- ---- what is not heard

pub record Unheard (p : Packet) : Type 0 where
  pub pending : (a : Attempt) → p ≡ packet.Pending a → ⊥
  pub poll : (a : Attempt) → p ≡ packet.Poll a → ⊥
  pub done : (a : Attempt) (bytes : Option ℕ) → p ≡ packet.Done a bytes → ⊥
  pub failed : (a : Attempt) → p ≡ packet.Failed a → ⊥
  pub ended : (c : ContainerId) → p ≡ packet.Ended c → ⊥
  pub where' : (c : ContainerId) (map : ℕ) → p ≡ packet.Where c map → ⊥
  pub lost : (c : ContainerId) (a : Attempt) → p ≡ packet.FetchLost c a → ⊥

pub record ComesToNothing (w : Setting) (s s' : Seen) (p : Packet) : Type 0 where
  pub sends : [] ≡ replies w s s' p
  pub changes : s ≡ heard w s p

pub unheard : (w : Setting) (s s' : Seen) (p : Packet) → Unheard p → ComesToNothing w s s' p
unfolding heard replies
unheard w s s' (packet.Pending a) x = absurd (x.pending a refl)
unheard w s s' (packet.Poll a) x = absurd (x.poll a refl)
unheard w s s' (packet.Done a bytes) x = absurd (x.done a bytes refl)
unheard w s s' (packet.Failed a) x = absurd (x.failed a refl)
unheard w s s' (packet.Ended c) x = absurd (x.ended c refl)
unheard w s s' (packet.Where c map) x = absurd (x.where' c map refl)
unheard w s s' (packet.FetchLost c a) x = absurd (x.lost c a refl)
unheard w s s' _ x = record { sends = refl; changes = refl }

-- ---- NodeUp

pub plan-over : {m : Master} {r : Prepared} (n i : ℕ) → r ≡ record { packets = []; change = change.Nothing } → ((w : Setting) (s : Seen) → Keeps m w s → is_over s.work ≡ true)
    → Plans m r (λ w s. []) (λ w s. if is_over s.work then s else after_node_up w s n i)
plan-over n i e over = plan-as [] change.Nothing e tt (λ w s k. refl) (λ w s k. ap (λ b. if b then s else after_node_up w s n i) (sym (over w s k)))

known-stays : (w : Setting) (s : Seen) (n i : ℕ) → i ≤ s.known n → s ≡ after_node_up w s n i
known-stays w s n i known =
    ap (λ b. if not b then s else if is_running s.work then with_known (after_restart w s n i) n i else with_known s n i) (sym (le-ltb (s.known n) i known))

pub plan-known : {m : Master} {r : Prepared} (n i : ℕ) → r ≡ record { packets = []; change = change.Nothing } → ((w : Setting) (s : Seen) → Keeps m w s → i ≤ s.known n)
    → Plans m r (λ w s. []) (λ w s. if is_over s.work then s else after_node_up w s n i)
plan-known n i e known = plan-as [] change.Nothing e tt (λ w s k. refl) (λ w s k. by w s (known w s k) (is_over s.work))
  where
    by : (w : Setting) (s : Seen) → i ≤ s.known n → (b : Bool) → s ≡ (if b then s else after_node_up w s n i)
    by w s known true = refl
    by w s known false = known-stays w s n i known

-- it is known from then on
pub comes-up : (w : Setting) (s : Seen) (n i : ℕ) (runs : Bool) → is_over s.work ≡ false → s.known n < i → is_running s.work ≡ runs
    → (if runs then with_known (after_restart w s n i) n i else with_known s n i) ≡ (if is_over s.work then s else after_node_up w s n i)
comes-up w s n i runs on low is =
    ap (λ b. if b then with_known (after_restart w s n i) n i else with_known s n i) (sym is)
    ∙ ap (λ b. if not b then s else if is_running s.work then with_known (after_restart w s n i) n i else with_known s n i) (sym (lt-ltb (s.known n) i low))
    ∙ ap (λ b. if b then s else after_node_up w s n i) (sym on)
