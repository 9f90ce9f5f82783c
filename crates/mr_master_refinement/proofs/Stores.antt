-- What the machine of a master is told of its store call, and what each event is to the pasts of masters.
use Rattle.std.proofs.Common.{ℕ, suc, ◌≡◌, refl, sym, ◌∙◌, ap, subst, Bool, true, false, not, List, [], ◌∷◌, Option, Some, None, Err, if◌then◌else◌, nat_lt, append-nil, arith}
use Rattle.std.proofs.lemmas.Bool.{eq-eqb, ne_eqb}
use Rattle.mr_ids.specs.declared.id.TaskId.{TaskId}
use Rattle.mr_names.specs.declared.fault.NameFault.{NameFault}
use Rattle.mr_names.specs.declared.op.Op.{Op}
use Rattle.mr_names.specs.declared.op.Op.TheVariants as op
use Rattle.mr_names.specs.Calls as namespace
use Rattle.mr_history.specs.declared.fault.HistoryFault.TheVariants as old
use Rattle.mr_history.specs.State.{State}
use Rattle.mr_history.specs.Segment as segment
use Rattle.mr_history.specs.Calls as segments
use Rattle.mr_master_model.specs.declared.store.StoreAnswer.TheVariants as answer
use Rattle.mr_master_model.specs.Next as next
use Rattle.mr_world_model.specs.Content.{Superseded}
use Rattle.mr_world_model.specs.Packets.{Config, Store, Names, Append_record, Flush, Read_history, Fault, Refused, Envelope, Master, Container, Node}
use Rattle.mr_world_model.specs.Duties.{Master_step, Came, Launches, Expires, Asks}
use Rattle.mr_world_model.specs.World.{World, Event, Start, Crash, Duty, LaunchOn, Deliver, ContainerStep, Compute, Die, NodeRestart, Expire, Weather, Calm, Unavailable, Unanswered, master_act, container_act, duty_act, duty, is_applied, launch_of, reply_of, reply_to, reply_under, seen_by}
use Rattle.mr_world_model.specs.Effect.{effect, not_now, with_master_step}
use Rattle.mr_world_model.specs.Sending.{sent, master_sends}
use Rattle.mr_world_model.specs.Claims.{Limits, world_of}
use Rattle.mr_world_model.specs.Stores.{NamesStand, Stands, call_of_history, reply_of_names, reply_of_history, HasRoom}
use Rattle.mr_world_model.specs.Actors.{Carries}
use Rattle.mr_world_model.specs.Stored.{StoresStand, master}
use Rattle.mr_world_model.proofs.Grows.{is_started}
use Rattle.mr_world_model.proofs.Found.{always}
use Rattle.mr_world_model.proofs.Stores.{stores_are_the_models}
use Rattle.mr_world_model.proofs.Stored.{superseded, stores_go_on}
use Rattle.mr_world_model.proofs.Living.{masters_are_raised}
use Rattle.mr_world_model.proofs.Made.{pasts_are_made}
use Rattle.mr_master_refinement.specs.Steps.{setting, step_of, steps, answer_of, answer_of_names}
use Rattle.mr_master_refinement.specs.Agreement.{machine_seen}
use Rattle.mr_master_refinement.specs.Stores.{MasterMoves, MastersRest, MasterStarts, MasterCrashes, MastersGoOn, StoreCallsAgree, told_of, told_in, is_of_none, is_to_a_master, MastersSend}
use Rattle.mr_master_refinement.proofs.Whole.{masters_agree}

-- ---- the pasts

acted : (cfg : Config) (w : World) (e : Event) (k : ℕ) (x : Master_step) → master_act cfg w e ≡ Some (record { who = k; step = x }) →
    ((j : ℕ) → (effect cfg w e).is_master j ≡ w.is_master j) → sent cfg w e ≡ master_sends cfg w (master_act cfg w e) → MasterMoves cfg w e k x
acted cfg w e k x m living sends = record {
  now = ap steps (ap (λ a. with_master_step w.master_past a k) m ∙ ap (λ b. if b then x ∷ w.master_past k else w.master_past k) (eq-eqb k k refl));
  others = λ j n. ap (λ a. with_master_step w.master_past a j) m ∙ ap (λ b. if b then x ∷ w.master_past j else w.master_past j) (ne_eqb j k n);
  living = living;
  sends = sends ∙ ap (master_sends cfg w) m;
}

starts : (cfg : Config) (within : Limits) (es : List Event) (k kept : ℕ) → not_now cfg (world_of cfg within es) (Start k kept) ≡ None → MasterStarts cfg (world_of cfg within es) k kept
unfolding master_act sent
starts cfg within es k kept e =
    let next : k ≡ suc (world_of cfg within es).fence = is_started cfg (world_of cfg within es) k kept e in record {
      none = (always cfg within es).known.honest.unborn k (omega (arith, next));
      pasts = λ j. refl;
      living = λ j. refl;
      sends = refl;
    }

crashes : (cfg : Config) (w : World) (k kept : ℕ) → MasterCrashes cfg w k kept
unfolding master_act sent
crashes cfg w k kept = record { pasts = λ j. refl; living = λ j. refl; sends = refl }

launches : (cfg : Config) (w : World) (k : ℕ) (t : TaskId) (n : ℕ) → MasterMoves cfg w (LaunchOn k t n) k (Launches (launch_of k (seen_by cfg w k) t n))
unfolding master_act sent
launches cfg w k t n = acted cfg w (LaunchOn k t n) k _ refl (λ j. refl) refl

expires : (cfg : Config) (w : World) (k n : ℕ) → MasterMoves cfg w (Expire k n) k (Expires n)
unfolding master_act sent
expires cfg w k n = acted cfg w (Expire k n) k _ refl (λ j. refl) refl

hears : (cfg : Config) (w : World) (i k : ℕ) (e : Envelope) → Carries w i e → e.to ≡ Master k → MasterMoves cfg w (Deliver i) k (Came e.body)
unfolding master_act container_act sent
hears cfg w i k e c t = acted cfg w (Deliver i) k (Came e.body) (rw (c, t) refl) (λ j. refl) (rw (c, t) (append-nil _))

told-others : (cfg : Config) (w : World) (i : ℕ) (e : Envelope) → Carries w i e → is_to_a_master e.to ≡ false → MastersRest cfg w (Deliver i)
unfolding master_act
told-others cfg w i e c t = by e.to refl t
  where
    by : (a : Rattle.mr_packet.specs.declared.packet.Address.Address) → e.to ≡ a → is_to_a_master a ≡ false → MastersRest cfg w (Deliver i)
    by (Master k) q t = cc
    by (Container d) q t = record { pasts = λ j. rw (c, q) refl; living = λ j. refl }
    by (Node n) q t = record { pasts = λ j. rw (c, q) refl; living = λ j. refl }

rests : (cfg : Config) (w : World) (e : Event) → is_of_none e ≡ true → MastersRest cfg w e
unfolding master_act
rests cfg w (ContainerStep c f) t = record { pasts = λ j. refl; living = λ j. refl }
rests cfg w (Compute c bytes) t = record { pasts = λ j. refl; living = λ j. refl }
rests cfg w (Die c) t = record { pasts = λ j. refl; living = λ j. refl }
rests cfg w (NodeRestart n) t = record { pasts = λ j. refl; living = λ j. refl }
rests cfg w (Start k kept) t = cc
rests cfg w (Crash k kept) t = cc
rests cfg w (Duty k f) t = cc
rests cfg w (LaunchOn k u n) t = cc
rests cfg w (Deliver i) t = cc
rests cfg w (Expire k n) t = cc

pub masters_go_on : MastersGoOn
masters_go_on = record { starts = starts; crashes = crashes; launches = launches; expires = expires; hears = hears; told_others = told-others; rests = rests }

calls : (cfg : Config) (w : World) (k : ℕ) (f : Weather) (call : Store) → duty cfg w k ≡ Some call → MasterMoves cfg w (Duty k f) k (Asks call (reply_under f (reply_of w k call)))
unfolding master_act sent
calls cfg w k f call d = acted cfg w (Duty k f) k _ (ap (duty_act w k f) d) (λ j. refl) refl

-- ---- answers of the namespace

names-fault : (o : Op) → answer_of_names o Fault ≡ answer.Fault
names-fault (op.Mkdirs p) = refl
names-fault (op.Create p closed) = refl
names-fault (op.Append p bytes) = refl
names-fault (op.Close p) = refl
names-fault (op.Delete p) = refl
names-fault (op.Rename p q) = refl
names-fault (op.List p) = refl
names-fault (op.Exists p) = refl
names-fault (op.Read p) = refl
names-fault (op.Bar a) = refl

names-refused : (o : Op) (why : NameFault) → answer_of_names o (Refused why) ≡ answer.Names (Err why)
names-refused (op.Mkdirs p) why = refl
names-refused (op.Create p closed) why = refl
names-refused (op.Append p bytes) why = refl
names-refused (op.Close p) why = refl
names-refused (op.Delete p) why = refl
names-refused (op.Rename p q) why = refl
names-refused (op.List p) why = refl
names-refused (op.Exists p) why = refl
names-refused (op.Read p) why = refl
names-refused (op.Bar a) why = refl

-- an answer is of its call's kind
names-answered : (s : namespace.State) (o : Op) (why : Option NameFault) → answer_of_names o (reply_of_names (namespace.settled why s o).0) ≡ answer.Names (namespace.settled why s o).0
names-answered s o (Some why) = names-refused o why
names-answered s (op.Mkdirs p) None = refl
names-answered s (op.Create p closed) None = refl
names-answered s (op.Append p bytes) None = refl
names-answered s (op.Close p) None = refl
names-answered s (op.Delete p) None = refl
names-answered s (op.Rename p q) None = refl
names-answered s (op.List p) None = refl
names-answered s (op.Exists p) None = refl
names-answered s (op.Read p) None = refl
names-answered s (op.Bar a) None = refl

names-reply : (s : namespace.State) (w : World) (k : ℕ) (o : Op) → NamesStand s w → namespace.passes_limit s.barred o ≡ false → reply_of w k (Names o) ≡ reply_of_names (namespace.call_of s (master k) o).0
unfolding reply_to
names-reply s w k o n l = stores_are_the_models.names_reply s w n (master k) o l

names-superseded : (s : namespace.State) (w : World) (k : ℕ) (o : Op) → NamesStand s w → nat_lt k w.fence ≡ true → answer_of_names o (reply_of w k (Names o)) ≡ answer.Names (namespace.call_of s (master k) o).0
unfolding reply_of
names-superseded s w k o n e = rw (superseded s w k o n e, e, n.fence) (names-refused o (Superseded w.fence))

names-calm : (s : namespace.State) (w : World) (k : ℕ) (o : Op) → NamesStand s w → (nat_lt k w.fence ≡ false → namespace.passes_limit s.barred o ≡ false) →
    answer_of_names o (reply_of w k (Names o)) ≡ answer.Names (namespace.call_of s (master k) o).0
names-calm s w k o n l = by (nat_lt k w.fence) refl
  where
    by : (b : Bool) → nat_lt k w.fence ≡ b → answer_of_names o (reply_of w k (Names o)) ≡ answer.Names (namespace.call_of s (master k) o).0
    by true e = names-superseded s w k o n e
    by false e = ap (answer_of_names o) (names-reply s w k o n (l e)) ∙ names-answered s o (namespace.refused s (master k) o)

names-told : (s : namespace.State) (w : World) (k : ℕ) (f : Weather) (o : Op) → NamesStand s w → (is_applied w k f ≡ true → namespace.passes_limit s.barred o ≡ false) →
    answer_of (Names o) (reply_under f (reply_of w k (Names o))) ≡ told_in f (answer.Names (namespace.call_of s (master k) o).0)
names-told s w k Calm o n l = names-calm s w k o n (λ e. l (ap not e))
names-told s w k Unavailable o n l = names-fault o
names-told s w k Unanswered o n l = names-fault o

-- ---- answers of the history

module _ (h : State) (w : World) (k : ℕ) (st : Stands h w k) where
  late : nat_lt k w.fence ≡ true → nat_lt k h.fence ≡ true
  late e = ap (nat_lt k) st.fence ∙ e

  in-time : nat_lt k w.fence ≡ false → nat_lt k h.fence ≡ false
  in-time e = ap (nat_lt k) st.fence ∙ e

  history-late : (call : Store) (q : segments.Call) → call_of_history call ≡ Some q → nat_lt k w.fence ≡ true → answer_of call (reply_of w k call) ≡ told_of q (segments.call_of h k q).0
  unfolding reply_of
  history-late (Names o) q e b = cc
  history-late (Append_record x) q e b = let z : segments.Append x ≡ q = cc in let a = late b in
      subst (λ y. answer_of (Append_record x) (reply_of w k (Append_record x)) ≡ told_of y (segments.call_of h k y).0) z (rw (b, a, st.fence) refl)
  history-late Flush q e b = let z : segments.Flush ≡ q = cc in let a = late b in
      subst (λ y. answer_of Flush (reply_of w k Flush) ≡ told_of y (segments.call_of h k y).0) z (rw (b, a, st.fence) refl)
  history-late Read_history q e b = let z : segments.Read ≡ q = cc in let a = late b in
      subst (λ y. answer_of Read_history (reply_of w k Read_history) ≡ told_of y (segments.call_of h k y).0) z (rw (b, a, st.fence) refl)

  -- of a record that has room, a flush and a read
  written-is : (x : Rattle.mr_history.specs.declared.record.Record.Record) (s : Bool) →
      answer_of (Append_record x) (reply_of_history (segments.settled (segment.first_of ((s, old.Sealed) ∷ (false, old.Full) ∷ [])) h k (segments.Append x)).0)
      ≡ told_of (segments.Append x) (segments.settled (segment.first_of ((s, old.Sealed) ∷ (false, old.Full) ∷ [])) h k (segments.Append x)).0
  written-is x true = refl
  written-is x false = refl

  flushed-is : (s : Bool) → answer_of Flush (reply_of_history (segments.settled (segment.first_of ((s, old.Sealed) ∷ [])) h k segments.Flush).0) ≡ told_of segments.Flush (segments.settled (segment.first_of ((s, old.Sealed) ∷ [])) h k segments.Flush).0
  flushed-is true = refl
  flushed-is false = refl

  answered-is : (call : Store) (q : segments.Call) → call_of_history call ≡ Some q → nat_lt k w.fence ≡ false → HasRoom h k call → answer_of call (reply_of_history (segments.call_of h k q).0) ≡ told_of q (segments.call_of h k q).0
  answered-is (Names o) q e b room = cc
  answered-is (Append_record x) q e b room = let z : segments.Append x ≡ q = cc in let a = in-time b in
      subst (λ y. answer_of (Append_record x) (reply_of_history (segments.call_of h k y).0) ≡ told_of y (segments.call_of h k y).0) z (rw (a, room.2) (written-is x (segments.segment h k).is_sealed))
  answered-is Flush q e b room = let z : segments.Flush ≡ q = cc in let a = in-time b in
      subst (λ y. answer_of Flush (reply_of_history (segments.call_of h k y).0) ≡ told_of y (segments.call_of h k y).0) z (rw a (flushed-is (segments.segment h k).is_sealed))
  answered-is Read_history q e b room = let z : segments.Read ≡ q = cc in let a = in-time b in
      subst (λ y. answer_of Read_history (reply_of_history (segments.call_of h k y).0) ≡ told_of y (segments.call_of h k y).0) z (rw a refl)

  history-calm : (call : Store) (q : segments.Call) → call_of_history call ≡ Some q → (nat_lt k w.fence ≡ false → HasRoom h k call) → answer_of call (reply_of w k call) ≡ told_of q (segments.call_of h k q).0
  history-calm call q e room = by (nat_lt k w.fence) refl
    where
      by : (b : Bool) → nat_lt k w.fence ≡ b → answer_of call (reply_of w k call) ≡ told_of q (segments.call_of h k q).0
      by true b = history-late call q e b
      by false b = ap (answer_of call) (stores_are_the_models.history_reply h w k st call q e (room b)) ∙ answered-is call q e b (room b)

  history-fault : (call : Store) (q : segments.Call) → call_of_history call ≡ Some q → answer_of call Fault ≡ answer.Fault
  history-fault (Names o) q e = cc
  history-fault (Append_record x) q e = refl
  history-fault Flush q e = refl
  history-fault Read_history q e = refl

  history-told : (f : Weather) (call : Store) (q : segments.Call) → call_of_history call ≡ Some q → (is_applied w k f ≡ true → HasRoom h k call) →
      answer_of call (reply_under f (reply_of w k call)) ≡ told_in f (told_of q (segments.call_of h k q).0)
  history-told Calm call q e room = history-calm call q e (λ b. room (ap not b))
  history-told Unavailable call q e room = history-fault call q e
  history-told Unanswered call q e room = history-fault call q e

history-stands : (cfg : Config) (within : Limits) (es : List Event) (s : namespace.State) (h : State) (k : ℕ) → StoresStand s h (world_of cfg within es) → (world_of cfg within es).is_master k ≡ true → Stands h (world_of cfg within es) k
history-stands cfg within es s h k st m =
    let r = masters_are_raised.raised cfg within es k m in let c = st.sound.count in let b = st.sound.bound in let f = st.fence in
    record { tells = st.tells; fence = st.fence; from = r.0; to = omega (arith, r.1, c, b, f) }

pub store_calls_agree : StoreCallsAgree
store_calls_agree = record {
  names = λ cfg w s h k f o st d l. record {
    told = names-told s w k f o st.namespace l;
    moves = calls cfg w k f (Names o) d;
    left = stores_go_on.names_called cfg w s h k f o st d l;
  };
  history = λ cfg within es s h k f call q st m d e room. record {
    told = history-told h (world_of cfg within es) k (history-stands cfg within es s h k st m) f call q e room;
    moves = calls cfg (world_of cfg within es) k f call d;
    left = stores_go_on.history_called cfg within es s h k f call q st m d e room;
  };
}

-- ---- what a machine sends

sends-so : (cfg : Config) (within : Limits) (es : List Event) (e : Event) (k : ℕ) (x : Master_step) → not_now cfg (world_of cfg within es) e ≡ None →
    master_act cfg (world_of cfg within es) e ≡ Some (record { who = k; step = x }) → MasterMoves cfg (world_of cfg within es) e k x →
    next.sent_by (setting cfg k) (machine_seen cfg k ((world_of cfg within es).master_past k)) (step_of x) ≡ sent cfg (world_of cfg within es) e
sends-so cfg within es e k x n a m =
    (masters_agree cfg k ((world_of cfg within es).master_past k) (pasts_are_made.made cfg within es k)).sends x (pasts_are_made.next cfg within es e (record { who = k; step = x }) n a) ∙ sym m.sends

pub masters_send : MastersSend
unfolding master_act
masters_send = record {
  launches = λ cfg within es k t n q. sends-so cfg within es (LaunchOn k t n) k _ q refl (launches cfg (world_of cfg within es) k t n);
  expires = λ cfg within es k n q. sends-so cfg within es (Expire k n) k _ q refl (expires cfg (world_of cfg within es) k n);
  hears = λ cfg within es i k e c t q. sends-so cfg within es (Deliver i) k _ q (rw (c, t) refl) (hears cfg (world_of cfg within es) i k e c t);
  calls = λ cfg within es k f call d q. sends-so cfg within es (Duty k f) k _ q (ap (duty_act (world_of cfg within es) k f) d) (calls cfg (world_of cfg within es) k f call d);
}
