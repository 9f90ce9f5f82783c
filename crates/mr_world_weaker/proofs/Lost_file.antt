-- Without bars a file is lost: an attempt is told yes, and is given up; a second attempt commits, and is recorded as the winner; then the first clears the place
-- where it is to commit, and with it the winner's file; and the job is committed without it.
use Rattle.std.proofs.Common.{◌≡◌, ◌<◌, refl, sym, ◌∙◌, ap, subst, true, false, List, [], ◌∷◌, ◌++◌, Some, None, inl, inr, arith}
use Rattle.mr_paths.specs.Layout as layout
use Rattle.mr_container.specs.Readings as container
use Rattle.mr_names_tree.specs.declared.node.Kind.TheVariants as kinds
use Rattle.mr_world_model.specs.Ids.{task_eq, staged, part, marker, job_attempt, task_attempt, committed, temporary, commit_started, commit_success, temporary_name, generation_name, attempt_name, task_name, part_name}
use Rattle.mr_world_model.specs.Content.{Op, Dir, File, MkDirs, Create, Append, Close, Delete, Rename, ListDir, Exist, Bar, Missing, entry_at, is_file}
use Rattle.mr_world_model.specs.Records.{AttemptStarted, ReduceSucceeded, winner_in, length_in}
use Rattle.mr_world_model.specs.Packets.{Launch, Kill, Envelope, Store, Names, Append_record, Flush, Fine, Pending, Done, DoneAck, Answer, Outcome, Won, Found, Refused}
use Rattle.mr_world_model.specs.Pasts.{Step, Got, Sent, Computed, Called, wish, computed, wished_op, wished_packet, Node_got, part_at}
use Rattle.mr_world_model.specs.Hearing.{heard, expired, has, named_in, Launched, Running, Committing, List_job}
use Rattle.mr_world_model.specs.Duties.{duty_of, seen, next_seen, opening, told, phase_told, winners_of, newest_maps}
use Rattle.mr_world_model.specs.World.{World, Event, Duty, LaunchOn, Deliver, ContainerStep, Compute, Expire, Calm, opening_world, is_over, as_heard}
use Rattle.mr_world_model.specs.Effect.{happens, run, wants_compute}
use Rattle.mr_world_model.specs.Sending.{to_app, to_node, to_container, to_all}
use Rattle.mr_world_model.specs.Claims.{In, IsMarked, IsReduce, IsToldOutcome, Limits, world_of}
use Rattle.mr_world_model.proofs.Basic.{run-append}
use Rattle.mr_world_model.proofs.Entries.{Lines, reply_in, entry-in}
use Rattle.mr_world_model.proofs.Small.{a0, c0, free, small, t0}
use Rattle.mr_world_weaker.specs.Lacking.{Kind, caller_in, slips_in, weak_happens, weak_run, weak_world_of}
use Rattle.mr_world_weaker.specs.Weaker.{MarkedWithoutFile, TheBarsAreNeeded}
use Rattle.mr_world_weaker.proofs.Given_up.{called_first, master-stays, on-first, second-stays, weak-duty}
use Rattle.mr_world_weaker.proofs.Prefix.{file, k17, kept_dirs, launch, s17, text}
use Rattle.mr_world_weaker.proofs.Rivals.{Both, Holds, a1, alone, begin, c1, called, called_by, gave_up, heard_of, launched, obeyed_by, on-call, on-duty, on-expiry, on-got, on-launch, on-obey, on-packet, on-result, on-send, p1, stepped}
use Rattle.mr_world_weaker.proofs.Slips.{happens-same, only-who-slips, weak_run-append}
use Rattle.mr_world_weaker.proofs.Borne.{nobody-slips}

-- events over which nobody slips through, and which lead to a world that holds so much
record Reached (m : Both) : Type 0 where
  events : List Event
  same : (kd : Kind) → weak_world_of kd small free events ≡ world_of small free events
  holds : Holds (world_of small free events) m

after : {m : Both} (r : Reached m) (e : Event) (n : Both) → ((kd : Kind) → slips_in kd (world_of small free r.events) (caller_in (world_of small free r.events) e) ≡ false) →
    Holds (happens small free (world_of small free r.events) e) n → Reached n
unfolding run weak_run
after r e n s h = record {
  events = r.events ++ e ∷ [];
  same = λ kd. weak_run-append kd small free opening_world r.events (e ∷ []) ∙ (ap (λ w. weak_happens kd small free w e) (r.same kd)
      ∙ (happens-same kd small free (world_of small free r.events) e (λ p l. s kd) ∙ sym (run-append small free opening_world r.events (e ∷ []))));
  holds = subst (λ w. Holds w n) (sym (run-append small free opening_world r.events (e ∷ []))) h;
}

duties : {m : Both} (r : Reached m) (call : Store) → duty_of small 1 m.seen m.seen.phase ≡ Some call → Reached (called m call)
duties r call q = after r (Duty 1 Calm) _ (λ kd. master-stays kd r.holds) (on-duty r.holds call q)

calls : {m : Both} (r : Reached m) (op : Op) → wished_op 1 a1 (computed m.second) (wish 0 a1 m.second) ≡ Some op → wants_compute (wish 0 a1 m.second) ≡ false →
    m.place ≡ Some p1 → m.alive ≡ true → has m.barred a1 ≡ false → is_over (wish 0 a1 (Called op (as_heard (reply_in m.entries op)) ∷ m.second)) ≡ false → Reached (called_by m op)
calls r op q c z a u o = after r (ContainerStep c1 Calm) _ (λ kd. second-stays kd r.holds z u) (on-call r.holds op q c z a u o)

sends : {m : Both} (r : Reached m) (e : Envelope) → wished_op 1 a1 (computed m.second) (wish 0 a1 m.second) ≡ None →
    wished_packet c1 a1 (computed m.second) (wish 0 a1 m.second) ≡ Some e → wants_compute (wish 0 a1 m.second) ≡ false →
    m.place ≡ Some p1 → m.alive ≡ true → has m.barred a1 ≡ false → is_over (wish 0 a1 (Sent e.body ∷ m.second)) ≡ false → Reached (stepped m (Sent e.body) (e ∷ []))
sends r e q s c z a u o = after r (ContainerStep c1 Calm) _ (λ kd. second-stays kd r.holds z u) (on-send r.holds e q s c z a u o)

-- The first attempt was told yes, and has looked. Its node is given up, and it is barred

abbrev n0 : Both
n0 = alone k17

q0 : Reached n0
q0 = record {
  events = s17.events;
  same = λ kd. only-who-slips kd small free s17.events (nobody-slips kd small free s17.events (s17.borne kd));
  holds = begin s17.events k17 s17.stands refl refl refl;
}

abbrev n1 : Both
n1 = gave_up n0

q1 : Reached n1
unfolding duty_of next_seen told phase_told seen heard expired winners_of winner_in length_in newest_maps named_in wish container.seen container.next_seen container.after_packet container.same_attempt container.wish_called computed wished_op wished_packet generation_name attempt_name task_name part_name layout.part task_eq to_all
q1 = after q0 (Expire 1 0) _ (λ kd. refl) (on-expiry q0.holds refl)

abbrev n2 : Both
n2 = called n1 (Names (Bar a0))

q2 : Reached n2
unfolding duty_of next_seen told phase_told seen heard expired winners_of winner_in length_in newest_maps named_in wish container.seen container.next_seen container.after_packet container.same_attempt container.wish_called computed wished_op wished_packet generation_name attempt_name task_name part_name layout.part task_eq to_all
q2 = duties q1 (Names (Bar a0)) refl

-- A second attempt is launched; its container starts and has its result

abbrev n3 : Both
n3 = launched n2

q3 : Reached n3
unfolding duty_of next_seen told phase_told seen heard expired winners_of winner_in length_in newest_maps named_in wish container.seen container.next_seen container.after_packet container.same_attempt container.wish_called computed wished_op wished_packet generation_name attempt_name task_name part_name layout.part task_eq to_all
q3 = after q2 (LaunchOn 1 t0 0) _ (λ kd. refl) (on-launch q2.holds refl refl)

abbrev n4 : Both
n4 = obeyed_by n3

q4 : Reached n4
unfolding duty_of next_seen told phase_told seen heard expired winners_of winner_in length_in newest_maps named_in wish container.seen container.next_seen container.after_packet container.same_attempt container.wish_called computed wished_op wished_packet generation_name attempt_name task_name part_name layout.part task_eq to_all
q4 = after q3 (Deliver 4) _ (λ kd. refl) (on-obey q3.holds 4 refl refl)

abbrev n5 : Both
n5 = stepped n4 (Computed text) []

q5 : Reached n5
unfolding duty_of next_seen told phase_told seen heard expired winners_of winner_in length_in newest_maps named_in wish container.seen container.next_seen container.after_packet container.same_attempt container.wish_called computed wished_op wished_packet generation_name attempt_name task_name part_name layout.part task_eq to_all
q5 = after q4 (Compute c1 text) _ (λ kd. refl) (on-result q4.holds text refl refl refl)

-- so far
abbrev launches : List Launched
launches = record { attempt = a1; container = c1; node = 0; incarnation = 1 } ∷ launch ∷ []

abbrev first_dirs : Lines
first_dirs = (job_attempt 1 ++ temporary_name ∷ [], Dir) ∷ (task_attempt 1 a0, Dir) ∷ (part_at 1 a0, file) ∷ []

abbrev k5 : Both
k5 = record {
  entries = kept_dirs ++ (first_dirs ++ (staged, Dir) ∷ []);
  barred = a0 ∷ [];
  seen = record opening {
    phase = Running;
    launched = launches;
    asked = a0 ∷ [];
    ended = record { attempt = a0; is_failure = false } ∷ [];
    killed = c0 ∷ [];
    bars = a0 ∷ [];
    due = AttemptStarted a0 0 ∷ AttemptStarted a1 0 ∷ [];
  };
  bag = k17.bag ++ to_node 0 (Kill c0) ∷ to_node 0 (Launch c1 a1 1) ∷ [];
  first = k17.past;
  second = Computed text ∷ [];
  place = Some p1;
  alive = true;
  node = Node_got (Launch c1 a1 1) ∷ Node_got (Launch c0 a0 1) ∷ [];
}

s5 : Reached k5
unfolding duty_of next_seen told phase_told seen heard expired winners_of winner_in length_in newest_maps named_in wish container.seen container.next_seen container.after_packet container.same_attempt container.wish_called computed wished_op wished_packet generation_name attempt_name task_name part_name layout.part task_eq to_all
s5 = q5

-- It writes its file

abbrev n6 : Both
n6 = called_by k5 (MkDirs (task_attempt 1 a1))

q6 : Reached n6
unfolding duty_of next_seen told phase_told seen heard expired winners_of winner_in length_in newest_maps named_in wish container.seen container.next_seen container.after_packet container.same_attempt container.wish_called computed wished_op wished_packet generation_name attempt_name task_name part_name layout.part task_eq to_all
q6 = calls s5 (MkDirs (task_attempt 1 a1)) refl refl refl refl refl refl

abbrev n7 : Both
n7 = called_by n6 (Create (part_at 1 a1) false)

q7 : Reached n7
unfolding duty_of next_seen told phase_told seen heard expired winners_of winner_in length_in newest_maps named_in wish container.seen container.next_seen container.after_packet container.same_attempt container.wish_called computed wished_op wished_packet generation_name attempt_name task_name part_name layout.part task_eq to_all
q7 = calls q6 (Create (part_at 1 a1) false) refl refl refl refl refl refl

abbrev n8 : Both
n8 = called_by n7 (Append (part_at 1 a1) text)

q8 : Reached n8
unfolding duty_of next_seen told phase_told seen heard expired winners_of winner_in length_in newest_maps named_in wish container.seen container.next_seen container.after_packet container.same_attempt container.wish_called computed wished_op wished_packet generation_name attempt_name task_name part_name layout.part task_eq to_all
q8 = calls q7 (Append (part_at 1 a1) text) refl refl refl refl refl refl

abbrev n9 : Both
n9 = called_by n8 (Close (part_at 1 a1))

q9 : Reached n9
unfolding duty_of next_seen told phase_told seen heard expired winners_of winner_in length_in newest_maps named_in wish container.seen container.next_seen container.after_packet container.same_attempt container.wish_called computed wished_op wished_packet generation_name attempt_name task_name part_name layout.part task_eq to_all
q9 = calls q8 (Close (part_at 1 a1)) refl refl refl refl refl refl

abbrev n10 : Both
n10 = called_by n9 (Exist (task_attempt 1 a1))

q10 : Reached n10
unfolding duty_of next_seen told phase_told seen heard expired winners_of winner_in length_in newest_maps named_in wish container.seen container.next_seen container.after_packet container.same_attempt container.wish_called computed wished_op wished_packet generation_name attempt_name task_name part_name layout.part task_eq to_all
q10 = calls q9 (Exist (task_attempt 1 a1)) refl refl refl refl refl refl

abbrev past10 : List Step
past10 = Called (Exist (task_attempt 1 a1)) (as_heard (Found (Some kinds.Dir))) ∷ Called (Close (part_at 1 a1)) (as_heard Fine) ∷ Called (Append (part_at 1 a1) text) (as_heard Fine) ∷
    Called (Create (part_at 1 a1) false) (as_heard Fine) ∷ Called (MkDirs (task_attempt 1 a1)) (as_heard Fine) ∷ Computed text ∷ []

abbrev k10 : Both
k10 = record k5 {
  entries = kept_dirs ++ (first_dirs ++ (task_attempt 1 a1, Dir) ∷ (part_at 1 a1, file) ∷ (staged, Dir) ∷ []);
  second = past10;
}

s10 : Reached k10
unfolding duty_of next_seen told phase_told seen heard expired winners_of winner_in length_in newest_maps named_in wish container.seen container.next_seen container.after_packet container.same_attempt container.wish_called computed wished_op wished_packet generation_name attempt_name task_name part_name layout.part task_eq to_all
s10 = q10

-- asks whether it may commit, and is told yes

abbrev n11 : Both
n11 = stepped k10 (Sent (Pending a1)) (to_app 1 (Pending a1) ∷ [])

q11 : Reached n11
unfolding duty_of next_seen told phase_told seen heard expired winners_of winner_in length_in newest_maps named_in wish container.seen container.next_seen container.after_packet container.same_attempt container.wish_called computed wished_op wished_packet generation_name attempt_name task_name part_name layout.part task_eq to_all
q11 = sends s10 (to_app 1 (Pending a1)) refl refl refl refl refl refl refl

abbrev n12 : Both
n12 = heard_of n11 (Pending a1)

q12 : Reached n12
unfolding duty_of next_seen told phase_told seen heard expired winners_of winner_in length_in newest_maps named_in wish container.seen container.next_seen container.after_packet container.same_attempt container.wish_called computed wished_op wished_packet generation_name attempt_name task_name part_name layout.part task_eq to_all
q12 = after q11 (Deliver 5) _ (λ kd. refl) (on-packet q11.holds 5 (Pending a1) refl)

abbrev n13 : Both
n13 = stepped n12 (Got (Answer a1 true)) []

q13 : Reached n13
unfolding duty_of next_seen told phase_told seen heard expired winners_of winner_in length_in newest_maps named_in wish container.seen container.next_seen container.after_packet container.same_attempt container.wish_called computed wished_op wished_packet generation_name attempt_name task_name part_name layout.part task_eq to_all
q13 = after q12 (Deliver 6) _ (λ kd. refl) (on-got q12.holds 6 (Answer a1 true) refl refl refl refl)

-- commits, and reports

abbrev n14 : Both
n14 = called_by n13 (Exist (task_attempt 1 a1))

q14 : Reached n14
unfolding duty_of next_seen told phase_told seen heard expired winners_of winner_in length_in newest_maps named_in wish container.seen container.next_seen container.after_packet container.same_attempt container.wish_called computed wished_op wished_packet generation_name attempt_name task_name part_name layout.part task_eq to_all
q14 = calls q13 (Exist (task_attempt 1 a1)) refl refl refl refl refl refl

abbrev n15 : Both
n15 = called_by n14 (Delete (committed 1 t0))

q15 : Reached n15
unfolding duty_of next_seen told phase_told seen heard expired winners_of winner_in length_in newest_maps named_in wish container.seen container.next_seen container.after_packet container.same_attempt container.wish_called computed wished_op wished_packet generation_name attempt_name task_name part_name layout.part task_eq to_all
q15 = calls q14 (Delete (committed 1 t0)) refl refl refl refl refl refl

abbrev n16 : Both
n16 = called_by n15 (Rename (task_attempt 1 a1) (committed 1 t0))

q16 : Reached n16
unfolding duty_of next_seen told phase_told seen heard expired winners_of winner_in length_in newest_maps named_in wish container.seen container.next_seen container.after_packet container.same_attempt container.wish_called computed wished_op wished_packet generation_name attempt_name task_name part_name layout.part task_eq to_all
q16 = calls q15 (Rename (task_attempt 1 a1) (committed 1 t0)) refl refl refl refl refl refl

abbrev n17 : Both
n17 = stepped n16 (Sent (Done a1 (Some 2))) (to_app 1 (Done a1 (Some 2)) ∷ [])

q17 : Reached n17
unfolding duty_of next_seen told phase_told seen heard expired winners_of winner_in length_in newest_maps named_in wish container.seen container.next_seen container.after_packet container.same_attempt container.wish_called computed wished_op wished_packet generation_name attempt_name task_name part_name layout.part task_eq to_all
q17 = sends q16 (to_app 1 (Done a1 (Some 2))) refl refl refl refl refl refl refl

abbrev won_dirs : Lines
won_dirs = (committed 1 t0, Dir) ∷ (committed 1 t0 ++ part_name t0 ∷ [], file) ∷ []

abbrev k17' : Both
k17' = record k10 {
  entries = kept_dirs ++ (first_dirs ++ (won_dirs ++ (staged, Dir) ∷ []));
  seen = record (k5.seen) { asked = a0 ∷ a1 ∷ [] };
  bag = k5.bag ++ to_app 1 (Pending a1) ∷ to_container c1 (Answer a1 true) ∷ to_app 1 (Done a1 (Some 2)) ∷ [];
  second = Sent (Done a1 (Some 2)) ∷ Called (Rename (task_attempt 1 a1) (committed 1 t0)) (as_heard Fine) ∷ Called (Delete (committed 1 t0)) (as_heard (Refused Missing)) ∷
      Called (Exist (task_attempt 1 a1)) (as_heard (Found (Some kinds.Dir))) ∷ Got (Answer a1 true) ∷ Sent (Pending a1) ∷ past10;
}

s17' : Reached k17'
unfolding duty_of next_seen told phase_told seen heard expired winners_of winner_in length_in newest_maps named_in wish container.seen container.next_seen container.after_packet container.same_attempt container.wish_called computed wished_op wished_packet generation_name attempt_name task_name part_name layout.part task_eq to_all
s17' = q17

-- It has won, and the job's commit begins

abbrev n18 : Both
n18 = heard_of k17' (Done a1 (Some 2))

q18 : Reached n18
unfolding duty_of next_seen told phase_told seen heard expired winners_of winner_in length_in newest_maps named_in wish container.seen container.next_seen container.after_packet container.same_attempt container.wish_called computed wished_op wished_packet generation_name attempt_name task_name part_name layout.part task_eq to_all
q18 = after s17' (Deliver 7) _ (λ kd. refl) (on-packet s17'.holds 7 (Done a1 (Some 2)) refl)

abbrev n19 : Both
n19 = called n18 (Append_record (AttemptStarted a0 0))

q19 : Reached n19
unfolding duty_of next_seen told phase_told seen heard expired winners_of winner_in length_in newest_maps named_in wish container.seen container.next_seen container.after_packet container.same_attempt container.wish_called computed wished_op wished_packet generation_name attempt_name task_name part_name layout.part task_eq to_all
q19 = duties q18 (Append_record (AttemptStarted a0 0)) refl

abbrev n20 : Both
n20 = called n19 (Append_record (AttemptStarted a1 0))

q20 : Reached n20
unfolding duty_of next_seen told phase_told seen heard expired winners_of winner_in length_in newest_maps named_in wish container.seen container.next_seen container.after_packet container.same_attempt container.wish_called computed wished_op wished_packet generation_name attempt_name task_name part_name layout.part task_eq to_all
q20 = duties q19 (Append_record (AttemptStarted a1 0)) refl

abbrev n21 : Both
n21 = called n20 (Append_record (ReduceSucceeded a1 (Some 2)))

q21 : Reached n21
unfolding duty_of next_seen told phase_told seen heard expired winners_of winner_in length_in newest_maps named_in wish container.seen container.next_seen container.after_packet container.same_attempt container.wish_called computed wished_op wished_packet generation_name attempt_name task_name part_name layout.part task_eq to_all
q21 = duties q20 (Append_record (ReduceSucceeded a1 (Some 2))) refl

abbrev n22 : Both
n22 = called n21 (Flush)

q22 : Reached n22
unfolding duty_of next_seen told phase_told seen heard expired winners_of winner_in length_in newest_maps named_in wish container.seen container.next_seen container.after_packet container.same_attempt container.wish_called computed wished_op wished_packet generation_name attempt_name task_name part_name layout.part task_eq to_all
q22 = duties q21 (Flush) refl

abbrev n23 : Both
n23 = called n22 (Names (Create commit_started true))

q23 : Reached n23
unfolding duty_of next_seen told phase_told seen heard expired winners_of winner_in length_in newest_maps named_in wish container.seen container.next_seen container.after_packet container.same_attempt container.wish_called computed wished_op wished_packet generation_name attempt_name task_name part_name layout.part task_eq to_all
q23 = duties q22 (Names (Create commit_started true)) refl

abbrev k23 : Both
k23 = record k17' {
  entries = kept_dirs ++ (first_dirs ++ (won_dirs ++ (staged, Dir) ∷ (commit_started, File [] true) ∷ []));
  seen = record (k17'.seen) { phase = Committing List_job; accepted = a1 ∷ []; recorded = a1 ∷ []; due = [] };
  bag = k17'.bag ++ to_container c1 (DoneAck a1) ∷ to_node 0 (Won t0 a1) ∷ [];
}

s23 : Reached k23
unfolding duty_of next_seen told phase_told seen heard expired winners_of winner_in length_in newest_maps named_in wish container.seen container.next_seen container.after_packet container.same_attempt container.wish_called computed wished_op wished_packet generation_name attempt_name task_name part_name layout.part task_eq to_all
s23 = q23

-- The first attempt was only slow. It clears the place where it is to commit, and the job is committed without a file

-- events that lead to a world that holds so much, where bars turn nobody away
record Late (kd : Kind) (m : Both) : Type 0 where
  events : List Event
  holds : Holds (weak_world_of kd small free events) m

late : (kd : Kind) {m : Both} (r : Late kd m) (call : Store) → duty_of small 1 m.seen m.seen.phase ≡ Some call → Late kd (called m call)
unfolding weak_run
late kd {m} r call q = record {
  events = r.events ++ Duty 1 Calm ∷ [];
  holds = subst (λ w. Holds w (called m call)) (sym (weak_run-append kd small free opening_world r.events (Duty 1 Calm ∷ []))) (weak-duty kd r.holds call q);
}

abbrev d0 : Both
d0 = called_first k23 (Delete (committed 1 t0))

cleared : (kd : Kind) → kd.bars ≡ false → Holds (weak_happens kd small free (world_of small free s23.events) (ContainerStep c0 Calm)) d0
unfolding duty_of next_seen told phase_told seen heard expired winners_of winner_in length_in newest_maps named_in wish container.seen container.next_seen container.after_packet container.same_attempt container.wish_called computed wished_op wished_packet generation_name attempt_name task_name part_name layout.part task_eq to_all
cleared kd l = on-first kd l s23.holds (Delete (committed 1 t0)) refl refl refl refl

t0' : (kd : Kind) → kd.bars ≡ false → Late kd d0
unfolding weak_run
t0' kd l = record {
  events = s23.events ++ ContainerStep c0 Calm ∷ [];
  holds = subst (λ w. Holds w d0) (sym (weak_run-append kd small free opening_world s23.events (ContainerStep c0 Calm ∷ [])))
      (subst (λ w. Holds (weak_happens kd small free w (ContainerStep c0 Calm)) d0) (sym (s23.same kd)) (cleared kd l));
}

abbrev d1 : Both
d1 = called d0 (Names (ListDir (job_attempt 1)))

t1 : (kd : Kind) → kd.bars ≡ false → Late kd d1
unfolding duty_of next_seen told phase_told seen heard expired winners_of winner_in length_in newest_maps named_in wish container.seen container.next_seen container.after_packet container.same_attempt container.wish_called computed wished_op wished_packet generation_name attempt_name task_name part_name layout.part task_eq to_all
t1 kd l = late kd (t0' kd l) (Names (ListDir (job_attempt 1))) refl

abbrev d2 : Both
d2 = called d1 (Names (Delete temporary))

t2 : (kd : Kind) → kd.bars ≡ false → Late kd d2
unfolding duty_of next_seen told phase_told seen heard expired winners_of winner_in length_in newest_maps named_in wish container.seen container.next_seen container.after_packet container.same_attempt container.wish_called computed wished_op wished_packet generation_name attempt_name task_name part_name layout.part task_eq to_all
t2 kd l = late kd (t1 kd l) (Names (Delete temporary)) refl

abbrev d3 : Both
d3 = called d2 (Names (Create marker true))

t3 : (kd : Kind) → kd.bars ≡ false → Late kd d3
unfolding duty_of next_seen told phase_told seen heard expired winners_of winner_in length_in newest_maps named_in wish container.seen container.next_seen container.after_packet container.same_attempt container.wish_called computed wished_op wished_packet generation_name attempt_name task_name part_name layout.part task_eq to_all
t3 kd l = late kd (t2 kd l) (Names (Create marker true)) refl

abbrev d4 : Both
d4 = called d3 (Names (Create commit_success true))

t4 : (kd : Kind) → kd.bars ≡ false → Late kd d4
unfolding duty_of next_seen told phase_told seen heard expired winners_of winner_in length_in newest_maps named_in wish container.seen container.next_seen container.after_packet container.same_attempt container.wish_called computed wished_op wished_packet generation_name attempt_name task_name part_name layout.part task_eq to_all
t4 kd l = late kd (t3 kd l) (Names (Create commit_success true)) refl

-- What is there then

abbrev last : (kd : Kind) → kd.bars ≡ false → World
last kd l = weak_world_of kd small free (t4 kd l).events

succeeded : (kd : Kind) (l : kd.bars ≡ false) → IsToldOutcome (last kd l) true
unfolding duty_of next_seen told phase_told seen heard expired winners_of winner_in length_in newest_maps named_in wish container.seen container.next_seen container.after_packet container.same_attempt container.wish_called computed wished_op wished_packet generation_name attempt_name task_name part_name layout.part task_eq to_all
succeeded kd l = (to_node 0 (Outcome true), subst (λ b. In (to_node 0 (Outcome true)) b) (sym (t4 kd l).holds.bag) (inr (inr (inr (inr (inr (inr (inr (inr (inr (inr (inl refl))))))))))), refl)

marked : (kd : Kind) (l : kd.bars ≡ false) → IsMarked (last kd l)
unfolding duty_of next_seen told phase_told seen heard expired winners_of winner_in length_in newest_maps named_in wish container.seen container.next_seen container.after_packet container.same_attempt container.wish_called computed wished_op wished_packet generation_name attempt_name task_name part_name layout.part task_eq to_all
marked kd l = ap is_file (entry-in (last kd l).content d4.entries (t4 kd l).holds.entries marker)

missing : (kd : Kind) (l : kd.bars ≡ false) → entry_at (last kd l).content (part t0) ≡ None
unfolding duty_of next_seen told phase_told seen heard expired winners_of winner_in length_in newest_maps named_in wish container.seen container.next_seen container.after_packet container.same_attempt container.wish_called computed wished_op wished_packet generation_name attempt_name task_name part_name layout.part task_eq to_all
missing kd l = entry-in (last kd l).content d4.entries (t4 kd l).holds.entries (part t0)

reduce : IsReduce small t0
reduce = record { is = refl; small = one }
  where
    one : 0 < 1
    one = omega arith

lost : (kd : Kind) → kd.bars ≡ false → MarkedWithoutFile kd small free
lost kd l = record { events = (t4 kd l).events; marked = marked kd l; succeeded = succeeded kd l; task = t0; reduce = reduce; missing = missing kd l }

unlimited : (within : Limits) → ((w : World) (e : Event) → within w e ≡ true) → within ≡ free
unlimited within f = λ i w e. f w e i

pub bars-needed : TheBarsAreNeeded
bars-needed kd within l f = (small, subst (λ z. MarkedWithoutFile kd small z) (sym (unlimited within f)) (lost kd l))
