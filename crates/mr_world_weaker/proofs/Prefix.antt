-- The smallest job, event by event, until its master has begun to commit it: one reduce, no split. As `Reached` of mr_world_model, with what a store bears.
use Rattle.std.proofs.Common.{ℕ, ◌≡◌, refl, sym, ◌∙◌, ap, subst, Bool, true, false, ◌||◌, List, [], ◌∷◌, ◌++◌, Some, None}
use Rattle.std.specs.FinMap.Entries.{put}
use Rattle.mr_paths.specs.Path.{path_cmp}
use Rattle.mr_paths.specs.Layout as layout
use Rattle.mr_world_model.specs.Ids.{task_eq, dest, staged, job_attempt, task_attempt, committed, temporary, commit_started, commit_success, commit_fail, temporary_name, generation_name, attempt_name, task_name, part_name}
use Rattle.mr_world_model.specs.Content.{Op, Dir, File, MkDirs, Create, Append, Close, Delete, Rename, Exist, Missing}
use Rattle.mr_world_model.specs.Records.{AttemptStarted, ReduceSucceeded, winner_in, length_in, whole_in}
use Rattle.mr_world_model.specs.Packets.{Launch, Envelope, Store, Names, Append_record, Flush, Read_history, Fine, Pending, Done, DoneAck, Answer, Won, Found, Refused}
use Rattle.mr_world_model.specs.Pasts.{Step, Got, Sent, Computed, Called, wish, computed, wished_op, wished_packet, Node_got, part_at}
use Rattle.mr_container.specs.Readings as container
use Rattle.mr_world_model.specs.Hearing.{heard, named_in, Launched, Running, Committing, List_job}
use Rattle.mr_names_tree.specs.declared.node.Node.{Node}
use Rattle.mr_names_tree.specs.declared.node.Kind.TheVariants as kinds
use Rattle.mr_world_model.specs.Duties.{duty_of, seen, next_seen, opening, told, phase_told, winners_of, newest_maps}
use Rattle.mr_world_model.specs.World.{Event, Start, Duty, LaunchOn, Deliver, ContainerStep, Compute, Calm, opening_world, barred_left, is_over, ends, obeyed, call_of, master_act, container_act, as_heard}
use Rattle.mr_world_model.specs.Effect.{happens, run, wants_compute, not_now, node_past_after}
use Rattle.mr_world_model.specs.Sending.{to_app, to_node, to_container, to_all, sent}
use Rattle.mr_world_model.specs.Claims.{world_of}
use Rattle.mr_world_model.proofs.Basic.{run-append}
use Rattle.mr_world_model.proofs.Entries.{Lines, reply_in, entries-put, entries-empty}
use Rattle.mr_world_model.proofs.Small
use Rattle.mr_world_weaker.specs.Lacking.{Kind, AreBorne, is_borne}

-- events that lead to a world that holds so much
pub record Reached (m : Small.Small) : Type 0 where
  pub events : List Event
  pub borne : (kd : Kind) → AreBorne kd events
  pub stands : Small.Stands (world_of Small.small Small.free events) m

pub borne-more : (kd : Kind) (es : List Event) (e : Event) → AreBorne kd es → is_borne kd e ≡ true → AreBorne kd (es ++ e ∷ [])
borne-more kd [] e b t = (t, tt)
borne-more kd (x ∷ es) e b t = (b.0, borne-more kd es e b.1 t)

after : {m : Small.Small} (r : Reached m) (e : Event) (n : Small.Small) → ((kd : Kind) → is_borne kd e ≡ true) → Small.Stands (happens Small.small Small.free (world_of Small.small Small.free r.events) e) n → Reached n
unfolding run
after r e n t h = record {
  events = r.events ++ e ∷ [];
  borne = λ kd. borne-more kd r.events e (r.borne kd) (t kd);
  stands = subst (λ w. Small.Stands w n) (sym (run-append Small.small Small.free opening_world r.events (e ∷ []))) h;
}

abbrev m0 : Small.Small
m0 = record {
  entries = put path_cmp staged Dir (put path_cmp [] Dir []);
  seen = opening;
  bag = [];
  past = [];
  place = None;
  alive = false;
  node = [];
}

begins : Small.Stands (happens Small.small Small.free opening_world (Start 1 0)) m0
unfolding not_now call_of master_act container_act obeyed ends sent seen node_past_after whole_in
begins = rw (Small.taken opening_world (Start 1 0) refl) (record {
  entries = entries-put _ staged Dir ∙ ap (put path_cmp staged Dir) (entries-put _ [] Dir ∙ ap (put path_cmp [] Dir) entries-empty);
  fence = refl;
  barred = refl;
  unsealed = refl;
  older = refl;
  master = refl;
  seen = refl;
  bag = refl;
  past = refl;
  place = refl;
  alive = refl;
  node = refl;
})

first : (f : Bool) → (f || true) ≡ true
first true = refl
first false = refl

r0 : Reached m0
unfolding run
r0 = record { events = Start 1 0 ∷ []; borne = λ kd. (first kd.fence, tt); stands = begins }

duties : {m : Small.Small} (r : Reached m) (call : Store) → duty_of Small.small 1 m.seen m.seen.phase ≡ Some call → barred_left [] call ≡ [] → Reached (Small.called m call)
duties r call q b = after r (Duty 1 Calm) _ (λ kd. refl) (Small.on-duty r.stands call q b)

calls : {m : Small.Small} (r : Reached m) (op : Op) → wished_op 1 Small.a0 (computed m.past) (wish 0 Small.a0 m.past) ≡ Some op → wants_compute (wish 0 Small.a0 m.past) ≡ false →
    m.place ≡ Some Small.p0 → m.alive ≡ true → barred_left [] (Names op) ≡ [] → is_over (wish 0 Small.a0 (Called op (as_heard (reply_in m.entries op)) ∷ m.past)) ≡ false → Reached (Small.called_by m op)
calls r op q c z a b o = after r (ContainerStep Small.c0 Calm) _ (λ kd. refl) (Small.on-call r.stands op q c z a b o)

sends : {m : Small.Small} (r : Reached m) (e : Envelope) → wished_op 1 Small.a0 (computed m.past) (wish 0 Small.a0 m.past) ≡ None →
    wished_packet Small.c0 Small.a0 (computed m.past) (wish 0 Small.a0 m.past) ≡ Some e → wants_compute (wish 0 Small.a0 m.past) ≡ false →
    m.place ≡ Some Small.p0 → m.alive ≡ true → is_over (wish 0 Small.a0 (Sent e.body ∷ m.past)) ≡ false → Reached (Small.stepped m (Sent e.body) (e ∷ []))
sends r e q s c z a o = after r (ContainerStep Small.c0 Calm) _ (λ kd. refl) (Small.on-send r.stands e q s c z a o)

-- the output of the reduce
abbrev pub text : List ℕ
text = 97 ∷ 10 ∷ []

-- what the master has launched
abbrev pub launch : Launched
launch = record { attempt = Small.a0; container = Small.c0; node = 0; incarnation = 1 }

abbrev pub kept_dirs : Lines
kept_dirs = ([], Dir) ∷ (dest, Dir) ∷ (temporary, Dir) ∷ (job_attempt 1, Dir) ∷ []

abbrev pub file : Node
file = File text true

-- The master looks for marks, reads, and makes its directory

abbrev m1 : Small.Small
m1 = Small.called m0 (Names (Exist commit_success))

r1 : Reached m1
unfolding duty_of next_seen told phase_told seen heard winners_of winner_in length_in newest_maps named_in wish container.seen container.next_seen container.after_packet container.same_attempt container.wish_called computed wished_op wished_packet generation_name attempt_name task_name part_name layout.part task_eq to_all
r1 = duties r0 (Names (Exist commit_success)) refl refl

abbrev m2 : Small.Small
m2 = Small.called m1 (Names (Exist commit_fail))

r2 : Reached m2
unfolding duty_of next_seen told phase_told seen heard winners_of winner_in length_in newest_maps named_in wish container.seen container.next_seen container.after_packet container.same_attempt container.wish_called computed wished_op wished_packet generation_name attempt_name task_name part_name layout.part task_eq to_all
r2 = duties r1 (Names (Exist commit_fail)) refl refl

abbrev m3 : Small.Small
m3 = Small.called m2 (Names (Exist commit_started))

r3 : Reached m3
unfolding duty_of next_seen told phase_told seen heard winners_of winner_in length_in newest_maps named_in wish container.seen container.next_seen container.after_packet container.same_attempt container.wish_called computed wished_op wished_packet generation_name attempt_name task_name part_name layout.part task_eq to_all
r3 = duties r2 (Names (Exist commit_started)) refl refl

abbrev m4 : Small.Small
m4 = Small.called m3 (Read_history)

r4 : Reached m4
unfolding duty_of next_seen told phase_told seen heard winners_of winner_in length_in newest_maps named_in wish container.seen container.next_seen container.after_packet container.same_attempt container.wish_called computed wished_op wished_packet generation_name attempt_name task_name part_name layout.part task_eq to_all
r4 = duties r3 (Read_history) refl refl

abbrev m5 : Small.Small
m5 = Small.called m4 (Names (MkDirs (job_attempt 1)))

r5 : Reached m5
unfolding duty_of next_seen told phase_told seen heard winners_of winner_in length_in newest_maps named_in wish container.seen container.next_seen container.after_packet container.same_attempt container.wish_called computed wished_op wished_packet generation_name attempt_name task_name part_name layout.part task_eq to_all
r5 = duties r4 (Names (MkDirs (job_attempt 1))) refl refl

-- it launches the reduce, whose container starts and has its result

abbrev m6 : Small.Small
m6 = Small.launched m5

r6 : Reached m6
unfolding duty_of next_seen told phase_told seen heard winners_of winner_in length_in newest_maps named_in wish container.seen container.next_seen container.after_packet container.same_attempt container.wish_called computed wished_op wished_packet generation_name attempt_name task_name part_name layout.part task_eq to_all
r6 = after r5 (LaunchOn 1 Small.t0 0) _ (λ kd. refl) (Small.on-launch r5.stands refl refl)

abbrev m7 : Small.Small
m7 = Small.obeyed_by m6

r7 : Reached m7
unfolding duty_of next_seen told phase_told seen heard winners_of winner_in length_in newest_maps named_in wish container.seen container.next_seen container.after_packet container.same_attempt container.wish_called computed wished_op wished_packet generation_name attempt_name task_name part_name layout.part task_eq to_all
r7 = after r6 (Deliver 0) _ (λ kd. refl) (Small.on-obey r6.stands 0 refl refl)

abbrev m8 : Small.Small
m8 = Small.stepped m7 (Computed text) []

r8 : Reached m8
unfolding duty_of next_seen told phase_told seen heard winners_of winner_in length_in newest_maps named_in wish container.seen container.next_seen container.after_packet container.same_attempt container.wish_called computed wished_op wished_packet generation_name attempt_name task_name part_name layout.part task_eq to_all
r8 = after r7 (Compute Small.c0 text) _ (λ kd. refl) (Small.on-result r7.stands text refl refl refl)

-- so far
abbrev pub past8 : List Step
past8 = Computed text ∷ []

abbrev pub k8 : Small.Small
k8 = record {
  entries = kept_dirs ++ (staged, Dir) ∷ [];
  seen = record opening { phase = Running; launched = launch ∷ []; due = AttemptStarted Small.a0 0 ∷ [] };
  bag = to_node 0 (Launch Small.c0 Small.a0 1) ∷ [];
  past = past8;
  place = Some Small.p0;
  alive = true;
  node = Node_got (Launch Small.c0 Small.a0 1) ∷ [];
}

s8 : Reached k8
unfolding duty_of next_seen told phase_told seen heard winners_of winner_in length_in newest_maps named_in wish container.seen container.next_seen container.after_packet container.same_attempt container.wish_called computed wished_op wished_packet generation_name attempt_name task_name part_name layout.part task_eq to_all
s8 = r8

-- it writes its file

abbrev m9 : Small.Small
m9 = Small.called_by k8 (MkDirs (task_attempt 1 Small.a0))

r9 : Reached m9
unfolding duty_of next_seen told phase_told seen heard winners_of winner_in length_in newest_maps named_in wish container.seen container.next_seen container.after_packet container.same_attempt container.wish_called computed wished_op wished_packet generation_name attempt_name task_name part_name layout.part task_eq to_all
r9 = calls s8 (MkDirs (task_attempt 1 Small.a0)) refl refl refl refl refl refl

abbrev m10 : Small.Small
m10 = Small.called_by m9 (Create (part_at 1 Small.a0) false)

r10 : Reached m10
unfolding duty_of next_seen told phase_told seen heard winners_of winner_in length_in newest_maps named_in wish container.seen container.next_seen container.after_packet container.same_attempt container.wish_called computed wished_op wished_packet generation_name attempt_name task_name part_name layout.part task_eq to_all
r10 = calls r9 (Create (part_at 1 Small.a0) false) refl refl refl refl refl refl

abbrev m11 : Small.Small
m11 = Small.called_by m10 (Append (part_at 1 Small.a0) text)

r11 : Reached m11
unfolding duty_of next_seen told phase_told seen heard winners_of winner_in length_in newest_maps named_in wish container.seen container.next_seen container.after_packet container.same_attempt container.wish_called computed wished_op wished_packet generation_name attempt_name task_name part_name layout.part task_eq to_all
r11 = calls r10 (Append (part_at 1 Small.a0) text) refl refl refl refl refl refl

abbrev m12 : Small.Small
m12 = Small.called_by m11 (Close (part_at 1 Small.a0))

r12 : Reached m12
unfolding duty_of next_seen told phase_told seen heard winners_of winner_in length_in newest_maps named_in wish container.seen container.next_seen container.after_packet container.same_attempt container.wish_called computed wished_op wished_packet generation_name attempt_name task_name part_name layout.part task_eq to_all
r12 = calls r11 (Close (part_at 1 Small.a0)) refl refl refl refl refl refl

abbrev m13 : Small.Small
m13 = Small.called_by m12 (Exist (task_attempt 1 Small.a0))

r13 : Reached m13
unfolding duty_of next_seen told phase_told seen heard winners_of winner_in length_in newest_maps named_in wish container.seen container.next_seen container.after_packet container.same_attempt container.wish_called computed wished_op wished_packet generation_name attempt_name task_name part_name layout.part task_eq to_all
r13 = calls r12 (Exist (task_attempt 1 Small.a0)) refl refl refl refl refl refl

abbrev pub past13 : List Step
past13 = Called (Exist (task_attempt 1 Small.a0)) (as_heard (Found (Some kinds.Dir))) ∷ Called (Close (part_at 1 Small.a0)) (as_heard Fine) ∷ Called (Append (part_at 1 Small.a0) text) (as_heard Fine) ∷
    Called (Create (part_at 1 Small.a0) false) (as_heard Fine) ∷ Called (MkDirs (task_attempt 1 Small.a0)) (as_heard Fine) ∷ past8

abbrev k13 : Small.Small
k13 = record k8 {
  entries = kept_dirs ++ (job_attempt 1 ++ temporary_name ∷ [], Dir) ∷ (task_attempt 1 Small.a0, Dir) ∷ (part_at 1 Small.a0, file) ∷ (staged, Dir) ∷ [];
  past = past13;
}

s13 : Reached k13
unfolding duty_of next_seen told phase_told seen heard winners_of winner_in length_in newest_maps named_in wish container.seen container.next_seen container.after_packet container.same_attempt container.wish_called computed wished_op wished_packet generation_name attempt_name task_name part_name layout.part task_eq to_all
s13 = r13

-- asks whether it may commit, and is told yes

abbrev m14 : Small.Small
m14 = Small.stepped k13 (Sent (Pending Small.a0)) (to_app 1 (Pending Small.a0) ∷ [])

r14 : Reached m14
unfolding duty_of next_seen told phase_told seen heard winners_of winner_in length_in newest_maps named_in wish container.seen container.next_seen container.after_packet container.same_attempt container.wish_called computed wished_op wished_packet generation_name attempt_name task_name part_name layout.part task_eq to_all
r14 = sends s13 (to_app 1 (Pending Small.a0)) refl refl refl refl refl refl

abbrev m15 : Small.Small
m15 = Small.heard_of m14 (Pending Small.a0)

r15 : Reached m15
unfolding duty_of next_seen told phase_told seen heard winners_of winner_in length_in newest_maps named_in wish container.seen container.next_seen container.after_packet container.same_attempt container.wish_called computed wished_op wished_packet generation_name attempt_name task_name part_name layout.part task_eq to_all
r15 = after r14 (Deliver 1) _ (λ kd. refl) (Small.on-packet r14.stands 1 (Pending Small.a0) refl)

abbrev m16 : Small.Small
m16 = Small.stepped m15 (Got (Answer Small.a0 true)) []

r16 : Reached m16
unfolding duty_of next_seen told phase_told seen heard winners_of winner_in length_in newest_maps named_in wish container.seen container.next_seen container.after_packet container.same_attempt container.wish_called computed wished_op wished_packet generation_name attempt_name task_name part_name layout.part task_eq to_all
r16 = after r15 (Deliver 2) _ (λ kd. refl) (Small.on-got r15.stands 2 (Answer Small.a0 true) refl refl refl refl)

-- commits, and reports

abbrev m17 : Small.Small
m17 = Small.called_by m16 (Exist (task_attempt 1 Small.a0))

r17 : Reached m17
unfolding duty_of next_seen told phase_told seen heard winners_of winner_in length_in newest_maps named_in wish container.seen container.next_seen container.after_packet container.same_attempt container.wish_called computed wished_op wished_packet generation_name attempt_name task_name part_name layout.part task_eq to_all
r17 = calls r16 (Exist (task_attempt 1 Small.a0)) refl refl refl refl refl refl

-- so far it was told yes, and has looked
abbrev pub k17 : Small.Small
k17 = record k13 {
  seen = record opening { phase = Running; launched = launch ∷ []; asked = Small.a0 ∷ []; due = AttemptStarted Small.a0 0 ∷ [] };
  bag = to_node 0 (Launch Small.c0 Small.a0 1) ∷ to_app 1 (Pending Small.a0) ∷ to_container Small.c0 (Answer Small.a0 true) ∷ [];
  past = Called (Exist (task_attempt 1 Small.a0)) (as_heard (Found (Some kinds.Dir))) ∷ Got (Answer Small.a0 true) ∷ Sent (Pending Small.a0) ∷ past13;
}

pub s17 : Reached k17
unfolding duty_of next_seen told phase_told seen heard winners_of winner_in length_in newest_maps named_in wish container.seen container.next_seen container.after_packet container.same_attempt container.wish_called computed wished_op wished_packet generation_name attempt_name task_name part_name layout.part task_eq to_all
s17 = r17

abbrev m18 : Small.Small
m18 = Small.called_by m17 (Delete (committed 1 Small.t0))

r18 : Reached m18
unfolding duty_of next_seen told phase_told seen heard winners_of winner_in length_in newest_maps named_in wish container.seen container.next_seen container.after_packet container.same_attempt container.wish_called computed wished_op wished_packet generation_name attempt_name task_name part_name layout.part task_eq to_all
r18 = calls r17 (Delete (committed 1 Small.t0)) refl refl refl refl refl refl

abbrev m19 : Small.Small
m19 = Small.called_by m18 (Rename (task_attempt 1 Small.a0) (committed 1 Small.t0))

r19 : Reached m19
unfolding duty_of next_seen told phase_told seen heard winners_of winner_in length_in newest_maps named_in wish container.seen container.next_seen container.after_packet container.same_attempt container.wish_called computed wished_op wished_packet generation_name attempt_name task_name part_name layout.part task_eq to_all
r19 = calls r18 (Rename (task_attempt 1 Small.a0) (committed 1 Small.t0)) refl refl refl refl refl refl

abbrev m20 : Small.Small
m20 = Small.stepped m19 (Sent (Done Small.a0 (Some 2))) (to_app 1 (Done Small.a0 (Some 2)) ∷ [])

r20 : Reached m20
unfolding duty_of next_seen told phase_told seen heard winners_of winner_in length_in newest_maps named_in wish container.seen container.next_seen container.after_packet container.same_attempt container.wish_called computed wished_op wished_packet generation_name attempt_name task_name part_name layout.part task_eq to_all
r20 = sends r19 (to_app 1 (Done Small.a0 (Some 2))) refl refl refl refl refl refl

abbrev pub past20 : List Step
past20 = Sent (Done Small.a0 (Some 2)) ∷ Called (Rename (task_attempt 1 Small.a0) (committed 1 Small.t0)) (as_heard Fine) ∷ Called (Delete (committed 1 Small.t0)) (as_heard (Refused Missing)) ∷
    Called (Exist (task_attempt 1 Small.a0)) (as_heard (Found (Some kinds.Dir))) ∷ Got (Answer Small.a0 true) ∷ Sent (Pending Small.a0) ∷ past13

-- the directory of the reduce with its file
abbrev pub committed_dirs : Lines
committed_dirs = (job_attempt 1 ++ temporary_name ∷ [], Dir) ∷ (committed 1 Small.t0, Dir) ∷ (committed 1 Small.t0 ++ part_name Small.t0 ∷ [], file) ∷ []

abbrev pub bag20 : List Envelope
bag20 = to_node 0 (Launch Small.c0 Small.a0 1) ∷ to_app 1 (Pending Small.a0) ∷ to_container Small.c0 (Answer Small.a0 true) ∷ to_app 1 (Done Small.a0 (Some 2)) ∷ []

abbrev pub k20 : Small.Small
k20 = record k8 {
  entries = kept_dirs ++ (committed_dirs ++ (staged, Dir) ∷ []);
  seen = record opening { phase = Running; launched = launch ∷ []; asked = Small.a0 ∷ []; due = AttemptStarted Small.a0 0 ∷ [] };
  bag = bag20;
  past = past20;
}

s20 : Reached k20
unfolding duty_of next_seen told phase_told seen heard winners_of winner_in length_in newest_maps named_in wish container.seen container.next_seen container.after_packet container.same_attempt container.wish_called computed wished_op wished_packet generation_name attempt_name task_name part_name layout.part task_eq to_all
s20 = r20

abbrev m21 : Small.Small
m21 = Small.heard_of k20 (Done Small.a0 (Some 2))

r21 : Reached m21
unfolding duty_of next_seen told phase_told seen heard winners_of winner_in length_in newest_maps named_in wish container.seen container.next_seen container.after_packet container.same_attempt container.wish_called computed wished_op wished_packet generation_name attempt_name task_name part_name layout.part task_eq to_all
r21 = after s20 (Deliver 3) _ (λ kd. refl) (Small.on-packet s20.stands 3 (Done Small.a0 (Some 2)) refl)

-- the master records it

abbrev m22 : Small.Small
m22 = Small.called m21 (Append_record (AttemptStarted Small.a0 0))

r22 : Reached m22
unfolding duty_of next_seen told phase_told seen heard winners_of winner_in length_in newest_maps named_in wish container.seen container.next_seen container.after_packet container.same_attempt container.wish_called computed wished_op wished_packet generation_name attempt_name task_name part_name layout.part task_eq to_all
r22 = duties r21 (Append_record (AttemptStarted Small.a0 0)) refl refl

abbrev m23 : Small.Small
m23 = Small.called m22 (Append_record (ReduceSucceeded Small.a0 (Some 2)))

r23 : Reached m23
unfolding duty_of next_seen told phase_told seen heard winners_of winner_in length_in newest_maps named_in wish container.seen container.next_seen container.after_packet container.same_attempt container.wish_called computed wished_op wished_packet generation_name attempt_name task_name part_name layout.part task_eq to_all
r23 = duties r22 (Append_record (ReduceSucceeded Small.a0 (Some 2))) refl refl

abbrev m24 : Small.Small
m24 = Small.called m23 (Flush)

r24 : Reached m24
unfolding duty_of next_seen told phase_told seen heard winners_of winner_in length_in newest_maps named_in wish container.seen container.next_seen container.after_packet container.same_attempt container.wish_called computed wished_op wished_packet generation_name attempt_name task_name part_name layout.part task_eq to_all
r24 = duties r23 (Flush) refl refl

-- and commits the job

abbrev m25 : Small.Small
m25 = Small.called m24 (Names (Create commit_started true))

r25 : Reached m25
unfolding duty_of next_seen told phase_told seen heard winners_of winner_in length_in newest_maps named_in wish container.seen container.next_seen container.after_packet container.same_attempt container.wish_called computed wished_op wished_packet generation_name attempt_name task_name part_name layout.part task_eq to_all
r25 = duties r24 (Names (Create commit_started true)) refl refl

abbrev pub k25 : Small.Small
k25 = record k20 {
  entries = kept_dirs ++ (committed_dirs ++ (staged, Dir) ∷ (commit_started, File [] true) ∷ []);
  seen = record opening { phase = Committing List_job; launched = launch ∷ []; asked = Small.a0 ∷ []; accepted = Small.a0 ∷ []; recorded = Small.a0 ∷ [] };
  bag = bag20 ++ to_container Small.c0 (DoneAck Small.a0) ∷ to_node 0 (Won Small.t0 Small.a0) ∷ [];
}

pub s25 : Reached k25
unfolding duty_of next_seen told phase_told seen heard winners_of winner_in length_in newest_maps named_in wish container.seen container.next_seen container.after_packet container.same_attempt container.wish_called computed wished_op wished_packet generation_name attempt_name task_name part_name layout.part task_eq to_all
s25 = r25
