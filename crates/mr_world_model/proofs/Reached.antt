-- A marked world is reached: the smallest job, event by event, to its success.
use Rattle.std.proofs.Common.{ℕ, ◌≡◌, refl, sym, ◌∙◌, ap, subst, true, false, List, [], ◌∷◌, ◌++◌, Some, None, inl, inr, arith}
use Rattle.std.specs.FinMap.Entries.{put}
use Rattle.mr_paths.specs.Path.{path_cmp}
use Rattle.mr_paths.specs.Layout as layout
use Rattle.mr_world_model.specs.Ids.{task_eq, dest, staged, part, marker, job_attempt, task_attempt, committed, temporary, commit_started, commit_success, commit_fail, temporary_name, generation_name, attempt_name, task_name, part_name}
use Rattle.mr_world_model.specs.Content.{Op, Dir, File, MkDirs, Create, Append, Close, Delete, Rename, ListDir, Exist, entry_at, Missing, is_file}
use Rattle.mr_world_model.specs.Records.{AttemptStarted, ReduceSucceeded, winner_in, length_in, whole_in}
use Rattle.mr_world_model.specs.Packets.{Launch, Envelope, Store, Names, Append_record, Flush, Read_history, Fine, Pending, Done, DoneAck, Answer, Outcome, Won, Found, Refused}
use Rattle.mr_world_model.specs.Pasts.{Step, Got, Sent, Computed, Called, wish, computed, wished_op, wished_packet, Node_got, part_at}
use Rattle.mr_container.specs.Readings as container
use Rattle.mr_world_model.specs.Hearing.{heard, named_in, Launched, Running, Committing, List_job, Marking}
use Rattle.mr_names_tree.specs.declared.node.Node.{Node}
use Rattle.mr_names_tree.specs.declared.node.Kind.TheVariants as kinds
use Rattle.mr_world_model.specs.Duties.{duty_of, seen, next_seen, opening, told, phase_told, winners_of, newest_maps}
use Rattle.mr_world_model.specs.World.{World, Event, Start, Duty, LaunchOn, Deliver, ContainerStep, Compute, Calm, opening_world, barred_left, is_over, ends, obeyed, call_of, master_act, container_act, as_heard}
use Rattle.mr_world_model.specs.Effect.{happens, run, wants_compute, not_now, node_past_after}
use Rattle.mr_world_model.specs.Sending.{to_app, to_node, to_container, to_all, sent}
use Rattle.mr_world_model.specs.Claims.{world_of, Limits, In, IsMarked, IsToldOutcome, IsToldWon}
use Rattle.mr_world_model.specs.Reachable.{HasSucceeded, AMarkedWorldIsReached}
use Rattle.mr_world_model.proofs.Outcomes.{marker_means_complete}
use Rattle.mr_world_model.proofs.Won.{told_the_same}
use Rattle.mr_world_model.proofs.Basic.{run-append}
use Rattle.mr_world_model.proofs.Entries.{Lines, reply_in, entries-put, entries-empty, entry-in}
use Rattle.mr_world_model.proofs.Small

-- events that lead to a world that holds so much
pub record Reached (m : Small.Small) : Type 0 where
  pub events : List Event
  pub stands : Small.Stands (world_of Small.small Small.free events) m

after : {m : Small.Small} (r : Reached m) (e : Event) (n : Small.Small) → Small.Stands (happens Small.small Small.free (world_of Small.small Small.free r.events) e) n → Reached n
unfolding run
after r e n h = record { events = r.events ++ e ∷ []; stands = subst (λ w. Small.Stands w n) (sym (run-append Small.small Small.free opening_world r.events (e ∷ []))) h }

abbrev m0 : Small.Small
m0 = record {
  entries = put path_cmp staged Dir (put path_cmp [] Dir []);
  seen = opening;
  bag = [];
  past = [];
  place = None;
  alive = false;
  node = [];
}

begins : Small.Stands (happens Small.small Small.free opening_world (Start 1 0)) m0
unfolding not_now call_of master_act container_act obeyed ends sent seen node_past_after whole_in
begins = rw (Small.taken opening_world (Start 1 0) refl) (record {
  entries = entries-put _ staged Dir ∙ ap (put path_cmp staged Dir) (entries-put _ [] Dir ∙ ap (put path_cmp [] Dir) entries-empty);
  fence = refl;
  barred = refl;
  unsealed = refl;
  older = refl;
  master = refl;
  seen = refl;
  bag = refl;
  past = refl;
  place = refl;
  alive = refl;
  node = refl;
})

r0 : Reached m0
unfolding run
r0 = record { events = Start 1 0 ∷ []; stands = begins }

duties : {m : Small.Small} (r : Reached m) (call : Store) → duty_of Small.small 1 m.seen m.seen.phase ≡ Some call → barred_left [] call ≡ [] → Reached (Small.called m call)
duties r call q b = after r (Duty 1 Calm) _ (Small.on-duty r.stands call q b)

calls : {m : Small.Small} (r : Reached m) (op : Op) → wished_op 1 Small.a0 (computed m.past) (wish 0 Small.a0 m.past) ≡ Some op → wants_compute (wish 0 Small.a0 m.past) ≡ false →
    m.place ≡ Some Small.p0 → m.alive ≡ true → barred_left [] (Names op) ≡ [] → is_over (wish 0 Small.a0 (Called op (as_heard (reply_in m.entries op)) ∷ m.past)) ≡ false → Reached (Small.called_by m op)
calls r op q c z a b o = after r (ContainerStep Small.c0 Calm) _ (Small.on-call r.stands op q c z a b o)

sends : {m : Small.Small} (r : Reached m) (e : Envelope) → wished_op 1 Small.a0 (computed m.past) (wish 0 Small.a0 m.past) ≡ None →
    wished_packet Small.c0 Small.a0 (computed m.past) (wish 0 Small.a0 m.past) ≡ Some e → wants_compute (wish 0 Small.a0 m.past) ≡ false →
    m.place ≡ Some Small.p0 → m.alive ≡ true → is_over (wish 0 Small.a0 (Sent e.body ∷ m.past)) ≡ false → Reached (Small.stepped m (Sent e.body) (e ∷ []))
sends r e q s c z a o = after r (ContainerStep Small.c0 Calm) _ (Small.on-send r.stands e q s c z a o)

-- the output of the reduce
abbrev text : List ℕ
text = 97 ∷ 10 ∷ []

-- what the master has launched
abbrev launch : Launched
launch = record { attempt = Small.a0; container = Small.c0; node = 0; incarnation = 1 }

abbrev kept_dirs : Lines
kept_dirs = ([], Dir) ∷ (dest, Dir) ∷ (temporary, Dir) ∷ (job_attempt 1, Dir) ∷ []

abbrev file : Node
file = File text true

-- The master looks for marks, reads, and makes its directory

abbrev m1 : Small.Small
m1 = Small.called m0 (Names (Exist commit_success))

r1 : Reached m1
unfolding duty_of next_seen told phase_told seen heard winners_of winner_in length_in newest_maps named_in wish container.seen container.next_seen container.after_packet container.same_attempt container.wish_called computed wished_op wished_packet generation_name attempt_name task_name part_name layout.part task_eq to_all
r1 = duties r0 (Names (Exist commit_success)) refl refl

abbrev m2 : Small.Small
m2 = Small.called m1 (Names (Exist commit_fail))

r2 : Reached m2
unfolding duty_of next_seen told phase_told seen heard winners_of winner_in length_in newest_maps named_in wish container.seen container.next_seen container.after_packet container.same_attempt container.wish_called computed wished_op wished_packet generation_name attempt_name task_name part_name layout.part task_eq to_all
r2 = duties r1 (Names (Exist commit_fail)) refl refl

abbrev m3 : Small.Small
m3 = Small.called m2 (Names (Exist commit_started))

r3 : Reached m3
unfolding duty_of next_seen told phase_told seen heard winners_of winner_in length_in newest_maps named_in wish container.seen container.next_seen container.after_packet container.same_attempt container.wish_called computed wished_op wished_packet generation_name attempt_name task_name part_name layout.part task_eq to_all
r3 = duties r2 (Names (Exist commit_started)) refl refl

abbrev m4 : Small.Small
m4 = Small.called m3 (Read_history)

r4 : Reached m4
unfolding duty_of next_seen told phase_told seen heard winners_of winner_in length_in newest_maps named_in wish container.seen container.next_seen container.after_packet container.same_attempt container.wish_called computed wished_op wished_packet generation_name attempt_name task_name part_name layout.part task_eq to_all
r4 = duties r3 (Read_history) refl refl

abbrev m5 : Small.Small
m5 = Small.called m4 (Names (MkDirs (job_attempt 1)))

r5 : Reached m5
unfolding duty_of next_seen told phase_told seen heard winners_of winner_in length_in newest_maps named_in wish container.seen container.next_seen container.after_packet container.same_attempt container.wish_called computed wished_op wished_packet generation_name attempt_name task_name part_name layout.part task_eq to_all
r5 = duties r4 (Names (MkDirs (job_attempt 1))) refl refl

-- it launches the reduce, whose container starts and has its result

abbrev m6 : Small.Small
m6 = Small.launched m5

r6 : Reached m6
unfolding duty_of next_seen told phase_told seen heard winners_of winner_in length_in newest_maps named_in wish container.seen container.next_seen container.after_packet container.same_attempt container.wish_called computed wished_op wished_packet generation_name attempt_name task_name part_name layout.part task_eq to_all
r6 = after r5 (LaunchOn 1 Small.t0 0) _ (Small.on-launch r5.stands refl refl)

abbrev m7 : Small.Small
m7 = Small.obeyed_by m6

r7 : Reached m7
unfolding duty_of next_seen told phase_told seen heard winners_of winner_in length_in newest_maps named_in wish container.seen container.next_seen container.after_packet container.same_attempt container.wish_called computed wished_op wished_packet generation_name attempt_name task_name part_name layout.part task_eq to_all
r7 = after r6 (Deliver 0) _ (Small.on-obey r6.stands 0 refl refl)

abbrev m8 : Small.Small
m8 = Small.stepped m7 (Computed text) []

r8 : Reached m8
unfolding duty_of next_seen told phase_told seen heard winners_of winner_in length_in newest_maps named_in wish container.seen container.next_seen container.after_packet container.same_attempt container.wish_called computed wished_op wished_packet generation_name attempt_name task_name part_name layout.part task_eq to_all
r8 = after r7 (Compute Small.c0 text) _ (Small.on-result r7.stands text refl refl refl)

-- so far
abbrev past8 : List Step
past8 = Computed text ∷ []

abbrev k8 : Small.Small
k8 = record {
  entries = kept_dirs ++ (staged, Dir) ∷ [];
  seen = record opening { phase = Running; launched = launch ∷ []; due = AttemptStarted Small.a0 0 ∷ [] };
  bag = to_node 0 (Launch Small.c0 Small.a0 1) ∷ [];
  past = past8;
  place = Some Small.p0;
  alive = true;
  node = Node_got (Launch Small.c0 Small.a0 1) ∷ [];
}

s8 : Reached k8
unfolding duty_of next_seen told phase_told seen heard winners_of winner_in length_in newest_maps named_in wish container.seen container.next_seen container.after_packet container.same_attempt container.wish_called computed wished_op wished_packet generation_name attempt_name task_name part_name layout.part task_eq to_all
s8 = r8

-- it writes its file

abbrev m9 : Small.Small
m9 = Small.called_by k8 (MkDirs (task_attempt 1 Small.a0))

r9 : Reached m9
unfolding duty_of next_seen told phase_told seen heard winners_of winner_in length_in newest_maps named_in wish container.seen container.next_seen container.after_packet container.same_attempt container.wish_called computed wished_op wished_packet generation_name attempt_name task_name part_name layout.part task_eq to_all
r9 = calls s8 (MkDirs (task_attempt 1 Small.a0)) refl refl refl refl refl refl

abbrev m10 : Small.Small
m10 = Small.called_by m9 (Create (part_at 1 Small.a0) false)

r10 : Reached m10
unfolding duty_of next_seen told phase_told seen heard winners_of winner_in length_in newest_maps named_in wish container.seen container.next_seen container.after_packet container.same_attempt container.wish_called computed wished_op wished_packet generation_name attempt_name task_name part_name layout.part task_eq to_all
r10 = calls r9 (Create (part_at 1 Small.a0) false) refl refl refl refl refl refl

abbrev m11 : Small.Small
m11 = Small.called_by m10 (Append (part_at 1 Small.a0) text)

r11 : Reached m11
unfolding duty_of next_seen told phase_told seen heard winners_of winner_in length_in newest_maps named_in wish container.seen container.next_seen container.after_packet container.same_attempt container.wish_called computed wished_op wished_packet generation_name attempt_name task_name part_name layout.part task_eq to_all
r11 = calls r10 (Append (part_at 1 Small.a0) text) refl refl refl refl refl refl

abbrev m12 : Small.Small
m12 = Small.called_by m11 (Close (part_at 1 Small.a0))

r12 : Reached m12
unfolding duty_of next_seen told phase_told seen heard winners_of winner_in length_in newest_maps named_in wish container.seen container.next_seen container.after_packet container.same_attempt container.wish_called computed wished_op wished_packet generation_name attempt_name task_name part_name layout.part task_eq to_all
r12 = calls r11 (Close (part_at 1 Small.a0)) refl refl refl refl refl refl

abbrev m13 : Small.Small
m13 = Small.called_by m12 (Exist (task_attempt 1 Small.a0))

r13 : Reached m13
unfolding duty_of next_seen told phase_told seen heard winners_of winner_in length_in newest_maps named_in wish container.seen container.next_seen container.after_packet container.same_attempt container.wish_called computed wished_op wished_packet generation_name attempt_name task_name part_name layout.part task_eq to_all
r13 = calls r12 (Exist (task_attempt 1 Small.a0)) refl refl refl refl refl refl

abbrev past13 : List Step
past13 = Called (Exist (task_attempt 1 Small.a0)) (as_heard (Found (Some kinds.Dir))) ∷ Called (Close (part_at 1 Small.a0)) (as_heard Fine) ∷ Called (Append (part_at 1 Small.a0) text) (as_heard Fine) ∷
    Called (Create (part_at 1 Small.a0) false) (as_heard Fine) ∷ Called (MkDirs (task_attempt 1 Small.a0)) (as_heard Fine) ∷ past8

abbrev k13 : Small.Small
k13 = record k8 {
  entries = kept_dirs ++ (job_attempt 1 ++ temporary_name ∷ [], Dir) ∷ (task_attempt 1 Small.a0, Dir) ∷ (part_at 1 Small.a0, file) ∷ (staged, Dir) ∷ [];
  past = past13;
}

s13 : Reached k13
unfolding duty_of next_seen told phase_told seen heard winners_of winner_in length_in newest_maps named_in wish container.seen container.next_seen container.after_packet container.same_attempt container.wish_called computed wished_op wished_packet generation_name attempt_name task_name part_name layout.part task_eq to_all
s13 = r13

-- asks whether it may commit, and is told yes

abbrev m14 : Small.Small
m14 = Small.stepped k13 (Sent (Pending Small.a0)) (to_app 1 (Pending Small.a0) ∷ [])

r14 : Reached m14
unfolding duty_of next_seen told phase_told seen heard winners_of winner_in length_in newest_maps named_in wish container.seen container.next_seen container.after_packet container.same_attempt container.wish_called computed wished_op wished_packet generation_name attempt_name task_name part_name layout.part task_eq to_all
r14 = sends s13 (to_app 1 (Pending Small.a0)) refl refl refl refl refl refl

abbrev m15 : Small.Small
m15 = Small.heard_of m14 (Pending Small.a0)

r15 : Reached m15
unfolding duty_of next_seen told phase_told seen heard winners_of winner_in length_in newest_maps named_in wish container.seen container.next_seen container.after_packet container.same_attempt container.wish_called computed wished_op wished_packet generation_name attempt_name task_name part_name layout.part task_eq to_all
r15 = after r14 (Deliver 1) _ (Small.on-packet r14.stands 1 (Pending Small.a0) refl)

abbrev m16 : Small.Small
m16 = Small.stepped m15 (Got (Answer Small.a0 true)) []

r16 : Reached m16
unfolding duty_of next_seen told phase_told seen heard winners_of winner_in length_in newest_maps named_in wish container.seen container.next_seen container.after_packet container.same_attempt container.wish_called computed wished_op wished_packet generation_name attempt_name task_name part_name layout.part task_eq to_all
r16 = after r15 (Deliver 2) _ (Small.on-got r15.stands 2 (Answer Small.a0 true) refl refl refl refl)

-- commits, and reports

abbrev m17 : Small.Small
m17 = Small.called_by m16 (Exist (task_attempt 1 Small.a0))

r17 : Reached m17
unfolding duty_of next_seen told phase_told seen heard winners_of winner_in length_in newest_maps named_in wish container.seen container.next_seen container.after_packet container.same_attempt container.wish_called computed wished_op wished_packet generation_name attempt_name task_name part_name layout.part task_eq to_all
r17 = calls r16 (Exist (task_attempt 1 Small.a0)) refl refl refl refl refl refl

abbrev m18 : Small.Small
m18 = Small.called_by m17 (Delete (committed 1 Small.t0))

r18 : Reached m18
unfolding duty_of next_seen told phase_told seen heard winners_of winner_in length_in newest_maps named_in wish container.seen container.next_seen container.after_packet container.same_attempt container.wish_called computed wished_op wished_packet generation_name attempt_name task_name part_name layout.part task_eq to_all
r18 = calls r17 (Delete (committed 1 Small.t0)) refl refl refl refl refl refl

abbrev m19 : Small.Small
m19 = Small.called_by m18 (Rename (task_attempt 1 Small.a0) (committed 1 Small.t0))

r19 : Reached m19
unfolding duty_of next_seen told phase_told seen heard winners_of winner_in length_in newest_maps named_in wish container.seen container.next_seen container.after_packet container.same_attempt container.wish_called computed wished_op wished_packet generation_name attempt_name task_name part_name layout.part task_eq to_all
r19 = calls r18 (Rename (task_attempt 1 Small.a0) (committed 1 Small.t0)) refl refl refl refl refl refl

abbrev m20 : Small.Small
m20 = Small.stepped m19 (Sent (Done Small.a0 (Some 2))) (to_app 1 (Done Small.a0 (Some 2)) ∷ [])

r20 : Reached m20
unfolding duty_of next_seen told phase_told seen heard winners_of winner_in length_in newest_maps named_in wish container.seen container.next_seen container.after_packet container.same_attempt container.wish_called computed wished_op wished_packet generation_name attempt_name task_name part_name layout.part task_eq to_all
r20 = sends r19 (to_app 1 (Done Small.a0 (Some 2))) refl refl refl refl refl refl

abbrev past20 : List Step
past20 = Sent (Done Small.a0 (Some 2)) ∷ Called (Rename (task_attempt 1 Small.a0) (committed 1 Small.t0)) (as_heard Fine) ∷ Called (Delete (committed 1 Small.t0)) (as_heard (Refused Missing)) ∷
    Called (Exist (task_attempt 1 Small.a0)) (as_heard (Found (Some kinds.Dir))) ∷ Got (Answer Small.a0 true) ∷ Sent (Pending Small.a0) ∷ past13

-- the directory of the reduce with its file
abbrev committed_dirs : Lines
committed_dirs = (job_attempt 1 ++ temporary_name ∷ [], Dir) ∷ (committed 1 Small.t0, Dir) ∷ (committed 1 Small.t0 ++ part_name Small.t0 ∷ [], file) ∷ []

abbrev bag20 : List Envelope
bag20 = to_node 0 (Launch Small.c0 Small.a0 1) ∷ to_app 1 (Pending Small.a0) ∷ to_container Small.c0 (Answer Small.a0 true) ∷ to_app 1 (Done Small.a0 (Some 2)) ∷ []

abbrev k20 : Small.Small
k20 = record k8 {
  entries = kept_dirs ++ (committed_dirs ++ (staged, Dir) ∷ []);
  seen = record opening { phase = Running; launched = launch ∷ []; asked = Small.a0 ∷ []; due = AttemptStarted Small.a0 0 ∷ [] };
  bag = bag20;
  past = past20;
}

s20 : Reached k20
unfolding duty_of next_seen told phase_told seen heard winners_of winner_in length_in newest_maps named_in wish container.seen container.next_seen container.after_packet container.same_attempt container.wish_called computed wished_op wished_packet generation_name attempt_name task_name part_name layout.part task_eq to_all
s20 = r20

abbrev m21 : Small.Small
m21 = Small.heard_of k20 (Done Small.a0 (Some 2))

r21 : Reached m21
unfolding duty_of next_seen told phase_told seen heard winners_of winner_in length_in newest_maps named_in wish container.seen container.next_seen container.after_packet container.same_attempt container.wish_called computed wished_op wished_packet generation_name attempt_name task_name part_name layout.part task_eq to_all
r21 = after s20 (Deliver 3) _ (Small.on-packet s20.stands 3 (Done Small.a0 (Some 2)) refl)

-- the master records it

abbrev m22 : Small.Small
m22 = Small.called m21 (Append_record (AttemptStarted Small.a0 0))

r22 : Reached m22
unfolding duty_of next_seen told phase_told seen heard winners_of winner_in length_in newest_maps named_in wish container.seen container.next_seen container.after_packet container.same_attempt container.wish_called computed wished_op wished_packet generation_name attempt_name task_name part_name layout.part task_eq to_all
r22 = duties r21 (Append_record (AttemptStarted Small.a0 0)) refl refl

abbrev m23 : Small.Small
m23 = Small.called m22 (Append_record (ReduceSucceeded Small.a0 (Some 2)))

r23 : Reached m23
unfolding duty_of next_seen told phase_told seen heard winners_of winner_in length_in newest_maps named_in wish container.seen container.next_seen container.after_packet container.same_attempt container.wish_called computed wished_op wished_packet generation_name attempt_name task_name part_name layout.part task_eq to_all
r23 = duties r22 (Append_record (ReduceSucceeded Small.a0 (Some 2))) refl refl

abbrev m24 : Small.Small
m24 = Small.called m23 (Flush)

r24 : Reached m24
unfolding duty_of next_seen told phase_told seen heard winners_of winner_in length_in newest_maps named_in wish container.seen container.next_seen container.after_packet container.same_attempt container.wish_called computed wished_op wished_packet generation_name attempt_name task_name part_name layout.part task_eq to_all
r24 = duties r23 (Flush) refl refl

-- and commits the job

abbrev m25 : Small.Small
m25 = Small.called m24 (Names (Create commit_started true))

r25 : Reached m25
unfolding duty_of next_seen told phase_told seen heard winners_of winner_in length_in newest_maps named_in wish container.seen container.next_seen container.after_packet container.same_attempt container.wish_called computed wished_op wished_packet generation_name attempt_name task_name part_name layout.part task_eq to_all
r25 = duties r24 (Names (Create commit_started true)) refl refl

abbrev k25 : Small.Small
k25 = record k20 {
  entries = kept_dirs ++ (committed_dirs ++ (staged, Dir) ∷ (commit_started, File [] true) ∷ []);
  seen = record opening { phase = Committing List_job; launched = launch ∷ []; asked = Small.a0 ∷ []; accepted = Small.a0 ∷ []; recorded = Small.a0 ∷ [] };
  bag = bag20 ++ to_container Small.c0 (DoneAck Small.a0) ∷ to_node 0 (Won Small.t0 Small.a0) ∷ [];
}

s25 : Reached k25
unfolding duty_of next_seen told phase_told seen heard winners_of winner_in length_in newest_maps named_in wish container.seen container.next_seen container.after_packet container.same_attempt container.wish_called computed wished_op wished_packet generation_name attempt_name task_name part_name layout.part task_eq to_all
s25 = r25

abbrev m26 : Small.Small
m26 = Small.called k25 (Names (ListDir (job_attempt 1)))

r26 : Reached m26
unfolding duty_of next_seen told phase_told seen heard winners_of winner_in length_in newest_maps named_in wish container.seen container.next_seen container.after_packet container.same_attempt container.wish_called computed wished_op wished_packet generation_name attempt_name task_name part_name layout.part task_eq to_all
r26 = duties s25 (Names (ListDir (job_attempt 1))) refl refl

abbrev m27 : Small.Small
m27 = Small.called m26 (Names (Exist dest))

r27 : Reached m27
unfolding duty_of next_seen told phase_told seen heard winners_of winner_in length_in newest_maps named_in wish container.seen container.next_seen container.after_packet container.same_attempt container.wish_called computed wished_op wished_packet generation_name attempt_name task_name part_name layout.part task_eq to_all
r27 = duties r26 (Names (Exist dest)) refl refl

abbrev m28 : Small.Small
m28 = Small.called m27 (Names (ListDir (committed 1 Small.t0)))

r28 : Reached m28
unfolding duty_of next_seen told phase_told seen heard winners_of winner_in length_in newest_maps named_in wish container.seen container.next_seen container.after_packet container.same_attempt container.wish_called computed wished_op wished_packet generation_name attempt_name task_name part_name layout.part task_eq to_all
r28 = duties r27 (Names (ListDir (committed 1 Small.t0))) refl refl

abbrev m29 : Small.Small
m29 = Small.called m28 (Names (Exist (part Small.t0)))

r29 : Reached m29
unfolding duty_of next_seen told phase_told seen heard winners_of winner_in length_in newest_maps named_in wish container.seen container.next_seen container.after_packet container.same_attempt container.wish_called computed wished_op wished_packet generation_name attempt_name task_name part_name layout.part task_eq to_all
r29 = duties r28 (Names (Exist (part Small.t0))) refl refl

abbrev m30 : Small.Small
m30 = Small.called m29 (Names (Rename (committed 1 Small.t0 ++ part_name Small.t0 ∷ []) (part Small.t0)))

r30 : Reached m30
unfolding duty_of next_seen told phase_told seen heard winners_of winner_in length_in newest_maps named_in wish container.seen container.next_seen container.after_packet container.same_attempt container.wish_called computed wished_op wished_packet generation_name attempt_name task_name part_name layout.part task_eq to_all
r30 = duties r29 (Names (Rename (committed 1 Small.t0 ++ part_name Small.t0 ∷ []) (part Small.t0))) refl refl

abbrev m31 : Small.Small
m31 = Small.called m30 (Names (Delete temporary))

r31 : Reached m31
unfolding duty_of next_seen told phase_told seen heard winners_of winner_in length_in newest_maps named_in wish container.seen container.next_seen container.after_packet container.same_attempt container.wish_called computed wished_op wished_packet generation_name attempt_name task_name part_name layout.part task_eq to_all
r31 = duties r30 (Names (Delete temporary)) refl refl

abbrev k31 : Small.Small
k31 = record k25 {
  entries = ([], Dir) ∷ (dest, Dir) ∷ (part Small.t0, file) ∷ (staged, Dir) ∷ (commit_started, File [] true) ∷ [];
  seen = record k25.seen { phase = Committing Marking };
}

s31 : Reached k31
unfolding duty_of next_seen told phase_told seen heard winners_of winner_in length_in newest_maps named_in wish container.seen container.next_seen container.after_packet container.same_attempt container.wish_called computed wished_op wished_packet generation_name attempt_name task_name part_name layout.part task_eq to_all
s31 = r31

abbrev m32 : Small.Small
m32 = Small.called k31 (Names (Create marker true))

r32 : Reached m32
unfolding duty_of next_seen told phase_told seen heard winners_of winner_in length_in newest_maps named_in wish container.seen container.next_seen container.after_packet container.same_attempt container.wish_called computed wished_op wished_packet generation_name attempt_name task_name part_name layout.part task_eq to_all
r32 = duties s31 (Names (Create marker true)) refl refl

abbrev m33 : Small.Small
m33 = Small.called m32 (Names (Create commit_success true))

r33 : Reached m33
unfolding duty_of next_seen told phase_told seen heard winners_of winner_in length_in newest_maps named_in wish container.seen container.next_seen container.after_packet container.same_attempt container.wish_called computed wished_op wished_packet generation_name attempt_name task_name part_name layout.part task_eq to_all
r33 = duties r32 (Names (Create commit_success true)) refl refl

-- What is there then

unlimited : (within : Limits) → ((w : World) (e : Event) → within w e ≡ true) → within ≡ Small.free
unlimited within f = λ i w e. f w e i

abbrev last : World
last = world_of Small.small Small.free r33.events

marked-last : IsMarked last
unfolding duty_of next_seen told phase_told seen part_name layout.part
marked-last = ap is_file (entry-in last.content m33.entries r33.stands.entries marker)

outcome-last : IsToldOutcome last true
unfolding duty_of next_seen told phase_told seen to_all task_eq part_name layout.part
outcome-last = (to_node 0 (Outcome true), subst (λ b. In (to_node 0 (Outcome true)) b) (sym r33.stands.bag) (inr (inr (inr (inr (inr (inr (inl refl))))))), refl)

won-last : IsToldWon last Small.t0 Small.a0
unfolding duty_of next_seen told phase_told seen to_all task_eq part_name layout.part
won-last = (to_node 0 (Won Small.t0 Small.a0), subst (λ b. In (to_node 0 (Won Small.t0 Small.a0)) b) (sym r33.stands.bag) (inr (inr (inr (inr (inr (inl refl)))))), refl)

file-last : entry_at last.content (part Small.t0) ≡ Some file
unfolding duty_of next_seen told phase_told seen part_name layout.part
file-last = entry-in last.content m33.entries r33.stands.entries (part Small.t0)

succeeded : HasSucceeded Small.small last
succeeded = record {
  some = omega arith;
  marked = marked-last;
  told = outcome-last;
  complete = marker_means_complete Small.small Small.free r33.events marked-last;
  first = Small.a0;
  won = told_the_same Small.small Small.free r33.events Small.t0 Small.a0 won-last;
  told_won = won-last;
  byte = 97;
  bytes = 10 ∷ [];
  file = file-last;
}

pub a_marked_world : AMarkedWorldIsReached
a_marked_world within f = (Small.small, r33.events, subst (λ z. HasSucceeded Small.small (world_of Small.small z r33.events)) (sym (unlimited within f)) succeeded)
