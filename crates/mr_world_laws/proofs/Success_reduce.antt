-- That run, event by event: the reduce, up to its report.
use Rattle.std.proofs.Common.{refl, true, false, List, [], ◌∷◌, ◌++◌, Some}
use Rattle.mr_paths.specs.Layout as layout
use Rattle.mr_names_tree.specs.declared.node.Node.{Node}
use Rattle.mr_names_tree.specs.declared.node.Kind.TheVariants as kinds
use Rattle.mr_container.specs.Readings as container
use Rattle.mr_world_model.specs.Ids.{task_eq, staged, part, job_attempt, task_attempt, committed, temporary_name, generation_name, attempt_name, task_name, part_name}
use Rattle.mr_world_model.specs.Content.{Dir, File, MkDirs, Create, Append, Close, Delete, Rename, Exist, Missing}
use Rattle.mr_world_model.specs.Records.{AttemptStarted, winner_in, length_in}
use Rattle.mr_world_model.specs.Packets.{Launch, Fetch, Envelope, Fine, Pending, Done, Where, MapReady, Piece, Answer, Found, Refused}
use Rattle.mr_world_model.specs.Pasts.{Step, Got, Sent, Computed, Called, wish, fetched, computed, wished_op, wished_packet, Node_got, part_at, is_known, incarnation_of, on_shelf}
use Rattle.mr_world_model.specs.Hearing.{heard, named_in, Launched}
use Rattle.mr_world_model.specs.Duties.{duty_of, seen, next_seen, told, phase_told, winners_of, newest_maps}
use Rattle.mr_world_model.specs.World.{LaunchOn, Deliver, ContainerStep, Compute, Calm, as_heard, piece_limit}
use Rattle.mr_world_model.specs.Sending.{to_app, to_node, to_container, to_all}
use Rattle.mr_world_model.specs.Sequential.{Job}
use Rattle.mr_world_model.proofs.Entries.{Lines}
use Rattle.mr_world_laws.proofs.Success_parts.{t1, a0, a1, c1, p1, Kept, launched, on-launch, heard_of, on-packet}
use Rattle.mr_world_laws.proofs.Success_moves.{obeyed1, on-obey1, fetched_by, on-fetch, stepped1, on-got, called_by, on-send1, worked1, on-result1}
use Rattle.mr_world_laws.proofs.Success_opening.{piece, text, Gives, Reached, after, calls, carries1, launch0, kept_dirs, bag13, k8, k13, s13}

-- it is launched, and its container starts

abbrev pub m14 : Kept
m14 = launched k13 t1

pub r14 : {job : Job} → Gives job → Reached job 15 m14
unfolding duty_of next_seen told phase_told seen heard winners_of winner_in length_in newest_maps named_in wish fetched container.seen container.next_seen container.after_packet container.same_attempt container.wish_called computed wished_op wished_packet generation_name attempt_name task_name part_name layout.part task_eq to_all is_known incarnation_of on_shelf piece_limit
r14 g = after (s13 g) (LaunchOn 1 t1 0) _ (on-launch (s13 g).stands t1 refl refl refl refl) refl tt

abbrev pub m15 : Kept
m15 = obeyed1 m14

pub r15 : {job : Job} → Gives job → Reached job 16 m15
unfolding duty_of next_seen told phase_told seen heard winners_of winner_in length_in newest_maps named_in wish fetched container.seen container.next_seen container.after_packet container.same_attempt container.wish_called computed wished_op wished_packet generation_name attempt_name task_name part_name layout.part task_eq to_all is_known incarnation_of on_shelf piece_limit
r15 g = after (r14 g) (Deliver 3) _ (on-obey1 (r14 g).stands 3 refl refl refl) refl tt

-- it asks where the map's output lies, and fetches its piece

abbrev pub m16 : Kept
m16 = stepped1 m15 (Sent (Where c1 0)) (to_app 1 (Where c1 0) ∷ [])

pub r16 : {job : Job} → Gives job → Reached job 17 m16
unfolding duty_of next_seen told phase_told seen heard winners_of winner_in length_in newest_maps named_in wish fetched container.seen container.next_seen container.after_packet container.same_attempt container.wish_called computed wished_op wished_packet generation_name attempt_name task_name part_name layout.part task_eq to_all is_known incarnation_of on_shelf piece_limit
r16 g = after (r15 g) (ContainerStep c1 Calm) _ (on-send1 (r15 g).stands (to_app 1 (Where c1 0)) refl refl refl refl refl refl) refl tt

abbrev pub m17 : Kept
m17 = heard_of m16 (Where c1 0)

pub r17 : {job : Job} → Gives job → Reached job 18 m17
unfolding duty_of next_seen told phase_told seen heard winners_of winner_in length_in newest_maps named_in wish fetched container.seen container.next_seen container.after_packet container.same_attempt container.wish_called computed wished_op wished_packet generation_name attempt_name task_name part_name layout.part task_eq to_all is_known incarnation_of on_shelf piece_limit
r17 g = after (r16 g) (Deliver 4) _ (on-packet (r16 g).stands 4 (Where c1 0) refl) refl tt

abbrev pub m18 : Kept
m18 = stepped1 m17 (Got (MapReady 0 a0 0 1)) []

pub r18 : {job : Job} → Gives job → Reached job 19 m18
unfolding duty_of next_seen told phase_told seen heard winners_of winner_in length_in newest_maps named_in wish fetched container.seen container.next_seen container.after_packet container.same_attempt container.wish_called computed wished_op wished_packet generation_name attempt_name task_name part_name layout.part task_eq to_all is_known incarnation_of on_shelf piece_limit
r18 g = after (r17 g) (Deliver 5) _ (on-got (r17 g).stands 5 (MapReady 0 a0 0 1) refl refl refl refl) refl tt

abbrev pub m19 : Kept
m19 = stepped1 m18 (Sent (Fetch c1 a0 0 1 0)) (to_node 0 (Fetch c1 a0 0 1 0) ∷ [])

pub r19 : {job : Job} → Gives job → Reached job 20 m19
unfolding duty_of next_seen told phase_told seen heard winners_of winner_in length_in newest_maps named_in wish fetched container.seen container.next_seen container.after_packet container.same_attempt container.wish_called computed wished_op wished_packet generation_name attempt_name task_name part_name layout.part task_eq to_all is_known incarnation_of on_shelf piece_limit
r19 g = after (r18 g) (ContainerStep c1 Calm) _ (on-send1 (r18 g).stands (to_node 0 (Fetch c1 a0 0 1 0)) refl refl refl refl refl refl) refl tt

abbrev pub m20 : Kept
m20 = fetched_by m19 c1 a0 0 0

pub r20 : {job : Job} → Gives job → Reached job 21 m20
unfolding duty_of next_seen told phase_told seen heard winners_of winner_in length_in newest_maps named_in wish fetched container.seen container.next_seen container.after_packet container.same_attempt container.wish_called computed wished_op wished_packet generation_name attempt_name task_name part_name layout.part task_eq to_all is_known incarnation_of on_shelf piece_limit
r20 g = after (r19 g) (Deliver 6) _ (on-fetch (r19 g).stands 6 c1 a0 0 0 refl refl) refl tt

abbrev pub m21 : Kept
m21 = stepped1 m20 (Got (Piece a0 0 0 13 piece)) []

pub r21 : {job : Job} → Gives job → Reached job 22 m21
unfolding duty_of next_seen told phase_told seen heard winners_of winner_in length_in newest_maps named_in wish fetched container.seen container.next_seen container.after_packet container.same_attempt container.wish_called computed wished_op wished_packet generation_name attempt_name task_name part_name layout.part task_eq to_all is_known incarnation_of on_shelf piece_limit
r21 g = after (r20 g) (Deliver 7) _ (on-got (r20 g).stands 7 (Piece a0 0 0 13 piece) refl refl refl refl) refl tt

abbrev pub m22 : Kept
m22 = worked1 m21 text

pub r22 : {job : Job} → Gives job → Reached job 23 m22
unfolding duty_of next_seen told phase_told seen heard winners_of winner_in length_in newest_maps named_in wish fetched container.seen container.next_seen container.after_packet container.same_attempt container.wish_called computed wished_op wished_packet generation_name attempt_name task_name part_name layout.part task_eq to_all is_known incarnation_of on_shelf piece_limit
r22 g = after (r21 g) (Compute c1 text) _ (on-result1 (r21 g).stands text refl refl refl refl) refl (carries1 g (r21 g).stands refl refl refl)

abbrev pub launch1 : Launched
launch1 = record { attempt = a1; container = c1; node = 0; incarnation = 1 }

abbrev pub bag22 : List Envelope
bag22 = bag13 ++ to_node 0 (Launch c1 a1 1) ∷ to_app 1 (Where c1 0) ∷ to_container c1 (MapReady 0 a0 0 1) ∷ to_node 0 (Fetch c1 a0 0 1 0) ∷ to_container c1 (Piece a0 0 0 13 piece) ∷ []

abbrev pub past22 : List Step
past22 = Computed text ∷ Got (Piece a0 0 0 13 piece) ∷ Sent (Fetch c1 a0 0 1 0) ∷ Got (MapReady 0 a0 0 1) ∷ Sent (Where c1 0) ∷ []

abbrev pub k22 : Kept
k22 = record k13 {
  launches = 2;
  seen = record k13.seen { launched = launch1 ∷ launch0 ∷ []; due = AttemptStarted a1 0 ∷ [] };
  bag = bag22;
  past1 = past22;
  place1 = Some p1;
  alive1 = true;
  node = Node_got (Fetch c1 a0 0 1 0) ∷ Node_got (Launch c1 a1 1) ∷ k8.node;
}

pub s22 : {job : Job} → Gives job → Reached job 23 k22
unfolding duty_of next_seen told phase_told seen heard winners_of winner_in length_in newest_maps named_in wish fetched container.seen container.next_seen container.after_packet container.same_attempt container.wish_called computed wished_op wished_packet generation_name attempt_name task_name part_name layout.part task_eq to_all is_known incarnation_of on_shelf piece_limit
s22 g = r22 g

-- it writes its file

abbrev pub m23 : Kept
m23 = called_by k22 (MkDirs (task_attempt 1 a1))

pub r23 : {job : Job} → Gives job → Reached job 24 m23
unfolding duty_of next_seen told phase_told seen heard winners_of winner_in length_in newest_maps named_in wish fetched container.seen container.next_seen container.after_packet container.same_attempt container.wish_called computed wished_op wished_packet generation_name attempt_name task_name part_name layout.part task_eq to_all is_known incarnation_of on_shelf piece_limit
r23 g = calls (s22 g) (MkDirs (task_attempt 1 a1)) refl refl refl refl refl refl refl refl

abbrev pub m24 : Kept
m24 = called_by m23 (Create (part_at 1 a1) false)

pub r24 : {job : Job} → Gives job → Reached job 25 m24
unfolding duty_of next_seen told phase_told seen heard winners_of winner_in length_in newest_maps named_in wish fetched container.seen container.next_seen container.after_packet container.same_attempt container.wish_called computed wished_op wished_packet generation_name attempt_name task_name part_name layout.part task_eq to_all is_known incarnation_of on_shelf piece_limit
r24 g = calls (r23 g) (Create (part_at 1 a1) false) refl refl refl refl refl refl refl refl

abbrev pub m25 : Kept
m25 = called_by m24 (Append (part_at 1 a1) text)

pub r25 : {job : Job} → Gives job → Reached job 26 m25
unfolding duty_of next_seen told phase_told seen heard winners_of winner_in length_in newest_maps named_in wish fetched container.seen container.next_seen container.after_packet container.same_attempt container.wish_called computed wished_op wished_packet generation_name attempt_name task_name part_name layout.part task_eq to_all is_known incarnation_of on_shelf piece_limit
r25 g = calls (r24 g) (Append (part_at 1 a1) text) refl refl refl refl refl refl refl refl

abbrev pub m26 : Kept
m26 = called_by m25 (Close (part_at 1 a1))

pub r26 : {job : Job} → Gives job → Reached job 27 m26
unfolding duty_of next_seen told phase_told seen heard winners_of winner_in length_in newest_maps named_in wish fetched container.seen container.next_seen container.after_packet container.same_attempt container.wish_called computed wished_op wished_packet generation_name attempt_name task_name part_name layout.part task_eq to_all is_known incarnation_of on_shelf piece_limit
r26 g = calls (r25 g) (Close (part_at 1 a1)) refl refl refl refl refl refl refl refl

abbrev pub m27 : Kept
m27 = called_by m26 (Exist (task_attempt 1 a1))

pub r27 : {job : Job} → Gives job → Reached job 28 m27
unfolding duty_of next_seen told phase_told seen heard winners_of winner_in length_in newest_maps named_in wish fetched container.seen container.next_seen container.after_packet container.same_attempt container.wish_called computed wished_op wished_packet generation_name attempt_name task_name part_name layout.part task_eq to_all is_known incarnation_of on_shelf piece_limit
r27 g = calls (r26 g) (Exist (task_attempt 1 a1)) refl refl refl refl refl refl refl refl

abbrev pub file : Node
file = File text true

abbrev pub past27 : List Step
past27 = Called (Exist (task_attempt 1 a1)) (as_heard (Found (Some kinds.Dir))) ∷ Called (Close (part_at 1 a1)) (as_heard Fine) ∷ Called (Append (part_at 1 a1) text) (as_heard Fine) ∷
    Called (Create (part_at 1 a1) false) (as_heard Fine) ∷ Called (MkDirs (task_attempt 1 a1)) (as_heard Fine) ∷ past22

abbrev pub k27 : Kept
k27 = record k22 {
  entries = kept_dirs ++ (job_attempt 1 ++ temporary_name ∷ [], Dir) ∷ (task_attempt 1 a1, Dir) ∷ (part_at 1 a1, file) ∷ (staged, Dir) ∷ [];
  past1 = past27;
}

pub s27 : {job : Job} → Gives job → Reached job 28 k27
unfolding duty_of next_seen told phase_told seen heard winners_of winner_in length_in newest_maps named_in wish fetched container.seen container.next_seen container.after_packet container.same_attempt container.wish_called computed wished_op wished_packet generation_name attempt_name task_name part_name layout.part task_eq to_all is_known incarnation_of on_shelf piece_limit
s27 g = r27 g

-- asks whether it may commit, and is told yes

abbrev pub m28 : Kept
m28 = stepped1 k27 (Sent (Pending a1)) (to_app 1 (Pending a1) ∷ [])

pub r28 : {job : Job} → Gives job → Reached job 29 m28
unfolding duty_of next_seen told phase_told seen heard winners_of winner_in length_in newest_maps named_in wish fetched container.seen container.next_seen container.after_packet container.same_attempt container.wish_called computed wished_op wished_packet generation_name attempt_name task_name part_name layout.part task_eq to_all is_known incarnation_of on_shelf piece_limit
r28 g = after (s27 g) (ContainerStep c1 Calm) _ (on-send1 (s27 g).stands (to_app 1 (Pending a1)) refl refl refl refl refl refl) refl tt

abbrev pub m29 : Kept
m29 = heard_of m28 (Pending a1)

pub r29 : {job : Job} → Gives job → Reached job 30 m29
unfolding duty_of next_seen told phase_told seen heard winners_of winner_in length_in newest_maps named_in wish fetched container.seen container.next_seen container.after_packet container.same_attempt container.wish_called computed wished_op wished_packet generation_name attempt_name task_name part_name layout.part task_eq to_all is_known incarnation_of on_shelf piece_limit
r29 g = after (r28 g) (Deliver 8) _ (on-packet (r28 g).stands 8 (Pending a1) refl) refl tt

abbrev pub m30 : Kept
m30 = stepped1 m29 (Got (Answer a1 true)) []

pub r30 : {job : Job} → Gives job → Reached job 31 m30
unfolding duty_of next_seen told phase_told seen heard winners_of winner_in length_in newest_maps named_in wish fetched container.seen container.next_seen container.after_packet container.same_attempt container.wish_called computed wished_op wished_packet generation_name attempt_name task_name part_name layout.part task_eq to_all is_known incarnation_of on_shelf piece_limit
r30 g = after (r29 g) (Deliver 9) _ (on-got (r29 g).stands 9 (Answer a1 true) refl refl refl refl) refl tt

-- commits, and reports

abbrev pub m31 : Kept
m31 = called_by m30 (Exist (task_attempt 1 a1))

pub r31 : {job : Job} → Gives job → Reached job 32 m31
unfolding duty_of next_seen told phase_told seen heard winners_of winner_in length_in newest_maps named_in wish fetched container.seen container.next_seen container.after_packet container.same_attempt container.wish_called computed wished_op wished_packet generation_name attempt_name task_name part_name layout.part task_eq to_all is_known incarnation_of on_shelf piece_limit
r31 g = calls (r30 g) (Exist (task_attempt 1 a1)) refl refl refl refl refl refl refl refl

abbrev pub m32 : Kept
m32 = called_by m31 (Delete (committed 1 t1))

pub r32 : {job : Job} → Gives job → Reached job 33 m32
unfolding duty_of next_seen told phase_told seen heard winners_of winner_in length_in newest_maps named_in wish fetched container.seen container.next_seen container.after_packet container.same_attempt container.wish_called computed wished_op wished_packet generation_name attempt_name task_name part_name layout.part task_eq to_all is_known incarnation_of on_shelf piece_limit
r32 g = calls (r31 g) (Delete (committed 1 t1)) refl refl refl refl refl refl refl refl

abbrev pub m33 : Kept
m33 = called_by m32 (Rename (task_attempt 1 a1) (committed 1 t1))

pub r33 : {job : Job} → Gives job → Reached job 34 m33
unfolding duty_of next_seen told phase_told seen heard winners_of winner_in length_in newest_maps named_in wish fetched container.seen container.next_seen container.after_packet container.same_attempt container.wish_called computed wished_op wished_packet generation_name attempt_name task_name part_name layout.part task_eq to_all is_known incarnation_of on_shelf piece_limit
r33 g = calls (r32 g) (Rename (task_attempt 1 a1) (committed 1 t1)) refl refl refl refl refl refl refl refl

abbrev pub m34 : Kept
m34 = stepped1 m33 (Sent (Done a1 (Some 4))) (to_app 1 (Done a1 (Some 4)) ∷ [])

pub r34 : {job : Job} → Gives job → Reached job 35 m34
unfolding duty_of next_seen told phase_told seen heard winners_of winner_in length_in newest_maps named_in wish fetched container.seen container.next_seen container.after_packet container.same_attempt container.wish_called computed wished_op wished_packet generation_name attempt_name task_name part_name layout.part task_eq to_all is_known incarnation_of on_shelf piece_limit
r34 g = after (r33 g) (ContainerStep c1 Calm) _ (on-send1 (r33 g).stands (to_app 1 (Done a1 (Some 4))) refl refl refl refl refl refl) refl tt

abbrev pub past34 : List Step
past34 = Sent (Done a1 (Some 4)) ∷ Called (Rename (task_attempt 1 a1) (committed 1 t1)) (as_heard Fine) ∷ Called (Delete (committed 1 t1)) (as_heard (Refused Missing)) ∷
    Called (Exist (task_attempt 1 a1)) (as_heard (Found (Some kinds.Dir))) ∷ Got (Answer a1 true) ∷ Sent (Pending a1) ∷ past27

-- the directory of the reduce with its file
abbrev pub committed_dirs : Lines
committed_dirs = (job_attempt 1 ++ temporary_name ∷ [], Dir) ∷ (committed 1 t1, Dir) ∷ (committed 1 t1 ++ part_name t1 ∷ [], file) ∷ []

abbrev pub bag34 : List Envelope
bag34 = bag22 ++ to_app 1 (Pending a1) ∷ to_container c1 (Answer a1 true) ∷ to_app 1 (Done a1 (Some 4)) ∷ []

abbrev pub k34 : Kept
k34 = record k27 {
  entries = kept_dirs ++ (committed_dirs ++ (staged, Dir) ∷ []);
  seen = record k22.seen { asked = a1 ∷ [] };
  bag = bag34;
  past1 = past34;
}

pub s34 : {job : Job} → Gives job → Reached job 35 k34
unfolding duty_of next_seen told phase_told seen heard winners_of winner_in length_in newest_maps named_in wish fetched container.seen container.next_seen container.after_packet container.same_attempt container.wish_called computed wished_op wished_packet generation_name attempt_name task_name part_name layout.part task_eq to_all is_known incarnation_of on_shelf piece_limit
s34 g = r34 g
