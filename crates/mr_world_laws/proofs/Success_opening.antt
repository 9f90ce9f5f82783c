-- That run, event by event: up to the map's recorded success.
use Rattle.std.proofs.Common.{ℕ, suc, ◌≡◌, ◌≤◌, refl, sym, ◌∙◌, ap, subst, true, false, List, [], ◌∷◌, ◌++◌, Some, None, arith, nat_le, length, length-append}
use Rattle.std.specs.FinMap.Entries.{put}
use Rattle.mr_paths.specs.Path.{path_cmp}
use Rattle.mr_paths.specs.Layout as layout
use Rattle.std.specs.List.{sum_by}
use Rattle.std.proofs.lemmas.Bool.{le-leb}
use Rattle.mr_ids.specs.Text.{IsAttempt}
use Rattle.mr_history.specs.Line.{width, as_written, head, IsRecord}
use Rattle.mr_history.proofs.Widths.{line_short}
use Rattle.mr_history.specs.declared.segment.TheConstants.{MAX_SEGMENT_LEN}
use Rattle.mr_packet.specs.declared.bag.TheConstants.{MAX_PACKETS}
use Rattle.mr_container.specs.Readings as container
use Rattle.mr_world_model.specs.Ids.{task_eq, dest, staged, part, job_attempt, temporary, commit_started, commit_success, commit_fail, generation_name, attempt_name, task_name, part_name}
use Rattle.mr_world_model.specs.Content.{Op, Dir, MkDirs, Exist}
use Rattle.mr_world_model.specs.Records.{Record, Segment, AttemptStarted, MapSucceeded, ReduceSucceeded, winner_in, length_in, whole_in}
use Rattle.mr_world_model.specs.Packets.{Launch, Envelope, Store, Names, Append_record, Flush, Read_history, Done, DoneAck}
use Rattle.mr_world_model.specs.Pasts.{Sent, Computed, Called, wish, fetched, computed, wished_op, wished_packet, Node_got, Shelved, is_known, incarnation_of, on_shelf}
use Rattle.mr_world_model.specs.Hearing.{heard, named_in, Launched, Placed, Running}
use Rattle.mr_world_model.specs.Duties.{duty_of, seen, next_seen, opening, told, phase_told, winners_of, newest_maps}
use Rattle.mr_world_model.specs.World.{World, Event, Start, Duty, LaunchOn, Deliver, ContainerStep, Compute, Calm, opening_world, barred_left, is_over, ends, obeyed, call_of, master_act, container_act, as_heard, piece_limit}
use Rattle.mr_world_model.specs.Effect.{run, wants_compute, not_now, node_past_after}
use Rattle.mr_world_model.specs.Sending.{to_app, to_node, to_container, to_all, sent}
use Rattle.mr_world_model.specs.Sequential.{Job, CarriesDefinition, IsFaithful}
use Rattle.mr_world_model.proofs.Faithful.{faithful-none, faithful-more}
use Rattle.mr_world_model.proofs.Entries.{Lines, reply_in, entries-put, entries-empty}
use Rattle.mr_world.specs.Limits.{within, length_with}
use Rattle.mr_world.specs.Standing.{IsTaken}
use Rattle.mr_world.specs.Journal.{run_of, taken}
use Rattle.mr_world.proofs.Journals.{happens-taken, run-one, taken-one}
use Rattle.mr_world_laws.proofs.Success_parts.{cfg, t0, a0, a1, c0, c1, p0, p1, Kept, Stands, Leads, fits-bag, has_room, called, on-duty, launched, on-launch, heard_of, on-packet}
use Rattle.mr_world_laws.proofs.Success_moves.{obeyed0, on-obey0, stepped0, called_by, on-call, on-send0, worked0, on-result0}

-- the bytes that are handed in: what the map hands to the one reduce, its output, and the text of the reduce
abbrev pub piece : List ℕ
piece = 0 ∷ 0 ∷ 0 ∷ 1 ∷ 97 ∷ 0 ∷ 0 ∷ 0 ∷ 0 ∷ 0 ∷ 0 ∷ 0 ∷ 1 ∷ []

abbrev pub out : List ℕ
out = 0 ∷ 0 ∷ 0 ∷ 13 ∷ piece

abbrev pub text : List ℕ
text = 97 ∷ 9 ∷ 49 ∷ 10 ∷ []

-- a job that gives them
pub record Gives (job : Job) : Type 0 where
  pub output : job.output 1 0 (97 ∷ 10 ∷ []) ≡ Some out
  pub part : job.part (piece ∷ []) ≡ Some text

-- so many events, each taken, and faithful to the job, lead to a world of which so much is kept
pub record Reached (job : Job) (n : ℕ) (m : Kept) : Type 0 where
  pub events : List Event
  pub are_taken : taken cfg opening_world events ≡ events
  pub faithful : IsFaithful job cfg (within cfg) events
  pub count : length events ≡ n
  pub stands : Stands (run_of cfg events) m

more : (job : Job) (es : List Event) (n : ℕ) → taken cfg opening_world es ≡ es → IsFaithful job cfg (within cfg) es → length es ≡ n →
    (e : Event) (m : Kept) → Leads (run_of cfg es) e m → nat_le (length m.bag) MAX_PACKETS ≡ true → CarriesDefinition job cfg (run_of cfg es) e → Reached job (suc n) m
unfolding within
more job es n are f c e m l b d = record {
  events = es ++ e ∷ [];
  are_taken = taken-one cfg es e are is;
  faithful = faithful-more job cfg (within cfg) es e f (λ t. d);
  count = omega (arith, length-append es (e ∷ []), c);
  stands = subst (λ w. Stands w m) (sym (run-one cfg es e ∙ happens-taken cfg (run_of cfg es) e is)) l.stands;
}
  where
    is : IsTaken cfg (run_of cfg es) e
    is = record { now = l.now; fits = rw (l.own, l.call, fits-bag (run_of cfg es) e m l.stands b) refl }

pub after : {job : Job} {n : ℕ} {m : Kept} (r : Reached job n m) (e : Event) (k : Kept) → Leads (run_of cfg r.events) e k → nat_le (length k.bag) MAX_PACKETS ≡ true →
    CarriesDefinition job cfg (run_of cfg r.events) e → Reached job (suc n) k
after {job} {n} r e k l b d = more job r.events n r.are_taken r.faithful r.count e k l b d

pub duties : {job : Job} {n : ℕ} {m : Kept} (r : Reached job n m) (call : Store) → duty_of cfg 1 m.seen m.seen.phase ≡ Some call → barred_left [] call ≡ [] → has_room m call ≡ true →
    nat_le (length (called m call).bag) MAX_PACKETS ≡ true → Reached job (suc n) (called m call)
duties r call q b room few = after r (Duty 1 Calm) _ (on-duty r.stands call q b room) few tt

pub calls : {job : Job} {n : ℕ} {m : Kept} (r : Reached job n m) (op : Op) → wished_op 1 a1 (computed m.past1) (wish 1 a1 m.past1) ≡ Some op → wants_compute (wish 1 a1 m.past1) ≡ false →
    m.place1 ≡ Some p1 → m.alive1 ≡ true → barred_left [] (Names op) ≡ [] → is_over (wish 1 a1 (Called op (as_heard (reply_in m.entries op)) ∷ m.past1)) ≡ false → has_room m (Names op) ≡ true →
    nat_le (length (called_by m op).bag) MAX_PACKETS ≡ true → Reached job (suc n) (called_by m op)
calls r op q c z a b o room few = after r (ContainerStep c1 Calm) _ (on-call r.stands op q c z a b o room) few tt

-- what is handed in is the job's

carries0 : {job : Job} {w : World} {m : Kept} → Gives job → Stands w m → m.place0 ≡ Some p0 → wants_compute (wish 1 a0 m.past0) ≡ true → CarriesDefinition job cfg w (Compute c0 out)
carries0 {job} {w} {m} g h z c = rw (h.place0 ∙ z, ap (λ x. wants_compute (wish 1 a0 x)) h.past0 ∙ c) g.output

pub carries1 : {job : Job} {w : World} {m : Kept} → Gives job → Stands w m → m.place1 ≡ Some p1 → wants_compute (wish 1 a1 m.past1) ≡ true → fetched 1 a1 m.past1 ≡ piece ∷ [] → CarriesDefinition job cfg w (Compute c1 text)
carries1 {job} {w} {m} g h z c f = rw (h.place1 ∙ z, ap (λ x. wants_compute (wish 1 a1 x)) h.past1 ∙ c, ap (λ x. fetched 1 a1 x) h.past1 ∙ f) g.part

-- ---- the records find room

short : (r : Record) → IsRecord r → width r ≤ 131
unfolding width
short r h = let e = line_short r h in omega arith

pub one_short : (r : Record) → IsRecord r → sum_by width (r ∷ []) ≤ 262
one_short r h = let e = short r h in omega arith

pub two_short : (r s : Record) → IsRecord r → IsRecord s → sum_by width (r ∷ s ∷ []) ≤ 262
two_short r s h i = let e = short r h in let f = short s i in omega arith

pub none_short : sum_by width [] ≤ 262
none_short = omega arith

pub has_place : (s : Segment) (r : Record) → IsRecord (as_written s.version r) → length (head s.version) ≤ 14 → sum_by width s.stable ≤ 262 → sum_by width s.tail ≤ 262 → nat_le (length_with s r) MAX_SEGMENT_LEN ≡ true
has_place s r i h a b = le-leb (length_with s r) MAX_SEGMENT_LEN (let e = short (as_written s.version r) i in omega arith)

pub named0 : IsAttempt a0
named0 = record { task = record { job = record { start = omega arith; number = omega arith }; number = omega arith }; number = omega arith }

pub named1 : IsAttempt a1
named1 = record { task = record { job = record { start = omega arith; number = omega arith }; number = omega arith }; number = omega arith }

pub started0 : IsRecord (AttemptStarted a0 0)
started0 = (refl, (named0, omega arith))

pub mapped0 : IsRecord (MapSucceeded a0 0 1)
mapped0 = (refl, (named0, omega arith, omega arith))

pub started1 : IsRecord (AttemptStarted a1 0)
started1 = (refl, (named1, omega arith))

pub reduced1 : IsRecord (ReduceSucceeded a1 (Some 4))
reduced1 = (refl, (named1, omega arith))

-- ---- the master starts

abbrev pub opened : Segment
opened = record { version = 2; stable = []; tail = []; is_sealed = false }

abbrev pub m0 : Kept
m0 = record {
  entries = put path_cmp staged Dir (put path_cmp [] Dir []);
  segment = opened;
  launches = 0;
  seen = opening;
  bag = [];
  past0 = [];
  past1 = [];
  place0 = None;
  place1 = None;
  alive0 = false;
  alive1 = false;
  node = [];
}

begins : Leads opening_world (Start 1 0) m0
unfolding not_now call_of master_act container_act obeyed ends sent seen node_past_after whole_in
begins = record {
  now = refl;
  own = refl;
  call = refl;
  stands = record {
    entries = entries-put _ staged Dir ∙ ap (put path_cmp staged Dir) (entries-put _ [] Dir ∙ ap (put path_cmp [] Dir) entries-empty);
    fence = refl;
    barred = refl;
    segment = refl;
    unsealed = refl;
    older = refl;
    master = refl;
    launches = refl;
    others = λ k e. refl;
    seen = refl;
    bag = refl;
    past0 = refl;
    past1 = refl;
    place0 = refl;
    place1 = refl;
    alive0 = refl;
    alive1 = refl;
    node = refl;
  };
}

r0 : {job : Job} → Gives job → Reached job 1 m0
unfolding run
r0 {job} g = more job [] 0 refl (faithful-none job cfg (within cfg)) refl (Start 1 0) m0 begins refl tt

-- it looks for marks, reads, and makes its directory

abbrev pub m1 : Kept
m1 = called m0 (Names (Exist commit_success))

pub r1 : {job : Job} → Gives job → Reached job 2 m1
unfolding duty_of next_seen told phase_told seen heard winners_of winner_in length_in newest_maps named_in wish fetched container.seen container.next_seen container.after_packet container.same_attempt container.wish_called computed wished_op wished_packet generation_name attempt_name task_name part_name layout.part task_eq to_all is_known incarnation_of on_shelf piece_limit
r1 g = duties (r0 g) (Names (Exist commit_success)) refl refl refl refl

abbrev pub m2 : Kept
m2 = called m1 (Names (Exist commit_fail))

pub r2 : {job : Job} → Gives job → Reached job 3 m2
unfolding duty_of next_seen told phase_told seen heard winners_of winner_in length_in newest_maps named_in wish fetched container.seen container.next_seen container.after_packet container.same_attempt container.wish_called computed wished_op wished_packet generation_name attempt_name task_name part_name layout.part task_eq to_all is_known incarnation_of on_shelf piece_limit
r2 g = duties (r1 g) (Names (Exist commit_fail)) refl refl refl refl

abbrev pub m3 : Kept
m3 = called m2 (Names (Exist commit_started))

pub r3 : {job : Job} → Gives job → Reached job 4 m3
unfolding duty_of next_seen told phase_told seen heard winners_of winner_in length_in newest_maps named_in wish fetched container.seen container.next_seen container.after_packet container.same_attempt container.wish_called computed wished_op wished_packet generation_name attempt_name task_name part_name layout.part task_eq to_all is_known incarnation_of on_shelf piece_limit
r3 g = duties (r2 g) (Names (Exist commit_started)) refl refl refl refl

abbrev pub m4 : Kept
m4 = called m3 (Read_history)

pub r4 : {job : Job} → Gives job → Reached job 5 m4
unfolding duty_of next_seen told phase_told seen heard winners_of winner_in length_in newest_maps named_in wish fetched container.seen container.next_seen container.after_packet container.same_attempt container.wish_called computed wished_op wished_packet generation_name attempt_name task_name part_name layout.part task_eq to_all is_known incarnation_of on_shelf piece_limit
r4 g = duties (r3 g) (Read_history) refl refl refl refl

abbrev pub m5 : Kept
m5 = called m4 (Names (MkDirs (job_attempt 1)))

pub r5 : {job : Job} → Gives job → Reached job 6 m5
unfolding duty_of next_seen told phase_told seen heard winners_of winner_in length_in newest_maps named_in wish fetched container.seen container.next_seen container.after_packet container.same_attempt container.wish_called computed wished_op wished_packet generation_name attempt_name task_name part_name layout.part task_eq to_all is_known incarnation_of on_shelf piece_limit
r5 g = duties (r4 g) (Names (MkDirs (job_attempt 1))) refl refl refl refl

-- it launches the map, whose container starts and has its output

abbrev pub m6 : Kept
m6 = launched m5 t0

pub r6 : {job : Job} → Gives job → Reached job 7 m6
unfolding duty_of next_seen told phase_told seen heard winners_of winner_in length_in newest_maps named_in wish fetched container.seen container.next_seen container.after_packet container.same_attempt container.wish_called computed wished_op wished_packet generation_name attempt_name task_name part_name layout.part task_eq to_all is_known incarnation_of on_shelf piece_limit
r6 g = after (r5 g) (LaunchOn 1 t0 0) _ (on-launch (r5 g).stands t0 refl refl refl refl) refl tt

abbrev pub m7 : Kept
m7 = obeyed0 m6

pub r7 : {job : Job} → Gives job → Reached job 8 m7
unfolding duty_of next_seen told phase_told seen heard winners_of winner_in length_in newest_maps named_in wish fetched container.seen container.next_seen container.after_packet container.same_attempt container.wish_called computed wished_op wished_packet generation_name attempt_name task_name part_name layout.part task_eq to_all is_known incarnation_of on_shelf piece_limit
r7 g = after (r6 g) (Deliver 0) _ (on-obey0 (r6 g).stands 0 refl refl refl) refl tt

abbrev pub m8 : Kept
m8 = worked0 m7 out

pub r8 : {job : Job} → Gives job → Reached job 9 m8
unfolding duty_of next_seen told phase_told seen heard winners_of winner_in length_in newest_maps named_in wish fetched container.seen container.next_seen container.after_packet container.same_attempt container.wish_called computed wished_op wished_packet generation_name attempt_name task_name part_name layout.part task_eq to_all is_known incarnation_of on_shelf piece_limit
r8 g = after (r7 g) (Compute c0 out) _ (on-result0 (r7 g).stands out refl refl refl refl refl) refl (carries0 g (r7 g).stands refl refl)

-- so far

abbrev pub launch0 : Launched
launch0 = record { attempt = a0; container = c0; node = 0; incarnation = 1 }

abbrev pub kept_dirs : Lines
kept_dirs = ([], Dir) ∷ (dest, Dir) ∷ (temporary, Dir) ∷ (job_attempt 1, Dir) ∷ []

abbrev pub k8 : Kept
k8 = record {
  entries = kept_dirs ++ (staged, Dir) ∷ [];
  segment = opened;
  launches = 1;
  seen = record opening { phase = Running; launched = launch0 ∷ []; due = AttemptStarted a0 0 ∷ [] };
  bag = to_node 0 (Launch c0 a0 1) ∷ [];
  past0 = Computed out ∷ [];
  past1 = [];
  place0 = Some p0;
  place1 = None;
  alive0 = true;
  alive1 = false;
  node = Shelved a0 out ∷ Node_got (Launch c0 a0 1) ∷ [];
}

pub s8 : {job : Job} → Gives job → Reached job 9 k8
unfolding duty_of next_seen told phase_told seen heard winners_of winner_in length_in newest_maps named_in wish fetched container.seen container.next_seen container.after_packet container.same_attempt container.wish_called computed wished_op wished_packet generation_name attempt_name task_name part_name layout.part task_eq to_all is_known incarnation_of on_shelf piece_limit
s8 g = r8 g

-- it reports, and the master records it

abbrev pub m9 : Kept
m9 = stepped0 k8 (Sent (Done a0 None)) (to_app 1 (Done a0 None) ∷ [])

pub r9 : {job : Job} → Gives job → Reached job 10 m9
unfolding duty_of next_seen told phase_told seen heard winners_of winner_in length_in newest_maps named_in wish fetched container.seen container.next_seen container.after_packet container.same_attempt container.wish_called computed wished_op wished_packet generation_name attempt_name task_name part_name layout.part task_eq to_all is_known incarnation_of on_shelf piece_limit
r9 g = after (s8 g) (ContainerStep c0 Calm) _ (on-send0 (s8 g).stands (to_app 1 (Done a0 None)) refl refl refl refl refl refl) refl tt

abbrev pub m10 : Kept
m10 = heard_of m9 (Done a0 None)

pub r10 : {job : Job} → Gives job → Reached job 11 m10
unfolding duty_of next_seen told phase_told seen heard winners_of winner_in length_in newest_maps named_in wish fetched container.seen container.next_seen container.after_packet container.same_attempt container.wish_called computed wished_op wished_packet generation_name attempt_name task_name part_name layout.part task_eq to_all is_known incarnation_of on_shelf piece_limit
r10 g = after (r9 g) (Deliver 1) _ (on-packet (r9 g).stands 1 (Done a0 None) refl) refl tt

abbrev pub m11 : Kept
m11 = called m10 (Append_record (AttemptStarted a0 0))

pub r11 : {job : Job} → Gives job → Reached job 12 m11
unfolding duty_of next_seen told phase_told seen heard winners_of winner_in length_in newest_maps named_in wish fetched container.seen container.next_seen container.after_packet container.same_attempt container.wish_called computed wished_op wished_packet generation_name attempt_name task_name part_name layout.part task_eq to_all is_known incarnation_of on_shelf piece_limit
r11 g = duties (r10 g) (Append_record (AttemptStarted a0 0)) refl refl (has_place m10.segment (AttemptStarted a0 0) started0 (omega arith) none_short none_short) refl

abbrev pub m12 : Kept
m12 = called m11 (Append_record (MapSucceeded a0 0 1))

pub r12 : {job : Job} → Gives job → Reached job 13 m12
unfolding duty_of next_seen told phase_told seen heard winners_of winner_in length_in newest_maps named_in wish fetched container.seen container.next_seen container.after_packet container.same_attempt container.wish_called computed wished_op wished_packet generation_name attempt_name task_name part_name layout.part task_eq to_all is_known incarnation_of on_shelf piece_limit
r12 g = duties (r11 g) (Append_record (MapSucceeded a0 0 1)) refl refl (has_place m11.segment (MapSucceeded a0 0 1) mapped0 (omega arith) none_short (one_short (AttemptStarted a0 0) started0)) refl

abbrev pub m13 : Kept
m13 = called m12 (Flush)

pub r13 : {job : Job} → Gives job → Reached job 14 m13
unfolding duty_of next_seen told phase_told seen heard winners_of winner_in length_in newest_maps named_in wish fetched container.seen container.next_seen container.after_packet container.same_attempt container.wish_called computed wished_op wished_packet generation_name attempt_name task_name part_name layout.part task_eq to_all is_known incarnation_of on_shelf piece_limit
r13 g = duties (r12 g) (Flush) refl refl refl refl

abbrev pub placed0 : Placed
placed0 = record { attempt = a0; node = 0; incarnation = 1 }

abbrev pub bag13 : List Envelope
bag13 = to_node 0 (Launch c0 a0 1) ∷ to_app 1 (Done a0 None) ∷ to_container c0 (DoneAck a0) ∷ []

abbrev pub k13 : Kept
k13 = record k8 {
  segment = record opened { stable = AttemptStarted a0 0 ∷ MapSucceeded a0 0 1 ∷ [] };
  seen = record opening { phase = Running; launched = launch0 ∷ []; accepted = a0 ∷ []; standing = placed0 ∷ []; recorded = a0 ∷ [] };
  bag = bag13;
  past0 = Sent (Done a0 None) ∷ Computed out ∷ [];
}

pub s13 : {job : Job} → Gives job → Reached job 14 k13
unfolding duty_of next_seen told phase_told seen heard winners_of winner_in length_in newest_maps named_in wish fetched container.seen container.next_seen container.after_packet container.same_attempt container.wish_called computed wished_op wished_packet generation_name attempt_name task_name part_name layout.part task_eq to_all is_known incarnation_of on_shelf piece_limit
s13 g = r13 g
