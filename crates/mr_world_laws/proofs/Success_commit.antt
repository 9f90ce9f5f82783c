-- That run, event by event: the commit of the job, and what is there then.
use Rattle.std.proofs.Common.{◌≡◌, refl, sym, ap, subst, true, [], ◌∷◌, ◌++◌, Some, inl, inr, arith}
use Rattle.mr_paths.specs.Layout as layout
use Rattle.mr_container.specs.Readings as container
use Rattle.mr_world_model.specs.Ids.{task_eq, dest, staged, part, marker, job_attempt, committed, temporary, commit_started, commit_success, generation_name, attempt_name, task_name, part_name}
use Rattle.mr_world_model.specs.Content.{Dir, File, Create, Delete, Rename, ListDir, Exist, entry_at, is_file}
use Rattle.mr_world_model.specs.Records.{AttemptStarted, MapSucceeded, ReduceSucceeded, winner_in, length_in}
use Rattle.mr_world_model.specs.Packets.{Names, Append_record, Flush, Done, DoneAck, Outcome, Won}
use Rattle.mr_world_model.specs.Pasts.{wish, fetched, computed, wished_op, wished_packet, is_known, incarnation_of, on_shelf}
use Rattle.mr_world_model.specs.Hearing.{heard, named_in, Committing, List_job, Marking}
use Rattle.mr_world_model.specs.Duties.{duty_of, seen, next_seen, opening, told, phase_told, winners_of, newest_maps}
use Rattle.mr_world_model.specs.World.{World, Deliver, piece_limit}
use Rattle.mr_world_model.specs.Sending.{to_node, to_container, to_all}
use Rattle.mr_world_model.specs.Claims.{In, IsMarked, IsToldOutcome, IsToldWon}
use Rattle.mr_world_model.specs.Reachable.{HasSucceeded}
use Rattle.mr_world_model.specs.Sequential.{Job}
use Rattle.mr_world_model.proofs.Outcomes.{marker_means_complete}
use Rattle.mr_world_model.proofs.Won.{told_the_same}
use Rattle.mr_world_model.proofs.Entries.{entry-in}
use Rattle.mr_world.specs.Limits.{within}
use Rattle.mr_world.specs.Journal.{run_of}
use Rattle.mr_world_laws.specs.Succeeds.{Succeeds}
use Rattle.mr_world_laws.proofs.Success_parts.{cfg, t1, a0, a1, c1, Kept, called, launched, heard_of, on-packet}
use Rattle.mr_world_laws.proofs.Success_opening.{one_short, two_short, none_short, has_place, started0, mapped0, started1, reduced1, Gives, Reached, after, duties, opened, launch0, kept_dirs, placed0}
use Rattle.mr_world_laws.proofs.Success_reduce.{launch1, file, committed_dirs, bag34, k34, s34}

abbrev pub m35 : Kept
m35 = heard_of k34 (Done a1 (Some 4))

pub r35 : {job : Job} → Gives job → Reached job 36 m35
unfolding duty_of next_seen told phase_told seen heard winners_of winner_in length_in newest_maps named_in wish fetched container.seen container.next_seen container.after_packet container.same_attempt container.wish_called computed wished_op wished_packet generation_name attempt_name task_name part_name layout.part task_eq to_all is_known incarnation_of on_shelf piece_limit
r35 g = after (s34 g) (Deliver 10) _ (on-packet (s34 g).stands 10 (Done a1 (Some 4)) refl) refl tt

-- the master records the reduce

abbrev pub m36 : Kept
m36 = called m35 (Append_record (AttemptStarted a1 0))

pub r36 : {job : Job} → Gives job → Reached job 37 m36
unfolding duty_of next_seen told phase_told seen heard winners_of winner_in length_in newest_maps named_in wish fetched container.seen container.next_seen container.after_packet container.same_attempt container.wish_called computed wished_op wished_packet generation_name attempt_name task_name part_name layout.part task_eq to_all is_known incarnation_of on_shelf piece_limit
r36 g = duties (r35 g) (Append_record (AttemptStarted a1 0)) refl refl (has_place m35.segment (AttemptStarted a1 0) started1 (omega arith) (two_short (AttemptStarted a0 0) (MapSucceeded a0 0 1) started0 mapped0) none_short) refl

abbrev pub m37 : Kept
m37 = called m36 (Append_record (ReduceSucceeded a1 (Some 4)))

pub r37 : {job : Job} → Gives job → Reached job 38 m37
unfolding duty_of next_seen told phase_told seen heard winners_of winner_in length_in newest_maps named_in wish fetched container.seen container.next_seen container.after_packet container.same_attempt container.wish_called computed wished_op wished_packet generation_name attempt_name task_name part_name layout.part task_eq to_all is_known incarnation_of on_shelf piece_limit
r37 g = duties (r36 g) (Append_record (ReduceSucceeded a1 (Some 4))) refl refl (has_place m36.segment (ReduceSucceeded a1 (Some 4)) reduced1 (omega arith) (two_short (AttemptStarted a0 0) (MapSucceeded a0 0 1) started0 mapped0) (one_short (AttemptStarted a1 0) started1)) refl

abbrev pub m38 : Kept
m38 = called m37 (Flush)

pub r38 : {job : Job} → Gives job → Reached job 39 m38
unfolding duty_of next_seen told phase_told seen heard winners_of winner_in length_in newest_maps named_in wish fetched container.seen container.next_seen container.after_packet container.same_attempt container.wish_called computed wished_op wished_packet generation_name attempt_name task_name part_name layout.part task_eq to_all is_known incarnation_of on_shelf piece_limit
r38 g = duties (r37 g) (Flush) refl refl refl refl

-- and commits the job

abbrev pub m39 : Kept
m39 = called m38 (Names (Create commit_started true))

pub r39 : {job : Job} → Gives job → Reached job 40 m39
unfolding duty_of next_seen told phase_told seen heard winners_of winner_in length_in newest_maps named_in wish fetched container.seen container.next_seen container.after_packet container.same_attempt container.wish_called computed wished_op wished_packet generation_name attempt_name task_name part_name layout.part task_eq to_all is_known incarnation_of on_shelf piece_limit
r39 g = duties (r38 g) (Names (Create commit_started true)) refl refl refl refl

abbrev pub k39 : Kept
k39 = record k34 {
  entries = kept_dirs ++ (committed_dirs ++ (staged, Dir) ∷ (commit_started, File [] true) ∷ []);
  segment = record opened { stable = AttemptStarted a0 0 ∷ MapSucceeded a0 0 1 ∷ AttemptStarted a1 0 ∷ ReduceSucceeded a1 (Some 4) ∷ [] };
  seen = record opening { phase = Committing List_job; launched = launch1 ∷ launch0 ∷ []; asked = a1 ∷ []; accepted = a1 ∷ a0 ∷ []; standing = placed0 ∷ []; recorded = a1 ∷ a0 ∷ [] };
  bag = bag34 ++ to_container c1 (DoneAck a1) ∷ to_node 0 (Won t1 a1) ∷ [];
}

pub s39 : {job : Job} → Gives job → Reached job 40 k39
unfolding duty_of next_seen told phase_told seen heard winners_of winner_in length_in newest_maps named_in wish fetched container.seen container.next_seen container.after_packet container.same_attempt container.wish_called computed wished_op wished_packet generation_name attempt_name task_name part_name layout.part task_eq to_all is_known incarnation_of on_shelf piece_limit
s39 g = r39 g

abbrev pub m40 : Kept
m40 = called k39 (Names (ListDir (job_attempt 1)))

pub r40 : {job : Job} → Gives job → Reached job 41 m40
unfolding duty_of next_seen told phase_told seen heard winners_of winner_in length_in newest_maps named_in wish fetched container.seen container.next_seen container.after_packet container.same_attempt container.wish_called computed wished_op wished_packet generation_name attempt_name task_name part_name layout.part task_eq to_all is_known incarnation_of on_shelf piece_limit
r40 g = duties (s39 g) (Names (ListDir (job_attempt 1))) refl refl refl refl

abbrev pub m41 : Kept
m41 = called m40 (Names (Exist dest))

pub r41 : {job : Job} → Gives job → Reached job 42 m41
unfolding duty_of next_seen told phase_told seen heard winners_of winner_in length_in newest_maps named_in wish fetched container.seen container.next_seen container.after_packet container.same_attempt container.wish_called computed wished_op wished_packet generation_name attempt_name task_name part_name layout.part task_eq to_all is_known incarnation_of on_shelf piece_limit
r41 g = duties (r40 g) (Names (Exist dest)) refl refl refl refl

abbrev pub m42 : Kept
m42 = called m41 (Names (ListDir (committed 1 t1)))

pub r42 : {job : Job} → Gives job → Reached job 43 m42
unfolding duty_of next_seen told phase_told seen heard winners_of winner_in length_in newest_maps named_in wish fetched container.seen container.next_seen container.after_packet container.same_attempt container.wish_called computed wished_op wished_packet generation_name attempt_name task_name part_name layout.part task_eq to_all is_known incarnation_of on_shelf piece_limit
r42 g = duties (r41 g) (Names (ListDir (committed 1 t1))) refl refl refl refl

abbrev pub m43 : Kept
m43 = called m42 (Names (Exist (part t1)))

pub r43 : {job : Job} → Gives job → Reached job 44 m43
unfolding duty_of next_seen told phase_told seen heard winners_of winner_in length_in newest_maps named_in wish fetched container.seen container.next_seen container.after_packet container.same_attempt container.wish_called computed wished_op wished_packet generation_name attempt_name task_name part_name layout.part task_eq to_all is_known incarnation_of on_shelf piece_limit
r43 g = duties (r42 g) (Names (Exist (part t1))) refl refl refl refl

abbrev pub m44 : Kept
m44 = called m43 (Names (Rename (committed 1 t1 ++ part_name t1 ∷ []) (part t1)))

pub r44 : {job : Job} → Gives job → Reached job 45 m44
unfolding duty_of next_seen told phase_told seen heard winners_of winner_in length_in newest_maps named_in wish fetched container.seen container.next_seen container.after_packet container.same_attempt container.wish_called computed wished_op wished_packet generation_name attempt_name task_name part_name layout.part task_eq to_all is_known incarnation_of on_shelf piece_limit
r44 g = duties (r43 g) (Names (Rename (committed 1 t1 ++ part_name t1 ∷ []) (part t1))) refl refl refl refl

abbrev pub m45 : Kept
m45 = called m44 (Names (Delete temporary))

pub r45 : {job : Job} → Gives job → Reached job 46 m45
unfolding duty_of next_seen told phase_told seen heard winners_of winner_in length_in newest_maps named_in wish fetched container.seen container.next_seen container.after_packet container.same_attempt container.wish_called computed wished_op wished_packet generation_name attempt_name task_name part_name layout.part task_eq to_all is_known incarnation_of on_shelf piece_limit
r45 g = duties (r44 g) (Names (Delete temporary)) refl refl refl refl

abbrev pub k45 : Kept
k45 = record k39 {
  entries = ([], Dir) ∷ (dest, Dir) ∷ (part t1, file) ∷ (staged, Dir) ∷ (commit_started, File [] true) ∷ [];
  seen = record k39.seen { phase = Committing Marking };
}

pub s45 : {job : Job} → Gives job → Reached job 46 k45
unfolding duty_of next_seen told phase_told seen heard winners_of winner_in length_in newest_maps named_in wish fetched container.seen container.next_seen container.after_packet container.same_attempt container.wish_called computed wished_op wished_packet generation_name attempt_name task_name part_name layout.part task_eq to_all is_known incarnation_of on_shelf piece_limit
s45 g = r45 g

abbrev pub m46 : Kept
m46 = called k45 (Names (Create marker true))

pub r46 : {job : Job} → Gives job → Reached job 47 m46
unfolding duty_of next_seen told phase_told seen heard winners_of winner_in length_in newest_maps named_in wish fetched container.seen container.next_seen container.after_packet container.same_attempt container.wish_called computed wished_op wished_packet generation_name attempt_name task_name part_name layout.part task_eq to_all is_known incarnation_of on_shelf piece_limit
r46 g = duties (s45 g) (Names (Create marker true)) refl refl refl refl

abbrev pub m47 : Kept
m47 = called m46 (Names (Create commit_success true))

pub r47 : {job : Job} → Gives job → Reached job 48 m47
unfolding duty_of next_seen told phase_told seen heard winners_of winner_in length_in newest_maps named_in wish fetched container.seen container.next_seen container.after_packet container.same_attempt container.wish_called computed wished_op wished_packet generation_name attempt_name task_name part_name layout.part task_eq to_all is_known incarnation_of on_shelf piece_limit
r47 g = duties (r46 g) (Names (Create commit_success true)) refl refl refl refl

-- What is there then

module _ {job : Job} (g : Gives job) where
  abbrev last : World
  last = run_of cfg (r47 g).events

  marked-last : IsMarked last
  unfolding duty_of next_seen told phase_told seen part_name layout.part
  marked-last = ap is_file (entry-in last.content m47.entries (r47 g).stands.entries marker)

  outcome-last : IsToldOutcome last true
  unfolding duty_of next_seen told phase_told seen to_all task_eq part_name layout.part
  outcome-last = (to_node 0 (Outcome true), subst (λ b. In (to_node 0 (Outcome true)) b) (sym (r47 g).stands.bag) (inr (inr (inr (inr (inr (inr (inr (inr (inr (inr (inr (inr (inr (inl refl)))))))))))))), refl)

  won-last : IsToldWon last t1 a1
  unfolding duty_of next_seen told phase_told seen to_all task_eq part_name layout.part
  won-last = (to_node 0 (Won t1 a1), subst (λ b. In (to_node 0 (Won t1 a1)) b) (sym (r47 g).stands.bag) (inr (inr (inr (inr (inr (inr (inr (inr (inr (inr (inr (inr (inl refl))))))))))))), refl)

  file-last : entry_at last.content (part t1) ≡ Some file
  unfolding duty_of next_seen told phase_told seen part_name layout.part
  file-last = entry-in last.content m47.entries (r47 g).stands.entries (part t1)

  succeeded : HasSucceeded cfg last
  succeeded = record {
    some = omega arith;
    marked = marked-last;
    told = outcome-last;
    complete = marker_means_complete cfg (within cfg) (r47 g).events marked-last;
    first = a1;
    won = told_the_same cfg (within cfg) (r47 g).events t1 a1 won-last;
    told_won = won-last;
    byte = 97;
    bytes = 9 ∷ 49 ∷ 10 ∷ [];
    file = file-last;
  }

  pub a_job_succeeds : Succeeds job cfg
  a_job_succeeds = record { events = (r47 g).events; are_taken = (r47 g).are_taken; few = omega (arith, (r47 g).count); faithful = (r47 g).faithful; succeeded = succeeded }
