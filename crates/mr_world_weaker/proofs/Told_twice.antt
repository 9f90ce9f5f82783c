-- Without a fence two outcomes are told: the first master has begun to commit the job; the second, which starts while the first lives, tells that it failed; and
-- then the first goes on.
use Rattle.std.proofs.Common.{◌≡◌, refl, sym, ◌∙◌, ap, subst, true, false, List, [], ◌∷◌, ◌++◌, Some, inl, inr}
use Rattle.std.proofs.lemmas.Bool.{false≢true}
use Rattle.mr_paths.specs.Layout as layout
use Rattle.mr_world_model.specs.Ids.{task_eq, dest, part, marker, job_attempt, committed, temporary, commit_started, commit_success, commit_fail, generation_name, attempt_name, task_name, part_name}
use Rattle.mr_world_model.specs.Content.{Op, Create, Delete, Rename, ListDir, Exist, is_file}
use Rattle.mr_world_model.specs.Records.{winner_in, length_in}
use Rattle.mr_world_model.specs.Packets.{Names, Outcome}
use Rattle.mr_world_model.specs.Hearing.{heard, named_in}
use Rattle.mr_world_model.specs.Duties.{duty_of, newest_maps, next_seen, phase_told, seen, told, winners_of}
use Rattle.mr_world_model.specs.World.{World, Event, Start, Duty, Calm, opening_world}
use Rattle.mr_world_model.specs.Sending.{to_all, to_node}
use Rattle.mr_world_model.specs.Claims.{In, IsMarked, IsToldOutcome, Limits}
use Rattle.mr_world_model.proofs.Entries.{entry-in}
use Rattle.mr_world_model.proofs.Small.{free, small, t0}
use Rattle.mr_world_weaker.specs.Lacking.{Kind, weak_happens, weak_run, weak_world_of}
use Rattle.mr_world_weaker.specs.Weaker.{ToldTwice, TheFenceIsNeeded}
use Rattle.mr_world_weaker.proofs.Prefix.{k25, s25}
use Rattle.mr_world_weaker.proofs.Slips.{weak_run-append}
use Rattle.mr_world_weaker.proofs.Two.{Two, Holds, asked_one, asked_two, begin, on-one, on-two, started}

-- events that lead from a world to one that holds so much
record Reached (kd : Kind) (w : World) (m : Two) : Type 0 where
  events : List Event
  holds : Holds (weak_run kd small free w events) m

after : (kd : Kind) {w : World} {m : Two} (r : Reached kd w m) (e : Event) (n : Two) → Holds (weak_happens kd small free (weak_run kd small free w r.events) e) n → Reached kd w n
unfolding weak_run
after kd {w} r e n h = record { events = r.events ++ e ∷ []; holds = subst (λ u. Holds u n) (sym (weak_run-append kd small free w r.events (e ∷ []))) h }

two : (kd : Kind) → kd.fence ≡ false → {w : World} {m : Two} (r : Reached kd w m) (op : Op) → duty_of small 2 m.two m.two.phase ≡ Some (Names op) → Reached kd w (asked_two m op)
two kd l r op q = after kd r (Duty 2 Calm) _ (on-two kd r.holds op q)

one : (kd : Kind) → kd.fence ≡ false → {w : World} {m : Two} (r : Reached kd w m) (op : Op) → duty_of small 1 m.one m.one.phase ≡ Some (Names op) → Reached kd w (asked_one m op)
one kd l r op q = after kd r (Duty 1 Calm) _ (on-one kd l r.holds op q)

-- The second master starts, and finds a commit that was begun: it tells that the job failed

abbrev d0 : Two
d0 = started k25

t0' : (kd : Kind) → kd.fence ≡ false → Reached kd opening_world d0
unfolding weak_run
t0' kd l = record {
  events = s25.events ++ Start 2 0 ∷ [];
  holds = subst (λ w. Holds w d0) (sym (weak_run-append kd small free opening_world s25.events (Start 2 0 ∷ []))) (begin kd s25.events k25 (s25.borne kd) s25.stands);
}

abbrev d1 : Two
d1 = asked_two d0 (Exist commit_success)

t1 : (kd : Kind) → kd.fence ≡ false → Reached kd opening_world d1
unfolding duty_of next_seen told phase_told seen heard winners_of winner_in length_in newest_maps named_in generation_name attempt_name task_name part_name layout.part task_eq to_all
t1 kd l = two kd l (t0' kd l) (Exist commit_success) refl

abbrev d2 : Two
d2 = asked_two d1 (Exist commit_fail)

t2 : (kd : Kind) → kd.fence ≡ false → Reached kd opening_world d2
unfolding duty_of next_seen told phase_told seen heard winners_of winner_in length_in newest_maps named_in generation_name attempt_name task_name part_name layout.part task_eq to_all
t2 kd l = two kd l (t1 kd l) (Exist commit_fail) refl

abbrev d3 : Two
d3 = asked_two d2 (Exist commit_started)

t3 : (kd : Kind) → kd.fence ≡ false → Reached kd opening_world d3
unfolding duty_of next_seen told phase_told seen heard winners_of winner_in length_in newest_maps named_in generation_name attempt_name task_name part_name layout.part task_eq to_all
t3 kd l = two kd l (t2 kd l) (Exist commit_started) refl

-- The first goes on: it publishes the file, makes the marker, and tells that the job succeeded

-- the world in which the failure was told
abbrev failed_world : (kd : Kind) → kd.fence ≡ false → World
failed_world kd l = weak_world_of kd small free (t3 kd l).events

t3' : (kd : Kind) (l : kd.fence ≡ false) → Reached kd (failed_world kd l) d3
unfolding weak_run
t3' kd l = record { events = []; holds = (t3 kd l).holds }

abbrev d4 : Two
d4 = asked_one d3 (ListDir (job_attempt 1))

t4 : (kd : Kind) (l : kd.fence ≡ false) → Reached kd (failed_world kd l) d4
unfolding duty_of next_seen told phase_told seen heard winners_of winner_in length_in newest_maps named_in generation_name attempt_name task_name part_name layout.part task_eq to_all
t4 kd l = one kd l (t3' kd l) (ListDir (job_attempt 1)) refl

abbrev d5 : Two
d5 = asked_one d4 (Exist dest)

t5 : (kd : Kind) (l : kd.fence ≡ false) → Reached kd (failed_world kd l) d5
unfolding duty_of next_seen told phase_told seen heard winners_of winner_in length_in newest_maps named_in generation_name attempt_name task_name part_name layout.part task_eq to_all
t5 kd l = one kd l (t4 kd l) (Exist dest) refl

abbrev d6 : Two
d6 = asked_one d5 (ListDir (committed 1 t0))

t6 : (kd : Kind) (l : kd.fence ≡ false) → Reached kd (failed_world kd l) d6
unfolding duty_of next_seen told phase_told seen heard winners_of winner_in length_in newest_maps named_in generation_name attempt_name task_name part_name layout.part task_eq to_all
t6 kd l = one kd l (t5 kd l) (ListDir (committed 1 t0)) refl

abbrev d7 : Two
d7 = asked_one d6 (Exist (part t0))

t7 : (kd : Kind) (l : kd.fence ≡ false) → Reached kd (failed_world kd l) d7
unfolding duty_of next_seen told phase_told seen heard winners_of winner_in length_in newest_maps named_in generation_name attempt_name task_name part_name layout.part task_eq to_all
t7 kd l = one kd l (t6 kd l) (Exist (part t0)) refl

abbrev d8 : Two
d8 = asked_one d7 (Rename (committed 1 t0 ++ part_name t0 ∷ []) (part t0))

t8 : (kd : Kind) (l : kd.fence ≡ false) → Reached kd (failed_world kd l) d8
unfolding duty_of next_seen told phase_told seen heard winners_of winner_in length_in newest_maps named_in generation_name attempt_name task_name part_name layout.part task_eq to_all
t8 kd l = one kd l (t7 kd l) (Rename (committed 1 t0 ++ part_name t0 ∷ []) (part t0)) refl

abbrev d9 : Two
d9 = asked_one d8 (Delete temporary)

t9 : (kd : Kind) (l : kd.fence ≡ false) → Reached kd (failed_world kd l) d9
unfolding duty_of next_seen told phase_told seen heard winners_of winner_in length_in newest_maps named_in generation_name attempt_name task_name part_name layout.part task_eq to_all
t9 kd l = one kd l (t8 kd l) (Delete temporary) refl

abbrev d10 : Two
d10 = asked_one d9 (Create marker true)

t10 : (kd : Kind) (l : kd.fence ≡ false) → Reached kd (failed_world kd l) d10
unfolding duty_of next_seen told phase_told seen heard winners_of winner_in length_in newest_maps named_in generation_name attempt_name task_name part_name layout.part task_eq to_all
t10 kd l = one kd l (t9 kd l) (Create marker true) refl

abbrev d11 : Two
d11 = asked_one d10 (Create commit_success true)

t11 : (kd : Kind) (l : kd.fence ≡ false) → Reached kd (failed_world kd l) d11
unfolding duty_of next_seen told phase_told seen heard winners_of winner_in length_in newest_maps named_in generation_name attempt_name task_name part_name layout.part task_eq to_all
t11 kd l = one kd l (t10 kd l) (Create commit_success true) refl

-- What is there then

unlimited : (within : Limits) → ((w : World) (e : Event) → within w e ≡ true) → within ≡ free
unlimited within f = λ i w e. f w e i

failed : (kd : Kind) (l : kd.fence ≡ false) → IsToldOutcome (failed_world kd l) false
unfolding duty_of next_seen told phase_told seen heard winners_of winner_in length_in newest_maps named_in generation_name attempt_name task_name part_name layout.part task_eq to_all
failed kd l = (to_node 0 (Outcome false), subst (λ b. In (to_node 0 (Outcome false)) b) (sym (t3 kd l).holds.bag) (inr (inr (inr (inr (inr (inr (inl refl))))))), refl)

unmarked : (kd : Kind) (l : kd.fence ≡ false) → IsMarked (failed_world kd l) → ⊥
unfolding duty_of next_seen told phase_told seen heard winners_of winner_in length_in newest_maps named_in generation_name attempt_name task_name part_name layout.part task_eq to_all
unmarked kd l m = false≢true (sym (ap is_file (entry-in (failed_world kd l).content d3.entries (t3 kd l).holds.entries marker)) ∙ m)

abbrev last : (kd : Kind) → kd.fence ≡ false → World
last kd l = weak_run kd small free (failed_world kd l) (t11 kd l).events

succeeded : (kd : Kind) (l : kd.fence ≡ false) → IsToldOutcome (last kd l) true
unfolding duty_of next_seen told phase_told seen heard winners_of winner_in length_in newest_maps named_in generation_name attempt_name task_name part_name layout.part task_eq to_all
succeeded kd l = (to_node 0 (Outcome true), subst (λ b. In (to_node 0 (Outcome true)) b) (sym (t11 kd l).holds.bag) (inr (inr (inr (inr (inr (inr (inr (inl refl)))))))), refl)

marked : (kd : Kind) (l : kd.fence ≡ false) → IsMarked (last kd l)
unfolding duty_of next_seen told phase_told seen heard winners_of winner_in length_in newest_maps named_in generation_name attempt_name task_name part_name layout.part task_eq to_all
marked kd l = ap is_file (entry-in (last kd l).content d11.entries (t11 kd l).holds.entries marker)

told-twice : (kd : Kind) → kd.fence ≡ false → ToldTwice kd small free
told-twice kd l = record {
  early = (t3 kd l).events;
  failed = failed kd l;
  unmarked = unmarked kd l;
  late = (t11 kd l).events;
  succeeded = subst (λ w. IsToldOutcome w true) (sym both) (succeeded kd l);
  marked = subst IsMarked (sym both) (marked kd l);
}
  where
    both : weak_world_of kd small free ((t3 kd l).events ++ (t11 kd l).events) ≡ last kd l
    both = weak_run-append kd small free opening_world (t3 kd l).events (t11 kd l).events

pub fence-needed : TheFenceIsNeeded
fence-needed kd within l f = (small, subst (λ z. ToldTwice kd small z) (sym (unlimited within f)) (told-twice kd l))
