-- What stands of a map, and where its output lies: the machine finds it as the master does.
use Rattle.std.proofs.Common.{ℕ, ◌≡◌, refl, sym, ◌∙◌, ap, subst, Bool, true, false, ◌&&◌, ◌||◌, not, List, [], ◌∷◌, Option, Some, None, if◌then◌else◌, is_none, nat_eq, inl, inr}
use Rattle.std.specs.List.{find}
use Rattle.std.proofs.lemmas.Bool.{and_parts, false≢true}
use Rattle.mr_ids.specs.Attempt.{Attempt}
use Rattle.mr_ids.specs.declared.id.TaskId.{TaskId}
use Rattle.mr_grant.specs.Attempts as grant
use Rattle.mr_task.specs.Readings as task
use Rattle.mr_master_model.specs.Readings as read
use Rattle.mr_world_model.specs.Ids.{attempt_eq, is_reduce, of_reduces}
use Rattle.mr_world_model.specs.Packets.{Config}
use Rattle.mr_world_model.specs.Hearing.{Seen, Placed, has, stands}
use Rattle.mr_world_model.specs.Duties.{Master_step, seen, attempts_of}
use Rattle.mr_world_model.specs.Effect as cluster
use Rattle.mr_world_model.specs.Claims.{In}
use Rattle.mr_world_model.specs.Calls.{of_task}
use Rattle.mr_world_model.specs.Made.{AllMade, BelongsTo}
use Rattle.mr_world_model.proofs.Lists.{attempt_eq-refl}
use Rattle.mr_world_model.proofs.Made.{fitted}
use Rattle.mr_world_model.proofs.Standing.{Stood, none-there}
use Rattle.mr_master_refinement.specs.Steps.{setting}
use Rattle.mr_master_refinement.specs.Points.{View, Alike}
use Rattle.mr_master_refinement.specs.Holds.{LaunchesFound}
use Rattle.mr_master_refinement.proofs.Launches.{found-in}
use Rattle.mr_master_refinement.proofs.Lies.{Lie, lies, lies-is, place_as}
use Rattle.mr_master_refinement.proofs.Succeeds.{stood, own, there, stands-once, succeeds}

not-right : (x y : Bool) → (x && not y) ≡ true → y ≡ false
not-right true false e = refl
not-right true true e = absurd (false≢true e)
not-right false y e = absurd (false≢true e)

or-true : (b : Bool) → (b || true) ≡ true
or-true true = refl
or-true false = refl

find-none : (p : Attempt → Bool) (xs : List Attempt) → ((x : Attempt) → p x ≡ false) → find p xs ≡ None
find-none p [] e = refl
find-none p (x ∷ xs) e = (λ i. if e x i then Some x else find-none p xs e i)

-- an entry that has the number
pub standing-one : (ps : List Placed) (n : ℕ) (p : Placed) → stands ps n ≡ Some p → In p ps × (nat_eq p.attempt.task.number n ≡ true)
standing-one [] n p e = cc
standing-one (x ∷ ps) n p e = by (nat_eq x.attempt.task.number n) refl e (standing-one ps n p)
  where
    by : (b : Bool) → nat_eq x.attempt.task.number n ≡ b → (if b then Some x else stands ps n) ≡ Some p → (stands ps n ≡ Some p → In p ps × (nat_eq p.attempt.task.number n ≡ true)) →
        In p (x ∷ ps) × (nat_eq p.attempt.task.number n ≡ true)
    by true q e go = let same : x ≡ p = cc in (inl same, subst (λ (y : Placed). nat_eq y.attempt.task.number n ≡ true) same q)
    by false q e go = let u = go e in (inr u.0, u.1)

in-has : (ps : List Placed) (p : Placed) → In p ps → has (attempts_of ps) p.attempt ≡ true
in-has [] p i = absurd i
in-has (x ∷ ps) p (inl e) = subst (λ (y : Placed). has (attempts_of (x ∷ ps)) y.attempt ≡ true) e (ap (λ b. b || has (attempts_of ps) x.attempt) (attempt_eq-refl x.attempt))
in-has (x ∷ ps) p (inr i) = ap (λ b. attempt_eq p.attempt x.attempt || b) (in-has ps p i) ∙ or-true (attempt_eq p.attempt x.attempt)

-- the one that is recorded
abbrev pub recorded_at : List Attempt → Option Placed → Option Attempt
recorded_at rs None = None
recorded_at rs (Some p) = if has rs p.attempt then Some p.attempt else None

module _ (cfg : Config) (k : ℕ) (h : List Master_step) (made : AllMade cfg k h) where
  abbrev S : Seen
  S = seen cfg k h

  lie-of : (p : Placed) → In p S.standing → Lie cfg k S.launched S.history p
  lie-of p i = (lies cfg k h made).lie p i

  -- what stands is a map's of the job
  pub standing-map : (p : Placed) → In p S.standing → is_reduce p.attempt ≡ false
  standing-map p i = (lie-of p i).0

  pub standing-task : (p : Placed) → In p S.standing → cluster.is_task cfg p.attempt.task ≡ true
  standing-task p i = by (lie-of p i)
    where
      by : Lie cfg k S.launched S.history p → cluster.is_task cfg p.attempt.task ≡ true
      by (is-map, inl u) = u.0.1
      by (is-map, inr u) = let q = found-in S.launched p.attempt u.0 u.1 in (subst (BelongsTo cfg k) q.1 ((fitted cfg k h made).launches u.0 q.0)).1

  -- a machine that finds each launch, and read the same, finds where it lies
  pub standing-place : (m : read.Seen) → LaunchesFound cfg k S m → m.earlier ≡ S.history → (p : Placed) → In p S.standing → read.place_of (setting cfg k) m p.attempt ≡ Some (place_as p)
  standing-place m f e p i = (λ j. read.place_by (f.launch p.attempt j) (read.place_in (e j) p.attempt)) ∙ lies-is cfg k S.launched S.history p (lie-of p i)

  -- the Succeeded attempt of a map is the one that stands, if it is recorded
  module _ (t : TaskId) (map : of_reduces t.kind ≡ false) (of-job : t.job ≡ cfg.job) where
    abbrev R : task.Seen
    R = of_task cfg k h t

    st : Stood t S.standing S.recorded R.accepted R.recorded R.lost
    st = stood cfg k h made t map of-job

    its : (a : Attempt) → task.has_succeeded R a ≡ true → a.task ≡ t
    its a q = own cfg k h made t map of-job a (and_parts (grant.has R.recorded a) (not (grant.has R.lost a)) q).0

    empty : stands S.standing t.number ≡ None → (a : Attempt) → (b : Bool) → task.has_succeeded R a ≡ b → b ≡ false
    empty e a false q = refl
    empty e a true q = absurd (false≢true (sym (none-there S.standing t.number a (ap (λ (u : TaskId). u.number) (its a q)) (ap (λ o. is_none o) e)) ∙ there cfg k h made t map of-job a q))

    pub succeeded-stands : task.succeeded R ≡ recorded_at S.recorded (stands S.standing t.number)
    succeeded-stands = by (stands S.standing t.number) refl
      where
        by : (o : Option Placed) → stands S.standing t.number ≡ o → task.succeeded R ≡ recorded_at S.recorded o
        by None e = find-none (task.has_succeeded R) R.arrived (λ a. empty e a (task.has_succeeded R a) refl)
        by (Some p) e = one p (standing-one S.standing t.number p e)
          where
            one : (p : Placed) → In p S.standing × (nat_eq p.attempt.task.number t.number ≡ true) → task.succeeded R ≡ recorded_at S.recorded (Some p)
            one p u = at (has S.recorded p.attempt) refl
              where
                here : p.attempt.task ≡ t
                here = st.ours p u.0 u.1

                here-too : has (attempts_of S.standing) p.attempt ≡ true
                here-too = in-has S.standing p u.0

                kept : grant.has R.lost p.attempt ≡ false
                kept = not-right (grant.has R.accepted p.attempt) (grant.has R.lost p.attempt) (st.stand p.attempt here ∙ here-too)

                at : (b : Bool) → has S.recorded p.attempt ≡ b → task.succeeded R ≡ (if b then Some p.attempt else None)
                at true q = succeeds cfg k h made t map of-job p.attempt (λ i. (st.recs p.attempt here ∙ q) i && not (kept i))
                at false q = find-none (task.has_succeeded R) R.arrived (λ a. other a (task.has_succeeded R a) refl)
                  where
                    other : (a : Attempt) (b : Bool) → task.has_succeeded R a ≡ b → b ≡ false
                    other a false r = refl
                    other a true r =
                        let same = stands-once t S.standing a p.attempt st.once (its a r) here (there cfg k h made t map of-job a r) here-too in
                        absurd (false≢true (sym q ∙ (ap (has S.recorded) (sym same) ∙ (sym (st.recs a (its a r)) ∙ (and_parts (grant.has R.recorded a) (not (grant.has R.lost a)) r).0))))

    -- of a machine whose task has heard alike
    pub succeeded-as : (m : read.Seen) → Alike R (read.of_task (setting cfg k) m t) → read.succeeded (setting cfg k) m t ≡ recorded_at S.recorded (stands S.standing t.number)
    succeeded-as m e = ap (λ (v : View). find (λ b. grant.has v.recorded b && not (v.lost b)) v.arrived) e ∙ succeeded-stands
